-- What the code of src/change.rt and its callers write.
-- enqueue, dequeue, await, take-out: what is written is the state with an entry more or less
pub mod ChangeLaws
