-- What enters a line's queue, and what of it persists (specs/Entered).
-- entries, writes: of arrivals, one behind another; joined: of any lists
pub mod ArrivalLaws
-- Queues, run_queued, count: a line's queue is what entered it without its first ones
pub mod QueuedLaws
-- Keeps, run_ordered, waits, store_to: a thread's writes enter in the order in which they were issued
pub mod OrderedLaws
-- in-order: both, from the start on
pub mod InOrderLaws
