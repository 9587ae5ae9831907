-- The run in which a thread comes last (specs/Carried).
-- Quiet, Through, Behind: what an issue leaves goes through: behind, here, fit, buffers, queues, others
pub mod ThroughLaws
-- carries, Carries: an instruction, and all of a thread's
pub mod CarryLaws
-- others, Turn: the other threads, one after the other
pub mod LastRunLaws
-- any_thread: its last write is left
pub mod AnyThreadLaws
