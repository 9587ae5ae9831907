-- The state as lists (specs/View).
-- slots: words and marks side by side; their length and drop
pub mod SlotLaws
-- queue, queue_len: a queue that is put, its words and marks
pub mod QueueLaws
-- buffer, buffer_len: a buffer that is put
pub mod BufferLaws
-- issued: an issued count that is put
pub mod IssuedLaws
-- sized: the arrays are as long as they were, whatever is put
pub mod SizedLaws
-- line_of, lines_of: line_there and its like, few_lines
pub mod LineOfLaws
