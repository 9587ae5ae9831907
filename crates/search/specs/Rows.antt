-- How the code reads lanes: where each thing stands, and what a look finds. A buffer's entries and a queue's are a
-- row each; the rows of the threads' buffers come first, then those of the lines' queues.
--   rows_in c         how many rows
--   queue_row c q     the row of line q's queue; that of thread t's buffer is t
--   row_len_at, word_at, register_at   where a row's length, a location's word, a register of a thread stand; how many
--                     thread t has issued stands at t
--   pool_at c         where the first row starts
--   row_len c x r     how many entries row r has
--   row_start c x r   where it starts; pool_end c x: where the last one ends
--   FewEntries c x    all rows together have no more entries than there is room for; RoomForOne c x: and one more
--   newest_lane x base tag other n   of n entries from base on, the word of the newest with that tag, else `other`
--   queued_lane, loaded_lane   what stands for a location where no buffer is looked at; what a load takes
--   marked_among, marked_from, marked_lanes   a queue holds a marker of the thread: n entries, k rows, all queues
-- Assumes nothing.
use Rattle.std.specs.Prelude.{ℕ, zero, suc, ◌+◌, ◌*◌, ◌<◌, ◌≤◌, Bool, true, false, List, get_or, eqb}
use Rattle.cases.specs.Choice.{pick}
use Rattle.cases.specs.Sizes.{most_registers, all_code}
use Rattle.machine.specs.View.{mark_of}
use Rattle.machine.specs.Fit.{sum_to}
use Rattle.search.specs.Listing.{threads_in, lines_in, locations_in, line_in}

abbrev pub rows_in : List ℕ → ℕ
rows_in c = threads_in c + lines_in c

abbrev pub queue_row : List ℕ → ℕ → ℕ
queue_row c q = threads_in c + q

abbrev pub row_len_at : List ℕ → ℕ → ℕ
row_len_at c r = threads_in c + r

abbrev pub word_at : List ℕ → ℕ → ℕ
word_at c l = threads_in c + rows_in c + l

abbrev pub register_at : List ℕ → ℕ → ℕ → ℕ
register_at c t r = threads_in c + rows_in c + locations_in c + (t * most_registers + r)

abbrev pub pool_at : List ℕ → ℕ
pool_at c = threads_in c + rows_in c + locations_in c + threads_in c * most_registers

unfoldable pub row_len : List ℕ → List ℕ → ℕ → ℕ
row_len c x r = get_or x (row_len_at c r) 0

abbrev pub row_start : List ℕ → List ℕ → ℕ → ℕ
row_start c x r = pool_at c + 2 * sum_to r (row_len c x)

abbrev pub pool_end : List ℕ → List ℕ → ℕ
pool_end c x = row_start c x (rows_in c)

abbrev pub FewEntries : List ℕ → List ℕ → Type 0
FewEntries c x = sum_to (rows_in c) (row_len c x) ≤ all_code

abbrev pub RoomForOne : List ℕ → List ℕ → Type 0
RoomForOne c x = sum_to (rows_in c) (row_len c x) < all_code

unfoldable pub newest_lane : List ℕ → ℕ → ℕ → ℕ → ℕ → ℕ
newest_lane x base tag other zero = other
newest_lane x base tag other (suc n) =
    pick (eqb (get_or x (base + 2 * n) 0) tag) (get_or x (base + 2 * n + 1) 0) (newest_lane x base tag other n)

unfoldable pub queued_lane : List ℕ → List ℕ → ℕ → ℕ
queued_lane c x l =
    newest_lane x (row_start c x (queue_row c (line_in c l))) l (get_or x (word_at c l) 0)
    (row_len c x (queue_row c (line_in c l)))

unfoldable pub loaded_lane : List ℕ → List ℕ → ℕ → ℕ → ℕ
loaded_lane c x t l = newest_lane x (row_start c x t) l (queued_lane c x l) (row_len c x t)

unfoldable pub marked_among : List ℕ → ℕ → ℕ → ℕ → Bool → Bool
marked_among x mark at zero after = after
marked_among x mark at (suc n) after = pick (eqb (get_or x at 0) mark) true (marked_among x mark (at + 2) n after)

unfoldable pub marked_from : List ℕ → List ℕ → ℕ → ℕ → ℕ → ℕ → Bool
marked_from c x mark at r zero = false
marked_from c x mark at r (suc k) =
    marked_among x mark at (row_len c x r) (marked_from c x mark (at + 2 * row_len c x r) (suc r) k)

unfoldable pub marked_lanes : List ℕ → List ℕ → ℕ → Bool
marked_lanes c x t = marked_from c x (mark_of t) (row_start c x (threads_in c)) (threads_in c) (lines_in c)
