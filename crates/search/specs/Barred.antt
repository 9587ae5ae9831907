-- How the code lists a state's legal next steps over its lanes, in 01's order.
--   bars_tag c q g       an entry with the tag g keeps a flush-opt of line q behind it
--   bars_at c q x base i   so does entry i of those from lane `base` on
--   operation_barred, issue_barred   an issue breaks a rule: by its operation; of thread t
--   head_barred, pass_barred, entry_barred, move_barred   a move does: of the first entry, of one behind it, of either,
--                        the row starting at a given lane; of thread t
--   persist_barred       a persist does
--   free_from barred step i n   of the n steps from `step i` on those that are not barred
--   free_moves c x t n   the moves of n threads from t on that are not barred
--   legal_lanes c x      the legal next steps
--   step_at r            the step of a rank
--   next_with, pushed    the first so many of an array of ranks; the same with a step's rank behind them
--   offered, offered_from, offered_moves   the same where it is not barred; for each of n steps; for the moves
--   next_lanes c x       the array of ranks of the legal next steps, as the code makes it
-- Assumes nothing.
use Rattle.std.specs.Prelude.{ℕ, zero, suc, ◌+◌, ◌*◌, ◌-◌, ◌/◌, ◌%◌, Bool, true, false, not, List, [], ◌∷◌, ◌++◌, get_or, set, replicate, eqb, leb, ltb}
use Rattle.cases.specs.declared.case.Step.{Step}
use Rattle.cases.specs.Choice.{pick, either}
use Rattle.cases.specs.Sizes.{most_instructions}
use Rattle.machine.specs.Sizes.{most_candidates, kind_ranks}
use Rattle.machine.specs.Fit.{any_from}
use Rattle.machine.specs.Rules.{is_barrier}
use Rattle.machine.specs.Next.{issue_step, move_step, persist_step, rank_of}
use Rattle.search.specs.declared.next.Ranks.{Ranks}
use Rattle.search.specs.Sizes.{flush_tag, flush_opt_tag, sfence_tag}
use Rattle.search.specs.Listing.{threads_in, lines_in, count_in, line_in, code_at}
use Rattle.search.specs.Rows.{queue_row, row_len, row_start, marked_lanes}

unfoldable pub bars_tag : List ℕ → ℕ → ℕ → Bool
bars_tag c q g =
    pick (leb sfence_tag g) true
    (pick (leb flush_opt_tag g) false
    (pick (leb flush_tag g) (eqb (line_in c (g - flush_tag)) q)
    (eqb (line_in c g) q)))

unfoldable pub bars_at : List ℕ → ℕ → List ℕ → ℕ → ℕ → Bool
bars_at c q x base i = bars_tag c q (get_or x (base + 2 * i) 0)

unfoldable pub operation_barred : List ℕ → List ℕ → ℕ → ℕ → Bool
operation_barred c x t op =
    pick (is_barrier op) (either (not (eqb (row_len c x t) 0)) (marked_lanes c x t)) false

unfoldable pub issue_barred : List ℕ → List ℕ → ℕ → Bool
issue_barred c x t =
    either (leb (count_in c t) (get_or x t 0)) (operation_barred c x t (get_or c (code_at t (get_or x t 0)) 0))

-- by its tag: an entry at the head of thread t's buffer; one at position i behind it, the buffer's row starting at
-- base
unfoldable pub head_barred : List ℕ → List ℕ → ℕ → ℕ → Bool
head_barred c x t g =
    pick (leb sfence_tag g) (marked_lanes c x t)
    (pick (leb flush_opt_tag g) false
    (pick (leb flush_tag g) (not (eqb (row_len c x (queue_row c (line_in c (g - flush_tag)))) 0))
    false))

unfoldable pub pass_barred : List ℕ → List ℕ → ℕ → ℕ → ℕ → Bool
pass_barred c x base i g =
    pick (leb sfence_tag g) true
    (pick (leb flush_opt_tag g) (any_from 0 i (bars_at c (line_in c (g - flush_opt_tag)) x base))
    true)

unfoldable pub entry_barred : List ℕ → List ℕ → ℕ → ℕ → ℕ → Bool
entry_barred c x t base i =
    pick (eqb i 0) (head_barred c x t (get_or x (base + 2 * i) 0)) (pass_barred c x base i (get_or x (base + 2 * i) 0))

unfoldable pub move_barred : List ℕ → List ℕ → ℕ → ℕ → Bool
move_barred c x t i = entry_barred c x t (row_start c x t) i

unfoldable pub persist_barred : List ℕ → List ℕ → ℕ → Bool
persist_barred c x q = eqb (row_len c x (queue_row c q)) 0

unfoldable pub free_from : (ℕ → Bool) → (ℕ → Step) → ℕ → ℕ → List Step
free_from barred step i zero = []
free_from barred step i (suc n) =
    pick (barred i) (free_from barred step (suc i) n) (step i ∷ free_from barred step (suc i) n)

unfoldable pub free_moves : List ℕ → List ℕ → ℕ → ℕ → List Step
free_moves c x t zero = []
free_moves c x t (suc n) = free_from (move_barred c x t) (move_step t) 0 (row_len c x t) ++ free_moves c x (suc t) n

unfoldable pub legal_lanes : List ℕ → List ℕ → List Step
legal_lanes c x =
    free_from (issue_barred c x) issue_step 0 (threads_in c)
    ++ free_moves c x 0 (threads_in c)
    ++ free_from (persist_barred c x) persist_step 0 (lines_in c)

-- the step of a rank
unfoldable pub step_at : ℕ → Step
step_at r =
    pick (ltb r kind_ranks) (issue_step (r / most_instructions))
    (pick (ltb r (2 * kind_ranks))
    (move_step ((r - kind_ranks) / most_instructions) ((r - kind_ranks) % most_instructions))
    (persist_step (r - 2 * kind_ranks)))

abbrev pub next_with : ℕ → List ℕ → Ranks
next_with count ranks = record { count = count; ranks = ranks }

unfoldable pub pushed : Step → Ranks → Ranks
pushed k n = record { count = n.count + 1; ranks = set n.ranks n.count (rank_of k) }

unfoldable pub offered : Bool → Step → Ranks → Ranks
offered barred k n = pick barred n (pushed k n)

unfoldable pub offered_from : (ℕ → Bool) → (ℕ → Step) → ℕ → ℕ → Ranks → Ranks
offered_from barred step i zero n = n
offered_from barred step i (suc m) n = offered_from barred step (suc i) m (offered (barred i) (step i) n)

unfoldable pub offered_moves : List ℕ → List ℕ → ℕ → ℕ → Ranks → Ranks
offered_moves c x t zero n = n
offered_moves c x t (suc k) n =
    offered_moves c x (suc t) k (offered_from (move_barred c x t) (move_step t) 0 (row_len c x t) n)

unfoldable pub next_lanes : List ℕ → List ℕ → Ranks
next_lanes c x =
    offered_from (persist_barred c x) persist_step 0 (lines_in c)
    (offered_moves c x 0 (threads_in c)
    (offered_from (issue_barred c x) issue_step 0 (threads_in c)
    (next_with 0 (replicate most_candidates 0))))
