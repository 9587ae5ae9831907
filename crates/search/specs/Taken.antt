-- How the code takes a legal step over lanes, in place.
--   inserted x at end tag word     an entry more before lane `at`; what stands from there to `end` goes two further
--   carried x at to tag word       the entry at lane `at` goes, as (tag, word), to just before lane `to`; what stands
--                                  between comes two nearer
--   counted, discounted   a lane's number one more, one less
--   row_joined c x r tag word      row r with an entry more at its end
--   row_left c x r at              without its entry at lane `at`
--   row_carried c x r at q tag     the entry at lane `at` of row r goes to the end of line q's queue, with another tag
--   entry_tag, entry_word          the entry that an instruction puts into its thread's buffer
--   awaited_lanes, took_lanes, fetched_lanes, exchanged_lanes, compared_lanes   what an instruction does: it waits; a load;
--                                  the word read goes into the register; an exchange; a compare
--   performed_lanes, issue_lanes   by its operation; an issue
--   moved_lanes, move_lanes         a move: by the entry's tag; of thread t, position i
--   settled_lanes, persist_lanes    a persist: what one entry does; of line q
--   step_lanes c x k               a step by its code
--   lanes_machine c                the machine over lanes
--   misses_lane, reaches_lanes     a location holds another word than is wanted; none does, and each thread has issued
--                                  as many as it must have
--   padded x                       lanes as the code's array holds them: zeros behind
--   CodeHere c x t at              at `at` of the listing stand numbers that an instruction of thread t can have, and
--                                  there is room for an entry
--   Takes c x k                    what the code asks of a step: an issue of an instruction that is left, with room for
--                                  an entry; a move of an entry that is there; a persist of a queue that has one
-- Assumes nothing.
use Rattle.std.specs.Prelude.{ℕ, ◌+◌, ◌*◌, ◌-◌, ◌<◌, ◌≤◌, ◌≡◌, ◌⊎◌, Bool, false, not, List, [], ◌∷◌, ◌++◌, length, get_or, set, replicate, eqb, leb, ltb}
use Rattle.std.proofs.lemmas.List.Edits.{sets}
use Rattle.cases.specs.declared.case.Step.{Step}
use Rattle.cases.specs.Choice.{pick, both}
use Rattle.cases.specs.Operations.{store_word, store_register, load, exchange, flush, flush_opt, mfence, compare}
use Rattle.cases.specs.Operations.{issue, move, persist}
use Rattle.cases.specs.Sizes.{most_registers}
use Rattle.machine.specs.View.{part, mark_of}
use Rattle.machine.specs.Fit.{any_from}
use Rattle.search.specs.Sizes.{most_lanes, all_listing, flush_tag, flush_opt_tag, sfence_tag}
use Rattle.search.specs.Listing.{threads_in, lines_in, locations_in, count_in, line_in, code_at}
use Rattle.search.specs.Rows.{queue_row, row_len_at, word_at, register_at, row_start, pool_end}
use Rattle.search.specs.Rows.{row_len, RoomForOne, queued_lane, loaded_lane}
use Rattle.search.specs.Barred.{legal_lanes}
use Rattle.search.specs.Walk.{Machine}
use Rattle.search.specs.Question.{misses, lacks_at}

unfoldable pub padded : List ℕ → List ℕ
padded x = x ++ replicate (most_lanes - length x) 0

unfoldable pub inserted : List ℕ → ℕ → ℕ → ℕ → ℕ → List ℕ
inserted x at end tag word = sets x at (tag ∷ word ∷ part at (end - at) x)

unfoldable pub carried : List ℕ → ℕ → ℕ → ℕ → ℕ → List ℕ
carried x at to tag word = sets x at (part (at + 2) (to - (at + 2)) x ++ (tag ∷ word ∷ []))

unfoldable pub counted : List ℕ → ℕ → List ℕ
counted x at = set x at (get_or x at 0 + 1)

unfoldable pub discounted : List ℕ → ℕ → List ℕ
discounted x at = set x at (get_or x at 0 - 1)

unfoldable pub row_joined : List ℕ → List ℕ → ℕ → ℕ → ℕ → List ℕ
row_joined c x r tag word =
    counted (inserted x (row_start c x (r + 1)) (pool_end c x) tag word) (row_len_at c r)

unfoldable pub row_left : List ℕ → List ℕ → ℕ → ℕ → List ℕ
row_left c x r at = discounted (carried x at (pool_end c x) 0 0) (row_len_at c r)

unfoldable pub row_carried : List ℕ → List ℕ → ℕ → ℕ → ℕ → ℕ → List ℕ
row_carried c x r at q tag =
    counted
    (discounted (carried x at (row_start c x (queue_row c q + 1)) tag (get_or x (at + 1) 0)) (row_len_at c r))
    (row_len_at c (queue_row c q))

-- Issue. An instruction stands at `at` of the listing: its operation, then its location, register and word
unfoldable pub entry_tag : ℕ → ℕ → ℕ
entry_tag op l =
    pick (eqb op store_word) l
    (pick (eqb op store_register) l
    (pick (eqb op flush) (flush_tag + l)
    (pick (eqb op flush_opt) (flush_opt_tag + l)
    sfence_tag)))

unfoldable pub entry_word : ℕ → ℕ → ℕ → ℕ
entry_word op word register = pick (eqb op store_word) word (pick (eqb op store_register) register 0)

unfoldable pub awaited_lanes : List ℕ → List ℕ → ℕ → ℕ → List ℕ
awaited_lanes c x t at =
    row_joined c x t (entry_tag (get_or c at 0) (get_or c (at + 1) 0))
    (entry_word (get_or c at 0) (get_or c (at + 3) 0) (get_or x (register_at c t (get_or c (at + 2) 0)) 0))

unfoldable pub took_lanes : List ℕ → List ℕ → ℕ → ℕ → List ℕ
took_lanes c x t at =
    set x (register_at c t (get_or c (at + 2) 0)) (loaded_lane c x t (get_or c (at + 1) 0))

unfoldable pub fetched_lanes : List ℕ → List ℕ → ℕ → ℕ → List ℕ
fetched_lanes c x t at =
    set x (register_at c t (get_or c (at + 2) 0)) (queued_lane c x (get_or c (at + 1) 0))

unfoldable pub exchanged_lanes : List ℕ → List ℕ → ℕ → ℕ → List ℕ
exchanged_lanes c x t at =
    row_joined c (fetched_lanes c x t at) (queue_row c (line_in c (get_or c (at + 1) 0))) (get_or c (at + 1) 0)
    (get_or c (at + 3) 0)

unfoldable pub compared_lanes : List ℕ → List ℕ → ℕ → ℕ → List ℕ
compared_lanes c x t at =
    pick (eqb (queued_lane c x (get_or c (at + 1) 0)) (get_or x (register_at c t (get_or c (at + 2) 0)) 0))
    (exchanged_lanes c x t at) (fetched_lanes c x t at)

unfoldable pub performed_lanes : List ℕ → List ℕ → ℕ → ℕ → List ℕ
performed_lanes c x t at =
    pick (eqb (get_or c at 0) load) (took_lanes c x t at)
    (pick (eqb (get_or c at 0) exchange) (exchanged_lanes c x t at)
    (pick (eqb (get_or c at 0) compare) (compared_lanes c x t at)
    (pick (eqb (get_or c at 0) mfence) x
    (awaited_lanes c x t at))))

unfoldable pub issue_lanes : List ℕ → List ℕ → ℕ → List ℕ
issue_lanes c x t = performed_lanes c (counted x t) t (code_at t (get_or x t 0))

-- Move: by the tag of the entry at lane `at`
unfoldable pub moved_lanes : List ℕ → List ℕ → ℕ → ℕ → ℕ → List ℕ
moved_lanes c x t at g =
    pick (leb sfence_tag g) (row_left c x t at)
    (pick (leb flush_opt_tag g) (row_carried c x t at (line_in c (g - flush_opt_tag)) (mark_of t))
    (pick (leb flush_tag g) (row_left c x t at)
    (row_carried c x t at (line_in c g) g)))

unfoldable pub move_lanes : List ℕ → List ℕ → ℕ → ℕ → List ℕ
move_lanes c x t i = moved_lanes c x t (row_start c x t + 2 * i) (get_or x (row_start c x t + 2 * i) 0)

-- Persist: a mark that is a location is a write's
unfoldable pub settled_lanes : List ℕ → List ℕ → ℕ → ℕ → List ℕ
settled_lanes c x g w = pick (ltb g (locations_in c)) (set x (word_at c g) w) x

unfoldable pub persist_lanes : List ℕ → List ℕ → ℕ → List ℕ
persist_lanes c x q =
    settled_lanes c (row_left c x (queue_row c q) (row_start c x (queue_row c q)))
    (get_or x (row_start c x (queue_row c q)) 0) (get_or x (row_start c x (queue_row c q) + 1) 0)

unfoldable pub step_lanes : List ℕ → List ℕ → Step → List ℕ
step_lanes c x k =
    pick (eqb k.code issue) (issue_lanes c x k.thread.0)
    (pick (eqb k.code move) (move_lanes c x k.thread.0 k.position)
    (persist_lanes c x k.location.0))

abbrev pub lanes_machine : List ℕ → Machine (List ℕ) Step
lanes_machine c = record { nexts = legal_lanes c; after = step_lanes c }

unfoldable pub misses_lane : List ℕ → List Bool → List ℕ → List ℕ → ℕ → Bool
misses_lane c wanted want x l = misses (get_or wanted l false) (get_or want l 0) (get_or x (word_at c l) 0)

unfoldable pub reaches_lanes : List ℕ → List Bool → List ℕ → List ℕ → List ℕ → Bool
reaches_lanes c wanted want passed x =
    both (not (any_from 0 (locations_in c) (misses_lane c wanted want x)))
    (not (any_from 0 (threads_in c) (lacks_at passed x)))

pub record CodeHere (c x : List ℕ) (t at : ℕ) : Type 0 where
  pub roomy : RoomForOne c x
  pub low : t < threads_in c
  pub within : at + 4 ≤ all_listing
  pub low_location : get_or c (at + 1) 0 < locations_in c
  pub low_register : get_or c (at + 2) 0 < most_registers

unfoldable pub Takes : List ℕ → List ℕ → Step → Type 0
Takes c x k =
    ((k.code ≡ issue) × (k.thread.0 < threads_in c) × (get_or x k.thread.0 0 < count_in c k.thread.0)
    × RoomForOne c x)
    ⊎ ((k.code ≡ move) × (k.thread.0 < threads_in c) × (k.position < row_len c x k.thread.0))
    ⊎ ((k.code ≡ persist) × (k.location.0 < lines_in c) × (0 < row_len c x (queue_row c k.location.0)))
