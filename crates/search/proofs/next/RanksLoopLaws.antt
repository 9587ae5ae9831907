-- Laws of the loops that offer steps. One record for every loop: what it has offered so far, made where it
-- begins (start), with a law for each turn that goes on (next) and one for the end. Assumes nothing.
use Prim.Native.Nat.{ℕ, suc, ◌+◌, ◌-◌, ◌≤◌, ◌<◌}
use mathlib.Core.Path.{◌≡◌, refl, sym, ◌∙◌}
use mathlib.Core.Bool.{Bool, true, false}
use mathlib.Core.List.{List}
use native.Mathlib.Omega.{arith}
use native.Mathlib.Numerals.{add-one}
use lib.ListN.{set, replicate}
use Rattle.cases.specs.declared.case.Step.{Step}
use Rattle.cases.specs.Choice.{pick}
use Rattle.machine.specs.Sizes.{most_candidates}
use Rattle.machine.specs.Fit.{sum_to}
use Rattle.machine.specs.Next.{issue_step, move_step, persist_step, rank_of}
use Rattle.search.specs.declared.next.Ranks.{Ranks}
use Rattle.search.specs.Listing.{threads_in, lines_in, ListingFits}
use Rattle.search.specs.Rows.{rows_in, row_len, row_start, FewEntries}
use Rattle.search.specs.Barred.{issue_barred, entry_barred, move_barred, persist_barred, next_with}
use Rattle.search.specs.Barred.{pushed, offered, offered_from, offered_moves, next_lanes}
use Rattle.search.proofs.lanes.GeneralLaws.{sum_front}
use Rattle.machine.proofs.lists.AnyLaws.{any_here, any_next, any_end}
use Rattle.search.proofs.rows.RowLoopLaws.{row_room, row_next}

-- offered: the step is barred; it is not; the list is longer by one at most
module _ (barred : Bool) (k : Step) (count : ℕ) (ranks : List ℕ) where
  pub offered_none : barred ≡ true → next_with count ranks ≡ offered barred k (next_with count ranks)
  unfolding offered pick
  offered_none e = rw e

  pub offered_some : (rank : ℕ) → barred ≡ false → rank ≡ rank_of k
      → next_with (count + 1) (set ranks count rank) ≡ offered barred k (next_with count ranks)
  unfolding offered pushed pick
  offered_some rank e d = rw (e, d)

count_offered : (barred : Bool) (k : Step) (n : Ranks) → (offered barred k n).count ≤ n.count + 1
unfolding offered pushed pick
count_offered true k n = omega arith
count_offered false k n = omega arith

-- move_barred: an entry of the thread's buffer, where its row starts
pub move_made : (c x : List ℕ) (t base i : ℕ) (b : Bool) → base ≡ row_start c x t → b ≡ entry_barred c x t base i
    → b ≡ move_barred c x t i
unfolding move_barred
move_made c x t base i b e f = f ∙ rw e

-- Of most turns i are done: those left, from the list so far, give what all give from the list at the start,
-- which has grown by no more than so many.
pub record TurnsSoFar (turns : ℕ → ℕ → Ranks → Ranks) (grown : ℕ → ℕ) (most i : ℕ) (n start : Ranks)
    : Type 0 where
  pub far : i ≤ most
  pub few : n.count ≤ start.count + grown i
  pub rest : turns i (most - i) n ≡ turns 0 most start

turns_start : (turns : ℕ → ℕ → Ranks → Ranks) (grown : ℕ → ℕ) (most : ℕ) (start : Ranks)
    → TurnsSoFar turns grown most 0 start start
turns_start turns grown most start =
    let e : most - 0 ≡ most = omega arith in
    record { far = omega arith; few = omega arith; rest = rw e }

module _ {turns : ℕ → ℕ → Ranks → Ranks} {grown : ℕ → ℕ} {most i : ℕ} {n start : Ranks}
    (o : TurnsSoFar turns grown most i n start) where
  turns_next : i < most → (next : Ranks) → next.count ≤ start.count + grown (i + 1)
      → ((m : ℕ) → turns i (suc m) n ≡ turns (suc i) m next)
      → TurnsSoFar turns grown most (i + 1) next start
  turns_next h next k e =
      let j : most - i ≡ suc (most - suc i) = omega arith in
      record { far = omega arith; few = k; rest = rw add-one (sym (e (most - suc i)) ∙ (rw j at o.rest)) }

  turns_end : most ≤ i → (turns i 0 n ≡ n) → (n ≡ turns 0 most start) × (n.count ≤ start.count + grown most)
  turns_end h e =
      let j : i ≡ most = let w = o.far in omega arith in
      let z : most - i ≡ 0 = omega arith in
      (sym e ∙ (rw z at o.rest), rw j at o.few)

-- a step a turn: issues by thread, a thread's moves by position, persists by queue
abbrev itself : ℕ → ℕ
itself i = i

pub record OfferedSoFar (barred : ℕ → Bool) (step : ℕ → Step) (most i : ℕ) (n start : Ranks) : Type 0 where
  pub turns : TurnsSoFar (offered_from barred step) itself most i n start

pub offered_start : (barred : ℕ → Bool) (step : ℕ → Step) (most : ℕ) (start : Ranks)
    → OfferedSoFar barred step most 0 start start
offered_start barred step most start = record { turns = turns_start _ _ most start }

module _ {barred : ℕ → Bool} {step : ℕ → Step} {most i : ℕ} {n start : Ranks}
    (o : OfferedSoFar barred step most i n start) where
  -- there is room for one step more
  pub offered_low : i < most → start.count + most ≤ most_candidates → n.count < most_candidates
  offered_low h k = let w = o.turns.few in omega arith

  pub offered_next : i < most → (next : Ranks) (b : Bool) (k : Step) → next ≡ offered b k n → k ≡ step i
      → b ≡ barred i → OfferedSoFar barred step most (i + 1) next start
  unfolding offered_from
  offered_next h next b k f s e =
      let more : next.count ≤ n.count + 1 = rw f (count_offered b k n) in
      let w = o.turns.few in
      record { turns = turns_next o.turns h next (omega arith) (λ m. rw (f, s, e)) }

  pub offered_end : most ≤ i
      → (n ≡ offered_from barred step 0 most start) × (n.count ≤ start.count + most)
  unfolding offered_from
  offered_end h = turns_end o.turns h refl

-- a thread's moves a turn
abbrev moves_to : List ℕ → List ℕ → ℕ → ℕ
moves_to c x t = sum_to t (row_len c x)

pub record MovesSoFar (c x : List ℕ) (most t : ℕ) (n start : Ranks) : Type 0 where
  pub turns : TurnsSoFar (offered_moves c x) (moves_to c x) most t n start

pub moves_start : (c x : List ℕ) (most : ℕ) (start : Ranks) → MovesSoFar c x most 0 start start
moves_start c x most start = record { turns = turns_start _ _ most start }

module _ {c x : List ℕ} {most t : ℕ} {n start : Ranks} (o : MovesSoFar c x most t n start) where
  -- there is room for a thread's moves
  pub moves_room : t < most → start.count + sum_to most (row_len c x) ≤ most_candidates
      → n.count + row_len c x t ≤ most_candidates
  unfolding sum_to
  moves_room h k =
      let w = o.turns.few in
      let e = sum_front (row_len c x) (suc t) most h in
      omega arith

  pub moves_next : t < most → (next : Ranks)
      → (next ≡ offered_from (move_barred c x t) (move_step t) 0 (row_len c x t) n)
      × (next.count ≤ n.count + row_len c x t)
      → MovesSoFar c x most (t + 1) next start
  unfolding offered_moves sum_to
  moves_next h next e =
      let w = o.turns.few in
      let k = e.1 in
      let f = e.0 in
      record { turns = turns_next o.turns h next (rw add-one (omega arith)) (λ m. rw f) }

  pub moves_end : most ≤ t
      → (n ≡ offered_moves c x 0 most start) × (n.count ≤ start.count + sum_to most (row_len c x))
  unfolding offered_moves
  moves_end h = turns_end o.turns h refl

-- next_lanes: before each of the last two loops there is room for the steps that it offers
module _ (c x : List ℕ) (g : ListingFits c) (fit : FewEntries c x) (issues : ℕ)
    (a : issues ≤ 0 + threads_in c) where
  pub moves_fit : issues + sum_to (threads_in c) (row_len c x) ≤ most_candidates
  moves_fit =
      let e = sum_front (row_len c x) (threads_in c) (rows_in c) (omega arith) in
      omega arith

  pub persists_fit : (moves : ℕ) → moves ≤ issues + sum_to (threads_in c) (row_len c x)
      → moves + lines_in c ≤ most_candidates
  persists_fit moves b =
      let e = sum_front (row_len c x) (threads_in c) (rows_in c) (omega arith) in
      omega arith

-- issues, then moves, then persists, offered to the empty list
pub next_made : (c x : List ℕ) (issues moves all : Ranks)
    → issues ≡ offered_from (issue_barred c x) issue_step 0 (threads_in c) (next_with 0 (replicate most_candidates 0))
    → moves ≡ offered_moves c x 0 (threads_in c) issues
    → all ≡ offered_from (persist_barred c x) persist_step 0 (lines_in c) moves
    → all ≡ next_lanes c x
unfolding next_lanes
next_made c x issues moves all d e f = rw (f, e, d)

-- what `next_steps` needs, and the loops of this room
pub ruleset steps = (moves_fit, persists_fit, next_made)

pub ruleset bars = (any_here, any_next, any_end)

pub ruleset offers = (offered_low, offered_end)

pub ruleset moving = (row_room, row_next, moves_start, moves_room, moves_next, moves_end)
