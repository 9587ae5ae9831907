-- States with equal lanes have the same work left; and of the lanes as the code holds them those in use are the
-- state's. Assumes nothing.
use Prim.Native.Nat.{ℕ, ◌-◌, ◌≤◌, ◌<◌}
use mathlib.Core.Path.{◌≡◌, refl, sym, ap, ◌∙◌}
use mathlib.Core.Logic.{⊎_elim}
use mathlib.Core.List.{List, [], ◌∷◌}
use native.Mathlib.Omega.{arith}
use native.Mathlib.Nat.{eq-zero-or-pos}
use lib.ListN.{length, replicate}
use lib.Seq.{take_at}
use Rattle.cases.specs.declared.case.Program.{Program}
use Rattle.cases.specs.Sizes.{most_threads, most_locations}
use Rattle.cases.specs.Checks.{lines_of, count_at}
use Rattle.machine.specs.declared.cells.State.{State}
use Rattle.machine.specs.View.{queue_len, buffer, issued_of}
use Rattle.machine.specs.Fit.{unissued, Fits}
use Rattle.machine.specs.Work.{thread_work, unissued_code, work}
use Rattle.machine.proofs.lists.PartLaws.{lt_or_ge}
use Rattle.machine.proofs.lists.SumLaws.{sum_same}
use Rattle.machine.proofs.Promises.{buffer_long, queue_long}
use Rattle.search.specs.Sizes.{most_lanes}
use Rattle.search.specs.Lanes.{lanes_of, Alike}
use Rattle.search.specs.Listing.{listing_of}
use Rattle.search.specs.Rows.{rows_in, pool_end}
use Rattle.search.specs.Taken.{padded}
use Rattle.search.specs.Recall.{key_lanes}
use Rattle.search.proofs.lanes.SeenLaws.{lay}
use Rattle.search.proofs.lanes.LayLaws.{see_sum, lay_length}
use Rattle.search.proofs.lanes.StateLaws.{seen_of, lay_of, even_of}
use Rattle.search.proofs.lanes.LookLanesLaws.{laid_of}
use Rattle.search.proofs.lanes.AlikeLaws.{alike_exactly}

-- a list of none is the empty one
length_none : {A : Type 0} (xs : List A) → length xs ≡ 0 → xs ≡ []
length_none [] h = refl
length_none (x ∷ xs) h = absurd (omega arith)

-- A state that fits: behind the program's threads nothing is issued and nothing waits
module _ (p : Program) (s : State) (fit : Fits p s) (t : ℕ) (low : t < most_threads) (far : p.threads ≤ t) where
  no_count : count_at p t ≡ 0
  no_count =
      ⊎_elim (λ e. e) (λ some. let there = (fit.program.instructions t 0 some).0 in absurd (omega arith))
      (eq-zero-or-pos (count_at p t))

  no_issued : issued_of s t ≡ 0
  no_issued = let few = fit.few_issued t low in let none = no_count in omega arith

  no_waiting : buffer s t ≡ []
  no_waiting = length_none (buffer s t) (buffer_long p s fit t low ∙ fit.no_buffer t low far)

-- Two states that fit and are alike
module _ (p : Program) (s u : State) (fit : Fits p s) (fits : Fits p u) (alike : Alike p s u) where
  -- what a thread has issued and what waits in its buffer is the same; so is its work left
  issued_same : (t : ℕ) → t < most_threads → issued_of s t ≡ issued_of u t
  issued_same t low =
      ⊎_elim (alike.same_issued t)
      (λ far. no_issued p s fit t low far ∙ sym (no_issued p u fits t low far))
      (lt_or_ge t p.threads)

  buffer_same : (t : ℕ) → t < most_threads → buffer s t ≡ buffer u t
  buffer_same t low =
      ⊎_elim (alike.same_buffers t)
      (λ far. no_waiting p s fit t low far ∙ sym (no_waiting p u fits t low far))
      (lt_or_ge t p.threads)

  thread_same : (t : ℕ) → t < most_threads → thread_work p s t ≡ thread_work p u t
  unfolding thread_work unissued_code unissued
  thread_same t low = rw (issued_same t low, buffer_same t low)

  -- each queue has as many entries
  queue_same : (q : ℕ) → q < most_locations → queue_len s q ≡ queue_len u q
  queue_same q low =
      ⊎_elim
      (λ near. sym (queue_long p s fit q low) ∙ ap length (alike.same_queues q near) ∙ queue_long p u fits q low)
      (λ far. fit.no_queue q low far ∙ sym (fits.no_queue q low far))
      (lt_or_ge q (lines_of p))

  alike_work : work p s ≡ work p u
  unfolding work
  alike_work =
      rw (
        sum_same most_threads (thread_work p s) (thread_work p u) thread_same,
        sum_same most_locations (queue_len s) (queue_len u) queue_same,
      )

-- equal lanes: the same work left
pub same_work : (p : Program) (s u : State) → Fits p s → Fits p u → lanes_of p s ≡ lanes_of p u → work p s ≡ work p u
same_work p s u fit fits e = alike_work p s u fit fits ((alike_exactly p s u fit fits).0 e)

-- the key of a state's lanes as the code holds them: the lanes of the state
pub key_lanes_lem : (p : Program) (s : State) → Fits p s → key_lanes (listing_of p) (laid_of p s) ≡ lanes_of p s
unfolding key_lanes padded
key_lanes_lem p s fit =
    let c = listing_of p in
    let v = seen_of p s in
    let l = lay c v in
    take_at l (replicate (most_lanes - length l) 0) (pool_end c (laid_of p s))
    (lay_length c v (even_of p s fit) ∙ rw (see_sum c v (rows_in c) (omega arith)))
    ∙ lay_of p s

-- states whose lanes the code holds alike have equal lanes, and back
pub laid_lanes : (p : Program) (s u : State) → Fits p s → Fits p u → laid_of p s ≡ laid_of p u
    → lanes_of p s ≡ lanes_of p u
laid_lanes p s u fit fits e =
    sym (key_lanes_lem p s fit) ∙ ap (key_lanes (listing_of p)) e ∙ key_lanes_lem p u fits

pub lanes_laid : (p : Program) (s u : State) → lanes_of p s ≡ lanes_of p u → laid_of p s ≡ laid_of p u
lanes_laid p s u e = ap padded (lay_of p s ∙ e ∙ sym (lay_of p u))
