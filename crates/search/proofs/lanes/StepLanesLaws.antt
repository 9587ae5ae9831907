-- A legal step over the lanes of a state gives the lanes of the state that the machine's step leads to, and is
-- what the code asks of a step. Assumes nothing.
use Prim.Native.Nat.{ℕ, ◌≤◌, ◌<◌}
use mathlib.Core.Path.{◌≡◌, refl}
use mathlib.Core.Logic.{◌⊎◌, inl, inr}
use mathlib.Core.List.{List}
use lib.ListN.{length}
use native.Mathlib.Omega.{arith}
use Rattle.cases.specs.declared.case.Step.{Step}
use Rattle.cases.specs.declared.case.Program.{Program}
use Rattle.cases.specs.Choice.{pick}
use Rattle.cases.specs.Sizes.{all_code}
use Rattle.cases.specs.Checks.{limits_of, lines_of, step_fault}
use Rattle.cases.proofs.Promises.{thread_low}
use Rattle.machine.specs.declared.cells.State.{State}
use Rattle.machine.specs.Rules.{rule_of, next_of}
use Rattle.machine.specs.Fit.{together, Fits}
use Rattle.machine.specs.Next.{issue_step, move_step, persist_step}
use Rattle.machine.proofs.Promises.{step_fits, buffer_long, step_together}
use Rattle.machine.proofs.Effects.{step_kinds, issue_left, move_within}
use Rattle.search.specs.Sizes.{most_lanes}
use Rattle.search.specs.Listing.{threads_in, listing_of}
use Rattle.search.specs.Rows.{rows_in, FewEntries}
use Rattle.search.specs.Taken.{step_lanes, Takes}
use Rattle.search.proofs.listing.ListingLaws.{listing_fits, listing_threads, listing_lines, listing_count}
use Rattle.search.proofs.lanes.LayLaws.{see_issued, see_sum}
use Rattle.search.proofs.lanes.StateLaws.{seen_of, even_of, few_of}
use Rattle.search.proofs.lanes.LayRowLaws.{padded_long}
use Rattle.search.proofs.lanes.LookLanesLaws.{laid_of, see_buffer_long, see_queue_long}
use Rattle.search.proofs.lanes.IssueLanesLaws.{issue_room, issue_lanes_lem}
use Rattle.search.proofs.lanes.MoveLanesLaws.{move_lanes_lem}
use Rattle.search.proofs.lanes.PersistLanesLaws.{persist_some, persist_lanes_lem}

-- a step is an issue of a thread, a move of one, or a persist of a line
abbrev pub Kinds : Program → Step → Type 0
Kinds p k =
    ((t : ℕ) × (t < p.threads) × (k ≡ issue_step t))
    ⊎ ((t : ℕ) × (i : ℕ) × (t < p.threads) × (k ≡ move_step t i))
    ⊎ ((q : ℕ) × (q < lines_of p) × (k ≡ persist_step q))

-- A state that fits its program, with as many entries as there is room for at most
module _ (p : Program) (s : State) (fit : Fits p s) (few : together p s ≤ all_code) where
  abbrev c : List ℕ
  c = listing_of p

  abbrev x : List ℕ
  x = laid_of p s

  -- so have its lanes
  pub few_lanes : FewEntries (listing_of p) (laid_of p s)
  few_lanes = rw (see_sum c (seen_of p s) (rows_in c) (omega arith)) (few_of p s fit few)

  pub lanes_long : length (laid_of p s) ≡ most_lanes
  lanes_long = padded_long c (listing_fits p fit.program) (seen_of p s) (even_of p s fit) (few_of p s fit few)

  -- a step: it leads to no more entries; to the lanes of its state
  pub step_few : (k : Step) → step_fault (limits_of p) k ≡ 0 → rule_of p s k ≡ 0 → together p (next_of p s k) ≤ all_code
  step_few k faultless legal = let t = step_together p s fit k faultless legal in omega arith

  pub step_lanes_lem : (k : Step) → step_fault (limits_of p) k ≡ 0 → rule_of p s k ≡ 0
      → step_lanes (listing_of p) (laid_of p s) k ≡ laid_of p (next_of p s k)
  unfolding step_lanes pick
  step_lanes_lem k faultless legal = go (step_kinds p k faultless) (step_fits p s fit k faultless legal)
    where
      go : Kinds p k → Fits p (next_of p s k) → step_lanes c x k ≡ laid_of p (next_of p s k)
      go (inl (t, low, e)) after =
          rw e (issue_lanes_lem p s fit few t low (rw e at legal) (rw e at after))
      go (inr (inl (t, i, low, e))) after =
          rw e (move_lanes_lem p s fit few t i low (rw e at legal) (rw e at after))
      go (inr (inr (q, low, e))) after =
          rw e (persist_lanes_lem p s fit few q low (rw e at legal) (rw e at after))

  -- what the code asks of an issue; of a move; of a persist; of a step
  issue_takes : (t : ℕ) → t < p.threads → rule_of p s (issue_step t) ≡ 0 → Takes c x (issue_step t)
  unfolding Takes
  issue_takes t low legal =
      let here : t < threads_in c = rw (listing_threads p) low in
      inl (
        refl,
        here,
        rw (see_issued c (seen_of p s) t here, listing_count p fit.program t (thread_low fit.program low))
            (issue_left p s fit t low legal),
        rw (see_sum c (seen_of p s) (rows_in c) (omega arith)) (issue_room p s fit few t low legal),
      )

  move_takes : (t i : ℕ) → t < p.threads → rule_of p s (move_step t i) ≡ 0 → Takes c x (move_step t i)
  unfolding Takes
  move_takes t i low legal =
      let m = thread_low fit.program low in
      let a = move_within p s fit t i low legal in
      let b = buffer_long p s fit t m in
      inr (inl (refl, rw (listing_threads p) low, rw (see_buffer_long p s fit t low) (omega arith)))

  persist_takes : (q : ℕ) → q < lines_of p → rule_of p s (persist_step q) ≡ 0 → Takes c x (persist_step q)
  unfolding Takes
  persist_takes q low legal =
      inr (inr (
        refl,
        rw (listing_lines p) low,
        rw (see_queue_long p s fit q low) (persist_some p s fit q low legal),
      ))

  pub step_takes : (k : Step) → step_fault (limits_of p) k ≡ 0 → rule_of p s k ≡ 0
      → Takes (listing_of p) (laid_of p s) k
  step_takes k faultless legal = go (step_kinds p k faultless)
    where
      go : Kinds p k → Takes c x k
      go (inl (t, low, e)) = rw e (issue_takes t low (rw e at legal))
      go (inr (inl (t, i, low, e))) = rw e (move_takes t i low (rw e at legal))
      go (inr (inr (q, low, e))) = rw e (persist_takes q low (rw e at legal))
