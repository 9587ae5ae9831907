-- Laws of `add_of`: a faultless record comes in turn and finds its seat, and the case so far keeps within the
-- most threads and locations. Assumes nothing.
use Prim.Native.Nat.{ℕ, ◌<◌, ◌≤◌}
use mathlib.Core.Path.{◌≡◌, refl}
use mathlib.Core.Logic.{◌≢◌}
use mathlib.Core.Bool.{Bool, true, false}
use lib.Dec.{eqb, leb}
use borrow.Author.Tests.{leb-false, ltb-false, eqb-true, eqb-false, eq-eqb, ne_eqb}
use native.Mathlib.Omega.{arith}
use Rattle.cases.specs.declared.case.Thread.{Thread}
use Rattle.cases.specs.declared.case.Write.{Write}
use Rattle.cases.specs.declared.case.Instruction.{Instruction}
use Rattle.cases.specs.declared.case.Step.{Step}
use Rattle.cases.specs.declared.draft.Draft.{Draft}
use Rattle.cases.specs.declared.record.Header.{Header}
use Rattle.cases.specs.declared.record.Record.{Record}
use Rattle.cases.specs.declared.record.Record.TheVariants.{Declare, First, Instruct, Want, Passed, Take}
use Rattle.cases.specs.Sizes.{most_threads, most_instructions, most_locations, most_steps}
use Rattle.cases.specs.Choice.{pick, both, either, refuse}
use Rattle.cases.specs.Record.{kind_of}
use Rattle.cases.specs.Checks.{kind_rank, misplaced, disordered, header_out, instruction_out, passed_out}
use Rattle.cases.specs.Checks.{mislisted, count_at, fault_of}
use Rattle.cases.specs.Draft.{with_header, with_sizes, with_first, with_instruction, with_program, with_ask}
use Rattle.cases.specs.Draft.{with_run, add_of}
use Rattle.cases.proofs.ChoiceLaws.{either_false, refuse_none}
use Rattle.cases.proofs.draft.HeaderLaws.{header_low, header_listed_few}

-- the order of kinds: where nothing stands before, no kind goes down; and each kind comes before the next
pub rank_least : (kind : ℕ) → kind_rank 0 ≤ kind_rank kind
unfolding kind_rank
rank_least kind = omega arith

pub rank_rises : (kind_rank 1 < kind_rank 2) × (kind_rank 2 < kind_rank 3) × (kind_rank 3 < kind_rank 4)
    × (kind_rank 4 < kind_rank 5) × (kind_rank 5 < kind_rank 6)
unfolding kind_rank
rank_rises = (omega arith, omega arith, omega arith, omega arith, omega arith)

-- a record behind the first that is not misplaced: kinds don't go down, and it is not of kind 1
pub seated_kind : (before kind : ℕ) → 1 ≤ before → misplaced before kind ≡ false
    → (kind_rank before ≤ kind_rank kind) × (kind ≢ 1)
unfolding misplaced pick
seated_kind before kind b h =
    let e = either_false (eqb kind 1) _ (rw (ne_eqb before 0 (λ z. omega arith)) at h) in
    (ltb-false _ _ e.1, eqb-false kind 1 e.0)

-- any record that is not misplaced, the first too: kinds don't go down
seated : (before kind : ℕ) → misplaced before kind ≡ false → kind_rank before ≤ kind_rank kind
seated before kind h = go (eqb before 0) refl
  where
    go : (b : Bool) → eqb before 0 ≡ b → kind_rank before ≤ kind_rank kind
    go true e = rw (eqb-true before 0 e) (rank_least kind)
    go false e = (seated_kind before kind (omega (arith, eqb-false before 0 e)) h).0

-- a record in order: its number is not below the next, where its kind is the draft's
pub draft_ordered : (d : Draft) (kind n : ℕ) → disordered d kind n ≡ false → d.kind ≡ kind → d.next ≤ n
unfolding disordered both
draft_ordered d kind n h e = ltb-false n d.next (rw (eq-eqb d.kind kind e) at h)

-- a faultless record: kinds don't go down, and a step is not the first
pub draft_in_turn : (d : Draft) (r : Record) → fault_of d r ≡ 0 → kind_rank d.kind ≤ kind_rank (kind_of r)
unfolding fault_of
draft_in_turn d (Declare h) f = seated d.kind 1 (refuse_none _ 3 _ f).0
draft_in_turn d (First w) f = seated d.kind 2 (refuse_none _ 3 _ f).0
draft_in_turn d (Instruct t x) f = seated d.kind 3 (refuse_none _ 3 _ f).0
draft_in_turn d (Want w) f = seated d.kind 4 (refuse_none _ 3 _ f).0
draft_in_turn d (Passed t n) f = seated d.kind 5 (refuse_none _ 3 _ f).0
draft_in_turn d (Take k) f = seated d.kind 6 (refuse_none _ 3 _ f).0

pub step_behind : (d : Draft) (k : Step) → fault_of d (Take k) ≡ 0 → d.kind ≢ 0
unfolding fault_of misplaced pick
step_behind d k f e =
    let a = rw e at (refuse_none (misplaced d.kind 6) 3 _ f).0 in
    let z : ◌≡◌ {A = ℕ} 0 1 = cc in
    omega arith

-- what a record makes of the draft: its kind is the record's, and only a step changes the run
pub draft_kind : (d : Draft) (r : Record) → (add_of d r).kind ≡ kind_of r
unfolding add_of
draft_kind d (Declare h) = refl
draft_kind d (First w) = refl
draft_kind d (Instruct t x) = refl
draft_kind d (Want w) = refl
draft_kind d (Passed t n) = refl
draft_kind d (Take k) = refl

pub draft_run : (d : Draft) (r : Record) → kind_rank (kind_of r) < kind_rank 6
    → (add_of d r).case.run ≡ d.case.run
unfolding add_of with_program with_ask with_header
draft_run d (Declare h) low = refl
draft_run d (First w) low = refl
draft_run d (Instruct t x) low = refl
draft_run d (Want w) low = refl
draft_run d (Passed t n) low = refl
draft_run d (Take k) low = absurd (omega arith)

-- a faultless record of the program has at most the most threads, locations and line bytes
pub header_sizes : (d : Draft) (h : Header) → fault_of d (Declare h) ≡ 0
    → (h.threads ≤ most_threads) × (h.locations ≤ most_locations) × (h.listed ≤ most_locations)
unfolding fault_of
header_sizes d h e =
    let inside = refuse_none (header_out h) 4 _ (refuse_none _ 3 _ e).1 in
    let right = refuse_none (mislisted h) 2 _ inside.1 in
    let low = header_low h inside.0 in
    (low.1, low.3, header_listed_few h inside.0 right.0)

-- a faultless step finds room
pub step_seated : (d : Draft) (k : Step) → fault_of d (Take k) ≡ 0 → d.case.run.count < most_steps
unfolding fault_of
step_seated d k e =
    let clean = (refuse_none _ 7 _ (refuse_none _ 4 _ (refuse_none _ 3 _ e).1).1).1 in
    leb-false _ _ (refuse_none _ 8 _ clean).0

module _ (d : Draft) (few : d.case.program.threads ≤ most_threads)
    (near : d.case.program.locations ≤ most_locations) where
  -- a record that passed 4 and 5 names a location, or a thread, that there is
  located : (misseat : Bool) (l later : ℕ)
      → refuse misseat 4 (refuse (leb d.case.program.locations l) 5 later) ≡ 0
      → l < most_locations
  located misseat l later e =
      let inside = (refuse_none _ 4 _ (refuse_none _ 3 _ e).1).0 in
      let there : l < d.case.program.locations = leb-false _ _ inside in
      omega arith

  threaded : (misseat more : Bool) (t later : ℕ)
      → refuse misseat 4 (refuse (either (leb d.case.program.threads t) more) 5 later) ≡ 0
      → t < most_threads
  threaded misseat more t later e =
      let inside = (refuse_none _ 4 _ (refuse_none _ 3 _ e).1).0 in
      let there : t < d.case.program.threads = leb-false _ _ (either_false _ _ inside).0 in
      omega arith

  -- so a faultless record of each kind names what there is, and an instruction finds room
  pub first_seated : (w : Write) → fault_of d (First w) ≡ 0 → w.location.0 < most_locations
  unfolding fault_of
  first_seated w e = located _ _ _ e

  pub instruction_seated : (t : Thread) (x : Instruction) → fault_of d (Instruct t x) ≡ 0
      → (t.0 < most_threads) × (count_at d.case.program t.0 < most_instructions)
  unfolding fault_of instruction_out
  instruction_seated t x e =
      let clean = (refuse_none _ 7 _ (refuse_none _ 4 _ (refuse_none _ 3 _ e).1).1).1 in
      (threaded _ _ _ _ e, leb-false _ _ (refuse_none _ 6 _ (refuse_none _ 5 _ clean).1).0)

  pub want_seated : (w : Write) → fault_of d (Want w) ≡ 0 → w.location.0 < most_locations
  unfolding fault_of
  want_seated w e = located _ _ _ e

  pub passed_seated : (t : Thread) (n : ℕ) → fault_of d (Passed t n) ≡ 0 → t.0 < most_threads
  unfolding fault_of passed_out
  passed_seated t n e = threaded _ _ _ _ e

  -- only a program's own record changes its sizes
  pub draft_sizes : (r : Record) → fault_of d r ≡ 0
      → ((add_of d r).case.program.threads ≤ most_threads)
      × ((add_of d r).case.program.locations ≤ most_locations)
  unfolding add_of with_program with_ask with_run with_header with_sizes with_first with_instruction
  draft_sizes (Declare h) e = let s = header_sizes d h e in (s.0, s.1)
  draft_sizes (First w) e = (few, near)
  draft_sizes (Instruct t x) e = (few, near)
  draft_sizes (Want w) e = (few, near)
  draft_sizes (Passed t n) e = (few, near)
  draft_sizes (Take k) e = (few, near)
