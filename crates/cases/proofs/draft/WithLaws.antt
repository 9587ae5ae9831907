-- Laws of `with_first`, `with_instruction`, `with_want`, `with_passed` and `with_step`, a part of the case with a
-- record more: what stands at that record's seat, and at every other. Assumes nothing.
use Prim.Native.Nat.{ℕ, ◌+◌, ◌*◌, ◌/◌, ◌%◌, ◌<◌}
use mathlib.Core.Path.{◌≡◌, refl, sym, ◌∙◌}
use mathlib.Core.Logic.{◌≢◌}
use mathlib.Core.Bool.{Bool, true, false}
use lib.ListN.{length, get_or, set}
use lib.Seq.{get_or-set_same, get_or-set_other}
use lib.Dec.{eqb, leb, ltb}
use borrow.Author.Tests.{ltb-true, ltb-false, le-leb, lt-leb, eqb-true, eqb-false}
use native.Mathlib.Omega.{arith}
use Rattle.cases.specs.declared.case.Program.{Program}
use Rattle.cases.specs.declared.case.Ask.{Ask}
use Rattle.cases.specs.declared.case.Run.{Run}
use Rattle.cases.specs.declared.case.Write.{Write}
use Rattle.cases.specs.declared.case.Thread.{Thread}
use Rattle.cases.specs.declared.case.Instruction.{Instruction}
use Rattle.cases.specs.declared.case.Step.{Step}
use Rattle.cases.specs.declared.record.Record.TheVariants.{First, Instruct, Want, Passed, Take}
use Rattle.std.specs.declared.option.Option.TheVariants.{Some}
use Rattle.cases.specs.Sizes.{most_instructions}
use Rattle.cases.specs.Choice.{pick}
use Rattle.cases.specs.Checks.{no_instruction, count_at}
use Rattle.cases.specs.Draft.{no_step, with_first, with_instruction, with_want, with_passed}
use Rattle.cases.specs.Draft.{with_step}
use Rattle.cases.specs.Seats.{first_seat, instruction_seat, want_seat, passed_seat, step_seat}

-- the first contents
module _ (p : Program) (w : Write) where
  pub first_same : w.location.0 < length p.first → eqb w.word 0 ≡ false
      → first_seat (with_first p w) w.location.0 ≡ Some (First w)
  unfolding first_seat with_first pick
  first_same low some = rw (get_or-set_same p.first w.location.0 w.word 0 low, some)

  pub first_other : (l : ℕ) → l ≢ w.location.0 → first_seat (with_first p w) l ≡ first_seat p l
  unfolding first_seat with_first
  first_other l n = rw (get_or-set_other p.first w.location.0 l w.word 0 n)

-- a count with one more lets through one number more
leb_more : (n i : ℕ) → i ≢ n → leb (n + 1) i ≡ leb n i
leb_more n i h = go (ltb i n) refl
  where
    go : (t : Bool) → ltb i n ≡ t → leb (n + 1) i ≡ leb n i
    go true e = lt-leb (n + 1) i (omega (arith, ltb-true i n e)) ∙ sym (lt-leb n i (ltb-true i n e))
    go false e = let m = ltb-false i n e in le-leb (n + 1) i (omega arith) ∙ sym (le-leb n i m)

-- the instructions
module _ (p : Program) (t : Thread) (x : Instruction) where
  abbrev instruction_at_lem : ℕ
  instruction_at_lem = t.0 * most_instructions + count_at p t.0

  pub instruction_same : t.0 < length p.counts
      → instruction_at_lem < length p.code
      → count_at p t.0 < most_instructions
      → instruction_seat (with_instruction p t x) instruction_at_lem ≡ Some (Instruct t x)
  unfolding instruction_seat with_instruction pick
  instruction_same low here few =
      let q : instruction_at_lem / most_instructions ≡ t.0 = omega arith in
      let m : instruction_at_lem % most_instructions ≡ count_at p t.0 = omega arith in
      rw (
        q,
        m,
        get_or-set_same p.counts t.0 (count_at p t.0 + 1) 0 low,
        lt-leb (count_at p t.0 + 1) (count_at p t.0) (omega arith),
        get_or-set_same p.code instruction_at_lem x no_instruction here,
      )

  pub instruction_other : (m : ℕ) → t.0 < length p.counts → m ≢ instruction_at_lem
      → instruction_seat (with_instruction p t x) m ≡ instruction_seat p m
  unfolding instruction_seat with_instruction
  instruction_other m low n =
      rw (get_or-set_other p.code instruction_at_lem m x no_instruction n, go (eqb thread t.0) refl)
    where
      thread : ℕ
      thread = m / most_instructions

      go : (b : Bool) → eqb thread t.0 ≡ b
          → leb (get_or (set p.counts t.0 (count_at p t.0 + 1)) thread 0) (m % most_instructions)
          ≡ leb (get_or p.counts thread 0) (m % most_instructions)
      go true e =
          let q = eqb-true thread t.0 e in
          rw (q, get_or-set_same p.counts t.0 (count_at p t.0 + 1) 0 low)
          (leb_more (count_at p t.0) (m % most_instructions) (λ z. n (omega arith)))
      go false e = rw (get_or-set_other p.counts t.0 thread (count_at p t.0 + 1) 0 (eqb-false _ _ e))

-- the wants
module _ (a : Ask) (w : Write) where
  pub want_same : w.location.0 < length a.wanted → w.location.0 < length a.want
      → want_seat (with_want a w) w.location.0 ≡ Some (Want w)
  unfolding want_seat with_want pick
  want_same low here =
      rw (
        get_or-set_same a.wanted w.location.0 true false low,
        get_or-set_same a.want w.location.0 w.word 0 here,
      )

  pub want_other : (l : ℕ) → l ≢ w.location.0 → want_seat (with_want a w) l ≡ want_seat a l
  unfolding want_seat with_want
  want_other l n =
      rw (
        get_or-set_other a.wanted w.location.0 l true false n,
        get_or-set_other a.want w.location.0 l w.word 0 n,
      )

-- the passed counts
module _ (a : Ask) (t : Thread) (n : ℕ) where
  pub passed_same : t.0 < length a.passed → eqb n 0 ≡ false
      → passed_seat (with_passed a t n) t.0 ≡ Some (Passed t n)
  unfolding passed_seat with_passed pick
  passed_same low some = rw (get_or-set_same a.passed t.0 n 0 low, some)

  pub passed_other : (u : ℕ) → u ≢ t.0 → passed_seat (with_passed a t n) u ≡ passed_seat a u
  unfolding passed_seat with_passed
  passed_other u d = rw (get_or-set_other a.passed t.0 u n 0 d)

-- the steps
module _ (r : Run) (k : Step) where
  pub step_same : r.count < length r.steps → step_seat (with_step r k) r.count ≡ Some (Take k)
  unfolding step_seat with_step pick
  step_same low =
      rw (lt-leb (r.count + 1) r.count (omega arith), get_or-set_same r.steps r.count k no_step low)

  pub step_other : (i : ℕ) → i ≢ r.count → step_seat (with_step r k) i ≡ step_seat r i
  unfolding step_seat with_step
  step_other i n = rw (leb_more r.count i n, get_or-set_other r.steps r.count i k no_step n)
