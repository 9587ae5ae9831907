-- Laws of `same_case`: only a case itself is the same. Assumes nothing.
use Prim.Native.Nat.{ℕ}
use mathlib.Core.Path.{◌≡◌, refl, sym}
use mathlib.Core.List.{List, [], ◌∷◌}
use mathlib.Core.Bool.{Bool, true, false}
use lib.Dec.{eqb}
use borrow.Author.Tests.{eqb-true, eq-eqb}
use native.Mathlib.Omega.{arith}
use Rattle.cases.specs.declared.case.Instruction.{Instruction}
use Rattle.cases.specs.declared.case.Step.{Step}
use Rattle.cases.specs.declared.case.Program.{Program}
use Rattle.cases.specs.declared.case.Ask.{Ask}
use Rattle.cases.specs.declared.case.Run.{Run}
use Rattle.cases.specs.declared.case.Case.{Case}
use Rattle.cases.specs.Choice.{both}
use Rattle.cases.specs.Writing.{same_list, same_flag, same_instruction, same_step}
use Rattle.cases.specs.Writing.{same_sizes, same_program, same_ask, same_run, same_case}
use Rattle.cases.proofs.ChoiceLaws.{both_true}

-- what the test calls the same is the same: of lists by their elements, of structs by their fields
same_is : {A : Type 0} (e : A → A → Bool) → ((x y : A) → e x y ≡ true → x ≡ y)
    → (a b : List A) → same_list e a b ≡ true → a ≡ b
unfolding same_list
same_is e f [] [] h = refl
same_is e f [] (y ∷ b) h = absurd (let z : ◌≡◌ {A = ℕ} 0 1 = cc in omega arith)
same_is e f (x ∷ a) [] h = absurd (let z : ◌≡◌ {A = ℕ} 0 1 = cc in omega arith)
same_is e f (x ∷ a) (y ∷ b) h =
    let p = both_true _ _ h in
    let q = f x y p.0 in
    let r = same_is e f a b p.1 in
    cc

flag_is : (x y : Bool) → same_flag x y ≡ true → x ≡ y
flag_is true true h = refl
flag_is true false h = sym h
flag_is false true h = h
flag_is false false h = refl

instruction_is : (x y : Instruction) → same_instruction x y ≡ true → x ≡ y
unfolding same_instruction
instruction_is x y h =
    let operation = both_true _ _ h in
    let location = both_true _ _ operation.1 in
    let register = both_true _ _ location.1 in
    let p = eqb-true _ _ operation.0 in
    let q = eqb-true _ _ location.0 in
    let r = eqb-true _ _ register.0 in
    let s = eqb-true _ _ register.1 in
    λ i. record { operation = p i; location = record { 0 = q i }; register = record { 0 = r i }; word = s i }

step_is : (x y : Step) → same_step x y ≡ true → x ≡ y
unfolding same_step
step_is x y h =
    let thread = both_true _ _ h in
    let code = both_true _ _ thread.1 in
    let position = both_true _ _ code.1 in
    let p = eqb-true _ _ thread.0 in
    let q = eqb-true _ _ code.0 in
    let r = eqb-true _ _ position.0 in
    let s = eqb-true _ _ position.1 in
    λ i. record { thread = record { 0 = p i }; code = q i; position = r i; location = record { 0 = s i } }

program_is : (p q : Program) → same_program p q ≡ true → p ≡ q
unfolding same_program same_sizes
program_is p q h =
    let sizes = both_true _ _ h in
    let threads = both_true _ _ sizes.0 in
    let locations = both_true _ _ threads.1 in
    let lines = both_true _ _ locations.1 in
    let first = both_true _ _ sizes.1 in
    let counts = both_true _ _ first.1 in
    let t = eqb-true _ _ threads.0 in
    let l = eqb-true _ _ locations.0 in
    let k = eqb-true _ _ lines.0 in
    let r = same_is eqb eqb-true p.line q.line lines.1 in
    let f = same_is eqb eqb-true p.first q.first first.0 in
    let n = same_is eqb eqb-true p.counts q.counts counts.0 in
    let x = same_is same_instruction instruction_is p.code q.code counts.1 in
    λ i. record {
      threads = t i;
      locations = l i;
      lines = k i;
      line = r i;
      first = f i;
      counts = n i;
      code = x i;
    }

ask_is : (a b : Ask) → same_ask a b ≡ true → a ≡ b
unfolding same_ask
ask_is a b h =
    let wanted = both_true _ _ h in
    let want = both_true _ _ wanted.1 in
    let f = same_is same_flag flag_is a.wanted b.wanted wanted.0 in
    let w = same_is eqb eqb-true a.want b.want want.0 in
    let n = same_is eqb eqb-true a.passed b.passed want.1 in
    λ i. record { wanted = f i; want = w i; passed = n i }

run_is : (r s : Run) → same_run r s ≡ true → r ≡ s
unfolding same_run
run_is r s h =
    let count = both_true _ _ h in
    let n = eqb-true _ _ count.0 in
    let k = same_is same_step step_is r.steps s.steps count.1 in
    λ i. record { count = n i; steps = k i }

-- so a case that the test calls the same is the same
pub case_is : (c d : Case) → same_case c d ≡ true → c ≡ d
unfolding same_case
case_is c d h =
    let version = both_true _ _ h in
    let program = both_true _ _ version.1 in
    let ask = both_true _ _ program.1 in
    let v = eqb-true _ _ version.0 in
    let p = program_is _ _ program.0 in
    let a = ask_is _ _ ask.0 in
    let r = run_is _ _ ask.1 in
    λ i. record { version = v i; program = p i; ask = a i; run = r i }

-- and the test calls each thing the same as itself
same_self : {A : Type 0} (e : A → A → Bool) → ((x : A) → e x x ≡ true) → (a : List A) → same_list e a a ≡ true
unfolding same_list both
same_self e f [] = refl
same_self e f (x ∷ a) = rw (f x) (same_self e f a)

number_self : (x : ℕ) → eqb x x ≡ true
number_self x = eq-eqb x x refl

flag_self : (x : Bool) → same_flag x x ≡ true
flag_self true = refl
flag_self false = refl

instruction_self : (x : Instruction) → same_instruction x x ≡ true
unfolding same_instruction both
instruction_self x = simp number_self

step_self : (x : Step) → same_step x x ≡ true
unfolding same_step both
step_self x = simp number_self

program_self : (p : Program) → same_program p p ≡ true
unfolding same_program same_sizes both
program_self p = simp (number_self, same_self eqb number_self, same_self same_instruction instruction_self)

ask_self : (a : Ask) → same_ask a a ≡ true
unfolding same_ask both
ask_self a = simp (same_self same_flag flag_self, same_self eqb number_self)

run_self : (r : Run) → same_run r r ≡ true
unfolding same_run both
run_self r = simp (number_self, same_self same_step step_self)

-- so a case is the same as itself
pub case_self : (c : Case) → same_case c c ≡ true
unfolding same_case both
case_self c = simp (number_self, program_self, ask_self, run_self)
