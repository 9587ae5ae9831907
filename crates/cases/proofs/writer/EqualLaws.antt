-- What the derived `==` of two cases answers is same_case of them.
--   equal_instruction, equal_step, equal_program, equal_ask, equal_run, equal_case
--     what the derived `==` of such a struct answers, field by field
-- Assumes nothing.
use Prim.Native.Nat.{ℕ}
use mathlib.Core.Path.{◌≡◌, refl}
use mathlib.Core.List.{List, [], ◌∷◌}
use mathlib.Core.Bool.{Bool, true, false, ◌&&◌, beq}
use lib.Dec.{eqb}
use lib.Pointwise.{pointwise}
use Rattle.cases.specs.declared.case.Instruction.{Instruction}
use Rattle.cases.specs.declared.case.Step.{Step}
use Rattle.cases.specs.declared.case.Program.{Program}
use Rattle.cases.specs.declared.case.Ask.{Ask}
use Rattle.cases.specs.declared.case.Run.{Run}
use Rattle.cases.specs.declared.case.Case.{Case}
use Rattle.cases.specs.Choice.{both}
use Rattle.cases.specs.Writing.{same_list, same_flag, same_instruction, same_step}
use Rattle.cases.specs.Writing.{same_sizes, same_program, same_ask, same_run, same_case}

abbrev equal_instruction : Instruction → Instruction → Bool
equal_instruction x y =
    eqb x.operation y.operation
    && (eqb x.location.0 y.location.0 && (eqb x.register.0 y.register.0 && eqb x.word y.word))

abbrev equal_step : Step → Step → Bool
equal_step x y =
    eqb x.thread.0 y.thread.0
    && (eqb x.code y.code && (eqb x.position y.position && eqb x.location.0 y.location.0))

abbrev equal_program : Program → Program → Bool
equal_program p q =
    eqb p.threads q.threads
    && (eqb p.locations q.locations
    && (eqb p.lines q.lines
    && (pointwise eqb p.line q.line
    && (pointwise eqb p.first q.first
    && (pointwise eqb p.counts q.counts
    && pointwise equal_instruction p.code q.code)))))

abbrev equal_ask : Ask → Ask → Bool
equal_ask a b =
    pointwise beq a.wanted b.wanted && (pointwise eqb a.want b.want && pointwise eqb a.passed b.passed)

abbrev equal_run : Run → Run → Bool
equal_run r s = eqb r.count s.count && pointwise equal_step r.steps s.steps

abbrev equal_case : Case → Case → Bool
equal_case c d =
    eqb c.version d.version
    && (equal_program c.program d.program && (equal_ask c.ask d.ask && equal_run c.run d.run))

and_both : (a b : Bool) → (a && b) ≡ both a b
unfolding both
and_both true b = refl
and_both false b = refl

both_within : (a b c : Bool) → both a (both b c) ≡ both (both a b) c
unfolding both
both_within true b c = refl
both_within false b c = refl

flag_equal : (x y : Bool) → beq x y ≡ same_flag x y
flag_equal true true = refl
flag_equal true false = refl
flag_equal false true = refl
flag_equal false false = refl

pointwise_same : {A : Type 0} (f e : A → A → Bool) → ((x y : A) → f x y ≡ e x y)
    → (a b : List A) → pointwise f a b ≡ same_list e a b
unfolding same_list
pointwise_same f e h [] [] = refl
pointwise_same f e h [] (y ∷ b) = refl
pointwise_same f e h (x ∷ a) [] = refl
pointwise_same f e h (x ∷ a) (y ∷ b) = rw (h x y, pointwise_same f e h a b) (and_both _ _)

numbers_equal : (a b : List ℕ) → pointwise eqb a b ≡ same_list eqb a b
numbers_equal = pointwise_same eqb eqb (λ x y. refl)

instruction_equal : (x y : Instruction) → equal_instruction x y ≡ same_instruction x y
unfolding same_instruction
instruction_equal x y = simp and_both

step_equal : (x y : Step) → equal_step x y ≡ same_step x y
unfolding same_step
step_equal x y = simp and_both

program_equal : (p q : Program) → equal_program p q ≡ same_program p q
unfolding same_program same_sizes
program_equal p q =
    simp (and_both, numbers_equal, pointwise_same equal_instruction same_instruction instruction_equal, both_within)

ask_equal : (a b : Ask) → equal_ask a b ≡ same_ask a b
unfolding same_ask
ask_equal a b = simp (and_both, numbers_equal, pointwise_same beq same_flag flag_equal)

run_equal : (r s : Run) → equal_run r s ≡ same_run r s
unfolding same_run
run_equal r s = simp (and_both, pointwise_same equal_step same_step step_equal)

pub case_equal : (c d : Case) → equal_case c d ≡ same_case c d
unfolding same_case
case_equal c d =
    rw (program_equal c.program d.program, ask_equal c.ask d.ask, run_equal c.run d.run) (simp and_both)
