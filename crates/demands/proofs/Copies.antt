-- What the theorems of Sources ask for can be met, and none of it can be left out: a case that can be read, with a run
-- that leaves at a location a word which stands in the program for another; and a case that P8 refuses, with a run
-- that leaves a word which nobody wrote. Assumes nothing.
use Prim.Native.Nat.{ℕ, zero, suc, ◌<◌}
use mathlib.Core.Path.{◌≡◌, refl}
use mathlib.Core.Logic.{inl, inr, ◌≢◌}
use mathlib.Core.Bool.{true, false}
use mathlib.Core.List.{List, [], ◌∷◌}
use native.Mathlib.Omega.{arith}
use lib.ListN.{get_or}
use Rattle.cases.specs.declared.case.Step.{Step}
use Rattle.cases.specs.declared.case.Program.{Program}
use Rattle.cases.specs.Choice.{pick, both, either, refuse}
use Rattle.cases.specs.Lines.{own_lines, table}
use Rattle.cases.specs.Checks.{count_at, instruction_at, uses_word, needs_register, lines_of, beyond, left_over, step_out}
use Rattle.cases.specs.Checks.{step_left, step_fault}
use Rattle.cases.specs.Draft.{with_program, with_first}
use Rattle.cases.specs.Writing.{reads_back}
use Rattle.cases.proofs.ChoiceLaws.{never_both}
use Rattle.cases.proofs.Computing.{testing_computes}
use Rattle.machine.specs.declared.cells.State.{State}
use Rattle.machine.specs.View.{word_of, issued_of}
use Rattle.machine.specs.Rules.{next_of, start_of}
use Rattle.machine.specs.Model.{Leads, Faultless, LegalRun}
use Rattle.machine.specs.Ptso.{ptso}
use Rattle.machine.proofs.Computing.{steps_compute}
use Rattle.demands.specs.Example.{copied, copied_front, copied_run, careless, careless_run}
use Rattle.demands.specs.Sources.{FirstContent, StandsFor, StandsIn, OfProgram}

-- the state behind some steps of a program
unfoldable after : Program → State → List Step → State
after p s [] = s
after p s (k ∷ ks) = after p (next_of p s k) ks

-- The thread's store and its load are issued: it needs a register next
pub copied_readable : reads_back copied ≡ true
unfolding copied testing_computes
copied_readable = refl

pub copied_needs : (u : State) × LegalRun (ptso copied.program) copied_front u
    × (issued_of u 0 < count_at copied.program 0)
    × (needs_register (instruction_at copied.program 0 (issued_of u 0)).operation ≡ true)
unfolding copied after steps_compute Leads Faultless step_fault step_out step_left beyond left_over both either refuse pick
    lines_of own_lines table needs_register
copied_needs = (
  after copied.program (start_of copied.program) copied_front,
  record { faultless = (refl, (refl, tt)); leads = (refl, (refl, refl)) },
  omega arith,
  refl,
)

-- 7 stands in the program for location 0 alone
copied_for_other : StandsFor copied.program 1 7 → ⊥
unfolding copied StandsFor uses_word either
copied_for_other (zero, zero, h, u, x, y) = absurd (omega arith)
copied_for_other (zero, suc zero, h, u, x, y) = never_both u refl
copied_for_other (zero, suc (suc zero), h, u, x, y) = never_both u refl
copied_for_other (zero, suc (suc (suc i)), h, u, x, y) = absurd (omega arith)
copied_for_other (suc zero, i, h, u, x, y) = absurd (omega arith)
copied_for_other (suc (suc zero), i, h, u, x, y) = absurd (omega arith)
copied_for_other (suc (suc (suc zero)), i, h, u, x, y) = absurd (omega arith)
copied_for_other (suc (suc (suc (suc t))), i, h, u, x, y) = absurd (omega arith)

-- and the copy persists: location 1 holds 7, which is not its first content and does not stand for it. So
-- `words_of_a_location` cannot do without its third case
pub copied_elsewhere : (u : State) × LegalRun (ptso copied.program) copied_run u
    × (word_of u 1 ≡ 7)
    × (get_or copied.program.first 1 0 ≢ 7)
    × (StandsFor copied.program 1 7 → ⊥)
unfolding copied after steps_compute Leads Faultless step_fault step_out step_left beyond left_over both either refuse pick
    lines_of own_lines table
copied_elsewhere = (
  after copied.program (start_of copied.program) copied_run,
  record {
    faultless = (refl, (refl, (refl, (refl, (refl, (refl, tt))))));
    leads = (refl, (refl, (refl, (refl, (refl, (refl, refl))))));
  },
  refl,
  (λ z. omega arith),
  copied_for_other,
)

-- No byte string reads as the careless case: it is 32
pub careless_refused : reads_back careless ≡ false
unfolding careless testing_computes
careless_refused = refl

careless_stands : (l w : ℕ) → StandsFor careless.program l w → ⊥
unfolding careless with_program with_first StandsFor uses_word either
careless_stands l w (zero, zero, h, u, x, y) = never_both u refl
careless_stands l w (zero, suc i, h, u, x, y) = absurd (omega arith)
careless_stands l w (suc zero, i, h, u, x, y) = absurd (omega arith)
careless_stands l w (suc (suc zero), i, h, u, x, y) = absurd (omega arith)
careless_stands l w (suc (suc (suc zero)), i, h, u, x, y) = absurd (omega arith)
careless_stands l w (suc (suc (suc (suc t))), i, h, u, x, y) = absurd (omega arith)

careless_nobody : OfProgram careless.program 0 → ⊥
unfolding careless with_program with_first OfProgram FirstContent StandsIn
careless_nobody (inl (zero, h, e)) = absurd (omega arith)
careless_nobody (inl (suc l, h, e)) = absurd (omega arith)
careless_nobody (inr o) = careless_stands o.0 _ o.1

-- Its program, run all the same, leaves a 0 that is no first content and stands nowhere
pub a_word_that_nobody_wrote : (u : State) × LegalRun (ptso careless.program) careless_run u
    × (word_of u 0 ≡ 0)
    × (OfProgram careless.program 0 → ⊥)
unfolding careless after with_program with_first steps_compute Leads Faultless step_fault step_out step_left beyond left_over both
    either refuse pick lines_of own_lines table
a_word_that_nobody_wrote = (
  after careless.program (start_of careless.program) careless_run,
  record { faultless = (refl, (refl, (refl, tt))); leads = (refl, (refl, (refl, refl))) },
  refl,
  careless_nobody,
)
