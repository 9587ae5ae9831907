-- What a row tells of the functions that are called, once the layers' definitions say what the row says.
-- Assumes nothing.
use Prim.Native.Nat.{ℕ, ◌*◌, ◌≤◌}
use mathlib.Core.Path.{◌≡◌, refl, sym, ap, ◌∙◌}
use mathlib.Core.Logic.{inl, inr, ◌≢◌}
use mathlib.Core.List.{List, [], ◌∷◌, map}
use native.Mathlib.Omega.{arith}
use lib.ListN.{length}
use Rattle.cases.specs.declared.case.Step.{Step}
use Rattle.cases.specs.Record.{bytes_of}
use Rattle.cases.specs.Reading.{number_of, read_of}
use Rattle.cases.specs.Sizes.{step_size}
use Rattle.machine.specs.Model.{full_length, Listed}
use Rattle.machine.specs.Ptso.{ptso}
use Rattle.search.specs.declared.ask.Outcome.{Outcome}
use Rattle.search.specs.Question.{reaches, Decided, reached, unreachable, undecided, ask_of, outcome_no, told_of}
use Rattle.search.specs.Question.{question_of, shown_by, shown_of}
use Rattle.search.proofs.Promises.{question_reached, question_unreachable, question_undecided, shown_run}
use Rattle.search.proofs.Promises.{only_reached_stores}
use Rattle.rows.specs.Row.{Row, asked, ruled, ended, opened, row_number, row_program, row_ask, said, due, Fact}

-- two definitions that say the same of a whole list say the same of each that is on it
pub listed_same : {A B : Type 0} (f g : A → B) (x : A) (xs : List A) → map f xs ≡ map g xs → Listed x xs
    → f x ≡ g x
unfolding Listed
listed_same f g x [] e h = absurd h
listed_same f g x (y ∷ ys) e (inl same) = rw same cc
listed_same f g x (y ∷ ys) e (inr h) = let rest : map f ys ≡ map g ys = cc in listed_same f g x ys rest h

module _ (s : List ℕ) (b : ℕ) (out : List ℕ) (read : number_of (read_of s).answer ≡ 0)
    (room : step_size * full_length (ptso (read_of s).case.program) ≤ length out) where
  pub asked_told : (d : Decided Step)
      → ask_of (ptso (read_of s).case.program) (reaches (read_of s).case.ask) b ≡ d
      → question_of s (length out) b ≡ told_of d
  unfolding told_of
  asked_told (reached run) e = (question_reached s b out read room (length run)).1 (run, e, refl)
  asked_told unreachable e = (question_unreachable s b out read room).1 e
  asked_told undecided e = (question_undecided s b out read room).1 e

  untold : (o : Outcome) → outcome_no o ≢ 100 → question_of s (length out) b ≡ o → shown_of s b out ≡ out
  untold o other e = only_reached_stores s b out (λ h. other (ap outcome_no (sym e) ∙ h))

  pub asked_shown : (d : Decided Step)
      → ask_of (ptso (read_of s).case.program) (reaches (read_of s).case.ask) b ≡ d
      → shown_of s b out ≡ shown_by d out
  unfolding shown_by told_of
  asked_shown (reached run) e = shown_run s b out read room run e
  asked_shown unreachable e = untold _ (λ h. absurd (omega arith)) (asked_told unreachable e)
  asked_shown undecided e = untold _ (λ h. absurd (omega arith)) (asked_told undecided e)

pub said_fact : (r : Row) → said r ≡ due r → Fact r
unfolding said due Fact
said_fact (asked rs full b d) e =
    let read : row_number rs ≡ 0 = cc in
    let weighs : full_length (ptso (row_program rs)) ≡ full = cc in
    let told : ask_of (ptso (row_program rs)) (reaches (row_ask rs)) b ≡ d = cc in (
      weighs,
      (λ out room.
          let enough : step_size * full_length (ptso (row_program rs)) ≤ length out = rw weighs room in (
            asked_told (bytes_of rs) b out read enough d told,
            asked_shown (bytes_of rs) b out read enough d told,
          )),
    )
said_fact (ruled rs v) e = cc
said_fact (ended rs full n hs r w) e = (cc, cc, cc, cc, cc)
said_fact (opened rs n at) e = (cc, cc)
