-- Document 02, P5: two writers that would take one word by compare and swap. What is said here of this one program is
-- computed over its walk, which has every legal run. Assumes nothing.
use mathlib.Core.Path.{◌≡◌, refl}
use mathlib.Core.Bool.{Bool, true, false, not}
use mathlib.Core.List.{List}
use borrow.Author.Tests.{eqb-true, eq-eqb, not-false}
use lib.Dec.{eqb}
use Rattle.cases.specs.declared.case.Step.{Step}
use Rattle.cases.specs.Choice.{both}
use Rattle.cases.specs.Writing.{reads_back}
use Rattle.cases.proofs.ChoiceLaws.{never_both}
use Rattle.cases.proofs.Computing.{reading_computes, testing_computes}
use Rattle.machine.specs.declared.cells.State.{State}
use Rattle.machine.specs.Rules.{fails}
use Rattle.machine.specs.Fit.{Fits, any_of}
use Rattle.machine.specs.Work.{work, fails_at, failures_from, failures_of}
use Rattle.machine.specs.Joins.{swaps}
use Rattle.machine.specs.Model.{LegalRun, FinishedRun}
use Rattle.machine.specs.Ptso.{ptso}
use Rattle.machine.proofs.Promises.{case_lawful}
use Rattle.machine.proofs.lists.ListedLaws.{listed_none}
use Rattle.search.specs.Walk.{Visit, walk_from}
use Rattle.search.proofs.Promises.{walk_exact}
use Rattle.search.proofs.Computing.{asking_computes}
use Rattle.demands.specs.Example.{rivals}
use Rattle.demands.specs.Writes.{really, makes, issues_at, at_issue, made_from, made_of}
use Rattle.demands.proofs.ends.EndLaws.{run_fits, stuck_done, done_work}

pub rivals_readable : reads_back rivals ≡ true
unfolding rivals testing_computes
rivals_readable = refl

-- instruction 1 of either thread is its compare of location 0
abbrev both_succeed : Visit State Step → Bool
both_succeed v = both (made_of rivals.program v.run 0 0 1) (made_of rivals.program v.run 1 0 1)

none_both : any_of both_succeed (walk_from (ptso rivals.program)) ≡ false
unfolding rivals reading_computes asking_computes any_of made_of made_from at_issue issues_at makes really swaps
none_both = refl

-- a run that leaves nothing to do, and in which not just one compare has failed
abbrev not_one_fails : Visit State Step → Bool
not_one_fails v =
    both (eqb (work rivals.program v.end) 0) (not (eqb (failures_of rivals.program v.run) 1))

none_other : any_of not_one_fails (walk_from (ptso rivals.program)) ≡ false
unfolding rivals reading_computes asking_computes any_of failures_of failures_from fails_at fails
none_other = refl

-- a test that is true of none in the walk is false of every legal run
of_runs : (f : Visit State Step → Bool) → any_of f (walk_from (ptso rivals.program)) ≡ false
    → (ks : List Step) (u : State)
    → LegalRun (ptso rivals.program) ks u
    → f (record { run = ks; end = u }) ≡ false
of_runs f none ks u run =
    listed_none f _ _ none
    ((walk_exact (ptso rivals.program) (case_lawful rivals rivals_readable) ks u).1 (run.faultless, run.leads))

-- "That no legal run has both compares succeed"
pub never_both_succeed : (ks : List Step) (u : State)
    → LegalRun (ptso rivals.program) ks u
    → made_of rivals.program ks 0 0 1 ≡ true
    → made_of rivals.program ks 1 0 1 ≡ true
    → ⊥
unfolding both
never_both_succeed ks u run a b = never_both (rw (a, b) refl) (of_runs both_succeed none_both ks u run)

-- and of a run that cannot go on just one has failed: the other took the word
pub just_one_fails : (ks : List Step) (u : State)
    → FinishedRun (ptso rivals.program) ks u
    → failures_of rivals.program ks ≡ 1
unfolding both
just_one_fails ks u run =
    eqb-true _ _ (not-false _ (rw left at (of_runs not_one_fails none_other ks u run.legal)))
  where
    fit : Fits rivals.program u
    fit = run_fits (ptso rivals.program) (case_lawful rivals rivals_readable) ks u run.legal

    left : eqb (work rivals.program u) 0 ≡ true
    left = eq-eqb _ _ (done_work rivals.program u fit (stuck_done rivals.program u fit run.over))
