-- Document 01, "The machine's steps": a single step given with a state, the work left there, and a run, judged.
--   ruling_no, verdict_no, verdict_place   01's number of an answer, and its place
--   ruling_blocker, verdict_blocker   the first entry in the way that an answer names
--   told r s, judged v s   an answer with its state
--   stepped_of m s k, step_of c s k   a single step, of a machine, of a case
--   work_of, full_of    the work left, and the full length, as they are told
--   Weighed, unweighed_no   such an answer; 01's number of a refusal
--   weighed_no, weighed_work   of such an answer: 01's number, 0 where it is told, and the work left
--   judge_from m i s ks, judge_run c, judge_of c, judge_bytes s   a run; i steps are taken already
-- Assumes nothing.
use Rattle.std.specs.Prelude.{ℕ, suc, not, Result, Ok, Err, List, [], ◌∷◌, take, eqb}
use Rattle.cases.specs.declared.case.Step.{Step}
use Rattle.cases.specs.declared.case.Case.{Case}
use Rattle.cases.specs.Choice.{pick}
use Rattle.cases.specs.Draft.{empty_case}
use Rattle.cases.specs.Reading.{number_of, offset_of, read_of}
use Rattle.cases.specs.Writing.{reads_back}
use Rattle.machine.specs.declared.cells.State.{State}
use Rattle.machine.specs.declared.blocker.Blocker.{Blocker}
use Rattle.machine.specs.declared.blocker.Blocker.TheVariants.{NoEntry}
use Rattle.machine.specs.declared.steps.Ruling.{Ruling}
use Rattle.machine.specs.declared.steps.Ruling.TheVariants.{Allowed, Broken, Declined}
use Rattle.machine.specs.declared.steps.Stepped.{Stepped}
use Rattle.machine.specs.declared.runs.Verdict.{Verdict}
use Rattle.machine.specs.declared.runs.Verdict.TheVariants.{Legal, Illegal, Refused}
use Rattle.machine.specs.declared.runs.Judged.{Judged}
use Rattle.machine.specs.declared.work.Unweighed.{Unweighed}
use Rattle.machine.specs.declared.work.Unweighed.TheVariants.{Unreadable, Misfit, Other}
use Rattle.machine.specs.Model.{Model, full_length}
use Rattle.machine.specs.Rules.{start_of}
use Rattle.machine.specs.Ptso.{ptso}

-- 01's number of a ruling: legal is 103
abbrev pub ruling_no : Ruling → ℕ
ruling_no Allowed = 103
ruling_no (Broken n b) = n
ruling_no (Declined n) = n

-- "Rules 22, 23, 26, 27 and 28 now also give the place of the first entry that stands in the way"
abbrev pub ruling_blocker : Ruling → Blocker
ruling_blocker Allowed = NoEntry
ruling_blocker (Broken n b) = b
ruling_blocker (Declined n) = NoEntry

unfoldable pub told : Ruling → State → Stepped
told r s = record { ruling = r; state = s }

-- "then 5 and 8 as for a kind 6 record, then the step rules"
unfoldable pub stepped_of : Model State Step → State → Step → Stepped
stepped_of m s k =
    pick (not (eqb (m.fault k) 0)) (told (Declined (m.fault k)) s)
    (pick (not (eqb (m.rule s k) 0)) (told (Broken (m.rule s k) (m.blocker s k)) s)
    (told Allowed (m.after s k)))

-- "a single step given with a state tests 32, 33," and then those. "It gives back the state unchanged when it
-- refuses."
unfoldable pub step_of : Case → State → Step → Stepped
step_of c s k =
    pick (not (reads_back c)) (told (Declined 32) s)
    (pick ((ptso c.program).misfits s) (told (Declined 33) s)
    (stepped_of (ptso c.program) s k))

-- the empty case's start, where 32 stops it
unfoldable pub started_of : Case → Stepped
started_of c =
    pick (not (reads_back c)) (told (Declined 32) (start_of empty_case.program))
    (told Allowed (start_of c.program))

-- the work left in a state of a case: 0 and the work, or the refusal's number
abbrev pub Weighed : Type 0
Weighed = Result ℕ Unweighed

abbrev pub unweighed_no : Unweighed → ℕ
unweighed_no Unreadable = 32
unweighed_no Misfit = 33
unweighed_no (Other n) = n

abbrev pub weighed_no : Weighed → ℕ
weighed_no (Ok n) = 0
weighed_no (Err u) = unweighed_no u

abbrev pub weighed_work : Weighed → ℕ
weighed_work (Ok n) = n
weighed_work (Err u) = 0

unfoldable pub work_of : Case → State → Weighed
work_of c s =
    pick (not (reads_back c)) (Err Unreadable)
    (pick ((ptso c.program).misfits s) (Err Misfit)
    (Ok ((ptso c.program).left s)))

unfoldable pub full_of : Case → Weighed
full_of c = pick (not (reads_back c)) (Err Unreadable) (Ok (full_length (ptso c.program)))

-- "The judge answers legal (103) with the end state, or the rule number, the index of the first illegal step
-- from 0, and the state before it." With P4 the first entry in the way goes along.
abbrev pub verdict_no : Verdict → ℕ
verdict_no (Legal n) = 103
verdict_no (Illegal r i b) = r
verdict_no (Refused m at) = m

-- "(offset for reading refusals, index for rules 21 to 29, number of steps for 100 and 103, else 0)"
abbrev pub verdict_place : Verdict → ℕ
verdict_place (Legal n) = n
verdict_place (Illegal r i b) = i
verdict_place (Refused m at) = at

abbrev pub verdict_blocker : Verdict → Blocker
verdict_blocker (Legal n) = NoEntry
verdict_blocker (Illegal r i b) = b
verdict_blocker (Refused m at) = NoEntry

unfoldable pub judged : Verdict → State → Judged
judged v s = record { verdict = v; state = s }

unfoldable pub judge_from : Model State Step → ℕ → State → List Step → Judged
judge_from m i s [] = judged (Legal i) s
judge_from m i s (k ∷ ks) =
    pick (eqb (m.rule s k) 0) (judge_from m (suc i) (m.after s k) ks)
    (judged (Illegal (m.rule s k) i (m.blocker s k)) s)

-- the run of a case, from its start
abbrev pub run_of : Case → List Step
run_of c = take c.run.count c.run.steps

unfoldable pub judge_run : Case → Judged
judge_run c = judge_from (ptso c.program) 0 (start_of c.program) (run_of c)

-- "Where reading or 32 stops it, its state is the empty case's start."
unfoldable pub stopped : ℕ → ℕ → Judged
stopped n at = judged (Refused n at) (start_of empty_case.program)

unfoldable pub judge_of : Case → Judged
judge_of c = pick (not (reads_back c)) (stopped 32 0) (judge_run c)

unfoldable pub judge_bytes : List ℕ → Judged
judge_bytes s =
    pick (eqb (number_of (read_of s).answer) 0) (judge_run (read_of s).case)
    (stopped (number_of (read_of s).answer) (offset_of (read_of s).answer))
