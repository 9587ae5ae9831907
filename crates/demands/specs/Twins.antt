-- Document 02, P3: "Version 1 means a line each." A case of version 1 has a twin of version 2 whose record lists the
-- lines 0, 1, 2, ..
--   twin_of c     the same case of version 2
--   Alike c d     the cases c and d have the same legal runs, the same walk, the same answers: of the judge, and of the
--                 question to their files, with what the lent bytes hold afterwards
-- Assumes nothing.
use Rattle.std.specs.Prelude.{ℕ, ◌≡◌, ◌↔◌, List, length}
use Rattle.cases.specs.declared.case.Step.{Step}
use Rattle.cases.specs.declared.case.Case.{Case}
use Rattle.cases.specs.Lines.{line_version}
use Rattle.cases.specs.Draft.{with_version}
use Rattle.cases.specs.Seats.{encode_of}
use Rattle.machine.specs.declared.cells.State.{State}
use Rattle.machine.specs.Model.{LegalRun}
use Rattle.machine.specs.Judge.{judge_of}
use Rattle.machine.specs.Ptso.{ptso}
use Rattle.search.specs.Walk.{walk_from}
use Rattle.search.specs.Question.{question_of, shown_of}

abbrev pub twin_of : Case → Case
twin_of c = with_version c line_version

pub record Alike (c d : Case) : Type 0 where
  pub runs : (ks : List Step) (u : State)
      → LegalRun (ptso c.program) ks u ↔ LegalRun (ptso d.program) ks u
  pub walk : walk_from (ptso c.program) ≡ walk_from (ptso d.program)
  pub judged : judge_of c ≡ judge_of d
  pub asked : (b : ℕ) (out : List ℕ)
      → (question_of (encode_of c) (length out) b ≡ question_of (encode_of d) (length out) b)
      × (shown_of (encode_of c) b out ≡ shown_of (encode_of d) b out)
