-- Request P3, "Real cache lines", in theorems to quote. A program is that of a case that can be read, a run is legal
-- where the judge passes it, as in DemandThree. Assumes nothing.
use Prim.Native.Nat.{ℕ, ◌≤◌, ◌<◌}
use mathlib.Core.Path.{◌≡◌}
use mathlib.Core.Logic.{◌≢◌}
use mathlib.Core.Bool.{true}
use mathlib.Core.List.{List, ◌++◌}
use native.Mathlib.Omega.{arith}
use lib.ListN.{length, take, drop}
use Rattle.cases.specs.declared.case.Step.{Step}
use Rattle.cases.specs.declared.case.Case.{Case}
use Rattle.cases.specs.Checks.{lines_of}
use Rattle.cases.specs.Lines.{own_version, line_version}
use Rattle.cases.specs.Draft.{with_version}
use Rattle.cases.specs.Seats.{encode_of}
use Rattle.cases.specs.Ranges.{HasOwnLines}
use Rattle.cases.specs.Writing.{reads_back}
use Rattle.cases.proofs.Promises.{readable_ranged, twin_reads_back, version_differs}
use Rattle.machine.specs.declared.cells.State.{State}
use Rattle.machine.specs.View.{Slot, queue}
use Rattle.machine.specs.Model.{LegalRun}
use Rattle.machine.specs.Ptso.{ptso}
use Rattle.machine.proofs.Promises.{program_fits}
use Rattle.demands.specs.Twins.{twin_of, Alike}
use Rattle.demands.specs.Entered.{entries_of, entered_of, persists, writes_by, issued_by}
use Rattle.demands.proofs.answers.TwinAnswerLaws as TwinAnswerLaws
use Rattle.demands.proofs.entered.InOrderLaws as InOrderLaws

-- "Version 1 means a line each." A version 1 case and its version 2 twin are two cases, with two files, that have the
-- same legal runs, the same walk and the same answers.
pub own_lines_same : (c : Case) → reads_back c ≡ true → c.version ≡ own_version
    → HasOwnLines c.program
    × (reads_back (twin_of c) ≡ true)
    × (encode_of c ≢ encode_of (twin_of c))
    × Alike c (twin_of c)
unfolding with_version
own_lines_same c readable one =
    let twin = twin_reads_back c readable one in (
      (readable_ranged c readable).lines_own one,
      twin,
      version_differs c (twin_of c) readable twin (λ e. omega (arith, one)),
      TwinAnswerLaws.twin_alike c line_version readable twin,
    )

module _ (c : Case) (readable : reads_back c ≡ true) (ks : List Step) (u : State)
    (run : LegalRun (ptso c.program) ks u) (q : ℕ) (there : q < lines_of c.program) where
  -- Of the entries that entered a line's queue, those that persisted are a prefix: the first ones, as many as the
  -- run persists of that line; the others stand in the queue, in their order.
  pub first_come_first_persisted :
      (persists ks q ≤ length (entered_of c.program ks q))
      × (queue u q ≡ entries_of (drop (persists ks q) (entered_of c.program ks q)))
  first_come_first_persisted = InOrderLaws.in_order_queued c.program (program_fits c readable) ks u run q there

  -- One thread's stores to one line persist in program order: of its writes to the line, in the order in which it
  -- issued them, those that entered the queue are a prefix, and so are those that persisted. An exchange's write
  -- is one of them, and so is that of a compare that succeeds.
  module _ (t : ℕ) (low : t < c.program.threads) where
    pub enter_in_program_order : (rest : List Slot)
        × (writes_by t (entered_of c.program ks q) ++ rest ≡ issued_by c.program ks t q)
    enter_in_program_order = InOrderLaws.in_order_entered c.program (program_fits c readable) ks u run q t low

    pub persist_in_program_order : (rest : List Slot)
        × (writes_by t (take (persists ks q) (entered_of c.program ks q)) ++ rest
        ≡ issued_by c.program ks t q)
    persist_in_program_order =
        InOrderLaws.in_order_persisted c.program (program_fits c readable) ks u run q t low
