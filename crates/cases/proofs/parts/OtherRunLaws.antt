-- A readable case with other steps is readable: its file is read again up to the first step, and then the other
-- steps are read. Assumes nothing.
use Prim.Native.Nat.{ℕ, suc, ◌+◌, ◌<◌, ◌≤◌}
use mathlib.Core.Path.{◌≡◌, refl, ap, ◌∙◌}
use mathlib.Core.Logic.{◌≢◌}
use mathlib.Core.List.{List, [], ◌∷◌, ◌++◌, append-nil}
use mathlib.Core.Bool.{true}
use lib.ListN.{length, get_or, take, length-append}
use lib.Seq.{append_snoc}
use borrow.Author.Tests.{lt-leb, le-ltb, ne_eqb}
use native.Mathlib.Omega.{arith}
use Rattle.cases.specs.declared.case.Step.{Step}
use Rattle.cases.specs.declared.case.Run.{Run}
use Rattle.cases.specs.declared.case.Case.{Case}
use Rattle.cases.specs.declared.draft.Draft.{Draft}
use Rattle.cases.specs.declared.record.Record.TheVariants.{Take}
use Rattle.cases.specs.declared.reader.Answer.TheVariants.{Whole}
use Rattle.cases.specs.declared.reader.Reading.{Reading}
use Rattle.cases.specs.Sizes.{most_steps}
use Rattle.cases.specs.Choice.{pick, both, either, refuse}
use Rattle.cases.specs.Bytes.{IsBytes}
use Rattle.cases.specs.Record.{record_bytes, bytes_of}
use Rattle.cases.specs.Checks.{kind_rank, misplaced, limits_of, step_fault, fault_of}
use Rattle.cases.specs.Draft.{no_step, empty_case, run_with, with_run, with_step, blank_draft, add_of}
use Rattle.cases.specs.Reading.{number_of, read_of}
use Rattle.cases.specs.Seats.{encode_of, steps_bytes}
use Rattle.cases.specs.Writing.{reads_as, reads_back}
use Rattle.cases.proofs.draft.DraftLaws.{rank_least}
use Rattle.cases.proofs.parts.StepsLaws.{steps_run_more, steps_run_own, steps_file_more}
use Rattle.cases.proofs.writer.SameLaws.{case_self}
use Rattle.cases.proofs.reader.RoundTripLaws.{round_trip}
use Rattle.cases.proofs.parts.GoesLaws.{Goes, goes_none, goes_one, goes_both, goes_whole, step_begins}
use Rattle.cases.proofs.parts.CutLaws.{Cut, split_none, cut_from}

-- Steps that pass the checks 5 and 8, behind a draft
step_passes : (d : Draft) (k : Step) → d.kind ≢ 0 → kind_rank d.kind ≤ kind_rank 6
    → d.case.run.count < most_steps
    → step_fault (limits_of d.case.program) k ≡ 0
    → fault_of d (Take k) ≡ 0
unfolding fault_of step_fault misplaced pick either refuse
step_passes d k begun low room clean =
    rw (ne_eqb d.kind 0 begun, le-ltb _ _ low, lt-leb most_steps d.case.run.count room) clean

steps_go : (ks : List Step) (d : Draft) (js : List Step) → d.kind ≢ 0 → kind_rank d.kind ≤ kind_rank 6
    → d.case.run ≡ run_with js
    → length js + length ks ≤ most_steps
    → ((i : ℕ) → i < length ks → step_fault (limits_of d.case.program) (get_or ks i no_step) ≡ 0)
    → (e : Draft)
    × Goes d (steps_bytes ks) e
    × (e.kind ≢ 0)
    × (e.case ≡ with_run d.case (run_with (js ++ ks)))
unfolding steps_bytes bytes_of add_of with_run run_with
steps_go [] d js begun low run few clean =
    (d, goes_none d, begun, rw (append-nil js) (ap (with_run d.case) run))
steps_go (k ∷ ks) d js begun low run few clean =
    let count = ap (λ (r : Run). r.count) run in
    let f = step_passes d k begun low (omega arith) (clean 0 (omega arith)) in
    let more = ap (λ (r : Run). with_step r k) run ∙ steps_run_more js k (omega arith) in
    let next = steps_go ks (add_of d (Take k)) (js ++ (k ∷ [])) (λ z. omega arith) (omega arith) more
    (omega (arith, length-append js (k ∷ []))) (λ i h. clean (suc i) (omega arith)) in
    let one = goes_one d (record_bytes (Take k)) (Take k) (step_begins k) f in (
      next.0,
      goes_both d _ _ (record_bytes (Take k)) (steps_bytes ks) one next.1,
      next.2,
      next.3 ∙ ap (λ (l : List Step). with_run d.case (run_with l)) (append_snoc js k ks),
    )

-- a case whose file reads as it is readable
reads_back_lem : (c : Case) (s : List ℕ) (n : ℕ) → encode_of c ≡ s → read_of s ≡ record { answer = Whole n; case = c }
    → reads_back c ≡ true
unfolding reads_back reads_as both
reads_back_lem c s n file reading = rw (file, reading) (case_self c)

-- Bytes that read
module _ (s : List ℕ) (b : IsBytes s) (h : number_of (read_of s).answer ≡ 0) where
  abbrev case : Case
  case = (read_of s).case

  cut : Cut blank_draft case
  unfolding read_of blank_draft empty_case run_with
  cut = cut_from (suc (length s)) blank_draft blank_draft [] 0 s (split_none blank_draft refl (rank_least 6)) b h

  -- the run of their case is its steps
  pub run_steps : case.run ≡ run_with (take case.run.count case.run.steps)
  unfolding with_run
  run_steps = steps_run_own case.run cut.steps (ap (λ (c : Case). c.run) cut.parts.same)

  -- what stands before the steps is the file of the case without steps
  front_file : encode_of cut.last.case ≡ cut.bytes
  front_file =
      let whole = goes_whole cut.bytes cut.last cut.goes cut.begun in
      let back = (round_trip cut.bytes).back cut.are (ap (λ (r : Reading). number_of r.answer) whole) in
      rw whole at back

  -- the case with other steps that pass the checks 5 and 8 is readable
  pub other_readable : (ks : List Step) → length ks ≤ most_steps
      → ((i : ℕ) → i < length ks → step_fault (limits_of case.program) (get_or ks i no_step) ≡ 0)
      → reads_back (with_run case (run_with ks)) ≡ true
  unfolding with_run
  other_readable ks few clean =
      let last = cut.last in
      let parts = cut.parts in
      let kept = ap (λ (x : Case). x.program) parts.same in
      let read = steps_go ks last [] cut.begun parts.low parts.none (omega arith) (rw kept at clean) in
      let all = goes_both blank_draft last read.0 cut.bytes (steps_bytes ks) cut.goes read.1 in
      rw (ap (λ (x : Case). with_run x (run_with ks)) parts.same)
      (reads_back_lem _ (cut.bytes ++ steps_bytes ks) _
      (steps_file_more last.case ks [] (omega arith) ∙ rw (← parts.none, front_file))
      (rw read.3 at (goes_whole _ read.0 all read.2)))
