-- Document 01, "What each signature must nail": the wrong implementations that it shuts out by name, each with
-- a theorem that no such implementation meets. The case is that of Witness. Assumes nothing.
use Prim.Native.Nat.{ℕ, suc, ◌+◌, ◌*◌, ◌≤◌, ◌<◌}
use mathlib.Core.Path.{◌≡◌, refl, sym, ap, subst, ◌∙◌}
use mathlib.Core.Logic.{◌≢◌}
use mathlib.Core.Bool.{true}
use mathlib.Core.List.{List, [], ◌∷◌}
use native.Mathlib.Omega.{arith}
use lib.ListN.{length, get_or, take, replicate, length-replicate}
use Rattle.cases.specs.declared.case.Step.{Step}
use Rattle.cases.specs.declared.case.Program.{Program}
use Rattle.cases.specs.declared.case.Ask.{Ask}
use Rattle.cases.specs.declared.case.Case.{Case}
use Rattle.cases.specs.declared.reader.Reading.{Reading}
use Rattle.std.specs.declared.result.Result.TheVariants.{Err}
use Rattle.cases.specs.declared.writer.Unwritten.{Unwritten}
use Rattle.cases.specs.Sizes.{most_steps, step_size}
use Rattle.cases.specs.Choice.{pick, refuse}
use Rattle.cases.specs.Bytes.{IsBytes, half}
use Rattle.cases.specs.Record.{payload_of, open_no}
use Rattle.cases.specs.Draft.{no_step, run_with, with_run}
use Rattle.cases.specs.Reading.{number_of, refused_of, read_from, read_of}
use Rattle.cases.specs.Seats.{encode_of}
use Rattle.cases.specs.Writing.{reads_back, wrote_of, written_of}
use Rattle.cases.proofs.Promises.{read_after_write}
use Rattle.machine.specs.declared.cells.State.{State}
use Rattle.machine.specs.declared.blocker.Blocker.{Blocker}
use Rattle.machine.specs.declared.runs.Verdict.TheVariants.{Legal, Illegal}
use Rattle.machine.specs.Rules.{rule_of, start_of}
use Rattle.machine.specs.Model.{full_length, Leads, StopsAt}
use Rattle.machine.specs.Blocker.{blocker_of}
use Rattle.machine.specs.Judge.{verdict_no, verdict_place, verdict_blocker, judged, run_of, judge_of}
use Rattle.machine.specs.Next.{persist_step}
use Rattle.machine.specs.Ptso.{ptso}
use Rattle.search.specs.declared.ask.Outcome.TheVariants.{Reached}
use Rattle.search.specs.Walk.{Visit, here, walk_from}
use Rattle.search.specs.Question.{reaches, Decided, reached, unreachable, undecided, FirstThat, question_of}
use Rattle.search.specs.Question.{outcome_place}
use Rattle.search.proofs.Promises as Search
use Rattle.demands.specs.Example.{example}
use Rattle.demands.proofs.DemandTwo as DemandTwo
use Rattle.demands.proofs.DemandThree as DemandThree
use Rattle.demands.proofs.Witness.{example_readable, example_bytes, example_legal, example_stops}
use Rattle.demands.proofs.Witness.{example_first, example_stored, room_enough}

-- "a judge that refuses all runs or passes all": the empty run it passes, a persist at the start it does not
pub not_all_refused : judge_of (with_run example (run_with [])) ≡ judged (Legal 0) (start_of example.program)
not_all_refused =
    (DemandThree.legal_as_judged example example_readable [] (start_of example.program)).0 example_legal

pub not_all_passed : (judge_of (with_run example (run_with (persist_step 0 ∷ [])))).verdict ≢ Legal 1
unfolding judged Leads
not_all_passed e =
    let told = judge_of (with_run example (run_with (persist_step 0 ∷ []))) in
    let run = (DemandThree.legal_as_judged example example_readable (persist_step 0 ∷ []) told.state).1
    (λ i. record { verdict = e i; state = told.state }) in
    example_stops.broken run.leads.0

-- lent bytes with room for any run
abbrev lent : List ℕ
lent = replicate (step_size * most_steps) 0

-- "a question that always says undecided": here it says reached
pub not_always_undecided : question_of (encode_of example) (step_size * most_steps) 1 ≡ Reached 0
not_always_undecided =
    let is : (read_of (encode_of example)).case ≡ example
    = ap (λ (r : Reading). r.case) (read_after_write example example_readable) in
    let many : length lent ≡ step_size * most_steps = length-replicate {A = ℕ} (step_size * most_steps) 0 in
    let room : step_size * full_length (ptso (read_of (encode_of example)).case.program) ≤ length lent
    = rw (is, many) (room_enough example example_readable) in
    let first : FirstThat (reaches (read_of (encode_of example)).case.ask)
    (walk_from (ptso (read_of (encode_of example)).case.program)) [] (here (start_of example.program))
    = subst (λ (c : Case). FirstThat (reaches c.ask) (walk_from (ptso c.program)) []
    (here (start_of example.program))) (sym is) example_first in
    rw many at ((DemandTwo.reached_exactly (encode_of example) example_bytes.0 example_bytes.1 1
    lent room 0).1 ([], here (start_of example.program), first, omega arith, refl))

-- "a search that takes one step and repeats it (the witness must be the walk's first)": there is one such run
pub one_witness : (p : Program) (a : Ask) (before after : List (Visit State Step)) (v w : Visit State Step)
    → FirstThat (reaches a) (walk_from (ptso p)) before v
    → FirstThat (reaches a) (walk_from (ptso p)) after w
    → v.run ≡ w.run
one_witness p a before after v w f g =
    let b = suc (length before + length after) in
    let e = (Search.reached_exactly (ptso p) (reaches a) b v.run).1 (before, v, f, omega arith, refl) in
    let d = (Search.reached_exactly (ptso p) (reaches a) b w.run).1 (after, w, g, omega arith, refl) in
    ap shown (sym e ∙ d)
  where
    shown : Decided Step → List Step
    shown (reached run) = run
    shown unreachable = []
    shown undecided = []

-- "a made-up length or index (fixed by the walk or the first illegal step)"
pub no_made_up_length : (s : List ℕ) → IsBytes s → number_of (read_of s).answer ≡ 0
    → (b : ℕ) (out : List ℕ) → step_size * full_length (ptso (read_of s).case.program) ≤ length out
    → (before : List (Visit State Step)) (v : Visit State Step)
    → FirstThat (reaches (read_of s).case.ask) (walk_from (ptso (read_of s).case.program)) before v
    → length before < b
    → (n : ℕ) → question_of s (length out) b ≡ Reached n
    → n ≡ length v.run
no_made_up_length s bytes read b out room before v first covered n says =
    ap outcome_place (sym says
    ∙ (DemandTwo.reached_exactly s bytes read b out room (length v.run)).1 (before, v, first, covered, refl))

pub no_made_up_index : (c : Case) → reads_back c ≡ true → (r i q j : ℕ) (b : Blocker) (u : State)
    → StopsAt (ptso c.program) (start_of c.program) (run_of c) i u
    → rule_of c.program u (get_or (run_of c) i no_step) ≡ r
    → (judge_of c).verdict ≡ Illegal q j b
    → (q ≡ r) × (j ≡ i) × (b ≡ blocker_of c.program u (get_or (run_of c) i no_step))
no_made_up_index c readable r i q j b u stops rule says =
    let e = sym says ∙ (DemandTwo.names_the_first_illegal_step c readable r i _).1 (u, stops, rule, refl) in
    (ap verdict_no e, ap verdict_place e, ap verdict_blocker e)

-- "a writer that writes nothing (round trip)": lent zeros do not stay zeros
pub not_nothing_written : written_of example (replicate 100 0) ≢ replicate 100 0
unfolding read_of read_from refused_of open_no payload_of half pick refuse
not_nothing_written e =
    let back = DemandTwo.written_reads_back example (replicate 100 0) 44 example_stored in
    let n : ◌≡◌ {A = ℕ} 2 0
    = ap (λ (x : List ℕ). number_of (read_of (take 44 x)).answer) (sym e)
    ∙ ap (λ (r : Reading). number_of r.answer) back in
    absurd (omega arith)

-- and one that always refuses: a case that was read is not refused where its bytes fit
pub not_refused_where_it_fits : (s : List ℕ) → IsBytes s → number_of (read_of s).answer ≡ 0
    → (out : List ℕ) → length s ≤ length out
    → (m : Unwritten) → wrote_of (read_of s).case out ≢ Err m
not_refused_where_it_fits s bytes read out room m e =
    let w = sym (DemandTwo.read_writes_back s bytes read out room).0 ∙ e in
    let z : ◌≡◌ {A = ℕ} 0 1 = cc in
    omega arith
