-- What the theorems of the demands ask for can be met: a case, bytes and runs that do. Assumes nothing.
use Prim.Native.Nat.{ℕ, zero, suc, ◌+◌, ◌*◌, ◌≤◌, ◌<◌}
use mathlib.Core.Path.{◌≡◌, refl, ap}
use mathlib.Core.Logic.{◌⊎◌, inl, inr, ◌≢◌}
use mathlib.Core.Bool.{true, false}
use mathlib.Core.List.{[], ◌∷◌}
use native.Mathlib.Omega.{arith}
use lib.ListN.{length, replicate}
use Rattle.cases.specs.declared.case.Program.{Program}
use Rattle.cases.specs.declared.case.Ask.{Ask}
use Rattle.cases.specs.declared.case.Case.{Case}
use Rattle.cases.specs.declared.reader.Reading.{Reading}
use Rattle.std.specs.declared.result.Result.TheVariants.{Ok, Err}
use Rattle.cases.specs.declared.writer.Unwritten.TheVariants.{Short}
use Rattle.cases.specs.Sizes.{most_steps, step_size}
use Rattle.cases.specs.Choice.{pick, both, either, refuse}
use Rattle.cases.specs.Bytes.{IsBytes, half}
use Rattle.cases.specs.Record.{record_of, open_no}
use Rattle.cases.specs.Checks.{fault_of, count_at, instruction_at}
use Rattle.cases.specs.Draft.{empty_case, blank_draft, run_with}
use Rattle.cases.specs.Reading.{number_of, read_of}
use Rattle.cases.specs.Seats.{encode_of}
use Rattle.cases.specs.Writing.{reads_back, wrote_of}
use Rattle.cases.proofs.Promises.{file_bytes, read_after_write}
use Rattle.cases.proofs.ChoiceLaws.{true_not}
use Rattle.cases.proofs.Computing.{reading_computes, writing_computes, testing_computes}
use Rattle.cases.specs.Operations.{store_register, compare}
use Rattle.machine.specs.declared.cells.State.{State}
use Rattle.machine.specs.declared.blocker.Blocker.TheVariants.{InBuffer}
use Rattle.machine.specs.declared.runs.Verdict.TheVariants.{Illegal}
use Rattle.machine.specs.Rules.{persist_rule, rule_in, rule_of, start_of}
use Rattle.cases.specs.Ranges.{ProgramFits}
use Rattle.machine.specs.Fit.{any_from}
use Rattle.machine.specs.Work.{Unfinished, Uncompared}
use Rattle.machine.specs.Model.{full_length, Leads, Faultless, StopsAt, Listed, LegalRun, FinishedRun}
use Rattle.machine.specs.Judge.{judge_of}
use Rattle.machine.specs.Next.{persist_step}
use Rattle.machine.specs.Ptso.{ptso}
use Rattle.machine.proofs.Promises.{program_fits, ptso_lawful, full_length_most, case_lawful}
use Rattle.machine.proofs.Effects.{start_issued}
use Rattle.machine.proofs.Computing.{judging_computes}
use Rattle.search.specs.Sizes.{state_words}
use Rattle.search.specs.Walk.{here, walk_from}
use Rattle.search.specs.Question.{misses, misses_at, lacks_at, reaches_in, reaches, None, FirstThat, ask_of}
use Rattle.search.specs.Question.{undecided}
use Rattle.search.specs.Lanes.{lanes_of}
use Rattle.search.specs.Remember.{among, firsts, distinct_of, recall_of, covers_of}
use Rattle.search.proofs.Promises.{walk_first, undecided_exactly}
use Rattle.search.proofs.Recalled.{recall_unreachable_exactly, covers_exactly}
use Rattle.search.proofs.Computing.{asking_computes}
use Rattle.demands.specs.Example.{example, blocked, unmet, threadless, step_first, program_first}
use Rattle.demands.specs.Writes.{is_write, writes, writes_at, Writer, LastWrite, Unwritten, Alone}
use Rattle.demands.specs.Carried.{last_run}
use Rattle.demands.proofs.DemandThree.{any_thread}

-- a case that can be read; its file, of bytes; one that cannot
pub example_readable : reads_back example ≡ true
unfolding example testing_computes
example_readable = refl

pub example_bytes : IsBytes (encode_of example) × (number_of (read_of (encode_of example)).answer ≡ 0)
example_bytes = (
  file_bytes example example_readable,
  ap (λ (r : Reading). number_of r.answer) (read_after_write example example_readable),
)

pub threadless_unreadable : reads_back threadless ≡ false
unfolding threadless testing_computes
threadless_unreadable = refl

-- bytes that do not read: none at all
pub nothing_unread : number_of (read_of []).answer ≢ 0
unfolding reading_computes
nothing_unread e = absurd (omega arith)

-- records that do not open, that are faulty and that are sound: one byte; a step before any program; a program
pub one_byte_unopened : open_no (0 ∷ []) ≢ 0
unfolding reading_computes
one_byte_unopened e = absurd (omega arith)

pub step_first_faulty : (open_no step_first ≡ 0)
    × (fault_of blank_draft (record_of (half step_first 2) step_first) ≢ 0)
unfolding reading_computes
step_first_faulty = (refl, (λ e. absurd (omega arith)))

pub program_first_sound : (open_no program_first ≡ 0)
    × (fault_of blank_draft (record_of (half program_first 2) program_first) ≡ 0)
unfolding reading_computes
program_first_sound = (refl, refl)

-- lent bytes with room for a run of the full length, of any case: 8 for each step that a case can have
pub room_enough : (c : Case) → reads_back c ≡ true
    → step_size * full_length (ptso c.program) ≤ step_size * most_steps
room_enough c readable = let most = full_length_most c.program (program_fits c readable) in omega arith

-- a legal run, after which an instruction is unissued: the empty one
pub example_legal : LegalRun (ptso example.program) [] (start_of example.program)
unfolding Faultless Leads
example_legal = record { faultless = tt; leads = refl }

pub example_unfinished : Unfinished example.program (start_of example.program)
unfolding example Unfinished
example_unfinished = inl (0, omega arith, (let none = start_issued example.program 0 in omega arith))

-- no compare in it
pub example_plain : Uncompared example.program
unfolding example Uncompared
example_plain zero zero h e = absurd (omega arith)
example_plain zero (suc zero) h e = absurd (omega arith)
example_plain zero (suc (suc i)) h e = absurd (omega arith)
example_plain (suc zero) zero h e = absurd (omega arith)
example_plain (suc zero) (suc i) h e = absurd (omega arith)
example_plain (suc (suc zero)) i h e = absurd (omega arith)
example_plain (suc (suc (suc zero))) i h e = absurd (omega arith)
example_plain (suc (suc (suc (suc t)))) i h e = absurd (omega arith)

-- a thread that writes location 0
pub example_writer : Writer example.program 0 0
unfolding example writes_at writes is_write both either Writer
example_writer = (0, omega arith, refl)

-- last writes: of both threads to location 0, and of thread 0, which writes it alone, to location 1
pub example_last : LastWrite example.program 0 0 0
unfolding example writes_at writes is_write both either
example_last =
    record { there = omega arith; writing = refl; last = others }
  where
    others : (j : ℕ) → 0 < j → j < 2 → writes_at example.program 0 0 j ≡ false
    others zero h k = absurd (omega arith)
    others (suc zero) h k = refl
    others (suc (suc j)) h k = absurd (omega arith)

pub example_other_last : LastWrite example.program 1 0 0
unfolding example writes_at writes is_write both either
example_other_last =
    record { there = omega arith; writing = refl; last = λ j h k. absurd (omega arith) }

pub example_alone : LastWrite example.program 0 1 1 × Alone example.program 0 1
    × ((instruction_at example.program 0 1).operation ≢ store_register)
    × ((instruction_at example.program 0 1).operation ≢ compare)
unfolding example writes_at writes is_write both either Alone
example_alone = (
  record { there = omega arith; writing = refl; last = λ j h k. absurd (omega arith) },
  others,
  (λ e. absurd (omega arith)),
  (λ e. absurd (omega arith)),
)
  where
    others : (k i : ℕ) → k ≢ 0 → i < count_at example.program k
        → writes_at example.program k 1 i ≡ false
    others zero i n h = absurd (n refl)
    others (suc zero) zero n h = refl
    others (suc zero) (suc i) n h = absurd (omega arith)
    others (suc (suc zero)) i n h = absurd (omega arith)
    others (suc (suc (suc zero))) i n h = absurd (omega arith)
    others (suc (suc (suc (suc k)))) i n h = absurd (omega arith)

-- a location that no thread writes
pub example_unwritten : Unwritten example.program 2
unfolding example writes_at writes is_write both either Unwritten
example_unwritten zero zero h = refl
example_unwritten zero (suc zero) h = refl
example_unwritten zero (suc (suc i)) h = absurd (omega arith)
example_unwritten (suc zero) zero h = refl
example_unwritten (suc zero) (suc i) h = absurd (omega arith)
example_unwritten (suc (suc zero)) i h = absurd (omega arith)
example_unwritten (suc (suc (suc zero))) i h = absurd (omega arith)
example_unwritten (suc (suc (suc (suc t)))) i h = absurd (omega arith)

-- a run that cannot go on: the one in which thread 0 comes last
pub example_finished : (u : State) × FinishedRun (ptso example.program) (last_run example.program 0) u
example_finished = let r = any_thread example example_readable example_plain 0 0 example_writer in (r.1, r.3)

-- a run that stops: nothing is queued at the start, so that a persist is illegal there
pub example_stops : StopsAt (ptso example.program) (start_of example.program) (persist_step 0 ∷ []) 0
    (start_of example.program)
unfolding Leads rule_of rule_in persist_rule start_of pick refuse
example_stops = record { within = omega arith; before = refl; broken = λ e. absurd (omega arith) }

-- one that stops with an entry in the way: an mfence behind a store that waits
pub blocked_readable : reads_back blocked ≡ true
unfolding blocked run_with testing_computes
blocked_readable = refl

pub blocked_named : (judge_of blocked).verdict ≡ Illegal 22 1 (InBuffer (record { 0 = 0 }) 0)
unfolding blocked run_with testing_computes judge_of judging_computes
blocked_named = refl

-- a question that is reached: the empty run does where nothing is asked for
pub example_first :
    FirstThat (reaches example.ask) (walk_from (ptso example.program)) []
    (here (start_of example.program))
unfolding example empty_case reaches reaches_in any_from misses_at misses lacks_at start_of None Listed both either
example_first =
    let w = walk_first (ptso example.program) (case_lawful example example_readable) in
    record { after = w.0; stands = w.1; passes = refl; none = λ v h. absurd h }

-- P7: the start is the first of the distinct states, and reaches where nothing is asked for; a limit may be any number
pub example_first_state :
    FirstThat (reaches example.ask) (distinct_of (ptso example.program) (lanes_of example.program)) []
    (here (start_of example.program))
unfolding example empty_case reaches reaches_in any_from misses_at misses lacks_at start_of None Listed both either
    distinct_of firsts among
example_first_state =
    let p = example.program in
    let w = walk_first (ptso p) (case_lawful example example_readable) in
    record {
      after = firsts (lanes_of p) (lanes_of p (start_of p) ∷ []) w.0;
      stands = ap (firsts (lanes_of p) []) w.1;
      passes = refl;
      none = λ v h. absurd h;
    }

pub any_limit : (n : ℕ) → covers_of (n * state_words) n ≡ n
any_limit n = go (covers_exactly (n * state_words) n)
  where
    go : (covers_of (n * state_words) n ≤ n)
        × (covers_of (n * state_words) n * state_words ≤ n * state_words)
        × ((covers_of (n * state_words) n ≡ n) ⊎ (n * state_words < (covers_of (n * state_words) n + 1) * state_words))
        → covers_of (n * state_words) n ≡ n
    go (l, m, inl e) = e
    go (l, m, inr h) = omega arith

-- a case none of whose distinct states reaches: it has one
pub unmet_readable : reads_back unmet ≡ true
unfolding unmet testing_computes
unmet_readable = refl

pub unmet_state : distinct_of (ptso unmet.program) (lanes_of unmet.program) ≡ here (start_of unmet.program) ∷ []
unfolding unmet reading_computes asking_computes distinct_of firsts among
unmet_state = refl

pub unmet_none :
    None (reaches unmet.ask) (distinct_of (ptso unmet.program) (lanes_of unmet.program))
unfolding unmet reading_computes asking_computes distinct_of firsts among recall_of
unmet_none =
    ((recall_unreachable_exactly (ptso unmet.program) (lanes_of unmet.program) (reaches unmet.ask) 1).0 refl).1

-- a question that is not, whatever is asked: of a budget of none
pub budget_none : (p : Program) → ProgramFits p → (a : Ask) → ask_of (ptso p) (reaches a) 0 ≡ undecided
unfolding None Listed
budget_none p fits a =
    let w = walk_first (ptso p) (ptso_lawful p fits) in
    (undecided_exactly (ptso p) (reaches a) 0).1 (rw w.1 (omega arith), (λ v h. absurd h))

-- lent bytes that are long enough for the file, and none
pub example_length : length (encode_of example) ≡ 44
unfolding example empty_case writing_computes
example_length = refl

pub example_stored : wrote_of example (replicate 100 0) ≡ Ok 44
unfolding wrote_of pick
example_stored = rw (true_not _ example_readable, example_length) refl

pub example_untouched : wrote_of example [] ≡ Err Short
unfolding wrote_of pick
example_untouched = rw (true_not _ example_readable, example_length) refl
