-- Demand 1, sentence by sentence. What a function answers is a definition's value, so that each input has one
-- answer (the contracts: docs/SIGNATURES.md); here is what these values are. Assumes nothing.
use Prim.Native.Nat.{ℕ, suc, ◌+◌, ◌-◌, ◌*◌, ◌≤◌}
use mathlib.Core.Path.{◌≡◌, refl}
use mathlib.Core.Logic.{◌⊎◌, ◌≢◌, ◌↔◌}
use mathlib.Core.Bool.{true, false, not}
use mathlib.Core.List.{List, []}
use lib.ListN.{length, drop}
use lib.Dec.{eqb, ltb}
use Rattle.std.specs.Prelude.{Err}
use Rattle.cases.specs.declared.case.Step.{Step}
use Rattle.cases.specs.declared.case.Case.{Case}
use Rattle.cases.specs.declared.draft.Draft.{Draft}
use Rattle.cases.specs.declared.record.Record.{Record}
use Rattle.cases.specs.declared.record.Record.TheVariants.{Declare, First, Instruct, Want, Passed, Take}
use Rattle.cases.specs.declared.reader.Answer.TheVariants.{Whole}
use Rattle.std.specs.declared.result.Result.TheVariants.{Ok, Err}
use Rattle.cases.specs.declared.writer.Unwritten.{Unwritten}
use Rattle.cases.specs.declared.writer.Unwritten.TheVariants.{Unreadable, Short}
use Rattle.cases.specs.Choice.{pick, refuse}
use Rattle.cases.specs.Bytes.{IsBytes, half}
use Rattle.cases.specs.Record.{kind_of, payload_of, mislong, record_of, open_no, size_of}
use Rattle.cases.specs.Checks.{misplaced, limits_of, step_fault, fault_of}
use Rattle.cases.specs.Draft.{empty_case, add_of}
use Rattle.cases.specs.Reading.{number_of, offset_of, refused_of, read_from, read_of}
use Rattle.cases.specs.Seats.{encode_of}
use Rattle.cases.specs.Writing.{reads_back, wrote_of, written_of}
use Rattle.cases.proofs.Promises as Cases
use Rattle.cases.proofs.ChoiceLaws.{pick_true, false_not}
use Rattle.cases.specs.Sizes.{step_size}
use Rattle.machine.specs.declared.cells.State.{State}
use Rattle.machine.specs.declared.steps.Ruling.TheVariants.{Allowed, Broken, Declined}
use Rattle.machine.specs.declared.work.Unweighed.TheVariants.{Unreadable}
use Rattle.machine.specs.Rules.{rule_of, next_of, start_of}
use Rattle.machine.specs.Blocker.{blocker_of}
use Rattle.machine.specs.Fit.{misfits}
use Rattle.machine.specs.Model.{full_length}
use Rattle.machine.specs.Judge.{work_of, full_of, verdict_no, ruling_no, told, started_of, stepped_of, step_of}
use Rattle.machine.specs.Judge.{stopped, judge_of, judge_bytes}
use Rattle.machine.specs.Ptso.{ptso}
use Rattle.machine.proofs.Promises as Machine
use Rattle.search.specs.declared.ask.Outcome.TheVariants.{Refused}
use Rattle.search.specs.Question.{reaches, ask_of, outcome_no, told_of, question_of, shown_of}
use Rattle.search.proofs.Promises as Search
use Rattle.demands.specs.Order.{out_of, mislisted_of, left_of, unordered_of, crowded_of, unset_of, overlong_of}
use Rattle.demands.proofs.answers.TableLaws as TableLaws

-- "Any bytes may be given as a case. Each is judged or refused by a number in your table,"
module _ (s : List ℕ) (bytes : IsBytes s) where
  -- the judge: 103; a rule, 21 to 29; a reading refusal, 1 to 10
  pub judged_or_refused :
      (verdict_no (judge_bytes s).verdict ≡ 103)
      ⊎ ((21 ≤ verdict_no (judge_bytes s).verdict) × (verdict_no (judge_bytes s).verdict ≤ 29))
      ⊎ ((1 ≤ verdict_no (judge_bytes s).verdict) × (verdict_no (judge_bytes s).verdict ≤ 10))
  judged_or_refused = TableLaws.judge_table s bytes

  -- the question: 100 to 102; 31; a reading refusal, 1 to 10
  pub asked_or_refused : (room b : ℕ)
      → ((100 ≤ outcome_no (question_of s room b)) × (outcome_no (question_of s room b) ≤ 102))
      ⊎ (outcome_no (question_of s room b) ≡ 31)
      ⊎ ((1 ≤ outcome_no (question_of s room b)) × (outcome_no (question_of s room b) ≤ 10))
  asked_or_refused = TableLaws.question_table s

  -- both tell the reader's number and offset where reading refuses
  pub refused_as_read : number_of (read_of s).answer ≢ 0 → (b : ℕ) (out : List ℕ)
      → (judge_bytes s ≡ stopped (number_of (read_of s).answer) (offset_of (read_of s).answer))
      × (question_of s (length out) b ≡ Refused (number_of (read_of s).answer) (offset_of (read_of s).answer))
  refused_as_read unread b out = (Machine.judge_refused s unread, Search.question_unread s b out unread)

-- "in the stated order of checks,": records from the left, and the first faulty one decides, at its own offset.
-- s is what is left to read, `at` its offset, d what was read before it
module _ (n : ℕ) (d : Draft) (at : ℕ) (s : List ℕ) (some : length s ≢ 0) where
  pub faulty_opening_decides : open_no s ≢ 0 → read_from (suc n) d at s ≡ refused_of (open_no s) at
  faulty_opening_decides = Cases.unopened_decides n d at s some

  pub faulty_record_decides : open_no s ≡ 0
      → fault_of d (record_of (half s 2) s) ≢ 0
      → read_from (suc n) d at s ≡ refused_of (fault_of d (record_of (half s 2) s)) at
  faulty_record_decides = Cases.faulty_decides n d at s some

  pub sound_record_passes : open_no s ≡ 0
      → fault_of d (record_of (half s 2) s) ≡ 0
      → read_from (suc n) d at s
      ≡ read_from n (add_of d (record_of (half s 2) s)) (at + size_of s) (drop (size_of s) s)
  sound_record_passes = Cases.sound_goes_on n d at s some

-- and where the input ends: before any record it is refused, by 1 at its start; behind a record, and so behind
-- every one that was added, reading succeeds with the length and the case so far
pub nothing_given_refused : read_of [] ≡ refused_of 1 0
nothing_given_refused = Cases.nothing_given_refused

pub end_behind_a_record_succeeds : (n : ℕ) (d : Draft) (at : ℕ)
    → d.kind ≢ 0
    → read_from (suc n) d at [] ≡ record { answer = Whole at; case = d.case }
end_behind_a_record_succeeds = Cases.end_behind_a_record_succeeds

pub record_is_behind : (d : Draft) (r : Record) → (add_of d r).kind ≢ 0
record_is_behind = Cases.record_is_behind

-- a record opens, 1 (head), 2, 3, 1 (payload)
pub order_of_opening : (s : List ℕ)
    → open_no s
    ≡ refuse (ltb (length s) 4) 1
    (refuse (eqb (payload_of (half s 2)) 0) 2
    (refuse (mislong (half s 2) (half s 0)) 3
    (refuse (ltb (length s - 4) (half s 0)) 1
    0)))
unfolding open_no
order_of_opening s = refl

-- and, of whatever kind it is, is then checked by 4, 5, 3, 8, 6, 7, 10, 9
pub order_of_checks : (d : Draft) (r : Record)
    → fault_of d r
    ≡ refuse (misplaced d.kind (kind_of r)) 4
    (refuse (out_of d r) 5
    (refuse (mislisted_of r) 3
    (refuse (left_of r) 8
    (refuse (unordered_of d r) 6
    (refuse (crowded_of d r) 7
    (refuse (unset_of d r) 10
    (refuse (overlong_of d r) 9
    0)))))))
unfolding fault_of out_of mislisted_of left_of unordered_of crowded_of unset_of overlong_of refuse
order_of_checks d (Declare h) = refl
order_of_checks d (First w) = refl
order_of_checks d (Instruct t x) = refl
order_of_checks d (Want w) = refl
order_of_checks d (Passed t n) = refl
order_of_checks d (Take k) = refl

-- the writer tests 32, then 31; the question reading, then 31; a single step 32, 33, 5 and 8, then the rules
pub order_of_writing : (c : Case) (out : List ℕ)
    → wrote_of c out
    ≡ pick (not (reads_back c)) (Err Unreadable)
    (pick (ltb (length out) (length (encode_of c))) (Err Short)
    (Ok (length (encode_of c))))
unfolding wrote_of
order_of_writing c out = refl

pub order_of_asking : (s : List ℕ) (room b : ℕ)
    → question_of s room b
    ≡ pick (not (eqb (number_of (read_of s).answer) 0))
    (Refused (number_of (read_of s).answer) (offset_of (read_of s).answer))
    (pick (ltb room (step_size * full_length (ptso (read_of s).case.program))) (Refused 31 0)
    (told_of (ask_of (ptso (read_of s).case.program) (reaches (read_of s).case.ask) b)))
order_of_asking = TableLaws.asking_order

pub order_of_stepping : (c : Case) (s : State) (k : Step)
    → step_of c s k
    ≡ pick (not (reads_back c)) (told (Declined 32) s)
    (pick (misfits c.program s) (told (Declined 33) s)
    (pick (not (eqb (step_fault (limits_of c.program) k) 0))
    (told (Declined (step_fault (limits_of c.program) k)) s)
    (pick (not (eqb (rule_of c.program s k) 0))
    (told (Broken (rule_of c.program s k) (blocker_of c.program s k)) s)
    (told Allowed (next_of c.program s k)))))
unfolding step_of stepped_of
order_of_stepping c s k = refl

-- "and a refusal changes no byte we lent." The reader and the judge are lent bytes to look at only. The writer,
-- the question, and a single step, which gives back the state:
pub writer_refuses_unchanged : (c : Case) (out : List ℕ) (m : Unwritten)
    → wrote_of c out ≡ Err m
    → written_of c out ≡ out
writer_refuses_unchanged = Cases.refusal_stores_nothing

pub question_refuses_unchanged : (s : List ℕ) (b : ℕ) (out : List ℕ)
    → outcome_no (question_of s (length out) b) ≢ 100
    → shown_of s b out ≡ out
question_refuses_unchanged = Search.only_reached_stores

pub step_refuses_unchanged : (c : Case) (s : State) (k : Step)
    → ruling_no (step_of c s k).ruling ≢ 103
    → (step_of c s k).state ≡ s
step_refuses_unchanged = Machine.refused_unchanged

-- "Nobody has to check a case first." A case in memory that no byte string reads as gets 32 from everyone
pub readable_exactly : (c : Case)
    → (reads_back c ≡ true)
    ↔ ((s : List ℕ) × IsBytes s × (number_of (read_of s).answer ≡ 0) × ((read_of s).case ≡ c))
readable_exactly = Cases.readable_exactly

module _ (c : Case) (unreadable : reads_back c ≡ false) where
  pub unchecked_writing : (out : List ℕ) → wrote_of c out ≡ Err Unreadable
  unfolding wrote_of
  unchecked_writing out = pick_true _ _ _ (false_not _ unreadable)

  pub unchecked_judging : judge_of c ≡ stopped 32 0
  unchecked_judging = Machine.judge_unreadable c unreadable

  pub unchecked_starting : started_of c ≡ told (Declined 32) (start_of empty_case.program)
  unfolding started_of
  unchecked_starting = pick_true _ _ _ (false_not _ unreadable)

  pub unchecked_stepping : (s : State) (k : Step) → step_of c s k ≡ told (Declined 32) s
  unfolding step_of
  unchecked_stepping s k = pick_true _ _ _ (false_not _ unreadable)

  pub unchecked_weighing : (s : State) → (work_of c s ≡ Err Unreadable) × (full_of c ≡ Err Unreadable)
  unfolding work_of full_of
  unchecked_weighing s = (pick_true _ _ _ (false_not _ unreadable), pick_true _ _ _ (false_not _ unreadable))
