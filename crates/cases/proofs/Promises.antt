-- What cases promises to the layers above: all that they may cite. Each law is stated in full. Assumes nothing.
use Prim.Native.Nat.{ℕ, suc, ◌+◌, ◌*◌, ◌^◌, ◌<◌, ◌≤◌}
use mathlib.Core.Path.{◌≡◌, refl, sym, ap, ◌∙◌}
use mathlib.Core.Logic.{◌≢◌, ◌↔◌}
use mathlib.Core.List.{List, [], ◌++◌}
use mathlib.Core.Bool.{true, false}
use lib.ListN.{length, get_or, take, drop}
use lib.Seq.{take_at, drop-length}
use borrow.Author.Tests.{eqb-true, eq-eqb}
use native.Mathlib.Omega.{arith}
use Rattle.std.specs.declared.result.Result.TheVariants.{Ok, Err}
use Rattle.cases.specs.declared.case.Step.{Step}
use Rattle.cases.specs.declared.case.Program.{Program}
use Rattle.cases.specs.declared.case.Case.{Case}
use Rattle.cases.specs.declared.draft.Draft.{Draft}
use Rattle.cases.specs.declared.record.Record.{Record}
use Rattle.cases.specs.declared.reader.Answer.TheVariants.{Whole}
use Rattle.cases.specs.declared.writer.Unwritten.{Unwritten}
use Rattle.cases.specs.Sizes.{most_threads, most_steps, longest, longest_record, step_size}
use Rattle.cases.specs.Choice.{both}
use Rattle.cases.specs.Bytes.{IsBytes, half}
use Rattle.cases.specs.Lines.{own_version, line_version}
use Rattle.cases.specs.Record.{record_of, open_no, size_of}
use Rattle.cases.specs.Checks.{limits_of, step_fault, fault_of}
use Rattle.cases.specs.Draft.{no_step, empty_case, run_with, with_run, with_version, blank_draft, add_of}
use Rattle.cases.specs.Reading.{number_of, offset_of, refused_of, read_from, read_of, unread_of}
use Rattle.cases.specs.Seats.{encode_of, steps_bytes}
use Rattle.cases.specs.Ranges.{ProgramFits, RegistersSet, Ranged}
use Rattle.cases.specs.Writing.{reads_as, reads_back, wrote_of, written_of}
use Rattle.cases.proofs.ChoiceLaws.{both_true}
use Rattle.cases.proofs.reader.ReadLaws as ReadLaws
use Rattle.cases.proofs.reader.RoundTripLaws.{round_trip}
use Rattle.cases.proofs.reader.PrefixLaws.{read_prefix, read_fuel_same}
use Rattle.cases.proofs.draft.BytewiseLaws.{sound_bytes}
use Rattle.cases.proofs.draft.RangedLaws as RangedLaws
use Rattle.cases.proofs.draft.RangedLaws.{sound_ranged}
use Rattle.cases.proofs.parts.StepsLaws.{steps_length, steps_file_more}
use Rattle.cases.proofs.parts.OtherRunLaws.{run_steps, other_readable}
use Rattle.cases.proofs.parts.TwinLaws as TwinLaws
use Rattle.cases.proofs.writer.WriteLaws.{write_stored_as, write_stored_is, write_untouched_is}
use Rattle.cases.proofs.writer.SameLaws.{case_is, case_self}

-- Reading any bytes at all
module _ (s : List ℕ) where
  -- a reading answers 0 or a refusal of the table, 1 to 10
  pub number_in_table : number_of (read_of s).answer ≤ 10
  number_in_table = (round_trip s).table

  -- a refusal hands out only the fixed empty case
  pub refusal_hands_out_nothing : number_of (read_of s).answer ≢ 0 → (read_of s).case ≡ empty_case
  refusal_hands_out_nothing = (round_trip s).hands

  -- a faulty record starts within the input
  pub offset_within : offset_of (read_of s).answer ≤ length s
  offset_within = omega (arith, (round_trip s).within)

  -- and at most at the longest file's length
  pub offset_low : offset_of (read_of s).answer ≤ longest
  offset_low = (round_trip s).early

  -- so number and 256 times the offset fit 32 bits
  pub packed_fits : number_of (read_of s).answer + 256 * offset_of (read_of s).answer < 2 ^ 32
  packed_fits = omega (arith, number_in_table, offset_low)

  -- a success has read all of the input
  pub success_whole : number_of (read_of s).answer ≡ 0 → (read_of s).answer ≡ Whole (length s)
  success_whole h = (round_trip s).ends h ∙ ap Whole (omega arith)

  -- and leaves the empty rest
  pub success_rest : number_of (read_of s).answer ≡ 0 → unread_of s ≡ []
  unfolding unread_of
  success_rest h = rw (success_whole h) (drop-length s)

  -- no byte behind the longest file and one record more is looked at
  pub prefix_decides : (m : ℕ) → longest + longest_record ≤ m → read_of (take m s) ≡ read_of s
  prefix_decides m h = read_prefix s m h

  -- the number that the definition counts down never decides
  pub fuel_never_decides : (n : ℕ) → length s < n → read_from n blank_draft 0 s ≡ read_of s
  unfolding read_of
  fuel_never_decides n h = read_fuel_same (suc (length s)) n blank_draft 0 s (omega arith) h

-- "Records are checked from the left; the first faulty one decides." s is what is left to read, `at` its
-- offset, d what was read before it
module _ (n : ℕ) (d : Draft) (at : ℕ) (s : List ℕ) (some : length s ≢ 0) where
  pub unopened_decides : open_no s ≢ 0 → read_from (suc n) d at s ≡ refused_of (open_no s) at
  unopened_decides = ReadLaws.unopened_decides n d at s some

  pub faulty_decides : open_no s ≡ 0
      → fault_of d (record_of (half s 2) s) ≢ 0
      → read_from (suc n) d at s ≡ refused_of (fault_of d (record_of (half s 2) s)) at
  faulty_decides = ReadLaws.faulty_decides n d at s some

  pub sound_goes_on : open_no s ≡ 0
      → fault_of d (record_of (half s 2) s) ≡ 0
      → read_from (suc n) d at s
      ≡ read_from n (add_of d (record_of (half s 2) s)) (at + size_of s) (drop (size_of s) s)
  sound_goes_on = ReadLaws.sound_goes_on n d at s some

-- "Records run to the end of the input." Where it ends before any record it is refused, since one must start
-- there; where it ends behind one, reading succeeds with its length and the case so far
pub nothing_given_refused : read_of [] ≡ refused_of 1 0
nothing_given_refused = ReadLaws.nothing_given_refused

pub end_behind_a_record_succeeds : (n : ℕ) (d : Draft) (at : ℕ) → d.kind ≢ 0
    → read_from (suc n) d at [] ≡ record { answer = Whole at; case = d.case }
end_behind_a_record_succeeds = ReadLaws.end_behind_a_record_succeeds

pub record_is_behind : (d : Draft) (r : Record) → (add_of d r).kind ≢ 0
record_is_behind = ReadLaws.record_is_behind

-- "A case written and read back is the same case, and the same bytes."
-- any bytes that read give, written, the same bytes
pub write_after_read : (s : List ℕ) → IsBytes s → number_of (read_of s).answer ≡ 0
    → encode_of (read_of s).case ≡ s
write_after_read s b h = (round_trip s).back b h

-- and a case that passes the test for 32
pub read_reads_back : (s : List ℕ) → IsBytes s → number_of (read_of s).answer ≡ 0
    → reads_back (read_of s).case ≡ true
unfolding reads_back reads_as both
read_reads_back s b h = rw (write_after_read s b h, eq-eqb _ 0 h) (case_self (read_of s).case)

-- so the writer does not refuse it, and stores those very bytes, wherever they fit
pub read_writes : (s : List ℕ) → IsBytes s → number_of (read_of s).answer ≡ 0
    → (out : List ℕ) → length s ≤ length out
    → (wrote_of (read_of s).case out ≡ Ok (length s))
    × (written_of (read_of s).case out ≡ s ++ drop (length s) out)
read_writes s b h out room =
    write_stored_as (read_of s).case out (read_reads_back s b h) s (write_after_read s b h) room

-- a case that is handed out with 0 has every number in range
pub read_ranged : (s : List ℕ) → number_of (read_of s).answer ≡ 0 → Ranged (read_of s).case
read_ranged s h =
    let d = (round_trip s).sound h in
    rw (sym d.3) at (sound_ranged d.0 d.1 d.2)

-- a thread of a program that fits is one that there may be
pub thread_low : {p : Program} → ProgramFits p → {t : ℕ} → t < p.threads → t < most_threads
thread_low = RangedLaws.thread_low

-- A case that passes the test for 32
module _ (c : Case) (readable : reads_back c ≡ true) where
  file_number : number_of (read_of (encode_of c)).answer ≡ 0
  unfolding reads_back reads_as
  file_number = eqb-true _ _ (both_true _ _ readable).0

  file_case : (read_of (encode_of c)).case ≡ c
  unfolding reads_back reads_as
  file_case = sym (case_is c _ (both_true _ _ readable).1)

  -- its file reads as that very case, with 0
  pub read_after_write : read_of (encode_of c) ≡ record { answer = Whole (length (encode_of c)); case = c }
  read_after_write =
      let answer = success_whole (encode_of c) file_number in
      let case = file_case in
      λ i. record { answer = answer i; case = case i }

  -- its file is made of bytes
  pub file_bytes : IsBytes (encode_of c)
  file_bytes =
      let d = (round_trip (encode_of c)).sound file_number in
      rw (sym d.3 ∙ file_case) at (sound_bytes d.0 d.1 d.2)

  -- and every number of it is in range
  pub readable_ranged : Ranged c
  readable_ranged = rw file_case at (read_ranged (encode_of c) file_number)

  -- and no instruction needs a register that none before it in its thread sets
  pub registers_set : RegistersSet c.program
  registers_set = readable_ranged.registers

  -- its run is its steps, and nothing stands behind them
  pub run_is : c.run ≡ run_with (take c.run.count c.run.steps)
  run_is = rw file_case at (run_steps (encode_of c) file_bytes file_number)

  -- with other steps that pass the checks 5 and 8 it passes the test too
  pub other_run_reads_back : (ks : List Step) → length ks ≤ most_steps
      → ((i : ℕ) → i < length ks → step_fault (limits_of c.program) (get_or ks i no_step) ≡ 0)
      → reads_back (with_run c (run_with ks)) ≡ true
  other_run_reads_back = rw file_case at (other_readable (encode_of c) file_bytes file_number)

-- the file of any case with the steps ks: the file without steps, and behind it the steps' records
pub other_run_file : (c : Case) (ks : List Step) → length ks ≤ most_steps
    → encode_of (with_run c (run_with ks)) ≡ encode_of (with_run c (run_with [])) ++ steps_bytes ks
other_run_file c ks few = steps_file_more c ks [] (omega arith)

-- eight bytes for each step
pub steps_bytes_length : (ks : List Step) → length (steps_bytes ks) ≡ step_size * length ks
steps_bytes_length ks = steps_length ks

-- 32 refuses a case exactly when no byte string reads as it
pub readable_exactly : (c : Case)
    → (reads_back c ≡ true)
    ↔ ((s : List ℕ) × IsBytes s × (number_of (read_of s).answer ≡ 0) × ((read_of s).case ≡ c))
readable_exactly c = (
  (λ h. (encode_of c, file_bytes c h, file_number c h, file_case c h)),
  (λ e. rw e.3 at (read_reads_back e.0 e.1 e.2)),
)

-- "Refusals .. store nothing."
pub refusal_stores_nothing : (c : Case) (out : List ℕ) (m : Unwritten) → wrote_of c out ≡ Err m
    → written_of c out ≡ out
refusal_stores_nothing c out m h = write_untouched_is c out m h

-- "A success writes from the front and touches nothing behind."
pub success_from_the_front : (c : Case) (out : List ℕ) (n : ℕ) → wrote_of c out ≡ Ok n
    → (n ≡ length (encode_of c)) × (written_of c out ≡ encode_of c ++ drop n out)
success_from_the_front c out n h =
    let e = write_stored_is c out n h in
    (e.1, rw e.1 e.2)

-- what was written at the front of lent bytes reads as the case, whatever stood there
pub written_reads : (c : Case) (out : List ℕ) (n : ℕ) → wrote_of c out ≡ Ok n
    → read_of (take n (written_of c out)) ≡ record { answer = Whole n; case = c }
written_reads c out n h =
    let e = write_stored_is c out n h in
    let front = take_at (encode_of c) (drop (length (encode_of c)) out) (length (encode_of c)) refl in
    rw (e.1, e.2, front) (read_after_write c e.0)

-- two readable cases with the same bytes are the same case
pub same_bytes_same_case : (c d : Case) → reads_back c ≡ true → reads_back d ≡ true
    → encode_of c ≡ encode_of d
    → c ≡ d
same_bytes_same_case c d h k e =
    sym (file_case c h) ∙ ap (λ (s : List ℕ). (read_of s).case) e ∙ file_case d k

-- "Version 1 means a line each": a case of version 1 that can be read is, as one of version 2, a case that can be read
pub twin_reads_back : (c : Case) → reads_back c ≡ true → c.version ≡ own_version
    → reads_back (with_version c line_version) ≡ true
twin_reads_back c readable one =
    let f = (readable_exactly c).0 readable in
    let t = TwinLaws.twin_reads f.0 f.1 f.2 (ap (λ (x : Case). x.version) f.3 ∙ one) in
    (readable_exactly (with_version c line_version)).1
    (t.0, t.1, t.2, t.3 ∙ ap (λ (x : Case). with_version x line_version) f.3)

-- The version is kept: cases of different versions write different bytes
pub version_differs : (c d : Case) → reads_back c ≡ true → reads_back d ≡ true
    → c.version ≢ d.version
    → encode_of c ≢ encode_of d
version_differs c d h k other e = other (ap (λ (x : Case). x.version) (same_bytes_same_case c d h k e))

-- "Not wanted" and "wanted 0" are different cases that write different bytes
pub not_wanted_differs : (c d : Case) (l : ℕ) → reads_back c ≡ true → reads_back d ≡ true
    → get_or c.ask.wanted l false ≡ false
    → get_or d.ask.wanted l false ≡ true
    → encode_of c ≢ encode_of d
not_wanted_differs c d l h k p q e =
    let same = ap (λ (x : Case). get_or x.ask.wanted l false) (same_bytes_same_case c d h k e) in
    let z : ◌≡◌ {A = ℕ} 0 1 = cc in
    omega arith
