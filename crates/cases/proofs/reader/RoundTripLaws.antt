-- Reading, from the first record to the last: the draft stays sound, the offset is the length of what is read,
-- and what is read, written again, is the same bytes.
--   RoundTripTold done t r   what is known of the answer r of reading t, which lies behind the bytes `done`
--   ToldFrom n d t   the same of reading t behind the draft d, where those bytes are its case's file
-- Assumes nothing.
use Prim.Native.Nat.{ℕ, zero, suc, ◌+◌, ◌<◌, ◌≤◌}
use mathlib.Core.Path.{◌≡◌, refl, sym, ap, ◌∙◌}
use mathlib.Core.Logic.{◌≢◌}
use mathlib.Core.List.{List, [], ◌++◌, append_assoc, append-nil}
use lib.ListN.{length, take, length-append, length-drop, take-append-drop}
use lib.Dec.{eqb}
use borrow.Author.Tests.{ne_eqb}
use borrow.Author.Rules.{rules}
use native.Mathlib.Omega.{arith}
use Rattle.cases.specs.declared.draft.Draft.{Draft}
use Rattle.cases.specs.declared.record.Record.{Record}
use Rattle.cases.specs.declared.record.Record.TheVariants.{Declare, First, Instruct, Want, Passed, Take}
use Rattle.cases.specs.declared.reader.Answer.TheVariants.{Whole}
use Rattle.cases.specs.declared.reader.Reading.{Reading}
use Rattle.cases.specs.Sizes.{longest}
use Rattle.cases.specs.Choice.{pick}
use Rattle.cases.specs.Bytes.{half, IsBytes}
use Rattle.cases.specs.Record.{record_bytes, open_no, size_of}
use Rattle.cases.specs.Checks.{fault_of}
use Rattle.cases.specs.Draft.{empty_case, blank_draft, add_of}
use Rattle.cases.specs.Reading.{number_of, offset_of, refused_of, ended_of, read_from, read_of}
use Rattle.cases.specs.Seats.{encode_of}
use Rattle.cases.proofs.ChoiceLaws.{refuse_most, pick_false}
use Rattle.cases.proofs.ArrayLaws.{length_none}
use Rattle.cases.proofs.draft.SoundLaws.{Sound}
use Rattle.cases.proofs.draft.AddLaws.{add_record}
use Rattle.cases.proofs.seats.EncodeLengthLaws.{encode_length}
use Rattle.cases.proofs.bytes.BytesLaws.{bytes_drop}
use Rattle.cases.proofs.record.OpenLaws.{open_whole, open_size, open_bytes}
use Rattle.cases.proofs.reader.ReadLaws.{as_record, behind, read_cases}
use Rattle.cases.proofs.draft.BegunLaws.{blank_first, begun_longer, begun_sound}

-- the numbers are those of the table
open_most : (t : List ℕ) → open_no t ≤ 10
unfolding open_no
open_most t = search (refuse_most, rules) depth 12

fault_most : (d : Draft) (r : Record) → fault_of d r ≤ 10
unfolding fault_of
fault_most d (Declare h) = search (refuse_most, rules) depth 12
fault_most d (First w) = search (refuse_most, rules) depth 12
fault_most d (Instruct t x) = search (refuse_most, rules) depth 12
fault_most d (Want w) = search (refuse_most, rules) depth 12
fault_most d (Passed t n) = search (refuse_most, rules) depth 12
fault_most d (Take k) = search (refuse_most, rules) depth 12

pub record RoundTripTold (done t : List ℕ) (r : Reading) : Type 0 where
  pub within : offset_of r.answer ≤ length done + length t
  pub early : offset_of r.answer ≤ longest
  pub ends : number_of r.answer ≡ 0 → r.answer ≡ Whole (length done + length t)
  pub table : number_of r.answer ≤ 10
  pub hands : number_of r.answer ≢ 0 → r.case ≡ empty_case
  pub sound : number_of r.answer ≡ 0 → (d : Draft) × (front : ℕ) × Sound d front × (r.case ≡ d.case)
  pub back : IsBytes t → number_of r.answer ≡ 0 → encode_of r.case ≡ done ++ t

-- a refusal at the start of t
told_refused : (done t : List ℕ) (m : ℕ) → length done ≤ longest → suc m ≤ 10
    → RoundTripTold done t (refused_of (suc m) (length done))
unfolding refused_of
told_refused done t m low most =
    record {
      within = omega arith;
      early = low;
      ends = λ z. absurd (omega arith);
      table = most;
      hands = λ z. refl;
      sound = λ z. absurd (omega arith);
      back = λ b z. absurd (omega arith);
    }

-- a record was read, and what follows is told
told_next : (done t : List ℕ) (r : Reading) (more : List ℕ) → open_no t ≡ 0
    → length more ≡ size_of t
    → (IsBytes t → more ≡ take (size_of t) t)
    → RoundTripTold (done ++ more) (behind t) r
    → RoundTripTold done t r
told_next done t r more op long same told =
    let w = (open_whole t op).within in
    let a = length-append done more in
    let b = length-drop (size_of t) t in
    record {
      within = omega (arith, told.within);
      early = told.early;
      ends = λ z. told.ends z ∙ ap Whole (omega arith);
      table = told.table;
      hands = told.hands;
      sound = told.sound;
      back = λ i z. told.back (bytes_drop (size_of t) t i) z
          ∙ append_assoc done more (behind t)
          ∙ ap (λ (x : List ℕ). done ++ (x ++ behind t)) (same i)
          ∙ ap (λ (x : List ℕ). done ++ x) (take-append-drop (size_of t) t);
    }

-- nothing is left behind a sound draft
told_ended : (d : Draft) (front : ℕ) (t : List ℕ) → Sound d front → length t ≡ 0
    → RoundTripTold (encode_of d.case) t (ended_of d (length (encode_of d.case)))
unfolding ended_of
told_ended d front t s z =
    rw (pick_false (eqb d.kind 0) _ _ (ne_eqb d.kind 0 (λ e. omega (arith, s.fronts.begun))))
    (record {
      within = omega arith;
      early = encode_length d.case;
      ends = λ e. ap Whole (omega arith);
      table = omega arith;
      hands = λ e. absurd (e refl);
      sound = λ e. (d, front, s, refl);
      back = λ b e. sym (append-nil (encode_of d.case))
          ∙ ap (λ (x : List ℕ). encode_of d.case ++ x) (sym (length_none t z));
    })

-- a record's bytes behind those of a case are as long as its head says
pub round_trip_longer : (done t : List ℕ) → open_no t ≡ 0
    → length (done ++ record_bytes (as_record t)) ≡ length done + size_of t
round_trip_longer done t o =
    length-append done (record_bytes (as_record t)) ∙ ap (λ (n : ℕ). length done + n) (open_size t o)

abbrev ToldFrom : ℕ → Draft → List ℕ → Type 0
ToldFrom n d t = RoundTripTold (encode_of d.case) t (read_from n d (length (encode_of d.case)) t)

-- a record was added, and what follows it is told
told_added : (done t : List ℕ) (n : ℕ) (e : Draft) → open_no t ≡ 0
    → encode_of e.case ≡ done ++ record_bytes (as_record t)
    → ToldFrom n e (behind t)
    → RoundTripTold done t (read_from n e (length done + size_of t) (behind t))
told_added done t n e o longer told =
    told_next done t _ (record_bytes (as_record t)) o (open_size t o) (λ b. open_bytes t b o)
    (rw (longer, round_trip_longer done t o) at told)

-- less is left behind a record
pub round_trip_less : (t : List ℕ) (n : ℕ) → open_no t ≡ 0 → length t < suc n → length (behind t) < n
round_trip_less t n o f = let w = open_whole t o in omega (arith, length-drop (size_of t) t, w.head, w.within)

-- a turn of reading, if what follows is told: behind a sound draft, and from the start
module _ (n : ℕ) (t : List ℕ)
    (next : open_no t ≡ 0 → (d : Draft) (front : ℕ) → Sound d front → ToldFrom n d (behind t)) where
  told_turn : (d : Draft) (front : ℕ) → Sound d front → ToldFrom (suc n) d t
  told_turn d front s =
      read_cases (RoundTripTold (encode_of d.case) t) n d (length (encode_of d.case)) t
      (λ z. told_ended d front t s z)
      (λ m z o. told_refused _ t m (encode_length d.case) (omega (arith, open_most t)))
      (λ m z o g. told_refused _ t m (encode_length d.case) (omega (arith, fault_most d (as_record t))))
      (λ z o g. let a = add_record d front s (as_record t) g in
      told_added (encode_of d.case) t n (add_of d (as_record t)) o a.longer (next o _ _ a.sound))

  told_first : RoundTripTold [] t (read_from (suc n) blank_draft 0 t)
  unfolding ended_of blank_draft pick
  told_first =
      read_cases (RoundTripTold [] t) n blank_draft 0 t
      (λ z. told_refused [] t 0 (omega arith) (omega arith))
      (λ m z o. told_refused [] t m (omega arith) (omega (arith, open_most t)))
      (λ m z o g. told_refused [] t m (omega arith) (omega (arith, fault_most blank_draft (as_record t))))
      (λ z o g. let b = blank_first (half t 2) t g in
      told_added [] t n (add_of blank_draft (as_record t)) o
      (rw b.1 (begun_longer b.0 b.2)) (next o _ 1 (rw b.1 (begun_sound b.0 b.2))))

-- what reading behind a sound draft answers
read_told : (n : ℕ) (d : Draft) (front : ℕ) (t : List ℕ) → length t < n → Sound d front → ToldFrom n d t
read_told zero d front t f s = absurd (omega arith)
read_told (suc n) d front t f s =
    told_turn n t (λ o e g h. read_told n e g (behind t) (round_trip_less t n o f) h) d front s

-- what reading answers
pub round_trip : (s : List ℕ) → RoundTripTold [] s (read_of s)
unfolding read_of
round_trip s =
    told_first (length s) s (λ o e g h.
    read_told (length s) e g (behind s) (round_trip_less s (length s) o (omega arith)) h)
