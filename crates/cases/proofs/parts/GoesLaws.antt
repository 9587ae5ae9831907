-- Reading in parts: some bytes are read behind a draft, whatever comes behind them.
--   Begins p r    whatever comes behind the bytes p, they are the record r
--   Goes d p e    whatever comes behind the bytes p, reading them behind the draft d comes to the draft e
-- Assumes nothing.
use Prim.Native.Nat.{ℕ, suc, ◌+◌, ◌-◌, ◌<◌, ◌≤◌}
use mathlib.Core.Path.{◌≡◌, refl, sym, ap, ◌∙◌}
use mathlib.Core.Bool.{false}
use mathlib.Core.Logic.{◌≢◌}
use mathlib.Core.List.{List, [], ◌++◌, append_assoc, append-nil}
use lib.ListN.{length, get_or, take, length-append, get_or-append}
use lib.Seq.{length-take-le, get_or-take, drop_at}
use lib.Dec.{eqb}
use borrow.Author.Tests.{le-ltb, ne_eqb}
use native.Mathlib.Nat.{zero-add, add-zero}
use native.Mathlib.Numerals.{one-add}
use native.Mathlib.Omega.{arith}
use Rattle.cases.specs.declared.case.Step.{Step}
use Rattle.cases.specs.declared.draft.Draft.{Draft}
use Rattle.cases.specs.declared.record.Record.{Record}
use Rattle.cases.specs.declared.record.Record.TheVariants.{Take}
use Rattle.cases.specs.declared.reader.Answer.TheVariants.{Whole}
use Rattle.cases.specs.declared.reader.Reading.{Reading}
use Rattle.cases.specs.Choice.{pick, either, refuse}
use Rattle.cases.specs.Bytes.{half, word_at, half_bytes}
use Rattle.cases.specs.Record.{payload_of, spare_of, mislong, payload_bytes, record_bytes, record_of}
use Rattle.cases.specs.Record.{open_no, size_of, line_byte, as_header, as_write, as_instruction, as_step}
use Rattle.cases.specs.Checks.{fault_of}
use Rattle.cases.specs.Draft.{blank_draft, add_of}
use Rattle.cases.specs.Reading.{ended_of, read_from, read_of}
use Rattle.cases.proofs.ChoiceLaws.{pick_false}
use Rattle.cases.proofs.bytes.BytesLaws.{half_same, word_same}
use Rattle.cases.proofs.lines.LineTableLaws.{table_same}
use Rattle.cases.proofs.record.OpenLaws.{open_whole, open_lengths, kind_cases}
use Rattle.cases.proofs.reader.ReadLaws.{as_record, read_cases}
use Rattle.cases.proofs.reader.PrefixLaws.{read_fuel_same}

-- a record opens where its kind has a payload, its length is one of that kind, and it is whole
pub opens : (t : List ℕ) → payload_of (half t 2) ≢ 0 → mislong (half t 2) (half t 0) ≡ false
    → 4 + half t 0 ≤ length t
    → open_no t ≡ 0
unfolding open_no refuse
opens t known right within =
    simp (
      le-ltb (length t) 4 (omega arith),
      ne_eqb _ _ known,
      right,
      le-ltb (length t - 4) (half t 0) (omega arith),
    )

-- A list that starts with the bytes of a record that opens
module _ (t u : List ℕ) (o : open_no t ≡ 0) (long : size_of t ≤ length u)
    (same : (i : ℕ) → i < size_of t → get_or u i 0 ≡ get_or t i 0) where
  half_front : (i : ℕ) → i + 1 < size_of t → half u i ≡ half t i
  half_front = half_same t u (size_of t) same

  word_front : (i : ℕ) → i + 3 < size_of t → word_at u i ≡ word_at t i
  word_front = word_same t u (size_of t) same

  record_front : (k : ℕ) → payload_of k ≢ 0 → 4 + payload_of k ≤ size_of t → record_of k u ≡ record_of k t
  unfolding record_of as_header as_write as_instruction as_step payload_of pick size_of
  record_front =
      kind_cases (λ (k : ℕ). 4 + payload_of k ≤ size_of t → record_of k u ≡ record_of k t)
      (λ n. let long : 8 ≤ size_of t = n in
      rw (
        half_front 0 (omega arith),
        half_front 4 (omega arith),
        same 6 (omega arith),
        same 7 (omega arith),
        table_same (line_byte u) (line_byte t) (half t 0 - 4) (λ l low h. same (8 + l) (omega arith)),
      ))
      (λ n. rw (same 4 (omega arith), word_front 5 (omega arith)))
      (λ n. rw (
        same 4 (omega arith),
        same 5 (omega arith),
        same 6 (omega arith),
        same 7 (omega arith),
        word_front 8 (omega arith),
      ))
      (λ n. rw (same 4 (omega arith), word_front 5 (omega arith)))
      (λ n. rw (same 4 (omega arith), same 5 (omega arith)))
      (λ n. rw (same 4 (omega arith), same 5 (omega arith), same 6 (omega arith), same 7 (omega arith)))

  -- it starts with that record
  front_is : (open_no u ≡ 0) × (as_record u ≡ as_record t) × (size_of u ≡ size_of t)
  unfolding size_of
  front_is =
      let w = open_whole t o in
      let size = half_front 0 (omega (arith, w.head)) in
      let kind = half_front 2 (omega (arith, w.head)) in
      let least = (open_lengths (half t 2) (half t 0) w.right).0 in
      let is = record_front (half t 2) w.known (omega arith) in (
        opens u (rw kind w.known) (rw (kind, size) w.right) (omega arith),
        rw kind is,
        rw size,
      )

pub record Begins (p : List ℕ) (r : Record) : Type 0 where
  pub opened : (x : List ℕ) → open_no (p ++ x) ≡ 0
  pub is : (x : List ℕ) → as_record (p ++ x) ≡ r
  pub size : (x : List ℕ) → size_of (p ++ x) ≡ length p

-- the bytes that a record was read from; a step's own bytes
pub front_begins : (t : List ℕ) → open_no t ≡ 0 → Begins (take (size_of t) t) (as_record t)
front_begins t o = record { opened = λ x. (all x).0; is = λ x. (all x).1; size = λ x. (all x).2 ∙ sym long }
  where
    long : length (take (size_of t) t) ≡ size_of t
    long = length-take-le (size_of t) t (open_whole t o).within

    all : (x : List ℕ) → (open_no (take (size_of t) t ++ x) ≡ 0)
        × (as_record (take (size_of t) t ++ x) ≡ as_record t)
        × (size_of (take (size_of t) t ++ x) ≡ size_of t)
    all x =
        front_is t (take (size_of t) t ++ x) o (omega (arith, length-append (take (size_of t) t) x, long))
        (λ i h. get_or-append (take (size_of t) t) x 0 i (omega (arith, long)) ∙ get_or-take (size_of t) t i 0 h)

pub step_begins : (k : Step) → Begins (record_bytes (Take k)) (Take k)
unfolding record_bytes payload_bytes half_bytes payload_of spare_of mislong either pick half size_of record_of as_step
step_begins k =
    record {
      opened = λ x. opens (record_bytes (Take k) ++ x) (λ z. omega arith) refl (omega arith);
      is = λ x. refl;
      size = λ x. refl;
    }

pub record Goes (d : Draft) (p : List ℕ) (e : Draft) : Type 0 where
  pub records : ℕ
  pub reads : (n at : ℕ) (x : List ℕ) → read_from (records + n) d at (p ++ x) ≡ read_from n e (at + length p) x

-- no record; a faultless one; one part behind the other
pub goes_none : (d : Draft) → Goes d [] d
goes_none d = record { records = 0; reads = λ n at x. rw (zero-add n, add-zero at) }

pub goes_one : (d : Draft) (p : List ℕ) (r : Record) → Begins p r → fault_of d r ≡ 0 → Goes d p (add_of d r)
goes_one d p r b f = record { records = 1; reads = λ n at x. rw (one-add n) (turn n at x) }
  where
    turn : (n at : ℕ) (x : List ℕ)
        → read_from (suc n) d at (p ++ x) ≡ read_from n (add_of d r) (at + length p) x
    turn n at x =
        let w = open_whole (p ++ x) (b.opened x) in
        read_cases (λ (y : Reading). y ≡ read_from n (add_of d r) (at + length p) x) n d at (p ++ x)
        (λ z. absurd (omega (arith, w.head, w.within)))
        (λ m z o. absurd (omega (arith, b.opened x)))
        (λ m z o g. absurd (omega (arith, ap (fault_of d) (b.is x))))
        (λ z o g. rw (b.is x, b.size x, drop_at p x (length p) refl))

pub goes_both : (d e f : Draft) (p q : List ℕ) → Goes d p e → Goes e q f → Goes d (p ++ q) f
goes_both d e f p q g h =
    record {
      records = g.records + h.records;
      reads = λ n at x.
          let more : g.records + h.records + n ≡ g.records + (h.records + n) = omega arith in
          rw (append_assoc p q x, more)
          (g.reads (h.records + n) at (q ++ x)
          ∙ h.reads n (at + length p) x
          ∙ ap (λ (a : ℕ). read_from n f a x) (omega (arith, length-append p q)));
    }

-- bytes that come to a draft with a record read as its case
pub goes_whole : (s : List ℕ) (e : Draft) → Goes blank_draft s e → e.kind ≢ 0
    → read_of s ≡ record { answer = Whole (length s); case = e.case }
unfolding read_of read_from ended_of
goes_whole s e g k =
    let n : ℕ = suc (length s) in
    read_fuel_same (g.records + n) n blank_draft 0 s (omega arith) (omega arith)
    ∙ ap (read_from (g.records + n) blank_draft 0) (sym (append-nil s))
    ∙ rw zero-add at (g.reads n 0 [])
    ∙ pick_false (eqb e.kind 0) _ _ (ne_eqb e.kind 0 k)
