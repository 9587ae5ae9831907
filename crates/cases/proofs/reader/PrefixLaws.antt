-- Reading looks at no byte behind the longest file and one record more.
--   SamePrefix n k d at m t   reading t behind the draft d, and reading its first m bytes, is the same
-- Assumes nothing.
use Prim.Native.Nat.{ℕ, zero, suc, ◌+◌, ◌-◌, ◌<◌, ◌≤◌}
use mathlib.Core.Path.{◌≡◌, refl, sym, ap, ◌∙◌}
use mathlib.Core.List.{List, [], ◌++◌}
use mathlib.Core.Bool.{Bool, true, false}
use lib.ListN.{length, get_or, take, length-take, length-drop}
use lib.Seq.{get_or-take, take_all}
use lib.Dec.{eqb, ltb}
use borrow.Author.Tests.{le-ltb, ltb-true, ltb-false, eqb-true}
use native.Mathlib.Omega.{arith}
use Rattle.cases.specs.declared.draft.Draft.{Draft}
use Rattle.cases.specs.declared.reader.Reading.{Reading}
use Rattle.cases.specs.Sizes.{most_locations, longest, longest_record}
use Rattle.cases.specs.Choice.{pick, refuse}
use Rattle.cases.specs.Bytes.{half, word_at}
use Rattle.cases.specs.Record.{payload_of, spare_of, mislong, record_bytes, record_of, open_no, size_of}
use Rattle.cases.specs.Record.{line_byte, as_header, as_write, as_instruction, as_step}
use Rattle.cases.specs.Checks.{fault_of}
use Rattle.cases.specs.Draft.{blank_draft, add_of}
use Rattle.cases.specs.Reading.{ended_of, refused_of, read_from, read_of}
use Rattle.cases.specs.Seats.{encode_of}
use Rattle.cases.proofs.ChoiceLaws.{pick_true, pick_false, pick_cases}
use Rattle.cases.proofs.ArrayLaws.{drop_take}
use Rattle.cases.proofs.draft.SoundLaws.{Sound}
use Rattle.cases.proofs.draft.AddLaws.{add_record}
use Rattle.cases.proofs.seats.EncodeLengthLaws.{encode_length}
use Rattle.cases.proofs.bytes.BytesLaws.{half_same, word_same}
use Rattle.cases.proofs.lines.LineTableLaws.{table_same}
use Rattle.cases.proofs.record.OpenLaws.{open_whole, open_lengths}
use Rattle.cases.proofs.reader.ReadLaws.{as_record, behind, read_cases}
use Rattle.cases.proofs.draft.BegunLaws.{blank_first, begun_longer, begun_sound}
use Rattle.cases.proofs.reader.RoundTripLaws.{round_trip_longer, round_trip_less}

-- no payload, and so no record, is longer than the longest
payload_low : (k : ℕ) → payload_of k ≤ 8
unfolding payload_of
payload_low k =
    pick_cases Low _ _ _ (λ e. omega arith) (λ e.
    pick_cases Low _ _ _ (λ e. omega arith) (λ e.
    pick_cases Low _ _ _ (λ e. omega arith) (λ e.
    pick_cases Low _ _ _ (λ e. omega arith) (λ e.
    pick_cases Low _ _ _ (λ e. omega arith) (λ e.
    pick_cases Low _ _ _ (λ e. omega arith) (λ e. omega arith))))))
  where
    Low : ℕ → Type 0
    Low n = n ≤ 8

-- the program's record has 4 bytes at least
payload_header : payload_of 1 ≡ 4
unfolding payload_of pick
payload_header = refl

payload_most : (k n : ℕ) → mislong k n ≡ false → 4 + n ≤ longest_record
unfolding spare_of
payload_most k n h = go (eqb k 1) refl
  where
    lengths : (payload_of k ≤ n) × (n ≤ payload_of k + spare_of k)
    lengths = open_lengths k n h

    go : (b : Bool) → eqb k 1 ≡ b → 4 + n ≤ longest_record
    go true e =
        let is : payload_of k ≡ 4 = ap payload_of (eqb-true k 1 e) ∙ payload_header in
        omega (arith, lengths.1, pick_true (eqb k 1) most_locations 0 e)
    go false e = omega (arith, lengths.1, payload_low k, pick_false (eqb k 1) most_locations 0 e)

size_most : (t : List ℕ) → open_no t ≡ 0 → size_of t ≤ longest_record
unfolding size_of
size_most t o = payload_most (half t 2) (half t 0) (open_whole t o).right

-- n and k are what `read_from` counts its records by
abbrev SamePrefix : (n k : ℕ) → Draft → (at m : ℕ) → List ℕ → Type 0
SamePrefix n k d at m t = read_from k d at (take m t) ≡ read_from n d at t

-- A record is read from its first bytes alone
module _ (t : List ℕ) (m : ℕ) (enough : longest_record ≤ m) where
  byte_prefix : (i : ℕ) → i < longest_record → get_or (take m t) i 0 ≡ get_or t i 0
  byte_prefix i h = get_or-take m t i 0 (omega arith)

  half_prefix : (i : ℕ) → i + 1 < longest_record → half (take m t) i ≡ half t i
  half_prefix = half_same t (take m t) longest_record byte_prefix

  word_prefix : (i : ℕ) → i + 3 < longest_record → word_at (take m t) i ≡ word_at t i
  word_prefix = word_same t (take m t) longest_record byte_prefix

  size_prefix : size_of (take m t) ≡ size_of t
  unfolding size_of
  size_prefix = rw (half_prefix 0 (omega arith))

  record_prefix : as_record (take m t) ≡ as_record t
  unfolding record_of as_header as_write as_instruction as_step
  record_prefix =
      rw (
        half_prefix 0 (omega arith),
        half_prefix 2 (omega arith),
        half_prefix 4 (omega arith),
        word_prefix 5 (omega arith),
        word_prefix 8 (omega arith),
        byte_prefix 4 (omega arith),
        byte_prefix 5 (omega arith),
        byte_prefix 6 (omega arith),
        byte_prefix 7 (omega arith),
        table_same (line_byte (take m t)) (line_byte t) (half t 0 - 4) (λ l low h. byte_prefix (8 + l) (omega arith)),
      )

  -- what the checks behind the head's say, where the input has `long` bytes
  abbrev later_no : ℕ → ℕ
  later_no long =
      refuse (eqb (payload_of (half t 2)) 0) 2
      (refuse (mislong (half t 2) (half t 0)) 3
      (refuse (ltb (long - 4) (half t 0)) 1 0))

  -- longer than what is taken: the record is cut in neither
  open_long : m < length t → open_no (take m t) ≡ open_no t
  unfolding open_no refuse
  open_long more =
      let n : length (take m t) ≡ m = omega (arith, length-take m t) in
      rw (
        half_prefix 2 (omega arith),
        half_prefix 0 (omega arith),
        n,
        le-ltb m 4 (omega arith),
        le-ltb (length t) 4 (omega arith),
      )
      (go (mislong (half t 2) (half t 0)) refl)
    where
      go : (b : Bool) → mislong (half t 2) (half t 0) ≡ b → later_no m ≡ later_no (length t)
      go false e =
          let h = payload_most (half t 2) (half t 0) e in
          rw (le-ltb (m - 4) (half t 0) (omega arith), le-ltb (length t - 4) (half t 0) (omega arith))
      go true e = rw e

  open_prefix : open_no (take m t) ≡ open_no t
  open_prefix = go (ltb m (length t)) refl
    where
      go : (b : Bool) → ltb m (length t) ≡ b → open_no (take m t) ≡ open_no t
      go true e = open_long (ltb-true m (length t) e)
      go false e = ap open_no (take_all m t (ltb-false m (length t) e))

  none_prefix : length (take m t) ≡ 0 → length t ≡ 0
  none_prefix h = omega (arith, length-take m t)

  -- a turn of reading: the same, if what follows is
  turn_prefix : (n k : ℕ) (d : Draft) (at : ℕ)
      → (open_no t ≡ 0 → fault_of d (as_record t) ≡ 0
      → SamePrefix n k (add_of d (as_record t)) (at + size_of t) (m - size_of t) (behind t))
      → SamePrefix (suc n) (suc k) d at m t
  turn_prefix n k d at next =
      read_cases (λ (y : Reading). read_from (suc k) d at (take m t) ≡ y) n d at t
      (λ z. let none : length (take m t) ≡ 0 = omega (arith, length-take m t) in
      read_cases (λ (x : Reading). x ≡ ended_of d at) k d at (take m t)
      (λ e. refl) (λ j w. absurd (w none)) (λ j w. absurd (w none)) (λ w. absurd (w none)))
      (λ i z o. read_cases (λ (x : Reading). x ≡ refused_of (suc i) at) k d at (take m t)
      (λ e. absurd (z (none_prefix e)))
      (λ j w q. ap (λ (a : ℕ). refused_of a at) (sym q ∙ open_prefix ∙ o))
      (λ j w q. absurd (omega (arith, open_prefix)))
      (λ w q. absurd (omega (arith, open_prefix))))
      (λ i z o f. read_cases (λ (x : Reading). x ≡ refused_of (suc i) at) k d at (take m t)
      (λ e. absurd (z (none_prefix e)))
      (λ j w q. absurd (omega (arith, open_prefix)))
      (λ j w q g. ap (λ (a : ℕ). refused_of a at) (sym g ∙ ap (fault_of d) record_prefix ∙ f))
      (λ w q g. absurd (omega (arith, ap (fault_of d) record_prefix))))
      (λ z o f. let after : Reading = read_from n (add_of d (as_record t)) (at + size_of t) (behind t) in
      read_cases (λ (x : Reading). x ≡ after) k d at (take m t)
      (λ e. absurd (z (none_prefix e)))
      (λ j w q. absurd (omega (arith, open_prefix)))
      (λ j w q g. absurd (omega (arith, ap (fault_of d) record_prefix)))
      (λ w q g. rw (record_prefix, size_prefix, drop_take (size_of t) m t) (next o f)))

-- what follows a record that was read behind the bytes `done`: the file is longer by it, and less is left
on_prefix : (done t : List ℕ) (m n k : ℕ) (e : Draft) → open_no t ≡ 0
    → encode_of e.case ≡ done ++ record_bytes (as_record t)
    → length t < suc n
    → length (take m t) < suc k
    → longest + longest_record ≤ length done + m
    → length done ≤ longest
    → (length (behind t) < n → length (take (m - size_of t) (behind t)) < k
    → longest + longest_record ≤ length (encode_of e.case) + (m - size_of t)
    → SamePrefix n k e (length (encode_of e.case)) (m - size_of t) (behind t))
    → SamePrefix n k e (length done + size_of t) (m - size_of t) (behind t)
on_prefix done t m n k e o longer f g b low next =
    let w = open_whole t o in
    let size : size_of t ≤ longest_record = size_most t o in
    let long : length (encode_of e.case) ≡ length done + size_of t
    = ap length longer ∙ round_trip_longer done t o in
    let left = length-take (m - size_of t) (behind t) in
    let same = next (round_trip_less t n o f)
    (omega (arith, length-take m t, length-drop (size_of t) t, w.head, w.within))
    (omega arith) in
    rw long at same

-- Reading behind a sound draft, and from the start: the bytes behind the longest file and one record more don't
-- matter
prefix_from : (n k : ℕ) (d : Draft) (front m : ℕ) (t : List ℕ) → Sound d front
    → length t < n
    → length (take m t) < k
    → longest + longest_record ≤ length (encode_of d.case) + m
    → SamePrefix n k d (length (encode_of d.case)) m t
prefix_from zero k d front m t s f g b = absurd (omega arith)
prefix_from (suc n) zero d front m t s f g b = absurd (omega arith)
prefix_from (suc n) (suc k) d front m t s f g b =
    turn_prefix t m (omega (arith, encode_length d.case)) n k d (length (encode_of d.case)) (λ o h.
    let a = add_record d front s (as_record t) h in
    on_prefix (encode_of d.case) t m n k (add_of d (as_record t)) o a.longer f g b (encode_length d.case)
    (prefix_from n k (add_of d (as_record t)) (suc a.spot) (m - size_of t) (behind t) a.sound))

pub read_prefix : (s : List ℕ) (m : ℕ) → longest + longest_record ≤ m → read_of (take m s) ≡ read_of s
unfolding read_of
read_prefix s m b =
    let k : ℕ = length (take m s) in
    turn_prefix s m (omega arith) (length s) k blank_draft 0 (λ o h.
    let f = blank_first (half s 2) s h in
    on_prefix [] s m (length s) k (add_of blank_draft (as_record s)) o (rw f.1 (begun_longer f.0 f.2))
    (omega arith) (omega arith) (omega arith) (omega arith)
    (prefix_from (length s) k (add_of blank_draft (as_record s)) 1 (m - size_of s) (behind s)
    (rw f.1 (begun_sound f.0 f.2))))

-- the number that reading counts down never decides, once it is above the input's length
pub read_fuel_same : (n k : ℕ) (d : Draft) (at : ℕ) (t : List ℕ) → length t < n → length t < k
    → read_from k d at t ≡ read_from n d at t
read_fuel_same zero k d at t f g = absurd (omega arith)
read_fuel_same (suc n) zero d at t f g = absurd (omega arith)
read_fuel_same (suc n) (suc k) d at t f g =
    let m : ℕ = length t + longest_record in
    sym (ap (read_from (suc k) d at) (take_all m t (omega arith)))
    ∙ turn_prefix t m (omega arith) n k d at (λ o h.
    let size = size_most t o in
    let left = length-drop (size_of t) t in
    ap (read_from k (add_of d (as_record t)) (at + size_of t)) (take_all (m - size_of t) (behind t) (omega arith))
    ∙ read_fuel_same n k (add_of d (as_record t)) (at + size_of t) (behind t) (round_trip_less t n o f)
    (round_trip_less t k o g))
