-- Laws of how a record opens (`open_no`): what is known where it does, the bytes it was read from, and
-- each way in which the code finds that it does not. Assumes nothing.
use Prim.Native.Nat.{ℕ, ◌+◌, ◌-◌, ◌<◌, ◌≤◌}
use mathlib.Core.Path.{◌≡◌, refl, sym, ap, ◌∙◌}
use mathlib.Core.Logic.{◌≢◌}
use mathlib.Core.List.{List, ◌++◌}
use mathlib.Core.Bool.{Bool, true, false}
use lib.ListN.{length, get_or, take, drop, replicate, length-drop, length-append}
use lib.Seq.{length-take-le, get_or-drop, take-add, take_at}
use lib.Dec.{eqb, ltb}
use borrow.Author.Tests.{eqb-true, eqb-false, ltb-false}
use native.Mathlib.Omega.{arith}
use Rattle.cases.specs.declared.record.Record.TheVariants.{Declare}
use Rattle.cases.specs.Sizes.{most_locations}
use Rattle.cases.specs.Choice.{pick}
use Rattle.cases.specs.Bytes.{half, half_bytes, word_bytes, IsBytes}
use Rattle.cases.specs.Lines.{table}
use Rattle.cases.specs.Record.{payload_of, spare_of, mislong, as_row, line_bytes, line_byte}
use Rattle.cases.specs.Record.{payload_bytes, record_bytes}
use Rattle.cases.specs.Record.{record_of, open_no, size_of, as_header, as_write, as_instruction, as_step}
use Rattle.cases.proofs.ChoiceLaws.{either_false, refuse_none}
use Rattle.cases.proofs.bytes.BytesLaws.{half_bytes_lem, take_elems, word_bytes_lem}
use Rattle.cases.proofs.lines.LineTableLaws.{table_long, table_front}

-- what is known where a record opens
pub record OpenWhole (t : List ℕ) : Type 0 where
  pub known : payload_of (half t 2) ≢ 0
  pub right : mislong (half t 2) (half t 0) ≡ false
  pub head : 4 ≤ size_of t
  pub within : size_of t ≤ length t

pub open_whole : (t : List ℕ) → open_no t ≡ 0 → OpenWhole t
unfolding open_no size_of
open_whole t h =
    let a = refuse_none (ltb (length t) 4) 0 _ h in
    let b = refuse_none (eqb (payload_of (half t 2)) 0) 1 _ a.1 in
    let c = refuse_none (mislong (half t 2) (half t 0)) 2 _ b.1 in
    let d = refuse_none (ltb (length t - 4) (half t 0)) 0 _ c.1 in
    record {
      known = eqb-false _ _ b.0;
      right = c.0;
      head = omega arith;
      within = omega (arith, ltb-false (length t) 4 a.0, ltb-false (length t - 4) (half t 0) d.0);
    }

-- a payload that is not too short or too long
pub open_lengths : (k n : ℕ) → mislong k n ≡ false → (payload_of k ≤ n) × (n ≤ payload_of k + spare_of k)
unfolding mislong
open_lengths k n h =
    let e = either_false (ltb n (payload_of k)) _ h in
    let least = ltb-false n (payload_of k) e.0 in
    let most = ltb-false (spare_of k) (n - payload_of k) e.1 in
    (least, omega arith)

-- the program's payload has 4 bytes at least, and a line byte for each location at most
pub open_header : (k n : ℕ) → k ≡ 1 → mislong k n ≡ false → (4 ≤ n) × (n ≤ 4 + most_locations)
unfolding payload_of spare_of pick
open_header k n e h = open_lengths 1 n (rw e at h)

-- what holds of every kind that there is holds of a kind that has a payload
pub kind_cases {ℓ} : (P : ℕ → Type ℓ) → P 1 → P 2 → P 3 → P 4 → P 5 → P 6 → (k : ℕ) → payload_of k ≢ 0 → P k
unfolding payload_of pick
kind_cases P a b c d e f k h =
    go (eqb k 1) (eqb k 2) (eqb k 3) (eqb k 4) (eqb k 5) (eqb k 6) refl refl refl refl refl refl
  where
    go : (u v w x y z : Bool) → eqb k 1 ≡ u → eqb k 2 ≡ v → eqb k 3 ≡ w
        → eqb k 4 ≡ x → eqb k 5 ≡ y → eqb k 6 ≡ z → P k
    go true v w x y z h₁ h₂ h₃ h₄ h₅ h₆ = rw (eqb-true k 1 h₁) a
    go false true w x y z h₁ h₂ h₃ h₄ h₅ h₆ = rw (eqb-true k 2 h₂) b
    go false false true x y z h₁ h₂ h₃ h₄ h₅ h₆ = rw (eqb-true k 3 h₃) c
    go false false false true y z h₁ h₂ h₃ h₄ h₅ h₆ = rw (eqb-true k 4 h₄) d
    go false false false false true z h₁ h₂ h₃ h₄ h₅ h₆ = rw (eqb-true k 5 h₅) e
    go false false false false false true h₁ h₂ h₃ h₄ h₅ h₆ = rw (eqb-true k 6 h₆) f
    go false false false false false false h₁ h₂ h₃ h₄ h₅ h₆ = absurd (h (rw (h₁, h₂, h₃, h₄, h₅, h₆)))

-- a row has a byte for each location, and holds the bytes that it was made of
pub row_long : (xs : List ℕ) → length (as_row xs) ≡ most_locations
unfolding as_row
row_long xs =
    let more = length-append xs (replicate most_locations 0) in
    length-take-le most_locations (xs ++ replicate most_locations 0) (omega arith)

pub row_back : (xs : List ℕ) → length xs ≡ most_locations → as_row xs ≡ xs
unfolding as_row
row_back xs long = take_at xs (replicate most_locations 0) most_locations long

-- a program's record that is read from bytes: its line bytes are those behind the first eight
module _ (t : List ℕ) (n : ℕ) (is : half t 0 ≡ 4 + n) (few : n ≤ most_locations) where
  header_lines : 8 + n ≤ length t → line_bytes (as_header t) ≡ take n (drop 8 t)
  unfolding line_bytes as_header
  header_lines within =
      let m : half t 0 - 4 ≡ n = omega arith in
      rw m
      (table_front (line_byte t) n (drop 8 t) few (omega (arith, length-drop 8 t))
      (λ i h. get_or-drop 8 t i 0))

  header_count : length (line_bytes (as_header t)) ≡ n
  unfolding line_bytes as_header
  header_count =
      let m : half t 0 - 4 ≡ n = omega arith in
      rw m
      (length-take-le n (table (line_byte t) n) (omega (arith, table_long (line_byte t) n)))

  header_long : length (payload_bytes (Declare (as_header t))) ≡ half t 0
  unfolding payload_bytes half_bytes
  header_long = omega (arith, header_count)

-- a record's bytes are as many as its head says
record_size : (t : List ℕ) (k : ℕ) → payload_of k ≢ 0
    → (payload_of k ≤ half t 0) × (half t 0 ≤ payload_of k + spare_of k)
    → length (record_bytes (record_of k t)) ≡ 4 + half t 0
unfolding record_bytes payload_bytes record_of payload_of spare_of pick half_bytes word_bytes
record_size t =
    kind_cases (λ (k : ℕ). (payload_of k ≤ half t 0) × (half t 0 ≤ payload_of k + spare_of k)
    → length (record_bytes (record_of k t)) ≡ 4 + half t 0)
    (λ h. let least : 4 ≤ half t 0 = h.0 in
    let most : half t 0 ≤ 4 + most_locations = h.1 in
    omega (arith, header_count t (half t 0 - 4) (omega arith) (omega arith)))
    (λ h. fixed 5 h) (λ h. fixed 8 h) (λ h. fixed 5 h) (λ h. fixed 2 h) (λ h. fixed 4 h)
  where
    fixed : (n : ℕ) → (n ≤ half t 0) × (half t 0 ≤ n + 0) → 4 + n ≡ 4 + half t 0
    fixed n h = let least = h.0 in let most = h.1 in omega arith

-- a record that opens is as long as its head says
pub open_size : (t : List ℕ) → open_no t ≡ 0 → length (record_bytes (record_of (half t 2) t)) ≡ size_of t
unfolding size_of
open_size t h =
    let o = open_whole t h in
    record_size t (half t 2) o.known (open_lengths _ _ o.right)

-- a program's record that opens has the bytes that it was read from
header_back : (t : List ℕ) (n : ℕ) → IsBytes t → half t 2 ≡ 1 → half t 0 ≡ 4 + n → n ≤ most_locations
    → 8 + n ≤ length t
    → record_bytes (Declare (as_header t)) ≡ take (8 + n) t
unfolding record_bytes payload_bytes as_header
header_back t n b kind long few within =
    let is : length (payload_bytes (Declare (as_header t))) ≡ half t 0
    = header_long t n long few in
    let head = ap half_bytes is ∙ half_bytes_lem t 0 b in
    let mark = ap half_bytes (sym kind) ∙ half_bytes_lem t 2 b in
    let version = half_bytes_lem t 4 b in
    sym (take-add 8 n t ∙ rw (take_elems 8 t (omega arith), ← header_lines t n long few within)
    (sym (rw (head, mark, version) refl)))

-- the head of a record of kind k
head_bytes : (t : List ℕ) (n k : ℕ) → IsBytes t → half t 0 ≡ n → half t 2 ≡ k → n < 256 → k < 256
    → (get_or t 0 0 ≡ n) × (get_or t 1 0 ≡ 0) × (get_or t 2 0 ≡ k) × (get_or t 3 0 ≡ 0)
unfolding half
head_bytes t n k b p q hn hk =
    (omega (arith, b 0, b 1), omega (arith, b 0, b 1), omega (arith, b 2, b 3), omega (arith, b 2, b 3))

-- a record that opens has the bytes that it was read from
record_back : (t : List ℕ) (k : ℕ) → IsBytes t
    → payload_of k ≢ 0
    → half t 2 ≡ k
    → (payload_of k ≤ half t 0) × (half t 0 ≤ payload_of k + spare_of k)
    → 4 + half t 0 ≤ length t
    → record_bytes (record_of k t) ≡ take (4 + half t 0) t
unfolding record_bytes payload_bytes record_of as_write as_instruction as_step payload_of spare_of pick half_bytes
record_back t k b known =
    kind_cases (λ (k : ℕ). half t 2 ≡ k → (payload_of k ≤ half t 0) × (half t 0 ≤ payload_of k + spare_of k)
    → 4 + half t 0 ≤ length t
    → record_bytes (record_of k t) ≡ take (4 + half t 0) t)
    (λ p h n. let least : 4 ≤ half t 0 = h.0 in
    let most : half t 0 ≤ 4 + most_locations = h.1 in
    let more : 8 + (half t 0 - 4) ≡ 4 + half t 0 = omega arith in
    header_back t (half t 0 - 4) b p (omega arith) (omega arith) (omega arith)
    ∙ ap (λ (m : ℕ). take m t) more)
    (λ p h n. let q = fixed 5 h in
    let e = head_bytes t 5 2 b q p (omega arith) (omega arith) in
    rw q (sym (take_elems 9 t (omega arith) ∙ rw (e.0, e.1, e.2, e.3) (rw (word_bytes_lem t 5 b) refl))))
    (λ p h n. let q = fixed 8 h in
    let e = head_bytes t 8 3 b q p (omega arith) (omega arith) in
    rw q (sym (take_elems 12 t (omega arith) ∙ rw (e.0, e.1, e.2, e.3) (rw (word_bytes_lem t 8 b) refl))))
    (λ p h n. let q = fixed 5 h in
    let e = head_bytes t 5 4 b q p (omega arith) (omega arith) in
    rw q (sym (take_elems 9 t (omega arith) ∙ rw (e.0, e.1, e.2, e.3) (rw (word_bytes_lem t 5 b) refl))))
    (λ p h n. let q = fixed 2 h in
    let e = head_bytes t 2 5 b q p (omega arith) (omega arith) in
    rw q (sym (take_elems 6 t (omega arith) ∙ rw (e.0, e.1, e.2, e.3) refl)))
    (λ p h n. let q = fixed 4 h in
    let e = head_bytes t 4 6 b q p (omega arith) (omega arith) in
    rw q (sym (take_elems 8 t (omega arith) ∙ rw (e.0, e.1, e.2, e.3) refl)))
    k known
  where
    fixed : (n : ℕ) → (n ≤ half t 0) × (half t 0 ≤ n + 0) → half t 0 ≡ n
    fixed n h = let least = h.0 in let most = h.1 in omega arith

-- the same, of the record that the bytes start with
pub open_bytes : (t : List ℕ) → IsBytes t → open_no t ≡ 0
    → record_bytes (record_of (half t 2) t) ≡ take (size_of t) t
unfolding size_of
open_bytes t b h =
    let o = open_whole t h in
    record_back t (half t 2) b o.known refl (open_lengths _ _ o.right) o.within
