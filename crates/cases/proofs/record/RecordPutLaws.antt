-- Laws of a record that is put into lent bytes: bytes put one by one, or at once, and the program's record, its line
-- bytes behind its other bytes. Assumes nothing.
use Prim.Native.Nat.{ℕ, ◌+◌, ◌-◌, ◌/◌, ◌%◌, ◌<◌, ◌≤◌, min}
use mathlib.Core.Path.{◌≡◌, sym, ap, ◌∙◌}
use mathlib.Core.List.{List, [], ◌∷◌, ◌++◌, append-nil}
use Rattle.std.proofs.Common.{append_assoc}
use lib.ListN.{length, get_or, set, take, drop, length-take, length-drop, drop_of_length-le, take-append-drop}
use lib.Seq.{take_at, take_all, drop-drop, sets, sets-eq, paste, paste-suc}
use native.Mathlib.Numerals.{add-one}
use native.Mathlib.Omega.{arith}
use Rattle.cases.specs.declared.record.Header.{Header}
use Rattle.cases.specs.declared.record.Record.TheVariants.{Declare}
use Rattle.cases.specs.Sizes.{most_locations}
use Rattle.cases.specs.Bytes.{half_bytes}
use Rattle.cases.specs.Record.{line_bytes, payload_bytes, record_bytes}

-- a turn of a loop that puts the bytes b into d, one by one
pub put_next : (d b out : List ℕ) (at i : ℕ) → out ≡ paste d at b i
    → at + i < length d
    → i < length b
    → set out (at + i) (get_or b i 0) ≡ paste d at b (i + 1)
put_next d b out at i put h k = rw (put, add-one i) (paste-suc d at b i 0 h k)

-- bytes put at once
pub put_whole : (d b : List ℕ) (at : ℕ) → at + length b ≤ length d
    → take at d ++ (b ++ drop (length b) (drop at d)) ≡ sets d at b
put_whole d b at h = rw (drop-drop (length b) at d) (sym (append_assoc (take at d) b (drop (at + length b) d)) ∙ sym (sets-eq b d at h))

-- bytes put at the front of what is left behind the first e
pub put_behind : (d b : List ℕ) (e : ℕ) → e + length b ≤ length d
    → take e d ++ ((b ++ drop (length b) (take (length d - e) (drop e d))) ++ drop (length d - e) (drop e d)) ≡ sets d e b
put_behind d b e h =
    let left = length-drop e d in
    let all : take (length d - e) (drop e d) ≡ drop e d = take_all _ _ (omega arith) in
    let none : drop (length d - e) (drop e d) ≡ [] = drop_of_length-le (drop e d) (omega arith) in
    rw (all, none, append-nil) (put_whole d b e h)

-- a number below 256 is its own low byte
half_few : (m : ℕ) → m < 256 → half_bytes m ≡ m ∷ 0 ∷ []
unfolding half_bytes
half_few m h =
    let low : m % 256 ≡ m = omega arith in
    let high : m / 256 % 256 ≡ 0 = omega arith in
    rw (high, low)

-- the program's record: its first eight bytes, where n line bytes stand behind them
abbrev pub header_front : Header → ℕ → List ℕ
header_front h n = (4 + n) ∷ 0 ∷ 1 ∷ 0 ∷ half_bytes h.version ++ h.threads ∷ h.locations ∷ []

-- how many line bytes there are: as many as are listed, but no more than there is room for
pub listed_is : (h : Header) → length h.line ≡ most_locations → (n : ℕ) → n ≡ min h.listed most_locations
    → n ≡ length (line_bytes h)
unfolding line_bytes
listed_is h long n is = omega (arith, length-take h.listed h.line)

module _ (h : Header) (long : length h.line ≡ most_locations) (n : ℕ) (is : n ≡ length (line_bytes h)) where
  pub line_bytes_few : n ≤ most_locations
  unfolding line_bytes
  line_bytes_few = omega (arith, is, length-take h.listed h.line)

  pub line_bytes_front : take n h.line ≡ line_bytes h
  unfolding line_bytes
  line_bytes_front =
      ap (take n) (sym (take-append-drop h.listed h.line))
      ∙ take_at (take h.listed h.line) _ n (sym is)

  payload_long : length (payload_bytes (Declare h)) ≡ 4 + n
  unfolding payload_bytes half_bytes
  payload_long = omega (arith, is)

  header_whole : record_bytes (Declare h) ≡ header_front h n ++ line_bytes h
  unfolding record_bytes payload_bytes half_bytes
  header_whole =
      ap (λ (x : List ℕ). x ++ half_bytes 1 ++ payload_bytes (Declare h))
      (ap half_bytes payload_long ∙ half_few (4 + n) (omega (arith, line_bytes_few)))

  pub header_size : length (record_bytes (Declare h)) ≡ 8 + n
  unfolding half_bytes
  header_size = rw header_whole (omega arith)

  -- the front is put, and the line bytes behind it
  pub header_put : (d : List ℕ) → 8 + n ≤ length d
      → sets (header_front h n ++ drop 8 d) 8 (line_bytes h)
      ≡ record_bytes (Declare h) ++ drop (length (record_bytes (Declare h))) d
  unfolding half_bytes
  header_put d fit =
      let m : ℕ = length (line_bytes h) in
      let front : List ℕ = header_front h n ++ drop 8 d in
      let behind : drop (8 + m) front ≡ drop (8 + m) d = sym (drop-drop m 8 front) ∙ drop-drop m 8 d in
      let size : length (record_bytes (Declare h)) ≡ 8 + m = header_size ∙ ap (λ (k : ℕ). 8 + k) is in
      sets-eq (line_bytes h) front 8 (omega (arith, length-drop 8 d, is))
      ∙ ap (λ (t : List ℕ). header_front h n ++ line_bytes h ++ t) behind
      ∙ rw (size, header_whole)
