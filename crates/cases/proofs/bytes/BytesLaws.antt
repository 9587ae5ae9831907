-- Laws of bytes and of numbers in bytes. Assumes nothing.
use Prim.Native.Nat.{ℕ, zero, suc, ◌+◌, ◌*◌, ◌/◌, ◌%◌, ◌<◌, ◌≤◌}
use mathlib.Core.Path.{◌≡◌, refl, sym, ap, ◌∙◌}
use mathlib.Core.List.{List, [], ◌∷◌, ◌++◌}
use lib.ListN.{length, get_or, take, drop}
use lib.Seq.{get_or-drop}
use native.Mathlib.Omega.{arith}
use Rattle.cases.specs.Bytes.{half, word_at, half_bytes, word_bytes, IsBytes}

-- what is left of bytes is bytes; so are the first of them, and two lists of bytes joined
pub bytes_drop : (n : ℕ) (t : List ℕ) → IsBytes t → IsBytes (drop n t)
bytes_drop n t b i = rw (get_or-drop n t i 0) (b (n + i))

pub bytes_take : (n : ℕ) (t : List ℕ) → IsBytes t → IsBytes (take n t)
bytes_take zero t b i = omega arith
bytes_take (suc n) [] b i = omega arith
bytes_take (suc n) (a ∷ t) b zero = b 0
bytes_take (suc n) (a ∷ t) b (suc i) = bytes_take n t (λ j. b (suc j)) i

pub bytes_join : (t u : List ℕ) → IsBytes t → IsBytes u → IsBytes (t ++ u)
bytes_join [] u b c i = c i
bytes_join (a ∷ t) u b c zero = b 0
bytes_join (a ∷ t) u b c (suc i) = bytes_join t u (λ j. b (suc j)) c i

-- two lists that start with the same n bytes have the same numbers there
module _ (t u : List ℕ) (n : ℕ) (same : (i : ℕ) → i < n → get_or u i 0 ≡ get_or t i 0) where
  pub half_same : (i : ℕ) → i + 1 < n → half u i ≡ half t i
  unfolding half
  half_same i h = rw (same i (omega arith), same (i + 1) h)

  pub word_same : (i : ℕ) → i + 3 < n → word_at u i ≡ word_at t i
  unfolding word_at
  word_same i h = rw (half_same i (omega arith), half_same (i + 2) (omega arith))

-- Bytes joined to a number, and the number put into bytes again
low : (a x : ℕ) → a < 256 → (a + 256 * x) % 256 ≡ a
low a x h = omega arith

half_back : (a b : ℕ) → a < 256 → b < 256 → half_bytes (a + 256 * b) ≡ a ∷ b ∷ []
unfolding half_bytes
half_back a b ha hb =
    let q : (a + 256 * b) / 256 ≡ b + 256 * 0 = omega arith in
    rw (low a b ha, q, low b 0 hb)

word_back : (a b c d : ℕ) → a < 256 → b < 256 → c < 256 → d < 256
    → word_bytes (a + 256 * b + 65536 * (c + 256 * d)) ≡ a ∷ b ∷ c ∷ d ∷ []
unfolding word_bytes
word_back a b c d ha hb hc hd =
    let w : ℕ = a + 256 * b + 65536 * (c + 256 * d) in
    let q₀ : w ≡ a + 256 * (b + 256 * (c + 256 * d)) = omega arith in
    let q₁ : w / 256 ≡ b + 256 * (c + 256 * d) = omega arith in
    let q₂ : w / 65536 ≡ c + 256 * d = omega arith in
    let q₃ : w / 16777216 ≡ d + 256 * 0 = omega arith in
    rw (q₁, q₂, q₃, q₀, low a (b + 256 * (c + 256 * d)) ha, low b (c + 256 * d) hb, low c d hc, low d 0 hd)

-- the number at an index of a list of bytes, put into bytes again
pub half_bytes_lem : (t : List ℕ) (i : ℕ) → IsBytes t → half_bytes (half t i) ≡ get_or t i 0 ∷ get_or t (i + 1) 0 ∷ []
unfolding half
half_bytes_lem t i b = half_back (get_or t i 0) (get_or t (i + 1) 0) (b i) (b (i + 1))

pub word_bytes_lem : (t : List ℕ) (i : ℕ) → IsBytes t
    → word_bytes (word_at t i) ≡ get_or t i 0 ∷ get_or t (i + 1) 0 ∷ get_or t (i + 2) 0 ∷ get_or t (i + 2 + 1) 0 ∷ []
unfolding word_at half
word_bytes_lem t i b =
    word_back (get_or t i 0) (get_or t (i + 1) 0) (get_or t (i + 2) 0) (get_or t (i + 2 + 1) 0)
    (b i) (b (i + 1)) (b (i + 2)) (b (i + 2 + 1))

-- the n elements from i on, one by one
abbrev pub elems : ℕ → ℕ → List ℕ → List ℕ
elems zero i t = []
elems (suc n) i t = get_or t i 0 ∷ elems n (suc i) t

elems_cons : (n i x : ℕ) (t : List ℕ) → elems n (suc i) (x ∷ t) ≡ elems n i t
elems_cons zero i x t = refl
elems_cons (suc n) i x t = ap (λ (l : List ℕ). get_or t i 0 ∷ l) (elems_cons n (suc i) x t)

-- the first n elements are those from 0 on
pub take_elems : (n : ℕ) (t : List ℕ) → n ≤ length t → take n t ≡ elems n 0 t
take_elems zero t h = refl
take_elems (suc n) [] h = absurd (omega arith)
take_elems (suc n) (x ∷ t) h =
    ap (λ (l : List ℕ). x ∷ l) (take_elems n t (omega arith) ∙ sym (elems_cons n 0 x t))
