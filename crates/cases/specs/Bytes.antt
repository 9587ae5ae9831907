-- Document 01, "Records of a case": "Numbers are little-endian."
--   half s i, word_at s i     the number of two or four bytes from i on; a byte past the end counts as 0
--   half_bytes, word_bytes    the bytes of such a number
--   IsBytes s                 every element of s is a byte
--   put_over bytes out        what `out` holds once the bytes are put at its front: behind them it is as it was
-- Assumes nothing.
use Rattle.std.specs.Prelude.{ℕ, ◌+◌, ◌*◌, ◌/◌, ◌%◌, ◌<◌, List, [], ◌∷◌, ◌++◌, length, drop, get_or}

unfoldable pub half : List ℕ → ℕ → ℕ
half s i = get_or s i 0 + 256 * get_or s (i + 1) 0

unfoldable pub word_at : List ℕ → ℕ → ℕ
word_at s i = half s i + 65536 * half s (i + 2)

unfoldable pub half_bytes : ℕ → List ℕ
half_bytes n = n % 256 ∷ n / 256 % 256 ∷ []

unfoldable pub word_bytes : ℕ → List ℕ
word_bytes n = n % 256 ∷ n / 256 % 256 ∷ n / 65536 % 256 ∷ n / 16777216 % 256 ∷ []

abbrev pub IsBytes : List ℕ → Type 0
IsBytes s = (i : ℕ) → get_or s i 0 < 256

abbrev pub put_over : List ℕ → List ℕ → List ℕ
put_over bytes out = bytes ++ drop (length bytes) out
