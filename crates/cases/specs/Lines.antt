-- Document 02, P3: on which cache line each location lies. "Version 1 means a line each"; in version 2 the
-- program's record has one line byte for each location.
--   own_version, line_version   the versions; last_version: there is none behind it
--   listed_of version n    how many line bytes a record of that version has for n locations
--   table f n              a number for each location that there may be: f l for each l below n, 0 behind
--   own_lines n            a line each for n locations
--   new_after next x       the next new line number, once x has been seen
--   unordered next xs      a line number of xs is out of order, where the next new one is `next`
--   lines_in next xs       how many lines there are, once xs has been seen too
-- Assumes nothing.
use Rattle.std.specs.Prelude.{ℕ, zero, suc, ◌+◌, List, [], ◌∷◌, Bool, false, replicate, set, eqb, ltb}
use Rattle.cases.specs.Sizes.{most_locations}
use Rattle.cases.specs.Choice.{pick, either}

abbrev pub own_version : ℕ
own_version = 1

abbrev pub line_version : ℕ
line_version = 2

abbrev pub last_version : ℕ
last_version = line_version

unfoldable pub listed_of : ℕ → ℕ → ℕ
listed_of version n = pick (eqb version own_version) 0 n

-- an array that starts as zeros and gets f l at each l in turn
unfoldable pub table : (ℕ → ℕ) → ℕ → List ℕ
table f zero = replicate most_locations 0
table f (suc n) = set (table f n) n (f n)

unfoldable pub own_lines : ℕ → List ℕ
own_lines n = table (λ l. l) n

unfoldable pub new_after : ℕ → ℕ → ℕ
new_after next x = pick (eqb x next) (next + 1) next

-- "lines are numbered in order of first appearance, from 0": each is one already seen, or the next new one
unfoldable pub unordered : ℕ → List ℕ → Bool
unordered next [] = false
unordered next (x ∷ xs) = either (ltb next x) (unordered (new_after next x) xs)

unfoldable pub lines_in : ℕ → List ℕ → ℕ
lines_in next [] = next
lines_in next (x ∷ xs) = lines_in (new_after next x) xs
