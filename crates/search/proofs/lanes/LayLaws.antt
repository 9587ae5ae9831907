-- Laws of `lay`: how many lanes, what a look finds where, and what a number set there makes of the view.
--   Agree c v u   two views agree on all that lanes of the program hold
--   front c v r   the lanes before row r
--   behind v r n  the lanes of the rows behind row r and before row n
-- Assumes nothing.
use Prim.Native.Nat.{ℕ, suc, ◌+◌, ◌*◌, ◌-◌, ◌<◌, ◌≤◌}
use mathlib.Core.Path.{◌≡◌, refl, ◌∙◌}
use mathlib.Core.List.{List, [], ◌++◌, append_assoc}
use native.Mathlib.Nat.{zero-add}
use native.Mathlib.Omega.{arith}
use lib.ListN.{length, get_or, set, length-append}
use Rattle.cases.specs.Sizes.{most_registers}
use Rattle.machine.specs.Fit.{sum_to}
use Rattle.machine.proofs.lists.SumLaws.{sum_same}
use Rattle.search.specs.Lanes.{join_to, each}
use Rattle.search.specs.Listing.{threads_in, locations_in}
use Rattle.search.specs.Rows.{rows_in, row_len_at, word_at, register_at, pool_at, row_len, row_start}
use Rattle.search.specs.Taken.{padded, counted, discounted}
use Rattle.search.proofs.lanes.SeenLaws.{Seen, Even, changed, lay}
use Rattle.search.proofs.lanes.SeenLaws.{with_issued, with_long, with_word, with_register}
use Rattle.search.proofs.lanes.JoinLaws.{shifted, join_same, each_same, join_split, length_join}
use Rattle.search.proofs.lanes.JoinLaws.{length_each, get_each, set_each}
use Rattle.search.proofs.lanes.ShiftLaws.{get_amid, set_amid}

-- each, amid others: the number of i read; changed
module _ (before after : List ℕ) (n base i : ℕ) (f : ℕ → ℕ) (e : length before ≡ base) (h : i < n) where
  see_each : get_or (padded (before ++ each n f ++ after)) (base + i) 0 ≡ f i
  see_each = get_amid before (each n f) after base i e (rw (length_each n f) h) ∙ get_each n i f h

  put_each : (a : ℕ)
      → set (padded (before ++ each n f ++ after)) (base + i) a ≡ padded (before ++ each n (changed f i a) ++ after)
  put_each a = set_amid before (each n f) after base i e (rw (length_each n f) h) a ∙ rw (set_each n i f a h)

-- the lanes from the registers on; from the words on; from the rows' lengths on
abbrev from_register : List ℕ → Seen → List ℕ
from_register c v = each (threads_in c * most_registers) v.register ++ join_to (rows_in c) v.row

abbrev from_word : List ℕ → Seen → List ℕ
from_word c v = each (locations_in c) v.word ++ from_register c v

abbrev from_long : List ℕ → Seen → List ℕ
from_long c v = each (rows_in c) v.long ++ from_word c v

-- the lanes before the words; before the registers
abbrev to_word : List ℕ → Seen → List ℕ
to_word c v = each (threads_in c) v.issued ++ each (rows_in c) v.long

abbrev to_register : List ℕ → Seen → List ℕ
to_register c v = to_word c v ++ each (locations_in c) v.word

unfoldable pub front : List ℕ → Seen → ℕ → List ℕ
front c v r = to_register c v ++ each (threads_in c * most_registers) v.register ++ join_to r v.row

unfoldable pub behind : Seen → ℕ → ℕ → List ℕ
behind v r n = join_to (n - suc r) (shifted (suc r) v.row)

pub record Agree (c : List ℕ) (v u : Seen) : Type 0 where
  pub issued : (t : ℕ) → t < threads_in c → v.issued t ≡ u.issued t
  pub long : (r : ℕ) → r < rows_in c → v.long r ≡ u.long r
  pub word : (l : ℕ) → l < locations_in c → v.word l ≡ u.word l
  pub register : (i : ℕ) → i < threads_in c * most_registers → v.register i ≡ u.register i
  pub row : (r : ℕ) → r < rows_in c → v.row r ≡ u.row r

module _ (c : List ℕ) (v : Seen) where
  -- views that agree have the same lanes
  pub lay_same : (u : Seen) → Agree c v u → lay c v ≡ lay c u
  unfolding lay
  lay_same u a =
      rw (
        each_same (threads_in c) v.issued u.issued a.issued,
        each_same (rows_in c) v.long u.long a.long,
        each_same (locations_in c) v.word u.word a.word,
        each_same (threads_in c * most_registers) v.register u.register a.register,
        join_same (rows_in c) v.row u.row a.row,
      )

  -- lay, taken apart: at how many are issued; at the lengths; at the words; at the registers; behind all of them
  lay_issued : lay c v ≡ [] ++ each (threads_in c) v.issued ++ from_long c v
  unfolding lay
  lay_issued = simp append_assoc

  lay_long : lay c v ≡ each (threads_in c) v.issued ++ each (rows_in c) v.long ++ from_word c v
  unfolding lay
  lay_long = simp append_assoc

  lay_word : lay c v ≡ to_word c v ++ each (locations_in c) v.word ++ from_register c v
  unfolding lay
  lay_word = simp append_assoc

  lay_register : lay c v
      ≡ to_register c v ++ each (threads_in c * most_registers) v.register ++ join_to (rows_in c) v.row
  unfolding lay
  lay_register = refl

  pub lay_front : lay c v ≡ front c v (rows_in c)
  unfolding lay front
  lay_front = refl

  -- front, taken apart at row r
  pub front_split : (r n : ℕ) → r < n → front c v n ≡ front c v r ++ v.row r ++ behind v r n
  unfolding front behind
  front_split r n h = rw (join_split n r v.row h) (simp append_assoc)

  -- how many lanes stand before the words; before the registers
  length_word : length (to_word c v) ≡ threads_in c + rows_in c
  length_word = simp (length-append, length_each)

  length_register : length (to_register c v) ≡ threads_in c + rows_in c + locations_in c
  length_register = simp (length-append, length_each)

  -- what a look finds: how many a thread has issued; how long a row is; a word; a register; all rows' lengths
  pub see_issued : (t : ℕ) → t < threads_in c → get_or (padded (lay c v)) t 0 ≡ v.issued t
  see_issued t h =
      rw lay_issued (rw zero-add at (see_each [] (from_long c v) (threads_in c) 0 t v.issued refl h))

  pub see_long : (r : ℕ) → r < rows_in c → row_len c (padded (lay c v)) r ≡ v.long r
  unfolding row_len
  see_long r h =
      rw lay_long
      (see_each (each (threads_in c) v.issued) (from_word c v) (rows_in c) (threads_in c) r v.long
      (length_each (threads_in c) v.issued) h)

  pub see_word : (l : ℕ) → l < locations_in c → get_or (padded (lay c v)) (word_at c l) 0 ≡ v.word l
  see_word l h =
      rw lay_word
      (see_each (to_word c v) (from_register c v) (locations_in c) (threads_in c + rows_in c) l v.word
      length_word h)

  pub see_register : (t r : ℕ) → t < threads_in c → r < most_registers
      → get_or (padded (lay c v)) (register_at c t r) 0 ≡ v.register (t * most_registers + r)
  see_register t r h k =
      rw lay_register
      (see_each (to_register c v) (join_to (rows_in c) v.row) (threads_in c * most_registers)
      (threads_in c + rows_in c + locations_in c) (t * most_registers + r) v.register length_register
      (omega arith))

  pub see_sum : (r : ℕ) → r ≤ rows_in c → sum_to r (row_len c (padded (lay c v))) ≡ sum_to r v.long
  see_sum r h = sum_same r _ v.long (λ k l. see_long k (omega arith))

module _ (c : List ℕ) (v : Seen) where
  -- what a number set makes of the view: how many a thread has issued; how long a row is; a word; a register
  pub set_issued : (t n : ℕ) → t < threads_in c
      → set (padded (lay c v)) t n ≡ padded (lay c (with_issued v t n))
  set_issued t n h =
      rw (lay_issued c v, lay_issued c (with_issued v t n))
      (rw zero-add at (put_each [] (from_long c v) (threads_in c) 0 t v.issued refl h n))

  set_long : (r n : ℕ) → r < rows_in c
      → set (padded (lay c v)) (row_len_at c r) n ≡ padded (lay c (with_long v r n))
  set_long r n h =
      rw (lay_long c v, lay_long c (with_long v r n))
      (put_each (each (threads_in c) v.issued) (from_word c v) (rows_in c) (threads_in c) r v.long
      (length_each (threads_in c) v.issued) h n)

  pub set_word : (l n : ℕ) → l < locations_in c
      → set (padded (lay c v)) (word_at c l) n ≡ padded (lay c (with_word v l n))
  set_word l n h =
      rw (lay_word c v, lay_word c (with_word v l n))
      (put_each (to_word c v) (from_register c v) (locations_in c) (threads_in c + rows_in c) l v.word
      (length_word c v) h n)

  pub set_register : (t r n : ℕ) → t < threads_in c → r < most_registers
      → set (padded (lay c v)) (register_at c t r) n ≡ padded (lay c (with_register v (t * most_registers + r) n))
  set_register t r n h k =
      rw (lay_register c v, lay_register c (with_register v (t * most_registers + r) n))
      (put_each (to_register c v) (join_to (rows_in c) v.row) (threads_in c * most_registers)
      (threads_in c + rows_in c + locations_in c) (t * most_registers + r) v.register (length_register c v)
      (omega arith) n)

  -- a row's length one more; one less
  pub count_long : (r : ℕ) → r < rows_in c
      → counted (padded (lay c v)) (row_len_at c r) ≡ padded (lay c (with_long v r (v.long r + 1)))
  unfolding counted row_len
  count_long r h = rw (see_long c v r h) (set_long r (v.long r + 1) h)

  pub discount_long : (r : ℕ) → r < rows_in c
      → discounted (padded (lay c v)) (row_len_at c r) ≡ padded (lay c (with_long v r (v.long r - 1)))
  unfolding discounted row_len
  discount_long r h = rw (see_long c v r h) (set_long r (v.long r - 1) h)

module _ (c : List ℕ) (v : Seen) (even : Even c v) where
  -- how many lanes stand before row r; how many there are
  length_front : (r : ℕ) → r ≤ rows_in c → length (front c v r) ≡ pool_at c + 2 * sum_to r v.long
  unfolding front
  length_front r h =
      let e = length_join r v.row v.long (λ i l. even.twice i (omega arith)) in
      simp (length-append, length_each) (omega arith)

  pub lay_length : length (lay c v) ≡ pool_at c + 2 * sum_to (rows_in c) v.long
  lay_length = rw (lay_front c v) (length_front (rows_in c) (omega arith))

  -- where a row starts; a lane of it
  pub see_start : (r : ℕ) → r ≤ rows_in c → length (front c v r) ≡ row_start c (padded (lay c v)) r
  see_start r h = rw (see_sum c v r h) (length_front r h)

  pub see_row : (r j : ℕ) → r < rows_in c → j < length (v.row r)
      → get_or (padded (lay c v)) (row_start c (padded (lay c v)) r + j) 0 ≡ get_or (v.row r) j 0
  see_row r j h k =
      rw (← see_start r (omega arith), lay_front c v, front_split c v r (rows_in c) h)
      (get_amid (front c v r) (v.row r) (behind v r (rows_in c)) (length (front c v r)) j refl k)
