-- Lanes seen as what they hold of each thread, line and location: over any such view, and no state.
--   Seen        how many each thread has issued, how long each row is, each location's word, each register, each
--               row
--   changed     a function with another value at one number
--   lay c v     the lanes of the view v
--   Even        each row has two lanes for each entry
--   with_issued, with_long, with_word, with_register, with_registers   the view with one thing changed, or all registers
--   with_row, with_joined, with_left   the view with another row and its length; an entry more; one less
-- Assumes nothing.
use Prim.Native.Nat.{ℕ, ◌+◌, ◌*◌, ◌-◌, ◌<◌}
use mathlib.Core.Path.{◌≡◌}
use mathlib.Core.List.{List, [], ◌∷◌, ◌++◌}
use lib.ListN.{length, take, drop}
use lib.Dec.{eqb}
use Rattle.cases.specs.Choice.{pick}
use Rattle.cases.specs.Sizes.{most_registers}
use Rattle.search.specs.Lanes.{join_to, each}
use Rattle.search.specs.Listing.{threads_in, locations_in}
use Rattle.search.specs.Rows.{rows_in}

pub record Seen : Type 0 where
  pub issued : ℕ → ℕ
  pub long : ℕ → ℕ
  pub word : ℕ → ℕ
  pub register : ℕ → ℕ
  pub row : ℕ → List ℕ

unfoldable pub changed : {A : Type 0} → (ℕ → A) → ℕ → A → ℕ → A
changed f i a j = pick (eqb j i) a (f j)

unfoldable pub lay : List ℕ → Seen → List ℕ
lay c v =
    each (threads_in c) v.issued
    ++ each (rows_in c) v.long
    ++ each (locations_in c) v.word
    ++ each (threads_in c * most_registers) v.register
    ++ join_to (rows_in c) v.row

pub record Even (c : List ℕ) (v : Seen) : Type 0 where
  pub twice : (r : ℕ) → r < rows_in c → length (v.row r) ≡ 2 * v.long r

abbrev pub with_issued : Seen → ℕ → ℕ → Seen
with_issued v t n =
    record { issued = changed v.issued t n; long = v.long; word = v.word; register = v.register; row = v.row }

abbrev pub with_long : Seen → ℕ → ℕ → Seen
with_long v r n =
    record { issued = v.issued; long = changed v.long r n; word = v.word; register = v.register; row = v.row }

abbrev pub with_word : Seen → ℕ → ℕ → Seen
with_word v l n =
    record { issued = v.issued; long = v.long; word = changed v.word l n; register = v.register; row = v.row }

abbrev pub with_registers : Seen → (ℕ → ℕ) → Seen
with_registers v f =
    record { issued = v.issued; long = v.long; word = v.word; register = f; row = v.row }

abbrev pub with_register : Seen → ℕ → ℕ → Seen
with_register v i n = with_registers v (changed v.register i n)

abbrev pub with_row : Seen → ℕ → ℕ → List ℕ → Seen
with_row v r n row =
    record {
      issued = v.issued;
      long = changed v.long r n;
      word = v.word;
      register = v.register;
      row = changed v.row r row;
    }

-- an entry more at the end of row r; without the entry at position i of it
abbrev pub with_joined : Seen → ℕ → ℕ → ℕ → Seen
with_joined v r tag word = with_row v r (v.long r + 1) (v.row r ++ (tag ∷ word ∷ []))

abbrev pub with_left : Seen → ℕ → ℕ → Seen
with_left v r i = with_row v r (v.long r - 1) (take (2 * i) (v.row r) ++ drop (2 * i + 2) (v.row r))
