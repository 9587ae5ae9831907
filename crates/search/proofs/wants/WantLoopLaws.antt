-- What a turn of the loops over the wanted words and over the passed counts tells. Assumes nothing.
use Prim.Native.Nat.{ℕ, ◌≤◌, ◌<◌}
use mathlib.Core.Path.{◌≡◌, sym, ◌∙◌}
use mathlib.Core.Bool.{Bool, true, false}
use mathlib.Core.List.{List}
use borrow.Author.Tests.{lt-ltb, le-ltb}
use lib.ListN.{get_or}
use Rattle.search.specs.Question.{misses, lacks_at}
use Rattle.search.specs.Rows.{word_at}
use Rattle.search.specs.Taken.{misses_lane}
use Rattle.machine.proofs.lists.AnyLaws.{any_here, any_next, any_end}

-- what the code finds of a location's word is what its lane says
pub missed_told : (c : List ℕ) (wanted : List Bool) (want x : List ℕ) (l at : ℕ) (found told : Bool)
    → at ≡ word_at c l
    → found ≡ misses (get_or wanted l false) (get_or want l 0) (get_or x at 0)
    → found ≡ told
    → misses_lane c wanted want x l ≡ told
unfolding misses_lane
missed_told c wanted want x l at found told e f g = rw (sym e) (sym f ∙ g)

-- a thread that has issued fewer than asked for; one that has issued as many
module _ (passed x : List ℕ) (t many : ℕ) (e : many ≡ get_or passed t 0) where
  pub lacks_some : get_or x t 0 < many → lacks_at passed x t ≡ true
  unfolding lacks_at
  lacks_some h = rw (sym e) (lt-ltb (get_or x t 0) many h)

  pub lacks_none : many ≤ get_or x t 0 → lacks_at passed x t ≡ false
  unfolding lacks_at
  lacks_none h = rw (sym e) (le-ltb (get_or x t 0) many h)

-- what the two loops need
pub ruleset missed = (any_here, any_next, any_end, missed_told)

pub ruleset lacked = (any_here, any_next, any_end, lacks_some, lacks_none)
