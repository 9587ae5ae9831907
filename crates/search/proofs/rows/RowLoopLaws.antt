-- Laws of rows: where they stand, and for each look that is one loop a record of what it has found so
-- far, made where the loop begins (start), with a law for each point of the loop that uses it (next, here,
-- end). Assumes nothing.
use Prim.Native.Nat.{ℕ, suc, ◌+◌, ◌*◌, ◌-◌, ◌≤◌, ◌<◌}
use mathlib.Core.Path.{◌≡◌, refl, ◌∙◌}
use mathlib.Core.Logic.{◌≢◌}
use mathlib.Core.List.{List}
use native.Mathlib.Omega.{arith}
use native.Mathlib.Numerals.{add-one}
use borrow.Author.Tests.{eq-eqb, ne_eqb}
use lib.Dec.{eqb}
use lib.ListN.{get_or}
use Rattle.cases.specs.Choice.{pick}
use Rattle.cases.proofs.ChoiceLaws.{pick_here, pick_next}
use Rattle.machine.specs.Fit.{sum_to}
use Rattle.search.specs.Sizes.{most_lanes}
use Rattle.search.specs.Listing.{line_in, ListingFits}
use Rattle.search.specs.Rows.{rows_in, queue_row, word_at, row_len, row_start, FewEntries, newest_lane}
use Rattle.search.specs.Rows.{pool_at, queued_lane, loaded_lane}
use Rattle.search.proofs.lanes.GeneralLaws.{sum_front}

-- row_start: the next row starts where one ends; every row ends within the lanes
pub row_next : (c x : List ℕ) (r : ℕ) → row_start c x r + 2 * row_len c x r ≡ row_start c x (r + 1)
unfolding sum_to
row_next c x r = rw add-one (omega arith)

module _ (c x : List ℕ) (g : ListingFits c) (few : FewEntries c x) where
  pub row_low : (r : ℕ) → r ≤ rows_in c → row_start c x r ≤ most_lanes
  row_low r h =
      let w = sum_front (row_len c x) r (rows_in c) h in
      omega arith

  row_within : (r : ℕ) → r < rows_in c → row_start c x r + 2 * row_len c x r ≤ most_lanes
  row_within r h = let w = row_low (r + 1) (omega arith) in let e = row_next c x r in omega arith

  pub row_room : (r : ℕ) → r < rows_in c → (base n : ℕ) → base ≡ row_start c x r → n ≡ row_len c x r
      → base + 2 * n ≤ most_lanes
  row_room r h base n e k = let w = row_within r h in omega arith

-- row_start: a loop has gone through the first i rows
pub record RowsSoFar (c x : List ℕ) (r n i : ℕ) : Type 0 where
  pub far : i ≤ r
  pub start : n ≡ row_start c x i

-- the first row starts behind all else
pub rows_start : (c x : List ℕ) (r n : ℕ) → n ≡ pool_at c → RowsSoFar c x r n 0
unfolding sum_to
rows_start c x r n e = record { far = omega arith; start = omega arith }

module _ {c x : List ℕ} {r n i : ℕ} (o : RowsSoFar c x r n i) where
  pub rows_next : i < r → (many : ℕ) → many ≡ row_len c x i → RowsSoFar c x r (n + 2 * many) (i + 1)
  rows_next h many e =
      let s = o.start in
      let w = row_next c x i in
      record { far = omega arith; start = omega arith }

-- newest_lane: the first i entries say what all n say
pub record NewestSoFar (x : List ℕ) (base tag other n i : ℕ) : Type 0 where
  pub far : i ≤ n
  pub rest : newest_lane x base tag other i ≡ newest_lane x base tag other n

module _ {x : List ℕ} {base tag other n i : ℕ} (o : NewestSoFar x base tag other n i) where
  module _ (h : 0 < i) where
    newest_at : pick (eqb (get_or x (base + 2 * (i - 1)) 0) tag) (get_or x (base + 2 * (i - 1) + 1) 0)
        (newest_lane x base tag other (i - 1))
        ≡ newest_lane x base tag other n
    unfolding newest_lane
    newest_at = let e : i ≡ suc (i - 1) = omega arith in rw e at o.rest

    -- it has another tag; it has this one
    pub newest_next : get_or x (base + 2 * (i - 1)) 0 ≢ tag → NewestSoFar x base tag other n (i - 1)
    newest_next d =
        record { far = let w = o.far in omega arith; rest = pick_next _ _ _ _ (ne_eqb _ _ d) refl ∙ newest_at }

    pub newest_here : get_or x (base + 2 * (i - 1)) 0 ≡ tag
        → get_or x (base + 2 * (i - 1) + 1) 0 ≡ newest_lane x base tag other n
    newest_here e = pick_here _ _ _ _ (eq-eqb _ _ e) refl ∙ newest_at

  -- none has it
  pub newest_end : i ≤ 0 → other ≡ newest_lane x base tag other n
  unfolding newest_lane
  newest_end h = let e : i ≡ 0 = omega arith in rw e at o.rest

-- queued_lane, loaded_lane: of the row that the code looks through
module _ (c x : List ℕ) (l row base n result : ℕ) (s : base ≡ row_start c x row) (m : n ≡ row_len c x row) where
  pub queued_made : (q at : ℕ) → q ≡ line_in c l → row ≡ queue_row c q → at ≡ word_at c l
      → result ≡ newest_lane x base l (get_or x at 0) n
      → result ≡ queued_lane c x l
  unfolding queued_lane
  queued_made q at e r w f = f ∙ rw (w, m, s, r, e)

  pub loaded_made : (t other : ℕ) → row ≡ t → other ≡ queued_lane c x l → result ≡ newest_lane x base l other n
      → result ≡ loaded_lane c x t l
  unfolding loaded_lane
  loaded_made t other r o f = f ∙ rw (o, m, s, r)

-- what the loop of `newest` needs
pub ruleset newest = (newest_next, newest_here, newest_end)
