-- Laws of `marked_lanes`, the look for a thread's marker, queue by queue: for each of its two loops a record of what
-- it has found so far, made where the loop begins (start), with a law for each point of the loop that uses it
-- (next, here, end). Assumes nothing.
use Prim.Native.Nat.{ℕ, suc, ◌+◌, ◌*◌, ◌-◌, ◌≤◌, ◌<◌}
use mathlib.Core.Path.{◌≡◌, refl, ◌∙◌}
use mathlib.Core.Logic.{◌≢◌}
use mathlib.Core.Bool.{true, false}
use mathlib.Core.List.{List}
use native.Mathlib.Omega.{arith}
use borrow.Author.Tests.{eq-eqb, ne_eqb}
use lib.Dec.{eqb}
use lib.ListN.{get_or}
use Rattle.cases.specs.Choice.{pick}
use Rattle.cases.proofs.ChoiceLaws.{pick_here, pick_next}
use Rattle.machine.specs.View.{mark_of}
use Rattle.search.specs.Sizes.{most_lanes}
use Rattle.search.specs.Listing.{threads_in, lines_in, ListingFits}
use Rattle.search.specs.Rows.{row_len, row_start, FewEntries, marked_among, marked_from, marked_lanes}
use Rattle.search.proofs.rows.RowLoopLaws.{row_next, row_room}

-- From queue to queue: the queues from number q on say what all of them say
pub record MarkedRowsSoFar (c x : List ℕ) (mark base q : ℕ) : Type 0 where
  pub far : q ≤ lines_in c
  pub start : base ≡ row_start c x (threads_in c + q)
  pub rest : marked_from c x mark base (threads_in c + q) (lines_in c - q)
      ≡ marked_from c x mark (row_start c x (threads_in c)) (threads_in c) (lines_in c)

-- and within queue q: its entries from number i on, and the queues behind it, say what all queues say
pub record MarkedEntriesSoFar (c x : List ℕ) (mark base q n i : ℕ) : Type 0 where
  pub low : q < lines_in c
  pub counted : n ≡ row_len c x (threads_in c + q)
  pub far : i ≤ n
  pub start : base ≡ row_start c x (threads_in c + q)
  pub rest : marked_among x mark (base + 2 * i) (n - i)
      (marked_from c x mark (base + 2 * n) (threads_in c + (q + 1)) (lines_in c - (q + 1)))
      ≡ marked_from c x mark (row_start c x (threads_in c)) (threads_in c) (lines_in c)

-- the first queue is the first of all
pub marked_rows_start : (c x : List ℕ) (mark base : ℕ) → base ≡ row_start c x (threads_in c)
    → MarkedRowsSoFar c x mark base 0
marked_rows_start c x mark base e =
    let z : threads_in c + 0 ≡ threads_in c = omega arith in
    let k : lines_in c - 0 ≡ lines_in c = omega arith in
    record { far = omega arith; start = rw z e; rest = rw (z, k, e) refl }

-- of the queues from number q on, the first and those behind it
marked_from_next : (c x : List ℕ) (mark base q : ℕ) → q < lines_in c
    → marked_among x mark base (row_len c x (threads_in c + q))
    (marked_from c x mark (base + 2 * row_len c x (threads_in c + q)) (threads_in c + (q + 1)) (lines_in c - (q + 1)))
    ≡ marked_from c x mark base (threads_in c + q) (lines_in c - q)
unfolding marked_from
marked_from_next c x mark base q h =
    let k : lines_in c - q ≡ suc (lines_in c - (q + 1)) = omega arith in
    let f : threads_in c + (q + 1) ≡ suc (threads_in c + q) = omega arith in
    rw (k, f)

module _ {c x : List ℕ} {mark base q : ℕ} (o : MarkedRowsSoFar c x mark base q) where
  -- a turn of the outer loop begins; the outer loop ends
  pub marked_entries_start : q < lines_in c → (r n : ℕ) → r ≡ threads_in c + q → n ≡ row_len c x r
      → MarkedEntriesSoFar c x mark base q n 0
  marked_entries_start h r n r_is n_is =
      let e : n ≡ row_len c x (threads_in c + q) = rw r_is at n_is in
      let b : base + 2 * 0 ≡ base = omega arith in
      let k : n - 0 ≡ n = omega arith in
      record {
        low = h;
        counted = e;
        far = omega arith;
        start = o.start;
        rest = rw (b, k, e) (marked_from_next c x mark base q h ∙ o.rest);
      }

  pub marked_end : lines_in c ≤ q → (t : ℕ) → mark ≡ mark_of t → false ≡ marked_lanes c x t
  unfolding marked_lanes marked_from
  marked_end h t e = let k : lines_in c - q ≡ 0 = omega arith in rw (k, e) at o.rest

module _ {c x : List ℕ} {mark base q n i : ℕ} (o : MarkedEntriesSoFar c x mark base q n i) where
  -- the queue's entries stand within the lanes
  pub marked_within : ListingFits c → FewEntries c x → base + 2 * n ≤ most_lanes
  marked_within g few =
      let l = o.low in
      row_room c x g few (threads_in c + q) (omega arith) base n o.start o.counted

  -- an entry is no marker of the thread; it is one
  module _ (h : i < n) where
    marked_at : pick (eqb (get_or x (base + 2 * i) 0) mark) true
        (marked_among x mark (base + 2 * i + 2) (n - (i + 1))
        (marked_from c x mark (base + 2 * n) (threads_in c + (q + 1)) (lines_in c - (q + 1))))
        ≡ marked_from c x mark (row_start c x (threads_in c)) (threads_in c) (lines_in c)
    unfolding marked_among
    marked_at = let k : n - i ≡ suc (n - (i + 1)) = omega arith in rw k at o.rest

    pub marked_entries_next : get_or x (base + 2 * i) 0 ≢ mark → MarkedEntriesSoFar c x mark base q n (i + 1)
    marked_entries_next d =
        let e : base + 2 * (i + 1) ≡ base + 2 * i + 2 = omega arith in
        record {
          low = o.low;
          counted = o.counted;
          far = omega arith;
          start = o.start;
          rest = rw e (pick_next _ _ _ _ (ne_eqb _ _ d) refl ∙ marked_at);
        }

    pub marked_here : get_or x (base + 2 * i) 0 ≡ mark → (t : ℕ) → mark ≡ mark_of t → true ≡ marked_lanes c x t
    unfolding marked_lanes
    marked_here p t e = pick_here _ _ _ _ (eq-eqb _ _ p) refl ∙ marked_at ∙ rw e refl

  -- the inner loop ends
  pub marked_rows_next : n ≤ i → MarkedRowsSoFar c x mark (base + 2 * n) (q + 1)
  unfolding marked_among
  marked_rows_next h =
      let k : n - i ≡ 0 = omega arith in
      let f : threads_in c + q + 1 ≡ threads_in c + (q + 1) = omega arith in
      let w = row_next c x (threads_in c + q) in
      let l = o.low in
      record { far = omega arith; start = rw (o.counted, o.start, w, f) refl; rest = rw k at o.rest }

-- what the loops of `is_marked` need
pub ruleset marks = (marked_within, marked_here, marked_end)
