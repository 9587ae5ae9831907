-- Laws of rows as a step changes lanes: the change stays within the lanes, a length that grows or falls has room
-- to, and a change to another lane leaves all lengths. Assumes nothing.
use Prim.Native.Nat.{ℕ, suc, ◌+◌, ◌*◌, ◌-◌, ◌≤◌, ◌<◌}
use mathlib.Core.Path.{◌≡◌}
use mathlib.Core.Logic.{◌≢◌}
use mathlib.Core.List.{List}
use native.Mathlib.Omega.{arith}
use lib.ListN.{get_or, set}
use lib.Seq.{get_or-set_other}
use Rattle.cases.specs.Sizes.{all_code}
use Rattle.machine.specs.Fit.{sum_to}
use Rattle.machine.proofs.lists.SumLaws.{sum_same, sum_part}
use Rattle.search.specs.Sizes.{most_lanes}
use Rattle.search.specs.Listing.{threads_in, count_in, code_at, ListingFits}
use Rattle.search.specs.Rows.{rows_in, row_len_at, register_at, pool_at, row_len, row_start, pool_end}
use Rattle.search.specs.Rows.{FewEntries, RoomForOne}
use Rattle.search.specs.Taken.{inserted, carried, counted, discounted, fetched_lanes, CodeHere}
use Rattle.search.proofs.lanes.GeneralLaws.{sum_front}
use Rattle.search.proofs.listing.ListingLaws.{code_low}
use Rattle.search.proofs.rows.RowLoopLaws.{row_low, row_next}
use Rattle.search.proofs.taken.InPlaceLaws.{inserted_before, carried_before}

-- a row starts no further than a later one; two rows' lengths
row_front : (c x : List ℕ) (r s : ℕ) → r ≤ s → row_start c x r ≤ row_start c x s
row_front c x r s h = let w = sum_front (row_len c x) r s h in omega arith

row_pair : (c x : List ℕ) (r s : ℕ) → r < s → s < rows_in c
    → row_len c x r + row_len c x s ≤ sum_to (rows_in c) (row_len c x)
unfolding sum_to
row_pair c x r s h k =
    let a = sum_part s r (row_len c x) h in
    let b = sum_front (row_len c x) (suc s) (rows_in c) k in
    omega arith

module _ (c x : List ℕ) (g : ListingFits c) where
  -- a row's length stands within the lanes
  length_within : (r : ℕ) → r < rows_in c → row_len_at c r < most_lanes
  length_within r h = omega arith

  -- an entry more: it goes within the lanes; its row's length can grow
  module _ (room : RoomForOne c x) (r at end : ℕ) (h : r < rows_in c) (e : at ≡ row_start c x (r + 1)) where
    pub joined_within : end ≡ pool_end c x → (at ≤ end) × (end + 2 ≤ most_lanes)
    joined_within f =
        let w = row_front c x (r + 1) (rows_in c) (omega arith) in
        (omega arith, omega arith)

    pub joined_count : (tag word : ℕ) (y : List ℕ) (n : ℕ) → y ≡ inserted x at end tag word → n ≡ row_len_at c r
        → (n < most_lanes) × (get_or y n 0 < all_code)
    unfolding row_len
    joined_count tag word y n f k =
        let w = sum_part (rows_in c) r (row_len c x) h in
        let m = length_within r h in
        (omega arith, rw (f, k, inserted_before x at end tag word (row_len_at c r) (omega arith)) (omega arith))

  -- an entry goes elsewhere: it stands within the lanes; its row's length can fall, and that of the queue it joins
  -- can grow
  module _ (few : FewEntries c x) (r at : ℕ) (h : r < rows_in c) (e : at + 2 ≤ row_start c x (r + 1)) where
    pub carried_within : (s to : ℕ) → r < s → s ≤ rows_in c → to ≡ row_start c x s
        → (at + 2 ≤ to) × (to ≤ most_lanes)
    carried_within s to k l f =
        let v = row_front c x (r + 1) s (omega arith) in
        let w = row_low c x g few s l in
        (omega arith, omega arith)

    module _ (low : pool_at c ≤ at) (some : 0 < row_len c x r) (to tag word : ℕ) (y : List ℕ) (n : ℕ)
        (f : y ≡ carried x at to tag word) (k : n ≡ row_len_at c r) where
      pub carried_discount : (n < most_lanes) × (0 < get_or y n 0)
      unfolding row_len
      carried_discount =
          let m = length_within r h in
          (omega arith, rw (f, k, carried_before x at to tag word (row_len_at c r) (omega arith)) some)

      pub carried_count : (s : ℕ) (z : List ℕ) (m : ℕ) → r < s → s < rows_in c → z ≡ discounted y n
          → m ≡ row_len_at c s
          → (m < most_lanes) × (get_or z m 0 < all_code)
      unfolding row_len discounted
      carried_count s z m u v d j =
          let l = length_within s v in
          let w = row_pair c x r s u v in (
            omega arith,
            rw (
              d,
              j,
              get_or-set_other y n (row_len_at c s) (get_or y n 0 - 1) 0 (λ i. omega arith),
              f,
              carried_before x at to tag word (row_len_at c s) (omega arith),
            )
                (omega arith),
          )

-- an entry of row r stands at a lane: behind all that is no entry, before the next row, within the lanes
pub record EntryWithin (c x : List ℕ) (r at : ℕ) : Type 0 where
  pub behind : pool_at c ≤ at
  pub before : at + 2 ≤ row_start c x (r + 1)
  pub within : at + 2 ≤ most_lanes

pub entry_within : (c x : List ℕ) → ListingFits c → FewEntries c x → (r b n i : ℕ) → r < rows_in c → i < row_len c x r
    → b ≡ r → n ≡ row_start c x b → EntryWithin c x r (n + 2 * i)
entry_within c x g few r b n i h k d e =
    let f : n ≡ row_start c x r = rw d at e in
    let v = row_next c x r in
    let w = row_low c x g few (r + 1) (omega arith) in
    record { behind = omega arith; before = omega arith; within = omega arith }

-- a lane that is no row's length, changed: there are as many entries as before
entries_same : (c x : List ℕ) (i v : ℕ) → ((r : ℕ) → r < rows_in c → row_len_at c r ≢ i)
    → sum_to (rows_in c) (row_len c (set x i v)) ≡ sum_to (rows_in c) (row_len c x)
unfolding row_len
entries_same c x i v h =
    sum_same (rows_in c) (row_len c (set x i v)) (row_len c x)
    (λ r k. get_or-set_other x i (row_len_at c r) v 0 (h r k))

-- a register's; how many a thread has issued
pub fetched_room : (c x y : List ℕ) (t at : ℕ) → y ≡ fetched_lanes c x t at → RoomForOne c x → RoomForOne c y
unfolding fetched_lanes
fetched_room c x y t at f room =
    rw (f, entries_same c x (register_at c t (get_or c (at + 2) 0)) _ (λ r h e. omega arith)) room

counted_room : (c x : List ℕ) (t : ℕ) → t < threads_in c → RoomForOne c x → RoomForOne c (counted x t)
unfolding counted
counted_room c x t h room = rw (entries_same c x t (get_or x t 0 + 1) (λ r k e. omega arith)) room

-- an instruction that is left, as the code finds it
pub code_here : (c x y : List ℕ) (t at : ℕ) → ListingFits c → RoomForOne c x → t < threads_in c
    → get_or x t 0 < count_in c t → at ≡ code_at t (get_or x t 0) → y ≡ counted x t → CodeHere c y t at
code_here c x y t at g room h k e f =
    let a = code_low c g t (get_or x t 0) h k in
    record {
      roomy = rw f (counted_room c x t h room);
      low = h;
      within = omega arith;
      low_location = rw e (g.low_locations t (get_or x t 0) a.0 k);
      low_register = rw e (g.low_registers t (get_or x t 0) a.0 k);
    }
