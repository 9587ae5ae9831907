-- Laws of the rows: what an entry that joins a row, leaves one or goes from one to another makes of the view.
--   rowed v r l         the view v with the row l for row r; how long each row is said to be stays as it was
--   grown v r tag word  so, with an entry more at the end of row r
--   shrunk v r i        so, without the entry at position i of row r
--   spare c v           how many lanes stand behind those in use
-- Each law is made in two: the entries are moved in place, and then the row's length is changed by one.
-- Assumes nothing.
use Prim.Native.Nat.{ℕ, suc, ◌+◌, ◌*◌, ◌-◌, ◌<◌, ◌≤◌}
use mathlib.Core.Path.{◌≡◌, refl, ap, sym, ◌∙◌}
use mathlib.Core.List.{List, [], ◌∷◌, ◌++◌, append_assoc}
use native.Mathlib.Nat.{add_assoc}
use native.Mathlib.Numerals.{add-one}
use native.Mathlib.Omega.{arith}
use lib.ListN.{length, get_or, take, drop, replicate, length-append, length-take, length-drop, length-replicate}
use Rattle.cases.specs.Sizes.{all_code}
use Rattle.machine.specs.Fit.{sum_to}
use Rattle.search.specs.Sizes.{most_lanes}
use Rattle.search.specs.Lanes.{join_to}
use Rattle.search.specs.Listing.{threads_in, lines_in, ListingFits}
use Rattle.search.specs.Rows.{rows_in, queue_row, pool_at, row_start, pool_end}
use Rattle.search.specs.Taken.{padded, inserted, carried, row_joined, row_left, row_carried}
use Rattle.search.proofs.lanes.SeenLaws.{Seen, Even, changed, lay, with_long, with_joined, with_left}
use Rattle.search.proofs.lanes.JoinLaws.{changed_same, changed_other, shifted, join_same, join_other}
use Rattle.search.proofs.lanes.ShiftLaws.{padded_by, inserted_at, carried_at, entry_split}
use Rattle.search.proofs.lanes.LayLaws.{front, behind, lay_front, front_split, lay_length}
use Rattle.search.proofs.lanes.LayLaws.{see_start, see_row, count_long, discount_long}
use Rattle.search.proofs.lanes.EvenLaws.{length_left}

abbrev rowed : Seen → ℕ → List ℕ → Seen
rowed v r l =
    record {
      issued = v.issued;
      long = v.long;
      word = v.word;
      register = v.register;
      row = changed v.row r l;
    }

abbrev grown : Seen → ℕ → ℕ → ℕ → Seen
grown v r tag word = rowed v r (v.row r ++ (tag ∷ word ∷ []))

abbrev shrunk : Seen → ℕ → ℕ → Seen
shrunk v r i = rowed v r (take (2 * i) (v.row r) ++ drop (2 * i + 2) (v.row r))

abbrev spare : List ℕ → Seen → ℕ
spare c v = most_lanes - (pool_at c + 2 * sum_to (rows_in c) v.long)

module _ (c : List ℕ) (v : Seen) where
  -- rowed: the lanes before row n, taken apart at that row; how many lanes all are
  front_rowed : (r n : ℕ) (l : List ℕ) → r < n → front c (rowed v r l) n ≡ front c v r ++ l ++ behind v r n
  unfolding front behind
  front_rowed r n l h =
      rw (join_other n r v.row (changed v.row r l) h (changed_other v.row r l), changed_same v.row r l)
      (simp append_assoc)

  length_rowed : (r : ℕ) (l : List ℕ) → r < rows_in c
      → length (lay c (rowed v r l)) + length (v.row r) ≡ length (lay c v) + length l
  length_rowed r l h =
      rw (lay_front c (rowed v r l), lay_front c v, front_rowed r (rows_in c) l h, front_split c v r (rows_in c) h)
      (simp length-append (omega arith))

  -- row r at the end of the lanes before the next; all lanes, taken apart there; with an entry put there
  front_next : (r : ℕ) → front c v (suc r) ≡ front c v r ++ v.row r
  unfolding front join_to
  front_next r = simp append_assoc

  lay_apart : (r : ℕ) → r < rows_in c → lay c v ≡ front c v (suc r) ++ behind v r (rows_in c)
  lay_apart r h = lay_front c v ∙ front_split c v r (rows_in c) h ∙ rw (front_next r)

  lay_grown : (r tag word : ℕ) → r < rows_in c
      → lay c (grown v r tag word) ≡ front c v (suc r) ++ tag ∷ word ∷ behind v r (rows_in c)
  lay_grown r tag word h =
      rw (
        lay_front c (grown v r tag word),
        front_rowed r (rows_in c) (v.row r ++ (tag ∷ word ∷ [])) h,
        front_next r,
      )
      (simp append_assoc)

  -- grown: how many lanes
  length_grown : (r tag word : ℕ) → r < rows_in c → length (lay c (grown v r tag word)) ≡ length (lay c v) + 2
  length_grown r tag word h =
      let e = simp length-append at (length_rowed r (v.row r ++ (tag ∷ word ∷ [])) h) in
      omega arith

module _ (c : List ℕ) (v : Seen) (even : Even c v) where
  -- shrunk: how many lanes
  length_shrunk : (r i : ℕ) → r < rows_in c → i < v.long r → length (lay c (shrunk v r i)) + 2 ≡ length (lay c v)
  length_shrunk r i h k =
      let d = length_left c v even r i h k in
      let e = length_rowed c v r (take (2 * i) (v.row r) ++ drop (2 * i + 2) (v.row r)) h in
      omega arith

  -- an entry goes to the end of the lanes before row n
  carried_front : (r n i tag word : ℕ) (after : List ℕ) → r < n → r < rows_in c → i < v.long r
      → carried (front c v n ++ after) (length (front c v r) + 2 * i) (length (front c v n)) tag word
      ≡ front c (shrunk v r i) n ++ tag ∷ word ∷ after
  carried_front r n i tag word after h m k =
      let l : List ℕ = v.row r in
      let at : ℕ = length (front c v r) + 2 * i in
      let e = even.twice r m in
      let apart : front c v n
      ≡ front c v r ++ take (2 * i) l
      ++ get_or l (2 * i) 0 ∷ get_or l (2 * i + 1) 0 ∷ (drop (2 * i + 2) l ++ behind v r n)
      = front_split c v r n h
      ∙ ap (λ (y : List ℕ). front c v r ++ y ++ behind v r n) (entry_split l (2 * i) (omega arith))
      ∙ simp append_assoc in
      let long = simp (length-append, length-take, length-drop) at (ap length apart) in
      ap (λ (y : List ℕ). carried (y ++ after) at (length (front c v n)) tag word) apart
      ∙ carried_at (front c v r ++ take (2 * i) l) (drop (2 * i + 2) l ++ behind v r n) after (get_or l (2 * i) 0)
      (get_or l (2 * i + 1) 0) tag word at (length (front c v n)) (simp (length-append, length-take) (omega arith))
      (simp (length-append, length-drop) (omega arith))
      ∙ rw (front_rowed c v r n (take (2 * i) l ++ drop (2 * i + 2) l) h) (simp append_assoc)

module _ (c : List ℕ) (fits : ListingFits c) (v : Seen) (even : Even c v)
    (few : sum_to (rows_in c) v.long ≤ all_code) where
  -- the lanes in use and those behind are all
  lay_spare : length (lay c v) + spare c v ≡ most_lanes
  lay_spare = rw (lay_length c v even) (omega arith)

  pub padded_long : length (padded (lay c v)) ≡ most_lanes
  padded_long =
      ap length (padded_by (lay c v) (spare c v) lay_spare)
      ∙ simp (length-append, length-replicate) lay_spare

  -- row_joined: an entry moved in at the end of row r; and counted
  inserted_row : (r tag word : ℕ) → r < rows_in c → sum_to (rows_in c) v.long < all_code
      → inserted (padded (lay c v)) (row_start c (padded (lay c v)) (r + 1)) (pool_end c (padded (lay c v))) tag word
      ≡ padded (lay c (grown v r tag word))
  inserted_row r tag word h room =
      let k : ℕ = spare c v - 2 in
      let size = lay_spare in
      let more = length_grown c v r tag word h in
      rw (
        add-one,
        ← see_start c v even (suc r) (omega arith),
        ← see_start c v even (rows_in c) (omega arith),
        padded_by (lay c v) (suc (suc k)) (omega arith),
        padded_by (lay c (grown v r tag word)) k (omega arith),
        lay_grown c v r tag word h,
        lay_apart c v r h,
      )
      (inserted_at (front c v (suc r)) (behind v r (rows_in c)) (replicate k 0) 0 0 tag word
      (length (front c v (suc r))) (length (front c v (rows_in c))) refl
      (rw (← lay_front c v, lay_apart c v r h) (sym (length-append (front c v (suc r)) (behind v r (rows_in c))))))

  pub row_joined_lem : (r tag word : ℕ) → r < rows_in c → sum_to (rows_in c) v.long < all_code
      → row_joined c (padded (lay c v)) r tag word ≡ padded (lay c (with_joined v r tag word))
  unfolding row_joined
  row_joined_lem r tag word h room = rw (inserted_row r tag word h room) (count_long c (grown v r tag word) r h)

  -- row_left: an entry of row r moved behind all rows, as zeros; and discounted
  carried_out : (r i : ℕ) → r < rows_in c → i < v.long r
      → carried (padded (lay c v)) (row_start c (padded (lay c v)) r + 2 * i) (pool_end c (padded (lay c v))) 0 0
      ≡ padded (lay c (shrunk v r i))
  carried_out r i h k =
      let size = lay_spare in
      let less = length_shrunk c v even r i h k in
      rw (
        ← see_start c v even r (omega arith),
        ← see_start c v even (rows_in c) (omega arith),
        padded_by (lay c v) (spare c v) size,
        padded_by (lay c (shrunk v r i)) (suc (suc (spare c v))) (omega arith),
        lay_front c v,
        lay_front c (shrunk v r i),
      )
      (carried_front c v even r (rows_in c) i 0 0 (replicate (spare c v) 0) h h k)

  pub row_left_lem : (r i : ℕ) → r < rows_in c → i < v.long r
      → row_left c (padded (lay c v)) r (row_start c (padded (lay c v)) r + 2 * i) ≡ padded (lay c (with_left v r i))
  unfolding row_left
  row_left_lem r i h k = rw (carried_out r i h k) (discount_long c (shrunk v r i) r h)

  -- row_carried: an entry of thread t's row moved to the end of line q's; and discounted there, and counted here
  carried_over : (t i q tag word : ℕ) → t < threads_in c → q < lines_in c → i < v.long t
      → carried (padded (lay c v)) (row_start c (padded (lay c v)) t + 2 * i)
      (row_start c (padded (lay c v)) (queue_row c q + 1)) tag word
      ≡ padded (lay c (grown (shrunk v t i) (queue_row c q) tag word))
  unfolding behind shifted
  carried_over t i q tag word h m k =
      let u : Seen = shrunk v t i in
      let r : ℕ = queue_row c q in
      let size = lay_spare in
      let less = length_shrunk c v even t i (omega arith) k in
      let more = length_grown c u r tag word (omega arith) in
      let same : behind u r (rows_in c) ≡ behind v r (rows_in c)
      = join_same (rows_in c - suc r) (shifted (suc r) u.row) (shifted (suc r) v.row)
      (λ j l. changed_other v.row t _ (suc r + j) (λ e. omega arith)) in
      rw (
        add-one,
        ← see_start c v even t (omega arith),
        ← see_start c v even (suc r) (omega arith),
        padded_by (lay c v) (spare c v) size,
        padded_by (lay c (grown u r tag word)) (spare c v) (omega arith),
        lay_grown c u r tag word (omega arith),
        lay_apart c v r (omega arith),
        same,
        append_assoc (front c v (suc r)),
      )
      (carried_front c v even t (suc r) i tag word (behind v r (rows_in c) ++ replicate (spare c v) 0) (omega arith)
      (omega arith) k ∙ simp append_assoc)

  pub row_carried_lem : (t i q tag : ℕ) → t < threads_in c → q < lines_in c → i < v.long t
      → row_carried c (padded (lay c v)) t (row_start c (padded (lay c v)) t + 2 * i) q tag
      ≡ padded (lay c (with_joined (with_left v t i) (queue_row c q) tag (get_or (v.row t) (2 * i + 1) 0)))
  unfolding row_carried
  row_carried_lem t i q tag h m k =
      let start : ℕ = row_start c (padded (lay c v)) t in
      let word : ℕ = get_or (v.row t) (2 * i + 1) 0 in
      let w : Seen = grown (shrunk v t i) (queue_row c q) tag word in
      let e = even.twice t (omega arith) in
      let see : get_or (padded (lay c v)) (start + 2 * i + 1) 0 ≡ word
      = rw (add_assoc start (2 * i) 1) (see_row c v even t (2 * i + 1) (omega arith) (omega arith)) in
      rw (see, carried_over t i q tag word h m k, discount_long c w t (omega arith))
      (count_long c (with_long w t (v.long t - 1)) (queue_row c q) (omega arith))
