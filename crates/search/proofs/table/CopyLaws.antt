-- Laws of the stores into the lent words: a part written over, a key copied lane by lane, and what the stores of a
-- record and of its bucket's head leave. Assumes nothing.
use Prim.Native.Nat.{ℕ, zero, suc, ◌+◌, ◌*◌, ◌≤◌, ◌<◌}
use mathlib.Core.Path.{◌≡◌, refl, sym, ap, ◌∙◌}
use mathlib.Core.Logic.{◌≢◌}
use mathlib.Core.List.{List, [], ◌∷◌, append_assoc}
use native.Mathlib.Omega.{arith}
use native.Mathlib.Nat.{add-zero}
use native.Mathlib.Numerals.{add-one}
use lib.ListN.{length, get_or, set, take, drop, length-set}
use lib.Seq.{sets, sets-eq, length-sets, drop-drop, length-take-le, get_or-set_same, get_or-set_other}
use lib.Seq.{take-suc, take_all}
use borrow.Rule.Slice.PartMut.{put_mid}
use Rattle.cases.proofs.ArrayLaws.{sets_append}
use Rattle.search.specs.Sizes.{most_lanes, record_words}
use Rattle.search.specs.Table.{place_of}
use Rattle.search.proofs.taken.InPlaceLaws.{get_or_sets_before}

-- sets: one more of a front; the values, where they stand
sets_next : (m key : List ℕ) (at i : ℕ) → i < length key
    → set (sets m at (take i key)) (at + i) (get_or key i 0) ≡ sets m at (take (i + 1) key)
sets_next m key at i h =
    sym (rw (add-one i, take-suc key i 0 h)
    (sets_append m at (take i key) (get_or key i 0 ∷ []) ∙ rw (length-take-le i key (omega arith))))

get_or_sets_within : (vs m : List ℕ) (at i : ℕ) → at + length vs ≤ length m → i < length vs
    → get_or (sets m at vs) (at + i) 0 ≡ get_or vs i 0
get_or_sets_within [] m at i h k = absurd (omega arith)
get_or_sets_within (v ∷ vs) m at zero h k =
    ap (λ y. get_or (sets (set m at v) (suc at) vs) y 0) (add-zero at)
    ∙ get_or_sets_before (set m at v) (suc at) vs at (omega arith)
    ∙ get_or-set_same m at v 0 (omega arith)
get_or_sets_within (v ∷ vs) m at (suc i) h k =
    let n : length (set m at v) ≡ length m = length-set m at v in
    let e : at + suc i ≡ suc at + i = omega arith in
    ap (λ y. get_or (sets (set m at v) (suc at) vs) y 0) e
    ∙ get_or_sets_within vs (set m at v) (suc at) i (omega arith) (omega arith)

-- a part written over: the values put there
pub written_over : (m ys : List ℕ) (at many : ℕ) → at + length ys ≤ length m → many ≡ length ys
    → put_mid at many m ys ≡ sets m at ys
written_over m ys at many h e =
    rw (e, drop-drop (length ys) at m)
    (sym (sets-eq ys m at h ∙ append_assoc (take at m) ys (drop (at + length ys) m)))

-- a loop has copied the first i lanes of a key
pub record CopiedSoFar (before key : List ℕ) (at : ℕ) (m : List ℕ) (i : ℕ) : Type 0 where
  pub within : at + length key ≤ length before
  pub far : i ≤ length key
  pub long : length m ≡ length before
  pub holds : m ≡ sets before at (take i key)

-- nothing is copied yet
pub copied_start : (before key : List ℕ) (at : ℕ) → at + length key ≤ length before
    → CopiedSoFar before key at before 0
copied_start before key at h = record { within = h; far = omega arith; long = refl; holds = refl }

-- one more; all
module _ {before key : List ℕ} {at : ℕ} {m : List ℕ} {i : ℕ} (o : CopiedSoFar before key at m i) where
  pub copied_next : i < length key → CopiedSoFar before key at (set m (at + i) (get_or key i 0)) (i + 1)
  copied_next h =
      record {
        within = o.within;
        far = omega arith;
        long = length-set m (at + i) (get_or key i 0) ∙ o.long;
        holds =
            ap (λ y. set y (at + i) (get_or key i 0)) o.holds ∙ sets_next before key at i h;
      }

  pub copied_end : length key ≤ i → m ≡ sets before at key
  copied_end h = o.holds ∙ ap (sets before at) (take_all _ key h)

-- `last` is m with record `count` written behind the others, and the head of bucket b set to it
pub record Written (m last : List ℕ) (limit count b : ℕ) (key : List ℕ) : Type 0 where
  pub long : length last ≡ length m
  pub link : get_or last (place_of limit count) 0 ≡ get_or m b 0
  pub size : get_or last (place_of limit count + 1) 0 ≡ length key
  pub lanes : (i : ℕ) → i < length key → get_or last (place_of limit count + 2 + i) 0 ≡ get_or key i 0
  pub head : get_or last b 0 ≡ suc count
  pub others : (i : ℕ) → i ≢ b → i < place_of limit count → get_or last i 0 ≡ get_or m i 0

-- link, size and lanes, then the head
module _ (m key : List ℕ) (limit count b : ℕ) (long : limit + limit * record_words ≤ length m)
    (room : count < limit) (low : b < limit) (few : length key ≤ most_lanes) where
  abbrev at : ℕ
  at = place_of limit count

  abbrev linked : List ℕ
  linked = set m at (get_or m b 0)

  abbrev sized : List ℕ
  sized = set linked (at + 1) (length key)

  abbrev laned : List ℕ
  laned = sets sized (at + 2) key

  length_linked : length linked ≡ length m
  length_linked = length-set m at (get_or m b 0)

  length_sized : length sized ≡ length m
  length_sized = length-set linked (at + 1) (length key) ∙ length_linked

  length_laned : length laned ≡ length m
  length_laned = length-sets sized (at + 2) key ∙ length_sized

  -- what stands before the lanes
  before_lanes : (i : ℕ) → i < at + 2 → i ≢ b → get_or (set laned b (count + 1)) i 0 ≡ get_or sized i 0
  before_lanes i h e =
      get_or-set_other laned b i (count + 1) 0 e ∙ get_or_sets_before sized (at + 2) key i h

  pub written : Written m (set laned b (count + 1)) limit count b key
  written =
      let wide : length linked ≡ length m = length_linked in
      let wider : length sized ≡ length m = length_sized in
      let widest : length laned ≡ length m = length_laned in
      record {
        long = length-set laned b (count + 1) ∙ length_laned;
        link =
            before_lanes at (omega arith) (λ e. omega arith)
            ∙ get_or-set_other linked (at + 1) at (length key) 0 (λ e. omega arith)
            ∙ get_or-set_same m at (get_or m b 0) 0 (omega arith);
        size =
            before_lanes (at + 1) (omega arith) (λ e. omega arith)
            ∙ get_or-set_same linked (at + 1) (length key) 0 (omega arith);
        lanes =
            λ i h. get_or-set_other laned b (at + 2 + i) (count + 1) 0 (λ e. omega arith)
            ∙ get_or_sets_within key sized (at + 2) i (omega arith) h;
        head = get_or-set_same laned b (count + 1) 0 (omega arith) ∙ add-one count;
        others =
            λ i e h. before_lanes i (omega arith) e
            ∙ get_or-set_other linked (at + 1) i (length key) 0 (λ q. omega arith)
            ∙ get_or-set_other m at i (get_or m b 0) 0 (λ q. omega arith);
      }

-- what the loop of `copy` needs
pub ruleset copies = (copied_start, copied_end)
