-- The lanes of a program's first state, and the loop that makes them.
--   begun_word p l   each location's word while the first l are put
--   begun p l       what is seen then
-- Assumes nothing.
use Prim.Native.Nat.{ℕ, zero, suc, ◌+◌, ◌*◌, ◌-◌, ◌≤◌, ◌<◌}
use mathlib.Core.Path.{◌≡◌, refl, sym, ap, ◌∙◌}
use mathlib.Core.Logic.{◌⊎◌, inl, inr}
use mathlib.Core.Bool.{Bool, true, false}
use mathlib.Core.List.{List, [], append-nil}
use native.Mathlib.Numerals.{add-one}
use native.Mathlib.Omega.{arith}
use borrow.Author.Tests.{lt-ltb, le-ltb}
use lib.Dec.{ltb}
use lib.ListN.{length, get_or, set, replicate, length-replicate, replicate-append-replicate}
use Rattle.cases.specs.declared.case.Program.{Program}
use Rattle.cases.specs.Choice.{pick}
use Rattle.cases.specs.Ranges.{ProgramFits}
use Rattle.cases.specs.Sizes.{most_threads, most_locations, most_registers}
use Rattle.cases.proofs.ArrayLaws.{get_or_blank}
use Rattle.cases.proofs.ChoiceLaws.{pick_true, pick_false}
use Rattle.machine.specs.Sizes.{all_registers}
use Rattle.machine.specs.Rules.{start_of}
use Rattle.machine.specs.View.{buffer_len, queue_len}
use Rattle.machine.proofs.lists.PartLaws.{lt_or_ge}
use Rattle.machine.proofs.Effects.{start_buffer, start_queue, start_issued, start_word}
use Rattle.search.specs.Sizes.{most_lanes}
use Rattle.search.specs.Lanes.{join_to, each, single, spread, buffer_lanes, queue_lanes, register_lane}
use Rattle.search.specs.Lanes.{lanes_of}
use Rattle.search.specs.Listing.{threads_in, locations_in, listing_of, ListingFits}
use Rattle.search.specs.Rows.{rows_in, word_at, pool_at}
use Rattle.search.specs.Taken.{padded}
use Rattle.search.proofs.listing.ListingLaws.{listing_locations, listing_fits}
use Rattle.search.proofs.lanes.SeenLaws.{Seen, lay, with_word, changed}
use Rattle.search.proofs.lanes.JoinLaws.{each_same, changed_same, changed_other}
use Rattle.search.proofs.lanes.ShiftLaws.{padded_by}
use Rattle.search.proofs.lanes.LayLaws.{lay_same, set_word}
use Rattle.search.proofs.lanes.StateLaws.{split, seen_of, lay_of}

abbrev zeroes : ℕ → ℕ
zeroes i = 0

abbrev nothing : ℕ → List ℕ
nothing i = []

unfoldable pub begun_word : Program → ℕ → ℕ → ℕ
begun_word p l k = pick (ltb k l) (get_or p.first k 0) 0

abbrev pub begun : Program → ℕ → Seen
begun p l = record { issued = zeroes; long = zeroes; word = begun_word p l; register = zeroes; row = nothing }

-- nothing but zeros, and nothing at all, one behind the other
each_zeroes : (n : ℕ) → each n zeroes ≡ replicate n 0
unfolding each single join_to
each_zeroes zero = refl
each_zeroes (suc n) = rw (each_zeroes n) (replicate-append-replicate {A = ℕ} n 1 0 ∙ rw add-one)

join_nothing : (n : ℕ) → join_to n nothing ≡ []
unfolding join_to
join_nothing zero = refl
join_nothing (suc n) = rw (join_nothing n)

-- begun_word: put; not yet
begun_put : (p : Program) (l k : ℕ) → k < l → begun_word p l k ≡ get_or p.first k 0
unfolding begun_word
begun_put p l k h = pick_true _ _ _ (lt-ltb k l h)

begun_blank : (p : Program) (l k : ℕ) → l ≤ k → begun_word p l k ≡ 0
unfolding begun_word
begun_blank p l k h = pick_false _ _ _ (le-ltb k l h)

-- before the first word is put there are zeros alone
lay_zeroes : (p : Program) (c : List ℕ) → lay c (begun p 0) ≡ replicate (pool_at c) 0
unfolding lay
lay_zeroes p c =
    rw (
      each_same (locations_in c) (begun_word p 0) zeroes (λ k h. begun_blank p 0 k (omega arith)),
      each_zeroes (threads_in c),
      each_zeroes (rows_in c),
      each_zeroes (locations_in c),
      each_zeroes (threads_in c * most_registers),
      join_nothing (rows_in c),
      append-nil,
      replicate-append-replicate {A = ℕ} (threads_in c) (rows_in c) 0,
      replicate-append-replicate {A = ℕ} (threads_in c + rows_in c) (locations_in c) 0,
      replicate-append-replicate {A = ℕ} (threads_in c + rows_in c + locations_in c) (threads_in c * most_registers) 0,
    )

begun_zeroes : (p : Program) (c : List ℕ) → ListingFits c → padded (lay c (begun p 0)) ≡ replicate most_lanes 0
begun_zeroes p c g =
    let long : length {A = ℕ} (replicate (pool_at c) 0) ≡ pool_at c = length-replicate {A = ℕ} (pool_at c) 0 in
    let all : pool_at c + (most_lanes - pool_at c) ≡ most_lanes = omega arith in
    rw (lay_zeroes p c)
    (padded_by (replicate (pool_at c) 0) (most_lanes - pool_at c) (rw long all)
    ∙ replicate-append-replicate {A = ℕ} (pool_at c) (most_lanes - pool_at c) 0
    ∙ rw all)

-- one word more: in the view; set among the lanes
begun_changed : (p : Program) (l k : ℕ) → changed (begun_word p l) l (get_or p.first l 0) k ≡ begun_word p (l + 1) k
begun_changed p l k = go (lt_or_ge k l) (lt_or_ge l k)
  where
    go : (k < l) ⊎ (l ≤ k) → (l < k) ⊎ (k ≤ l)
        → changed (begun_word p l) l (get_or p.first l 0) k ≡ begun_word p (l + 1) k
    go (inl a) b =
        changed_other (begun_word p l) l (get_or p.first l 0) k (λ e. omega arith)
        ∙ begun_put p l k a
        ∙ sym (begun_put p (l + 1) k (omega arith))
    go (inr a) (inl b) =
        changed_other (begun_word p l) l (get_or p.first l 0) k (λ e. omega arith)
        ∙ begun_blank p l k a
        ∙ sym (begun_blank p (l + 1) k (omega arith))
    go (inr a) (inr b) =
        let e : k ≡ l = omega arith in
        rw e (changed_same (begun_word p l) l (get_or p.first l 0) ∙ sym (begun_put p (l + 1) l (omega arith)))

begun_next : (p : Program) (c : List ℕ) (l : ℕ) → l < locations_in c
    → set (padded (lay c (begun p l))) (word_at c l) (get_or p.first l 0) ≡ padded (lay c (begun p (l + 1)))
begun_next p c l h =
    set_word c (begun p l) l (get_or p.first l 0) h
    ∙ ap padded
    (lay_same c (with_word (begun p l) l (get_or p.first l 0)) (begun p (l + 1))
    (record {
      issued = λ t low. refl;
      long = λ r low. refl;
      word = λ k low. begun_changed p l k;
      register = λ i low. refl;
      row = λ r low. refl;
    }))

-- what the start holds of each thread and line
module _ (p : Program) where
  no_entries : (r : ℕ) → 0 ≡ split p.threads (buffer_len (start_of p)) (queue_len (start_of p)) r
  unfolding start_of split pick
  no_entries r = go (ltb r p.threads)
    where
      go : (b : Bool) → 0 ≡ pick b (buffer_len (start_of p) r) (queue_len (start_of p) (r - p.threads))
      go true = sym (get_or_blank {A = ℕ} most_threads r 0)
      go false = sym (get_or_blank {A = ℕ} most_locations (r - p.threads) 0)

  no_rows : (r : ℕ) → [] ≡ split p.threads (buffer_lanes (start_of p)) (queue_lanes (start_of p)) r
  unfolding split pick buffer_lanes queue_lanes spread
  no_rows r = go (ltb r p.threads)
    where
      go : (b : Bool) → [] ≡ pick b (buffer_lanes (start_of p) r) (queue_lanes (start_of p) (r - p.threads))
      go true = rw (start_buffer p r)
      go false = rw (start_queue p (r - p.threads))

  no_register : (i : ℕ) → 0 ≡ register_lane (start_of p) i
  unfolding start_of register_lane
  no_register i = sym (get_or_blank {A = ℕ} all_registers i 0)

  -- all words put: the start's lanes
  begun_all : (l : ℕ) → p.locations ≤ l → lay (listing_of p) (begun p l) ≡ lanes_of p (start_of p)
  begun_all l h =
      let e = listing_locations p in
      lay_same (listing_of p) (begun p l) (seen_of p (start_of p))
      (record {
        issued = λ t low. sym (start_issued p t);
        long = λ r low. no_entries r;
        word = λ k low. begun_put p l k (omega arith) ∙ sym (start_word p k);
        register = λ i low. no_register i;
        row = λ r low. no_rows r;
      })
      ∙ lay_of p (start_of p)

-- the words of the first l locations are put
pub record StartSoFar (p : Program) (c x : List ℕ) (l : ℕ) : Type 0 where
  pub program : ProgramFits p
  pub listed : c ≡ listing_of p
  pub laid : x ≡ padded (lay c (begun p l))

-- none is put yet
pub begun_start : (p : Program) (c : List ℕ) → ProgramFits p → c ≡ listing_of p
    → StartSoFar p c (replicate most_lanes 0) 0
begun_start p c g e =
    record {
      program = g;
      listed = e;
      laid = sym (begun_zeroes p c (rw e (listing_fits p g)));
    }

module _ {p : Program} {c x : List ℕ} {l : ℕ} (o : StartSoFar p c x l) where
  -- one more; all
  pub start_next : l < p.locations → (at : ℕ) → at ≡ word_at c l
      → StartSoFar p c (set x at (get_or p.first l 0)) (l + 1)
  start_next h at e =
      let low : l < locations_in c = rw o.listed (rw (listing_locations p) h) in
      record {
        program = o.program;
        listed = o.listed;
        laid = rw (o.laid, e) (begun_next p c l low);
      }

  pub start_end : p.locations ≤ l → x ≡ padded (lanes_of p (start_of p))
  start_end h = o.laid ∙ ap padded (rw o.listed (begun_all p l h))
