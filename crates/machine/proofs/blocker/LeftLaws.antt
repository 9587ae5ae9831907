-- Where a step leaves an entry, by `left_by` alone: taken, where it was, or one forward. Assumes nothing.
use Prim.Native.Nat.{ℕ, suc, ◌-◌, ◌≤◌, ◌<◌}
use mathlib.Core.Path.{◌≡◌, refl, sym, ap}
use mathlib.Core.Logic.{◌⊎◌, inl, inr, ◌≢◌}
use mathlib.Core.Bool.{Bool, true, false}
use mathlib.Core.List.{List, [], ◌∷◌}
use native.Mathlib.Omega.{arith}
use borrow.Author.Tests.{eqb-true, eqb-false, ltb-true, ltb-false, eq-eqb}
use lib.Dec.{eqb, ltb}
use Rattle.cases.specs.declared.case.Line.{Line}
use Rattle.cases.specs.declared.case.Thread.{Thread}
use Rattle.cases.specs.declared.case.Step.{Step}
use Rattle.cases.specs.Choice.{pick, both}
use Rattle.cases.specs.Operations.{move, persist}
use Rattle.cases.proofs.ChoiceLaws.{both_true, both_next, never_both}
use Rattle.machine.specs.declared.blocker.Blocker.{Blocker}
use Rattle.machine.specs.declared.blocker.Blocker.TheVariants.{InBuffer, InQueue, NoEntry}
use Rattle.machine.specs.Blocker.{blocker_which, blocker_position}
use Rattle.machine.specs.InTheWay.{moved_by, persisted_by, left_by, left_at}

-- no entry is no place
pub taken_not_buffer : {t : Thread} {n : ℕ} → NoEntry ≢ InBuffer t n
taken_not_buffer e = let z : ◌≡◌ {A = ℕ} 0 1 = ap blocker_which e in omega arith

pub taken_not_queue : {q : Line} {n : ℕ} → NoEntry ≢ InQueue q n
taken_not_queue e = let z : ◌≡◌ {A = ℕ} 0 2 = ap blocker_which e in omega arith

-- what is taken stays taken
pub left_taken : (ks : List Step) → left_at ks NoEntry ≡ NoEntry
unfolding left_at left_by
left_taken [] = refl
left_taken (k ∷ ks) = left_taken ks

-- an entry of a buffer or a queue is taken, or left in it
abbrev pub LeftIn : (ℕ → Blocker) → Blocker → Type 0
LeftIn place b = (b ≡ NoEntry) ⊎ ((n : ℕ) × (b ≡ place n))

left_in : (place : ℕ → Blocker) (a b : Bool) (i n : ℕ) → LeftIn place (pick a (pick b NoEntry (place n)) (place i))
unfolding pick
left_in place true true i n = inl refl
left_in place true false i n = inr (n, refl)
left_in place false b i n = inr (i, refl)

module _ (k : Step) (i : ℕ) where
  pub left_buffer : (t : Thread) → LeftIn (InBuffer t) (left_by k (InBuffer t i))
  unfolding left_by moved_by
  left_buffer t = left_in (InBuffer t) _ _ i _

  pub left_queue : (q : Line) → LeftIn (InQueue q) (left_by k (InQueue q i))
  unfolding left_by persisted_by
  left_queue q = left_in (InQueue q) _ _ i _

-- a test of two that is false: not both hold
apart : {a b c d : ℕ} → both (eqb a b) (eqb c d) ≡ false → a ≡ b → c ≢ d
apart e f g = never_both (sym (both_next _ _ _ (eq-eqb _ _ f) (sym (eq-eqb _ _ g)))) e

-- how far forward a step brings it: not at all, or by one, where the step takes one before it
abbrev pub Moved : Step → Thread → ℕ → ℕ → Type 0
Moved k t i n =
    ((k.code ≡ move → k.thread.0 ≢ t.0) × (n ≡ i))
    ⊎ ((k.code ≡ move) × (k.thread.0 ≡ t.0)
    × (((k.position < i) × (suc n ≡ i)) ⊎ ((i < k.position) × (n ≡ i))))

pub moved_is : (k : Step) (t : Thread) (i n : ℕ) → left_by k (InBuffer t i) ≡ InBuffer t n → Moved k t i n
unfolding left_by moved_by pick
moved_is k t i n =
    go (both (eqb k.code move) (eqb k.thread.0 t.0)) refl (eqb k.position i) refl (ltb k.position i)
    refl
  where
    go : (a : Bool) → both (eqb k.code move) (eqb k.thread.0 t.0) ≡ a
        → (b : Bool) → eqb k.position i ≡ b
        → (c : Bool) → ltb k.position i ≡ c
        → pick a (pick b NoEntry (InBuffer t (pick c (i - 1) i))) (InBuffer t i) ≡ InBuffer t n
        → Moved k t i n
    go false e b f c g h = inl (apart e, sym (ap blocker_position h))
    go true e true f c g h = absurd (taken_not_buffer h)
    go true e false f true g h =
        let own = both_true _ _ e in
        let before : k.position < i = ltb-true _ _ g in
        let at : i - 1 ≡ n = ap blocker_position h in
        inr (eqb-true _ _ own.0, eqb-true _ _ own.1, inl (before, omega arith))
    go true e false f false g h =
        let own = both_true _ _ e in
        let other : k.position ≢ i = eqb-false _ _ f in
        let behind : i ≤ k.position = ltb-false _ _ g in
        inr (eqb-true _ _ own.0, eqb-true _ _ own.1, inr (omega arith, sym (ap blocker_position h)))

abbrev pub Persisted : Step → Line → ℕ → ℕ → Type 0
Persisted k q i n =
    ((k.code ≡ persist → k.location.0 ≢ q.0) × (n ≡ i))
    ⊎ ((k.code ≡ persist) × (k.location.0 ≡ q.0) × (suc n ≡ i))

pub persisted_is : (k : Step) (q : Line) (i n : ℕ) → left_by k (InQueue q i) ≡ InQueue q n → Persisted k q i n
unfolding left_by persisted_by pick
persisted_is k q i n = go (both (eqb k.code persist) (eqb k.location.0 q.0)) refl (eqb i 0) refl
  where
    go : (a : Bool) → both (eqb k.code persist) (eqb k.location.0 q.0) ≡ a
        → (b : Bool) → eqb i 0 ≡ b
        → pick a (pick b NoEntry (InQueue q (i - 1))) (InQueue q i) ≡ InQueue q n
        → Persisted k q i n
    go false e b f h = inl (apart e, sym (ap blocker_position h))
    go true e true f h = absurd (taken_not_queue h)
    go true e false f h =
        let own = both_true _ _ e in
        let some : i ≢ 0 = eqb-false _ _ f in
        let at : i - 1 ≡ n = ap blocker_position h in
        inr (eqb-true _ _ own.0, eqb-true _ _ own.1, omega arith)

-- a step of another kind leaves it where it is
pub moved_none : (k : Step) (t : Thread) (i n : ℕ) → k.code ≢ move → Moved k t i n → n ≡ i
moved_none k t i n c (inl x) = x.1
moved_none k t i n c (inr x) = absurd (c x.0)

pub persisted_none : (k : Step) (q : Line) (i n : ℕ) → k.code ≢ persist → Persisted k q i n → n ≡ i
persisted_none k q i n c (inl x) = x.1
persisted_none k q i n c (inr x) = absurd (c x.0)

-- never further back
pub left_forward : (k : Step) (t : Thread) (i n : ℕ) → left_by k (InBuffer t i) ≡ InBuffer t n → n ≤ i
left_forward k t i n e = go (moved_is k t i n e)
  where
    go : Moved k t i n → n ≤ i
    go (inl x) = omega arith
    go (inr (c, d, inl x)) = omega arith
    go (inr (c, d, inr x)) = omega arith

-- its own move takes it, and no other step
pub left_none : (k : Step) (t : Thread) (i : ℕ) → left_by k (InBuffer t i) ≡ NoEntry
    → (k.code ≡ move) × (k.thread.0 ≡ t.0) × (k.position ≡ i)
unfolding left_by moved_by pick
left_none k t i =
    go (both (eqb k.code move) (eqb k.thread.0 t.0)) refl (eqb k.position i) refl
  where
    go : (a : Bool) → both (eqb k.code move) (eqb k.thread.0 t.0) ≡ a
        → (b : Bool) → eqb k.position i ≡ b
        → pick a (pick b NoEntry (InBuffer t (pick (ltb k.position i) (i - 1) i))) (InBuffer t i) ≡ NoEntry
        → (k.code ≡ move) × (k.thread.0 ≡ t.0) × (k.position ≡ i)
    go false e b f h = absurd (taken_not_buffer (sym h))
    go true e false f h = absurd (taken_not_buffer (sym h))
    go true e true f h =
        let own = both_true _ _ e in
        (eqb-true _ _ own.0, eqb-true _ _ own.1, eqb-true _ _ f)

-- two of one buffer keep their order
pub left_order : (k : Step) (t : Thread) (i j m n : ℕ) → i < j
    → left_by k (InBuffer t i) ≡ InBuffer t m
    → left_by k (InBuffer t j) ≡ InBuffer t n
    → m < n
left_order k t i j m n h a b = go (moved_is k t i m a) (moved_is k t j n b)
  where
    go : Moved k t i m → Moved k t j n → m < n
    go (inl x) (inl y) = omega arith
    go (inl x) (inr y) = absurd (x.0 y.0 y.1)
    go (inr x) (inl y) = absurd (y.0 x.0 x.1)
    go (inr (c, d, inl x)) (inr (e, f, inl y)) = omega arith
    go (inr (c, d, inl x)) (inr (e, f, inr y)) = omega arith
    go (inr (c, d, inr x)) (inr (e, f, inl y)) = omega arith
    go (inr (c, d, inr x)) (inr (e, f, inr y)) = omega arith
