-- The words that a run fixes, and the writes that it really makes. Assumes nothing.
use Prim.Native.Nat.{ℕ, suc, ◌≤◌, ◌<◌}
use mathlib.Core.Path.{◌≡◌, refl, sym, ap, subst, ◌∙◌}
use mathlib.Core.Logic.{◌⊎◌, inl, inr, ◌≢◌}
use mathlib.Core.Bool.{Bool, true, false}
use mathlib.Core.List.{List, [], ◌∷◌, ◌++◌}
use native.Mathlib.Omega.{arith}
use native.Mathlib.Decide.{ℕ_discrete}
use borrow.Author.Tests.{ne_eqb}
use lib.Dec.{eqb}
use Rattle.cases.specs.declared.case.Instruction.{Instruction}
use Rattle.cases.specs.declared.case.Step.{Step}
use Rattle.cases.specs.declared.case.Program.{Program}
use Rattle.cases.specs.Checks.{limits_of, lines_of, step_fault, instruction_at}
use Rattle.cases.specs.Choice.{both, either}
use Rattle.cases.proofs.ChoiceLaws.{pick_false, pick_cases, either_false}
use Rattle.cases.specs.Operations.{store_word, store_register, exchange, compare}
use Rattle.machine.specs.declared.cells.State.{State}
use Rattle.machine.specs.View.{issued_of}
use Rattle.machine.specs.Rules.{rule_of, next_of}
use Rattle.machine.specs.Fit.{Fits}
use Rattle.machine.specs.Model.{Leads, Faultless}
use Rattle.machine.specs.Next.{issue_step, move_step, persist_step}
use Rattle.machine.specs.Ptso.{ptso}
use Rattle.machine.proofs.Promises.{step_fits}
use Rattle.machine.proofs.Effects.{step_kinds, issue_issued, issue_issued_other, move_issued, persist_issued}
use Rattle.machine.specs.Joins.{swaps}
use Rattle.demands.specs.Writes.{is_write, writes, writes_at, really, makes, fixed_by, issues_at, at_issue}
use Rattle.demands.specs.Writes.{fixed_from, made_from}
use Rattle.demands.proofs.fixed.IssuesLaws.{at_here, at_next, issues_here, issues_later}
use Rattle.demands.proofs.fixed.IssuesLaws.{issues_other, move_issues, persist_issues}

-- where a test is never true unless another is
both_less : (a b c : Bool) → (b ≡ false → a ≡ false) → both b c ≡ false → both a c ≡ false
unfolding both
both_less a false c f h = rw (f refl) refl
both_less true true c f h = h
both_less false true c f h = refl

-- A legal step issues instruction i of thread t, and this is the next one; or it doesn't, and the thread's
-- count stays or goes on to another
module _ (p : Program) (s : State) (f : Fits p s) (k : Step) (t i : ℕ) where
  pub record Issues : Type 0 where
    pub here : issues_at s k t i ≡ true
    pub count : issued_of s t ≡ i
    pub next : issued_of (next_of p s k) t ≡ suc i

  pub record Passes : Type 0 where
    pub elsewhere : issues_at s k t i ≡ false
    pub rises : issued_of s t ≤ issued_of (next_of p s k) t
    pub stays : issued_of s t ≤ i → issued_of (next_of p s k) t ≤ i

  pub issues_or_passes : step_fault (limits_of p) k ≡ 0 → rule_of p s k ≡ 0 → Issues ⊎ Passes
  issues_or_passes faultless legal = go (step_kinds p k faultless)
    where
      quiet : issues_at s k t i ≡ false → issued_of (next_of p s k) t ≡ issued_of s t → Passes
      quiet e c = record { elsewhere = e; rises = omega arith; stays = λ h. omega arith }

      issued : (m : ℕ) → m < p.threads → k ≡ issue_step m → Dec (t ≡ m) → Dec (issued_of s t ≡ i)
          → Issues ⊎ Passes
      issued m h e (no d) b =
          inr (quiet (rw e (issues_other s m t i (λ z. d (sym z))))
          (rw e (issue_issued_other p s f m h (rw e at legal) t d)))
      issued m h e (yes d) (yes c) =
          inl (record {
            here = rw (e, ← d) (rw c at (issues_here s t));
            count = c;
            next = rw (e, d, issue_issued p s f m h (rw e at legal)) (ap suc (rw d at c));
          })
      issued m h e (yes d) (no c) =
          let n : issued_of (next_of p s k) t ≡ suc (issued_of s t)
          = rw (e, d) (issue_issued p s f m h (rw e at legal)) in
          inr (record {
            elsewhere = rw (e, ← d) (issues_later s t i c);
            rises = omega arith;
            stays = λ z. omega arith;
          })

      go : ((m : ℕ) × (m < p.threads) × (k ≡ issue_step m))
          ⊎ ((m : ℕ) × (j : ℕ) × (m < p.threads) × (k ≡ move_step m j))
          ⊎ ((q : ℕ) × (q < lines_of p) × (k ≡ persist_step q)) → Issues ⊎ Passes
      go (inl x) = issued x.0 x.1 x.2 (ℕ_discrete t x.0) (ℕ_discrete (issued_of s t) i)
      go (inr (inl x)) =
          inr (quiet (rw x.3 (move_issues s x.0 x.1 t i))
          (rw x.3 (move_issued p s f x.0 x.1 x.2 (rw x.3 at legal) t)))
      go (inr (inr x)) =
          inr (quiet (rw x.2 (persist_issues s x.0 t i))
          (rw x.2 (persist_issued p s f x.0 x.1 (rw x.2 at legal) t)))

-- a write that is really made is one
module _ (p : Program) (s : State) (t : ℕ) (x : Instruction) where
  really_never : is_write x.operation ≡ false → really p s t x ≡ false
  unfolding is_write really swaps both either
  really_never h =
      let op = x.operation in
      let last = either (eqb op exchange) (eqb op compare) in
      let a = either_false (eqb op store_word) (either (eqb op store_register) last) h in
      let b = either_false (eqb op store_register) last a.1 in
      let c = either_false (eqb op exchange) (eqb op compare) b.1 in
      rw (a.0, b.0, c.0, c.1) refl

  makes_never : (l : ℕ) → writes x l ≡ false → makes p s t x l ≡ false
  unfolding writes makes
  makes_never l = both_less (really p s t x) (is_write x.operation) (eqb x.location.0 l) really_never

-- Along a legal run
module _ (p : Program) where
  -- counts never fall
  pub issued_rises : (s : State) (ks : List Step) (u : State) (t : ℕ) → Fits p s → Faultless (ptso p) ks
      → Leads (ptso p) s ks u
      → issued_of s t ≤ issued_of u t
  unfolding Faultless Leads
  issued_rises s [] u t f r h = rw h (omega arith)
  issued_rises s (k ∷ ks) u t f r h =
      let rest = issued_rises (next_of p s k) ks u t (step_fits p s f k r.0 h.0) r.1 h.1 in
      go (issues_or_passes p s f k t (issued_of s t) r.0 h.0) rest
    where
      go : Issues p s f k t (issued_of s t) ⊎ Passes p s f k t (issued_of s t)
          → issued_of (next_of p s k) t ≤ issued_of u t
          → issued_of s t ≤ issued_of u t
      go (inl o) c = let n = o.next in omega arith
      go (inr o) c = let n = o.rises in omega arith

  -- what is told of an instruction that a run doesn't come to, what stands behind that run tells
  at_behind : {A : Type 0} (g : State → A) (d : A) (s : State) (ks : List Step) (u : State) (ms : List Step) (t i : ℕ)
      → Fits p s → Faultless (ptso p) ks → Leads (ptso p) s ks u → issued_of u t ≤ i
      → at_issue p g d s (ks ++ ms) t i ≡ at_issue p g d u ms t i
  unfolding Faultless Leads
  at_behind g d s [] u ms t i f r h n = rw h refl
  at_behind g d s (k ∷ ks) u ms t i f r h n =
      let fits = step_fits p s f k r.0 h.0 in
      let c = issued_rises (next_of p s k) ks u t fits r.1 h.1 in
      go (issues_or_passes p s f k t i r.0 h.0) c
      (at_behind g d (next_of p s k) ks u ms t i fits r.1 h.1 n)
    where
      go : Issues p s f k t i ⊎ Passes p s f k t i → issued_of (next_of p s k) t ≤ issued_of u t
          → at_issue p g d (next_of p s k) (ks ++ ms) t i ≡ at_issue p g d u ms t i
          → at_issue p g d s (k ∷ ks ++ ms) t i ≡ at_issue p g d u ms t i
      go (inl o) c e = let x = o.next in absurd (omega arith)
      go (inr o) c e = at_next p s k (ks ++ ms) t i g d o.elsewhere ∙ e

  pub fixed_behind : (s : State) (ks : List Step) (u : State) (ms : List Step) (t i : ℕ) → Fits p s
      → Faultless (ptso p) ks → Leads (ptso p) s ks u → issued_of u t ≤ i
      → fixed_from p s (ks ++ ms) t i ≡ fixed_from p u ms t i
  unfolding fixed_from
  fixed_behind s ks u ms t i = at_behind _ _ s ks u ms t i

  -- of an instruction, once issued, is told what holds of every state
  at_issued : {A : Type 0} (P : A → Type 0) (g : State → A) (d : A) → ((v : State) → P (g v))
      → (s : State) (ks : List Step) (u : State) (t i : ℕ) → Fits p s → Faultless (ptso p) ks → Leads (ptso p) s ks u
      → issued_of s t ≤ i → i < issued_of u t
      → P (at_issue p g d s ks t i)
  unfolding Faultless Leads
  at_issued P g d all s [] u t i f r h n c =
      let e : issued_of s t ≡ issued_of u t = rw h refl in absurd (omega arith)
  at_issued P g d all s (k ∷ ks) u t i f r h n c =
      go (issues_or_passes p s f k t i r.0 h.0)
      (λ m. at_issued P g d all (next_of p s k) ks u t i (step_fits p s f k r.0 h.0) r.1 h.1 m c)
    where
      go : Issues p s f k t i ⊎ Passes p s f k t i
          → (issued_of (next_of p s k) t ≤ i → P (at_issue p g d (next_of p s k) ks t i))
          → P (at_issue p g d s (k ∷ ks) t i)
      go (inl o) e = subst P (sym (at_here p s k ks t i g d o.here)) (all s)
      go (inr o) e = subst P (sym (at_next p s k ks t i g d o.elsewhere)) (e (o.stays n))

  -- an instruction other than a store of a register, once issued, has fixed its own word
  pub fixed_word : (s : State) (ks : List Step) (u : State) (t i : ℕ) → Fits p s → Faultless (ptso p) ks
      → Leads (ptso p) s ks u
      → issued_of s t ≤ i → i < issued_of u t → (instruction_at p t i).operation ≢ store_register
      → fixed_from p s ks t i ≡ (instruction_at p t i).word
  unfolding fixed_from fixed_by
  fixed_word s ks u t i f r h n c w =
      at_issued (λ x. x ≡ (instruction_at p t i).word) _ _ (λ v. pick_false _ _ _ (ne_eqb _ _ w)) s ks u t i f r h n c

  -- another than a compare has made its write, where it is one
  pub made_surely : (s : State) (ks : List Step) (u : State) (t l i : ℕ) → Fits p s → Faultless (ptso p) ks
      → Leads (ptso p) s ks u
      → issued_of s t ≤ i → i < issued_of u t → (instruction_at p t i).operation ≢ compare
      → made_from p s ks t l i ≡ writes_at p t l i
  unfolding made_from makes really swaps writes_at writes is_write both
  made_surely s ks u t l i f r h n c w =
      at_issued (λ b. b ≡ writes_at p t l i) _ _ (λ v. rw (ne_eqb _ _ w) refl) s ks u t i f r h n c

-- what is no write to a location is never made there
pub made_never : (p : Program) (s : State) (ks : List Step) (t l i : ℕ) → writes_at p t l i ≡ false
    → made_from p s ks t l i ≡ false
unfolding made_from at_issue writes_at
made_never p s [] t l i e = refl
made_never p s (k ∷ ks) t l i e =
    pick_cases (λ b. b ≡ false) (issues_at s k t i) _ _ (λ h. makes_never p s t (instruction_at p t i) l e)
    (λ h. made_never p (next_of p s k) ks t l i e)
