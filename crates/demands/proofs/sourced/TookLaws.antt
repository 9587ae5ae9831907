-- What the registers hold along a run: each the word that the last instruction which sets it took. Assumes nothing.
use Prim.Native.Nat.{ℕ, zero, suc, ◌≤◌, ◌<◌}
use mathlib.Core.Path.{◌≡◌, refl, sym, ap, ◌∙◌}
use mathlib.Core.Logic.{◌⊎◌, inl, inr}
use mathlib.Core.Bool.{Bool, true, false}
use mathlib.Core.List.{List, [], ◌∷◌}
use native.Mathlib.Omega.{arith}
use native.Mathlib.Decide.{ℕ_discrete}
use lib.Dec.{eqb}
use Rattle.cases.specs.declared.case.Step.{Step}
use Rattle.cases.specs.declared.case.Program.{Program}
use Rattle.cases.specs.Choice.{pick, both, either}
use Rattle.cases.specs.Operations.{compare}
use Rattle.cases.specs.Sizes.{most_registers}
use Rattle.cases.specs.Ranges.{ProgramFits, RegistersSet}
use Rattle.cases.specs.Checks.{limits_of, lines_of, step_fault, count_at, instruction_at, needs_register, set_by, set_before}
use Rattle.cases.proofs.ChoiceLaws.{never_both, pick_false}
use Rattle.machine.specs.declared.cells.State.{State}
use Rattle.machine.specs.View.{register_in, issued_of}
use Rattle.machine.specs.Look.{queued_word}
use Rattle.machine.specs.Rules.{matches, rule_of, next_of, start_of}
use Rattle.machine.specs.Joins.{taken_by}
use Rattle.machine.specs.Fit.{Fits}
use Rattle.machine.specs.Model.{Leads, Faultless, LegalRun}
use Rattle.machine.specs.Next.{issue_step, move_step, persist_step}
use Rattle.machine.specs.Ptso.{ptso}
use Rattle.machine.proofs.Promises.{step_fits, start_fits}
use Rattle.machine.proofs.Effects.{step_kinds, start_issued, issue_register, issue_register_other}
use Rattle.machine.proofs.Effects.{move_registers, persist_registers}
use Rattle.demands.specs.Writes.{issues_at, LastOf}
use Rattle.demands.specs.Sources.{set_at, took_from, took_of}
use Rattle.demands.proofs.fixed.IssuesLaws.{at_here, at_next, issues_here, issues_other, move_issues}
use Rattle.demands.proofs.fixed.IssuesLaws.{persist_issues}
use Rattle.demands.proofs.fixed.FixedLaws.{Issues, Passes, issues_or_passes, issued_rises}
use Rattle.demands.proofs.writes.LastWriteLaws.{some_last}

-- Of thread t its register r
module _ (p : Program) (t r : ℕ) (low : t < p.threads) (few : r < most_registers) where
  -- a legal step that issues the thread's next instruction lets it take a word, where the instruction sets it
  module _ (s : State) (f : Fits p s) (k : Step) (faultless : step_fault (limits_of p) k ≡ 0)
      (legal : rule_of p s k ≡ 0) where
    abbrev Takes : Step → Type 0
    Takes j = register_in (next_of p s j).registers t r
        ≡ pick (both (issues_at s j t (issued_of s t)) (set_at p t r (issued_of s t)))
        (taken_by p s t (instruction_at p t (issued_of s t))) (register_in s.registers t r)

    step_register : Takes k
    unfolding set_at both pick
    step_register = go (step_kinds p k faultless)
      where
        issued : (m : ℕ) → m < p.threads → rule_of p s (issue_step m) ≡ 0 → Dec (m ≡ t) → Takes (issue_step m)
        issued m h g (yes e) = rw (e, issues_here s t) (issue_register p s f t low (rw e at g) r few)
        issued m h g (no e) =
            rw (issues_other s m t (issued_of s t) e)
            (issue_register_other p s f m h g t r (λ d. e (sym d)) few)

        go : ((m : ℕ) × (m < p.threads) × (k ≡ issue_step m))
            ⊎ ((m : ℕ) × (j : ℕ) × (m < p.threads) × (k ≡ move_step m j))
            ⊎ ((q : ℕ) × (q < lines_of p) × (k ≡ persist_step q)) → Takes k
        go (inl x) = rw x.2 (issued x.0 x.1 (rw x.2 at legal) (ℕ_discrete x.0 t))
        go (inr (inl x)) =
            rw (x.3, move_issues s x.0 x.1 t (issued_of s t))
            (ap (λ (g : List ℕ). register_in g t r)
            (move_registers p s f x.0 x.1 x.2 (rw x.3 at legal)))
        go (inr (inr x)) =
            rw (x.2, persist_issues s x.0 t (issued_of s t))
            (ap (λ (g : List ℕ). register_in g t r) (persist_registers p s f x.0 x.1 (rw x.2 at legal)))

    -- one that issues nothing of the thread, or an instruction that does not set it, leaves it
    pub step_keeps : (issues_at s k t (issued_of s t) ≡ false) ⊎ (set_at p t r (issued_of s t) ≡ false)
        → register_in (next_of p s k).registers t r ≡ register_in s.registers t r
    step_keeps e = step_register ∙ pick_false _ _ _ (never (issues_at s k t (issued_of s t)) e)
      where
        never : (b : Bool) → (b ≡ false) ⊎ (set_at p t r (issued_of s t) ≡ false)
            → both b (set_at p t r (issued_of s t)) ≡ false
        never false d = unfold both in refl
        never true (inl d) = unfold both in absurd (never_both refl d)
        never true (inr d) = unfold both in d

    -- one that issues instruction i, which sets it, puts there the word that this one takes
    pub step_takes : (i : ℕ) → Issues p s f k t i → set_at p t r i ≡ true
        → register_in (next_of p s k).registers t r ≡ taken_by p s t (instruction_at p t i)
    step_takes i o sets = rw (o.count, o.here, sets) at step_register ∙ (unfold both pick in refl)

  -- along a run that issues no instruction which sets it, it stays
  run_keeps : (s : State) (ks : List Step) (u : State) → Fits p s → Faultless (ptso p) ks → Leads (ptso p) s ks u
      → ((j : ℕ) → issued_of s t ≤ j → j < issued_of u t → set_at p t r j ≡ false)
      → register_in u.registers t r ≡ register_in s.registers t r
  unfolding Faultless Leads
  run_keeps s [] u f g h none = ap (λ (x : State). register_in x.registers t r) (sym h)
  run_keeps s (k ∷ ks) u f g h none =
      let fits = step_fits p s f k g.0 h.0 in
      let more = issued_rises p (next_of p s k) ks u t fits g.1 h.1 in
      let here = go (issues_or_passes p s f k t (issued_of s t) g.0 h.0) more in
      run_keeps (next_of p s k) ks u fits g.1 h.1 (λ j a b. none j (let c = here.0 in omega arith) b)
      ∙ here.1
    where
      go : Issues p s f k t (issued_of s t) ⊎ Passes p s f k t (issued_of s t)
          → issued_of (next_of p s k) t ≤ issued_of u t
          → (issued_of s t ≤ issued_of (next_of p s k) t)
          × (register_in (next_of p s k).registers t r ≡ register_in s.registers t r)
      go (inl o) c =
          let n = o.next in
          ((omega arith), step_keeps s f k g.0 h.0 (inr (none (issued_of s t) (omega arith) (omega arith))))
      go (inr o) c = (o.rises, step_keeps s f k g.0 h.0 (inl o.elsewhere))

  -- at the end of a run it holds what the last instruction that sets it took, where the run issues that one
  run_took : (s : State) (ks : List Step) (u : State) (i : ℕ) → Fits p s → Faultless (ptso p) ks
      → Leads (ptso p) s ks u
      → issued_of s t ≤ i → LastOf (set_at p t r) (issued_of u t) i
      → register_in u.registers t r ≡ took_from p s ks t i
  unfolding Faultless Leads
  run_took s [] u i f g h n o =
      let e : issued_of s t ≡ issued_of u t = rw h refl in let c = o.there in absurd (omega arith)
  run_took s (k ∷ ks) u i f g h n o =
      go (issues_or_passes p s f k t i g.0 h.0)
      (λ m. run_took (next_of p s k) ks u i (step_fits p s f k g.0 h.0) g.1 h.1 m o)
    where
      go : Issues p s f k t i ⊎ Passes p s f k t i
          → (issued_of (next_of p s k) t ≤ i → register_in u.registers t r ≡ took_from p (next_of p s k) ks t i)
          → register_in u.registers t r ≡ took_from p s (k ∷ ks) t i
      go (inl e) more = unfold took_from in
          run_keeps (next_of p s k) ks u (step_fits p s f k g.0 h.0) g.1 h.1
          (λ j a b. o.last j (let c = e.next in omega arith) b)
          ∙ step_takes s f k g.0 h.0 i e o.writing ∙ sym (at_here p s k ks t i _ _ e.here)
      go (inr e) more = unfold took_from in more (e.stays n) ∙ sym (at_next p s k ks t i _ _ e.elsewhere)

-- a register that is set before is set by one of those before
set_some : (p : Program) (t r n : ℕ) → set_before p t r n ≡ true → (i : ℕ) × (i < n) × (set_at p t r i ≡ true)
unfolding set_before set_at
set_some p t r zero h = absurd (never_both h refl)
set_some p t r (suc n) h = go (set_by r (instruction_at p t n)) refl h (set_some p t r n)
  where
    go : (b : Bool) → set_by r (instruction_at p t n) ≡ b → either b (set_before p t r n) ≡ true
        → (set_before p t r n ≡ true → (i : ℕ) × (i < n) × (set_by r (instruction_at p t i) ≡ true))
        → (i : ℕ) × (i < suc n) × (set_by r (instruction_at p t i) ≡ true)
    go true e a more = (n, (omega arith), e)
    go false e a more = let x = more (unfold either in a) in let c = x.1 in (x.0, (omega arith), x.2)

-- the last before it that sets the register which an instruction needs
pub set_last : (p : Program) → RegistersSet p → (t i : ℕ) → i < count_at p t
    → needs_register (instruction_at p t i).operation ≡ true
    → (j : ℕ) × LastOf (set_at p t (instruction_at p t i).register.0) i j
unfolding RegistersSet
set_last p set t i low needs =
    let r = (instruction_at p t i).register.0 in
    let x = set_some p t r i (set t i low needs) in
    some_last (set_at p t r) i x.0 x.1 x.2

-- the word in the register that the next instruction of a thread needs
module _ (p : Program) (fits : ProgramFits p) (set : RegistersSet p) where
  pub needed_took : (ks : List Step) (u : State) → LegalRun (ptso p) ks u
      → (t : ℕ) → t < p.threads → issued_of u t < count_at p t
      → needs_register (instruction_at p t (issued_of u t)).operation ≡ true
      → (i : ℕ) × LastOf (set_at p t (instruction_at p t (issued_of u t)).register.0) (issued_of u t) i
      × (register_in u.registers t (instruction_at p t (issued_of u t)).register.0 ≡ took_of p ks t i)
  unfolding took_of
  needed_took ks u run t low left needs =
      let y = set_last p set t (issued_of u t) left needs in
      let z = start_issued p t in (
        y.0,
        y.1,
        run_took p t _ low (fits.instructions t (issued_of u t) left).1.low_register (start_of p) ks u y.0
            (start_fits p fits) run.faultless run.leads (omega arith) y.1,
      )

  -- a compare, which succeeds where the word read is that one
  pub needed_compared : (ks : List Step) (u : State) → LegalRun (ptso p) ks u
      → (t : ℕ) → t < p.threads → issued_of u t < count_at p t
      → (instruction_at p t (issued_of u t)).operation ≡ compare
      → (i : ℕ) × LastOf (set_at p t (instruction_at p t (issued_of u t)).register.0) (issued_of u t) i
      × (matches p u t (instruction_at p t (issued_of u t))
      ≡ eqb (queued_word p u (instruction_at p t (issued_of u t)).location.0) (took_of p ks t i))
  unfolding matches needs_register either
  needed_compared ks u run t low left is =
      let y = needed_took ks u run t low left (rw is refl) in
      (y.0, y.1, ap (eqb (queued_word p u (instruction_at p t (issued_of u t)).location.0)) y.2)
