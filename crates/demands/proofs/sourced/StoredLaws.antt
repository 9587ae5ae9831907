-- What a store of a register fixes in a run: the word that the last instruction before it which sets the register
-- took in that run. Assumes nothing.
use Prim.Native.Nat.{ℕ, ◌≤◌, ◌<◌}
use mathlib.Core.Path.{◌≡◌, refl, sym, ◌∙◌}
use mathlib.Core.Logic.{◌⊎◌, inl, inr}
use mathlib.Core.Bool.{false}
use mathlib.Core.List.{List, [], ◌∷◌}
use native.Mathlib.Omega.{arith}
use native.Mathlib.Nat.{eq-or-lt_of_le}
use borrow.Author.Tests.{eq-eqb}
use Rattle.cases.specs.declared.case.Step.{Step}
use Rattle.cases.specs.declared.case.Program.{Program}
use Rattle.cases.specs.Choice.{either}
use Rattle.cases.specs.Operations.{store_register}
use Rattle.cases.specs.Sizes.{most_registers}
use Rattle.cases.specs.Ranges.{ProgramFits, RegistersSet}
use Rattle.cases.specs.Checks.{limits_of, step_fault, count_at, instruction_at, needs_register}
use Rattle.cases.proofs.ChoiceLaws.{pick_true}
use Rattle.cases.proofs.Promises.{thread_low}
use Rattle.machine.specs.declared.cells.State.{State}
use Rattle.machine.specs.View.{register_in, issued_of}
use Rattle.machine.specs.Rules.{rule_of, next_of, start_of}
use Rattle.machine.specs.Fit.{Fits}
use Rattle.machine.specs.Model.{Leads, Faultless, LegalRun}
use Rattle.machine.specs.Ptso.{ptso}
use Rattle.machine.proofs.Promises.{step_fits, start_fits, ptso_lawful}
use Rattle.machine.proofs.Effects.{start_issued}
use Rattle.demands.specs.Writes.{fixed_by, issues_at, fixed_from, fixed_of, LastOf}
use Rattle.demands.specs.Sources.{set_at, took_from, took_of}
use Rattle.demands.proofs.ends.EndLaws.{run_fits}
use Rattle.demands.proofs.fixed.IssuesLaws.{at_here, at_next, fixed_here, fixed_next}
use Rattle.demands.proofs.fixed.FixedLaws.{Issues, Passes, issues_or_passes}
use Rattle.demands.proofs.sourced.TookLaws.{step_keeps, step_takes, set_last}

-- Instruction j of thread t is a store of its register r
module _ (p : Program) (t j : ℕ) (low : t < p.threads)
    (few : (instruction_at p t j).register.0 < most_registers)
    (stores : (instruction_at p t j).operation ≡ store_register) where
  abbrev r : ℕ
  r = (instruction_at p t j).register.0

  -- a legal step that does not issue it leaves what it will fix to the steps behind
  stored_later : (s : State) (f : Fits p s) (k : Step) (ks : List Step) → step_fault (limits_of p) k ≡ 0
      → rule_of p s k ≡ 0 → issued_of s t < j
      → fixed_from p s (k ∷ ks) t j ≡ fixed_from p (next_of p s k) ks t j
  stored_later s f k ks faultless legal before = go (issues_or_passes p s f k t j faultless legal)
    where
      go : Issues p s f k t j ⊎ Passes p s f k t j → fixed_from p s (k ∷ ks) t j ≡ fixed_from p (next_of p s k) ks t j
      go (inl o) = let c = o.count in absurd (omega arith)
      go (inr o) = fixed_next p s k ks t j o.elsewhere

  -- where nothing before it sets the register any more, it fixes what is there
  stored_there : (s : State) (ks : List Step) (u : State) → Fits p s → Faultless (ptso p) ks
      → Leads (ptso p) s ks u
      → issued_of s t ≤ j → j < issued_of u t
      → ((m : ℕ) → issued_of s t ≤ m → m < j → set_at p t r m ≡ false)
      → fixed_from p s ks t j ≡ register_in s.registers t r
  unfolding Faultless Leads
  stored_there s [] u f g h n c none =
      let e : issued_of s t ≡ issued_of u t = rw h refl in absurd (omega arith)
  stored_there s (k ∷ ks) u f g h n c none =
      go (issues_or_passes p s f k t j g.0 h.0)
      (stored_there (next_of p s k) ks u (step_fits p s f k g.0 h.0) g.1 h.1)
    where
      quiet : issues_at s k t j ≡ false → (issued_of s t ≡ j) ⊎ (issued_of s t < j)
          → (issues_at s k t (issued_of s t) ≡ false) ⊎ (set_at p t r (issued_of s t) ≡ false)
      quiet e (inl d) = inl (rw d e)
      quiet e (inr d) = inr (none (issued_of s t) (omega arith) d)

      go : Issues p s f k t j ⊎ Passes p s f k t j
          → (issued_of (next_of p s k) t ≤ j → j < issued_of u t
          → ((m : ℕ) → issued_of (next_of p s k) t ≤ m → m < j → set_at p t r m ≡ false)
          → fixed_from p (next_of p s k) ks t j ≡ register_in (next_of p s k).registers t r)
          → fixed_from p s (k ∷ ks) t j ≡ register_in s.registers t r
      go (inl o) more =
          fixed_here p s k ks t j o.here ∙ (unfold fixed_by in pick_true _ _ _ (eq-eqb _ _ stores))
      go (inr o) more =
          fixed_next p s k ks t j o.elsewhere
          ∙ more (o.stays n) c (λ m a b. none m (let d = o.rises in omega arith) b)
          ∙ step_keeps p t r low few s f k g.0 h.0 (quiet o.elsewhere (eq-or-lt_of_le n))

  -- it fixes what the last before it that sets the register took
  stored_took : (s : State) (ks : List Step) (u : State) (i : ℕ) → Fits p s → Faultless (ptso p) ks
      → Leads (ptso p) s ks u
      → issued_of s t ≤ i → j < issued_of u t → LastOf (set_at p t r) j i
      → fixed_from p s ks t j ≡ took_from p s ks t i
  unfolding Faultless Leads
  stored_took s [] u i f g h n c o =
      let e : issued_of s t ≡ issued_of u t = rw h refl in let d = o.there in absurd (omega arith)
  stored_took s (k ∷ ks) u i f g h n c o =
      let d = o.there in
      stored_later s f k ks g.0 h.0 (omega arith)
      ∙ go (issues_or_passes p s f k t i g.0 h.0) (step_fits p s f k g.0 h.0)
      (λ v m. stored_took (next_of p s k) ks u i v g.1 h.1 m c o)
    where
      go : Issues p s f k t i ⊎ Passes p s f k t i → Fits p (next_of p s k)
          → (Fits p (next_of p s k) → issued_of (next_of p s k) t ≤ i
          → fixed_from p (next_of p s k) ks t j ≡ took_from p (next_of p s k) ks t i)
          → fixed_from p (next_of p s k) ks t j ≡ took_from p s (k ∷ ks) t i
      go (inl e) v more = unfold took_from in
          let d = o.there in
          let a = e.next in
          stored_there (next_of p s k) ks u v g.1 h.1 (omega arith) c
          (λ m x y. o.last m (omega arith) y)
          ∙ step_takes p t r low few s f k g.0 h.0 i e o.writing
          ∙ sym (at_here p s k ks t i _ _ e.here)
      go (inr e) v more = unfold took_from in more v (e.stays n) ∙ sym (at_next p s k ks t i _ _ e.elsewhere)

-- a store of a register that a legal run has issued
pub stored_was_taken : (p : Program) → ProgramFits p → RegistersSet p → (ks : List Step) (u : State)
    → LegalRun (ptso p) ks u
    → (t j : ℕ) → t < p.threads → j < issued_of u t
    → (instruction_at p t j).operation ≡ store_register
    → (i : ℕ) × LastOf (set_at p t (instruction_at p t j).register.0) j i × (fixed_of p ks t j ≡ took_of p ks t i)
unfolding fixed_of took_of needs_register either
stored_was_taken p fits set ks u run t j low issued stores =
    let all = (run_fits (ptso p) (ptso_lawful p fits) ks u run).few_issued t (thread_low fits low) in
    let there : j < count_at p t = omega arith in
    let y = set_last p set t j there (rw stores refl) in
    let z = start_issued p t in (
      y.0,
      y.1,
      stored_took p t j low (fits.instructions t j there).1.low_register stores (start_of p) ks u y.0
          (start_fits p fits) run.faultless run.leads (omega arith) issued y.1,
    )
