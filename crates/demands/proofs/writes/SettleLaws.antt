-- Along a run to its end: what stands in memory there. Assumes nothing.
use Prim.Native.Nat.{ℕ, ◌-◌, ◌≤◌, ◌<◌}
use mathlib.Core.Path.{◌≡◌, refl, sym, ap, subst, ◌∙◌}
use mathlib.Core.Logic.{inl}
use mathlib.Core.List.{List, [], ◌∷◌}
use native.Mathlib.Omega.{arith}
use native.Mathlib.Decide.{ℕ_discrete}
use Rattle.cases.specs.declared.case.Step.{Step}
use Rattle.cases.specs.declared.case.Program.{Program}
use Rattle.cases.specs.Checks.{count_at, lines_of}
use Rattle.machine.specs.declared.cells.State.{State}
use Rattle.machine.specs.View.{line_of, queue, buffer, word_of, issued_of}
use Rattle.machine.specs.Rules.{next_of}
use Rattle.cases.specs.Ranges.{ProgramFits}
use Rattle.machine.specs.Fit.{Fits}
use Rattle.machine.specs.Model.{Leads, Faultless}
use Rattle.machine.specs.Ptso.{ptso}
use Rattle.machine.proofs.Promises.{step_fits, line_there}
use Rattle.demands.proofs.writes.LastLaws.{last_append, append_empty, cons_some, Settles, settles_before}
use Rattle.machine.specs.Joins.{last_or, on_way, writes_of}
use Rattle.demands.proofs.writes.StoresLaws.{gathered, fixes_from}
use Rattle.demands.proofs.writes.ComingLaws.{coming, Passing}
use Rattle.demands.proofs.writes.PassingLaws.{step_passing}

-- nothing waits anywhere, and everything is issued
pub record Done (p : Program) (u : State) : Type 0 where
  pub buffers : (t : ℕ) → t < p.threads → buffer u t ≡ []
  pub queues : (q : ℕ) → q < lines_of p → queue u q ≡ []
  pub issued : (t : ℕ) → t < p.threads → count_at p t ≤ issued_of u t

-- the newest word on its way to location l, else the one there
unfoldable pub newest : Program → State → ℕ → ℕ
newest p s l = last_or (on_way p s l) (word_of s l)

-- a step makes the newest what it puts into the queue
passing_newest : (p : Program) (s : State) (k : Step) (ks : List Step) (l : ℕ) (o : Passing p s k ks l)
    → newest p (next_of p s k) l ≡ last_or o.new (newest p s l)
unfolding newest
passing_newest p s k ks l o =
    ap (last_or (on_way p (next_of p s k) l)) o.kept
    ∙ sym (last_append o.out (on_way p (next_of p s k) l) (word_of s l))
    ∙ ap (λ (x : List ℕ). last_or x (word_of s l)) (sym o.queued)
    ∙ last_append (on_way p s l) o.new (word_of s l)

module _ (p : Program) (l : ℕ) (low : l < p.locations) where
  -- where all is done, what is there stays
  done_settles : (u : State) → ProgramFits p → Done p u
      → Settles p.threads (coming p u [] l) (newest p u l) (word_of u l)
  unfolding Settles newest coming on_way writes_of gathered last_or fixes_from
  done_settles u g d =
      inl (
        (λ t h.
            let c = d.issued t h in
            let n : count_at p t - issued_of u t ≡ 0 = omega arith in
            rw (d.buffers t h, n) refl),
        rw (d.queues (line_of p l) (line_there p g l low)) refl,
      )

  -- along a run to its end: what stands there is what was newest, or the last that some thread had to come
  pub run_settles : (s : State) (ks : List Step) (u : State) → Fits p s → Faultless (ptso p) ks
      → Leads (ptso p) s ks u
      → Done p u
      → Settles p.threads (coming p s ks l) (newest p s l) (word_of u l)
  unfolding Faultless Leads
  run_settles s [] u f r h d =
      subst (λ x. Settles p.threads (coming p x [] l) (newest p x l) (word_of u l)) (sym h)
      (done_settles u f.program d)
  run_settles s (k ∷ ks) u f r h d =
      let o = step_passing p s f ks l low k r.0 h.0 in
      let rest = run_settles (next_of p s k) ks u (step_fits p s f k r.0 h.0) r.1 h.1 d in
      settles_before p.threads (coming p s (k ∷ ks) l) (coming p (next_of p s k) ks l) o.thread o.new
      o.low o.here o.other (newest p s l) (word_of u l)
      (subst (λ q. Settles p.threads (coming p (next_of p s k) ks l) q (word_of u l))
      (passing_newest p s k ks l o) rest)

  -- along any run: where nothing is queued and no thread has anything to come, the word stays
  pub run_keeps : (s : State) (ks : List Step) (u : State) → Fits p s → Faultless (ptso p) ks
      → Leads (ptso p) s ks u
      → on_way p s l ≡ []
      → ((t : ℕ) → t < p.threads → coming p s ks l t ≡ [])
      → word_of u l ≡ word_of s l
  unfolding Faultless Leads last_or
  run_keeps s [] u f r h q c = ap (λ x. word_of x l) (sym h)
  run_keeps s (k ∷ ks) u f r h q c =
      let o = step_passing p s f ks l low k r.0 h.0 in
      let new = none_new o in
      let out = append_empty o.out _ (sym o.queued ∙ rw (q, new) refl) in
      run_keeps (next_of p s k) ks u (step_fits p s f k r.0 h.0) r.1 h.1 out.1 (none_after o new)
      ∙ o.kept ∙ rw out.0 refl
    where
      none_new : (o : Passing p s k ks l) → o.new ≡ []
      none_new o = go o.new refl
        where
          go : (xs : List ℕ) → o.new ≡ xs → xs ≡ []
          go [] e = refl
          go (x ∷ xs) e =
              let t = o.low (rw e (cons_some x xs)) in
              (append_empty (x ∷ xs) _ (rw e at (sym o.here ∙ c o.thread t))).0

      none_after : (o : Passing p s k ks l) → o.new ≡ [] → (t : ℕ) → t < p.threads
          → coming p (next_of p s k) ks l t ≡ []
      none_after o e t h = go (ℕ_discrete t o.thread)
        where
          go : Dec (t ≡ o.thread) → coming p (next_of p s k) ks l t ≡ []
          go (yes d) = rw d (rw e at (sym o.here ∙ c o.thread (rw d at h)))
          go (no d) = sym (o.other t h d) ∙ c t h
