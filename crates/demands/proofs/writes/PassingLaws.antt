-- A legal step passes a location's writes on, from thread to queue to memory, and loses none: an issue does,
-- and so, with persist and move (ComingLaws), does every step. Assumes nothing.
use Prim.Native.Nat.{ℕ, suc, ◌-◌, ◌<◌}
use mathlib.Core.Path.{◌≡◌, refl, sym, ap, ◌∙◌}
use mathlib.Core.Logic.{◌⊎◌, inl, inr, ⊎_elim}
use mathlib.Core.Bool.{false}
use mathlib.Core.List.{List, [], ◌∷◌, ◌++◌, append_assoc}
use native.Mathlib.Omega.{arith}
use Rattle.cases.specs.declared.case.Instruction.{Instruction}
use Rattle.cases.specs.declared.case.Step.{Step}
use Rattle.cases.specs.declared.case.Program.{Program}
use Rattle.cases.specs.Checks.{limits_of, lines_of, step_fault, count_at, instruction_at}
use Rattle.cases.specs.Ranges.{InstructionFits}
use Rattle.cases.specs.Choice.{pick, both}
use Rattle.machine.specs.declared.cells.State.{State}
use Rattle.machine.specs.View.{buffer, issued_of}
use Rattle.machine.specs.Rules.{rule_of, next_of}
use Rattle.machine.specs.Joins.{joins, swaps, only_if, store_of, swap_of, last_or}
use Rattle.machine.specs.Fit.{Fits}
use Rattle.machine.specs.Next.{issue_step, move_step, persist_step}
use Rattle.machine.proofs.Effects.{step_kinds, issue_left, issue_issued, issue_issued_other, issue_buffer}
use Rattle.machine.proofs.Effects.{issue_buffer_other, issue_words, issue_word}
use Rattle.demands.specs.Writes.{fixed_from, made_from}
use Rattle.demands.proofs.writes.StoresLaws.{stores_of, fixes_from, gathered_append, gathered_alone}
use Rattle.demands.proofs.writes.StoresLaws.{gathered_swap, stores_split, fixes_same}
use Rattle.demands.proofs.fixed.IssuesLaws.{fixed_here, fixed_next, made_here, made_next, issues_here}
use Rattle.demands.proofs.fixed.IssuesLaws.{issues_later, issues_other}
use Rattle.demands.proofs.writes.ComingLaws.{coming, Passing, coming_taken, persist_passing}
use Rattle.demands.proofs.writes.ComingLaws.{move_passing}
use Rattle.cases.proofs.Promises.{thread_low}

module _ (p : Program) (s : State) (f : Fits p s) (ks : List Step) (l : ℕ) (there : l < p.locations) where
  -- Issue
  module _ (t : ℕ) (low : t < p.threads) (legal : rule_of p s (issue_step t) ≡ 0) where
    abbrev next : Instruction
    next = instruction_at p t (issued_of s t)

    abbrev after : State
    after = next_of p s (issue_step t)

    fits : InstructionFits p next
    fits = (f.program.instructions t (issued_of s t) (issue_left p s f t low legal)).1

    -- what the instruction fixes, and what comes behind it
    fixes_next :
        fixes_from (made_from p s (issue_step t ∷ ks) t l) (fixed_from p s (issue_step t ∷ ks) t) (issued_of s t)
        (count_at p t - issued_of s t)
        ≡ (stores_of l (joins s.registers t next) ++ swap_of p s t l next)
        ++ fixes_from (made_from p after ks t l) (fixed_from p after ks t) (issued_of after t)
        (count_at p t - issued_of after t)
    unfolding fixes_from
    fixes_next =
        let left = issue_left p s f t low legal in
        let n : count_at p t - issued_of s t ≡ suc (count_at p t - suc (issued_of s t)) = omega arith in
        rw (
          issue_issued p s f t low legal,
          n,
          made_here p s (issue_step t) ks t (issued_of s t) l (issues_here s t),
          fixed_here p s (issue_step t) ks t (issued_of s t) (issues_here s t),
          stores_split p s t l next.location next.register next.word next.operation
              fits.some_operation
              fits.low_operation,
          fixes_same (made_from p s (issue_step t ∷ ks) t l) (made_from p after ks t l)
              (fixed_from p s (issue_step t ∷ ks) t)
              (fixed_from p after ks t)
              (suc (issued_of s t)) (count_at p t - suc (issued_of s t))
              (λ j m. made_next p s (issue_step t) ks t j l (issues_later s t j (λ e. omega arith)))
              (λ j m. fixed_next p s (issue_step t) ks t j (issues_later s t j (λ e. omega arith))),
        )
        refl

    swap : (a j n r : List ℕ) → ((a ≡ []) × (j ≡ [])) ⊎ (n ≡ [])
        → a ++ ((j ++ n) ++ r) ≡ n ++ ((a ++ j) ++ r)
    swap a j n r e =
        sym (append_assoc a (j ++ n) r) ∙ ap (λ x. x ++ r) (gathered_swap a j n e) ∙ append_assoc n (a ++ j) r

    alone : ((stores_of l (buffer s t) ≡ []) × (stores_of l (joins s.registers t next) ≡ []))
        ⊎ (swap_of p s t l next ≡ [])
    alone = ⊎_elim inl (λ e. inr (none e)) (gathered_alone (store_of l) p s f t low legal)
      where
        none : swaps p s t next ≡ false → swap_of p s t l next ≡ []
        none e = unfold swap_of only_if both pick in rw e refl

    pub issue_passing : Passing p s (issue_step t) ks l
    unfolding last_or coming
    issue_passing =
        record {
          thread = t;
          new = swap_of p s t l next;
          out = [];
          low = λ n. low;
          queued = sym (issue_words p s f t low legal l there);
          kept = issue_word p s f t low legal l;
          here =
              rw (fixes_next, issue_buffer p s f t low legal, gathered_append (store_of l) (buffer s t))
              (swap (stores_of l (buffer s t)) _ _ _ alone);
          other = λ k h n.
              coming_taken p s (issue_step t) ks l k [] (λ i. issues_other s t k i (λ e. n (sym e)))
              (issue_issued_other p s f t low legal k n)
              (ap (stores_of l) (sym (issue_buffer_other p s f t low legal k (thread_low f.program h) n)));
        }

  -- every legal step
  pub step_passing : (k : Step) → step_fault (limits_of p) k ≡ 0 → rule_of p s k ≡ 0 → Passing p s k ks l
  step_passing k faultless legal = go (step_kinds p k faultless)
    where
      go : ((t : ℕ) × (t < p.threads) × (k ≡ issue_step t))
          ⊎ ((t : ℕ) × (i : ℕ) × (t < p.threads) × (k ≡ move_step t i))
          ⊎ ((q : ℕ) × (q < lines_of p) × (k ≡ persist_step q)) → Passing p s k ks l
      go (inl x) = rw x.2 (issue_passing x.0 x.1 (rw x.2 at legal))
      go (inr (inl x)) = rw x.3 (move_passing p s f ks l there x.0 x.1 x.2 (rw x.3 at legal))
      go (inr (inr x)) = rw x.2 (persist_passing p s f ks l there x.0 x.1 (rw x.2 at legal))
