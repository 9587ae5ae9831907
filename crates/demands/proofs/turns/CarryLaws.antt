-- An instruction carried through, and all of a thread's, one after the other: every step is legal, and nothing
-- waits behind them. Assumes nothing.
use Prim.Native.Nat.{ℕ, zero, suc, ◌+◌, ◌<◌}
use mathlib.Core.Path.{◌≡◌, refl, ◌∙◌}
use mathlib.Core.Logic.{◌≢◌}
use mathlib.Core.List.{List, [], ◌∷◌, ◌++◌}
use native.Mathlib.Omega.{arith}
use Rattle.cases.specs.declared.case.Instruction.{Instruction}
use Rattle.cases.specs.declared.case.Step.{Step}
use Rattle.cases.specs.declared.case.Program.{Program}
use Rattle.cases.specs.Operations.{compare}
use Rattle.cases.specs.Checks.{limits_of, lines_of, step_fault, count_at, instruction_at}
use Rattle.machine.specs.declared.cells.State.{State}
use Rattle.machine.specs.View.{queue, buffer, issued_of}
use Rattle.machine.specs.Rules.{rule_of, next_of}
use Rattle.machine.specs.Joins.{joins, exchanges}
use Rattle.machine.specs.Model.{Leads, Faultless}
use Rattle.machine.specs.Next.{issue_step}
use Rattle.machine.specs.Work.{Uncompared}
use Rattle.machine.specs.Ptso.{ptso}
use Rattle.machine.proofs.Promises.{step_fits, few_lines, issue_legal, leads_append, faultless_append}
use Rattle.machine.proofs.Effects.{issue_issued, issue_issued_other, issue_buffer, issue_buffer_other}
use Rattle.machine.proofs.Effects.{issue_queue}
use Rattle.demands.specs.Carried.{carried, carried_from, carried_all}
use Rattle.demands.proofs.turns.ThroughLaws.{Quiet, Through, behind}
use Rattle.cases.proofs.Promises.{thread_low}

-- The steps ks lead from s to where nothing waits; thread t has then issued n instructions, the others no more
pub record Carries (p : Program) (s : State) (ks : List Step) (t n : ℕ) : Type 0 where
  pub end : State
  pub faultless : Faultless (ptso p) ks
  pub leads : Leads (ptso p) s ks end
  pub quiet : Quiet p end
  pub mine : issued_of end t ≡ n
  pub others : (k : ℕ) → k ≢ t → issued_of end k ≡ issued_of s k

-- one instruction
module _ (p : Program) (s : State) (o : Quiet p s) (t : ℕ) (low : t < p.threads)
    (left : issued_of s t < count_at p t) (plain : (instruction_at p t (issued_of s t)).operation ≢ compare) where
  abbrev next : Instruction
  next = instruction_at p t (issued_of s t)

  abbrev issued : State
  issued = next_of p s (issue_step t)

  may_issue : (step_fault (limits_of p) (issue_step t) ≡ 0) × (rule_of p s (issue_step t) ≡ 0)
  may_issue = issue_legal p s o.fit o.queues t low (o.buffers t low) left

  issued_others : (k : ℕ) → k < p.threads → k ≢ t → buffer issued k ≡ []
  issued_others k h e =
      issue_buffer_other p s o.fit t low may_issue.1 k (thread_low o.fit.program h) e ∙ o.buffers k h

  issued_buffer : buffer issued t ≡ joins s.registers t next
  issued_buffer = rw (issue_buffer p s o.fit t low may_issue.1, o.buffers t low) refl

  issued_queue : (q : ℕ) → q < lines_of p → queue issued q ≡ exchanges p s t q next
  issued_queue q h =
      let w = few_lines p o.fit.program in
      rw (issue_queue p s o.fit t low may_issue.1 q (omega arith), o.queues q h) refl

  rest : (ks : List Step) × (carried p t next ≡ issue_step t ∷ ks) × Through p issued ks
  rest =
      let fits = (o.fit.program.instructions t (issued_of s t) left).1 in
      behind p s t low issued (step_fits p s o.fit (issue_step t) may_issue.0 may_issue.1)
      issued_others next.location next.register next.word fits.low_location next.operation
      fits.some_operation fits.low_operation plain issued_buffer issued_queue

  pub carries_one : Carries p s (carried p t next) t (suc (issued_of s t))
  unfolding Faultless Leads
  carries_one =
      let r = rest.2 in
      rw rest.1 (record {
        end = r.end;
        faultless = (may_issue.0, r.faultless);
        leads = (may_issue.1, r.leads);
        quiet = r.quiet;
        mine = r.issued t ∙ issue_issued p s o.fit t low may_issue.1;
        others = λ k e. r.issued k ∙ issue_issued_other p s o.fit t low may_issue.1 k e;
      })

-- nothing carried; one thing carried behind another
carries_none : (p : Program) (s : State) (t n : ℕ) → Quiet p s → issued_of s t ≡ n → Carries p s [] t n
unfolding Faultless Leads
carries_none p s t n o e =
    record { end = s; faultless = tt; leads = refl; quiet = o; mine = e; others = λ k h. refl }

carries_append : (p : Program) (s : State) (ks ms : List Step) (t m n : ℕ) (one : Carries p s ks t m)
    → Carries p one.end ms t n → Carries p s (ks ++ ms) t n
carries_append p s ks ms t m n one more =
    record {
      end = more.end;
      faultless = faultless_append (ptso p) ks ms one.faultless more.faultless;
      leads = leads_append (ptso p) s ks one.end ms more.end one.leads more.leads;
      quiet = more.quiet;
      mine = more.mine;
      others = λ k h. more.others k h ∙ one.others k h;
    }

-- all instructions of a thread, one after the other, of a program without a compare
module _ (p : Program) (plain : Uncompared p) (t : ℕ) (low : t < p.threads) where
  carries_next : (i : ℕ) (s : State) → Quiet p s → issued_of s t ≡ i → i < count_at p t
      → Carries p s (carried p t (instruction_at p t i)) t (suc i)
  unfolding Uncompared
  carries_next i s o e h = rw e at (carries_one p s o t low (rw e h) (rw e (plain t i h)))

  carries_from : (i n : ℕ) (s : State) → Quiet p s → issued_of s t ≡ i → i + n ≡ count_at p t
      → Carries p s (carried_from p t i n) t (count_at p t)
  unfolding carried_from
  carries_from i zero s o e c = carries_none p s t (count_at p t) o (omega arith)
  carries_from i (suc n) s o e c =
      let one = carries_next i s o e (omega arith) in
      carries_append p s (carried p t (instruction_at p t i)) (carried_from p t (suc i) n) t (suc i) (count_at p t)
      one
      (carries_from (suc i) n one.end one.quiet one.mine (omega arith))

  pub carries_all : (s : State) → Quiet p s → issued_of s t ≡ 0 → Carries p s (carried_all p t) t (count_at p t)
  unfolding carried_all
  carries_all s o e = carries_from 0 (count_at p t) s o e (omega arith)
