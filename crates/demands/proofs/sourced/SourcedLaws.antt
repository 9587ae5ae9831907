-- Along a run every word, wherever it stands, is one that its location can hold, and every register that was set
-- holds a word of the program. Assumes nothing.
use Prim.Native.Nat.{ℕ, suc, ◌<◌}
use mathlib.Core.Path.{◌≡◌, refl, subst}
use mathlib.Core.Logic.{◌⊎◌, inl, inr}
use mathlib.Core.Bool.{Bool, true, false}
use mathlib.Core.List.{List, [], ◌∷◌}
use native.Mathlib.Decide.{ℕ_discrete}
use Rattle.cases.specs.declared.case.Instruction.{Instruction}
use Rattle.cases.specs.declared.case.Step.{Step}
use Rattle.cases.specs.declared.case.Program.{Program}
use Rattle.cases.specs.Choice.{pick, either}
use Rattle.cases.specs.Operations.{store_register}
use Rattle.cases.specs.Sizes.{most_registers}
use Rattle.cases.specs.Checks.{limits_of, lines_of, step_fault, count_at, instruction_at, needs_register, set_by, set_before}
use Rattle.cases.specs.Ranges.{ProgramFits, InstructionFits, RegistersSet}
use Rattle.cases.proofs.ChoiceLaws.{never_both}
use Rattle.cases.proofs.Promises.{thread_low}
use Rattle.machine.specs.declared.cells.State.{State}
use Rattle.machine.specs.View.{blank_waiting, buffer, word_of, register_in, issued_of}
use Rattle.machine.specs.Rules.{rule_of, next_of, start_of}
use Rattle.machine.specs.Joins.{taken_by, on_way}
use Rattle.machine.specs.Fit.{AllOf, Fits}
use Rattle.machine.specs.Model.{Leads, Faultless, LegalRun}
use Rattle.machine.specs.Next.{issue_step, move_step, persist_step}
use Rattle.machine.specs.Ptso.{ptso}
use Rattle.machine.proofs.lists.AllLaws.{all_get, all_append, all_apart, all_without}
use Rattle.machine.proofs.Promises.{step_fits, start_fits}
use Rattle.machine.proofs.Effects.{step_kinds, start_buffer, start_issued, start_word, start_words, taken_holds}
use Rattle.machine.proofs.Effects.{issue_left, issue_issued, issue_issued_other, issue_buffer, issue_buffer_other}
use Rattle.machine.proofs.Effects.{issue_word, issue_words, issue_register, issue_register_other}
use Rattle.machine.proofs.Effects.{move_within, move_issued, move_buffer, move_buffer_other, move_word, move_words}
use Rattle.machine.proofs.Effects.{move_registers, persist_issued, persist_buffer, persist_words}
use Rattle.machine.proofs.Effects.{persist_registers}
use Rattle.demands.specs.Sources.{OfProgram, OfLocation}
use Rattle.demands.proofs.writes.LastLaws.{last_holds}
use Rattle.demands.proofs.sourced.BroughtLaws.{Brings, brought_of, brought_program}

-- what stands in memory, what is on its way there, what waits in a buffer, what the registers hold
pub record Sourced (p : Program) (s : State) : Type 0 where
  pub words : (l : ℕ) → l < p.locations → OfLocation p l (word_of s l)
  pub queued : (l : ℕ) → l < p.locations → AllOf (OfLocation p l) (on_way p s l)
  pub waiting : (t l : ℕ) → t < p.threads → l < p.locations → AllOf (Brings (OfLocation p l) l) (buffer s t)
  pub registers : (t r : ℕ) → t < p.threads → r < most_registers → set_before p t r (issued_of s t) ≡ true
      → OfProgram p (register_in s.registers t r)

start_sourced : (p : Program) → Sourced p (start_of p)
start_sourced p =
    record {
      words = λ l h. unfold OfLocation in inl (start_word p l);
      queued = λ l h. rw (start_words p l) (unfold AllOf in tt);
      waiting = λ t l h k. rw (start_buffer p t) (unfold AllOf in tt);
      registers = λ t r h k e. absurd (never_both (rw (start_issued p t) at e) (unfold set_before in refl));
    }

module _ (p : Program) (set : RegistersSet p) (s : State) (f : Fits p s) (o : Sourced p s) where
  -- Issue
  module _ (t : ℕ) (low : t < p.threads) (legal : rule_of p s (issue_step t) ≡ 0) where
    abbrev next : State
    next = next_of p s (issue_step t)

    abbrev x : Instruction
    x = instruction_at p t (issued_of s t)

    left : issued_of s t < count_at p t
    left = issue_left p s f t low legal

    fits : InstructionFits p x
    fits = (f.program.instructions t (issued_of s t) left).1

    -- the word that a store of a register fixes; the words that the instruction brings; the word that it takes
    known : x.operation ≡ store_register → OfProgram p (register_in s.registers t x.register.0)
    unfolding RegistersSet needs_register either
    known e = o.registers t x.register.0 low fits.low_register (set t (issued_of s t) left (rw e refl))

    taken : OfProgram p (taken_by p s t x)
    taken =
        let l = x.location.0 in
        brought_program p l _ fits.low_location
        (taken_holds (OfLocation p l) p s t x (o.words l fits.low_location) (o.queued l fits.low_location)
        (λ i h. all_get (Brings (OfLocation p l) l) (buffer s t) i blank_waiting
        (o.waiting t l low fits.low_location) h))

    waiting : (k l : ℕ) → k < p.threads → l < p.locations → Dec (k ≡ t)
        → AllOf (Brings (OfLocation p l) l) (buffer next k)
    waiting k l h there (yes e) =
        rw (e, issue_buffer p s f t low legal)
        (all_append (Brings (OfLocation p l) l) (buffer s t) _ (o.waiting t l low there)
        (brought_of p f.program s t (issued_of s t) l left known).0)
    waiting k l h there (no e) =
        rw (issue_buffer_other p s f t low legal k (thread_low f.program h) e) (o.waiting k l h there)

    own : (r : ℕ) → r < most_registers → set_before p t r (suc (issued_of s t)) ≡ true
        → OfProgram p (register_in next.registers t r)
    unfolding set_before
    own r few e = rw (issue_register p s f t low legal r few) (go (set_by r x) e)
      where
        go : (b : Bool) → either b (set_before p t r (issued_of s t)) ≡ true
            → OfProgram p (pick b (taken_by p s t x) (register_in s.registers t r))
        go true a = unfold pick in taken
        go false a = unfold pick in o.registers t r low few (unfold either in a)

    registers : (k r : ℕ) → k < p.threads → r < most_registers → set_before p k r (issued_of next k) ≡ true
        → Dec (k ≡ t) → OfProgram p (register_in next.registers k r)
    registers k r h few a (yes e) = rw e (own r few (rw (e, issue_issued p s f t low legal) at a))
    registers k r h few a (no e) =
        rw (issue_register_other p s f t low legal k r e few)
        (o.registers k r h few (rw (issue_issued_other p s f t low legal k e) at a))

    issue_sourced : Sourced p next
    issue_sourced =
        record {
          words = λ l h. rw (issue_word p s f t low legal l) (o.words l h);
          queued = λ l h.
              rw (issue_words p s f t low legal l h)
              (all_append (OfLocation p l) (on_way p s l) _ (o.queued l h)
              (brought_of p f.program s t (issued_of s t) l left known).1);
          waiting = λ k l h there. waiting k l h there (ℕ_discrete k t);
          registers = λ k r h few a. registers k r h few a (ℕ_discrete k t);
        }

  -- Move
  module _ (t i : ℕ) (low : t < p.threads) (legal : rule_of p s (move_step t i) ≡ 0) where
    left_waiting : (k l : ℕ) → k < p.threads → l < p.locations → Dec (k ≡ t)
        → AllOf (Brings (OfLocation p l) l) (buffer (next_of p s (move_step t i)) k)
    left_waiting k l h there (yes e) =
        rw (e, move_buffer p s f t i low legal)
        (all_without (Brings (OfLocation p l) l) (buffer s t) i (o.waiting t l low there))
    left_waiting k l h there (no e) =
        rw (move_buffer_other p s f t i low legal k (thread_low f.program h) e) (o.waiting k l h there)

    move_sourced : Sourced p (next_of p s (move_step t i))
    move_sourced =
        record {
          words = λ l h. rw (move_word p s f t i low legal l) (o.words l h);
          queued = λ l h.
              rw (move_words p s f t i low legal l h)
              (all_append (OfLocation p l) (on_way p s l) _ (o.queued l h)
              (all_get (Brings (OfLocation p l) l) (buffer s t) i blank_waiting (o.waiting t l low h)
              (move_within p s f t i low legal)));
          waiting = λ k l h there. left_waiting k l h there (ℕ_discrete k t);
          registers = λ k r h few a.
              rw (move_registers p s f t i low legal)
              (o.registers k r h few (rw (move_issued p s f t i low legal k) at a));
        }

  -- Persist
  module _ (q : ℕ) (low : q < lines_of p) (legal : rule_of p s (persist_step q) ≡ 0) where
    abbrev after : State
    after = next_of p s (persist_step q)

    persisted : (l : ℕ) → l < p.locations
        → OfLocation p l (word_of after l) × AllOf (OfLocation p l) (on_way p after l)
    persisted l h =
        let w = persist_words p s f q low legal l h in
        let both = all_apart (OfLocation p l) w.0 (on_way p after l)
        (subst (AllOf (OfLocation p l)) w.1 (o.queued l h)) in
        (rw w.2 (last_holds (OfLocation p l) w.0 (word_of s l) (o.words l h) both.0), both.1)

    persist_sourced : Sourced p after
    persist_sourced =
        record {
          words = λ l h. (persisted l h).0;
          queued = λ l h. (persisted l h).1;
          waiting = λ t l h there. rw (persist_buffer p s f q low legal t) (o.waiting t l h there);
          registers = λ t r h few a.
              rw (persist_registers p s f q low legal)
              (o.registers t r h few (rw (persist_issued p s f q low legal t) at a));
        }

  step_sourced : (k : Step) → step_fault (limits_of p) k ≡ 0 → rule_of p s k ≡ 0 → Sourced p (next_of p s k)
  step_sourced k faultless legal = go (step_kinds p k faultless)
    where
      go : ((t : ℕ) × (t < p.threads) × (k ≡ issue_step t))
          ⊎ ((t : ℕ) × (i : ℕ) × (t < p.threads) × (k ≡ move_step t i))
          ⊎ ((q : ℕ) × (q < lines_of p) × (k ≡ persist_step q)) → Sourced p (next_of p s k)
      go (inl y) = rw y.2 (issue_sourced y.0 y.1 (rw y.2 at legal))
      go (inr (inl y)) = rw y.3 (move_sourced y.0 y.1 y.2 (rw y.3 at legal))
      go (inr (inr y)) = rw y.2 (persist_sourced y.0 y.1 (rw y.2 at legal))

module _ (p : Program) (set : RegistersSet p) where
  leads_sourced : (s : State) (ks : List Step) (u : State) → Fits p s → Sourced p s → Faultless (ptso p) ks
      → Leads (ptso p) s ks u
      → Sourced p u
  unfolding Faultless Leads
  leads_sourced s [] u f o g h = subst (Sourced p) h o
  leads_sourced s (k ∷ ks) u f o g h =
      leads_sourced (next_of p s k) ks u (step_fits p s f k g.0 h.0)
      (step_sourced p set s f o k g.0 h.0) g.1 h.1

  -- a legal run, from the start
  pub run_sourced : ProgramFits p → (ks : List Step) (u : State) → LegalRun (ptso p) ks u → Sourced p u
  run_sourced fits ks u run =
      leads_sourced (start_of p) ks u (start_fits p fits) (start_sourced p) run.faultless run.leads
