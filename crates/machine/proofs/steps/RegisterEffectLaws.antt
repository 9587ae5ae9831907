-- What each legal step does to the registers: an issue lets the instruction's register take a word, where it sets
-- one; a move and a persist leave all as they are. And where the word taken stands before. Assumes nothing.
use Prim.Native.Nat.{ℕ, suc, ◌+◌, ◌*◌, ◌≤◌, ◌<◌}
use mathlib.Core.Path.{◌≡◌, refl}
use mathlib.Core.Logic.{◌≢◌}
use mathlib.Core.Bool.{Bool, true, false}
use mathlib.Core.List.{List, [], ◌∷◌}
use native.Mathlib.Omega.{arith}
use native.Mathlib.Decide.{ℕ_discrete}
use borrow.Author.Tests.{eq-eqb, ne_eqb}
use lib.Dec.{eqb}
use lib.ListN.{length, set}
use lib.Seq.{get_or-set_same, get_or-set_other}
use Rattle.cases.specs.declared.case.Location.{Location}
use Rattle.cases.specs.declared.case.Register.{Register}
use Rattle.cases.specs.declared.case.Instruction.{Instruction}
use Rattle.cases.specs.declared.case.Program.{Program}
use Rattle.cases.specs.Choice.{pick, both, either}
use Rattle.cases.specs.Ranges.{InstructionFits}
use Rattle.cases.specs.Sizes.{most_registers}
use Rattle.cases.specs.Checks.{instruction_at, sets_register, set_by}
use Rattle.cases.specs.Operations.{exchange, compare, last_operation, first_operation}
use Rattle.cases.proofs.ChoiceLaws.{pick_cases}
use Rattle.cases.proofs.Promises.{thread_low}
use Rattle.machine.specs.declared.cells.State.{State}
use Rattle.machine.specs.declared.cells.Waiting.{Waiting}
use Rattle.machine.specs.declared.cells.Entry.{Entry}
use Rattle.machine.specs.declared.cells.Entry.TheVariants.{Store, Flush, FlushOpt, Sfence}
use Rattle.machine.specs.View.{Slot, line_of, queue, with_queue, buffer, with_buffer, word_of, with_word}
use Rattle.machine.specs.View.{register_in, with_register, issued_of, with_issued, without}
use Rattle.machine.specs.Look.{word_or, newest_write, stored_or, newest_store, queued_word, load_of}
use Rattle.machine.specs.Rules.{enqueue, await, loaded, fetched, exchanged, matches, compared, performed}
use Rattle.machine.specs.Rules.{issue_of, entry_at, effect_of, move_of, settled, persist_first, persist_of}
use Rattle.machine.specs.Rules.{rule_of, next_of}
use Rattle.machine.specs.Joins.{taken_by, only_if, writes_of, store_of, on_way}
use Rattle.machine.specs.Next.{issue_step, move_step, persist_step}
use Rattle.machine.specs.Fit.{AllOf, Fits}
use Rattle.machine.proofs.OperationLaws.{each_operation, of}
use Rattle.machine.proofs.lists.AllLaws.{all_apart}
use Rattle.machine.proofs.steps.IssueEffectLaws.{issue_left}

-- what an instruction and an entry do to all registers
module _ (p : Program) (s : State) (t : ℕ) where
  module _ (l : Location) (r : Register) (w : ℕ) where
    abbrev Sets : ℕ → Type 0
    Sets op = (performed p s t (of op l r w)).registers
        ≡ pick (sets_register op)
        (set s.registers (t * most_registers + r.0) (taken_by p s t (of op l r w))) s.registers

    compared_registers : (b : Bool)
        → (pick b (exchanged p s t (of exchange l r w)) (fetched p s t (of exchange l r w))).registers
        ≡ set s.registers (t * most_registers + r.0) (queued_word p s l.0)
    unfolding pick exchanged fetched enqueue with_queue with_register
    compared_registers true = refl
    compared_registers false = refl

    performed_registers : (op : ℕ) → first_operation ≤ op → op ≤ last_operation → Sets op
    unfolding performed pick either sets_register taken_by loaded fetched exchanged compared enqueue await with_queue
        with_buffer with_register
    performed_registers =
        each_operation Sets refl refl refl refl refl refl refl refl
        (compared_registers (matches p s t (of compare l r w)))

  effect_registers : (e : Entry) → (effect_of p s t e).registers ≡ s.registers
  unfolding effect_of enqueue with_queue
  effect_registers (Store w) = refl
  effect_registers (Flush l) = refl
  effect_registers (FlushOpt l) = refl
  effect_registers Sfence = refl

-- Issue
module _ (p : Program) (s : State) (f : Fits p s) (t : ℕ) (low : t < p.threads)
    (legal : rule_of p s (issue_step t) ≡ 0) where
  abbrev next : Instruction
  next = instruction_at p t (issued_of s t)

  fits : InstructionFits p next
  fits = (f.program.instructions t (issued_of s t) (issue_left p s f t low legal)).1

  -- the registers with the word that it takes
  abbrev taken : List ℕ
  taken = set s.registers (t * most_registers + next.register.0) (taken_by p s t next)

  pub issue_registers : (next_of p s (issue_step t)).registers
      ≡ pick (sets_register next.operation) taken s.registers
  unfolding next_of pick issue_of with_issued taken_by load_of queued_word
  issue_registers =
      performed_registers p (with_issued s t (issued_of s t + 1)) t next.location next.register next.word
      next.operation fits.some_operation fits.low_operation

  pub issue_register : (r : ℕ) → r < most_registers
      → register_in (next_of p s (issue_step t)).registers t r
      ≡ pick (set_by r next) (taken_by p s t next) (register_in s.registers t r)
  unfolding set_by
  issue_register r few = rw issue_registers (go (sets_register next.operation) (ℕ_discrete next.register.0 r))
    where
      go : (b : Bool) → Dec (next.register.0 ≡ r)
          → register_in (pick b taken s.registers) t r
          ≡ pick (both b (eqb next.register.0 r)) (taken_by p s t next) (register_in s.registers t r)
      go false d = unfold pick both in refl
      go true (yes e) =
          let long = f.sized.registers_long in
          let m = thread_low f.program low in
          rw (e, eq-eqb r r refl)
          (unfold pick both in get_or-set_same s.registers (t * most_registers + r) _ 0 (omega arith))
      go true (no e) =
          rw (ne_eqb _ _ e)
          (unfold pick both in get_or-set_other s.registers (t * most_registers + next.register.0)
          (t * most_registers + r) _ 0 (λ d. e (omega arith)))

  pub issue_register_other : (k r : ℕ) → k ≢ t → r < most_registers
      → register_in (next_of p s (issue_step t)).registers k r ≡ register_in s.registers k r
  issue_register_other k r other few =
      let at = fits.low_register in
      rw issue_registers
      (pick_cases (λ (xs : List ℕ). register_in xs k r ≡ register_in s.registers k r) _ _ s.registers
      (λ b. get_or-set_other s.registers (t * most_registers + next.register.0) (k * most_registers + r) _ 0
      (λ d. other (omega arith)))
      (λ b. refl))

-- Move, persist
pub move_registers : (p : Program) (s : State) (t i : ℕ) → (next_of p s (move_step t i)).registers ≡ s.registers
unfolding next_of pick move_of with_buffer
move_registers p s t i = effect_registers p (with_buffer s t (without i (buffer s t))) t (entry_at (buffer s t) i)

settled_registers : (s : State) (h : Slot) → (settled s h).registers ≡ s.registers
unfolding settled with_word
settled_registers s h = pick_cases (λ (u : State). u.registers ≡ s.registers) _ _ s (λ b. refl) (λ b. refl)

pub persist_registers : (p : Program) (s : State) (q : ℕ) → (next_of p s (persist_step q)).registers ≡ s.registers
unfolding next_of pick persist_of
persist_registers p s q = go (queue s q)
  where
    go : (r : List Slot) → (persist_first s q r).registers ≡ s.registers
    go [] = unfold persist_first in refl
    go (h ∷ r) = unfold persist_first with_queue in settled_registers s h

-- what holds of the word before a look and of every word that it goes through holds of the word that it finds
module _ (P : ℕ → Type 0) (l : ℕ) where
  word_holds : (b : Bool) (v w : ℕ) → P w → AllOf P (only_if b v) → P (pick b v w)
  unfolding only_if pick AllOf
  word_holds true v w h a = a.0
  word_holds false v w h a = h

  newest_holds : (q : List Slot) (w : ℕ) → P w → AllOf P (writes_of l q) → P (newest_write l q w)
  unfolding newest_write writes_of word_or
  newest_holds [] w h a = h
  newest_holds (x ∷ q) w h a =
      let r = all_apart P _ (writes_of l q) a in
      newest_holds q _ (word_holds (eqb x.mark l) x.word w h r.0) r.1

  stored_holds : (e : Entry) (w : ℕ) → P w → AllOf P (store_of l e) → P (stored_or l e w)
  unfolding stored_or store_of
  stored_holds (Store x) w h a = word_holds (eqb x.location.0 l) x.word w h a
  stored_holds (Flush m) w h a = h
  stored_holds (FlushOpt m) w h a = h
  stored_holds Sfence w h a = h

  store_holds : (b : List Waiting) (w : ℕ) → P w
      → ((i : ℕ) → i < length b → AllOf P (store_of l (entry_at b i)))
      → P (newest_store l b w)
  unfolding newest_store
  store_holds [] w h a = h
  store_holds (e ∷ b) w h a =
      store_holds b _ (stored_holds e.entry w h (a 0 (omega arith))) (λ i n. a (suc i) (omega arith))

-- the word that a register takes: the persistent one, one on its way there, or one that waits in the own buffer
pub taken_holds : (P : ℕ → Type 0) (p : Program) (s : State) (t : ℕ) (x : Instruction)
    → P (word_of s x.location.0)
    → AllOf P (on_way p s x.location.0)
    → ((i : ℕ) → i < length (buffer s t) → AllOf P (store_of x.location.0 (entry_at (buffer s t) i)))
    → P (taken_by p s t x)
unfolding taken_by load_of queued_word on_way
taken_holds P p s t x h a b =
    let queued = newest_holds P x.location.0 (queue s (line_of p x.location.0)) _ h a in
    pick_cases P _ _ _ (λ e. store_holds P x.location.0 (buffer s t) _ queued b) (λ e. queued)
