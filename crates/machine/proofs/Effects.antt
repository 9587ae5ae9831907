-- What each step does to each part of the state, with buffers and queues seen as lists, and to the words on their
-- way to each location, whichever queue they go through: beside Promises, all that the layers above may cite of
-- the machine. Each law is stated in full. Assumes nothing.
use Prim.Native.Nat.{ℕ, suc, ◌+◌, ◌*◌, ◌<◌}
use mathlib.Core.Path.{◌≡◌}
use mathlib.Core.Logic.{◌⊎◌, ◌≢◌}
use mathlib.Core.Bool.{true}
use mathlib.Core.List.{List, [], ◌∷◌, ◌++◌}
use lib.ListN.{length, get_or, set}
use Rattle.cases.specs.declared.case.Location.{Location}
use Rattle.cases.specs.declared.case.Instruction.{Instruction}
use Rattle.cases.specs.declared.case.Step.{Step}
use Rattle.cases.specs.declared.case.Program.{Program}
use Rattle.cases.specs.Choice.{pick}
use Rattle.cases.specs.Sizes.{most_threads, most_locations, most_registers}
use Rattle.cases.specs.Checks.{limits_of, lines_of, step_fault, count_at, instruction_at, sets_register}
use Rattle.cases.specs.Checks.{set_by}
use Rattle.machine.specs.declared.cells.State.{State}
use Rattle.machine.specs.declared.cells.Entry.TheVariants.{FlushOpt}
use Rattle.machine.specs.View.{Slot, without, queue, buffer, word_of, register_in, issued_of}
use Rattle.machine.specs.Look.{word_or}
use Rattle.machine.specs.Rules.{is_barrier, entry_at, rule_of, next_of, start_of}
use Rattle.machine.specs.Joins.{joins, exchanges, enters, taken_by, store_of, swap_of, on_way, last_or}
use Rattle.machine.specs.Fit.{AllOf, Fits}
use Rattle.machine.specs.Next.{issue_step, move_step, persist_step}
use Rattle.machine.proofs.steps.StepFaultLaws as StepFaultLaws
use Rattle.machine.proofs.fit.StartLaws as StartLaws
use Rattle.machine.proofs.steps.IssueEffectLaws as IssueEffectLaws
use Rattle.machine.proofs.steps.MoveEffectLaws as MoveEffectLaws
use Rattle.machine.proofs.steps.PersistEffectLaws as PersistEffectLaws
use Rattle.machine.proofs.steps.WordEffectLaws as WordEffectLaws
use Rattle.machine.proofs.steps.RegisterEffectLaws as RegisterEffectLaws

-- a step that passes the checks 5 and 8 is an issue, a move or a persist
pub step_kinds : (p : Program) (k : Step) → step_fault (limits_of p) k ≡ 0
    → ((t : ℕ) × (t < p.threads) × (k ≡ issue_step t))
    ⊎ ((t : ℕ) × (i : ℕ) × (t < p.threads) × (k ≡ move_step t i))
    ⊎ ((q : ℕ) × (q < lines_of p) × (k ≡ persist_step q))
step_kinds = StepFaultLaws.step_kinds

-- "a run starts from the first contents, nothing queued, waiting or issued"
module _ (p : Program) where
  pub start_buffer : (t : ℕ) → buffer (start_of p) t ≡ []
  start_buffer = StartLaws.start_buffer p

  pub start_queue : (q : ℕ) → queue (start_of p) q ≡ []
  start_queue = StartLaws.start_queue p

  pub start_issued : (t : ℕ) → issued_of (start_of p) t ≡ 0
  start_issued = StartLaws.start_issued p

  pub start_word : (l : ℕ) → word_of (start_of p) l ≡ get_or p.first l 0
  start_word = StartLaws.start_word p

  pub start_words : (l : ℕ) → on_way p (start_of p) l ≡ []
  start_words = WordEffectLaws.start_words p

-- The word that a register takes is the persistent one, one on its way there, or one that waits in the thread's
-- buffer: what holds of all these holds of it.
pub taken_holds : (P : ℕ → Type 0) (p : Program) (s : State) (t : ℕ) (x : Instruction)
    → P (word_of s x.location.0)
    → AllOf P (on_way p s x.location.0)
    → ((i : ℕ) → i < length (buffer s t) → AllOf P (store_of x.location.0 (entry_at (buffer s t) i)))
    → P (taken_by p s t x)
taken_holds = RegisterEffectLaws.taken_holds

-- A state that fits its program
module _ (p : Program) (s : State) (fit : Fits p s) where
  -- what an issue does to each part
  module _ (t : ℕ) (low : t < p.threads) (legal : rule_of p s (issue_step t) ≡ 0) where
    pub issue_left : issued_of s t < count_at p t
    issue_left = IssueEffectLaws.issue_left p s fit t low legal

    pub issue_issued : issued_of (next_of p s (issue_step t)) t ≡ suc (issued_of s t)
    issue_issued = IssueEffectLaws.issue_issued p s fit t low legal

    pub issue_issued_other : (k : ℕ) → k ≢ t → issued_of (next_of p s (issue_step t)) k ≡ issued_of s k
    issue_issued_other = IssueEffectLaws.issue_issued_other p s fit t low legal

    pub issue_buffer : buffer (next_of p s (issue_step t)) t
        ≡ buffer s t ++ joins s.registers t (instruction_at p t (issued_of s t))
    issue_buffer = IssueEffectLaws.issue_buffer p s fit t low legal

    pub issue_buffer_other : (k : ℕ) → k < most_threads → k ≢ t
        → buffer (next_of p s (issue_step t)) k ≡ buffer s k
    issue_buffer_other = IssueEffectLaws.issue_buffer_other p s fit t low legal

    pub issue_queue : (q : ℕ) → q < most_locations
        → queue (next_of p s (issue_step t)) q ≡ queue s q ++ exchanges p s t q (instruction_at p t (issued_of s t))
    issue_queue = IssueEffectLaws.issue_queue p s fit t low legal

    pub issue_word : (l : ℕ) → word_of (next_of p s (issue_step t)) l ≡ word_of s l
    issue_word = IssueEffectLaws.issue_word p s fit t low legal

    pub issue_words : (l : ℕ) → l < p.locations
        → on_way p (next_of p s (issue_step t)) l ≡ on_way p s l ++ swap_of p s t l (instruction_at p t (issued_of s t))
    issue_words = WordEffectLaws.issue_words p s fit t low legal

    -- all registers, and one by one
    pub issue_registers : (next_of p s (issue_step t)).registers
        ≡ pick (sets_register (instruction_at p t (issued_of s t)).operation)
        (set s.registers (t * most_registers + (instruction_at p t (issued_of s t)).register.0)
        (taken_by p s t (instruction_at p t (issued_of s t))))
        s.registers
    issue_registers = RegisterEffectLaws.issue_registers p s fit t low legal

    pub issue_register : (r : ℕ) → r < most_registers
        → register_in (next_of p s (issue_step t)).registers t r
        ≡ pick (set_by r (instruction_at p t (issued_of s t))) (taken_by p s t (instruction_at p t (issued_of s t)))
        (register_in s.registers t r)
    issue_register = RegisterEffectLaws.issue_register p s fit t low legal

    pub issue_register_other : (k r : ℕ) → k ≢ t → r < most_registers
        → register_in (next_of p s (issue_step t)).registers k r ≡ register_in s.registers k r
    issue_register_other = RegisterEffectLaws.issue_register_other p s fit t low legal

    -- "Exchange and mfence need the own buffer empty (else 22)", and a compare, whether it succeeds or fails
    pub barrier_alone : is_barrier (instruction_at p t (issued_of s t)).operation ≡ true → buffer s t ≡ []
    barrier_alone = IssueEffectLaws.barrier_alone p s fit t low legal

  -- what a move does to each part
  module _ (t i : ℕ) (low : t < p.threads) (legal : rule_of p s (move_step t i) ≡ 0) where
    pub move_within : i < length (buffer s t)
    move_within = MoveEffectLaws.move_within p s fit t i low legal

    -- "Behind position 0 only a flush-opt may go (else 25)"
    pub move_first_or : (i ≡ 0) ⊎ ((l : Location) × (entry_at (buffer s t) i ≡ FlushOpt l))
    move_first_or = MoveEffectLaws.move_first_or p s fit t i low legal

    pub move_issued : (k : ℕ) → issued_of (next_of p s (move_step t i)) k ≡ issued_of s k
    move_issued = MoveEffectLaws.move_issued p s fit t i low legal

    pub move_buffer : buffer (next_of p s (move_step t i)) t ≡ without i (buffer s t)
    move_buffer = MoveEffectLaws.move_buffer p s fit t i low legal

    pub move_buffer_other : (k : ℕ) → k < most_threads → k ≢ t
        → buffer (next_of p s (move_step t i)) k ≡ buffer s k
    move_buffer_other = MoveEffectLaws.move_buffer_other p s fit t i low legal

    pub move_queue : (q : ℕ) → q < most_locations
        → queue (next_of p s (move_step t i)) q ≡ queue s q ++ enters p t q (entry_at (buffer s t) i)
    move_queue = MoveEffectLaws.move_queue p s fit t i low legal

    pub move_word : (l : ℕ) → word_of (next_of p s (move_step t i)) l ≡ word_of s l
    move_word = MoveEffectLaws.move_word p s fit t i low legal

    pub move_words : (l : ℕ) → l < p.locations
        → on_way p (next_of p s (move_step t i)) l ≡ on_way p s l ++ store_of l (entry_at (buffer s t) i)
    move_words = WordEffectLaws.move_words p s fit t i low legal

    pub move_registers : (next_of p s (move_step t i)).registers ≡ s.registers
    move_registers = RegisterEffectLaws.move_registers p s t i

  -- what a persist does to each part
  module _ (q : ℕ) (low : q < lines_of p) (legal : rule_of p s (persist_step q) ≡ 0) where
    pub persist_issued : (k : ℕ) → issued_of (next_of p s (persist_step q)) k ≡ issued_of s k
    persist_issued = PersistEffectLaws.persist_issued p s fit q low legal

    pub persist_buffer : (t : ℕ) → buffer (next_of p s (persist_step q)) t ≡ buffer s t
    persist_buffer = PersistEffectLaws.persist_buffer p s fit q low legal

    pub persist_queue : (h : Slot) × (queue s q ≡ h ∷ queue (next_of p s (persist_step q)) q)
    persist_queue = PersistEffectLaws.persist_queue p s fit q low legal

    -- the oldest of the queue, and what it makes of each location's word
    pub persist_taken : (h : Slot) × (queue s q ≡ h ∷ queue (next_of p s (persist_step q)) q)
        × ((l : ℕ) → l < most_locations → word_of (next_of p s (persist_step q)) l ≡ word_or l h (word_of s l))
    persist_taken = PersistEffectLaws.persist_taken p s fit q low legal

    pub persist_queue_other : (m : ℕ) → m < most_locations → m ≢ q
        → queue (next_of p s (persist_step q)) m ≡ queue s m
    persist_queue_other = PersistEffectLaws.persist_queue_other p s fit q low legal

    pub persist_words : (l : ℕ) → l < p.locations
        → (out : List ℕ) × (on_way p s l ≡ out ++ on_way p (next_of p s (persist_step q)) l)
        × (word_of (next_of p s (persist_step q)) l ≡ last_or out (word_of s l))
    persist_words = WordEffectLaws.persist_words p s fit q low legal

    pub persist_registers : (next_of p s (persist_step q)).registers ≡ s.registers
    persist_registers = RegisterEffectLaws.persist_registers p s q
