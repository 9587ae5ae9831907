-- What the machine promises of the first entry in the way (specs/Blocker, InTheWay): beside Promises and Effects, all
-- that the layers above may cite. Each law is stated in full. Assumes nothing.
use Prim.Native.Nat.{ℕ, suc, ◌<◌}
use mathlib.Core.Path.{◌≡◌}
use mathlib.Core.Logic.{◌⊎◌, ◌≢◌, ◌↔◌}
use mathlib.Core.Bool.{true}
use mathlib.Core.List.{List, []}
use lib.ListN.{replicate}
use Rattle.cases.specs.declared.case.Location.{Location}
use Rattle.cases.specs.declared.case.Line.{Line}
use Rattle.cases.specs.declared.case.Thread.{Thread}
use Rattle.cases.specs.declared.case.Step.{Step}
use Rattle.cases.specs.declared.case.Program.{Program}
use Rattle.cases.specs.Checks.{limits_of, step_fault, count_at, instruction_at}
use Rattle.cases.specs.Sizes.{most_threads, most_locations}
use Rattle.machine.specs.declared.cells.State.{State}
use Rattle.machine.specs.declared.cells.Waiting.{Waiting}
use Rattle.machine.specs.declared.cells.Entry.TheVariants.{Flush, FlushOpt, Sfence}
use Rattle.machine.specs.declared.blocker.Blocker.{Blocker}
use Rattle.machine.specs.declared.blocker.Blocker.TheVariants.{InBuffer, InQueue, NoEntry}
use Rattle.machine.specs.View.{Slot, mark_of, line_of, queue, buffer, issued_of}
use Rattle.machine.specs.Look.{bars}
use Rattle.machine.specs.Rules.{is_barrier, rule_of}
use Rattle.machine.specs.Blocker.{blocker_of}
use Rattle.machine.specs.Fit.{Fits}
use Rattle.machine.specs.Model.{Leads, Faultless}
use Rattle.machine.specs.Next.{issue_step, move_step, persist_step}
use Rattle.machine.specs.Ptso.{ptso}
use Rattle.machine.specs.InTheWay.{StandsAt, InTheWay, Names, Before, left_at}
use Rattle.machine.proofs.blocker.BrokenLaws as BrokenLaws
use Rattle.machine.proofs.blocker.NamedLaws as NamedLaws
use Rattle.machine.proofs.blocker.LeftStepLaws as LeftStepLaws
use Rattle.machine.proofs.blocker.HeldLaws as HeldLaws
use Rattle.machine.proofs.blocker.AwayLaws as AwayLaws

-- A state that fits its program
module _ (p : Program) (s : State) (fit : Fits p s) where
  -- what each of the five rules tells of buffers and queues, and back
  module _ (t : ℕ) (low : t < p.threads) where
    -- "Exchange and mfence need the own buffer empty (else 22), then no marker of that thread in any queue (else
    -- 23)." A compare too, whether it would succeed or fail.
    pub broken_22 : (rule_of p s (issue_step t) ≡ 22)
        ↔ (((issued_of s t < count_at p t) × (is_barrier (instruction_at p t (issued_of s t)).operation ≡ true))
        × (buffer s t ≢ []))
    broken_22 = BrokenLaws.broken_22 p s fit t low

    pub broken_23 : (rule_of p s (issue_step t) ≡ 23)
        ↔ (((issued_of s t < count_at p t) × (is_barrier (instruction_at p t (issued_of s t)).operation ≡ true))
        × (buffer s t ≡ [])
        × ((q : ℕ) × (i : ℕ) × (h : Slot)
        × (q < most_locations) × StandsAt (queue s q) i h × (h.mark ≡ mark_of t)))
    broken_23 = BrokenLaws.broken_23 p s fit t low

    module _ (i : ℕ) where
      -- "Behind position 0 only a flush-opt may go .., and only if no entry before it is a store or flush of its
      -- location or an sfence (else 26)."
      pub broken_26 : (rule_of p s (move_step t i) ≡ 26)
          ↔ ((w : Waiting) × StandsAt (buffer s t) i w × (l : Location) × (w.entry ≡ FlushOpt l)
          × (j : ℕ) × (v : Waiting) × (j < i) × StandsAt (buffer s t) j v
          × (bars p (line_of p l.0) v.entry ≡ true))
      broken_26 = BrokenLaws.broken_26 p s fit t low i

      -- "A flush leaves only if its location's queue is empty, markers counted (else 27)."
      pub broken_27 : (rule_of p s (move_step t i) ≡ 27)
          ↔ ((i ≡ 0) × (w : Waiting) × StandsAt (buffer s t) 0 w × (l : Location) × (w.entry ≡ Flush l)
          × (queue s (line_of p l.0) ≢ []))
      broken_27 = BrokenLaws.broken_27 p s fit t low i

      -- "An sfence leaves only if no queue holds a marker of that thread (else 28)."
      pub broken_28 : (rule_of p s (move_step t i) ≡ 28)
          ↔ ((i ≡ 0) × (w : Waiting) × StandsAt (buffer s t) 0 w × (w.entry ≡ Sfence)
          × ((q : ℕ) × (j : ℕ) × (h : Slot)
          × (q < most_locations) × StandsAt (queue s q) j h × (h.mark ≡ mark_of t)))
      broken_28 = BrokenLaws.broken_28 p s fit t low i

  -- A step that passes the checks 5 and 8
  module _ (k : Step) (faultless : step_fault (limits_of p) k ≡ 0) where
    -- a rule that names an entry names the first that is in the way; any other names none
    pub first_or_none :
        (Names (rule_of p s k)
        × (InTheWay p s k (blocker_of p s k)
        × ((b : Blocker) → InTheWay p s k b → (b ≡ blocker_of p s k) ⊎ Before (blocker_of p s k) b)))
        ⊎ ((Names (rule_of p s k) → ⊥) × (blocker_of p s k ≡ NoEntry))
    first_or_none = NamedLaws.first_or_none p s fit k faultless

    -- as long as an entry that is in the way is not taken, the step breaks the same rule, and it is in the way
    pub held : (b : Blocker) → InTheWay p s k b → rule_of p s k ≢ 26
        → (ks : List Step) (u : State) → Faultless (ptso p) ks → Leads (ptso p) s ks u
        → left_at ks b ≢ NoEntry
        → (rule_of p u k ≡ rule_of p s k) × InTheWay p u k (left_at ks b)
    held = HeldLaws.held p s fit k faultless

    -- a flush-opt that it keeps behind it still waits, and its move, from where it stands then, still breaks 26
    pub held_passing : (b : Blocker) → InTheWay p s k b → rule_of p s k ≡ 26
        → (ks : List Step) (u : State) → Faultless (ptso p) ks → Leads (ptso p) s ks u
        → left_at ks b ≢ NoEntry
        → (n : ℕ) × (left_at ks (InBuffer k.thread k.position) ≡ InBuffer k.thread n)
        × (rule_of p u (move_step k.thread.0 n) ≡ 26)
        × InTheWay p u (move_step k.thread.0 n) (left_at ks b)
    held_passing = HeldLaws.held_passing p s fit k faultless

  -- what stands where an entry was left is that entry
  module _ (ks : List Step) (u : State) (faultless : Faultless (ptso p) ks) (leads : Leads (ptso p) s ks u) where
    pub left_buffer_run : (t : Thread) (i n : ℕ) (w : Waiting) → t.0 < most_threads
        → StandsAt (buffer s t.0) i w
        → left_at ks (InBuffer t i) ≡ InBuffer t n
        → StandsAt (buffer u t.0) n w
    left_buffer_run = LeftStepLaws.left_buffer_run p s fit ks u faultless leads

    pub left_queue_run : (q : Line) (i n : ℕ) (h : Slot) → q.0 < most_locations
        → StandsAt (queue s q.0) i h
        → left_at ks (InQueue q i) ≡ InQueue q n
        → StandsAt (queue u q.0) n h
    left_queue_run = LeftStepLaws.left_queue_run p s fit ks u faultless leads

  -- persists of its line take an entry of a queue away, one for each that stands before it and one for itself; each is
  -- legal where it is taken
  pub away_persisted : (q : Line) (h : Slot) (n : ℕ) → StandsAt (queue s q.0) n h
      → (u : State) × Faultless (ptso p) (replicate (suc n) (persist_step q.0))
      × Leads (ptso p) s (replicate (suc n) (persist_step q.0)) u
      × (left_at (replicate (suc n) (persist_step q.0)) (InQueue q n) ≡ NoEntry)
  away_persisted q h n = AwayLaws.away_persisted p q h n s fit
