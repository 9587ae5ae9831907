-- Document 02, P4, in words to quote: which entries are in the way of a step that breaks a rule, which of two places
-- comes first, and where an entry stands after later steps. The blocker itself (Blocker) does not use this page.
--   StandsAt xs i x         x stands at position i of the list xs
--   WaitsInWay p s k i w    the entry w, at position i of the own buffer, is in the way of the step k
--   QueuedInWay p s k q h   the entry h of queue q is
--   InTheWay p s k b        the entry at the place b is
--   Names r                 the rule r names an entry
--   Before b d              of two places of the same rule, b comes first
--   moved_by, persisted_by  the same as left_by, of an entry of a buffer, and of a queue
--   left_by k b             where the entry at the place b stands after the legal step k; no entry, where k takes it out
--                           of its buffer or queue: what leaves a buffer may wait in a queue then
--   left_at ks b            the same after the legal steps ks
-- Assumes nothing.
use Rattle.std.specs.Prelude.{ℕ, zero, suc, ◌-◌, ◌<◌, ◌≡◌, ◌⊎◌, true, List, [], ◌∷◌, eqb, ltb}
use Rattle.cases.specs.declared.case.Line.{Line}
use Rattle.cases.specs.declared.case.Thread.{Thread}
use Rattle.cases.specs.declared.case.Step.{Step}
use Rattle.cases.specs.declared.case.Program.{Program}
use Rattle.cases.specs.Choice.{pick, both}
use Rattle.cases.specs.Operations.{move, persist}
use Rattle.machine.specs.declared.cells.State.{State}
use Rattle.machine.specs.declared.cells.Waiting.{Waiting}
use Rattle.machine.specs.declared.blocker.Blocker.{Blocker}
use Rattle.machine.specs.declared.blocker.Blocker.TheVariants.{InBuffer, InQueue, NoEntry}
use Rattle.machine.specs.View.{Slot, mark_of, queue, buffer}
use Rattle.machine.specs.Parts.{parts_of}
use Rattle.machine.specs.Look.{bars}
use Rattle.machine.specs.Rules.{rule_of}
use Rattle.machine.specs.Blocker.{entry_line, taken}

unfoldable pub StandsAt : {A : Type 0} → List A → ℕ → A → Type 0
StandsAt [] i x = ⊥
StandsAt (y ∷ ys) zero x = y ≡ x
StandsAt (y ∷ ys) (suc i) x = StandsAt ys i x

-- "Exchange and mfence need the own buffer empty (else 22)", a compare too: every entry of it; a flush-opt goes
-- "only if no entry before it is a store or flush of its location or an sfence (else 26)": each of those
abbrev pub WaitsInWay : Program → State → Step → ℕ → Waiting → Type 0
WaitsInWay p s k i w =
    (rule_of p s k ≡ 22)
    ⊎ ((rule_of p s k ≡ 26) × (i < k.position)
    × (bars p (entry_line p (taken (parts_of s) k)) w.entry ≡ true))

-- "A flush leaves only if its location's queue is empty, markers counted (else 27)": every entry of it; exchange,
-- compare, mfence and sfence need "no marker of that thread in any queue" (23, 28): each of those
abbrev pub QueuedInWay : Program → State → Step → ℕ → Slot → Type 0
QueuedInWay p s k q h =
    ((rule_of p s k ≡ 27) × (q ≡ entry_line p (taken (parts_of s) k)))
    ⊎ (((rule_of p s k ≡ 23) ⊎ (rule_of p s k ≡ 28)) × (h.mark ≡ mark_of k.thread.0))

unfoldable pub InTheWay : Program → State → Step → Blocker → Type 0
InTheWay p s k (InBuffer t i) =
    (t.0 ≡ k.thread.0) × (w : Waiting) × StandsAt (buffer s t.0) i w × WaitsInWay p s k i w
InTheWay p s k (InQueue q i) = (h : Slot) × StandsAt (queue s q.0) i h × QueuedInWay p s k q.0 h
InTheWay p s k NoEntry = ⊥

-- "Rules 22, 23, 26, 27 and 28"
abbrev pub Names : ℕ → Type 0
Names r = (r ≡ 22) ⊎ (r ≡ 23) ⊎ (r ≡ 26) ⊎ (r ≡ 27) ⊎ (r ≡ 28)

-- "the lowest queue comes first", and in one queue or buffer the lowest position. The entries of buffers that are in
-- the way of a step are all in its own thread's: threads are not compared.
unfoldable pub Before : Blocker → Blocker → Type 0
Before (InBuffer t i) (InBuffer u j) = i < j
Before (InQueue q i) (InQueue m j) = (q.0 < m.0) ⊎ ((q.0 ≡ m.0) × (i < j))
Before (InBuffer t i) (InQueue m j) = ⊥
Before (InBuffer t i) NoEntry = ⊥
Before (InQueue q i) (InBuffer u j) = ⊥
Before (InQueue q i) NoEntry = ⊥
Before NoEntry d = ⊥

-- a move of its own thread takes it, or brings it one forward if it takes one before it
unfoldable pub moved_by : Step → Thread → ℕ → Blocker
moved_by k t i =
    pick (both (eqb k.code move) (eqb k.thread.0 t.0))
    (pick (eqb k.position i) NoEntry (InBuffer t (pick (ltb k.position i) (i - 1) i)))
    (InBuffer t i)

-- a persist of its own line takes it, if it is the oldest, or brings it one forward
unfoldable pub persisted_by : Step → Line → ℕ → Blocker
persisted_by k q i =
    pick (both (eqb k.code persist) (eqb k.location.0 q.0))
    (pick (eqb i 0) NoEntry (InQueue q (i - 1)))
    (InQueue q i)

unfoldable pub left_by : Step → Blocker → Blocker
left_by k (InBuffer t i) = moved_by k t i
left_by k (InQueue q i) = persisted_by k q i
left_by k NoEntry = NoEntry

unfoldable pub left_at : List Step → Blocker → Blocker
left_at [] b = b
left_at (k ∷ ks) b = left_at ks (left_by k b)
