-- The search's own state: what a state holds of a program's threads, lines and locations, as one list of numbers,
-- its lanes. What stands behind a queue's or a buffer's entries is no part of it.
--   join_to n f       what f says of each number below n, one behind the other
--   single, each n f the same where f says one number
--   spread f xs       what f says of each on the list xs, one behind the other
--   entry_lanes, waiting_lanes, slot_lanes   an entry of a buffer, one that waits, one of a queue: two lanes, its tag and
--                     its word
--   buffer_lanes s t, queue_lanes s q   those of a buffer, of a queue, oldest first
--   lanes_of p s      the lanes of the state s of the program p
--   Alike p s u       the states s and u hold the same, of the program's threads, lines and locations
-- Assumes nothing.
use Rattle.std.specs.Prelude.{ℕ, zero, suc, ◌+◌, ◌*◌, ◌<◌, ◌≡◌, List, [], ◌∷◌, ◌++◌, get_or}
use Rattle.cases.specs.declared.case.Program.{Program}
use Rattle.cases.specs.Checks.{lines_of}
use Rattle.cases.specs.Sizes.{most_registers}
use Rattle.machine.specs.declared.cells.State.{State}
use Rattle.machine.specs.declared.cells.Waiting.{Waiting}
use Rattle.machine.specs.declared.cells.Entry.{Entry}
use Rattle.machine.specs.declared.cells.Entry.TheVariants.{Store, Flush, FlushOpt, Sfence}
use Rattle.machine.specs.View.{Slot, queue, queue_len, buffer, buffer_len, word_of, register_in, issued_of}
use Rattle.search.specs.Sizes.{flush_tag, flush_opt_tag, sfence_tag}

unfoldable pub join_to : ℕ → (ℕ → List ℕ) → List ℕ
join_to zero f = []
join_to (suc n) f = join_to n f ++ f n

unfoldable pub single : (ℕ → ℕ) → ℕ → List ℕ
single f i = f i ∷ []

unfoldable pub each : ℕ → (ℕ → ℕ) → List ℕ
each n f = join_to n (single f)

unfoldable pub spread : {A : Type 0} → (A → List ℕ) → List A → List ℕ
spread f [] = []
spread f (x ∷ xs) = f x ++ spread f xs

unfoldable pub entry_lanes : Entry → List ℕ
entry_lanes (Store w) = w.location.0 ∷ w.word ∷ []
entry_lanes (Flush l) = (flush_tag + l.0) ∷ 0 ∷ []
entry_lanes (FlushOpt l) = (flush_opt_tag + l.0) ∷ 0 ∷ []
entry_lanes Sfence = sfence_tag ∷ 0 ∷ []

unfoldable pub waiting_lanes : Waiting → List ℕ
waiting_lanes w = entry_lanes w.entry

unfoldable pub slot_lanes : Slot → List ℕ
slot_lanes h = h.mark ∷ h.word ∷ []

unfoldable pub buffer_lanes : State → ℕ → List ℕ
buffer_lanes s t = spread waiting_lanes (buffer s t)

unfoldable pub queue_lanes : State → ℕ → List ℕ
queue_lanes s q = spread slot_lanes (queue s q)

-- register r of thread t is number t * most_registers + r of all registers
unfoldable pub register_lane : State → ℕ → ℕ
register_lane s i = get_or s.registers i 0

-- How many each thread has issued, how many entries each buffer and each queue has, the persistent words, the
-- registers; then the entries of every buffer and of every queue.
unfoldable pub lanes_of : Program → State → List ℕ
lanes_of p s =
    each p.threads (issued_of s)
    ++ each p.threads (buffer_len s)
    ++ each (lines_of p) (queue_len s)
    ++ each p.locations (word_of s)
    ++ each (p.threads * most_registers) (register_lane s)
    ++ join_to p.threads (buffer_lanes s)
    ++ join_to (lines_of p) (queue_lanes s)

-- the same persistent words, queues, buffers, registers and issued counts, of the program's threads, lines and
-- locations
pub record Alike (p : Program) (s u : State) : Type 0 where
  pub same_issued : (t : ℕ) → t < p.threads → issued_of s t ≡ issued_of u t
  pub same_buffers : (t : ℕ) → t < p.threads → buffer s t ≡ buffer u t
  pub same_queues : (q : ℕ) → q < lines_of p → queue s q ≡ queue u q
  pub same_words : (l : ℕ) → l < p.locations → word_of s l ≡ word_of u l
  pub same_registers : (t r : ℕ) → t < p.threads → r < most_registers
      → register_in s.registers t r ≡ register_in u.registers t r
