-- Document 02, P3, in words to quote: one thread's stores to one line persist in program order. About the entries
-- of a line's queue, each with the thread that brings it, and not about words: two writers of one row can mix
-- theirs.
--   Arrival                  an entry of a queue, and the thread that brings it
--   brought_by t hs          the entries hs, brought by thread t
--   entries_of xs            the entries of the arrivals xs
--   arrives p s k q          what the step k, taken in the state s, brings into queue q
--   entered_from p s ks q    what the run ks from the state s brings there, in order
--   entered_of p ks q        the same from the start
--   persists ks q            how many of the steps ks persist an entry of queue q
--   writes_by t xs           the writes among the arrivals xs that thread t brings
--   write_to p s t q x       the write to line q that instruction x of thread t makes, issued in the state s
--   issues p s k t q         the write to line q that the step k issues of thread t in the state s
--   issued_from p s ks t q   those of the run ks from the state s, in order: a thread issues in program order
--   issued_by p ks t q       the same from the start
-- Assumes nothing.
use Rattle.std.specs.Prelude.{ℕ, suc, List, [], ◌∷◌, ◌++◌, eqb, ltb}
use Rattle.cases.specs.declared.case.Instruction.{Instruction}
use Rattle.cases.specs.declared.case.Step.{Step}
use Rattle.cases.specs.declared.case.Program.{Program}
use Rattle.cases.specs.Operations.{issue, move, persist}
use Rattle.cases.specs.Choice.{pick, both}
use Rattle.cases.specs.Checks.{instruction_at}
use Rattle.machine.specs.declared.cells.State.{State}
use Rattle.machine.specs.Sizes.{first_marker}
use Rattle.machine.specs.View.{Slot, line_of, write_slot, buffer, issued_of}
use Rattle.machine.specs.Rules.{entry_at, next_of, start_of}
use Rattle.machine.specs.Joins.{exchanges, enters}
use Rattle.demands.specs.Writes.{really, fixed_by}

pub record Arrival : Type 0 where
  pub thread : ℕ
  pub entry : Slot

unfoldable pub brought_by : ℕ → List Slot → List Arrival
brought_by t [] = []
brought_by t (h ∷ hs) = record { thread = t; entry = h } ∷ brought_by t hs

unfoldable pub entries_of : List Arrival → List Slot
entries_of [] = []
entries_of (a ∷ xs) = a.entry ∷ entries_of xs

-- an exchange, or a compare that succeeds, as it is issued; a store or a flush-opt as it moves
unfoldable pub arrives : Program → State → Step → ℕ → List Arrival
arrives p s k q =
    pick (eqb k.code issue)
    (brought_by k.thread.0
    (exchanges p s k.thread.0 q (instruction_at p k.thread.0 (issued_of s k.thread.0))))
    (pick (eqb k.code move)
    (brought_by k.thread.0 (enters p k.thread.0 q (entry_at (buffer s k.thread.0) k.position)))
    [])

unfoldable pub entered_from : Program → State → List Step → ℕ → List Arrival
entered_from p s [] q = []
entered_from p s (k ∷ ks) q = arrives p s k q ++ entered_from p (next_of p s k) ks q

unfoldable pub entered_of : Program → List Step → ℕ → List Arrival
entered_of p ks q = entered_from p (start_of p) ks q

unfoldable pub persists : List Step → ℕ → ℕ
persists [] q = 0
persists (k ∷ ks) q = pick (both (eqb k.code persist) (eqb k.location.0 q)) (suc (persists ks q)) (persists ks q)

-- a mark below every marker's is a write's
unfoldable pub writes_by : ℕ → List Arrival → List Slot
writes_by t [] = []
writes_by t (a ∷ xs) =
    pick (both (eqb a.thread t) (ltb a.entry.mark first_marker)) (a.entry ∷ writes_by t xs) (writes_by t xs)

unfoldable pub write_to : Program → State → ℕ → ℕ → Instruction → List Slot
write_to p s t q x =
    pick (both (really p s t x) (eqb (line_of p x.location.0) q)) (write_slot x.location.0 (fixed_by s t x) ∷ [])
    []

unfoldable pub issues : Program → State → Step → ℕ → ℕ → List Slot
issues p s k t q =
    pick (both (eqb k.code issue) (eqb k.thread.0 t))
    (write_to p s t q (instruction_at p t (issued_of s t))) []

unfoldable pub issued_from : Program → State → List Step → ℕ → ℕ → List Slot
issued_from p s [] t q = []
issued_from p s (k ∷ ks) t q = issues p s k t q ++ issued_from p (next_of p s k) ks t q

unfoldable pub issued_by : Program → List Step → ℕ → ℕ → List Slot
issued_by p ks t q = issued_from p (start_of p) ks t q
