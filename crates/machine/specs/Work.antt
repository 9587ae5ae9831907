-- Document 01, "Work left and the walk".
--   weigh f xs           what f says of each on the list xs, summed
--   code_weight, entry_weight   what an instruction weighs that is not issued, and an entry that waits
--   thread_work p s t    the work left in thread t
--   work p s             the work left
--   Unfinished p s       there is something to do: an instruction is unissued or an entry waits
--   program_weight p t   thread t's part of the full length, from the program alone
--   Uncompared p         operation 9 does not occur in the program p
--   fails_at p s k       the step k issues a compare that fails in the state s
--   cost_if failed       what a step costs that is a failed compare, or another
--   cost p s k           what a legal step uses up of the work left
--   failures_from p s ks how many compares fail in the run ks from the state s; failures_of p ks: from the start
-- Assumes nothing.
use Rattle.std.specs.Prelude.{ℕ, ◌+◌, ◌*◌, ◌<◌, ◌⊎◌, ◌≢◌, Bool, List, [], ◌∷◌, eqb}
use Rattle.cases.specs.declared.case.Instruction.{Instruction}
use Rattle.cases.specs.declared.case.Step.{Step}
use Rattle.cases.specs.declared.case.Program.{Program}
use Rattle.cases.specs.Choice.{pick, both}
use Rattle.cases.specs.Sizes.{most_threads, most_instructions, most_locations}
use Rattle.cases.specs.Operations.{store_word, store_register, load, exchange, flush, flush_opt, sfence, compare}
use Rattle.cases.specs.Operations.{issue}
use Rattle.cases.specs.Checks.{count_at, lines_of, instruction_at}
use Rattle.machine.specs.declared.cells.State.{State}
use Rattle.machine.specs.declared.cells.Waiting.{Waiting}
use Rattle.machine.specs.declared.cells.Entry.{Entry}
use Rattle.machine.specs.declared.cells.Entry.TheVariants.{Store, Flush, FlushOpt, Sfence}
use Rattle.machine.specs.View.{part, queue, queue_len, buffer, issued_of}
use Rattle.machine.specs.Rules.{fails, next_of, start_of}
use Rattle.machine.specs.Fit.{sum_to, unissued}

-- "Unissued: store or flush-opt 3; flush, sfence or exchange 2; load or mfence 1." A compare "weighs 2
-- unissued". By operation.
unfoldable pub unissued_weight : ℕ → ℕ
unissued_weight op =
    pick (eqb op store_word) 3
    (pick (eqb op store_register) 3
    (pick (eqb op load) 1
    (pick (eqb op exchange) 2
    (pick (eqb op flush) 2
    (pick (eqb op flush_opt) 3
    (pick (eqb op sfence) 2
    (pick (eqb op compare) 2
    1)))))))

-- "Waiting in a buffer: store or flush-opt 2; flush or sfence 1."
unfoldable pub waiting_weight : Entry → ℕ
waiting_weight (Store w) = 2
waiting_weight (Flush l) = 1
waiting_weight (FlushOpt l) = 2
waiting_weight Sfence = 1

abbrev pub code_weight : Instruction → ℕ
code_weight x = unissued_weight x.operation

abbrev pub entry_weight : Waiting → ℕ
entry_weight w = waiting_weight w.entry

unfoldable pub weigh : {A : Type 0} → (A → ℕ) → List A → ℕ
weigh f [] = 0
weigh f (x ∷ xs) = f x + weigh f xs

-- the instructions of thread t that are not issued yet, in their order
unfoldable pub unissued_code : Program → State → ℕ → List Instruction
unissued_code p s t = part (t * most_instructions + issued_of s t) (unissued p s t) p.code

unfoldable pub thread_work : Program → State → ℕ → ℕ
thread_work p s t = weigh code_weight (unissued_code p s t) + weigh entry_weight (buffer s t)

-- "Each queue entry 1."
unfoldable pub work : Program → State → ℕ
work p s = sum_to most_threads (thread_work p s) + sum_to most_locations (queue_len s)

-- "while an instruction is unissued or an entry waits" in a store buffer or a queue
unfoldable pub Unfinished : Program → State → Type 0
Unfinished p s =
    ((t : ℕ) × (t < p.threads) × (issued_of s t < count_at p t))
    ⊎ ((t : ℕ) × (t < p.threads) × (buffer s t ≢ []))
    ⊎ ((q : ℕ) × (q < lines_of p) × (queue s q ≢ []))

-- what thread t's instructions weigh, all of them
unfoldable pub program_weight : Program → ℕ → ℕ
program_weight p t = weigh code_weight (part (t * most_instructions) (count_at p t) p.code)

-- "Where operation 9 occurs": here it does not
unfoldable pub Uncompared : Program → Type 0
Uncompared p = (t i : ℕ) → i < count_at p t → (instruction_at p t i).operation ≢ compare

-- "every step lowers the work left by one, but a failed compare by two"
unfoldable pub fails_at : Program → State → Step → Bool
fails_at p s k =
    both (eqb k.code issue)
    (fails p s k.thread.0 (instruction_at p k.thread.0 (issued_of s k.thread.0)))

unfoldable pub cost_if : Bool → ℕ
cost_if failed = pick failed 2 1

unfoldable pub cost : Program → State → Step → ℕ
cost p s k = cost_if (fails_at p s k)

-- "the number of its failures"
unfoldable pub failures_from : Program → State → List Step → ℕ
failures_from p s [] = 0
failures_from p s (k ∷ ks) = pick (fails_at p s k) 1 0 + failures_from p (next_of p s k) ks

unfoldable pub failures_of : Program → List Step → ℕ
failures_of p ks = failures_from p (start_of p) ks
