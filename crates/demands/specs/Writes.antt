-- Demand 3's words about writes: "the last write, in program order, of one of the threads that write it". Which
-- instruction that is, the program says; the word that it writes, the run: no queue and no buffer is looked at.
-- Document 02, P5: "the last write that some thread really made there": whether a compare writes, the run says too.
--   writes x l              the instruction x writes location l, a compare where it succeeds
--   writes_at p t l i       instruction i of thread t does
--   really p s t x          x makes its write, as thread t issues it in the state s; makes p s t x l: to location l
--   fixed_by s t x          the word that it fixes as thread t issues it in the state s
--   issues_at s k t i       the step k, taken in the state s, issues instruction i of thread t
--   at_issue p f d s ks t i   what f says of the state in which the run ks from s issues instruction i of thread t
--   fixed_from p s ks t i   the word that instruction i of thread t fixes in the run ks from the state s
--   fixed_of p ks t i       the same from the start
--   made_from p s ks t l i  that instruction really makes a write to location l in the run ks from the state s
--   made_of p ks t l i      the same from the start
--   Writer p t l            thread t writes location l: one of its instructions does
--   LastOf m n i            i is the last below n of which m is true
--   LastWrite p t l i       instruction i of thread t is its last, in program order, that writes location l
--   LastMade p ks t l i     instruction i of thread t is its last, in program order, that really made a write there
--   Unwritten p l           no instruction of any thread writes location l
--   NoneMade p ks l         none really made a write there in the run ks
--   Alone p t l             no instruction of another thread than t writes location l
-- Assumes nothing.
use Rattle.std.specs.Prelude.{ℕ, ◌<◌, ◌≡◌, ◌≢◌, Bool, true, false, List, [], ◌∷◌, eqb}
use Rattle.cases.specs.declared.case.Instruction.{Instruction}
use Rattle.cases.specs.declared.case.Step.{Step}
use Rattle.cases.specs.declared.case.Program.{Program}
use Rattle.cases.specs.Operations.{store_word, store_register, exchange, compare, issue}
use Rattle.cases.specs.Choice.{pick, both, either}
use Rattle.cases.specs.Checks.{count_at, instruction_at}
use Rattle.machine.specs.declared.cells.State.{State}
use Rattle.machine.specs.View.{register_in, issued_of}
use Rattle.machine.specs.Rules.{next_of, start_of}
use Rattle.machine.specs.Joins.{swaps}

-- store word, store register, exchange, compare: these have a location that they write
unfoldable pub is_write : ℕ → Bool
is_write op =
    either (eqb op store_word) (either (eqb op store_register) (either (eqb op exchange) (eqb op compare)))

unfoldable pub writes : Instruction → ℕ → Bool
writes x l = both (is_write x.operation) (eqb x.location.0 l)

unfoldable pub writes_at : Program → ℕ → ℕ → ℕ → Bool
writes_at p t l i = writes (instruction_at p t i) l

-- "really made": a store that was issued; an exchange, or a compare that succeeded
unfoldable pub really : Program → State → ℕ → Instruction → Bool
really p s t x =
    either (eqb x.operation store_word) (either (eqb x.operation store_register) (swaps p s t x))

unfoldable pub makes : Program → State → ℕ → Instruction → ℕ → Bool
makes p s t x l = both (really p s t x) (eqb x.location.0 l)

-- "Stores fix their word now": a store of a register what it holds; a store of a word, an exchange and a compare
-- their own word
unfoldable pub fixed_by : State → ℕ → Instruction → ℕ
fixed_by s t x = pick (eqb x.operation store_register) (register_in s.registers t x.register.0) x.word

unfoldable pub issues_at : State → Step → ℕ → ℕ → Bool
issues_at s k t i = both (eqb k.code issue) (both (eqb k.thread.0 t) (eqb (issued_of s t) i))

-- d where the run doesn't issue it
unfoldable pub at_issue : {A : Type 0} → Program → (State → A) → A → State → List Step → ℕ → ℕ → A
at_issue p f d s [] t i = d
at_issue p f d s (k ∷ ks) t i = pick (issues_at s k t i) (f s) (at_issue p f d (next_of p s k) ks t i)

unfoldable pub fixed_from : Program → State → List Step → ℕ → ℕ → ℕ
fixed_from p s ks t i = at_issue p (λ u. fixed_by u t (instruction_at p t i)) 0 s ks t i

unfoldable pub fixed_of : Program → List Step → ℕ → ℕ → ℕ
fixed_of p ks t i = fixed_from p (start_of p) ks t i

unfoldable pub made_from : Program → State → List Step → ℕ → ℕ → ℕ → Bool
made_from p s ks t l i = at_issue p (λ u. makes p u t (instruction_at p t i) l) false s ks t i

unfoldable pub made_of : Program → List Step → ℕ → ℕ → ℕ → Bool
made_of p ks t l i = made_from p (start_of p) ks t l i

unfoldable pub Writer : Program → ℕ → ℕ → Type 0
Writer p t l = (i : ℕ) × (i < count_at p t) × (writes_at p t l i ≡ true)

pub record LastOf (m : ℕ → Bool) (n i : ℕ) : Type 0 where
  pub there : i < n
  pub writing : m i ≡ true
  pub last : (j : ℕ) → i < j → j < n → m j ≡ false

abbrev pub LastWrite : Program → ℕ → ℕ → ℕ → Type 0
LastWrite p t l i = LastOf (writes_at p t l) (count_at p t) i

abbrev pub LastMade : Program → List Step → ℕ → ℕ → ℕ → Type 0
LastMade p ks t l i = LastOf (made_of p ks t l) (count_at p t) i

unfoldable pub Unwritten : Program → ℕ → Type 0
Unwritten p l = (t i : ℕ) → i < count_at p t → writes_at p t l i ≡ false

unfoldable pub NoneMade : Program → List Step → ℕ → Type 0
NoneMade p ks l = (t i : ℕ) → i < count_at p t → made_of p ks t l i ≡ false

unfoldable pub Alone : Program → ℕ → ℕ → Type 0
Alone p t l = (k i : ℕ) → k ≢ t → i < count_at p k → writes_at p k l i ≡ false
