-- Document 01, "Sizes" and "Records of a case": what a layer above may take for granted of every case that some
-- byte string reads as.
--   ProgramSized p, AskSized a, RunSized r   how long the arrays are, and how much they hold at most
--   InstructionFits p x   the instruction's numbers are there, used or not
--   HasOwnLines p         every location has a line of its own
--   ProgramFits p         the program's numbers are in range: what the machine takes for granted of one
--   RegistersSet p        no instruction needs a register that nothing before it sets
--   Ranged c              every number of the case is in range, and every register that it needs is set
-- Assumes nothing.
use Rattle.std.specs.Prelude.{ℕ, ◌<◌, ◌≤◌, ◌≡◌, true, false, length, get_or}
use Rattle.cases.specs.declared.case.Case.{Case}
use Rattle.cases.specs.declared.case.Program.{Program}
use Rattle.cases.specs.declared.case.Ask.{Ask}
use Rattle.cases.specs.declared.case.Run.{Run}
use Rattle.cases.specs.declared.case.Instruction.{Instruction}
use Rattle.cases.specs.Sizes.{most_threads, most_instructions, most_locations, most_registers, most_steps}
use Rattle.cases.specs.Sizes.{all_code}
use Rattle.cases.specs.Operations.{first_operation, last_operation}
use Rattle.cases.specs.Lines.{own_version, own_lines}
use Rattle.cases.specs.Checks.{count_at, instruction_at, needs_register, set_before, limits_of, step_fault}
use Rattle.cases.specs.Draft.{no_step}

-- the arrays are as long as their types say, which a list alone doesn't
pub record ProgramSized (p : Program) : Type 0 where
  pub line_long : length p.line ≡ most_locations
  pub first_long : length p.first ≡ most_locations
  pub counts_long : length p.counts ≡ most_threads
  pub code_long : length p.code ≡ all_code
  pub few_threads : p.threads ≤ most_threads
  pub few_locations : p.locations ≤ most_locations
  pub few_lines : p.lines ≤ most_locations
  pub few_instructions : (t : ℕ) → count_at p t ≤ most_instructions

unfoldable pub HasOwnLines : Program → Type 0
HasOwnLines p = (p.lines ≡ p.locations) × (p.line ≡ own_lines p.locations)

pub record AskSized (a : Ask) : Type 0 where
  pub wanted_long : length a.wanted ≡ most_locations
  pub want_long : length a.want ≡ most_locations
  pub passed_long : length a.passed ≡ most_threads

pub record RunSized (r : Run) : Type 0 where
  pub steps_long : length r.steps ≡ most_steps
  pub few_steps : r.count ≤ most_steps

pub record InstructionFits (p : Program) (x : Instruction) : Type 0 where
  pub some_operation : first_operation ≤ x.operation
  pub low_operation : x.operation ≤ last_operation
  pub low_location : x.location.0 < p.locations
  pub low_register : x.register.0 < most_registers

-- every location that there is room for lies on a line of the program
pub record ProgramFits (p : Program) : Type 0 where
  pub sized : ProgramSized p
  pub lines : (l : ℕ) → l < most_locations → get_or p.line l 0 < p.lines
  pub instructions : (t i : ℕ) → i < count_at p t
      → (t < p.threads) × InstructionFits p (instruction_at p t i)

-- every register that an instruction needs is set by one before it in its thread
unfoldable pub RegistersSet : Program → Type 0
RegistersSet p = (t i : ℕ) → i < count_at p t → needs_register (instruction_at p t i).operation ≡ true
    → set_before p t (instruction_at p t i).register.0 i ≡ true

pub record Ranged (c : Case) : Type 0 where
  pub program : ProgramFits c.program
  pub registers : RegistersSet c.program
  pub ask : AskSized c.ask
  pub run : RunSized c.run
  pub lines_own : c.version ≡ own_version → HasOwnLines c.program
  pub some_threads : 1 ≤ c.program.threads
  pub some_locations : 1 ≤ c.program.locations
  pub wants : (l : ℕ) → get_or c.ask.wanted l false ≡ true → l < c.program.locations
  pub passed : (t : ℕ) → get_or c.ask.passed t 0 ≤ count_at c.program t
  pub steps : (k : ℕ) → k < c.run.count
      → step_fault (limits_of c.program) (get_or c.run.steps k no_step) ≡ 0
