-- A case while it is read: the case so far, the kind of the record before (0: none), and the least number that
-- may come next in that kind.
--   empty_case    "the fixed empty one: one thread, one location, no further records"
--   no_step       what stands in its array where the case has no step
--   line_table h, line_count h   on which line each location lies, and how many lines there are, by that record
--   with_header   the case with what the program's record says: its version, and with_sizes
--   with_sizes, with_first, with_instruction, with_want, with_passed, with_step
--                 a part of the case with what one record says
--   with_program, with_ask, with_run, with_version   a case with another such part, or another version
--   run_with ks   a run of the steps ks, as a case holds it
--   blank_draft   the draft before any record
--   add_of d r    the draft with the record r behind it
-- Assumes nothing.
use Rattle.std.specs.Prelude.{ℕ, ◌+◌, ◌-◌, ◌*◌, List, ◌++◌, true, false, length, replicate, set, eqb}
use Rattle.cases.specs.declared.case.Thread.{Thread}
use Rattle.cases.specs.declared.case.Write.{Write}
use Rattle.cases.specs.declared.case.Instruction.{Instruction}
use Rattle.cases.specs.declared.case.Step.{Step}
use Rattle.cases.specs.declared.case.Program.{Program}
use Rattle.cases.specs.declared.case.Ask.{Ask}
use Rattle.cases.specs.declared.case.Run.{Run}
use Rattle.cases.specs.declared.case.Case.{Case}
use Rattle.cases.specs.declared.draft.Draft.{Draft}
use Rattle.cases.specs.declared.record.Header.{Header}
use Rattle.cases.specs.declared.record.Record.{Record}
use Rattle.cases.specs.declared.record.Record.TheVariants.{Declare, First, Instruct, Want, Passed, Take}
use Rattle.cases.specs.Sizes.{most_threads, most_instructions, most_locations, most_steps, all_code}
use Rattle.cases.specs.Choice.{pick}
use Rattle.cases.specs.Lines.{own_version, own_lines, lines_in}
use Rattle.cases.specs.Record.{line_bytes}
use Rattle.cases.specs.Checks.{no_instruction, count_at}

abbrev pub no_step : Step
no_step = record { thread = record { 0 = 0 }; code = 0; position = 0; location = record { 0 = 0 } }

unfoldable pub empty_case : Case
empty_case =
    record {
      version = own_version;
      program = record {
        threads = 1;
        locations = 1;
        lines = 1;
        line = replicate most_locations 0;
        first = replicate most_locations 0;
        counts = replicate most_threads 0;
        code = replicate all_code no_instruction;
      };
      ask = record {
        wanted = replicate most_locations false;
        want = replicate most_locations 0;
        passed = replicate most_threads 0;
      };
      run = record { count = 0; steps = replicate most_steps no_step };
    }

-- "Version 1 means a line each."
unfoldable pub line_table : Header → List ℕ
line_table h = pick (eqb h.version own_version) (own_lines h.locations) h.line

unfoldable pub line_count : Header → ℕ
line_count h = pick (eqb h.version own_version) h.locations (lines_in 0 (line_bytes h))

unfoldable pub with_sizes : Program → Header → Program
with_sizes p h =
    record {
      threads = h.threads;
      locations = h.locations;
      lines = line_count h;
      line = line_table h;
      first = p.first;
      counts = p.counts;
      code = p.code;
    }

unfoldable pub with_first : Program → Write → Program
with_first p w =
    record {
      threads = p.threads;
      locations = p.locations;
      lines = p.lines;
      line = p.line;
      first = set p.first w.location.0 w.word;
      counts = p.counts;
      code = p.code;
    }

-- behind its thread's others (instruction_at)
unfoldable pub with_instruction : Program → Thread → Instruction → Program
with_instruction p t x =
    record {
      threads = p.threads;
      locations = p.locations;
      lines = p.lines;
      line = p.line;
      first = p.first;
      counts = set p.counts t.0 (count_at p t.0 + 1);
      code = set p.code (t.0 * most_instructions + count_at p t.0) x;
    }

unfoldable pub with_want : Ask → Write → Ask
with_want a w =
    record {
      wanted = set a.wanted w.location.0 true;
      want = set a.want w.location.0 w.word;
      passed = a.passed;
    }

unfoldable pub with_passed : Ask → Thread → ℕ → Ask
with_passed a t n = record { wanted = a.wanted; want = a.want; passed = set a.passed t.0 n }

unfoldable pub with_step : Run → Step → Run
with_step r k = record { count = r.count + 1; steps = set r.steps r.count k }

unfoldable pub run_with : List Step → Run
run_with ks = record { count = length ks; steps = ks ++ replicate (most_steps - length ks) no_step }

unfoldable pub with_program : Case → Program → Case
with_program c p = record { version = c.version; program = p; ask = c.ask; run = c.run }

unfoldable pub with_ask : Case → Ask → Case
with_ask c a = record { version = c.version; program = c.program; ask = a; run = c.run }

unfoldable pub with_run : Case → Run → Case
with_run c r = record { version = c.version; program = c.program; ask = c.ask; run = r }

unfoldable pub with_version : Case → ℕ → Case
with_version c v = record { version = v; program = c.program; ask = c.ask; run = c.run }

unfoldable pub with_header : Case → Header → Case
with_header c h =
    record { version = h.version; program = with_sizes c.program h; ask = c.ask; run = c.run }

unfoldable pub blank_draft : Draft
blank_draft = record { case = empty_case; kind = 0; next = 0 }

unfoldable pub add_of : Draft → Record → Draft
add_of d (Declare h) = record { case = with_header d.case h; kind = 1; next = 0 }
add_of d (First w) =
    record {
      case = with_program d.case (with_first d.case.program w);
      kind = 2;
      next = w.location.0 + 1;
    }
add_of d (Instruct t x) =
    record { case = with_program d.case (with_instruction d.case.program t x); kind = 3; next = t.0 }
add_of d (Want w) =
    record { case = with_ask d.case (with_want d.case.ask w); kind = 4; next = w.location.0 + 1 }
add_of d (Passed t n) =
    record { case = with_ask d.case (with_passed d.case.ask t n); kind = 5; next = t.0 + 1 }
add_of d (Take k) =
    record { case = with_run d.case (with_step d.case.run k); kind = 6; next = 0 }
