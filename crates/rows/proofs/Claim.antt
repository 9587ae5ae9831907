-- What is proved of document 01's rows: one claim about the whole table, and what it tells of each row. Assumes
-- nothing.
use Prim.Native.Nat.{ℕ, ◌≤◌}
use mathlib.Core.Path.{◌≡◌, refl}
use mathlib.Core.Logic.{inl, inr}
use mathlib.Core.List.{List, [], ◌∷◌, ◌++◌, map}
use lib.ListN.{length, drop}
use Rattle.cases.specs.Record.{bytes_of}
use Rattle.cases.specs.Seats.{steps_bytes}
use Rattle.cases.proofs.Computing.{reading_computes, bytes_compute}
use Rattle.machine.specs.Model.{Listed}
use Rattle.machine.proofs.Computing.{work_computes, judging_computes}
use Rattle.search.specs.declared.ask.Outcome.TheVariants.{Reached, Undecided}
use Rattle.search.specs.Question.{told_of, question_of, shown_by, shown_of}
use Rattle.search.proofs.Computing.{asking_computes}
use Rattle.rows.specs.Words.{y, issue, move, persist}
use Rattle.rows.specs.Row.{Row, said, due, Fact}
use Rattle.rows.specs.Table.{outage, outage_bytes, table}
use Rattle.rows.proofs.FactLaws.{listed_same, said_fact}

-- what the layers' definitions say of the rows is what the rows say, by computation
pub claim : map said table ≡ map due table
unfolding reading_computes bytes_compute work_computes judging_computes asking_computes table said due
claim = refl

-- so each row's fact holds
pub row_fact : (r : Row) → Listed r table → Fact r
row_fact r h = said_fact r (listed_same said due r table claim h)

-- "The second row's case, whole (50 bytes)"
pub outage_bytes_lem : bytes_of outage ≡ outage_bytes
unfolding bytes_compute
outage_bytes_lem = refl

-- its fact as a caller meets it: with room for 6 steps, "budget 8 reached, 7 undecided", and the run that 01
-- prints stands in the lent bytes
pub outage_reached : (out : List ℕ) → 48 ≤ length out
    → (question_of outage_bytes (length out) 8 ≡ Reached 5)
    × (shown_of outage_bytes 8 out
    ≡ steps_bytes (issue 0 ∷ issue 0 ∷ move 0 0 ∷ move 0 0 ∷ persist y ∷ []) ++ drop 40 out)
unfolding table Listed Fact told_of shown_by
outage_reached out room = rw (← outage_bytes_lem) ((row_fact _ (inr (inr (inl refl)))).1 out room)

pub outage_undecided : (out : List ℕ) → 48 ≤ length out
    → (question_of outage_bytes (length out) 7 ≡ Undecided) × (shown_of outage_bytes 7 out ≡ out)
unfolding table Listed Fact told_of shown_by
outage_undecided out room = rw (← outage_bytes_lem) ((row_fact _ (inr (inr (inr (inl refl))))).1 out room)
