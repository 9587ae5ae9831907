-- Persists of its line take an entry of a queue away: one for each that stands before it, and one for itself. Assumes
-- nothing.
use Prim.Native.Nat.{ℕ, zero, suc, ◌-◌}
use mathlib.Core.Path.{◌≡◌, refl, ap, ◌∙◌}
use mathlib.Core.List.{List}
use native.Mathlib.Omega.{arith}
use borrow.Author.Tests.{eq-eqb, ne_eqb}
use lib.ListN.{replicate}
use Rattle.cases.specs.declared.case.Line.{Line}
use Rattle.cases.specs.declared.case.Step.{Step}
use Rattle.cases.specs.declared.case.Program.{Program}
use Rattle.cases.specs.Choice.{pick, both}
use Rattle.machine.specs.declared.cells.State.{State}
use Rattle.machine.specs.declared.blocker.Blocker.TheVariants.{InQueue, NoEntry}
use Rattle.machine.specs.View.{Slot, queue}
use Rattle.machine.specs.Rules.{next_of}
use Rattle.machine.specs.Fit.{Fits}
use Rattle.machine.specs.Model.{Leads, Faultless}
use Rattle.machine.specs.Next.{persist_step}
use Rattle.machine.specs.Ptso.{ptso}
use Rattle.machine.specs.InTheWay.{StandsAt, left_by, left_at, persisted_by}
use Rattle.machine.proofs.blocker.BrokenLaws.{queue_low}
use Rattle.machine.proofs.blocker.NamedLaws.{queued_persists}
use Rattle.machine.proofs.blocker.LeftStepLaws.{left_queue_step}
use Rattle.machine.proofs.blocker.KeptLaws.{fits_next}

-- one persist takes the oldest, and brings another one forward
away_taken : (q : Line) → left_by (persist_step q.0) (InQueue q 0) ≡ NoEntry
unfolding left_by persisted_by both pick
away_taken q = rw (eq-eqb q.0 q.0 refl) refl

away_forward : (q : Line) (n : ℕ) → left_by (persist_step q.0) (InQueue q (suc n)) ≡ InQueue q n
unfolding left_by persisted_by both pick
away_forward q n =
    let less : suc n - 1 ≡ n = omega arith in
    rw (eq-eqb q.0 q.0 refl, ne_eqb (suc n) 0 (λ z. omega arith), less) refl

-- so many of them
abbrev pub persists_of : ℕ → ℕ → List Step
persists_of q n = replicate n (persist_step q)

pub away_persisted : (p : Program) (q : Line) (h : Slot) (n : ℕ) (s : State) → Fits p s → StandsAt (queue s q.0) n h
    → (u : State) × Faultless (ptso p) (persists_of q.0 (suc n))
    × Leads (ptso p) s (persists_of q.0 (suc n)) u
    × (left_at (persists_of q.0 (suc n)) (InQueue q n) ≡ NoEntry)
unfolding Faultless Leads left_at
away_persisted p q h zero s fit stands =
    let now = queued_persists p s fit q.0 0 h stands in
    (next_of p s (persist_step q.0), (now.1, tt), (now.2, refl), away_taken q)
away_persisted p q h (suc n) s fit stands =
    let now = queued_persists p s fit q.0 (suc n) h stands in
    let low = queue_low p s fit q.0 (suc n) h stands in
    let forward = left_queue_step p s fit (persist_step q.0) now.1 now.2 q (suc n) n h low stands
    (away_forward q n) in
    let rest = away_persisted p q h n (next_of p s (persist_step q.0))
    (fits_next p s fit (persist_step q.0) now.1 now.2) forward in
    let gone = ap (left_at (persists_of q.0 (suc n))) (away_forward q n) ∙ rest.3 in
    (rest.0, (now.1, rest.1), (now.2, rest.2), gone)
