-- Reading that succeeds, cut where the steps begin.
--   Stepless e c js   the case c is that of the draft e, which has no steps, with the steps js
--   Split d e js      the draft d is the draft e, where the steps begin, with the steps js behind it
--   Cut e c           some bytes lead from the draft e to where the steps of the case c begin
-- Assumes nothing.
use Prim.Native.Nat.{ℕ, zero, suc, ◌+◌, ◌<◌, ◌≤◌}
use mathlib.Core.Path.{◌≡◌, refl, sym, ap, ◌∙◌}
use mathlib.Core.Logic.{◌≢◌}
use mathlib.Core.List.{List, [], ◌∷◌, ◌++◌}
use lib.ListN.{take}
use lib.Dec.{eqb}
use borrow.Author.Tests.{eqb-false}
use native.Mathlib.Omega.{arith}
use Rattle.cases.specs.declared.case.Step.{Step}
use Rattle.cases.specs.declared.case.Case.{Case}
use Rattle.cases.specs.declared.draft.Draft.{Draft}
use Rattle.cases.specs.declared.record.Record.{Record}
use Rattle.cases.specs.declared.record.Record.TheVariants.{Declare, First, Instruct, Want, Passed, Take}
use Rattle.cases.specs.declared.reader.Reading.{Reading}
use Rattle.cases.specs.Bytes.{IsBytes}
use Rattle.cases.specs.Record.{kind_of, open_no, size_of}
use Rattle.cases.specs.Checks.{kind_rank, fault_of}
use Rattle.cases.specs.Draft.{run_with, with_run, with_step, add_of}
use Rattle.cases.specs.Reading.{number_of, refused_of, ended_of, read_from}
use Rattle.cases.proofs.ChoiceLaws.{pick_cases}
use Rattle.cases.proofs.bytes.BytesLaws.{bytes_drop, bytes_take, bytes_join}
use Rattle.cases.proofs.draft.DraftLaws.{rank_rises, draft_in_turn, step_behind, draft_kind, draft_run}
use Rattle.cases.proofs.draft.DraftLaws.{step_seated}
use Rattle.cases.proofs.parts.StepsLaws.{steps_run_more}
use Rattle.cases.proofs.reader.ReadLaws.{as_record, behind, read_cases}
use Rattle.cases.proofs.parts.GoesLaws.{Goes, goes_none, goes_one, goes_both, front_begins}

pub record Stepless (e : Draft) (c : Case) (js : List Step) : Type 0 where
  pub same : c ≡ with_run e.case (run_with js)
  pub none : e.case.run ≡ run_with []
  pub low : kind_rank e.kind ≤ kind_rank 6

-- where no step came yet, d is e itself
pub record Split (d e : Draft) (js : List Step) : Type 0 where
  pub parts : Stepless e d.case js
  pub begun : d.kind ≢ 0 → e.kind ≢ 0
  pub before : kind_rank d.kind < kind_rank 6 → e ≡ d

-- a draft without steps; a step more
pub split_none : (d : Draft) → d.case.run ≡ run_with [] → kind_rank d.kind ≤ kind_rank 6 → Split d d []
unfolding with_run
split_none d none low =
    record {
      parts = record { same = ap (with_run d.case) none; none = none; low = low };
      begun = λ z. z;
      before = λ z. refl;
    }

split_step : (d e : Draft) (js : List Step) (k : Step) → Split d e js → fault_of d (Take k) ≡ 0
    → Split (add_of d (Take k)) e (js ++ (k ∷ []))
unfolding add_of with_run run_with
split_step d e js k s f =
    let same = s.parts.same in
    let count = ap (λ (c : Case). c.run.count) same in
    let more = steps_run_more js k (omega (arith, step_seated d k f)) in
    record {
      parts = record {
        same = ap (λ (c : Case). with_run c (with_step c.run k)) same ∙ ap (with_run e.case) more;
        none = s.parts.none;
        low = s.parts.low;
      };
      begun = λ z. s.begun (step_behind d k f);
      before = λ z. absurd (omega arith);
    }

pub record Cut (e : Draft) (c : Case) : Type 0 where
  pub bytes : List ℕ
  pub are : IsBytes bytes
  pub last : Draft
  pub goes : Goes e bytes last
  pub begun : last.kind ≢ 0
  pub steps : List Step
  pub parts : Stepless last c steps

-- with some bytes more before
cut_before : (e f : Draft) (c : Case) (p : List ℕ) → Goes e p f → IsBytes p → Cut f c → Cut e c
cut_before e f c p g b k =
    record {
      bytes = p ++ k.bytes;
      are = bytes_join p k.bytes b k.are;
      last = k.last;
      goes = goes_both e f k.last p k.bytes g k.goes;
      begun = k.begun;
      steps = k.steps;
      parts = k.parts;
    }

-- Behind a split draft: the input ends; a step comes, or another record
module _ (d e : Draft) (js : List Step) (s : Split d e js) where
  cut_ended : (at : ℕ) → number_of (ended_of d at).answer ≡ 0 → Cut e (ended_of d at).case
  unfolding ended_of refused_of
  cut_ended at =
      pick_cases (λ (y : Reading). number_of y.answer ≡ 0 → Cut e y.case) (eqb d.kind 0) _ _
      (λ h q. absurd (omega arith))
      (λ h q. record {
        bytes = [];
        are = λ i. omega arith;
        last = e;
        goes = goes_none e;
        begun = s.begun (eqb-false d.kind 0 h);
        steps = js;
        parts = s.parts;
      })

  module _ (n at : ℕ) (t : List ℕ) (b : IsBytes t) (o : open_no t ≡ 0)
      (next : (d e : Draft) (js : List Step) → Split d e js
      → number_of (read_from n d at (behind t)).answer ≡ 0
      → Cut e (read_from n d at (behind t)).case) where
    abbrev after : Record → Reading
    after r = read_from n (add_of d r) at (behind t)

    cut_other : (r : Record) → as_record t ≡ r → fault_of d r ≡ 0
        → kind_rank (kind_of r) < kind_rank 6
        → number_of (after r).answer ≡ 0
        → Cut e (after r).case
    cut_other r is f low q =
        let same : e ≡ d = s.before (omega (arith, draft_in_turn d r f)) in
        let none = draft_run d r low ∙ ap (λ (x : Draft). x.case.run) (sym same) ∙ s.parts.none in
        let one = goes_one d (take (size_of t) t) r (rw is at (front_begins t o)) f in
        cut_before e (add_of d r) _ (take (size_of t) t) (rw same one) (bytes_take (size_of t) t b)
        (next (add_of d r) (add_of d r) [] (split_none _ none (rw (draft_kind d r) (omega arith))) q)

    cut_next : (r : Record) → as_record t ≡ r → fault_of d r ≡ 0 → number_of (after r).answer ≡ 0
        → Cut e (after r).case
    cut_next (Declare h) is f = cut_other (Declare h) is f (omega (arith, rank_rises))
    cut_next (First w) is f = cut_other (First w) is f (omega (arith, rank_rises))
    cut_next (Instruct u x) is f = cut_other (Instruct u x) is f (omega (arith, rank_rises))
    cut_next (Want w) is f = cut_other (Want w) is f (omega (arith, rank_rises))
    cut_next (Passed u m) is f = cut_other (Passed u m) is f (omega (arith, rank_rises))
    cut_next (Take k) is f = next (add_of d (Take k)) e (js ++ (k ∷ [])) (split_step d e js k s f)

-- reading that succeeds goes to the case without its steps
pub cut_from : (n : ℕ) (d e : Draft) (js : List Step) (at : ℕ) (t : List ℕ) → Split d e js → IsBytes t
    → number_of (read_from n d at t).answer ≡ 0
    → Cut e (read_from n d at t).case
unfolding read_from refused_of
cut_from zero d e js at t s b = λ q. absurd (omega arith)
cut_from (suc n) d e js at t s b =
    read_cases (λ (y : Reading). number_of y.answer ≡ 0 → Cut e y.case) n d at t
    (λ z. cut_ended d e js s at)
    (λ m z o q. absurd (omega arith))
    (λ m z o f q. absurd (omega arith))
    (λ z o f. cut_next d e js s n (at + size_of t) t b o (λ g h ks i.
    cut_from n g h ks (at + size_of t) (behind t) i (bytes_drop (size_of t) t b)) (as_record t) refl f)
