-- What the question says of bytes that read, from what the budget decides. Assumes nothing.
use Prim.Native.Nat.{ℕ, ◌*◌, ◌≤◌, ◌<◌}
use mathlib.Core.Path.{◌≡◌, refl, sym, ap, subst, ◌∙◌}
use mathlib.Core.Logic.{◌↔◌}
use mathlib.Core.List.{List, [], ◌++◌}
use lib.ListN.{length, take, drop}
use Rattle.cases.specs.declared.case.Step.{Step}
use Rattle.cases.specs.Bytes.{IsBytes}
use Rattle.cases.specs.Draft.{run_with, with_run}
use Rattle.cases.specs.Reading.{number_of, read_of}
use Rattle.cases.specs.Seats.{encode_of, steps_bytes}
use Rattle.cases.specs.Sizes.{step_size}
use Rattle.machine.specs.declared.cells.State.{State}
use Rattle.machine.specs.declared.runs.Verdict.TheVariants.{Legal}
use Rattle.machine.specs.Model.{full_length}
use Rattle.machine.specs.Judge.{judge_bytes}
use Rattle.machine.specs.Ptso.{ptso}
use Rattle.search.specs.declared.ask.Outcome.TheVariants.{Reached, Unreachable, Undecided}
use Rattle.search.specs.Walk.{Visit, walk_from}
use Rattle.search.specs.Question.{reaches, None, FirstThat, question_of, shown_of}
use Rattle.search.proofs.Promises as Search

module _ (s : List ℕ) (read : number_of (read_of s).answer ≡ 0) (b : ℕ) (out : List ℕ)
    (room : step_size * full_length (ptso (read_of s).case.program) ≤ length out) where
  pub reached_exactly : (n : ℕ)
      → (question_of s (length out) b ≡ Reached n)
      ↔ ((before : List (Visit State Step)) × (v : Visit State Step)
      × FirstThat (reaches (read_of s).case.ask) (walk_from (ptso (read_of s).case.program)) before v
      × (length before < b)
      × (n ≡ length v.run))
  reached_exactly n = (
    (λ e.
        let r = (Search.question_reached s b out read room n).0 e in
        let f = (Search.reached_exactly (ptso (read_of s).case.program) (reaches (read_of s).case.ask) b
        r.0).0 r.1 in
        (f.0, f.1, f.2, f.3, r.2 ∙ ap length (sym f.4))),
    (λ f.
        let a = (Search.reached_exactly (ptso (read_of s).case.program) (reaches (read_of s).case.ask) b
        f.1.run).1
        (f.0, f.1, f.2, f.3, refl) in
        (Search.question_reached s b out read room n).1 (f.1.run, a, f.4)),
  )

  pub reached_shows_the_run : (before : List (Visit State Step)) (v : Visit State Step)
      → FirstThat (reaches (read_of s).case.ask) (walk_from (ptso (read_of s).case.program)) before v
      → length before < b
      → shown_of s b out ≡ steps_bytes v.run ++ drop (step_size * length v.run) out
  reached_shows_the_run before v first covered =
      Search.shown_run s b out read room v.run
      ((Search.reached_exactly (ptso (read_of s).case.program) (reaches (read_of s).case.ask) b v.run).1
      (before, v, first, covered, refl))

  pub unreachable_exactly :
      (question_of s (length out) b ≡ Unreachable)
      ↔ ((length (walk_from (ptso (read_of s).case.program)) ≤ b)
      × None (reaches (read_of s).case.ask) (walk_from (ptso (read_of s).case.program)))
  unreachable_exactly =
      let q = Search.question_unreachable s b out read room in
      let a = Search.unreachable_exactly (ptso (read_of s).case.program) (reaches (read_of s).case.ask) b in
      ((λ e. a.0 (q.0 e)), (λ h. q.1 (a.1 h)))

  pub undecided_exactly :
      (question_of s (length out) b ≡ Undecided)
      ↔ ((b < length (walk_from (ptso (read_of s).case.program)))
      × None (reaches (read_of s).case.ask) (take b (walk_from (ptso (read_of s).case.program))))
  undecided_exactly =
      let q = Search.question_undecided s b out read room in
      let a = Search.undecided_exactly (ptso (read_of s).case.program) (reaches (read_of s).case.ask) b in
      ((λ e. a.0 (q.0 e)), (λ h. q.1 (a.1 h)))

module _ (s : List ℕ) (bytes : IsBytes s) (read : number_of (read_of s).answer ≡ 0) (b : ℕ) (out : List ℕ)
    (room : step_size * full_length (ptso (read_of s).case.program) ≤ length out) where
  pub reached_passes : (n : ℕ) → question_of s (length out) b ≡ Reached n
      → (judge_bytes
      (encode_of (with_run (read_of s).case (run_with [])) ++ take (step_size * n) (shown_of s b out))).verdict
      ≡ Legal n
  reached_passes n e =
      let r = (Search.question_reached s b out read room n).0 e in
      subst (λ (m : ℕ). (judge_bytes
      (encode_of (with_run (read_of s).case (run_with [])) ++ take (step_size * m) (shown_of s b out))).verdict
      ≡ Legal m)
      (sym r.2) (Search.stored_passes s bytes read b out room r.0 r.1)
