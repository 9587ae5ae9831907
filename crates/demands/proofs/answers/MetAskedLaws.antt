-- The distinct states of a case that can be read, two of them being one where they hold the same; and what is answered
-- of bytes that read, from what the first so many of them decide. Assumes nothing.
use Prim.Native.Nat.{ℕ, ◌+◌, ◌*◌, ◌≤◌, ◌<◌}
use mathlib.Core.Path.{◌≡◌, refl, sym, ap, subst, ◌∙◌}
use mathlib.Core.Logic.{◌↔◌}
use mathlib.Core.Bool.{true}
use mathlib.Core.List.{List, [], ◌∷◌, ◌++◌}
use lib.ListN.{length, take, drop}
use native.Mathlib.Omega.{arith}
use Rattle.cases.specs.declared.case.Step.{Step}
use Rattle.cases.specs.declared.case.Case.{Case}
use Rattle.cases.specs.Bytes.{IsBytes}
use Rattle.cases.specs.Draft.{run_with, with_run}
use Rattle.cases.specs.Reading.{number_of, read_of}
use Rattle.cases.specs.Seats.{encode_of, steps_bytes}
use Rattle.cases.specs.Sizes.{step_size}
use Rattle.cases.specs.Writing.{reads_back}
use Rattle.machine.specs.declared.cells.State.{State}
use Rattle.machine.specs.declared.runs.Verdict.TheVariants.{Legal}
use Rattle.machine.specs.Fit.{Fits}
use Rattle.machine.specs.Model.{Lawful, full_length, Leads, Faultless, Listed}
use Rattle.machine.specs.Next.{rank_of}
use Rattle.machine.specs.Rules.{start_of}
use Rattle.machine.specs.Judge.{judge_bytes}
use Rattle.machine.specs.Ptso.{ptso}
use Rattle.machine.proofs.lists.ListedLaws.{listed_left, listed_right}
use Rattle.machine.proofs.Promises.{case_lawful, leads_fits}
use Rattle.search.specs.declared.ask.Outcome.TheVariants.{Reached, Unreachable, Undecided}
use Rattle.search.specs.Walk.{Visit, walk_from}
use Rattle.search.specs.Question.{reaches, None, FirstThat}
use Rattle.search.specs.Lanes.{lanes_of, Alike}
use Rattle.search.specs.Remember.{distinct_of, recall_of, covers_of, recall_for, remember_of, recalled_of}
use Rattle.search.proofs.Promises.{walk_exact, alike_exactly}
use Rattle.search.proofs.Recalled as Recalled

module _ (c : Case) (readable : reads_back c ≡ true) where
  laws : Lawful (ptso c.program) (Fits c.program) rank_of
  laws = case_lawful c readable

  abbrev met : List (Visit State Step)
  met = distinct_of (ptso c.program) (lanes_of c.program)

  -- the ends of legal runs fit
  leads_fit : (ks : List Step) (u : State)
      → Faultless (ptso c.program) ks × Leads (ptso c.program) (start_of c.program) ks u
      → Fits c.program u
  leads_fit ks u r = leads_fits (ptso c.program) laws (start_of c.program) ks u laws.starts r.0 r.1

  walk_fits : (v : Visit State Step) → Listed v (walk_from (ptso c.program)) → Fits c.program v.end
  walk_fits v on =
      leads_fit v.run v.end ((walk_exact (ptso c.program) laws v.run v.end).0 on)

  met_fits : (v : Visit State Step) → Listed v met → Fits c.program v.end
  met_fits = Recalled.distinct_fits (ptso c.program) (lanes_of c.program) laws

  pub met_first : (v : Visit State Step) → Listed v met
      → (before : List (Visit State Step)) × (after : List (Visit State Step))
      × (walk_from (ptso c.program) ≡ before ++ v ∷ after)
      × ((w : Visit State Step) → Listed w before → Alike c.program w.end v.end → ⊥)
  met_first v on =
      let d = Recalled.distinct_first (ptso c.program) (lanes_of c.program) v on in (
        d.0,
        d.1,
        d.2,
        (λ w h same. d.3 w h
            ((alike_exactly c.program w.end v.end
            (walk_fits w (subst (Listed w) (sym d.2) (listed_left w d.0 (v ∷ d.1) h)))
            (met_fits v on)).1 same)),
      )

  pub met_all : (ks : List Step) (u : State)
      → Faultless (ptso c.program) ks
      → Leads (ptso c.program) (start_of c.program) ks u
      → (v : Visit State Step) × Listed v met × Alike c.program v.end u
  met_all ks u faultless leads =
      let d = Recalled.distinct_all (ptso c.program) (lanes_of c.program) laws ks u faultless leads in
      let same = alike_exactly c.program d.0.end u (met_fits d.0 d.1)
      (leads_fit ks u (faultless, leads)) in
      (d.0, d.1, same.0 d.2)

  pub met_once : (xs ys : List (Visit State Step)) → met ≡ xs ++ ys
      → (v w : Visit State Step) → Listed v xs → Listed w ys → Alike c.program v.end w.end → ⊥
  met_once xs ys e v w on behind same =
      Recalled.distinct_once (ptso c.program) (lanes_of c.program) xs ys e v w on behind
      ((alike_exactly c.program v.end w.end
      (met_fits v (subst (Listed v) (sym e) (listed_left v xs ys on)))
      (met_fits w (subst (Listed w) (sym e) (listed_right w xs ys behind)))).1 same)

module _ (s : List ℕ) (read : number_of (read_of s).answer ≡ 0) (words b : ℕ) (out : List ℕ)
    (room : step_size * full_length (ptso (read_of s).case.program) ≤ length out) where
  pub met_reached : (n : ℕ)
      → ((remember_of s (length out) words b).outcome ≡ Reached n)
      ↔ ((before : List (Visit State Step)) × (v : Visit State Step)
      × FirstThat (reaches (read_of s).case.ask)
      (distinct_of (ptso (read_of s).case.program) (lanes_of (read_of s).case.program)) before v
      × (length before < covers_of words b)
      × (n ≡ length v.run))
  unfolding recall_for
  met_reached n =
      let q = Recalled.remember_reached s (length out) words b read room n in
      let a = Recalled.recall_reached_exactly (ptso (read_of s).case.program) (lanes_of (read_of s).case.program)
      (reaches (read_of s).case.ask) (covers_of words b) in (
        (λ e.
            let r = q.0 e in
            let f = (a r.0).0 r.1 in
            (f.0, f.1, f.2, f.3, r.2 ∙ ap length (sym f.4))),
        (λ f. q.1 (f.1.run, (a f.1.run).1 (f.0, f.1, f.2, f.3, refl), f.4)),
      )

  pub met_shows_the_run : (before : List (Visit State Step)) (v : Visit State Step)
      → FirstThat (reaches (read_of s).case.ask)
      (distinct_of (ptso (read_of s).case.program) (lanes_of (read_of s).case.program)) before v
      → length before < covers_of words b
      → recalled_of s words b out ≡ steps_bytes v.run ++ drop (step_size * length v.run) out
  unfolding recall_for
  met_shows_the_run before v first covered =
      Recalled.recalled_run s words b out read room v.run
      ((Recalled.recall_reached_exactly (ptso (read_of s).case.program) (lanes_of (read_of s).case.program)
      (reaches (read_of s).case.ask) (covers_of words b) v.run).1
      (before, v, first, covered, refl))

  pub met_passes : IsBytes s → (n : ℕ) → (remember_of s (length out) words b).outcome ≡ Reached n
      → (judge_bytes
      (encode_of (with_run (read_of s).case (run_with [])) ++ take (step_size * n) (recalled_of s words b out))).verdict
      ≡ Legal n
  met_passes bytes n e =
      let r = (Recalled.remember_reached s (length out) words b read room n).0 e in
      subst (λ (m : ℕ). (judge_bytes
      (encode_of (with_run (read_of s).case (run_with [])) ++ take (step_size * m) (recalled_of s words b out))).verdict
      ≡ Legal m)
      (sym r.2) (Recalled.recalled_passes s words b out bytes read room r.0 r.1)

  pub met_unreachable :
      ((remember_of s (length out) words b).outcome ≡ Unreachable)
      ↔ ((length (distinct_of (ptso (read_of s).case.program) (lanes_of (read_of s).case.program))
      ≤ covers_of words b)
      × None (reaches (read_of s).case.ask)
      (distinct_of (ptso (read_of s).case.program) (lanes_of (read_of s).case.program)))
  unfolding recall_for
  met_unreachable =
      let q = Recalled.remember_unreachable s (length out) words b read room in
      let a = Recalled.recall_unreachable_exactly (ptso (read_of s).case.program) (lanes_of (read_of s).case.program)
      (reaches (read_of s).case.ask) (covers_of words b) in
      ((λ e. a.0 (q.0 e)), (λ h. q.1 (a.1 h)))

  pub met_states : (remember_of s (length out) words b).outcome ≡ Unreachable
      → (remember_of s (length out) words b).states
      ≡ length (distinct_of (ptso (read_of s).case.program) (lanes_of (read_of s).case.program))
  met_states e =
      Recalled.remember_states s (length out) words b read room
      ((Recalled.remember_unreachable s (length out) words b read room).0 e)

  pub met_undecided :
      ((remember_of s (length out) words b).outcome ≡ Undecided)
      ↔ ((covers_of words b
      < length (distinct_of (ptso (read_of s).case.program) (lanes_of (read_of s).case.program)))
      × None (reaches (read_of s).case.ask)
      (take (covers_of words b) (distinct_of (ptso (read_of s).case.program) (lanes_of (read_of s).case.program))))
  unfolding recall_for
  met_undecided =
      let q = Recalled.remember_undecided s (length out) words b read room in
      let a = Recalled.recall_undecided_exactly (ptso (read_of s).case.program) (lanes_of (read_of s).case.program)
      (reaches (read_of s).case.ask) (covers_of words b) in
      ((λ e. a.0 (q.0 e)), (λ h. q.1 (a.1 h)))

  -- one state less than decides
  pub met_one_less : (before : List (Visit State Step)) (v : Visit State Step)
      → FirstThat (reaches (read_of s).case.ask)
      (distinct_of (ptso (read_of s).case.program) (lanes_of (read_of s).case.program)) before v
      → covers_of words b ≡ length before
      → (remember_of s (length out) words b).outcome ≡ Undecided
  unfolding recall_for
  met_one_less before v first less =
      (Recalled.remember_undecided s (length out) words b read room).1
      (ap (recall_of (ptso (read_of s).case.program) (lanes_of (read_of s).case.program)
      (reaches (read_of s).case.ask)) less
      ∙ Recalled.recall_one_less (ptso (read_of s).case.program) (lanes_of (read_of s).case.program)
      (reaches (read_of s).case.ask) before v first)

  pub met_last_less :
      None (reaches (read_of s).case.ask)
      (distinct_of (ptso (read_of s).case.program) (lanes_of (read_of s).case.program))
      → covers_of words b + 1
      ≡ length (distinct_of (ptso (read_of s).case.program) (lanes_of (read_of s).case.program))
      → (remember_of s (length out) words b).outcome ≡ Undecided
  unfolding recall_for
  met_last_less none less =
      (Recalled.remember_undecided s (length out) words b read room).1
      (Recalled.recall_few_undecided (ptso (read_of s).case.program) (lanes_of (read_of s).case.program)
      (reaches (read_of s).case.ask) (covers_of words b) (omega arith) none)
