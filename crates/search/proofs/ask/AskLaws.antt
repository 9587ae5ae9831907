-- The question's code: 31, then what the walk leaves. Assumes nothing.
use Prim.Native.Nat.{ℕ, suc, ◌*◌, ◌-◌, ◌<◌, ◌≤◌}
use mathlib.Core.Path.{◌≡◌, refl, sym, ap, subst, ◌∙◌}
use mathlib.Core.Logic.{◌≢◌, inl}
use mathlib.Core.Bool.{Bool, false}
use mathlib.Core.List.{List, ◌∷◌}
use lib.Dec.{ltb}
use lib.ListN.{length}
use borrow.Author.Tests.{eq-eqb, ne_eqb, lt-ltb}
use native.Mathlib.Omega.{arith}
use Rattle.cases.specs.declared.case.Step.{Step}
use Rattle.cases.specs.declared.case.Program.{Program}
use Rattle.cases.specs.declared.case.Ask.{Ask}
use Rattle.cases.specs.declared.reader.Reading.{Reading}
use Rattle.cases.specs.Sizes.{step_size}
use Rattle.machine.specs.Sizes.{most_work}
use Rattle.cases.specs.Reading.{number_of, offset_of, read_of}
use Rattle.cases.proofs.ChoiceLaws.{pick_true, pick_false}
use Rattle.cases.proofs.Promises.{read_ranged}
use Rattle.machine.specs.declared.cells.State.{State}
use Rattle.machine.specs.Rules.{start_of}
use Rattle.cases.specs.Ranges.{ProgramFits}
use Rattle.machine.specs.Fit.{Fits}
use Rattle.machine.specs.Work.{work}
use Rattle.machine.specs.Model.{Model, Lawful, full_length, Listed}
use Rattle.machine.specs.Ptso.{ptso}
use Rattle.machine.proofs.Promises.{ptso_lawful, start_fits, full_length_most, start_together}
use Rattle.machine.proofs.Promises.{instructions_most}
use Rattle.search.specs.declared.walk.Walked.{Walked}
use Rattle.search.specs.declared.ask.Outcome.{Outcome}
use Rattle.search.specs.declared.ask.Outcome.TheVariants.{Refused}
use Rattle.search.specs.Walk.{Visit, walk, walk_of, walk_from}
use Rattle.search.specs.Question.{reaches, reached, short, FirstThat, ask_of, answer_for, question_of, shown_for}
use Rattle.search.specs.Question.{shown_of}
use Rattle.search.specs.Seek.{Sought, hit, seek, walked_of, walked_outcome, stored_of}
use Rattle.search.specs.Lanes.{lanes_of}
use Rattle.search.specs.Listing.{listing_of}
use Rattle.search.specs.Taken.{padded, lanes_machine, reaches_lanes}
use Rattle.search.specs.Held.{AskWithin, Held}
use Rattle.machine.proofs.lists.ListedLaws.{listed_right}
use Rattle.search.proofs.walk.WalkModelLaws.{walk_short}
use Rattle.search.proofs.walk.WalkLanesLaws.{seek_lanes}
use Rattle.search.proofs.seek.SeekLaws.{comes_to, seek_decides}
use Rattle.search.proofs.seek.BudgetLaws.{budget_reached_is}
use Rattle.search.proofs.ask.AnswerLaws.{Answers, answer_short, answer_sought}

-- the first that reaches is on the list
pub ask_first_on : {S K : Type 0} (test : S → Bool) (vs before : List (Visit S K)) (v : Visit S K)
    → FirstThat test vs before v → Listed v vs
unfolding Listed
ask_first_on test vs before v f =
    subst (Listed v) (sym f.stands) (listed_right v before (v ∷ f.after) (inl refl))

-- the walk may begin at the start
module _ (p : Program) (fits : ProgramFits p) (s : State) (s_is : s ≡ start_of p) where
  pub ask_start_fits : Fits p s
  ask_start_fits = rw s_is (start_fits p fits)

  pub ask_start_few : work p s ≤ most_work
  unfolding full_length
  ask_start_few = rw s_is (full_length_most p fits)

  -- what the code tests is the definition's test
  pub short_made : (room w : ℕ) → w ≡ work p s → ltb room (step_size * w) ≡ short (ptso p) room
  unfolding short full_length
  short_made room w w_is = rw (w_is, s_is) refl

-- a run that reaches is no longer than the full length
pub reached_short : {S K : Type 0} (m : Model S K) {Fit : S → Type 0} {rank : K → ℕ} → Lawful m Fit rank
    → (test : S → Bool) (b : ℕ) (run : List K) → ask_of m test b ≡ reached run
    → length run ≤ full_length m
unfolding ask_of walk_from full_length
reached_short m laws test b run e =
    let r = budget_reached_is test b (walk_of m m.start) run e in
    let on = ask_first_on test (walk_of m m.start) r.0 r.1 r.2 in
    let w = walk_short m laws m.start laws.starts r.1.run r.1.end on in
    let l = ap length r.4 in
    omega arith

module _ (p : Program) (fits : ProgramFits p) (a : Ask) (b : ℕ) where
  sought_is : (x : Sought Step) → seek (reaches a) b (walk_of (ptso p) (start_of p)) ≡ x
      → ask_of (ptso p) (reaches a) b ≡ comes_to x
  unfolding ask_of walk_from
  sought_is x e = sym (seek_decides (reaches a) b (walk_of (ptso p) (start_of p))) ∙ ap comes_to e

  abbrev sought_start : Sought Step
  sought_start = seek (reaches a) b (walk_of (ptso p) (start_of p))

  -- the buffer is too short; s is the start, w its work
  pub ask_short : (s : State) → s ≡ start_of p → (w : ℕ) → w ≡ work p s → (out : List ℕ) → length out < step_size * w
      → Answers (ptso p) out (ask_of (ptso p) (reaches a) b) (Refused 31 0) out
  ask_short s s_is w w_is out h =
      answer_short (ptso p) out (ask_of (ptso p) (reaches a) b)
      (sym (short_made p fits s s_is (length out) w w_is) ∙ lt-ltb (length out) (step_size * w) h)

  module _ (out : List ℕ) where
    -- what is sought over the lanes x of the listing c, and what the walk leaves there
    abbrev sought_over : List ℕ → List ℕ → Sought Step
    sought_over c x =
        seek (reaches_lanes c a.wanted a.want a.passed) b (walk (lanes_machine c) (suc (most_work - 0)) x)

    abbrev LeavesOver : List ℕ → List ℕ → Walked → List ℕ → Type 0
    LeavesOver c x r last = (r ≡ walked_of 0 (sought_over c x)) × (last ≡ stored_of 0 (sought_over c x) out)

    -- the walk may begin with the start's lanes, and what it leaves over lanes is what it leaves over states
    module _ (within : AskWithin p a) (c x : List ℕ) (c_is : c ≡ listing_of p)
        (x_is : x ≡ padded (lanes_of p (start_of p))) where
      pub ask_held : step_size * full_length (ptso p) ≤ length out → Held c x 0 (length out)
      unfolding full_length
      ask_held h =
          let deep = full_length_most p fits in
          let begun = start_together p fits in
          let most = instructions_most p fits in
          record {
            program = p;
            state = start_of p;
            fits = start_fits p fits;
            few = omega arith;
            listed = c_is;
            laid = x_is;
            deep = omega arith;
            roomy = omega arith;
          }

      same_sought : sought_over c x ≡ sought_start
      unfolding full_length
      same_sought =
          let begun = start_together p fits in
          let most = instructions_most p fits in
          rw (c_is, x_is)
          (seek_lanes p fits a within (start_of p) (start_fits p fits) (omega arith) (full_length_most p fits) b)

      ask_walked : (r : Walked) (last : List ℕ) → LeavesOver c x r last
          → (r ≡ walked_of 0 sought_start) × (last ≡ stored_of 0 sought_start out)
      ask_walked r last left =
          (left.0 ∙ ap (walked_of 0) same_sought, left.1 ∙ ap (λ y. stored_of 0 y out) same_sought)

    -- the buffer is not too short: r is what the walk leaves, and what it comes to is told
    pub ask_told : short (ptso p) (length out) ≡ false → AskWithin p a
        → (c x : List ℕ) → c ≡ listing_of p → x ≡ padded (lanes_of p (start_of p))
        → (r : Walked) (last : List ℕ) → LeavesOver c x r last
        → (o : Outcome) → o ≡ walked_outcome r
        → Answers (ptso p) out (ask_of (ptso p) (reaches a) b) o last
    ask_told h within c x c_is x_is r last over =
        answer_sought (ptso p) out (ask_of (ptso p) (reaches a) b) sought_start (sought_is sought_start refl) h
        (λ run e. reached_short (ptso p) (ptso_lawful p fits) (reaches a) b run (sought_is (hit run) e))
        r last (ask_walked within c x c_is x_is r last over)

-- the bytes s read as r, with the number n: reading is refused, or gives a case
module _ (s : List ℕ) (r : Reading) (r_is : r ≡ read_of s) (n : ℕ) (n_is : n ≡ number_of r.answer) where
  number_is : n ≡ number_of (read_of s).answer
  number_is = n_is ∙ ap (λ (x : Reading). number_of x.answer) r_is

  pub ask_refused : (at : ℕ) → at ≡ offset_of r.answer → n ≢ 0 → (b : ℕ) (out : List ℕ)
      → (Refused n at ≡ question_of s (length out) b) × (out ≡ shown_of s b out)
  unfolding question_of shown_of
  ask_refused at e h b out =
      let t = ne_eqb (number_of (read_of s).answer) 0 (λ z. h (number_is ∙ z)) in
      let offset = e ∙ ap (λ (x : Reading). offset_of x.answer) r_is in
      let same : Refused n at ≡ Refused (number_of (read_of s).answer) (offset_of (read_of s).answer) =
      λ i. Refused (number_is i) (offset i) in
      (same ∙ sym (pick_false _ _ _ t), sym (pick_false _ _ _ t))

  module _ (h : n ≡ 0) where
    pub ask_fits : ProgramFits r.case.program × AskWithin r.case.program r.case.ask
    ask_fits =
        let ranged = read_ranged s (sym number_is ∙ h) in
        rw r_is (ranged.program, record { wants = ranged.wants; passed = ranged.passed })

    pub ask_read : (b : ℕ) (out : List ℕ) (o : Outcome) (last : List ℕ)
        → (o ≡ answer_for (ptso r.case.program) (reaches r.case.ask) (length out) b)
        × (last ≡ shown_for (ptso r.case.program) (reaches r.case.ask) b out)
        → (o ≡ question_of s (length out) b) × (last ≡ shown_of s b out)
    unfolding question_of shown_of
    ask_read b out o last e =
        let t = eq-eqb (number_of (read_of s).answer) 0 (sym number_is ∙ h) in
        let same = ap (λ (x : Reading). answer_for (ptso x.case.program) (reaches x.case.ask)
        (length out) b) r_is in
        let shown = ap (λ (x : Reading). shown_for (ptso x.case.program) (reaches x.case.ask) b out)
        r_is in
        (e.0 ∙ same ∙ sym (pick_true _ _ _ t), e.1 ∙ shown ∙ sym (pick_true _ _ _ t))
