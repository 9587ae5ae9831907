-- The code of the question over distinct states: where it begins, what it comes to, what it leaves. Assumes nothing.
use Prim.Native.Nat.{ℕ, ◌*◌, ◌-◌, ◌≤◌}
use mathlib.Core.Path.{◌≡◌, refl, sym, ap, subst, ◌∙◌}
use mathlib.Core.Logic.{◌≢◌}
use mathlib.Core.Bool.{Bool, true, false}
use mathlib.Core.List.{List, [], ◌∷◌, ◌++◌}
use lib.ListN.{length, drop, replicate}
use borrow.Author.Tests.{eq-eqb, ne_eqb}
use native.Mathlib.Omega.{arith}
use Rattle.cases.specs.declared.case.Step.{Step}
use Rattle.cases.specs.declared.case.Program.{Program}
use Rattle.cases.specs.declared.case.Ask.{Ask}
use Rattle.cases.specs.declared.reader.Reading.{Reading}
use Rattle.cases.specs.Sizes.{step_size}
use Rattle.cases.specs.Ranges.{ProgramFits}
use Rattle.cases.specs.Reading.{number_of, offset_of, read_of}
use Rattle.cases.proofs.ChoiceLaws.{pick_true, pick_false}
use Rattle.machine.specs.Rules.{start_of}
use Rattle.machine.specs.Model.{Model, Lawful, full_length}
use Rattle.machine.specs.Ptso.{ptso}
use Rattle.machine.proofs.Promises.{ptso_lawful, start_fits, full_length_most, start_together, instructions_most}
use Rattle.search.specs.declared.walk.Walked.{Walked}
use Rattle.search.specs.declared.walk.Walked.TheVariants.{Stopped}
use Rattle.search.specs.declared.ask.Outcome.{Outcome}
use Rattle.search.specs.declared.ask.Outcome.TheVariants.{Refused}
use Rattle.search.specs.declared.distinct.Remembered.{Remembered}
use Rattle.search.specs.Sizes.{state_words}
use Rattle.search.specs.Walk.{Visit, here, walk_from}
use Rattle.search.specs.Question.{reaches, Decided, reached, short, shown_after}
use Rattle.search.specs.Seek.{Sought, seek, walked_of, walked_outcome, stored_of}
use Rattle.search.specs.Lanes.{lanes_of}
use Rattle.search.specs.Listing.{listing_of}
use Rattle.search.specs.Taken.{padded}
use Rattle.search.specs.Held.{AskWithin, Held}
use Rattle.search.specs.Remember.{among, firsts, distinct_of, recall_of, states_of, covers_of, recall_for, remember_for}
use Rattle.search.specs.Remember.{remember_of, recalled_of, cleared_for, cleared_of}
use Rattle.search.specs.Table.{keys_in, Chained}
use Rattle.search.specs.Recall.{sought_new, states_walked}
use Rattle.search.proofs.seek.SeekLaws.{comes_to, seek_decides}
use Rattle.search.proofs.seek.BudgetLaws.{budget_reached_is}
use Rattle.search.proofs.ask.AnswerLaws.{answer_short, answer_sought}
use Rattle.search.proofs.ask.AskLaws.{ask_first_on, ask_held}
use Rattle.search.proofs.ask.QuestionLaws.{walk_first, walk_deep}
use Rattle.search.proofs.table.ClearLaws.{cleared_chained, cleared_all}
use Rattle.search.proofs.recall.FirstsLaws.{firsts_new}
use Rattle.search.proofs.recall.RecallLanesLaws.{seek_new}
use Rattle.search.proofs.distinct.DistinctLaws.{distinct_on}
use Rattle.search.proofs.distinct.LimitLaws.{covers_least, walked_states}

-- the start is the first of the distinct states
pub distinct_start : {S K : Type 0} (m : Model S K) (key : S → List ℕ)
    → (rest : List (Visit S K)) × (distinct_of m key ≡ here m.start ∷ rest)
unfolding distinct_of among
distinct_start m key =
    let w = walk_first m in (
      firsts key (key m.start ∷ []) w.0,
      ap (firsts key []) w.1 ∙ firsts_new key [] (here m.start) w.0 refl,
    )

-- a run that reaches is no longer than the full length
pub recalled_short : {S K : Type 0} (m : Model S K) {Fit : S → Type 0} {rank : K → ℕ} → Lawful m Fit rank
    → (key : S → List ℕ) (test : S → Bool) (n : ℕ) (run : List K) → recall_of m key test n ≡ reached run
    → length run ≤ full_length m
unfolding recall_of
recalled_short m laws key test n run e =
    let r = budget_reached_is test n (distinct_of m key) run e in
    let on = distinct_on m key r.1 (ask_first_on test (distinct_of m key) r.0 r.1 r.2) in
    let w = walk_deep m laws r.1.run r.1.end on in
    let l = ap length r.4 in
    omega arith

module _ (p : Program) (fits : ProgramFits p) (a : Ask) where
  abbrev sought_all : ℕ → Sought Step
  sought_all limit = seek (reaches a) limit (distinct_of (ptso p) (lanes_of p))

  -- no state is covered
  pub meet_none : (limit : ℕ) → limit ≡ 0 → (out : List ℕ)
      → (Stopped ≡ walked_of 0 (sought_all limit)) × (out ≡ stored_of 0 (sought_all limit) out)
  unfolding seek walked_of stored_of
  meet_none limit e out =
      let d = distinct_start (ptso p) (lanes_of p) in
      let s : sought_all limit ≡ seek (reaches a) 0 (here (start_of p) ∷ d.0) =
      λ i. seek (reaches a) (e i) (d.1 i) in
      (ap (walked_of 0) (sym s), ap (λ y. stored_of 0 y out) (sym s))

  -- the memory's heads are cleared: nothing is met, and the walk may begin with the start's lanes
  module _ (memory last : List ℕ) (limit : ℕ) (room : limit * state_words ≤ length memory)
      (last_is : last ≡ replicate limit 0 ++ drop limit memory) where
    none : 0 ≡ limit - limit
    none = omega arith

    pub meet_chained : Chained last limit (limit - limit)
    meet_chained =
        subst (Chained last limit) none (subst (λ y. Chained y limit 0) (sym last_is) (cleared_chained memory limit room))

    nothing : keys_in last limit (limit - limit) ≡ []
    unfolding keys_in
    nothing = sym (ap (keys_in last limit) none)

    module _ (within : AskWithin p a) (c x : List ℕ) (c_is : c ≡ listing_of p)
        (x_is : x ≡ padded (lanes_of p (start_of p))) where
      pub meet_held : (out : List ℕ) → step_size * full_length (ptso p) ≤ length out → Held c x 0 (length out)
      unfolding full_length
      meet_held out h =
          ask_held p fits a limit out within c x c_is x_is h

      meet_sought : sought_new c a.wanted a.want a.passed 0 limit (keys_in last limit (limit - limit)) x
          ≡ sought_all limit
      unfolding full_length distinct_of walk_from
      meet_sought =
          let begun = start_together p fits in
          let most = instructions_most p fits in
          ap (λ y. sought_new c a.wanted a.want a.passed 0 limit y x) nothing
          ∙ rw (c_is, x_is)
          (seek_new p fits a within (start_of p) (start_fits p fits) (omega arith) (full_length_most p fits) limit)

      -- what is sought over lanes is what is sought among the distinct states
      pub meet_walked : (r : Walked) (out run : List ℕ)
          → r ≡ walked_of 0
          (sought_new c a.wanted a.want a.passed 0 limit (keys_in last limit (limit - limit)) x)
          → run ≡ stored_of 0
          (sought_new c a.wanted a.want a.passed 0 limit (keys_in last limit (limit - limit)) x) out
          → (r ≡ walked_of 0 (sought_all limit)) × (run ≡ stored_of 0 (sought_all limit) out)
      meet_walked r out run e f =
          (e ∙ ap (walked_of 0) meet_sought, f ∙ ap (λ y. stored_of 0 y out) meet_sought)

  module _ (b : ℕ) (out memory : List ℕ) where
    abbrev decides : Decided Step
    decides = recall_for p a (length memory) b

    abbrev Leaves : Remembered → List ℕ → List ℕ → Type 0
    Leaves r run last =
        (r ≡ remember_for p a (length out) (length memory) b)
        × (run ≡ shown_after (ptso p) decides out)
        × (last ≡ cleared_for p (length out) memory)

    -- the buffer is too short
    pub remember_short : short (ptso p) (length out) ≡ true
        → Leaves (record { outcome = Refused 31 0; states = 0 }) out memory
    unfolding remember_for cleared_for
    remember_short t =
        let x = answer_short (ptso p) out decides t in
        let y = sym (pick_true _ 0 (states_of decides (length (distinct_of (ptso p) (lanes_of p)))) t) in
        ((λ i. record { outcome = x.0 i; states = y i }), x.1, sym (pick_true _ _ _ t))

    -- it is not
    pub remember_covers : (limit : ℕ) → limit ≡ covers_of (length memory) b → limit * state_words ≤ length memory
    remember_covers limit e = let l = covers_least (length memory) b in rw e l.1

    pub remember_told : short (ptso p) (length out) ≡ false → (limit : ℕ) → limit ≡ covers_of (length memory) b
        → (walked : Walked) (run : List ℕ)
        → (walked ≡ walked_of 0 (sought_all limit)) × (run ≡ stored_of 0 (sought_all limit) out)
        → (o : Outcome) → o ≡ walked_outcome walked
        → (n : ℕ) → n ≡ states_walked limit walked
        → (used last : List ℕ) → length used ≡ length memory
        → last ≡ replicate (length memory) 0 ++ drop (length memory) used
        → Leaves (record { outcome = o; states = n }) run last
    unfolding remember_for cleared_for recall_for recall_of
    remember_told t limit limit_is walked run left o o_is n n_is used last long cleared =
        let d : decides ≡ comes_to (sought_all limit) =
        ap (recall_of (ptso p) (lanes_of p) (reaches a)) (sym limit_is)
        ∙ sym (seek_decides (reaches a) limit (distinct_of (ptso p) (lanes_of p))) in
        let x = answer_sought (ptso p) out decides (sought_all limit) d t
        (λ path f. recalled_short (ptso p) (ptso_lawful p fits) (lanes_of p) (reaches a)
        (covers_of (length memory) b) path (d ∙ ap comes_to f)) walked run left o o_is in
        let y = n_is
        ∙ walked_states (reaches a) limit (distinct_of (ptso p) (lanes_of p)) walked left.0
        ∙ ap (λ z. states_of z (length (distinct_of (ptso p) (lanes_of p)))) (sym d)
        ∙ sym (pick_false _ 0 _ t) in (
          (λ i. record { outcome = x.0 i; states = y i }),
          x.1,
          cleared ∙ cleared_all used (length memory) (sym long) ∙ ap (λ k. replicate k 0) long ∙ sym (pick_false _ _ _ t),
        )

-- the bytes s read as r, with the number n: reading is refused, or gives a case
module _ (s : List ℕ) (r : Reading) (r_is : r ≡ read_of s) (n : ℕ) (n_is : n ≡ number_of r.answer) where
  number_is : n ≡ number_of (read_of s).answer
  number_is = n_is ∙ ap (λ (x : Reading). number_of x.answer) r_is

  abbrev LeavesRead : ℕ → List ℕ → List ℕ → Remembered → List ℕ → List ℕ → Type 0
  LeavesRead b out memory o run last =
      (o ≡ remember_of s (length out) (length memory) b)
      × (run ≡ recalled_of s (length memory) b out)
      × (last ≡ cleared_of s (length out) memory)

  pub remember_refused : (at : ℕ) → at ≡ offset_of r.answer → n ≢ 0 → (b : ℕ) (out memory : List ℕ)
      → LeavesRead b out memory (record { outcome = Refused n at; states = 0 }) out memory
  unfolding remember_of recalled_of cleared_of
  remember_refused at e h b out memory =
      let t = ne_eqb (number_of (read_of s).answer) 0 (λ z. h (number_is ∙ z)) in
      let offset = e ∙ ap (λ (x : Reading). offset_of x.answer) r_is in (
        (λ i. record { outcome = Refused (number_is i) (offset i); states = 0 }) ∙ sym (pick_false _ _ _ t),
        sym (pick_false _ _ _ t),
        sym (pick_false _ _ _ t),
      )

  pub remember_read : n ≡ 0 → (b : ℕ) (out memory : List ℕ) (o : Remembered) (run last : List ℕ)
      → (o ≡ remember_for r.case.program r.case.ask (length out) (length memory) b)
      × (run ≡ shown_after (ptso r.case.program) (recall_for r.case.program r.case.ask (length memory) b) out)
      × (last ≡ cleared_for r.case.program (length out) memory)
      → LeavesRead b out memory o run last
  unfolding remember_of recalled_of cleared_of
  remember_read h b out memory o run last e =
      let t = eq-eqb (number_of (read_of s).answer) 0 (sym number_is ∙ h) in
      let told = ap (λ (x : Reading). remember_for x.case.program x.case.ask (length out) (length memory) b) r_is in
      let shown = ap (λ (x : Reading). shown_after (ptso x.case.program)
      (recall_for x.case.program x.case.ask (length memory) b) out) r_is in
      let cleared = ap (λ (x : Reading). cleared_for x.case.program (length out) memory) r_is in (
        e.0 ∙ told ∙ sym (pick_true _ _ _ t),
        e.1 ∙ shown ∙ sym (pick_true _ _ _ t),
        e.2 ∙ cleared ∙ sym (pick_true _ _ _ t),
      )
