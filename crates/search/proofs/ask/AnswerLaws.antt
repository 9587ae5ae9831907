-- An answer, over any model and what is decided of it: 31, else told and stored. As the code has it: what is sought
-- among some runs. Assumes nothing.
use Prim.Native.Nat.{ℕ, ◌*◌, ◌<◌, ◌≤◌}
use mathlib.Core.Path.{◌≡◌, refl, sym, ap, ◌∙◌}
use mathlib.Core.Logic.{◌≢◌, ◌↔◌}
use mathlib.Core.Bool.{true, false}
use mathlib.Core.List.{List, ◌++◌}
use lib.ListN.{length, drop}
use borrow.Author.Tests.{ltb-false, le-ltb}
use native.Mathlib.Omega.{arith}
use Rattle.cases.specs.declared.case.Step.{Step}
use Rattle.cases.specs.Sizes.{longest, step_size}
use Rattle.cases.specs.Seats.{steps_bytes}
use Rattle.cases.proofs.ChoiceLaws.{pick_true, pick_false, pick_cases, pick_pair}
use Rattle.cases.proofs.ArrayLaws.{sets_front}
use Rattle.cases.proofs.Promises.{steps_bytes_length}
use Rattle.machine.specs.Model.{Model, full_length}
use Rattle.search.specs.declared.walk.Walked.{Walked}
use Rattle.search.specs.declared.ask.Outcome.{Outcome}
use Rattle.search.specs.declared.ask.Outcome.TheVariants.{Reached, Unreachable, Undecided, Refused}
use Rattle.search.specs.Question.{Decided, reached, unreachable, undecided, outcome_no, outcome_place, told_of}
use Rattle.search.specs.Question.{short, answer_by, shown_by, shown_after}
use Rattle.search.specs.Seek.{Sought, hit, done, used_up, walked_of, walked_outcome, stored_of}
use Rattle.search.proofs.seek.SeekLaws.{comes_to}

-- what is told of what is sought, and what is stored of it where the run has room
told_sought : (x : Sought Step) → walked_outcome (walked_of 0 x) ≡ told_of (comes_to x)
unfolding walked_of told_of
told_sought (hit run) = ap Reached (omega arith)
told_sought (done b) = refl
told_sought used_up = refl

stored_sought : (x : Sought Step) (out : List ℕ)
    → ((run : List Step) → x ≡ hit run → step_size * length run ≤ length out)
    → stored_of 0 x out ≡ shown_by (comes_to x) out
unfolding stored_of shown_by
stored_sought (hit run) out room =
    let long = steps_bytes_length run in
    let fits = room run refl in
    sets_front out (steps_bytes run) (omega arith) ∙ ap (λ m. steps_bytes run ++ drop m out) long
stored_sought (done b) out room = refl
stored_sought used_up out room = refl

-- a buffer that is not too short
pub roomy : {S K : Type 0} (m : Model S K) (room : ℕ) → short m room ≡ false → step_size * full_length m ≤ room
unfolding short
roomy m room h = ltb-false room (step_size * full_length m) h

module _ {S : Type 0} (m : Model S Step) (out : List ℕ) where
  abbrev pub Answers : Decided Step → Outcome → List ℕ → Type 0
  Answers d o last = (o ≡ answer_by m (length out) d) × (last ≡ shown_after m d out)

  -- the buffer is too short
  pub answer_short : (d : Decided Step) → short m (length out) ≡ true → Answers d (Refused 31 0) out
  unfolding answer_by shown_after
  answer_short d h = (sym (pick_true _ _ _ h), sym (pick_true _ _ _ h))

  -- it is not: w is the walk's answer, and x what it comes to, no longer than the full length
  pub answer_sought : (d : Decided Step) (x : Sought Step) → d ≡ comes_to x
      → short m (length out) ≡ false
      → ((run : List Step) → x ≡ hit run → length run ≤ full_length m)
      → (w : Walked) (last : List ℕ) → (w ≡ walked_of 0 x) × (last ≡ stored_of 0 x out)
      → (o : Outcome) → o ≡ walked_outcome w
      → Answers d o last
  unfolding answer_by shown_after
  answer_sought d x d_is h few w last left o o_is =
      let room = roomy m (length out) h in
      let told = o_is ∙ ap walked_outcome left.0 ∙ told_sought x ∙ ap told_of (sym d_is) in
      let stored = left.1
      ∙ stored_sought x out (λ run e. let f = few run e in omega arith)
      ∙ ap (λ y. shown_by y out) (sym d_is) in
      (told ∙ sym (pick_false _ _ _ h), stored ∙ sym (pick_false _ _ _ h))

-- told_of, back
told_reached : (d : Decided Step) (n : ℕ) → told_of d ≡ Reached n
    → (run : List Step) × (d ≡ reached run) × (n ≡ length run)
unfolding told_of
told_reached (reached run) n e = let same : length run ≡ n = cc in (run, refl, sym same)
told_reached unreachable n e = absurd (let z : ◌≡◌ {A = ℕ} 0 1 = cc in omega arith)
told_reached undecided n e = absurd (let z : ◌≡◌ {A = ℕ} 0 1 = cc in omega arith)

told_unreachable : (d : Decided Step) → told_of d ≡ Unreachable → d ≡ unreachable
unfolding told_of
told_unreachable (reached run) e = absurd (let z : ◌≡◌ {A = ℕ} 0 1 = cc in omega arith)
told_unreachable unreachable e = refl
told_unreachable undecided e = absurd (let z : ◌≡◌ {A = ℕ} 0 1 = cc in omega arith)

told_undecided : (d : Decided Step) → told_of d ≡ Undecided → d ≡ undecided
unfolding told_of
told_undecided (reached run) e = absurd (let z : ◌≡◌ {A = ℕ} 0 1 = cc in omega arith)
told_undecided unreachable e = absurd (let z : ◌≡◌ {A = ℕ} 0 1 = cc in omega arith)
told_undecided undecided e = refl

-- where the run has room: each answer exactly when it is what is decided, and the run that is shown
module _ {S : Type 0} (m : Model S Step) (room : ℕ) (h : step_size * full_length m ≤ room) (d : Decided Step) where
  told : answer_by m room d ≡ told_of d
  unfolding answer_by short
  told = pick_false _ _ _ (le-ltb _ _ h)

  pub answer_reached : (n : ℕ)
      → (answer_by m room d ≡ Reached n) ↔ ((run : List Step) × (d ≡ reached run) × (n ≡ length run))
  unfolding told_of
  answer_reached n = (
    (λ e. told_reached d n (sym told ∙ e)),
    (λ e. told ∙ ap told_of e.1 ∙ ap Reached (sym e.2)),
  )

  pub answer_unreachable : (answer_by m room d ≡ Unreachable) ↔ (d ≡ unreachable)
  unfolding told_of
  answer_unreachable = ((λ e. told_unreachable d (sym told ∙ e)), (λ e. told ∙ ap told_of e))

  pub answer_undecided : (answer_by m room d ≡ Undecided) ↔ (d ≡ undecided)
  unfolding told_of
  answer_undecided = ((λ e. told_undecided d (sym told ∙ e)), (λ e. told ∙ ap told_of e))

  pub answer_shown : (out : List ℕ) → length out ≡ room → (run : List Step) → d ≡ reached run
      → shown_after m d out ≡ steps_bytes run ++ drop (step_size * length run) out
  unfolding shown_after short shown_by
  answer_shown out long run e =
      pick_false _ _ _ (le-ltb (length out) (step_size * full_length m) (omega arith)) ∙ ap (λ y. shown_by y out) e

-- an answer and the bytes beside it: stored only where the number is 100
abbrev pub Stores : List ℕ → Outcome → List ℕ → Type 0
Stores out o last = outcome_no o ≢ 100 → last ≡ out

told_stores : (out : List ℕ) (d : Decided Step) → Stores out (told_of d) (shown_by d out)
unfolding told_of shown_by
told_stores out (reached run) n = absurd (n refl)
told_stores out unreachable n = refl
told_stores out undecided n = refl

pub answer_stores : {S : Type 0} (m : Model S Step) (d : Decided Step) (out : List ℕ)
    → Stores out (answer_by m (length out) d) (shown_after m d out)
unfolding answer_by shown_after
answer_stores m d out =
    pick_pair (Stores out) (short m (length out)) _ _ _ _ (λ n. refl) (told_stores out d)

-- the number is below 256, and the place at most the longest file's length
abbrev pub Low : Outcome → Type 0
Low o = (outcome_no o < 256) × (outcome_place o ≤ longest)

told_low : (d : Decided Step) → ((run : List Step) → d ≡ reached run → length run ≤ longest) → Low (told_of d)
unfolding told_of
told_low (reached run) f = (omega arith, f run refl)
told_low unreachable f = (omega arith, omega arith)
told_low undecided f = (omega arith, omega arith)

pub answer_low : {S : Type 0} (m : Model S Step) (room : ℕ) (d : Decided Step)
    → ((run : List Step) → d ≡ reached run → length run ≤ longest)
    → Low (answer_by m room d)
unfolding answer_by
answer_low m room d few =
    pick_cases Low (short m room) _ _ (λ k. (omega arith, omega arith)) (λ k. told_low d few)
