-- Laws of packing: a low answer and its place fit one 32-bit number and come out of it again; and what the code
-- packs is what the definitions pack. Assumes nothing.
use Prim.Native.Nat.{ℕ, ◌+◌, ◌*◌, ◌^◌, ◌<◌, ◌≤◌}
use mathlib.Core.Path.{◌≡◌, ap, ◌∙◌}
use mathlib.Core.List.{List}
use native.Mathlib.Omega.{arith}
use Rattle.cases.specs.Sizes.{most_locations, longest}
use Rattle.machine.specs.declared.blocker.Blocker.{Blocker}
use Rattle.machine.specs.declared.blocker.Blocker.TheVariants.{InBuffer, InQueue, NoEntry}
use Rattle.machine.specs.declared.runs.Judged.{Judged}
use Rattle.machine.specs.Sizes.{room}
use Rattle.machine.specs.Blocker.{blocker_which, blocker_number, blocker_position}
use Rattle.machine.specs.Judge.{verdict_no, verdict_place, verdict_blocker, judge_bytes}
use Rattle.machine.proofs.Promises.{verdict_low}
use Rattle.search.specs.declared.ask.Outcome.{Outcome}
use Rattle.search.specs.declared.distinct.Remembered.{Remembered}
use Rattle.search.specs.Question.{outcome_no, outcome_place, question_of}
use Rattle.search.specs.Remember.{remember_of}
use Rattle.search.proofs.Promises.{question_low, remember_low}
use Rattle.host.specs.Host.{packed_of, unpacked_no, unpacked_place, judge_packed, place_packed, unpacked_which}
use Rattle.host.specs.Host.{unpacked_one, unpacked_position, blocker_packed, question_packed}
use Rattle.host.specs.Host.{remember_packed, counted_packed}

module _ (number place : ℕ) (low : (number < 256) × (place ≤ longest)) where
  pub pack_fits : packed_of number place < 2 ^ 32
  unfolding packed_of
  pack_fits = omega (arith, low.0, low.1)

  pub pack_unpacks :
      (unpacked_no (packed_of number place) ≡ number) × (unpacked_place (packed_of number place) ≡ place)
  unfolding packed_of unpacked_no unpacked_place
  pack_unpacks = (omega (arith, low.0), omega (arith, low.0))

-- the same of the place of an entry
module _ (b : Blocker) (low : (blocker_number b < most_locations) × (blocker_position b < room)) where
  which_low : (d : Blocker) → blocker_which d ≤ 2
  which_low (InBuffer t i) = omega arith
  which_low (InQueue q i) = omega arith
  which_low NoEntry = omega arith

  pub place_fits : place_packed b < 2 ^ 32
  unfolding place_packed
  place_fits = omega (arith, which_low b, low.0, low.1)

  pub place_unpacks :
      (unpacked_which (place_packed b) ≡ blocker_which b)
      × (unpacked_one (place_packed b) ≡ blocker_number b)
      × (unpacked_position (place_packed b) ≡ blocker_position b)
  unfolding place_packed unpacked_which unpacked_one unpacked_position
  place_unpacks =
      let w = which_low b in
      (omega (arith, low.0, low.1), omega (arith, low.0, low.1), omega (arith, low.0, low.1))

-- the judge's: j is its answer, `at` its place
module _ (s : List ℕ) (j : Judged) (j_is : j ≡ judge_bytes s) (at : ℕ)
    (at_is : at ≡ verdict_place j.verdict) where
  pub verdict_fits : at < 2 ^ 24
  verdict_fits =
      let e = at_is ∙ ap (λ (x : Judged). verdict_place x.verdict) j_is in
      omega (arith, (verdict_low s).1)

  pub verdict_packs : (n : ℕ) → n ≡ verdict_no j.verdict → (r : ℕ) → r ≡ packed_of n at → r ≡ judge_packed s
  unfolding judge_packed
  verdict_packs n n_is r e = rw (e, n_is, at_is, j_is)

-- the judge's blocker: j is its answer, b the entry that is named
pub blocker_packs : (s : List ℕ) (j : Judged) → j ≡ judge_bytes s → (b : Blocker) → b ≡ verdict_blocker j.verdict
    → (r : ℕ) → r ≡ place_packed b → r ≡ blocker_packed s
unfolding blocker_packed
blocker_packs s j j_is b b_is r e = rw (e, b_is, j_is)

-- the question's: o is its answer, `at` its place
module _ (s : List ℕ) (room b : ℕ) (o : Outcome) (o_is : o ≡ question_of s room b) (at : ℕ)
    (at_is : at ≡ outcome_place o) where
  pub outcome_fits : at < 2 ^ 24
  outcome_fits =
      let e = at_is ∙ ap outcome_place o_is in
      omega (arith, (question_low s room b).1)

  pub outcome_packs : (n : ℕ) → n ≡ outcome_no o → (r : ℕ) → r ≡ packed_of n at → r ≡ question_packed s room b
  unfolding question_packed
  outcome_packs n n_is r e = rw (e, n_is, at_is, o_is)

-- the engine's that remembers: m is what it gives, `at` the place of its answer
module _ (s : List ℕ) (room words b : ℕ) (m : Remembered) (m_is : m ≡ remember_of s room words b) (at : ℕ)
    (at_is : at ≡ outcome_place m.outcome) where
  pub remember_fits : at < 2 ^ 24
  remember_fits =
      let e = at_is ∙ ap (λ (x : Remembered). outcome_place x.outcome) m_is in
      omega (arith, (remember_low s room words b).1)

  pub remember_packs : (n : ℕ) → n ≡ outcome_no m.outcome → (r : ℕ) → r ≡ packed_of n at
      → r ≡ remember_packed s room words b
  unfolding remember_packed
  remember_packs n n_is r e = rw (e, n_is, at_is, m_is)

  pub counted_packs : (n : ℕ) → n ≡ outcome_no m.outcome → (r : ℕ) → r ≡ packed_of n at
      → r + 4294967296 * m.states ≡ counted_packed s room words b
  unfolding counted_packed
  counted_packs n n_is r e =
      λ i. remember_packs n n_is r e i + 4294967296 * (m_is i).states
