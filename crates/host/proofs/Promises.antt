-- What the C face promises: the packed numbers fit 32 bits, and the answer and its place, or the blocker's, come out of
-- them.
-- Each law is stated in full. Assumes nothing.
use Prim.Native.Nat.{ℕ, ◌^◌, ◌<◌}
use mathlib.Core.Path.{◌≡◌}
use mathlib.Core.List.{List}
use native.Mathlib.Omega.{arith}
use Rattle.machine.specs.Blocker.{blocker_which, blocker_number, blocker_position}
use Rattle.machine.specs.Judge.{verdict_no, verdict_place, verdict_blocker, judge_bytes}
use Rattle.machine.proofs.Promises.{verdict_low, verdict_blocker_low}
use Rattle.search.specs.Question.{outcome_no, outcome_place, question_of}
use Rattle.search.specs.Remember.{remember_of}
use Rattle.search.proofs.Promises.{question_low, remember_low}
use Rattle.host.specs.Host.{unpacked_no, unpacked_place, unpacked_which, unpacked_one, unpacked_position}
use Rattle.host.specs.Host.{judge_packed, blocker_packed, question_packed, remember_packed, counted_packed}
use Rattle.host.specs.Host.{uncounted_no, uncounted_states}
use Rattle.host.proofs.PackLaws.{pack_fits, pack_unpacks, place_fits, place_unpacks}

-- "It gets one 32-bit number": the judge's, for any bytes
module _ (s : List ℕ) where
  pub judge_packed_fits : judge_packed s < 2 ^ 32
  unfolding judge_packed
  judge_packed_fits = pack_fits _ _ (verdict_low s)

  -- "the answer plus 256 times its place": both can be told from it
  pub judge_unpacks :
      (unpacked_no (judge_packed s) ≡ verdict_no (judge_bytes s).verdict)
      × (unpacked_place (judge_packed s) ≡ verdict_place (judge_bytes s).verdict)
  unfolding judge_packed
  judge_unpacks = pack_unpacks _ _ (verdict_low s)

-- the judge's blocker, for any bytes
module _ (s : List ℕ) where
  pub blocker_packed_fits : blocker_packed s < 2 ^ 32
  unfolding blocker_packed
  blocker_packed_fits = place_fits _ (verdict_blocker_low s)

  -- a buffer, a queue or none; which one; and the position: each can be told from it
  pub blocker_unpacks :
      (unpacked_which (blocker_packed s) ≡ blocker_which (verdict_blocker (judge_bytes s).verdict))
      × (unpacked_one (blocker_packed s) ≡ blocker_number (verdict_blocker (judge_bytes s).verdict))
      × (unpacked_position (blocker_packed s) ≡ blocker_position (verdict_blocker (judge_bytes s).verdict))
  unfolding blocker_packed
  blocker_unpacks = place_unpacks _ (verdict_blocker_low s)

-- and the question's, for any bytes, any number of lent bytes and any budget
module _ (s : List ℕ) (room b : ℕ) where
  pub question_packed_fits : question_packed s room b < 2 ^ 32
  unfolding question_packed
  question_packed_fits = pack_fits _ _ (question_low s room b)

  pub question_unpacks :
      (unpacked_no (question_packed s room b) ≡ outcome_no (question_of s room b))
      × (unpacked_place (question_packed s room b) ≡ outcome_place (question_of s room b))
  unfolding question_packed
  question_unpacks = pack_unpacks _ _ (question_low s room b)

-- and that of the engine that remembers, with any number of lent words too
module _ (s : List ℕ) (room words b : ℕ) where
  pub remember_packed_fits : remember_packed s room words b < 2 ^ 32
  unfolding remember_packed
  remember_packed_fits = pack_fits _ _ (remember_low s room words b)

  pub remember_unpacks :
      (unpacked_no (remember_packed s room words b) ≡ outcome_no (remember_of s room words b).outcome)
      × (unpacked_place (remember_packed s room words b) ≡ outcome_place (remember_of s room words b).outcome)
  unfolding remember_packed
  remember_unpacks = pack_unpacks _ _ (remember_low s room words b)

  -- with the number of distinct states in its upper half
  pub counted_unpacks :
      (uncounted_no (counted_packed s room words b) ≡ remember_packed s room words b)
      × (uncounted_states (counted_packed s room words b) ≡ (remember_of s room words b).states)
  unfolding counted_packed uncounted_no uncounted_states
  counted_unpacks = let f = remember_packed_fits in (omega arith, omega arith)
