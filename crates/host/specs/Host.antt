-- Document 01, "The build host": "It gets one 32-bit number: the answer plus 256 times its place"; and document 02,
-- P4, where "the C host's number stays" and a second function gives the judge's blocker.
--   packed_of number place     an answer's number and its place, as one number
--   unpacked_no n              the number that is packed in n
--   unpacked_place n           and the place
--   judge_packed s             what the judge's call gets for the bytes s
--   place_packed b             the place of an entry, as one number
--   unpacked_which, unpacked_one, unpacked_position n   of that number: 1 for a buffer, 2 for a queue, 0 for none; which
--                              one; the position
--   blocker_packed s           what the call for the judge's blocker gets for the bytes s
--   question_packed s room b   what the question's call gets for the bytes s, `room` lent bytes, a budget b
--   remember_packed s room words b   what the call of the engine that remembers gets, with `words` lent words
--   counted_packed s room words b    the same, and in its upper half the number of distinct states
--   uncounted_no, uncounted_states n  of that number: the packed number, and how many distinct states
-- Assumes nothing.
use Rattle.std.specs.Prelude.{ℕ, ◌+◌, ◌*◌, ◌/◌, ◌%◌, List}
use Rattle.machine.specs.declared.blocker.Blocker.{Blocker}
use Rattle.machine.specs.Blocker.{blocker_which, blocker_number, blocker_position}
use Rattle.machine.specs.Judge.{verdict_no, verdict_place, verdict_blocker, judge_bytes}
use Rattle.search.specs.Question.{outcome_no, outcome_place, question_of}
use Rattle.search.specs.Remember.{remember_of}

unfoldable pub packed_of : ℕ → ℕ → ℕ
packed_of number place = number + 256 * place

unfoldable pub unpacked_no : ℕ → ℕ
unpacked_no n = n % 256

unfoldable pub unpacked_place : ℕ → ℕ
unpacked_place n = n / 256

unfoldable pub judge_packed : List ℕ → ℕ
judge_packed s = packed_of (verdict_no (judge_bytes s).verdict) (verdict_place (judge_bytes s).verdict)

-- P4: "1 for a buffer or 2 for a queue, plus 256 times which one, plus 65,536 times the position in it"; 0 where no
-- entry is named
unfoldable pub place_packed : Blocker → ℕ
place_packed b = blocker_which b + 256 * blocker_number b + 65536 * blocker_position b

unfoldable pub unpacked_which : ℕ → ℕ
unpacked_which n = n % 256

unfoldable pub unpacked_one : ℕ → ℕ
unpacked_one n = n / 256 % 256

unfoldable pub unpacked_position : ℕ → ℕ
unpacked_position n = n / 65536

unfoldable pub blocker_packed : List ℕ → ℕ
blocker_packed s = place_packed (verdict_blocker (judge_bytes s).verdict)

unfoldable pub question_packed : List ℕ → ℕ → ℕ → ℕ
question_packed s room b = packed_of (outcome_no (question_of s room b)) (outcome_place (question_of s room b))

-- P7: "the same packed number as the question"
unfoldable pub remember_packed : List ℕ → ℕ → ℕ → ℕ → ℕ
remember_packed s room words b =
    packed_of (outcome_no (remember_of s room words b).outcome) (outcome_place (remember_of s room words b).outcome)

-- 2 ^ 32 times the number of distinct states, where all were gone through and none reaches
unfoldable pub counted_packed : List ℕ → ℕ → ℕ → ℕ → ℕ
counted_packed s room words b = remember_packed s room words b + 4294967296 * (remember_of s room words b).states

unfoldable pub uncounted_no : ℕ → ℕ
uncounted_no n = n % 4294967296

unfoldable pub uncounted_states : ℕ → ℕ
uncounted_states n = n / 4294967296
