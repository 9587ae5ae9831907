-- How the code keeps the keys of states in lent words: a head for each bucket in front, then the records, oldest first.
-- A record has a link, the number of its lanes, and the lanes. A head and a link are a record's index and one more, or
-- 0; a link leads to an older record of the same bucket.
--   key_at m at            the lanes of the record at `at`
--   place_of limit j       where record j stands, behind `limit` heads
--   link_of, key_of m limit j   of record j: its link, its lanes
--   keys_in m limit n      the lanes of the first n records, the newest first
--   half, mixer            2 ^ 32; what mixes a lane in
--   folded h               both halves of a number of 64 bits, added
--   mixed h x              the number h with a lane more mixed in
--   mix_from a b c d xs    what the lanes xs mix to, each into the first of four numbers, which goes behind the others
--   bucket_of limit key    the bucket of a key
--   On m limit f x j       record j is met by following at most f links from x
--   Chained m limit n      n records stand in m, each on the chain of its bucket
-- Assumes nothing.
use Rattle.std.specs.Prelude.{ℕ, zero, suc, ◌+◌, ◌*◌, ◌-◌, ◌/◌, ◌%◌, ◌<◌, ◌≤◌, ◌≡◌, ◌⊎◌, List, [], ◌∷◌, length, get_or}
use Rattle.machine.specs.View.{part}
use Rattle.search.specs.Sizes.{most_lanes, record_words}

unfoldable pub key_at : List ℕ → ℕ → List ℕ
key_at m at = part (at + 2) (get_or m (at + 1) 0) m

abbrev pub place_of : ℕ → ℕ → ℕ
place_of limit j = limit + j * record_words

unfoldable pub link_of : List ℕ → ℕ → ℕ → ℕ
link_of m limit j = get_or m (place_of limit j) 0

unfoldable pub key_of : List ℕ → ℕ → ℕ → List ℕ
key_of m limit j = key_at m (place_of limit j)

unfoldable pub keys_in : List ℕ → ℕ → ℕ → List (List ℕ)
keys_in m limit zero = []
keys_in m limit (suc n) = key_of m limit n ∷ keys_in m limit n

abbrev pub half : ℕ
half = 4294967296

-- odd, and so low that three halves times it are below 2 ^ 64
abbrev pub mixer : ℕ
mixer = 1193077183

abbrev pub folded : ℕ → ℕ
folded h = h % half + h / half

unfoldable pub mixed : ℕ → ℕ → ℕ
mixed h x = (folded h + x) * mixer

-- four numbers take the lanes in turn, so that a machine can mix four at once
unfoldable pub mix_from : ℕ → ℕ → ℕ → ℕ → List ℕ → ℕ
mix_from a b c d [] = mixed (mixed (mixed a (folded b % half)) (folded c % half)) (folded d % half)
mix_from a b c d (x ∷ xs) = mix_from b c d (mixed a x) xs

unfoldable pub bucket_of : ℕ → List ℕ → ℕ
bucket_of limit key = folded (mix_from 0 1 2 3 key) % half % limit

unfoldable pub On : List ℕ → ℕ → ℕ → ℕ → ℕ → Type 0
On m limit zero x j = ⊥
On m limit (suc f) x j = (0 < x) × ((x ≡ suc j) ⊎ On m limit f (link_of m limit (x - 1)) j)

pub record Chained (m : List ℕ) (limit count : ℕ) : Type 0 where
  pub few : count ≤ limit
  pub long : limit + limit * record_words ≤ length m
  pub links : (j : ℕ) → j < count → link_of m limit j ≤ j
  pub sizes : (j : ℕ) → j < count → get_or m (place_of limit j + 1) 0 ≤ most_lanes
  pub heads : (b : ℕ) → b < limit → get_or m b 0 ≤ count
  pub low : (j : ℕ) → j < count → bucket_of limit (key_of m limit j) < limit
  pub on : (j : ℕ) → j < count → (f : ℕ) × On m limit f (get_or m (bucket_of limit (key_of m limit j)) 0) j
