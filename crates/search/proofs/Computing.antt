-- What to unfold so that a definition of the search computes, as in `cases`. Assumes nothing.
use Prim.Native.Nat.{ℕ}
use Rattle.machine.specs.Fit.{any_from}
use Rattle.machine.proofs.Computing.{work_computes, next_computes}
use Rattle.search.specs.Walk.{starting, walk, walk_from}
use Rattle.search.specs.Question.{misses, misses_at, lacks_at, reaches_in, reaches, first_of, decided_by}
use Rattle.search.specs.Question.{decided, ask_of}

-- ask_of
unfoldable pub asking_computes : ℕ
unfolding work_computes next_computes starting walk any_from misses misses_at lacks_at reaches_in
    reaches first_of decided_by decided walk_from ask_of
asking_computes = 0
