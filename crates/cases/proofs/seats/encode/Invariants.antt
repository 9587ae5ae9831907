-- `encode` meets its contract. The loop's invariant: the first `k` seats of the case's file are put, and they
-- end at `at`. Assumes nothing.
use Rattle.cases.proofs.seats.EncodeLaws.{Encoded}
use Rattle.cases.proofs.seats.encode.Given as goal

abbrev pub invariant-loop-k : goal.invariant-loop-k
invariant-loop-k l = Encoded l.c l.initial.out l.k l.at l.out
