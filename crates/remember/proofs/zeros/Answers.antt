-- `zeros` has as many words as it says. The level is written out, so that the words are not. Assumes nothing.
use Rattle.std.proofs.Common.{sym, ℕ}
use lib.ListN.{length-replicate}
use Rattle.remember.proofs.zeros.Goals as goal

pub returns : goal.returns
returns c = sym (length-replicate {0} {A = ℕ} 524288 0)
