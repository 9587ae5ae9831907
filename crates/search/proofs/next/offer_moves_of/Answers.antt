use Rattle.std.proofs.Common.{arith}
use Rattle.machine.specs.Next.{rank_of}
use Rattle.search.proofs.next.RanksLoopLaws.{offered_low, offered_next, move_made}
use Rattle.search.proofs.next.offer_moves_of.Goals as goal

pub offer-requires : goal.offer-requires
unfolding rank_of
offer-requires c =
    let i = c.loop-i.invariant in
    let g = c.requires in
    let w = c.args.v.now.c.now.fits.few_threads in
    let m = i.0 in
    (offered_low i.1 (omega arith) (omega arith), rw c.move_step.ensures (omega arith))

pub loop-i-preserved : goal.loop-i-preserved
loop-i-preserved c =
    let i = c.loop-i.invariant in
    let m = move_made _ _ _ _ _ _ c.requires.1 c.is_entry_barred-barred.ensures in
    (i.0, offered_next i.1 (omega arith) _ _ _ c.offer.ensures c.move_step.ensures m)
