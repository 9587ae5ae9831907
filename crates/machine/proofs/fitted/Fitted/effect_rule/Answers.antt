-- `effect_rule` meets its contract. Assumes nothing.
use Rattle.machine.proofs.moves.MoveLaws.{flush_named}
use Rattle.machine.proofs.fitted.FittedLaws.{lent_line}
use Rattle.machine.proofs.fitted.Fitted.effect_rule.Goals as goal

pub bounds-self-q : goal.bounds-self-q
bounds-self-q c =
    let named = flush_named c.requires.1 _ c.in-Flush.is in
    rw c.line_of-q.ensures (lent_line c.args.self.now.fits _ named)
