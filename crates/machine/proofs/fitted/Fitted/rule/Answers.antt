-- `rule` meets its contract: each kind of step has what its rule asks for. Assumes nothing.
use Rattle.std.proofs.Common.{arith}
use Rattle.machine.proofs.fitted.FittedLaws.{lent_thread, lent_location}
use Rattle.machine.proofs.fitted.Fitted.rule.Goals as goal

pub issue_rule-requires : goal.issue_rule-requires
issue_rule-requires c = lent_thread c.args.self.now.fits c.args.k c.requires (omega arith)

pub move_rule-requires : goal.move_rule-requires
move_rule-requires c = lent_thread c.args.self.now.fits c.args.k c.requires (omega arith)

pub persist_rule-requires : goal.persist_rule-requires
persist_rule-requires c =
    lent_location c.args.self.now.fits c.args.k c.requires (λ z. omega arith) (λ z. omega arith)
