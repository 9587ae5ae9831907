-- `take_step` meets its contract: each kind of step has what its function asks for. Assumes nothing.
use Rattle.std.proofs.Common.{arith}
use Rattle.machine.proofs.rules.ReadyLaws.{issue_ready, move_ready, persist_ready}
use Rattle.machine.proofs.steps.take_step.Goals as goal

pub issue-requires : goal.issue-requires
issue-requires c =
    issue_ready c.args.p.now c.args.s c.requires.0 c.args.k c.requires.1 c.requires.2 (omega arith)

pub move_entry-requires : goal.move_entry-requires
move_entry-requires c =
    move_ready c.args.p.now c.args.s c.requires.0 c.args.k c.requires.1 c.requires.2 (omega arith)

pub persist-requires : goal.persist-requires
persist-requires c =
    persist_ready c.args.p.now c.args.s c.requires.0 c.args.k c.requires.1 c.requires.2
    (λ z. omega arith) (λ z. omega arith)
