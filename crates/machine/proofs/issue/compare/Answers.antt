-- `compare` meets its contract. Assumes nothing.
use Rattle.std.proofs.Common.{◌≡◌, length, rules}
use Rattle.machine.specs.Sizes.{all_registers}
use Rattle.machine.proofs.steps.IssueLaws.{compare_some, compare_none}
use Rattle.machine.proofs.issue.compare.Goals as goal
use Rattle.machine.proofs.issue.compare.Goals.{Start}

-- as many registers as their array is long
sized : (c : Start) → length c.args.s.registers ≡ all_registers
sized c = search rules

pub returns-then-u-at : goal.returns-then-u-at
returns-then-u-at c =
    let long = sized (goal.at.returns-then-u-at c).Start in
    compare_some c.args.p.now c.args.s _ c.args.x long c.requires.low_thread c.requires.low_register _ c.fetch-u.ensures
    c.if-u-at.true _ _ c.line_of.ensures c.enqueue.ensures

pub returns : goal.returns
returns c =
    let long = sized (goal.at.returns c).Start in
    compare_none c.args.p.now c.args.s _ c.args.x long c.requires.low_thread c.requires.low_register _ c.fetch-u.ensures
    c.if-u-at.false
