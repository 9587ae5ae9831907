use Rattle.std.proofs.Common.{◌<◌, ◌≤◌, refl, length, arith}
use Rattle.cases.specs.Lines.{own_lines}
use Rattle.cases.proofs.lines.LineTableLaws.{table_start, table_front_next, table_all}
use Rattle.cases.proofs.lines.own_lines.Goals as goal

pub loop-l-init : goal.loop-l-init
loop-l-init c = table_start (λ i. i) c.args.n

pub loop-l-preserved : goal.loop-l-preserved
loop-l-preserved c =
    let l = c.loop-l in
    let low : l.l < length l.own-items = omega (arith, c.loop-l-test.true) in
    table_front_next (λ i. i) _ _ _ _ l.invariant low refl

pub returns : goal.returns
unfolding own_lines
returns c =
    let l = c.loop-l in
    let low : l.l ≤ length l.own-items = omega arith in
    table_all (λ i. i) _ _ _ _ l.invariant low c.requires l.auto.own-items c.loop-l-test.false
