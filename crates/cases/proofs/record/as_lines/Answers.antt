use Rattle.std.proofs.Common.{◌<◌, ◌≤◌, length, arith}
use Rattle.cases.specs.Record.{line_byte}
use Rattle.cases.proofs.lines.LineTableLaws.{table_start, table_front_next, table_all}
use Rattle.cases.proofs.record.as_lines.Goals as goal

pub loop-l-init : goal.loop-l-init
loop-l-init c = table_start (line_byte c.args.s.now) c.args.n

pub loop-l-preserved : goal.loop-l-preserved
loop-l-preserved c =
    let l = c.loop-l in
    let low : l.l < length l.byte-items = omega (arith, c.loop-l-test.true) in
    table_front_next (line_byte c.args.s.now) _ _ _ _ l.invariant low c.byte_at.ensures

pub returns : goal.returns
returns c =
    let l = c.loop-l in
    let low : l.l ≤ length l.byte-items = omega arith in
    table_all (line_byte c.args.s.now) _ _ _ _ l.invariant low c.requires l.auto.byte-items c.loop-l-test.false
