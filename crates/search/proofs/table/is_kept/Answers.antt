use Rattle.std.proofs.Common.{sym, ◌∙◌, arith}
use Rattle.search.proofs.table.ChainLaws.{seek_start}
use Rattle.search.proofs.table.ChainLaws.{seek_falls, seek_here, seek_next, seek_end}
use Rattle.search.proofs.table.is_kept.Goals as goal

pub loop-x-init : goal.loop-x-init
loop-x-init c = let g = c.requires in seek_start g.0 _ _ g.1 g.2

pub returns-then-is_record : goal.returns-then-is_record
returns-then-is_record c =
    seek_here c.requires.0 c.loop-x.invariant (omega arith)
    (sym c.is_record.ensures ∙ c.if-is_record.true)

pub loop-x-smaller : goal.loop-x-smaller
loop-x-smaller c =
    seek_falls c.requires.0 c.loop-x.invariant (omega arith)

pub loop-x-preserved : goal.loop-x-preserved
loop-x-preserved c =
    seek_next c.requires.0 c.loop-x.invariant (omega arith)
    (sym c.is_record.ensures ∙ c.if-is_record.false)

pub returns : goal.returns
returns c =
    seek_end c.requires.0 c.loop-x.invariant (omega arith)
