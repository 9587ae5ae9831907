-- `meet_all` meets its contract. Assumes nothing.
use Rattle.std.proofs.Common.{arith}
use Rattle.search.proofs.distinct.RememberLaws.{meet_none, meet_chained, meet_held, meet_walked}
use Rattle.search.proofs.distinct.meet_all.Goals as goal

pub returns-then-limit-eq0 : goal.returns-then-limit-eq0
returns-then-limit-eq0 c = meet_none _ c.requires.0 _ _ c.if-limit-eq0.true _

pub recall-requires : goal.recall-requires
recall-requires c =
    let g = c.requires in
    let a = c.args in
    let chained = meet_chained _ g.0 a.a.now _ _ _ g.3 c.clear.ensures in
    let held = meet_held _ g.0 _ _ _ _ g.3 c.clear.ensures g.1 _ _ c.of-c.ensures
    c.start_lanes-x.ensures a.run.now g.2 in
    (held, omega arith, omega arith, chained)

pub returns : goal.returns
returns c =
    let g = c.requires in
    let r = c.recall.ensures in
    meet_walked _ g.0 _ _ _ _ g.3 c.clear.ensures g.1 _ _ c.of-c.ensures
    c.start_lanes-x.ensures _ _ _ r.0 r.1
