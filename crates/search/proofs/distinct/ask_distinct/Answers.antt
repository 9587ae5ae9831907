-- `ask_distinct` meets its contract. Assumes nothing.
use Rattle.std.proofs.Common.{sym, ◌∙◌}
use Rattle.search.proofs.ask.AnswerLaws.{roomy}
use Rattle.search.proofs.distinct.LimitLaws.{walked_within}
use Rattle.search.proofs.distinct.RememberLaws.{remember_short, remember_covers, remember_told}
use Rattle.search.proofs.distinct.ask_distinct.Goals as goal

pub returns-then-is_short : goal.returns-then-is_short
returns-then-is_short c =
    remember_short _ c.requires.0 _ _ _ _ (sym c.is_short.ensures ∙ c.if-is_short.true)

pub meet_all-w-requires : goal.meet_all-w-requires
meet_all-w-requires c =
    let g = c.requires in
    let a = c.args in
    let room = roomy _ _ (sym c.is_short.ensures ∙ c.if-is_short.false) in
    (g.0, g.1, room, remember_covers _ g.0 a.a.now a.budget a.run.now a.memory.now _ c.covers-limit.ensures)

pub states-requires : goal.states-requires
states-requires c =
    walked_within _ _ _ _ c.meet_all-w.ensures.0

pub returns : goal.returns
returns c =
    let g = c.requires in
    remember_told _ g.0 _ _ _ _ (sym c.is_short.ensures ∙ c.if-is_short.false) _
    c.covers-limit.ensures _ _ c.meet_all-w.ensures _ c.told.ensures _ c.states.ensures _ _
    c.meet_all-w.auto.memory c.clear.ensures
