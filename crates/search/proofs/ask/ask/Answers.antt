-- `ask` meets its contract. Assumes nothing.
use Rattle.std.proofs.Common.{sym, ◌∙◌}
use Rattle.search.proofs.ask.AnswerLaws.{answer_short, roomy}
use Rattle.search.proofs.ask.AskLaws.{ask_held, ask_told}
use Rattle.search.proofs.ask.ask.Goals as goal

pub returns-then-is_short : goal.returns-then-is_short
returns-then-is_short c = answer_short _ _ _ (sym c.is_short.ensures ∙ c.if-is_short.true)

pub walk-requires : goal.walk-requires
walk-requires c =
    let g = c.requires in
    let a = c.args in
    ask_held _ g.0 _ a.budget a.run.now g.1 _ _ c.of-c.ensures c.start_lanes-x.ensures
    (roomy _ _ (sym c.is_short.ensures ∙ c.if-is_short.false))

pub returns : goal.returns
returns c =
    let g = c.requires in
    ask_told _ g.0 _ _ _ (sym c.is_short.ensures ∙ c.if-is_short.false) g.1 _ _
    c.of-c.ensures c.start_lanes-x.ensures _ _ c.walk.ensures _ c.told.ensures
