-- `question` meets its contract. Assumes nothing.
use Rattle.search.proofs.ask.AskLaws.{ask_refused, ask_fits, ask_read}
use Rattle.search.proofs.ask.question.Goals as goal

pub returns-then-number-ne0 : goal.returns-then-number-ne0
returns-then-number-ne0 c =
    ask_refused _ _ c.read-reading.ensures _ c.number-number.ensures _ c.offset.ensures
    c.if-number-ne0.true _ _

pub ask-requires : goal.ask-requires
ask-requires c =
    ask_fits _ _ c.read-reading.ensures _ c.number-number.ensures c.if-number-ne0.false

pub returns : goal.returns
returns c =
    ask_read _ _ c.read-reading.ensures _ c.number-number.ensures c.if-number-ne0.false
    _ _ _ _ c.ask.ensures
