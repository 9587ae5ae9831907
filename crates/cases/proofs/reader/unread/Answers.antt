-- `unread` meets its contract: the offset of a reading is within the input, and what is lent back lies there.
-- Assumes nothing.
use Rattle.std.proofs.Common.{rules}
use Rattle.cases.proofs.reader.UnreadLaws.{unread_within, unread_is, unread_there}
use Rattle.cases.proofs.reader.unread.Goals as goal

pub slice_bounds-result-count : goal.slice_bounds-result-count
slice_bounds-result-count c = unread_within _ _ _ c.read-r.ensures c.offset-at.ensures

pub slice_bounds-result-start : goal.slice_bounds-result-start
slice_bounds-result-start c =
    let w = unread_within _ _ _ c.read-r.ensures c.offset-at.ensures in
    search rules

pub returns-clause-content : goal.returns-clause-content
returns-clause-content c = unread_is _ _ _ c.read-r.ensures c.offset-at.ensures

pub returns-clause-place : goal.returns-clause-place
returns-clause-place c = unread_there _ _ _ c.read-r.ensures c.offset-at.ensures c.args.bytes.ref_ptr
