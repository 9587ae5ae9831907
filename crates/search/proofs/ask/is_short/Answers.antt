-- `is_short` meets its contract. Assumes nothing.
use Rattle.std.proofs.Common.{rules}
use Rattle.search.proofs.ask.AskLaws.{ask_start_fits, ask_start_few, short_made}
use Rattle.search.proofs.ask.is_short.Goals as goal

pub work_in-requires : goal.work_in-requires
work_in-requires c = ask_start_fits _ c.requires _ c.start_of-s.ensures

pub overflow_mul-result : goal.overflow_mul-result
overflow_mul-result c =
    let few = ask_start_few _ c.requires _ c.start_of-s.ensures in
    let w = c.work_in.ensures in
    search rules

pub returns : goal.returns
returns c = short_made _ c.requires _ c.start_of-s.ensures _ _ c.work_in.ensures
