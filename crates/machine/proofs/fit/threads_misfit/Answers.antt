-- `threads_misfit` meets its contract. Assumes nothing.
use Rattle.std.proofs.Common.{◌≡◌, ◌∙◌, rules}
use Rattle.std.specs.List.{list_any, range_with_len}
use Rattle.std.proofs.iter.runs.Sources.{ranges}
use Rattle.cases.specs.Sizes.{most_threads}
use Rattle.machine.specs.Fit.{thread_misfits}
use Rattle.machine.proofs.lists.AnyLaws.{any_from_is}
use Rattle.machine.proofs.fit.threads_misfit.Goals as goal

pub returns : goal.returns
returns c =
    let a = c.args in
    let e : c.any.result ≡ list_any (thread_misfits a.p.now a.s.now) (range_with_len 0 most_threads)
    = search (rules, ranges) in
    e ∙ any_from_is _ _ _
