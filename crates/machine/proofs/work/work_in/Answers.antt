-- `work_in` meets its contract. Assumes nothing.
use Rattle.std.proofs.Common.{◌≡◌, ◌∙◌, arith}
use Rattle.cases.specs.Sizes.{most_locations}
use Rattle.machine.specs.View.{queue_len}
use Rattle.machine.specs.Fit.{sum_to}
use Rattle.machine.specs.Work.{work}
use Rattle.machine.proofs.lists.SumLaws.{sum_counted}
use Rattle.machine.proofs.work.work_in.Goals as goal

pub returns : goal.returns
unfolding work
returns c =
    let t = c.threads_work.ensures.0 in
    let q : c.total.result ≡ sum_to most_locations (queue_len c.args.s)
    = c.total.ensures.is ∙ sum_counted _ _ (omega arith) in
    omega arith
