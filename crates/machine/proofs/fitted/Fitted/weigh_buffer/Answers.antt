-- `weigh_buffer` meets its contract. Assumes nothing.
use Rattle.std.proofs.Common.{◌≡◌, ◌≤◌, sum_by, length, rules}
use Rattle.std.proofs.iter.runs.Made.{chains}
use Rattle.cases.specs.Sizes.{most_instructions}
use Rattle.machine.specs.View.{buffer}
use Rattle.machine.specs.Work.{entry_weight}
use Rattle.machine.proofs.work.WeighLaws.{entry_most, summed_most}
use Rattle.machine.proofs.fitted.Fitted.weigh_buffer.Goals as goal

pub returns-clause-few : goal.returns-clause-few
returns-clause-few c =
    let a = c.args in
    let e : c.sum.result ≡ sum_by entry_weight (buffer a.self.now.s.now a.t.0) = search (rules, chains) in
    let l : length (buffer a.self.now.s.now a.t.0) ≤ most_instructions = search rules in
    rw e (summed_most entry_weight 2 most_instructions entry_most _ l)
