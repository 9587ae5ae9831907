-- `weigh_code` meets its contract. Assumes nothing.
use Rattle.std.proofs.Common.{◌≡◌, ◌≤◌, sum_by, length, rules}
use Rattle.std.proofs.iter.runs.Made.{chains}
use Rattle.cases.specs.Sizes.{most_instructions}
use Rattle.machine.specs.Work.{code_weight, unissued_code}
use Rattle.machine.proofs.work.WeighLaws.{weight_most, summed_most}
use Rattle.machine.proofs.fitted.Fitted.weigh_code.Goals as goal

pub returns-clause-few : goal.returns-clause-few
returns-clause-few c =
    let a = c.args in
    let e : c.sum.result ≡ sum_by code_weight (unissued_code a.self.now.p.now a.self.now.s.now a.t.0) = search (rules, chains) in
    let l : length (unissued_code a.self.now.p.now a.self.now.s.now a.t.0) ≤ most_instructions = search rules in
    rw e (summed_most code_weight 3 most_instructions (λ i. weight_most i.operation) _ l)
