-- `total` meets its contract. Assumes nothing.
use Rattle.std.proofs.Common.{◌≡◌, sum, rules}
use Rattle.std.proofs.iter.runs.Made.{chains}
use Rattle.machine.proofs.lists.SumLaws.{sum_bytes}
use Rattle.machine.proofs.fit.total.Goals as goal

pub returns-clause-few : goal.returns-clause-few
returns-clause-few c =
    let e : c.sum.result ≡ sum c.args.counts.now = search (rules, chains) in
    rw e (sum_bytes _ (λ k. search rules))
