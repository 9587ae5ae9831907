-- The work left (specs/Work).
-- weigh, weight, entry_most, summed, thread_weighed: weights, sums of them and the loops that weigh; WeighedSoFar
pub mod WeighLaws
-- work: what a change of one part does to it
pub mod WorkLaws
-- cost: of an issue, of another step; spent_failures
pub mod CostLaws
