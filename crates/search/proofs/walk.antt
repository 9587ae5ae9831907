-- The walk (specs/Walk), and its code.
-- walk, runs: what it lists; on, under, starting
pub mod WalkLaws
-- order, before, walk_in_order: in which order
pub mod WalkOrderLaws
-- walk of a model, walkable, thinned; leads
pub mod WalkModelLaws
-- walking, Walking, Lists: the code's loop; left, Left, rest_of
pub mod WalkLoopLaws
-- Turn, below, LeavesBelow: a turn of a walk's loop, over any lists of runs
pub mod TurnLaws
-- turn, lists: a turn of the loop
pub mod WalkTurnLaws
-- Along, ends_along, map, walk, seek: a machine that goes along with another
pub mod AlongLaws
-- walk, seek, lanes, Good: over lanes
pub mod WalkLanesLaws
-- Walks, walks, held: what the code may ask of its lanes
pub mod WalkHeldLaws
