-- Eager steps (specs/Eager).
-- those, or-else, any: some of a list; put-off, eager: which steps are next; has_eager_lem
pub mod EagerLaws
