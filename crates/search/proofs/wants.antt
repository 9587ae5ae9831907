-- What is asked for (specs/Question), and whether lanes meet it: the code.
-- missed, lacks: what a turn of a loop tells; a ruleset for each loop
pub mod WantLoopLaws
