-- Any machine (specs/Model), and the one of document 01.
-- allowed, legal, listed: next steps; leads, faultless, stops: runs; spent, step: what is used up; ruled: with other rules
pub mod ModelLaws
-- ptso: it is one; each step costs one
pub mod PtsoLaws
