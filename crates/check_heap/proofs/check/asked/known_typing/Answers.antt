use Rattle.std.proofs.Common.{inl, inr, ◌∙◌}
use Rattle.check_heap.proofs.check.asked.known_typing.Goals as goal

pub returns-then-are_asked : goal.returns-then-are_asked
returns-then-are_asked c = inl (c.scanned.ensures, c.are_asked.ensures c.if-are_asked.true)

pub returns : goal.returns
returns c = inr (c.listed.ensures ∙ c.in_ok-pairs.ensures)
