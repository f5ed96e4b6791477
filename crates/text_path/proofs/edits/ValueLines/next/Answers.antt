use Rattle.std.proofs.Common.{◌∙◌, sym}
use Rattle.text_path.proofs.PathOrderLemmas.{more_within, next_line}
use Rattle.text_path.proofs.edits.ValueLines.next.Goals as goal

pub invariant_of-self : goal.invariant_of-self
invariant_of-self c =
    more_within c.self.inside.lines.now c.self.inside.positions.now c.in-Some.position.now c.in-Some.more.now c.in-Some.ensures.cases.0 c.self.invariant

pub returns-in-Some : goal.returns-in-Some
returns-in-Some c =
    sym c.self.view_is
    ∙ next_line c.self.inside.lines.now c.self.inside.positions.now c.in-Some.position.now c.in-Some.more.now c.in-Some.ensures.cases.0 c.index-self-position.result c.self.invariant
