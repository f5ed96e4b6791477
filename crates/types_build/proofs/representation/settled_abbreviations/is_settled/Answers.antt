use Rattle.std.proofs.Common.{sym, ◌∙◌}
use Rattle.types_build.proofs.representation.RepresentationSettledLemmas.{settled_among}
use Rattle.types_build.proofs.representation.settled_abbreviations.is_settled.Goals as goal

pub returns-in-Some : goal.returns-in-Some
returns-in-Some c = λ is decls tags are. rw c.in-Some.is (settled_among decls tags c.args.settled.now.keys c.in-Some.decl are (sym c.contains.ensures ∙ is))
