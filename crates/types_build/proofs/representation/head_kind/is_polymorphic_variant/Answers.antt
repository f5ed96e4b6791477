use Rattle.types_build.proofs.representation.RepresentationKindLemmas.{are_variants}
use Rattle.types_build.proofs.representation.head_kind.is_polymorphic_variant.Goals as goal

pub returns-clause-ok : goal.returns-clause-ok
returns-clause-ok c =
    are_variants c.args.decls.now c.holds.ensures c.expanded.new.types _ c.in_ok-at.at c.in_ok-at.ensures.ok c.has_bracket.result c.has_bracket.ensures
