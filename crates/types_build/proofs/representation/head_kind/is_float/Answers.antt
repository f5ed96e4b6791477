use Rattle.std.proofs.Common.{ap, ◌∙◌}
use Rattle.types_spec.specs.types.Head.{head}
use Rattle.types_build.specs.representation.Kind.{is_float_base}
use Rattle.types_build.proofs.representation.RepresentationKindLemmas.{float_by_base}
use Rattle.types_build.proofs.representation.head_kind.is_float.Goals as goal

pub returns-clause-ok : goal.returns-clause-ok
returns-clause-ok c =
    c.is_float_base.ensures ∙ ap is_float_base c.in_ok-base.ensures.ok
    ∙ float_by_base (head c.args.decls.now c.args.t.now)
