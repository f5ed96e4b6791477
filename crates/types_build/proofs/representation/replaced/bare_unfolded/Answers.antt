use Rattle.std.proofs.Common.{ap, None}
use Rattle.types_spec.specs.types.TypeNodes.{type_at}
use Rattle.types_spec.specs.types.Declarations.{abbreviated}
use Rattle.types_build.proofs.representation.RepresentationWayLemmas.{bare_next}
use Rattle.types_build.proofs.representation.replaced.bare_unfolded.Goals as goal

pub returns-clause-ok : goal.returns-clause-ok
returns-clause-ok c = record {
  next = c.in-Abbreviation.body;
  is = bare_next c.args.decls.now None c.args.decl (type_at c.args.types.now c.args.number) c.in-Abbreviation.body
      c.at.result.now c.requires.bare c.requires.decl c.at.ensures (ap abbreviated c.in-Abbreviation.is);
  holds = c.in_ok-next.ensures.ok;
}
