use Rattle.std.proofs.Common.{◌∙◌, sym}
use Rattle.types_spec.specs.types.Names.{no_names, plain_constr}
use Rattle.types_spec.specs.types.Predeclared.{SumBlock}
use Rattle.types_spec.specs.types.PredeclaredCode.{block_row}
use Rattle.types_build.proofs.representation.RepresentationLemmas.{list_twice}
use Rattle.types_build.proofs.representation.representation_names.names_of_row.Goals as goal

pub returns : goal.returns
returns c =
    let twice = list_twice block_row (λ (block : SumBlock). plain_constr block.name) c.args.row.blocks.now in
    rw c.no_names-names.ensures
    (λ k. record no_names {
      constants = (c.of.ensures ∙ c.in_ok-texts.ensures) k;
      constructors = (c.of-2.ensures ∙ c.in_ok-plain_constrs.ensures ∙ sym twice) k;
    })
