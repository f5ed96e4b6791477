use Rattle.std.proofs.Common.{◌∙◌, ap, sym, List}
use Rattle.types_spec.specs.types.TypeNodes.{type_at}
use Rattle.types_spec.specs.types.Names.{no_names}
use Rattle.types_spec.specs.declared.types.names.TagName.{TagName}
use Rattle.types_build.proofs.representation.RepresentationLemmas.{tags_named}
use Rattle.types_build.proofs.representation.representation_names.names_by_head.Goals as goal

pub returns-in_ok-tag_names-in-Variants : goal.returns-in_ok-tag_names-in-Variants
returns-in_ok-tag_names-in-Variants c types =
    rw (c.in-Variants.is, c.no_names-names.ensures, ← c.as_slice-in-Variants.ensures)
    (ap (λ (all : List TagName). record no_names { tags = all })
    (c.of.ensures ∙ c.in_ok-tag_names-in-Variants.ensures ∙ sym (tags_named (type_at types) _)))
