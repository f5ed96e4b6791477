use Rattle.std.proofs.Common.{ℕ, ◌∙◌, map, sym, ap, arith, subst}
use Rattle.std.specs.Prelude.{IfSome}
use Rattle.std.proofs.lemmas.List.{take_all}
use Rattle.types_spec.specs.declared.types.head.TagOf.{TagOf}
use Rattle.types_spec.specs.types.Table.{tag_with_part}
use Rattle.types_build.specs.representation.Tags.{tags_of_entries, with_tags}
use Rattle.types_build.specs.representation.FoundHeads.{part_number, IsLocation}
use Rattle.types_build.proofs.representation.RepresentationFoundLemmas.{one_tag_more}
use Rattle.types_build.proofs.representation.found_heads.add_found.Goals as goal

pub loop-tag-preserved : goal.loop-tag-preserved
loop-tag-preserved c =
    rw (c.in_ok-add_tag.ensures, c.as_slice.ensures, c.number_at-argument.ensures, c.loop-tag.invariant)
    (one_tag_more (part_number c.args.found.now.by_position c.args.found.now.met.now.keys) (tags_of_entries c.args.tags.now.entries) c.args.more.now c.loop-tag.tag-index
    c.tag-item.result (omega arith) c.tag-item.is)

pub number_at-argument-requires : goal.number_at-argument-requires
number_at-argument-requires c =
    subst (λ (tag : TagOf ℕ). IfSome tag.argument (IsLocation c.args.found.now.by_position c.args.found.now.met.now.keys)) (sym c.tag-item.is)
    (c.requires c.loop-tag.tag-index c.tag-item.result c.loop-tag-test.true)

pub returns : goal.returns
returns c =
    c.loop-tag.invariant
    ∙ ap (λ ts. with_tags (tags_of_entries c.args.tags.now.entries) (map (tag_with_part (part_number c.args.found.now.by_position c.args.found.now.met.now.keys)) ts))
    (take_all c.loop-tag.tag-index c.args.more.now (omega arith))
