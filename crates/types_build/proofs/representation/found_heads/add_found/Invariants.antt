use Rattle.std.proofs.Common.{◌≡◌, map, take}
use Rattle.types_spec.specs.types.Table.{tag_with_part}
use Rattle.types_build.specs.representation.Tags.{tags_of_entries, with_tags}
use Rattle.types_build.specs.representation.FoundHeads.{part_number}
use Rattle.types_build.proofs.representation.found_heads.add_found.Given as goal

abbrev pub invariant-loop-tag : goal.invariant-loop-tag
invariant-loop-tag l =
    tags_of_entries l.tags.entries
    ≡ with_tags (tags_of_entries l.initial.tags.entries) (map (tag_with_part (part_number l.found.by_position l.found.met.now.keys)) (take l.tag-index l.more))
