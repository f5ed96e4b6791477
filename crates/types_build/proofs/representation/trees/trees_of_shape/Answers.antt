use Rattle.std.proofs.Common.{◌<◌, length}
use Rattle.types_build.proofs.representation.TreesLemmas.{blocks_within, tags_within}
use Rattle.types_build.proofs.representation.trees.trees_of_shape.Goals as goal

pub trees_of_blocks-requires : goal.trees_of_blocks-requires
trees_of_blocks-requires c =
    rw c.as_slice.ensures
    (blocks_within (λ i. i < length c.args.types.now) c.in-Sum.blocks (rw c.in-Sum.is at c.requires))

pub trees_of_tags-requires : goal.trees_of_tags-requires
trees_of_tags-requires c =
    rw c.as_slice-in-Poly.ensures
    (tags_within (λ i. i < length c.args.types.now) c.in-Poly.tags (rw c.in-Poly.is at c.requires))
