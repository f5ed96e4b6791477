use Rattle.std.proofs.Common.{map, refl}
use Rattle.types_spec.specs.types.TypeNodes.{type_at}
use Rattle.types_build.proofs.representation.RepresentationLemmas.{product_at, poly_at}
use Rattle.types_build.proofs.representation.representation.shape_at.Goals as goal

pub returns-in-Some-clause-ok : goal.returns-in-Some-clause-ok
returns-in-Some-clause-ok c =
    rw (c.in-Datatype.is, ← c.as_slice-in-Datatype.ensures, ← c.in-Some.ensures, ← c.as_slice-in-Some.ensures) c.datatype_shape.ensures.ok

pub returns-in_ok-from_slice-in-Tuple-clause-ok : goal.returns-in_ok-from_slice-in-Tuple-clause-ok
returns-in_ok-from_slice-in-Tuple-clause-ok c =
    let types = c.args.types.now in
    rw (c.in-Tuple.is, c.of.ensures, c.in_ok-from_slice-in-Tuple.ensures.items, c.as_slice-in-Tuple.ensures)
    (product_at types (map (type_at types) c.in-Tuple.parts) c.in-Tuple.parts _
    (record { below = rw c.in-Tuple.is at c.requires.within; are = refl }))

pub returns-in_ok-hashed-in-Variants-clause-ok : goal.returns-in_ok-hashed-in-Variants-clause-ok
returns-in_ok-hashed-in-Variants-clause-ok c =
    rw (c.in-Variants.is, c.of-in-Variants.ensures, c.in_ok-hashed-in-Variants.ensures, c.as_slice-in-Variants.ensures)
    (poly_at c.args.types.now c.in-Variants.tags (rw c.in-Variants.is at c.requires.within))
