-- If the names of types can be read back, then the texts of values are literals.
use Rattle.types_spec.specs.declared.types.names.Names.{Names}
use Rattle.types_spec.specs.declared.types.shape.ShapeOf.{ShapeOf}
use Rattle.text_roundtrip.specs.literal_texts.Laws.{ValuesAreLiterals}
use Rattle.text_roundtrip.proofs.literal_texts.BlockAtLemmas.{block_at}
use Rattle.text_roundtrip.proofs.literal_texts.LeafReadLemmas.{int_plain, atom_plain}
use Rattle.text_roundtrip.proofs.literal_texts.ObjectReadLemmas.{object_plain}

pub values_are_literals : {T : Type 0} (shape : T → ShapeOf T) (names : T → Names) → ValuesAreLiterals shape names
values_are_literals shape names = record {
  integers = λ t z readable range fits named. int_plain t (names t) (shape t) z readable range fits named;
  atoms = λ t tag readable fits. atom_plain t (names t) (shape t) tag readable fits;
  objects = λ t object readable leaf fits named. object_plain t (names t) (shape t) object readable leaf fits named;
  blocks = λ t tag values readable small some range fits named.
      block_at shape names t (shape t) (names t) tag values readable small some range fits named;
}
