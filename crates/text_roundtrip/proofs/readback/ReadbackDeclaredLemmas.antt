-- A value at a declared type can be printed, and the parts of the value can be printed.
use Rattle.std.proofs.Common.{ℕ, ◌≡◌, List, Some}
use Rattle.std.specs.Prelude.{Contains}
use Rattle.base_data.specs.declared.model.value.Val.{Val}
use Rattle.base_data.specs.declared.model.value.Val.TheVariants as vals
use Rattle.base_data.specs.declared.model.value.Obj.{Obj}
use Rattle.types_spec.specs.declared.types.decl.Decl.{Decl}
use Rattle.types_spec.specs.types.WellFormed.{AreWellFormed, IsSoundType}
use Rattle.types_spec.specs.types.LawfulShapes.{AreLawful}
use Rattle.types_spec.specs.types.Typing.{IsHeld, IsTyping}
use Rattle.types_spec.specs.types.Fault.{field_of, type_of_field}
use Rattle.types_spec.proofs.types.TypeFaultLemmas.{held_by_some, named_is_needed, field_is_held}
use Rattle.types_spec.specs.types.Fitting.{fields_of, or_none}
use Rattle.types_spec.proofs.types.TypeAskedLemmas.{is_needed}
use Rattle.types_spec.specs.types.Equal.{declared_shapes}
use Rattle.types_spec.specs.types.Names.{names_of}
use Rattle.types_spec.specs.types.Reached.{IsReached}
use Rattle.types_spec.specs.types.Shape.{shape}
use Rattle.types_spec.specs.types.Ty.{Ty}
use Rattle.marshal_spec.specs.format.Tree.{root, objects_of}
use Rattle.types_theory.proofs.equality.EqualityLawfulLemmas.{reached_lawful}
use Rattle.types_theory.proofs.equality.EqualityReachedLemmas.{root_listed, named_listed, needs_named}
use Rattle.types_theory.proofs.equality.EqualitySoundLemmas.{known_by_hash}
use Rattle.text_print.proofs.show.NamedLemmas.{has_its_names}
use Rattle.text_roundtrip.specs.literal_texts.Readable.{AreReadable}
use Rattle.text_roundtrip.specs.readback.Back.{AreShowable}
use Rattle.text_roundtrip.specs.readback.Laws.{TextsAreReadBack}
use Rattle.text_roundtrip.proofs.readback.WholeReadLemmas.{readable_asked, shown_back}

module _ (decls : List Decl) (t : Ty) (types : List Ty) (well : AreWellFormed decls) (sound : IsSoundType decls t) (reached : IsReached decls t types) (readable : AreReadable decls types) (graph : List Obj) where
  abbrev Among : Ty → Type 0
  Among u = Contains types u

  lawful : AreLawful (declared_shapes decls) (λ u. Contains types u)
  lawful = reached_lawful decls well.sound t types reached (known_by_hash decls well t sound types reached)

  module _ (pairs : List (ℕ × Ty)) (typing : IsTyping (declared_shapes decls) graph pairs) where
    -- The value `v` occurs at the type `u`, which is one of `types`.
    abbrev Holds : Val → Ty → Type 0
    Holds v u = Contains types u × IsHeld (declared_shapes decls) graph pairs v u

    -- No part has the wildcard type, because the names of each type can be read back.
    part_holds : (v : Val) (u : Ty) (i : ℕ) (a : Ty) (w : Val) → Holds v u → type_of_field (or_none (fields_of graph v (shape decls u))) i ≡ Some a → field_of graph v i ≡ Some w → Holds w a
    part_holds (vals.Int z) u i a w holds named field = absurd cc
    part_holds (vals.Atom tag) u i a w holds named field = absurd cc
    part_holds (vals.Ref o) u i a w holds named field =
        let fields = or_none (fields_of graph (vals.Ref o) (shape decls u)) in
        let typed = named_is_needed fields i a named in
        let listed = named_listed decls t types reached u a holds.0 (needs_named (shape decls u) graph (vals.Ref o) i a typed) in
        let asked = readable_asked (shape decls a) (names_of decls a) (readable a listed) in
        (listed, field_is_held (declared_shapes decls) Among lawful graph pairs typing o i u w a holds.0 holds.1 field (is_needed (shape decls) fields i a typed asked))

    are_showable : AreShowable (shape decls) (names_of decls) graph Holds
    are_showable = record {
      fits = λ v u holds. holds.1.fits;
      named = λ v u holds. has_its_names decls graph v u holds.1.fits;
      readable = λ v u holds. readable u holds.0;
      parts = part_holds;
    }

pub texts_are_read_back : TextsAreReadBack
texts_are_read_back decls t types well sound reached readable tree is back few has =
    let graph = objects_of tree 0 in
    let among = root_listed decls t types reached in
    let held = held_by_some (declared_shapes decls) (λ u. Contains types u) (lawful decls t types well sound reached readable graph) graph (root tree 0) t among has in
    shown_back (shape decls) (names_of decls) tree t (Holds decls t types well sound reached readable graph held.0 held.1)
    (are_showable decls t types well sound reached readable graph held.0 held.1) is back few (among, held.2)
