-- If a value has a sound type, then the names that the text of each part needs exist.
use Rattle.std.proofs.Common.{ℕ, ◌≡◌, List, Some}
use Rattle.std.specs.Prelude.{Contains}
use Rattle.base_data.specs.declared.model.value.Val.{Val}
use Rattle.base_data.specs.declared.model.value.Obj.{Obj}
use Rattle.types_spec.specs.types.Shapes.{Shapes}
use Rattle.types_spec.specs.types.LawfulShapes.{AreLawful}
use Rattle.types_spec.specs.types.Typing.{HasType}
use Rattle.types_spec.specs.types.Fault.{value_at}
use Rattle.types_spec.specs.types.Equal.{declared_shapes}
use Rattle.types_spec.proofs.types.TypeFaultLemmas.{held_by_some, position_is_held}
use Rattle.types_theory.proofs.equality.EqualityLawfulLemmas.{reached_lawful}
use Rattle.types_theory.proofs.equality.EqualityReachedLemmas.{root_listed}
use Rattle.types_theory.proofs.equality.EqualitySoundLemmas.{known_by_hash}
use Rattle.text_print.specs.show.Laws.{NoNameIsMissingInParts}
use Rattle.text_print.proofs.show.NamedLemmas.{has_its_names}

module _ {T : Type 0} (shapes : Shapes T) (InQuestion : T → Type 0) (lawful : AreLawful shapes InQuestion)
    (graph : List Obj) where
  -- If a path leads from a value that has its type to a part, then the part matches its type's
  -- representation.
  part_fits : (v : Val) (t : T) → InQuestion t → HasType shapes graph v t → (path : List ℕ) (w : Val) (u : T)
      → value_at shapes graph v t path ≡ Some (w, u) → shapes.fits graph w u
  part_fits v t in_question has path w u leads =
      let held = held_by_some shapes InQuestion lawful graph v t in_question has in
      let position = position_is_held shapes InQuestion lawful graph held.0 held.1 path v t w u in_question held.2 leads in
      position.1.fits

pub parts_have_names : NoNameIsMissingInParts
parts_have_names decls t types well sound reached graph v has path w u leads =
    has_its_names decls graph w u
    (part_fits (declared_shapes decls) (λ u. Contains types u)
    (reached_lawful decls well.sound t types reached (known_by_hash decls well t sound types reached))
    graph v t (root_listed decls t types reached) has path w u leads)
