-- The text of a type that is a name without arguments.
use Rattle.std.proofs.Common.{ℕ, ◌≡◌, ◌∙◌, List, Some, refl, ap}
use Rattle.std.specs.Prelude.{slice_get, option_map}
use Rattle.std.proofs.lemmas.Option.{slice_get-map, get_or_from_slice_get}
use Rattle.types_spec.specs.types.Ty.{named, tuple}
use Rattle.types_spec.specs.types.TypeNodes.{type_at}
use Rattle.types_spec.specs.types.TypeText.{type_text}
use Rattle.types_table.specs.declared.type_table.tabled.Tabled.{Tabled}
use Rattle.check_fault.specs.FaultText.{text_or_none, text_at}

name_is : (name : List ℕ) → type_text (named name) ≡ name
unfolding type_text
name_is name = refl

pub name_is_text :
    (table : Tabled) (number k : ℕ) (name : List ℕ) → slice_get table.stored number ≡ Some k
    → slice_get table.store k ≡ Some (named name) → text_at table number ≡ name
name_is_text table number k name at there =
    ap text_or_none
    (slice_get-map (type_at table.store) table.stored number
    ∙ ap (option_map (type_at table.store)) at
    ∙ ap Some (get_or_from_slice_get table.store k (named name) tuple there))
    ∙ name_is name
