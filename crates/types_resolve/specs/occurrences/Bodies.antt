-- The occurrences in the body of a declaration, constructor by constructor.
use Rattle.std.specs.Prelude.{ℕ, List, [], ◌∷◌, drop}
use Rattle.types_spec.specs.declared.types.decl.Constructor.{Constructor}
use Rattle.types_spec.specs.declared.types.decl.Body.{Body}
use Rattle.types_spec.specs.types.Occurrence.{Placed, Occurrence}
use Rattle.types_resolve.specs.occurrences.CountedFile.{along, placed, record_in_arguments}
use Rattle.types_resolve.specs.occurrences.CountedFile.{in_arguments}
use Rattle.types_resolve.specs.occurrences.CountedFile.{carrying_in, constructor_count}
use Rattle.types_resolve.specs.occurrences.CountedFile.{of_constructors}

abbrev pub records_of : List ℕ → Constructor → List (List Placed)
records_of at c = record_in_arguments (drop 1 at) c.arguments

abbrev pub carrying_of : List ℕ → Constructor → List ℕ
carrying_of at c = carrying_in at c.arguments

abbrev pub occurrences_of : List ℕ → Constructor → List Occurrence
occurrences_of at c = in_arguments (drop 1 at) c.arguments

abbrev pub name_of_constructor : List ℕ → Constructor → List Placed
name_of_constructor at c = placed at c.name ∷ []

abbrev pub constructor_names : List ℕ → List Constructor → List Placed
constructor_names ms all = along constructor_count name_of_constructor ms all

abbrev pub names_in : List ℕ → Body → List Placed
names_in ms body = of_constructors name_of_constructor ms body

abbrev pub carrying_body : List ℕ → Body → List ℕ
carrying_body ms body = of_constructors carrying_of ms body
