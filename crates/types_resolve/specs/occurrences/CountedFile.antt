-- The occurrences in declarations, by the declarations themselves. The n-th name, tag, variable or
-- included type of the declarations is at the n-th mark of the text.
use Rattle.std.specs.Prelude.{ℕ, ◌+◌, List, [], ◌∷◌, ◌++◌, length, false, drop, slice_index}
use Rattle.types_spec.specs.declared.types.decl.Field.{Field}
use Rattle.types_spec.specs.declared.types.decl.Arguments.{Arguments}
use Rattle.types_spec.specs.declared.types.decl.Arguments.TheVariants as arguments
use Rattle.types_spec.specs.declared.types.decl.Constructor.{Constructor}
use Rattle.types_spec.specs.declared.types.decl.Body.{Body}
use Rattle.types_spec.specs.declared.types.decl.Body.TheVariants as bodies
use Rattle.types_spec.specs.declared.types.decl.Decl.{Decl}
use Rattle.types_spec.specs.types.Ty.{Ty}
use Rattle.types_spec.specs.types.Occurrence.{Placed, Occurrence, DeclPositions}
use Rattle.types_resolve.specs.occurrences.Counted.{own_count, inner_count, in_type}

-- The results of `of` for each element of a list, if each element takes `count` of the marks.
abbrev pub along : {X Y : Type 0} → (X → ℕ) → (List ℕ → X → List Y) → List ℕ → List X → List Y
along count of ms [] = []
along count of ms (x ∷ xs) = of ms x ++ along count of (drop (count x) ms) xs

abbrev pub count_all : {X : Type 0} → (X → ℕ) → List X → ℕ
count_all count [] = 0
count_all count (x ∷ xs) = count x + count_all count xs

abbrev pub type_count : Ty → ℕ
type_count t = inner_count t + own_count t

-- The name `name`, located at the first mark of `ms`.
abbrev pub placed : List ℕ → List ℕ → Placed
placed ms name = (slice_index ms 0, name)

abbrev pub parameters_in : List ℕ → List (List ℕ) → List Placed
parameters_in ms names = along (λ x. 1) (λ at x. placed at x ∷ []) ms names

-- ---- fields

abbrev pub field_count : Field → ℕ
field_count f = 1 + type_count f.ty

abbrev pub names_of_fields : List ℕ → List Field → List Placed
names_of_fields ms fields = along field_count (λ at (f : Field). placed at f.name ∷ []) ms fields

abbrev pub in_field : List ℕ → Field → List Occurrence
in_field ms f = in_type (drop 1 ms) false f.ty

-- ---- constructors

abbrev pub arguments_count : Arguments → ℕ
arguments_count arguments.Constant = 0
arguments_count (arguments.Listed types) = count_all type_count types
arguments_count (arguments.Inline fields) = count_all field_count fields

abbrev pub constructor_count : Constructor → ℕ
constructor_count c = 1 + arguments_count c.arguments

abbrev pub record_in_arguments : List ℕ → Arguments → List (List Placed)
record_in_arguments ms arguments.Constant = []
record_in_arguments ms (arguments.Listed types) = []
record_in_arguments ms (arguments.Inline fields) = names_of_fields ms fields ∷ []

abbrev pub in_arguments : List ℕ → Arguments → List Occurrence
in_arguments ms arguments.Constant = []
in_arguments ms (arguments.Listed types) = along type_count (λ at t. in_type at false t) ms types
in_arguments ms (arguments.Inline fields) = along field_count in_field ms fields

abbrev pub carrying_in : List ℕ → Arguments → List ℕ
carrying_in ms arguments.Constant = []
carrying_in ms (arguments.Listed types) = slice_index ms 0 ∷ []
carrying_in ms (arguments.Inline fields) = slice_index ms 0 ∷ []

-- The results of `of` for each constructor of a body.
abbrev pub of_constructors :
    {Y : Type 0} → (List ℕ → Constructor → List Y) → List ℕ → Body → List Y
of_constructors of ms (bodies.Abbreviation t) = []
of_constructors of ms (bodies.Record fields) = []
of_constructors of ms (bodies.Variant all) = along constructor_count of ms all

-- ---- declarations

abbrev pub body_count : Body → ℕ
body_count (bodies.Abbreviation t) = type_count t
body_count (bodies.Record fields) = count_all field_count fields
body_count (bodies.Variant all) = count_all constructor_count all

abbrev pub records_in : List ℕ → Body → List (List Placed)
records_in ms (bodies.Abbreviation t) = []
records_in ms (bodies.Record fields) = names_of_fields ms fields ∷ []
records_in ms (bodies.Variant all) =
    along constructor_count (λ at (c : Constructor). record_in_arguments (drop 1 at) c.arguments) ms
    all

abbrev pub in_body : List ℕ → Body → List Occurrence
in_body ms (bodies.Abbreviation t) = in_type ms false t
in_body ms (bodies.Record fields) = along field_count in_field ms fields
in_body ms (bodies.Variant all) =
    along constructor_count (λ at (c : Constructor). in_arguments (drop 1 at) c.arguments) ms all

abbrev pub decl_count : Decl → ℕ
decl_count d = length d.parameters + 1 + body_count d.body

-- The occurrences of a declaration. `ms` begins with the first mark of the declaration.
abbrev pub counted_positions : List ℕ → Decl → DeclPositions
counted_positions ms d =
    let body = drop (length d.parameters + 1) ms in
    record {
      decl = d;
      position = slice_index ms (length d.parameters);
      parameters = parameters_in ms d.parameters;
      records = records_in body d.body;
      constructors = of_constructors (λ at c. placed at c.name ∷ []) body d.body;
      carrying = of_constructors (λ at c. carrying_in at c.arguments) body d.body;
      occurrences = in_body body d.body;
    }

abbrev pub counted_file : List ℕ → List Decl → List DeclPositions
counted_file ms decls = along decl_count (λ at d. counted_positions at d ∷ []) ms decls
