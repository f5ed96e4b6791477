-- The properties of accepted declarations. The expansion of abbreviations terminates, no declared
-- type is deeper than 200, and distinct tags of a bracket have distinct hashes.
use Rattle.std.specs.Prelude.{ℕ, suc, ◌<◌, ◌≤◌, ◌≡◌, ◌⊎◌, List, [], ◌∷◌, ◌++◌, length, Some, None}
use Rattle.types_spec.specs.tag_hash.TagHash.{tag_hash}
use Rattle.std.specs.Prelude.{Contains}
use Rattle.std.specs.List.{flat_map}
use Rattle.types_spec.specs.declared.types.decl.Arguments.{Arguments}
use Rattle.types_spec.specs.declared.types.decl.Arguments.TheVariants as arguments
use Rattle.types_spec.specs.declared.types.decl.Constructor.{Constructor}
use Rattle.types_spec.specs.declared.types.decl.Body.{Body}
use Rattle.types_spec.specs.declared.types.decl.Body.TheVariants as bodies
use Rattle.types_spec.specs.declared.types.decl.Decl.{Decl}
use Rattle.types_spec.specs.declared.types.head.TagOf.{TagOf}
use Rattle.types_spec.specs.declared.types.head.HeadOf.{HeadOf}
use Rattle.types_spec.specs.declared.types.head.HeadOf.TheVariants as heads
use Rattle.types_spec.specs.declared.types.shape.PolyTag.{PolyTag}
use Rattle.types_spec.specs.declared.types.shape.ShapeOf.TheVariants as shapes
use Rattle.types_spec.specs.types.Ty.{Ty, variable, named, tuple, bracket, part, tag, tag_of}
use Rattle.types_spec.specs.types.Ty.{including}
use Rattle.types_spec.specs.types.Ty.{depth}
use Rattle.types_spec.specs.types.Declarations.{predeclared, declaration_of, arity_of, abbreviated}
use Rattle.types_spec.specs.types.Head.{tags_in, head}
use Rattle.types_spec.specs.types.Shape.{shape, types_of_fields}

-- ---- types that the grammar can write

abbrev pub IsVariable : Ty → Type 0
IsVariable (variable name) = Unit {0}
IsVariable t = ⊥

-- The type is a name, a tuple or a bracket, with or without parts. The parts of a type extend a
-- name, a tuple or a bracket, but never a variable.
abbrev pub IsWhole : Ty → Type 0
IsWhole (variable name) = ⊥
IsWhole (named name) = Unit {0}
IsWhole tuple = Unit {0}
IsWhole bracket = Unit {0}
IsWhole (part whole added) = IsWhole whole × (IsVariable added ⊎ IsWhole added)
IsWhole (tag whole name) = IsWhole whole
IsWhole (tag_of whole name argument) = IsWhole whole × (IsVariable argument ⊎ IsWhole argument)
IsWhole (including whole included) = IsWhole whole × (IsVariable included ⊎ IsWhole included)

abbrev pub IsType : Ty → Type 0
IsType t = IsVariable t ⊎ IsWhole t

-- ---- ranks

-- The names that a type uses outside tag arguments.
abbrev pub names_outside : Ty → List (List ℕ)
names_outside (variable x) = []
names_outside (named name) = name ∷ []
names_outside tuple = []
names_outside bracket = []
names_outside (part whole added) = names_outside whole ++ names_outside added
names_outside (tag whole x) = names_outside whole
names_outside (tag_of whole x argument) = names_outside whole
names_outside (including whole included) = names_outside whole ++ names_outside included

-- A ranking of names: the rank of each abbreviation is greater than the ranks of all names that the
-- abbreviation uses outside tag arguments.
pub record IsRanking (decls : List Decl) (rank : List ℕ → ℕ) : Type 0 where
  pub bounded : (name : List ℕ) → rank name ≤ length decls
  pub positive :
      (name : List ℕ) (d : Decl) (t : Ty)
      → declaration_of decls name ≡ Some d → abbreviated d.body ≡ Some t → 0 < rank name
  pub falls :
      (name : List ℕ) (d : Decl) (t : Ty)
      → declaration_of decls name ≡ Some d → abbreviated d.body ≡ Some t
      → (other : List ℕ) → Contains (names_outside t) other → rank other < rank name

-- ---- the types that are written in declarations

abbrev pub types_of_arguments : Arguments → List Ty
types_of_arguments arguments.Constant = []
types_of_arguments (arguments.Listed types) = types
types_of_arguments (arguments.Inline fields) = types_of_fields fields

abbrev pub types_of_body : Body → List Ty
types_of_body (bodies.Abbreviation t) = t ∷ []
types_of_body (bodies.Record fields) = types_of_fields fields
types_of_body (bodies.Variant constructors) =
    flat_map (λ (constructor : Constructor). types_of_arguments constructor.arguments) constructors

-- The consequences of the scope rules and of the depth limit. No abbreviation expands to itself.
-- Each declared type follows the grammar and is at most 200 deep.
pub record AreSound (decls : List Decl) : Type 0 where
  pub rank : List ℕ → ℕ
  pub ranking : IsRanking decls rank
  pub written :
      (name : List ℕ) (d : Decl) (t : Ty)
      → declaration_of decls name ≡ Some d → Contains (types_of_body d.body) t
      → IsType t × (depth t ≤ 200)

-- ---- well-formed types

-- If `k` more arguments follow the type, then all names in the type are known, and each name has
-- the right number of arguments.
abbrev pub TakeArguments : List Decl → ℕ → Ty → Type 0
TakeArguments decls k (variable x) = Unit {0}
TakeArguments decls k (named name) = arity_of decls name ≡ Some k
TakeArguments decls k tuple = Unit {0}
TakeArguments decls k bracket = Unit {0}
TakeArguments decls k (part whole added) =
    TakeArguments decls (suc k) whole × TakeArguments decls 0 added
TakeArguments decls k (tag whole x) = TakeArguments decls 0 whole
TakeArguments decls k (tag_of whole x argument) =
    TakeArguments decls 0 whole × TakeArguments decls 0 argument
TakeArguments decls k (including whole included) =
    TakeArguments decls 0 whole × TakeArguments decls 0 included

-- Each variable of the type is one of `names`.
abbrev pub VariablesAmong : List (List ℕ) → Ty → Type 0
VariablesAmong names (variable x) = Contains names x
VariablesAmong names (named name) = Unit {0}
VariablesAmong names tuple = Unit {0}
VariablesAmong names bracket = Unit {0}
VariablesAmong names (part whole added) = VariablesAmong names whole × VariablesAmong names added
VariablesAmong names (tag whole x) = VariablesAmong names whole
VariablesAmong names (tag_of whole x argument) =
    VariablesAmong names whole × VariablesAmong names argument
VariablesAmong names (including whole included) =
    VariablesAmong names whole × VariablesAmong names included

abbrev pub AreVariants : HeadOf Ty → Type 0
AreVariants (heads.Variants tags) = Unit {0}
AreVariants other = ⊥

-- Two tags of `tags` with the same hash have the same name.
abbrev pub HaveOwnHashes : List (TagOf Ty) → Type 0
HaveOwnHashes tags =
    (one other : TagOf Ty) → Contains tags one → Contains tags other
    → tag_hash one.name ≡ tag_hash other.name → one.name ≡ other.name

-- Distinct tags in the head of `t` have distinct hashes.
abbrev pub IsHashed : List Decl → Ty → Type 0
IsHashed decls t = HaveOwnHashes (tags_in (head decls t))

-- Each bracket in the type includes polymorphic variants only, and its distinct tags have distinct
-- hashes.
abbrev pub HasSoundBrackets : List Decl → Ty → Type 0
HasSoundBrackets decls (variable x) = Unit {0}
HasSoundBrackets decls (named name) = Unit {0}
HasSoundBrackets decls tuple = Unit {0}
HasSoundBrackets decls bracket = Unit {0}
HasSoundBrackets decls (part whole added) =
    HasSoundBrackets decls whole × HasSoundBrackets decls added
HasSoundBrackets decls (tag whole x) = HasSoundBrackets decls whole × IsHashed decls (tag whole x)
HasSoundBrackets decls (tag_of whole x argument) =
    HasSoundBrackets decls whole × HasSoundBrackets decls argument
    × IsHashed decls (tag_of whole x argument)
HasSoundBrackets decls (including whole included) =
    HasSoundBrackets decls whole × HasSoundBrackets decls included
    × AreVariants (head decls included) × IsHashed decls (including whole included)

-- A valid type over declarations: the type follows the grammar and breaks no scope rule.
pub record IsSoundType (decls : List Decl) (t : Ty) : Type 0 where
  pub written : IsType t
  pub arguments : TakeArguments decls 0 t
  pub brackets : HasSoundBrackets decls t

-- Declarations that break no scope rule.
pub record AreWellFormed (decls : List Decl) : Type 0 where
  pub sound : AreSound decls
  pub new_names :
      (name : List ℕ) (d : Decl) → declaration_of decls name ≡ Some d → predeclared name ≡ None
  pub types :
      (name : List ℕ) (d : Decl) (t : Ty)
      → declaration_of decls name ≡ Some d → Contains (types_of_body d.body) t
      → IsSoundType decls t
  pub variables :
      (name : List ℕ) (d : Decl) (t : Ty)
      → declaration_of decls name ≡ Some d → Contains (types_of_body d.body) t
      → VariablesAmong d.parameters t

-- ---- hashes of reached types

-- If two of `tags` have the same hash, then the two tags are equal.
abbrev pub AreHashed : {T : Type 0} → List (PolyTag T) → Type 0
AreHashed {T} tags =
    (one other : PolyTag T) → Contains tags one → Contains tags other
    → one.hash ≡ other.hash → one ≡ other

-- If the head of one of `types` is a polymorphic variant, then tags of the variant with the same
-- hash are equal.
abbrev pub AreKnownByHash : List Decl → List Ty → Type 0
AreKnownByHash decls types =
    (t : Ty) (tags : List (PolyTag Ty)) → Contains types t
    → shape decls t ≡ shapes.Poly tags → AreHashed tags
