-- Declarations and types whose names are lexemes, as in types and declarations of accepted texts.
use Rattle.std.specs.Prelude.{ℕ, suc, ◌<◌, ◌≤◌, ◌≡◌, ◌≢◌, List, [], ◌∷◌, length}
use Rattle.std.specs.List.{AllByRecursion}
use Rattle.types_lex.specs.Lexeme.{Lower, Upper, Tag, IsForm}
use Rattle.types_spec.specs.declared.types.decl.Field.{Field}
use Rattle.types_spec.specs.declared.types.decl.Arguments.{Arguments}
use Rattle.types_spec.specs.declared.types.decl.Arguments.TheVariants as arguments
use Rattle.types_spec.specs.declared.types.decl.Constructor.{Constructor}
use Rattle.types_spec.specs.declared.types.decl.Body.{Body}
use Rattle.types_spec.specs.declared.types.decl.Body.TheVariants as bodies
use Rattle.types_spec.specs.declared.types.decl.Decl.{Decl}
use Rattle.types_spec.specs.types.Ty.{Ty, variable, named, tuple, bracket, part, tag, tag_of}
use Rattle.types_spec.specs.types.Ty.{including}

-- Each tag of the type is a lexeme, and each tuple has at least two components, if `k` more parts
-- follow the type.
abbrev pub IsSpoken : ℕ → Ty → Type 0
IsSpoken k (variable x) = k ≡ 0
IsSpoken k (named n) = Unit {0}
IsSpoken k tuple = 2 ≤ k
IsSpoken k bracket = Unit {0}
IsSpoken k (part whole added) = IsSpoken (suc k) whole × IsSpoken 0 added
IsSpoken k (tag whole x) = IsSpoken 0 whole × IsForm (Tag x)
IsSpoken k (tag_of whole x argument) = IsSpoken 0 whole × IsForm (Tag x) × IsSpoken 0 argument
IsSpoken k (including whole included) = IsSpoken 0 whole × IsSpoken 0 included

abbrev pub IsSpokenField : Field → Type 0
IsSpokenField field = IsForm (Lower field.name) × IsSpoken 0 field.ty

abbrev pub AreSpokenArguments : Arguments → Type 0
AreSpokenArguments arguments.Constant = Unit {0}
AreSpokenArguments (arguments.Listed types) = AllByRecursion (IsSpoken 0) types
AreSpokenArguments (arguments.Inline fields) = AllByRecursion IsSpokenField fields

abbrev pub IsSpokenConstructor : Constructor → Type 0
IsSpokenConstructor constructor =
    IsForm (Upper constructor.name) × AreSpokenArguments constructor.arguments

-- The keys of all elements are distinct.
module _ {X : Type 0} (key : X → List ℕ) where
  abbrev pub AreOnce : List X → Type 0
  AreOnce [] = Unit {0}
  AreOnce (x ∷ xs) = AllByRecursion (λ y. key y ≢ key x) xs × AreOnce xs

abbrev pub IsSpokenBody : Body → Type 0
IsSpokenBody (bodies.Abbreviation t) = IsSpoken 0 t
IsSpokenBody (bodies.Record fields) = (0 < length fields) × AllByRecursion IsSpokenField fields
IsSpokenBody (bodies.Variant constructors) =
    AreOnce (λ (c : Constructor). c.name) constructors
    × AllByRecursion IsSpokenConstructor constructors

abbrev pub AreSpoken : List Decl → Type 0
AreSpoken decls = AllByRecursion (λ (d : Decl). IsSpokenBody d.body) decls
