-- The meanings of names, and the expansion of abbreviations (the OCaml manual, "Type definitions").
use Rattle.std.specs.Prelude.{ℕ, zero, suc, ◌≡◌, List, Option, Some, None, option_map}
use Rattle.std.specs.Prelude.{option_and_then, find, length}
use Rattle.std.specs.Str.{bytes_eq}
use Rattle.types_spec.specs.declared.types.decl.Predeclared.{Predeclared}
use Rattle.types_spec.specs.declared.types.decl.Predeclared.TheVariants as bases
use Rattle.types_spec.specs.declared.types.decl.Body.{Body}
use Rattle.types_spec.specs.declared.types.decl.Body.TheVariants as bodies
use Rattle.types_spec.specs.declared.types.decl.Decl.{Decl}
use Rattle.types_spec.specs.types.Predeclared.{rows, predeclared_from, sum_parameters, sum_at}
use Rattle.types_spec.specs.types.Ty.{Ty, name_of, parts, instance, argument_for}

-- ---- names

-- The predeclared type with this name: the type that the row with the name denotes.
unfoldable pub predeclared : List ℕ → Option Predeclared
predeclared name = predeclared_from 0 rows name

-- The declaration of the name `name`. Accepted declarations have distinct names, and no accepted
-- declaration has a predeclared name.
abbrev pub declaration_of : List Decl → List ℕ → Option Decl
declaration_of decls name = find (λ (decl : Decl). bytes_eq decl.name name) decls

abbrev pub predeclared_arity : Predeclared → ℕ
predeclared_arity bases.Array = 1
predeclared_arity (bases.Sum k) = sum_parameters (sum_at k)
predeclared_arity base = 0

abbrev pub arity_in : Option Predeclared → Option Decl → Option ℕ
arity_in (Some base) decl = Some (predeclared_arity base)
arity_in None decl = option_map (λ (d : Decl). length d.parameters) decl

-- The number of arguments that a name takes, or `None` if the name is unknown.
abbrev pub arity_of : List Decl → List ℕ → Option ℕ
arity_of decls name = arity_in (predeclared name) (declaration_of decls name)

-- ---- abbreviations

-- The type `t` of the declaration, in which `arguments` replace the declaration's parameters.
abbrev pub instance_of : Decl → List Ty → Ty → Ty
instance_of decl arguments t = instance (argument_for decl.parameters arguments) t

-- The type that the body abbreviates, if the body is an abbreviation.
abbrev pub abbreviated : Body → Option Ty
abbreviated (bodies.Abbreviation t) = Some t
abbreviated (bodies.Record fields) = None
abbreviated (bodies.Variant constructors) = None

abbrev pub abbreviated_at : Option Decl → List Ty → Option Ty
abbreviated_at None arguments = None
abbreviated_at (Some decl) arguments =
    option_map (instance_of decl arguments) (abbreviated decl.body)

abbrev pub abbreviated_by : List Decl → Option (List ℕ) → List Ty → Option Ty
abbreviated_by decls None arguments = None
abbreviated_by decls (Some name) arguments = abbreviated_at (declaration_of decls name) arguments

-- The expansion of the abbreviation at the head of a type, or `None` if no abbreviation is at the
-- head.
abbrev pub unfolded : List Decl → Ty → Option Ty
unfolded decls t = abbreviated_by decls (name_of t) (parts t)

-- The type after the given number of expansions at its head, or `None` if there are fewer
-- expansions.
abbrev pub unfolded_times : List Decl → ℕ → Ty → Option Ty
unfolded_times decls zero t = Some t
unfolded_times decls (suc n) t = option_and_then (unfolded_times decls n) (unfolded decls t)

-- `u` results from `t` by expansions at the head, and no abbreviation is at the head of `u`.
pub record IsExpanded (decls : List Decl) (t u : Ty) : Type 0 where
  pub times : ℕ
  pub replaced : unfolded_times decls times t ≡ Some u
  pub ended : unfolded decls u ≡ None
