-- Declared types that become wildcards wherever they occur (this project's own).
use Rattle.std.specs.Prelude.{ℕ, ◌≡◌, Bool, true, false, ◌||◌, if◌then◌else◌, List, [], map}
use Rattle.std.specs.Prelude.{Some, None}
use Rattle.std.specs.Prelude.{codes}
use Rattle.types_spec.specs.declared.types.decl.Predeclared.TheVariants as bases
use Rattle.types_spec.specs.declared.types.decl.Field.{Field}
use Rattle.types_spec.specs.declared.types.decl.Body.{Body}
use Rattle.types_spec.specs.declared.types.decl.Body.TheVariants as bodies
use Rattle.types_spec.specs.declared.types.decl.Decl.{Decl}
use Rattle.types_spec.specs.declared.types.head.HeadOf.{HeadOf}
use Rattle.types_spec.specs.declared.types.head.HeadOf.TheVariants as heads
use Rattle.types_spec.specs.types.WellFormed.{AreWellFormed}
use Rattle.types_spec.specs.types.Declarations.{declaration_of, abbreviated}
use Rattle.types_spec.specs.types.Equal.{declared_shapes}
use Rattle.types_spec.specs.types.Head.{head}
use Rattle.types_spec.specs.types.Scope.{is_mixed, is_mixed_by}
use Rattle.types_spec.specs.types.Shape.{is_float, is_wildcard}
use Rattle.types_spec.specs.types.Ty.{Ty, named}
use Rattle.types_theory.specs.wildcard.Weaker.{HasMore}

abbrev pub wildcard_body : Bool → Body → Body
wildcard_body true body = bodies.Abbreviation (named (codes "_"))
wildcard_body false body = body

-- The declarations in which each type with a hidden name has the body `_`, as in `type name = _`.
abbrev pub hide : (List ℕ → Bool) → List Decl → List Decl
hide hides decls = map (λ (d : Decl). record d { body = wildcard_body (hides d.name) d.body }) decls

-- `name` is the name of a declared record or variant.
pub record IsDatatype (decls : List Decl) (name : List ℕ) : Type 0 where
  pub decl : Decl
  pub declared : declaration_of decls name ≡ Some decl
  pub no_abbreviation : abbreviated decl.body ≡ None

-- Each hidden name is the name of a declared record or variant. If only an abbreviation of a type
-- were hidden, equal types would become unequal. For example, let `type p = int ref` be hidden. An
-- object that occurs at `p ref` and at `int ref ref` would cause an aliasing conflict at `_ ref`.
-- An undeclared name has no body that could be hidden.
abbrev pub HidesDatatypes : (List ℕ → Bool) → List Decl → Type 0
HidesDatatypes hides decls = (name : List ℕ) → hides name ≡ true → IsDatatype decls name

-- The head of `_` if `head` is a hidden type, and `head` for every other head.
abbrev pub wildcard_head : (List ℕ → Bool) → HeadOf Ty → HeadOf Ty
wildcard_head hides (heads.Datatype name ts) =
    if hides name then heads.Predeclared bases.Any [] else heads.Datatype name ts
wildcard_head hides other = other

-- After hiding, the head of each type is the earlier head, or the head of `_` if the earlier head
-- is a hidden type.
abbrev pub HeadsAreWildcard : Type 0
HeadsAreWildcard =
    (decls : List Decl) (hides : List ℕ → Bool) → AreWellFormed decls → HidesDatatypes hides decls
    → (t : Ty) → head (hide hides decls) t ≡ wildcard_head hides (head decls t)

-- If declared types are hidden, each value keeps its types.
abbrev pub WildcardIsWeaker : Type 0
WildcardIsWeaker =
    (decls : List Decl) (hides : List ℕ → Bool) → AreWellFormed decls → HidesDatatypes hides decls
    → HasMore (declared_shapes (hide hides decls)) (declared_shapes decls)

abbrev pub is_hidden_head : (List ℕ → Bool) → HeadOf Ty → Bool
is_hidden_head hides (heads.Datatype name ts) = hides name
is_hidden_head hides other = false

-- The type expands to `_` or to a hidden type.
abbrev pub becomes_wildcard : (List ℕ → Bool) → List Decl → Ty → Bool
becomes_wildcard hides decls t = is_wildcard decls t || is_hidden_head hides (head decls t)

-- After hiding, a record is mixed exactly if each field expands to `float`, to `_` or to a hidden
-- type, and at least one field expands to `float`, and at least one field does not. No file may
-- declare a mixed record. If hiding makes a record mixed, the record must be hidden too.
abbrev pub HidingMixesRecords : Type 0
HidingMixesRecords =
    (decls : List Decl) (hides : List ℕ → Bool) → AreWellFormed decls → HidesDatatypes hides decls
    → (fields : List Field)
    → is_mixed (hide hides decls) fields
    ≡ is_mixed_by (is_float decls) (becomes_wildcard hides decls) fields
