-- Heads whose names are replaced by numbers.
use Rattle.std.specs.Prelude.{ℕ, ◌≡◌, List, [], ◌∷◌, Some, slice_get}
use Rattle.std.specs.List.{AllZip}
use Rattle.types_spec.specs.declared.types.decl.Predeclared.{Predeclared}
use Rattle.types_spec.specs.declared.types.decl.Predeclared.TheVariants as bases
use Rattle.types_spec.specs.declared.types.head.TagOf.{TagOf}
use Rattle.types_spec.specs.declared.types.head.HeadOf.{HeadOf}
use Rattle.types_spec.specs.declared.types.head.HeadOf.TheVariants as heads
use Rattle.types_table.specs.store.Held.{AreDistinct}
use Rattle.types_table.specs.declared.partition.head_form.TagForm.{TagForm}
use Rattle.types_table.specs.declared.partition.head_form.HeadForm.{HeadForm}

-- The number of the kind of a predeclared type. All variants have one number.
abbrev pub code_of : Predeclared → ℕ
code_of bases.Int = 0
code_of bases.Char = 1
code_of bases.Bool = 2
code_of bases.Unit = 3
code_of bases.String = 4
code_of bases.Bytes = 5
code_of bases.Float = 6
code_of bases.Int32 = 7
code_of bases.Int64 = 8
code_of bases.Nativeint = 9
code_of bases.Floatarray = 10
code_of bases.Array = 11
code_of bases.Any = 12
code_of (bases.Sum k) = 13

-- The row of a predeclared variant, or 0 for a predeclared type that is no variant.
abbrev pub row_of : Predeclared → ℕ
row_of (bases.Sum k) = k
row_of base = 0

-- The form of a tag has the number of the tag's name, and the tag's argument.
pub record IsTagForm (names : List (List ℕ)) (tag : TagOf ℕ) (form : TagForm) : Type 0 where
  pub name : slice_get names form.name ≡ Some tag.name
  pub argument : tag.argument ≡ form.argument

abbrev pub AreTagForms : List (List ℕ) → List (TagOf ℕ) → List TagForm → Type 0
AreTagForms names = AllZip (IsTagForm names)

-- The form has the label `says`, the parts `ts` and no tags.
pub record IsPlain (says ts : List ℕ) (form : HeadForm) : Type 0 where
  pub label : form.label ≡ says
  pub parts : form.parts ≡ ts
  pub tags : form.tags ≡ []

-- The label of the form is `kind` and a number for `name`. The form has the parts `parts` and no
-- tags.
abbrev pub IsNamed : List (List ℕ) → ℕ → List ℕ → List ℕ → HeadForm → Type 0
IsNamed names kind name parts form =
    (number : ℕ) × (slice_get names number ≡ Some name) × IsPlain (kind ∷ number ∷ []) parts form

-- The form has the label 4, no parts, and the forms of the tags `all`.
pub record IsTagged (names : List (List ℕ)) (all : List (TagOf ℕ)) (form : HeadForm) : Type 0 where
  pub label : form.label ≡ 4 ∷ []
  pub parts : form.parts ≡ []
  pub tags : AreTagForms names all form.tags

-- The form of a head. `names` maps the numbers to names.
abbrev pub IsForm : List (List ℕ) → HeadOf ℕ → HeadForm → Type 0
IsForm names (heads.Variable name) form = IsNamed names 0 name [] form
IsForm names (heads.Predeclared base parts) form =
    IsPlain (1 ∷ code_of base ∷ row_of base ∷ []) parts form
IsForm names (heads.Datatype name parts) form = IsNamed names 2 name parts form
IsForm names (heads.Tuple parts) form = IsPlain (3 ∷ []) parts form
IsForm names (heads.Variants tags) form = IsTagged names tags form
IsForm names heads.Absent form = IsPlain (5 ∷ []) [] form

-- `forms` are the forms of the heads `all`, in order. All forms use one numbering of names.
pub record AreForms (all : List (HeadOf ℕ)) (forms : List HeadForm) : Type 0 where
  pub names : List (List ℕ)
  pub distinct : AreDistinct names
  pub are : AllZip (IsForm names) all forms
