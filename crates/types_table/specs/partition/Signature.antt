-- The signature of a head, as a list of numbers.
use Rattle.std.specs.Prelude.{ℕ, ◌≡◌, ◌+◌, ◌*◌, ◌<◌, List, ◌++◌, Option, Some, None, map, Contains}
use Rattle.std.specs.List.{AllZip}
use Rattle.std.specs.List.Sorted.{IsStrictlyIncreasing}
use Rattle.types_table.specs.declared.partition.head_form.TagForm.{TagForm}
use Rattle.types_table.specs.declared.partition.head_form.HeadForm.{HeadForm}
use Rattle.types_table.specs.declared.partition.signature.TheConstants.{WIDTH}

-- `set` contains exactly the elements of `numbers`, in strictly increasing order.
pub record IsSetOf (numbers set : List ℕ) : Type 0 where
  pub increasing : IsStrictlyIncreasing set
  pub there : (x : ℕ) → Contains numbers x → Contains set x
  pub back : (x : ℕ) → Contains set x → Contains numbers x

-- For a tag without an argument, 0. For a tag with an argument, the argument's class plus 1.
abbrev pub offset : (ℕ → ℕ) → Option ℕ → ℕ
offset class None = 0
offset class (Some argument) = class argument + 1

-- The code of a tag: one number for the tag's name and the class of the tag's argument.
pub record IsCode (class : ℕ → ℕ) (tag : TagForm) (code : ℕ) : Type 0 where
  pub below : offset class tag.argument < WIDTH
  pub is : code ≡ tag.name * WIDTH + offset class tag.argument

abbrev pub AreCodes : (ℕ → ℕ) → List TagForm → List ℕ → Type 0
AreCodes class = AllZip (IsCode class)

-- The signature of a form: the label, the classes of the parts, and the set of the codes of the
-- tags.
pub record IsSignature (class : ℕ → ℕ) (form : HeadForm) (signature : List ℕ) : Type 0 where
  pub codes : List ℕ
  pub are : AreCodes class form.tags codes
  pub set : List ℕ
  pub once : IsSetOf codes set
  pub is : signature ≡ form.label ++ map class form.parts ++ set
