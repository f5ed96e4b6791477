-- The users of a number: the numbers whose heads have it as a part.
use Rattle.std.specs.Prelude.{ℕ, ◌≡◌, ◌<◌, List, ◌++◌, length, Some, slice_get, Contains}
use Rattle.std.specs.List.{flat_map}
use Rattle.std.specs.Global.{Vec}
use Rattle.types_spec.specs.types.Reached.{listed_if}
use Rattle.types_table.specs.declared.partition.head_form.TagForm.{TagForm}
use Rattle.types_table.specs.declared.partition.head_form.HeadForm.{HeadForm}
use Rattle.types_table.specs.partition.Lists.{Has}

-- The parts of a form and the arguments of its tags.
abbrev pub parts_in : HeadForm → List ℕ
parts_in form = form.parts ++ flat_map (λ (tag : TagForm). listed_if tag.argument) form.tags

-- The users of a number include all numbers whose heads have the number as a part.
pub record AreUsers (forms : List HeadForm) (users : List (Vec ℕ)) : Type 0 where
  pub many : length users ≡ length forms
  pub has :
      (i k : ℕ) (form : HeadForm) → slice_get forms i ≡ Some form → Contains (parts_in form) k
      → k < length forms → Has users k i
