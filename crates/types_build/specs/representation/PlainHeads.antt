-- Heads that follow from a type as written, without the heads of other types.
use Rattle.std.specs.Prelude.{ℕ, ◌≡◌, List, [], ◌∷◌, Option, Some, None, slice_get}
use Rattle.types_spec.specs.declared.types.decl.Predeclared.{Predeclared}
use Rattle.types_spec.specs.declared.types.head.HeadOf.{HeadOf}
use Rattle.types_spec.specs.declared.types.head.HeadOf.TheVariants as heads
use Rattle.types_spec.specs.declared.types.ty.TypeTreeNode.{TypeTreeNode}
use Rattle.types_spec.specs.declared.types.ty.TypeTreeNode.TheVariants as nodes
use Rattle.types_spec.specs.types.Declarations.{predeclared}
use Rattle.types_spec.specs.types.Ty.{Ty, bracket, part, tag, tag_of, including}
use Rattle.types_spec.specs.types.Head.{plain_head}
use Rattle.types_spec.specs.types.Table.{head_with_parts}

-- The type without its arguments or components.
abbrev pub root_of : Ty → Ty
root_of (part whole added) = root_of whole
root_of t = t

-- The type is a bracket, with or without tags.
abbrev pub IsBracketed : Ty → Type 0
IsBracketed bracket = Unit {0}
IsBracketed (tag whole name) = Unit {0}
IsBracketed (tag_of whole name argument) = Unit {0}
IsBracketed (including whole included) = Unit {0}
IsBracketed t = ⊥

-- The head `h` over type indices is the head of the type `t` as written. The head does not depend
-- on the heads of included types.
abbrev pub IsPlainHead : List Ty → Ty → HeadOf ℕ → Type 0
IsPlainHead types t h =
    (head : Ty → HeadOf Ty)
    → head_with_parts (slice_get types) h ≡ head_with_parts Some (plain_head head t)

-- ---- from the root and the indices of the parts

abbrev pub meant_with : Option Predeclared → List ℕ → List ℕ → HeadOf ℕ
meant_with (Some base) name numbers = heads.Predeclared base numbers
meant_with None name numbers = heads.Datatype name numbers

-- The head of a type, given the root node of the type and the indices of the type's parts. The
-- result is `None` for a bracket. Only names and tuples have parts.
abbrev pub head_of_root : TypeTreeNode → List ℕ → Option (HeadOf ℕ)
head_of_root (nodes.Named name) numbers = Some (meant_with (predeclared name) name numbers)
head_of_root nodes.Tuple numbers = Some (heads.Tuple numbers)
head_of_root (nodes.Variable name) [] = Some (heads.Variable name)
head_of_root other [] = None
head_of_root other (number ∷ numbers) = Some heads.Absent
