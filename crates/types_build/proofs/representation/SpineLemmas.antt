-- Lemmas about the name and the parts of a type, given the type's node.
use Rattle.std.proofs.Common.{ℕ, ◌-◌, ◌<◌, ◌≡◌, ◌∙◌, List, [], ◌∷◌, ◌++◌, length, map, reverse, Some, refl, sym, ap, subst, All, arith}
use Rattle.std.specs.Prelude.{slice_get}
use Rattle.std.proofs.lemmas.List.{append_assoc, reverse-append, length-reverse, get_or-reverse}
use Rattle.std.proofs.lemmas.Option.{get_or_from_slice_get}
use Rattle.types_spec.specs.types.Ty.{Ty, tuple, part, parts}
use Rattle.types_spec.specs.declared.types.ty.TypeTreeNode.{TypeTreeNode}
use Rattle.types_spec.specs.types.TypeNodes.{type_at, type_of_node}
use Rattle.types_table.specs.declared.store.stored_node.TypeNode.{TypeNode}
use Rattle.types_table.specs.declared.store.stored_node.TypeNode.TheVariants as borrowed
use Rattle.types_table.specs.store.BorrowedNode.{written_of}
use Rattle.types_build.specs.representation.PlainHeads.{root_of}

pub type_at-node : (types : List Ty) (i : ℕ) (node : TypeTreeNode) → slice_get types i ≡ Some (type_of_node types node) → type_at types i ≡ type_of_node types node
type_at-node types i node is = get_or_from_slice_get types i (type_of_node types node) tuple is

pub parts-step :
    (types : List Ty) (at whole added : ℕ) (found : List ℕ) (all : List Ty)
    → type_at types at ≡ part (type_at types whole) (type_at types added)
    → parts (type_at types at) ++ map (type_at types) (reverse found) ≡ all
    → parts (type_at types whole) ++ map (type_at types) (reverse (found ++ added ∷ [])) ≡ all
parts-step types at whole added found all is so_far =
    ap (λ ns. parts (type_at types whole) ++ map (type_at types) ns) (reverse-append found (added ∷ []))
    ∙ sym (append_assoc (parts (type_at types whole)) (type_at types added ∷ []) (map (type_at types) (reverse found)))
    ∙ ap (λ t. parts t ++ map (type_at types) (reverse found)) (sym is)
    ∙ so_far

-- If the node of a type adds no part, then the type has no parts.
pub parts-end :
    (types : List Ty) (node : TypeNode) → ((whole added : ℕ) → node ≡ borrowed.Part whole added → ⊥)
    → parts (type_of_node types (written_of node)) ≡ []
parts-end types (borrowed.Variable name) never = refl
parts-end types (borrowed.Named name) never = refl
parts-end types borrowed.Tuple never = refl
parts-end types borrowed.Bracket never = refl
parts-end types (borrowed.Part whole added) never = absurd (never whole added refl)
parts-end types (borrowed.Tag whole name) never = refl
parts-end types (borrowed.TagOf whole name argument) never = refl
parts-end types (borrowed.Including whole included) never = refl

pub All-reverse :
    {A : Type 0} (P : A → Type 0) (xs : List A) → All P xs → All P (reverse xs)
All-reverse P xs all k d within =
    let inside : k < length xs = omega (arith, length-reverse xs) in
    subst P (sym (get_or-reverse xs k d inside)) (all (length xs - 1 - k) d (omega arith))

pub root-end :
    (types : List Ty) (node : TypeNode) → ((whole added : ℕ) → node ≡ borrowed.Part whole added → ⊥)
    → root_of (type_of_node types (written_of node)) ≡ type_of_node types (written_of node)
root-end types (borrowed.Variable name) never = refl
root-end types (borrowed.Named name) never = refl
root-end types borrowed.Tuple never = refl
root-end types borrowed.Bracket never = refl
root-end types (borrowed.Part whole added) never = absurd (never whole added refl)
root-end types (borrowed.Tag whole name) never = refl
root-end types (borrowed.TagOf whole name argument) never = refl
root-end types (borrowed.Including whole included) never = refl
