-- The property that nodes refer to earlier nodes only has at most one proof.
use Rattle.std.specs.Prelude.{ℕ, List}
use Rattle.std.specs.Coded.{×_prop, Π_prop, Unit-prop, le_prop}
use Rattle.types_spec.specs.declared.types.ty.TypeTreeNode.{TypeTreeNode}
use Rattle.types_spec.specs.declared.types.ty.TypeTreeNode.TheVariants as nodes
use Rattle.types_spec.specs.types.TypeNodes.{IsBelow, AreOrdered}

pub IsBelow-prop : (n : ℕ) (node : TypeTreeNode) → IsProp (IsBelow n node)
IsBelow-prop n (nodes.Variable name) = Unit-prop
IsBelow-prop n (nodes.Named name) = Unit-prop
IsBelow-prop n nodes.Tuple = Unit-prop
IsBelow-prop n nodes.Bracket = Unit-prop
IsBelow-prop n (nodes.Part whole added) = ×_prop le_prop le_prop
IsBelow-prop n (nodes.Tag whole name) = le_prop
IsBelow-prop n (nodes.TagOf whole name argument) = ×_prop le_prop le_prop
IsBelow-prop n (nodes.Including whole included) = ×_prop le_prop le_prop

pub AreOrdered-prop : (all : List TypeTreeNode) → IsProp (AreOrdered all)
AreOrdered-prop all = Π_prop (λ i. Π_prop (λ node. Π_prop (λ there. IsBelow-prop i node)))
