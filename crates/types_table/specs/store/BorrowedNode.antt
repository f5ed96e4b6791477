-- Converts a node as callers read it (`TypeNode`) to a node of a type (`Node`).
use Rattle.types_spec.specs.declared.types.ty.TypeTreeNode.{TypeTreeNode as Written}
use Rattle.types_spec.specs.declared.types.ty.TypeTreeNode.TheVariants as written
use Rattle.types_table.specs.declared.store.stored_node.TypeNode.{TypeNode}
use Rattle.types_table.specs.declared.store.stored_node.TypeNode.TheVariants as borrowed

abbrev pub written_of : TypeNode → Written
written_of (borrowed.Variable name) = written.Variable name.now
written_of (borrowed.Named name) = written.Named name.now
written_of borrowed.Tuple = written.Tuple
written_of borrowed.Bracket = written.Bracket
written_of (borrowed.Part whole added) = written.Part whole added
written_of (borrowed.Tag whole name) = written.Tag whole name.now
written_of (borrowed.TagOf whole name argument) = written.TagOf whole name.now argument
written_of (borrowed.Including whole included) = written.Including whole included
