-- When a certificate entry is accepted for a value. The entry justifies itself, so no search is
-- needed. The design is this project's own, after Henry, Mauny, Chailloux and Manoury 2012.
use Rattle.std.specs.Prelude.{ℕ, List}
use Rattle.base_data.specs.declared.model.value.Val.{Val}
use Rattle.base_data.specs.declared.model.value.Obj.{Obj}
use Rattle.types_spec.specs.declared.types.fault.Fault.TheVariants as faults
use Rattle.types_spec.specs.types.Shapes.{Shapes}
use Rattle.types_spec.specs.types.Fault.{IsFault}
use Rattle.types_spec.specs.types.Table.{Table, table_shapes}
use Rattle.types_spec.specs.types.Typing.{IsTyping, IsHeld}
use Rattle.cert_format.specs.declared.section.Section.{Section}
use Rattle.cert_format.specs.declared.section.Section.TheVariants as sections

-- The pairs justify one another, and hold the value at the type. A value is held if it fits and, if
-- the value is a reference, its object is among the pairs at an equal type.
pub record AreAccepted {T : Type 0} (shapes : Shapes T) (graph : List Obj) (root : Val) (t : T)
    (pairs : List (ℕ × T)) : Type 0 where
  pub typing : IsTyping shapes graph pairs
  pub held : IsHeld shapes graph pairs root t

-- The pairs are accepted at type 0, or the paths are a fault at type 0.
abbrev pub IsAccepted : Table → List Obj → Val → Section → Type 0
IsAccepted table graph root (sections.Pairs pairs) =
    AreAccepted (table_shapes table) graph root 0 pairs
IsAccepted table graph root (sections.Mismatch path) =
    IsFault (table_shapes table) graph root 0 (faults.Mismatch path)
IsAccepted table graph root (sections.Conflict first second) =
    IsFault (table_shapes table) graph root 0 (faults.Conflict first second)
