-- The certificate entry that a check writes for a value.
use Rattle.std.specs.Prelude.{List}
use Rattle.base_data.specs.declared.model.value.Val.{Val}
use Rattle.base_data.specs.declared.model.value.Obj.{Obj}
use Rattle.types_spec.specs.declared.types.fault.Fault.TheVariants as faults
use Rattle.types_spec.specs.types.LeastFault.{IsLeastFault}
use Rattle.types_spec.specs.types.Table.{Table, table_shapes}
use Rattle.types_spec.specs.types.Typing.{HasType}
use Rattle.cert_format.specs.declared.section.Section.{Section}
use Rattle.cert_format.specs.declared.section.Section.TheVariants as sections
use Rattle.cert_verify.specs.certificate.Normal.{AreReached}

-- The certificate entry certifies the value. If the value has type 0, the entry contains the pairs
-- that paths reach, in the order of an entry. If not, the entry contains the value's least fault.
abbrev pub IsCertified : Table → List Obj → Val → Section → Type 0
IsCertified table graph root (sections.Pairs pairs) =
    HasType (table_shapes table) graph root 0 × AreReached table graph root pairs
IsCertified table graph root (sections.Mismatch path) =
    IsLeastFault (table_shapes table) graph root 0 (faults.Mismatch path)
IsCertified table graph root (sections.Conflict first second) =
    IsLeastFault (table_shapes table) graph root 0 (faults.Conflict first second)
