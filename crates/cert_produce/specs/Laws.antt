-- Laws on the certificate entries that a check writes.
use Rattle.std.specs.Prelude.{◌≡◌, List}
use Rattle.base_data.specs.declared.model.value.Val.{Val}
use Rattle.base_data.specs.declared.model.value.Obj.{Obj}
use Rattle.types_spec.specs.types.LawfulShapes.{AreLawful, Everything}
use Rattle.types_spec.specs.types.Table.{Table, table_shapes}
use Rattle.cert_format.specs.declared.section.Section.{Section}
use Rattle.cert_verify.specs.declared.certificate.verified.Verified.{Verified}
use Rattle.cert_verify.specs.certificate.AcceptedEntry.{IsAccepted}
use Rattle.cert_verify.specs.certificate.Verified.{IsVerified, shown_by}
use Rattle.cert_produce.specs.CertifiedVerdict.{IsCertified}

-- If an entry certifies a value, then the entry is accepted for the value.
abbrev pub CertifiedAreAccepted : Type 0
CertifiedAreAccepted =
    (table : Table) → AreLawful (table_shapes table) Everything
    → (graph : List Obj) (root : Val) (section : Section) → IsCertified table graph root section
    → IsAccepted table graph root section

-- If an entry certifies a value, then the verifier's answer to the entry is what the entry shows.
abbrev pub CertifiedAreShown : Type 0
CertifiedAreShown =
    (table : Table) → AreLawful (table_shapes table) Everything
    → (graph : List Obj) (root : Val) (section : Section) (answer : Verified)
    → IsCertified table graph root section
    → IsVerified table graph root section answer → answer ≡ shown_by section

-- Two entries that certify one value are equal.
abbrev pub CertifiedAreOne : Type 0
CertifiedAreOne =
    (table : Table) → AreLawful (table_shapes table) Everything
    → (graph : List Obj) (root : Val) (one other : Section) → IsCertified table graph root one
    → IsCertified table graph root other → one ≡ other
