use Rattle.std.proofs.Common.{subst}
use Rattle.base_data.proofs.model.Numbers.{are_bytes}
use Rattle.marshal_codec.specs.headers.Parsing.{IsStep}
use Rattle.marshal_write.proofs.canonical_check.CanonicalCheckHeaderLemmas.{own_header}
use Rattle.marshal_write.proofs.canonical_check.canonical_bytes.objects_in.Goals as goal

pub returns : goal.returns
returns c =
    let says = subst (IsStep c.args.header.now) c.in-Ok-Head.field-0-is c.in-Ok-Head.ensures.says in
    own_header c.args.header.now c.in-Ok-Head.head (are_bytes c.args.header.now c.type_inv.header) c.requires says.0 says.2 c.if-head.false
    (record { length = c.if-head-most.false; objects = c.if-head-most-2.false; w32 = c.if-head-most-3.false; w64 = c.if-head-most-4.false })
