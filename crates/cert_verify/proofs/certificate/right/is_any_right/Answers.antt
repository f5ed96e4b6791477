use Rattle.std.proofs.Common.{◌∙◌, sym, arith}
use Rattle.std.proofs.lemmas.Bool.{false≢true, OnTrue_at}
use Rattle.types_table.specs.type_table.Made.{table_of}
use Rattle.cert_verify.proofs.certificate.EntryTestLemmas.{not_elsewhere, mutable_is}
use Rattle.cert_verify.proofs.certificate.RightLemmas.{worded_there}
use Rattle.cert_verify.proofs.certificate.right.is_any_right.Goals as goal
use Rattle.cert_verify.proofs.certificate.right.is_any_right.Goals.{else-is_mutable-via-then-is_mutable+else-not-is_at_one_type, else-is_mutable-via-else-is_mutable}

pub is_mutable-requires : goal.is_mutable-requires
is_mutable-requires c = (worded_there (table_of c.args.stated.fitting.table.now) c.args.stated.heap.now c.args.stated.pairs.now c.args.i c.args.own c.args.stated.there c.requires.own).0

pub is_at_one_type-requires-clause-at : goal.is_at_one_type-requires-clause-at
is_at_one_type-requires-clause-at c = c.requires.own.at c.requires.in_range

pub is_at_one_type-requires-clause-there : goal.is_at_one_type-requires-clause-there
is_at_one_type-requires-clause-there c = λ k o t at. let there = (c.args.stated.there k (o, t) at).1 in omega (arith, there, c.holds.ensures.lawful.classed)

pub holds_needs-requires-clause-one_type : goal.holds_needs-requires-clause-one_type
holds_needs-requires-clause-one_type c =
    let t = table_of c.args.stated.fitting.table.now in
    let own = c.args.own in
    elim c.else-is_mutable.branch [
      | else-is_mutable-via-then-is_mutable+else-not-is_at_one_type w ↦
          λ u among mutable. not_elsewhere t c.args.stated.heap.now c.args.stated.pairs.now own.object own.ty
          (OnTrue_at w.if-not-is_at_one_type.false w.is_at_one_type.ensures) u among
      | else-is_mutable-via-else-is_mutable w ↦
          λ u among mutable. absurd (false≢true (sym w.if-is_mutable.false
          ∙ (mutable_is t c.args.stated.heap.now c.args.stated.pairs.now own.object own.ty c.args.shape.now c.is_mutable.result c.requires.shape c.is_mutable.ensures ∙ mutable.1)))
    ]
