use Rattle.std.proofs.Common.{◌∙◌, refl, sym, arith}
use Rattle.std.proofs.lemmas.Bool.{false≢true, OnTrue_at, OnTrue_from}
use Rattle.types_table.specs.type_table.Made.{table_of}
use Rattle.check_heap.proofs.scan.ScanNeedLemmas.{shape_wildcard}
use Rattle.cert_verify.proofs.certificate.EntryHeldLemmas.{stands_at}
use Rattle.cert_verify.proofs.certificate.right.is_listed.Goals as goal

pub returns-then-is_at_own_position : goal.returns-then-is_at_own_position
returns-then-is_at_own_position c = λ asked.
    stands_at (table_of c.args.stated.fitting.table.now) c.args.stated.pairs.now c.args.stated.heap.now c.args.word c.number-object.result c.args.ty c.args.ty
    (OnTrue_at c.if-is_at_own_position.true c.is_at_own_position.ensures) c.number-object.ensures.in_range c.number-object.ensures.named refl

pub returns-then-not-is_asked : goal.returns-then-not-is_asked
returns-then-not-is_asked c = λ asked.
    absurd (false≢true (sym (shape_wildcard c.args.stated.fitting.table.now.nodes c.args.ty c.shape.result.now c.shape.ensures (sym c.is_asked.ensures ∙ c.if-not-is_asked.true)) ∙ asked))

pub is_among_few-requires-clause-there : goal.is_among_few-requires-clause-there
is_among_few-requires-clause-there c = λ k o t at. let there = (c.args.stated.there k (o, t) at).1 in omega (arith, there, c.holds.ensures.lawful.classed)

pub returns : goal.returns
returns c = OnTrue_from c.is_among_few.result _ (λ yes'. λ asked. record {
  object = c.number-object.result;
  inside = c.number-object.ensures.in_range;
  named = c.number-object.ensures.named;
  among = OnTrue_at yes' c.is_among_few.ensures;
})
