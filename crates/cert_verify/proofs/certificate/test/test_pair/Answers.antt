use Rattle.std.proofs.Common.{◌∙◌, sym, ap, subst, arith}
use Rattle.std.specs.Prelude.{ℕ, Contains, IsSome}
use Rattle.std.proofs.lemmas.Bool.{false≢true}
use Rattle.types_table.specs.type_table.Made.{table_of}
use Rattle.base_data.specs.declared.model.value.Val.TheVariants as vals
use Rattle.types_spec.specs.types.Fitting.{fields_of}
use Rattle.types_spec.specs.types.Table.{table_shapes, node_or_none}
use Rattle.check_heap.proofs.scan.ScanNeedLemmas.{never_unfit}
use Rattle.cert_verify.proofs.certificate.EntryTestLemmas.{settled, does_fit, not_elsewhere, mutable_is, right_is, unfit_is_first, missing_is_first, two_is_first}
use Rattle.cert_verify.proofs.certificate.test.test_pair.Goals as goal
use Rattle.cert_verify.proofs.certificate.test.test_pair.Goals.{else-is_mutable-via-then-is_mutable+else-is_elsewhere, else-is_mutable-via-else-is_mutable}

pub shape-requires : goal.shape-requires
shape-requires c = (c.args.stated.there c.args.i _ c.at-object.ensures).1

pub known_needs-requires-clause-object : goal.known_needs-requires-clause-object
known_needs-requires-clause-object c = (c.args.stated.there c.args.i _ c.at-object.ensures).0

pub fits_type-requires-clause-word : goal.fits_type-requires-clause-word
fits_type-requires-clause-word c =
    let pair = c.at-object.result in
    (vals.Ref pair.0, (c.args.stated.there c.args.i _ c.at-object.ensures).0, c.word-word.ensures)

pub fits_type-requires-clause-node : goal.fits_type-requires-clause-node
fits_type-requires-clause-node c = (c.args.stated.there c.args.i _ c.at-object.ensures).1

pub returns-then-not-fits_type : goal.returns-then-not-fits_type
returns-then-not-fits_type c =
    let pair = c.at-object.result in
    let at_i = c.at-object.ensures in
    let there = c.args.stated.there c.args.i _ at_i in
    unfit_is_first (table_of c.args.stated.fitting.table.now) c.args.stated.heap.now c.args.stated.pairs.now c.args.i pair at_i
    (λ fits. false≢true (sym c.if-not-fits_type.true ∙ (c.fits_type.ensures (vals.Ref pair.0) there.0 c.word-word.ensures).1 fits))

pub known_needs-requires-clause-fits : goal.known_needs-requires-clause-fits
known_needs-requires-clause-fits c =
    let pair = c.at-object.result in
    let there = c.args.stated.there c.args.i _ c.at-object.ensures in
    subst IsSome (ap (λ n. fields_of c.args.stated.heap.now (vals.Ref pair.0) (node_or_none n)) c.shape.ensures)
    ((c.fits_type.ensures (vals.Ref pair.0) there.0 c.word-word.ensures).0 c.if-not-fits_type.false)

pub returns-in_default : goal.returns-in_default
returns-in_default c =
    let pair = c.at-object.result in
    unfit_is_first (table_of c.args.stated.fitting.table.now) c.args.stated.heap.now c.args.stated.pairs.now c.args.i pair c.at-object.ensures
    (never_unfit (table_of c.args.stated.fitting.table.now) c.args.stated.heap.now pair.0 pair.1 c.shape.result.now c.known_needs.result c.shape.ensures c.known_needs.ensures c.in_default.is)

pub first_missing-requires-clause-object : goal.first_missing-requires-clause-object
first_missing-requires-clause-object c = (c.args.stated.there c.args.i _ c.at-object.ensures).0

pub first_missing-requires-clause-ty : goal.first_missing-requires-clause-ty
first_missing-requires-clause-ty c = (c.args.stated.there c.args.i _ c.at-object.ensures).1

pub returns-in-Some-first_missing : goal.returns-in-Some-first_missing
returns-in-Some-first_missing c =
    let pair = c.at-object.result in
    missing_is_first (table_of c.args.stated.fitting.table.now) c.args.stated.heap.now c.args.stated.pairs.now c.args.i pair c.at-object.ensures
    c.in-Some-first_missing.field
    (does_fit (table_of c.args.stated.fitting.table.now) c.args.stated.heap.now c.args.stated.pairs.now pair.0 pair.1 c.shape.result.now c.known_needs.result c.in-Some.needs c.shape.ensures c.known_needs.ensures c.in-Some.is)
    c.in-Some-first_missing.ensures

pub shape-requires-2 : goal.shape-requires-2
shape-requires-2 c = (c.args.stated.there c.args.i _ c.at-object.ensures).1

pub is_mutable-requires : goal.is_mutable-requires
is_mutable-requires c = (c.args.stated.there c.args.i _ c.at-object.ensures).0

pub is_elsewhere-requires-clause-there : goal.is_elsewhere-requires-clause-there
is_elsewhere-requires-clause-there c = λ k o t at. let there = (c.args.stated.there k (o, t) at).1 in omega (arith, there, c.holds.ensures.lawful.classed)

pub is_elsewhere-requires-clause-at : goal.is_elsewhere-requires-clause-at
is_elsewhere-requires-clause-at c = c.at-object.ensures

pub is_elsewhere-requires-clause-settled : goal.is_elsewhere-requires-clause-settled
is_elsewhere-requires-clause-settled c =
    let t = table_of c.args.stated.fitting.table.now in
    let pair = c.at-object.result in
    settled t c.args.stated.heap.now c.args.stated.pairs.now c.holds.ensures.lawful.lawful c.args.i pair.0 pair.1 c.requires.before (
      does_fit t c.args.stated.heap.now c.args.stated.pairs.now pair.0 pair.1 c.shape.result.now c.known_needs.result c.in-Some.needs c.shape.ensures c.known_needs.ensures c.in-Some.is,
      sym (mutable_is t c.args.stated.heap.now c.args.stated.pairs.now pair.0 pair.1 c.shape-2.result.now c.is_mutable.result c.shape-2.ensures c.is_mutable.ensures) ∙ c.if-is_mutable.true,
    )
    c.at-object.ensures

pub returns-then-is_elsewhere : goal.returns-then-is_elsewhere
returns-then-is_elsewhere c =
    let pair = c.at-object.result in
    two_is_first (table_of c.args.stated.fitting.table.now) c.args.stated.heap.now c.args.stated.pairs.now c.args.i pair c.at-object.ensures
    (does_fit (table_of c.args.stated.fitting.table.now) c.args.stated.heap.now c.args.stated.pairs.now pair.0 pair.1 c.shape.result.now c.known_needs.result c.in-Some.needs c.shape.ensures c.known_needs.ensures c.in-Some.is)
    c.in_default-first_missing.ensures
    (sym (mutable_is (table_of c.args.stated.fitting.table.now) c.args.stated.heap.now c.args.stated.pairs.now pair.0 pair.1 c.shape-2.result.now c.is_mutable.result c.shape-2.ensures c.is_mutable.ensures) ∙ c.if-is_mutable.true)
    (c.is_elsewhere.ensures.0 c.if-is_elsewhere.true)

pub returns : goal.returns
returns c =
    let pair = c.at-object.result in
    let t = table_of c.args.stated.fitting.table.now in
    let one_type : (u : ℕ) → Contains c.args.stated.pairs.now (pair.0, u) → (table_shapes t).mutable c.args.stated.heap.now pair.0 pair.1 → (table_shapes t).equal pair.1 u =
    elim c.else-is_mutable.branch [
      | else-is_mutable-via-then-is_mutable+else-is_elsewhere w ↦
          λ u among mutable. not_elsewhere t c.args.stated.heap.now c.args.stated.pairs.now pair.0 pair.1
          (λ elsewhere. false≢true (sym w.if-is_elsewhere.false ∙ w.is_elsewhere.ensures.1 elsewhere)) u among
      | else-is_mutable-via-else-is_mutable w ↦
          λ u among mutable. absurd (false≢true (sym w.if-is_mutable.false
          ∙ (mutable_is t c.args.stated.heap.now c.args.stated.pairs.now pair.0 pair.1 c.shape-2.result.now c.is_mutable.result c.shape-2.ensures c.is_mutable.ensures ∙ mutable.1)))
    ] in
    right_is t c.args.stated.heap.now c.args.stated.pairs.now c.args.i pair c.at-object.ensures
    (does_fit t c.args.stated.heap.now c.args.stated.pairs.now pair.0 pair.1 c.shape.result.now c.known_needs.result c.in-Some.needs c.shape.ensures c.known_needs.ensures c.in-Some.is)
    c.in_default-first_missing.ensures one_type
