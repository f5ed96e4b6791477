use Rattle.std.proofs.Common.{ℕ, ◌≡◌, ◌<◌, ◌≤◌, ◌∙◌, inl, length, Some, refl, sym, subst, arith}
use Rattle.std.specs.Prelude.{slice_get}
use Rattle.std.proofs.lemmas.Bool.{false≢true}
use Rattle.types_spec.specs.types.Table.{table_shapes}
use Rattle.types_spec.specs.types.Typing.{IsHeld}
use Rattle.types_table.specs.type_table.Made.{table_of}
use Rattle.cert_verify.proofs.certificate.EntryJudgeLemmas.{pair_rejected, right_more, root_rejected, accepted}
use Rattle.cert_verify.proofs.certificate.entry_verdict.verify_each.Goals as goal

pub returns-in-Some : goal.returns-in-Some
returns-in-Some c =
    pair_rejected (table_of c.args.stated.fitting.table.now) c.args.stated.heap.now c.args.root c.args.stated.pairs.now c.args.stated.there c.loop-i.i c.in-Some.why c.loop-i.invariant c.in-Some.ensures

pub loop-i-preserved : goal.loop-i-preserved
loop-i-preserved c =
    right_more (table_of c.args.stated.fitting.table.now) c.args.stated.heap.now c.args.root c.args.stated.pairs.now c.loop-i.i c.loop-i.invariant c.in_default.ensures

pub is_held-requires-clause-word : goal.is_held-requires-clause-word
is_held-requires-clause-word c = (c.args.root, c.requires.value, c.word.ensures)

pub returns-then-is_held : goal.returns-then-is_held
returns-then-is_held c =
    let many : length c.args.stated.pairs.now ≤ c.loop-i.i = omega (arith, c.len-i-end.ensures.count, c.loop-i.auto.i-end, c.loop-i-test.false) in
    let reports = c.is_held.ensures c.args.root c.requires.value c.word.ensures in
    inl (
      accepted (table_of c.args.stated.fitting.table.now) c.args.stated.heap.now c.args.root c.args.stated.pairs.now c.args.stated.there c.loop-i.i many c.loop-i.invariant
          (subst (λ t. IsHeld (table_shapes (table_of c.args.stated.fitting.table.now)) c.args.stated.heap.now c.args.stated.pairs.now c.args.root t) c.root.ensures (reports.0 c.if-is_held.true)),
      refl,
    )

pub returns : goal.returns
returns c =
    let many : length c.args.stated.pairs.now ≤ c.loop-i.i = omega (arith, c.len-i-end.ensures.count, c.loop-i.auto.i-end, c.loop-i-test.false) in
    let reports = c.is_held.ensures c.args.root c.requires.value c.word.ensures in
    root_rejected (table_of c.args.stated.fitting.table.now) c.args.stated.heap.now c.args.root c.args.stated.pairs.now c.args.stated.there c.loop-i.i many c.loop-i.invariant
    (λ held. false≢true (sym c.if-is_held.false ∙ reports.1
    (subst (λ t. IsHeld (table_shapes (table_of c.args.stated.fitting.table.now)) c.args.stated.heap.now c.args.stated.pairs.now c.args.root t) (sym c.root.ensures) held)))

pub frequent_of-requires : goal.frequent_of-requires
frequent_of-requires c =
    let known : (k o t : ℕ) → slice_get c.args.stated.pairs.now k ≡ Some (o, t) → t < length c.args.stated.fitting.table.now.classes =
    λ k o t at. let there = (c.args.stated.there k (o, t) at).1 in omega (arith, there, c.holds.ensures.lawful.classed) in
    record { there = known }
