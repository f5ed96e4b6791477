use Rattle.std.proofs.Common.{◌+◌, ◌≤◌, length, arith}
use Rattle.std.proofs.lemmas.Bool.{OnTrue_at}
use Rattle.types_table.specs.type_table.Made.{table_of}
use Rattle.cert_verify.proofs.certificate.RightLemmas.{worded_stands, right_so_far_more, none_so_far, all_right}
use Rattle.cert_verify.proofs.certificate.right.are_right.Goals as goal

pub loop-i-init : goal.loop-i-init
loop-i-init c = (c.pair_at-own.ensures, none_so_far (table_of c.args.stated.fitting.table.now) c.args.stated.heap.now c.args.stated.pairs.now)

pub is_right-requires-clause-near : goal.is_right-requires-clause-near
is_right-requires-clause-near c =
    worded_stands (table_of c.args.stated.fitting.table.now) c.args.stated.heap.now c.args.stated.pairs.now (c.loop-i.i + 1) c.pair_at-next.result c.args.stated.there c.pair_at-next.ensures

pub loop-i-preserved : goal.loop-i-preserved
loop-i-preserved c = (
  c.pair_at-next.ensures,
  right_so_far_more (table_of c.args.stated.fitting.table.now) c.args.stated.heap.now c.args.stated.pairs.now c.loop-i.i c.loop-i.invariant.1
      (OnTrue_at c.if-not-is_right.false c.is_right.ensures),
)

pub returns : goal.returns
returns c =
    let many : length c.args.stated.pairs.now ≤ c.loop-i.i = omega (arith, c.len-i-end.ensures.count, c.loop-i.auto.i-end, c.loop-i-test.false) in
    all_right (table_of c.args.stated.fitting.table.now) c.args.stated.heap.now c.args.stated.pairs.now c.loop-i.i many c.loop-i.invariant.1
