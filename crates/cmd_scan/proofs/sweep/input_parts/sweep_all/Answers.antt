use Rattle.std.proofs.Common.{length, ap, arith, length-drop}
use Rattle.cmd_scan.specs.found_positions.InputParts.{BeginNoValue}
use Rattle.cmd_scan.proofs.sweep.SweepPartsLemmas.{begins, ended_more, all_parts}
use Rattle.cmd_scan.proofs.sweep.input_parts.sweep_all.Goals as goal

pub loop-taken-init : goal.loop-taken-init
loop-taken-init c = (
  c.args.bytes.now,
  begins c.args.limit c.args.at c.args.bytes.now c.args.text.now.items (BeginNoValue c.args.limit),
)

pub last_part-requires : goal.last_part-requires
last_part-requires c =
    omega (
      arith,
      c.loop-taken-test.true,
      length-drop c.loop-taken.taken c.args.bytes.now,
      ap length c.skip-rest.ensures,
    )

pub loop-taken-preserved : goal.loop-taken-preserved
loop-taken-preserved c =
    let next = c.in_ok-taken.ensures in
    ended_more c.args.limit c.args.at c.args.bytes.now c.args.text.now.items
    c.loop-taken.text.items c.last_part.new.text.items c.loop-taken.taken c.skip-rest.result.now
    c.skip-rest.ensures c.loop-taken.invariant.0 c.loop-taken.invariant.1
    c.in_ok-taken.field-0 (next.1, next.2)

pub returns : goal.returns
returns c =
    all_parts c.args.limit c.args.at c.args.bytes.now c.args.text.now.items c.loop-taken.text.items
    c.loop-taken.taken c.loop-taken.invariant.0 c.loop-taken.invariant.1 c.loop-taken-test.false
