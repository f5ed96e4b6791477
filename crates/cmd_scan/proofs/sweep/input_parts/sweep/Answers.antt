use Rattle.cmd_scan.specs.found_positions.InputParts.{AreRefused}
use Rattle.cmd_scan.proofs.sweep.SweepPartsLemmas.{begins, decided_more, rest_waits, nothing_waits}
use Rattle.cmd_scan.proofs.sweep.input_parts.sweep.Goals as goal

pub loop-decided-init : goal.loop-decided-init
loop-decided-init c = (
  c.args.bytes.now,
  begins c.args.limit c.args.at c.args.bytes.now c.args.text.now.items (AreRefused c.args.limit),
)

pub loop-decided-preserved : goal.loop-decided-preserved
loop-decided-preserved c =
    let next = rw c.in-Decided.is at c.in_ok-n.ensures in
    decided_more c.args.limit c.args.at c.args.bytes.now c.args.text.now.items
    c.loop-decided.text.items c.next_part.new.text.items c.loop-decided.decided
    c.skip-rest.result.now c.skip-rest.ensures c.loop-decided.invariant.0 c.loop-decided.invariant.1
    c.in-Decided.n (next.1, next.2)

pub returns-in-Waits : goal.returns-in-Waits
returns-in-Waits c =
    let next = rw c.in-Waits.is at c.in_ok-n.ensures in
    rest_waits c.args.limit c.args.at c.args.bytes.now c.args.text.now.items
    c.loop-decided.text.items c.next_part.new.text.items c.loop-decided.decided
    c.skip-rest.result.now c.skip-rest.ensures c.loop-decided.invariant.0 c.loop-decided.invariant.1
    c.in-Waits.reader next.0.0 next.0.1 next.1

pub returns : goal.returns
returns c =
    nothing_waits c.args.limit c.args.at c.args.bytes.now c.args.text.now.items
    c.loop-decided.text.items c.loop-decided.decided c.loop-decided.invariant.0 c.new.result
    c.loop-decided.invariant.1 c.loop-decided-test.false c.new.ensures.leads
