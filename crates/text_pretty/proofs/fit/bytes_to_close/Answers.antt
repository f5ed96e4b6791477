use Rattle.std.proofs.Common.{◌≡◌, arith}
use Rattle.text_pretty.specs.Fit.{to_close}
use Rattle.text_pretty.proofs.FitLemmas.{at_width}
use Rattle.text_pretty.proofs.fit.bytes_to_close.Goals as goal

pub returns : goal.returns
returns c =
    let full : c.loop-i.i ≡ c.args.left = omega arith in
    at_width (to_close c.args.break_point 0 c.args.bytes.now) c.args.left c.loop-i.here c.loop-i.depth c.args.bytes.now c.loop-i.i c.loop-i.invariant.found full
