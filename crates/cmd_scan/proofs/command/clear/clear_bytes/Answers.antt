use Rattle.std.proofs.Common.{◌+◌, length, arith}
use Rattle.cmd_scan.proofs.command.ClearLemmas.{all_clear}
use Rattle.cmd_scan.proofs.command.clear.clear_bytes.Goals as goal

pub returns-in-Some-clause-clear : goal.returns-in-Some-clause-clear
returns-in-Some-clause-clear c =
    let find = c.in-Some.ensures in
    all_clear c.args.held.now c.args.buffered.now c.in-Some.n (c.in-Some.n + 3) c.requires
    (c.may_hold_magic.ensures c.if-may_hold_magic.false) find.0.before (omega arith) find.1.fits

pub returns-in-None-clause-clear : goal.returns-in-None-clause-clear
returns-in-None-clause-clear c =
    all_clear c.args.held.now c.args.buffered.now (length c.args.buffered.now + 1)
    (length c.args.buffered.now) c.requires (c.may_hold_magic.ensures c.if-may_hold_magic.false)
    c.in-None.ensures (omega arith) (omega arith)
