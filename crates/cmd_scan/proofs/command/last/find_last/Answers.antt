use Rattle.std.proofs.Common.{◌+◌, ◌-◌, ◌++◌, take, sym, subst, append-nil, arith}
use Rattle.marshal_spec.specs.format.Prefix.{IsPrefix}
use Rattle.marshal_read.specs.Reader.{LeadsReader}
use Rattle.cmd_scan.specs.command.Last.{IsDecided}
use Rattle.cmd_scan.proofs.command.LastLemmas.{slice_next}
use Rattle.cmd_scan.proofs.command.last.find_last.Goals as goal

pub loop-taken-init : goal.loop-taken-init
loop-taken-init c =
    let t = c.in_ok-take_prefix.ensures c.args.limit c.new-reader.ensures.leads c.requires.prefix in (
      omega arith,
      t.0,
      subst (λ b. LeadsReader c.args.limit b c.take_prefix.new.reader) (sym (append-nil c.args.held.now)) t.1,
      subst (λ b. IsPrefix c.args.limit b) (sym (append-nil c.args.held.now)) c.requires.prefix,
    )

pub loop-taken-preserved : goal.loop-taken-preserved
loop-taken-preserved c =
    let n = c.loop-taken.taken in
    let i = c.loop-taken.invariant in
    let t = rw c.if-goes_on.true at (c.in_ok-goes_on.ensures c.args.limit
    (c.args.held.now ++ take n c.args.chunk.now) i.2 i.3) in
    let next = slice_next c.args.limit c.args.held.now c.args.chunk.now n (n + 1 - n) (omega arith) in (
      omega (arith, c.loop-taken-test.true),
      t.0,
      subst (λ b. LeadsReader c.args.limit b c.take_byte.new.reader) next t.1,
      subst (λ b. IsPrefix c.args.limit b) next t.2,
    )

pub returns-else-goes_on : goal.returns-else-goes_on
returns-else-goes_on c =
    let n = c.loop-taken.taken in
    let i = c.loop-taken.invariant in
    let t = rw c.if-goes_on.false at (c.in_ok-goes_on.ensures c.args.limit
    (c.args.held.now ++ take n c.args.chunk.now) i.2 i.3) in
    let next = slice_next c.args.limit c.args.held.now c.args.chunk.now n (n + 1 - n) (omega arith) in (
      omega arith,
      omega (arith, c.loop-taken-test.true),
      subst (λ b. IsDecided c.args.limit b) next t,
    )
