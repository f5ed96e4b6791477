use Rattle.std.proofs.Common.{arith}
use Rattle.cmd_scan.proofs.sweep.ClaimLemmas.{start_of, claims_none}
use Rattle.cmd_scan.proofs.sweep.claim.claims_more.Goals as goal

pub overflow_sub-result : goal.overflow_sub-result
overflow_sub-result c =
    let e = rw c.in-Ok-Head.field-0-is at c.in-Ok-Head.ensures.says in
    omega (
      arith,
      e.1,
      start_of c.args.bytes.now c.in-Ok-Head.head c.length_of.result e.2 c.length_of.ensures,
    )

pub returns-in-Ok-Head : goal.returns-in-Ok-Head
returns-in-Ok-Head c = λ more limit.
    let e = rw c.in-Ok-Head.field-0-is at c.in-Ok-Head.ensures.says in
    claims_none limit c.args.bytes.now c.in-Ok-Head.head c.length_of.result e.2
    (start_of c.args.bytes.now c.in-Ok-Head.head c.length_of.result e.2 c.length_of.ensures) e.1 more
