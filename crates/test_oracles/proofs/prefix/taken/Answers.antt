use Rattle.std.proofs.Common.{◌≡◌, ◌+◌, length, arith, rules}
use Rattle.test_oracles.proofs.OraclePrefixLemmas.{length_more, length_within}
use Rattle.test_oracles.proofs.prefix.taken.Goals as goal

pub overflow_add-taken : goal.overflow_add-taken
overflow_add-taken c =
    let chunks = c.args.tokens.now in
    let i = c.loop-token.token-index in
    let more = length_more chunks i c.token-item.result (search rules) c.token-item.is in
    let within = length_within chunks (i + 1) in
    let len : c.len.result ≡ length c.token-item.result = search rules in
    omega arith

pub loop-token-preserved : goal.loop-token-preserved
loop-token-preserved c =
    let chunks = c.args.tokens.now in
    let i = c.loop-token.token-index in
    let more = length_more chunks i c.token-item.result (search rules) c.token-item.is in
    let len : c.len.result ≡ length c.token-item.result = search rules in
    omega arith
