use Rattle.test_oracles.proofs.OraclePrefixLemmas.{header_decided}
use Rattle.test_oracles.proofs.judgement.judge_bytes.Goals as goal

pub returns-in-Some : goal.returns-in-Some
returns-in-Some c = header_decided c.args.limit c.args.bytes.now c.in-Some.decided c.in-Some.ensures
