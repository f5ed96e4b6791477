use Rattle.std.proofs.Common.{rules, ◌≡◌, ◌+◌, length}
use Rattle.marshal_write.proofs.canonical_check.CanonicalLemmas.{none_canonical, more_canonical, all_canonical}
use Rattle.marshal_write.proofs.canonical_check.canonical_tokens.are_canonical.Goals as goal

pub loop-turn-init : goal.loop-turn-init
loop-turn-init c = none_canonical c.args.bytes.now

pub loop-turn-preserved : goal.loop-turn-preserved
loop-turn-preserved c = more_canonical c.loop-turn.at c.in-Some.n c.args.bytes.now c.loop-turn.invariant c.in-Some.ensures

pub returns-then-at-bytes : goal.returns-then-at-bytes
returns-then-at-bytes c =
    let at = c.loop-turn.at + c.in-Some.n in
    let bytes = c.args.bytes.now in
    let whole : at ≡ length bytes = search rules in
    all_canonical at bytes (more_canonical c.loop-turn.at c.in-Some.n bytes c.loop-turn.invariant c.in-Some.ensures) whole
