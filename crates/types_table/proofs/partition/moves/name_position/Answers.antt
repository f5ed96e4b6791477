use Rattle.std.proofs.Common.{◌≡◌, ◌∙◌, ◌++◌, ◌∷◌, [], length, ap, arith}
use Rattle.types_table.proofs.partition.PartitionLoopLemmas.{named_kept, named_new}
use Rattle.types_table.proofs.partition.moves.name_position.Goals as goal

pub returns-then-position-kept : goal.returns-then-position-kept
returns-then-position-kept c first held =
    named_kept _ _ _ _ _ _ _ _ held c.if-position-kept.true c.in_ok-push.ensures.items

pub returns : goal.returns
returns c first held =
    let many : c.len.result ≡ length c.args.signatures.now.items = omega arith in
    named_new _ _ _ _ _ _ _ _ held c.in_ok-from_slice.field-0 c.signature.result.now _ c.if-position-kept.false c.signature.ensures
    c.in_ok-from_slice.ensures.items
    (c.in_ok-push-2.ensures.items ∙ ap (λ n. c.args.numbers.now.items ++ n ∷ []) many) c.in_ok-push-3.ensures.items
