use Rattle.std.proofs.Common.{◌≡◌, ◌∙◌, Some, length, ap, sym, subst, arith}
use Rattle.types_table.specs.partition.Refinement.{NamedSoFar}
use Rattle.types_table.proofs.partition.PartitionLoopLemmas.{named_none, named_all}
use Rattle.types_table.proofs.partition.moves.name_positions.Goals as goal

pub loop-position-init : goal.loop-position-init
loop-position-init c = named_none _ _ _ _ _ c.new-numbers.ensures.items

pub loop-position-preserved : goal.loop-position-preserved
loop-position-preserved c = c.in_ok-name_position.ensures _ c.loop-position.invariant

pub returns : goal.returns
returns c =
    let end : c.loop-position.position ≡ length c.args.found.now = omega (arith, c.len-position-end.ensures) in
    named_all c.args.found.now c.args.parted c.args.kept _ _ _ c.in_ok-signature.signature
    (subst (λ n. NamedSoFar c.args.found.now c.args.parted c.args.kept n c.loop-position.numbers.items c.args.signatures.now.items
    c.loop-position.signatures.items) end c.loop-position.invariant)
    (omega (arith, c.requires.parted)) c.requires.kept (c.signature.ensures ∙ ap (λ n. Some n) (sym c.in_ok-signature.ensures.items))
