use Rattle.std.proofs.Common.{◌∙◌, refl, sym, ℕ, List, Bor, arith}
use Rattle.std.proofs.lemmas.List.{length-map}
use Rattle.text_literal.proofs.parser.LiteralParserNameLemmas.{other_length, step_names, differ, agree}
use Rattle.text_literal.proofs.parser.name_lists.same_names.Goals as goal

pub returns-then-own-wanted : goal.returns-then-own-wanted
returns-then-own-wanted c = other_length c.args.own.now _ (λ same. c.if-own-wanted.true (same ∙ length-map c.args.wanted.now (λ (name : Bor (List ℕ)). name.now)))

pub returns-then-ne : goal.returns-then-ne
returns-then-ne c =
    differ c.ne.result _ _ c.if-ne.true c.ne.ensures
    ∙ sym (step_names c.args.own.now c.args.wanted.now c.loop-i.i c.as_slice.result.now _ c.loop-i-test.true c.if-own-wanted.false (c.as_slice.ensures ∙ grind (arith, c.index-own-i.is, c.as_slice.ensures)))
    ∙ sym c.loop-i.invariant.3

pub loop-i-preserved : goal.loop-i-preserved
loop-i-preserved c = (
  omega (arith, c.loop-i-test.true),
  c.if-own-wanted.false,
  refl,
  c.loop-i.invariant.3
      ∙ step_names c.args.own.now c.args.wanted.now c.loop-i.i c.as_slice.result.now _ c.loop-i-test.true c.if-own-wanted.false (c.as_slice.ensures ∙ grind (arith, c.index-own-i.is, c.as_slice.ensures))
      ∙ agree c.ne.result _ _ c.if-ne.false c.ne.ensures,
)
