use Rattle.std.proofs.Common.{rules, sym, subst}
use Rattle.std.specs.Prelude.{◌≡◌, ⊤, Result, Err, List}
use Rattle.text_literal.specs.declared.parser.literal_fault.LiteralFault.{LiteralFault}
use Rattle.text_literal.specs.declared.parser.block_stack.Opened.{Opened}
use Rattle.text_literal.specs.parser.Underway.{IsUnderway, Finishes}
use Rattle.text_literal.proofs.parser.GoLemmas.{popped_none, all_finished}
use Rattle.text_literal.proofs.parser.literal_parts.read_parts.Goals as goal

pub returns-in_err-j : goal.returns-in_err-j
returns-in_err-j c =
    let same : c.from_residual-in_err-j.result ≡ Err c.in_err-j.field-0.0 = search rules in record {
      finished = λ old outcome u.
          let v = subst (λ (blocks : List Opened). IsUnderway c.args.text.now old outcome blocks c.part.j c.part.heap c.part.labels.items) c.in-Some.ensures (c.part.invariant old outcome u) in
          subst (λ (r : Result ⊤ LiteralFault). Finishes c.args.text.now old outcome c.read_part.new.heap r) (sym same)
          (c.in_err-j.ensures.kept old outcome v, c.in_err-j.ensures.refused old outcome v);
    }

pub returns : goal.returns
returns c = record {
  finished = λ old outcome u.
      all_finished c.args.text.now old outcome c.part.stack c.part.j c.part.heap c.part.labels.items
      (popped_none c.part.stack _ c.pop.result c.pop.ensures c.in_default.not-Some) (c.part.invariant old outcome u);
}
