use Rattle.std.proofs.Common.{sym, subst}
use Rattle.std.specs.Prelude.{IfOk}
use Rattle.text_literal.specs.parser.Started.{start_in}
use Rattle.text_literal.specs.parser.Underway.{IsMade}
use Rattle.text_literal.proofs.parser.part.make.Goals as goal

pub returns-in-Leaf-clause-made : goal.returns-in-Leaf-clause-made
returns-in-Leaf-clause-made c =
    subst (λ start. IfOk c.make_leaf.result (IsMade c.args.parts (start_in c.args.t start) c.args.heap.now c.make_leaf.new.heap)) (sym c.in-Leaf.is)
    (c.make_leaf.ensures.made c.args.parts)
