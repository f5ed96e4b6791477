use Rattle.std.proofs.Common.{sym, ap, ◌∙◌}
use Rattle.std.specs.Prelude.{◌≡◌, option_map}
use Rattle.text_literal.specs.parser.LiteralAnswers.{shape_in, names_in}
use Rattle.text_literal.specs.parser.Starts.{start_at}
use Rattle.text_literal.proofs.parser.LiteralParserStartLemmas.{shape_known, names_known}
use Rattle.text_literal.proofs.parser.start.leaf_at.Goals as goal

pub returns-in-Some-clause-leaf : goal.returns-in-Some-clause-leaf
returns-in-Some-clause-leaf c k p led none =
    let table = c.args.table.now in
    let shape_is : shape_in table c.args.t ≡ c.in-Some.shape.now = shape_known table c.args.t c.in-Some.shape.now (sym (ap (option_map (λ shape. shape.now)) c.in-Some.is) ∙ c.shape_of.ensures) in
    let names_are : names_in table c.args.t ≡ c.names.result.now = names_known table c.args.t c.names.result.now c.names.ensures in
    c.leaf_of.ensures.leaf c.args.t k p led none
    ∙ ap (λ shape. start_at c.args.t shape c.names.result.now p) (sym shape_is)
    ∙ ap (λ names. start_at c.args.t (shape_in table c.args.t) names p) (sym names_are)
