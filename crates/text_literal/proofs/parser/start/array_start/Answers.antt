use Rattle.std.proofs.Common.{sym, subst}
use Rattle.std.specs.Prelude.{◌≡◌, IfOk}
use Rattle.text_literal.specs.literal_grammar.Literal.{array}
use Rattle.text_literal.specs.parser.Started.{start_in}
use Rattle.text_literal.specs.parser.Starts.{start_at}
use Rattle.text_literal.proofs.parser.start.array_start.Goals as goal

pub returns-in-FloatArray-clause-start : goal.returns-in-FloatArray-clause-start
returns-in-FloatArray-clause-start c t k names l ps v stands =
    subst (λ shape. IfOk c.doubles_at.result (λ start. start_in t start ≡ start_at t shape names (array ps v))) (sym c.in-FloatArray.is)
    (c.doubles_at.ensures.array t k l ps v stands)
