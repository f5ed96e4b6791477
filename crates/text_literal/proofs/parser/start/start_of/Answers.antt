use Rattle.std.proofs.Common.{sym, ap, ◌∙◌, subst}
use Rattle.std.specs.Prelude.{ℕ, ◌≡◌, option_map, IfOk}
use Rattle.types_spec.specs.declared.types.names.Names.{Names}
use Rattle.types_spec.specs.declared.types.shape.ShapeOf.{ShapeOf}
use Rattle.text_literal.specs.parser.LiteralAnswers.{shape_in, names_in}
use Rattle.text_literal.specs.parser.Started.{start_in}
use Rattle.text_literal.specs.parser.Starts.{start_at}
use Rattle.text_literal.proofs.parser.LiteralParserStartLemmas.{shape_known, names_known}
use Rattle.text_literal.proofs.parser.start.start_of.Goals as goal

pub returns-clause-start : goal.returns-clause-start
returns-clause-start c k l p stands node led =
    let table = c.args.text.now.table.now in
    let shape_is : shape_in table c.args.t ≡ c.in-Some.shape.now = shape_known table c.args.t c.in-Some.shape.now (sym (ap (option_map (λ shape. shape.now)) c.in-Some.is) ∙ c.shape_of.ensures) in
    let names_are : names_in table c.args.t ≡ c.names-names.result.now = names_known table c.args.t c.names-names.result.now c.names-names.ensures in
    subst (λ (about : ShapeOf ℕ × Names). IfOk c.opening_start.result (λ start. start_in c.args.t start ≡ start_at c.args.t about.0 about.1 p))
    (ap (λ (shape : ShapeOf ℕ). (shape, c.names-names.result.now)) (sym shape_is) ∙ ap (λ (names : Names). (shape_in table c.args.t, names)) (sym names_are))
    (c.opening_start.ensures.start c.args.t k l p stands node led)
