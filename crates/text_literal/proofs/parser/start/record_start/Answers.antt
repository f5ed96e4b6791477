use Rattle.std.proofs.Common.{sym, ap, ◌∙◌, subst}
use Rattle.std.specs.Prelude.{◌≡◌, ◌&&◌, ◌==◌, ◌++◌, ◌∷◌, [], None, IfOk}
use Rattle.text_literal.specs.literal_grammar.Literal.{fields}
use Rattle.text_literal.specs.parser.Started.{start_in}
use Rattle.text_literal.specs.parser.Starts.{start_at, if_fits, doubles_start, and_bits, bits_of, bits_of_rows, same_names, names_of_rows}
use Rattle.text_literal.proofs.parser.start.record_start.Goals as goal

pub returns-in-FlatFloats-clause-start : goal.returns-in-FlatFloats-clause-start
returns-in-FlatFloats-clause-start c t k l rs x v stands parts wanted =
    subst (λ shape. IfOk c.flat_start.result (λ start. start_in t start ≡ start_at t shape c.args.names.now (fields None rs x v))) (sym c.in-FlatFloats.is)
    (subst (λ fits. IfOk c.flat_start.result (λ start. start_in t start ≡ if_fits fits (doubles_start (and_bits (bits_of_rows rs) (bits_of v)))))
    (c.is_flat-fits.ensures
    ∙ ap (λ names. same_names c.args.names.now.fields names && c.in-FlatFloats.many == c.args.parts) wanted
    ∙ ap (λ n. same_names c.args.names.now.fields (names_of_rows rs ++ x ∷ []) && c.in-FlatFloats.many == n) parts)
    (c.flat_start.ensures.fits t k l rs x v stands))
