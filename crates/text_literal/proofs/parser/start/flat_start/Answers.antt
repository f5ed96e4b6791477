use Rattle.std.proofs.Common.{sym, subst}
use Rattle.std.specs.Prelude.{◌≡◌, IfOk}
use Rattle.text_literal.specs.parser.Started.{start_in}
use Rattle.text_literal.specs.parser.Starts.{if_fits, doubles_start, and_bits, bits_of, bits_of_rows}
use Rattle.text_literal.proofs.parser.start.flat_start.Goals as goal

pub returns-then-fits-clause-fits : goal.returns-then-fits-clause-fits
returns-then-fits-clause-fits c t k l rs x v stands =
    subst (λ fits. IfOk c.doubles_at.result (λ start. start_in t start ≡ if_fits fits (doubles_start (and_bits (bits_of_rows rs) (bits_of v))))) (sym c.if-fits.true)
    (c.doubles_at.ensures.flat t k l rs x v stands)
