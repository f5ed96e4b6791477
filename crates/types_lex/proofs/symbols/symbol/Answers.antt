use Rattle.std.proofs.Common.{sym, ◌∙◌}
use Rattle.types_lex.proofs.SymbolLaws.{found_pair, found_single}
use Rattle.types_lex.proofs.symbols.symbol.Goals as goal

pub returns-in-Some : goal.returns-in-Some
returns-in-Some c = found_pair c.args.first c.args.rest.now c.in-Some.symbol (sym c.pair_at.ensures ∙ c.in-Some.is)

pub returns-in-Some-single_symbol : goal.returns-in-Some-single_symbol
returns-in-Some-single_symbol c = found_single c.args.first c.args.rest.now c.in-Some-single_symbol.symbol (sym c.pair_at.ensures ∙ c.in-None.is) (sym c.single_symbol.ensures ∙ c.in-Some-single_symbol.is)
