use Rattle.std.proofs.Common.{◌∙◌}
use Rattle.text_literal.proofs.parser.LiteralParserNameLemmas.{unnamed}
use Rattle.text_literal.proofs.parser.opening.is_unnamed.Goals as goal

pub returns : goal.returns
returns c = c.is_empty.ensures ∙ unnamed c.args.fields.now
