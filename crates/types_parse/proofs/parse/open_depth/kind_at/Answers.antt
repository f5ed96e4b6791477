use Rattle.types_parse.proofs.grammar.LexemeLemmas.{kinds_next}
use Rattle.types_parse.proofs.parse.open_depth.kind_at.Goals as goal

pub returns : goal.returns
returns c = kinds_next c.args.lexemes.now c.args.position c.index-lexemes-position.result c.requires
    c.index-lexemes-position.is
