use Rattle.std.proofs.Common.{◌∙◌, add-one, arith}
use Rattle.text_path.proofs.PathLineLemmas.{further, stuck}
use Rattle.text_path.specs.declared.line_prefix.LexemeResult.TheVariants as nexts
use Rattle.text_path.proofs.script_line_parser.known.Goals as goal

pub returns-in-Literal : goal.returns-in-Literal
returns-in-Literal c = (
  omega (arith, c.loop-position-test.true),
  rw add-one
      (further c.args.lexemes.now c.loop-position.position c.loop-position.prefix c.loop-position.invariant
      c.index-lexemes-position.result c.loop-position-test.true c.index-lexemes-position.is (nexts.Literal c.in-Literal.value c.in-Literal.path)
      (c.in_ok-next.ensures ∙ c.in-Literal.is)),
)

pub returns-in-Nowhere : goal.returns-in-Nowhere
returns-in-Nowhere c =
    stuck c.args.lexemes.now c.loop-position.position c.loop-position.prefix c.loop-position.invariant
    c.index-lexemes-position.result c.loop-position-test.true c.index-lexemes-position.is (c.in_ok-next.ensures ∙ c.in-Nowhere.is)

pub loop-position-preserved : goal.loop-position-preserved
loop-position-preserved c =
    rw add-one
    (further c.args.lexemes.now c.loop-position.position c.loop-position.prefix c.loop-position.invariant
    c.index-lexemes-position.result c.loop-position-test.true c.index-lexemes-position.is (nexts.Onward c.in-Onward.next)
    (c.in_ok-next.ensures ∙ c.in-Onward.is))
