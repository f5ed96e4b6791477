use Rattle.std.proofs.Common.{arith, add-one, refl}
use Rattle.text_literal.proofs.literal_grammar.LiteralGrammarReadLemmas.{begins, goes_at, stops_at, is_tree_where, ends_early_where}
use Rattle.text_literal.proofs.literal_grammar.tree_parser.read.Goals as goal

pub loop-position-init : goal.loop-position-init
loop-position-init c = begins c.args.lexemes.now c.new-nodes.result c.new-opens.result c.new-nodes.ensures c.new-opens.ensures

pub returns-in_default : goal.returns-in_default
returns-in_default c =
    stops_at c.args.lexemes.now c.loop-position.position c.loop-position.so_far.nodes c.loop-position.so_far.opens c.loop-position.stage c.loop-position.invariant
    c.index-lexemes-position.result c.loop-position-test.true (omega arith) c.index-lexemes-position.is
    c.step.new.self.nodes c.step.new.self.opens c.in_ok-next.field-0 c.in_ok-next.ensures c.in_default.is

pub loop-position-preserved : goal.loop-position-preserved
loop-position-preserved c =
    rw add-one
    (goes_at c.args.lexemes.now c.loop-position.position c.loop-position.so_far.nodes c.loop-position.so_far.opens c.loop-position.stage c.loop-position.invariant
    c.index-lexemes-position.result c.loop-position-test.true (omega arith) c.index-lexemes-position.is
    c.step.new.self.nodes c.step.new.self.opens c.in_ok-next.field-0 c.in-Some.next c.in_ok-next.ensures c.in-Some.is)

pub returns-then-branch : goal.returns-then-branch
returns-then-branch c =
    is_tree_where c.args.lexemes.now c.loop-position.position c.loop-position.so_far.nodes c.loop-position.so_far.opens c.loop-position.stage c.loop-position.invariant
    (omega arith) c.in_ok-end.field-0 c.end.new.self.nodes c.end.new.self.nodes c.in_ok-end.ensures c.if-branch.true refl

pub returns-else-branch : goal.returns-else-branch
returns-else-branch c =
    ends_early_where c.args.lexemes.now c.loop-position.position c.loop-position.so_far.nodes c.loop-position.so_far.opens c.loop-position.stage c.loop-position.invariant
    (omega arith) c.in_ok-end.field-0 c.end.new.self.nodes c.in_ok-end.ensures c.if-branch.false
