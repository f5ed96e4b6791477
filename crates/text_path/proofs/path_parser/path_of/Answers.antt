use Rattle.std.proofs.Common.{length, sym, arith, add-one}
use Rattle.text_path.proofs.PathReadLemmas.{reads_on, stops, is_path, ends_early}
use Rattle.text_path.proofs.path_parser.path_of.Goals as goal

pub returns-then-not-branch-clause-fault : goal.returns-then-not-branch-clause-fault
returns-then-not-branch-clause-fault c = (
  c.loop-position.position,
  stops c.args.lexemes.now c.loop-position.position c.loop-position.path c.loop-position.after_dot c.loop-position.invariant
      c.index-lexemes-position.result c.loop-position-test.true c.index-lexemes-position.is c.step.new.path
      c.in_ok-step.field-0 c.in_ok-step.ensures c.if-not-branch.true,
  sym c.byte_of.ensures,
)

pub loop-position-preserved : goal.loop-position-preserved
loop-position-preserved c =
    rw add-one
    (reads_on c.args.lexemes.now c.loop-position.position c.loop-position.path c.loop-position.after_dot c.loop-position.invariant
    c.index-lexemes-position.result c.loop-position-test.true c.index-lexemes-position.is c.step.new.path
    c.in_ok-step.field-0 c.in_ok-step.ensures c.if-not-branch.false)

pub returns-then-is_whole-clause-path : goal.returns-then-is_whole-clause-path
returns-then-is_whole-clause-path c =
    is_path c.args.lexemes.now c.loop-position.position c.loop-position.path c.loop-position.after_dot c.loop-position.invariant
    (omega arith) c.if-is_whole.ensures

pub returns-else-is_whole-clause-fault : goal.returns-else-is_whole-clause-fault
returns-else-is_whole-clause-fault c = (
  length c.args.lexemes.now,
  ends_early c.args.lexemes.now c.loop-position.position c.loop-position.path c.loop-position.after_dot c.loop-position.invariant
      (omega arith) c.if-is_whole.ensures,
  sym c.byte_of-else-is_whole.ensures,
)
