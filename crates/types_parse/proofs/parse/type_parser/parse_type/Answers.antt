use Rattle.std.proofs.Common.{inl, inr, arith, add-one}
use Rattle.types_parse.specs.grammar.LexemeKinds.{kinds_of}
use Rattle.types_parse.proofs.parse.ParserWholeLemmas.{whole_found, not_found}
use Rattle.types_parse.proofs.grammar.LexemeLemmas.{kinds_length}
use Rattle.types_parse.proofs.parse.TypeReading.{type_reached_first, type_syntax, type_too_deep, type_reached_next, type_end_refused, type_written, type_is_read}
use Rattle.types_parse.proofs.parse.type_parser.parse_type.Goals as goal

pub loop-position-init : goal.loop-position-init
loop-position-init c = rw (c.new-nodes.ensures.items, c.new-frames.ensures)
    (type_reached_first (kinds_of c.args.lexemes.now))

pub returns-in_default : goal.returns-in_default
returns-in_default c =
    record {
      ty = tt;
      fault =
          type_syntax c.loop-position.invariant c.kind_at-kind.result.now
          (omega (arith, kinds_length c.args.lexemes.now, c.loop-position-test.true))
          c.kind_at-kind.ensures
          c.in_ok-next.field-0 c.step.new.self.nodes.items c.step.new.self.frames c.in_default.not-Goes
          c.in_ok-next.ensures;
    }

pub opened-brackets-requires : goal.opened-brackets-requires
opened-brackets-requires c = c.loop-position.invariant.few

pub returns-then-brackets-gt200-clause-fault : goal.returns-then-brackets-gt200-clause-fault
returns-then-brackets-gt200-clause-fault c =
    type_too_deep c.loop-position.invariant c.kind_at-kind.result.now
    (omega (arith, kinds_length c.args.lexemes.now, c.loop-position-test.true))
    c.kind_at-kind.ensures
    c.in_ok-next.field-0 c.in-Goes.next c.step.new.self.nodes.items c.step.new.self.frames c.in-Goes.is
    c.in_ok-next.ensures
    (inl (omega (arith, c.opened-brackets.ensures, c.if-brackets-gt200.true)))

pub returns-then-depth-gt200-clause-fault : goal.returns-then-depth-gt200-clause-fault
returns-then-depth-gt200-clause-fault c =
    type_too_deep c.loop-position.invariant c.kind_at-kind.result.now
    (omega (arith, kinds_length c.args.lexemes.now, c.loop-position-test.true))
    c.kind_at-kind.ensures
    c.in_ok-next.field-0 c.in-Goes.next c.step.new.self.nodes.items c.step.new.self.frames c.in-Goes.is
    c.in_ok-next.ensures
    (inr (omega (arith, c.depth.ensures)))

pub loop-position-preserved : goal.loop-position-preserved
loop-position-preserved c =
    rw (add-one, c.opened-brackets.ensures)
    (type_reached_next c.loop-position.invariant c.kind_at-kind.result.now
    (omega (arith, kinds_length c.args.lexemes.now, c.loop-position-test.true))
    c.kind_at-kind.ensures
    c.in_ok-next.field-0 c.in-Goes.next c.step.new.self.nodes.items c.step.new.self.frames c.in-Goes.is
    c.in_ok-next.ensures
    (omega arith) (omega (arith, c.depth.ensures)))

pub of-requires : goal.of-requires
of-requires c =
    type_written c.loop-position.invariant c.whole.new.so_far.nodes.items
    (whole_found c.in_ok-whole.field-0 c.whole.new.so_far.nodes.items _ c.in_ok-whole.ensures
    c.if-branch.true)

pub returns-then-branch-clause-ty : goal.returns-then-branch-clause-ty
returns-then-branch-clause-ty c =
    rw c.of.ensures
    (type_is_read c.loop-position.invariant c.whole.new.so_far.nodes.items
    (omega (arith, kinds_length c.args.lexemes.now, c.loop-position-test.false))
    (whole_found c.in_ok-whole.field-0 c.whole.new.so_far.nodes.items _ c.in_ok-whole.ensures
    c.if-branch.true))

pub returns-else-branch-clause-fault : goal.returns-else-branch-clause-fault
returns-else-branch-clause-fault c =
    type_end_refused c.loop-position.invariant
    (omega (arith, kinds_length c.args.lexemes.now, c.loop-position-test.false))
    (not_found c.in_ok-whole.field-0 c.whole.new.so_far.nodes.items _ c.in_ok-whole.ensures
    c.if-branch.false)
