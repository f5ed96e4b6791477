use Rattle.std.proofs.Common.{inl, inr, arith, add-one, ◌∙◌, sym}
use Rattle.types_parse.specs.grammar.LexemeKinds.{kinds_of}
use Rattle.types_parse.proofs.grammar.LexemeLemmas.{kinds_length}
use Rattle.types_parse.proofs.parse.FileReading.{
  file_reached_first,
  file_readable,
  file_syntax,
  file_too_deep,
  file_reached_next,
  file_end_refused,
  file_is_read,
}
use Rattle.types_parse.proofs.parse.file_parser.parse_file.Goals as goal

pub loop-position-init : goal.loop-position-init
loop-position-init c =
    rw (c.new-nodes.ensures.items, c.new-frames.ensures, c.new.ensures)
    (file_reached_first (kinds_of c.args.lexemes.now))

pub file_step-requires : goal.file_step-requires
file_step-requires c = file_readable c.loop-position.invariant

pub returns-in_default-clause-fault : goal.returns-in_default-clause-fault
returns-in_default-clause-fault c =
    file_syntax c.loop-position.invariant c.kind_at-kind.result.now
    (omega (arith, kinds_length c.args.lexemes.now, c.loop-position-test.true)) c.kind_at-kind.ensures
    c.in_ok-next.field-0 c.file_step.new.so_far.nodes.items c.file_step.new.so_far.frames c.in_default.is
    c.in_ok-next.ensures

pub returns-then-brackets-gt200-clause-fault : goal.returns-then-brackets-gt200-clause-fault
returns-then-brackets-gt200-clause-fault c =
    file_too_deep c.loop-position.invariant c.kind_at-kind.result.now
    (omega (arith, kinds_length c.args.lexemes.now, c.loop-position-test.true)) c.kind_at-kind.ensures
    c.in_ok-next.field-0 c.in-Some.next c.file_step.new.so_far.nodes.items c.file_step.new.so_far.frames
    c.in-Some.is
    c.in_ok-next.ensures (inl (omega (arith, c.opened-brackets.ensures, c.if-brackets-gt200.true)))

pub returns-then-file_depth-gt200-clause-fault : goal.returns-then-file_depth-gt200-clause-fault
returns-then-file_depth-gt200-clause-fault c =
    file_too_deep c.loop-position.invariant c.kind_at-kind.result.now
    (omega (arith, kinds_length c.args.lexemes.now, c.loop-position-test.true)) c.kind_at-kind.ensures
    c.in_ok-next.field-0 c.in-Some.next c.file_step.new.so_far.nodes.items c.file_step.new.so_far.frames
    c.in-Some.is
    c.in_ok-next.ensures (inr (omega (arith, c.file_depth.ensures)))

pub loop-position-preserved : goal.loop-position-preserved
loop-position-preserved c =
    rw (add-one, c.opened-brackets.ensures)
    (file_reached_next c.loop-position.invariant c.kind_at-kind.result.now
    (omega (arith, kinds_length c.args.lexemes.now, c.loop-position-test.true))
    c.kind_at-kind.ensures
    c.in_ok-next.field-0 c.in-Some.next c.file_step.new.so_far.nodes.items c.file_step.new.so_far.frames
    c.in-Some.is
    c.in_ok-next.ensures (omega arith) (omega (arith, c.file_depth.ensures)))

pub returns-in-Some-2-clause-declarations : goal.returns-in-Some-2-clause-declarations
returns-in-Some-2-clause-declarations c =
    file_is_read c.loop-position.invariant c.in-Some-2.decls
    (omega (arith, kinds_length c.args.lexemes.now, c.loop-position-test.false))
    (sym c.in_ok-decls.ensures ∙ c.in-Some-2.is)

pub returns-in-None-clause-fault : goal.returns-in-None-clause-fault
returns-in-None-clause-fault c =
    file_end_refused c.loop-position.invariant
    (omega (arith, kinds_length c.args.lexemes.now, c.loop-position-test.false))
    (sym c.in_ok-decls.ensures ∙ c.in-None.is)
