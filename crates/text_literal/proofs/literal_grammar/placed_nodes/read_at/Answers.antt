use Rattle.std.proofs.Common.{◌+◌, ◌≡◌, ◌∙◌, ◌++◌, ◌∷◌, [], length, Option, Ok, rules, sym, subst, arith}
use Rattle.std.specs.Prelude.{IfSome}
use Rattle.types_lex.specs.declared.lexeme.Lexeme.{Lexeme}
use Rattle.types_lex.specs.Lexemes as lex
use Rattle.types_lex.specs.Lexemes.{GoesOn, lexeme_from}
use Rattle.types_lex.specs.Brief.{in_full, IsBriefNext}
use Rattle.text_literal.specs.literal_grammar.LiteralCode.{step_code, Steps}
use Rattle.text_literal.specs.literal_grammar.PlacedLiterals.{lexemes_at}
use Rattle.text_literal.proofs.literal_grammar.LiteralGrammarPlacedLemmas.{prefix_begins, prefix_tree, prefix_faulty, placed_lexed}
use Rattle.text_literal.proofs.literal_grammar.BriefLemmas.{brief_reached, brief_goes, brief_stops}
use Rattle.text_literal.proofs.literal_grammar.placed_nodes.read_at.Goals as goal
use Rattle.text_literal.proofs.literal_grammar.placed_nodes.read_at.Goals.{In-Ok-Some}

next : (c : In-Ok-Some) → IsBriefNext c.args.text.now c.loop-at.at c.in-Ok-Some.lexeme
next c = subst (λ (o : Option Lexeme). IfSome o (IsBriefNext c.args.text.now c.loop-at.at)) c.in-Ok-Some.field-0-is c.in-Ok-Some.ensures.position

abbrev full : (c : In-Ok-Some) → Lexeme
full c = lexeme_from c.args.text.now c.in-Ok-Some.lexeme.span.first

on : (c : In-Ok-Some) → lex.Reached c.args.text.now ((full c).span.first + (full c).span.len) (lexemes_at c.args.text.now c.loop-at.positions.items ++ full c ∷ [])
on c =
    subst (λ (o : Option Lexeme). GoesOn c.args.text.now (lexemes_at c.args.text.now c.loop-at.positions.items) (in_full c.args.text.now (Ok o))) c.in-Ok-Some.field-0-is
    (c.in-Ok-Some.ensures.next _ c.loop-at.invariant.reached)

pub loop-at-init : goal.loop-at-init
loop-at-init c = prefix_begins c.args.text.now c.args.positions.now.items c.with_room-nodes.result c.new-opens.result c.requires.empty c.with_room-nodes.ensures c.new-opens.ensures

pub returns-in-Ok-None-take : goal.returns-in-Ok-None-take
returns-in-Ok-None-take c =
    let many : c.len.result ≡ length c.loop-at.positions.items = search rules in
    let here = (goal.at.returns-in-Ok-None-take c).In-Ok-Some in
    brief_stops c.args.text.now c.loop-at.at c.loop-at.positions.items c.loop-at.so_far.nodes c.loop-at.so_far.opens c.loop-at.stage c.loop-at.invariant c.requires.short
    c.in-Ok-Some.lexeme (next here) (on here) c.take.new.so_far.nodes c.take.new.so_far.opens c.in-Ok-None-take.field-0 c.stopped.result
    (subst (λ n. Steps (Ok c.in-Ok-None-take.field-0) c.take.new.so_far.nodes c.take.new.so_far.opens (step_code c.loop-at.so_far.nodes c.loop-at.so_far.opens c.loop-at.stage n c.in-Ok-Some.lexeme.kind)) many c.in-Ok-None-take.ensures)
    c.in-Ok-None-take.field-0-is (c.stopped.ensures _ (brief_reached c.args.text.now c.loop-at.at c.loop-at.positions.items c.loop-at.so_far.nodes c.loop-at.so_far.opens c.loop-at.stage c.loop-at.invariant c.requires.short c.in-Ok-Some.lexeme (next here) (on here)))

pub loop-at-preserved-in-Ok-Some : goal.loop-at-preserved-in-Ok-Some
loop-at-preserved-in-Ok-Some c =
    let many : c.len.result ≡ length c.loop-at.positions.items = search rules in
    let here = (goal.at.loop-at-preserved-in-Ok-Some c).In-Ok-Some in
    brief_goes c.args.text.now c.loop-at.at c.loop-at.positions.items c.loop-at.so_far.nodes c.loop-at.so_far.opens c.loop-at.stage c.loop-at.invariant c.requires.short
    c.in-Ok-Some.lexeme (next here) (on here) c.take.new.so_far.nodes c.take.new.so_far.opens c.in-Ok-Some-take.field-0 c.in-Ok-Some-take.next c.push.new.self.items
    (subst (λ n. Steps (Ok c.in-Ok-Some-take.field-0) c.take.new.so_far.nodes c.take.new.so_far.opens (step_code c.loop-at.so_far.nodes c.loop-at.so_far.opens c.loop-at.stage n c.in-Ok-Some.lexeme.kind)) many c.in-Ok-Some-take.ensures)
    c.in-Ok-Some-take.field-0-is c.in-Ok.ensures.items

pub returns-in-Err : goal.returns-in-Err
returns-in-Err c = placed_lexed c.args.text.now c.lexed.result (c.lexed.ensures c.args.text.now (c.in-Err.ensures.next _ c.loop-at.invariant.reached))

pub returns-in-Ok-Some-ended : goal.returns-in-Ok-Some-ended
returns-in-Ok-Some-ended c =
    prefix_tree c.args.text.now c.loop-at.at c.loop-at.positions.items c.loop-at.so_far.nodes c.loop-at.so_far.opens c.loop-at.stage c.loop-at.invariant (omega (arith, c.loop-at-test.false))
    c.in-Ok-Some-ended.tree (sym c.in-Ok-Some-ended.field-0-is ∙ c.in-Ok-Some-ended.ensures)

pub returns-in-Ok-None-ended : goal.returns-in-Ok-None-ended
returns-in-Ok-None-ended c =
    prefix_faulty c.args.text.now c.loop-at.at c.loop-at.positions.items c.loop-at.so_far.nodes c.loop-at.so_far.opens c.loop-at.stage c.loop-at.invariant (omega (arith, c.loop-at-test.false))
    (sym c.in-Ok-None-ended.field-0-is ∙ c.in-Ok-None-ended.ensures) (grind (arith, c.if-is_empty.false, c.is_empty.ensures))
