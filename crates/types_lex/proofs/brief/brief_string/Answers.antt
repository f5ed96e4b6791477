use Rattle.std.proofs.Common.{arith, ◌+◌, ◌++◌, ◌∷◌, []}
use Rattle.std.proofs.lemmas.List.{take_rest}
use Rattle.types_lex.proofs.CharLaws.{ReadsChars, reads_none, reads_more, reads_further, no_char, string_open, string_closes, string_escapes, string_breaks}
use Rattle.types_lex.proofs.BriefLaws.{reads_to_end, end_onward, closes_brief}
use Rattle.types_lex.proofs.brief.brief_string.Goals as goal
use Rattle.types_lex.proofs.brief.brief_string.Goals.{In-Some}

one_more : (c : In-Some) → ReadsChars c.args.text.now (c.loop-len.at + c.in-Some.len) (c.loop-len.invariant.0 ++ c.in-Some.field-0-0 ∷ [])
one_more c = reads_more c.args.text.now c.loop-len.at c.loop-len.invariant.0 c.in-Some.field-0-0 c.in-Some.len c.loop-len.invariant.1 (rw take_rest at c.in-Some.ensures)

pub loop-len-init : goal.loop-len-init
loop-len-init c = reads_to_end c.args.text.now 0 [] c.plain_end-at.result (reads_none c.args.text.now) c.plain_end-at.ensures

pub plain_end-at-requires-in-Some : goal.plain_end-at-requires-in-Some
plain_end-at-requires-in-Some c = (one_more (goal.at.plain_end-at-requires-in-Some c).In-Some).inside

pub loop-len-preserved : goal.loop-len-preserved
loop-len-preserved c =
    reads_to_end c.args.text.now (c.loop-len.at + c.in-Some.len) _ c.plain_end-at-in-Some.result
    (one_more (goal.at.loop-len-preserved c).In-Some) c.plain_end-at-in-Some.ensures

pub loop-len-smaller : goal.loop-len-smaller
loop-len-smaller c = omega (
  arith,
  reads_further c.args.text.now c.loop-len.at c.loop-len.invariant.0 c.in-Some.field-0-0 c.in-Some.len c.loop-len.invariant.1 (rw take_rest at c.in-Some.ensures),
  end_onward c.args.text.now (c.loop-len.at + c.in-Some.len) c.plain_end-at-in-Some.result c.plain_end-at-in-Some.ensures,
)

pub returns-then-at-text : goal.returns-then-at-text
returns-then-at-text c = string_open c.args.text.now c.loop-len.at c.loop-len.invariant.0 c.loop-len.invariant.1 (no_char _ (rw take_rest at c.in_default.ensures)) (omega arith)

pub returns-then-end-eq34 : goal.returns-then-end-eq34
returns-then-end-eq34 c =
    closes_brief _ c.loop-len.invariant.0 c.new.result (c.loop-len.at + 2)
    (string_closes c.args.text.now c.loop-len.at c.loop-len.invariant.0 c.loop-len.invariant.1 (no_char _ (rw take_rest at c.in_default.ensures)) (omega arith) c.if-end-eq34.true)
    c.new.ensures

pub returns-then-end-eq92 : goal.returns-then-end-eq92
returns-then-end-eq92 c = string_escapes c.args.text.now c.loop-len.at c.loop-len.invariant.0 c.loop-len.invariant.1 (no_char _ (rw take_rest at c.in_default.ensures)) (omega arith) c.if-end-eq92.true

pub returns-else-end-eq92 : goal.returns-else-end-eq92
returns-else-end-eq92 c = string_breaks c.args.text.now c.loop-len.at c.loop-len.invariant.0 c.loop-len.invariant.1 (no_char _ (rw take_rest at c.in_default.ensures)) (omega arith) c.if-end-eq34.false c.if-end-eq92.false
