use Rattle.std.proofs.Common.{arith, ◌+◌, []}
use Rattle.std.proofs.lemmas.List.{take_rest}
use Rattle.types_lex.proofs.CharLaws.{reads_none, reads_plain, plain_onward, reads_more, reads_further, no_char, string_open, string_closes, string_escapes, string_breaks}
use Rattle.types_lex.proofs.characters.string.Goals as goal

pub loop-byte-preserved : goal.loop-byte-preserved
loop-byte-preserved c = reads_plain c.args.text.now (c.loop-byte.at + c.in-Some.len) c.push.new.self.items c.in_ok-at-2.at c.take_plain-in-Some.new.value.items
    (rw c.in_ok-push.ensures.items (reads_more c.args.text.now c.loop-byte.at c.loop-byte.value.items c.in-Some.byte c.in-Some.len c.loop-byte.invariant (rw take_rest at c.in-Some.ensures)))
    c.in_ok-at-2.ensures

pub loop-byte-smaller : goal.loop-byte-smaller
loop-byte-smaller c = omega (
  arith,
  reads_further c.args.text.now c.loop-byte.at c.loop-byte.value.items c.in-Some.byte c.in-Some.len c.loop-byte.invariant (rw take_rest at c.in-Some.ensures),
  plain_onward c.args.text.now (c.loop-byte.at + c.in-Some.len) c.push.new.self.items c.in_ok-at-2.at c.take_plain-in-Some.new.value.items c.in_ok-at-2.ensures,
)

pub returns-then-at-text : goal.returns-then-at-text
returns-then-at-text c = string_open c.args.text.now c.loop-byte.at c.loop-byte.value.items c.loop-byte.invariant (no_char _ (rw take_rest at c.in_default.ensures)) (omega arith)

pub returns-then-end-eq34 : goal.returns-then-end-eq34
returns-then-end-eq34 c = rw c.of.ensures (string_closes c.args.text.now c.loop-byte.at c.loop-byte.value.items c.loop-byte.invariant (no_char _ (rw take_rest at c.in_default.ensures)) (omega arith) c.if-end-eq34.true)

pub returns-then-end-eq92 : goal.returns-then-end-eq92
returns-then-end-eq92 c = string_escapes c.args.text.now c.loop-byte.at c.loop-byte.value.items c.loop-byte.invariant (no_char _ (rw take_rest at c.in_default.ensures)) (omega arith) c.if-end-eq92.true

pub returns : goal.returns
returns c = string_breaks c.args.text.now c.loop-byte.at c.loop-byte.value.items c.loop-byte.invariant (no_char _ (rw take_rest at c.in_default.ensures)) (omega arith) c.if-end-eq34.false c.if-end-eq92.false

pub loop-byte-init : goal.loop-byte-init
loop-byte-init c = reads_plain c.args.text.now 0 [] c.in_ok-at.at c.take_plain.new.value.items (reads_none c.args.text.now) (rw c.new-value.ensures.items at c.in_ok-at.ensures)

pub take_plain-requires-in-Some : goal.take_plain-requires-in-Some
take_plain-requires-in-Some c = (reads_more c.args.text.now c.loop-byte.at c.loop-byte.value.items c.in-Some.byte c.in-Some.len c.loop-byte.invariant (rw take_rest at c.in-Some.ensures)).inside
