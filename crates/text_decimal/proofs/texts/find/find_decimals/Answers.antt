use Rattle.std.proofs.Common.{◌∙◌, ℕ, ◌+◌, ◌<◌, ◌≤◌, ◌^◌, true, List, length, drop, sym, subst, arith}
use Rattle.std.proofs.lemmas.List.{take_rest, length-drop}
use Rattle.text_decimal.specs.texts.PlainTexts.{IsPrefixWithin}
use Rattle.text_decimal.proofs.texts.DecimalTextFoundLemmas.{IsFound, within_more, found_none, found_double, found_kept, found_all, found_end, found_within}
use Rattle.text_decimal.proofs.texts.find.find_decimals.Goals as goal

inside : (text : List ℕ) (at len : ℕ) → at < length text → len ≤ length (drop at text) → at + len ≤ length text
inside text at len below le = omega (arith, le, length-drop at text)

pub loop-at-init : goal.loop-at-init
loop-at-init c = subst (λ ds. IsFound c.args.text.now 0 true ds) (sym c.new-decimals.ensures.items) (found_none c.args.text.now)

pub loop-at-preserved-in-Double : goal.loop-at-preserved-in-Double
loop-at-preserved-in-Double c =
    let text = c.args.text.now in
    let at = c.loop-at.at in
    let len = c.in-Double.len in
    let w : (0 < len) × (len ≤ length (drop at text)) = subst (IsPrefixWithin (length (drop at text))) c.in-Double.is (rw take_rest at c.in_ok-bits.ensures.within) in
    subst (IsFound text (at + len) true) (sym c.in_ok-push-in-Double.ensures.items)
    (found_double text at c.in-Double.bits len c.loop-at.may c.loop-at.decimals.items c.loop-at-test.true c.loop-at.invariant
    (sym (rw take_rest at c.in_ok-bits.ensures.is) ∙ c.in-Double.is) w.0 (inside text at len c.loop-at-test.true w.1))

pub loop-at-preserved : goal.loop-at-preserved
loop-at-preserved c =
    let text = c.args.text.now in
    let at = c.loop-at.at in
    let len = c.in-Kept.len in
    let w : (0 < len) × (len ≤ length (drop at text)) = subst (IsPrefixWithin (length (drop at text))) c.in-Kept.is (rw take_rest at c.in_ok-bits.ensures.within) in
    found_kept text at len c.loop-at.may c.in-Kept.next c.loop-at.decimals.items c.loop-at-test.true c.loop-at.invariant
    (sym (rw take_rest at c.in_ok-bits.ensures.is) ∙ c.in-Kept.is) w.0 (inside text at len c.loop-at-test.true w.1)

pub returns-in-Fault-clause-are : goal.returns-in-Fault-clause-are
returns-in-Fault-clause-are c =
    found_all c.args.text.now c.loop-at.at c.loop-at.may c.loop-at.decimals.items c.loop-at-test.true c.loop-at.invariant
    (sym (rw take_rest at c.in_ok-bits.ensures.is) ∙ c.in-Fault.is)

pub returns-in-Fault-clause-within : goal.returns-in-Fault-clause-within
returns-in-Fault-clause-within c = found_within c.args.text.now c.loop-at.at c.loop-at.may c.loop-at.decimals.items c.loop-at.invariant

pub returns-in-Fault-clause-room : goal.returns-in-Fault-clause-room
returns-in-Fault-clause-room c =
    within_more 0 c.loop-at.decimals.items c.loop-at.at (2 ^ 63) c.loop-at.invariant.within (omega (arith, c.loop-at.invariant.inside))

pub returns-clause-are : goal.returns-clause-are
returns-clause-are c = found_end c.args.text.now c.loop-at.at c.loop-at.may c.loop-at.decimals.items c.loop-at-test.false c.loop-at.invariant

pub returns-clause-room : goal.returns-clause-room
returns-clause-room c =
    within_more 0 c.loop-at.decimals.items c.loop-at.at (2 ^ 63) c.loop-at.invariant.within (omega (arith, c.loop-at.invariant.inside))
