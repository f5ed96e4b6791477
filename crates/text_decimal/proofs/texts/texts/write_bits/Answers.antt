use Rattle.std.proofs.Common.{◌≡◌, ◌∙◌, ◌++◌, cond, OnOk, true, slice_range, sym, subst}
use Rattle.std.specs.Prelude.{◌&&◌}
use Rattle.text_print.specs.leaves.LeafTexts.{float_text}
use Rattle.text_decimal.specs.decimal.Shortest.{double_text}
use Rattle.text_decimal.specs.texts.Texts.{stands_alone}
use Rattle.text_decimal.proofs.texts.texts.write_bits.Goals as goal

pub returns-then-is_float_text : goal.returns-then-is_float_text
returns-then-is_float_text c =
    let p = sym c.may_precede.ensures ∙ c.if-may_precede.true in
    let q = sym c.may_follow.ensures ∙ c.if-may_follow.true in
    let r = sym c.is_float_text.ensures ∙ c.if-is_float_text.true in
    let m = c.if-may.true in
    let alone : (c.args.may && stands_alone c.args.text.now c.args.first c.args.end (float_text c.args.bits)) ≡ true =
    (λ i. m i && (p i && q i && r i)) in
    subst (λ b. OnOk c.write_double.result (c.write_double.new.text.items
    ≡ c.args.new.now.items ++ cond b (double_text c.args.bits) (slice_range c.args.text.now c.args.first c.args.end))) (sym alone) c.write_double.ensures
