use Rattle.std.proofs.Common.{◌≡◌, ◌∙◌, ℕ, List, ◌++◌, refl, ap, inl, inr, arith}
use Rattle.std.specs.Prelude.{Result, Ok, Err, OnOk}
use Rattle.text_decimal.specs.decimal.Shortest.{double_text}
use Rattle.text_decimal.specs.decimal.Layout.{IsDoubleText}
use Rattle.text_decimal.proofs.decimal.NearestLemmas.{few_powers}
use Rattle.text_decimal.proofs.decimal.DecimalTextLemmas.{is_double_text}
use Rattle.text_decimal.proofs.decimal.decimal_printer.write_double.Goals as goal

-- If the appended bytes are a text of the double, then the appended bytes are `double_text` of the
-- bits.
stated : {X E : Type 0} (bits : ℕ) (old new written : List ℕ) (r : Result X E) → OnOk r (new ≡ old ++ written) → IsDoubleText bits written → OnOk r (new ≡ old ++ double_text bits)
stated bits old new written (Ok x) h t = h ∙ ap (λ l. old ++ l) (is_double_text bits written t)
stated bits old new written (Err e) h t = tt

pub returns-then-size-eq0 : goal.returns-then-size-eq0
returns-then-size-eq0 c =
    stated c.args.bits c.args.text.now.items _ _ c.write_zero.result c.write_zero.ensures (inl (record { zero_is = c.if-size-eq0.true; text_is = refl }))

pub returns-then-size-ge-INFINITE : goal.returns-then-size-ge-INFINITE
returns-then-size-ge-INFINITE c =
    stated c.args.bits c.args.text.now.items _ _ c.write_float.result c.write_float.ensures (inr (inr (record { none = inl c.if-size-ge-INFINITE.true; text_is = refl })))

pub returns-in-None : goal.returns-in-None
returns-in-None c =
    stated c.args.bits c.args.text.now.items _ _ c.write_float-in-None.result c.write_float-in-None.ensures
    (inr (inr (record { none = inr ((omega arith, omega arith), c.in-None.ensures); text_is = refl })))

pub returns-in-Some : goal.returns-in-Some
returns-in-Some c =
    stated c.args.bits c.args.text.now.items _ _ c.write_signed.result c.write_signed.ensures
    (inr (inl (record { some = (omega arith, omega arith); digits = _; power = _; shortest = c.in-Some.ensures; text_is = refl })))

pub write_signed-requires : goal.write_signed-requires
write_signed-requires c =
    let r = c.in-Some.ensures.reads in
    (r.few, few_powers _ _ _ (omega arith, omega arith) r)
