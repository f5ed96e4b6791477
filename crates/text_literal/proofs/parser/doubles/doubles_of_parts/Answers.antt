use Rattle.std.proofs.Common.{◌≡◌, ◌+◌, ◌-◌, IfOk, Option, None, List, ℕ, option_map, ◌∙◌, ap, min, subst}
use Rattle.text_literal.proofs.parser.BitsLemmas.{parts_bits, array_bits, record_bits}
use Rattle.text_literal.proofs.parser.doubles.doubles_of_parts.Goals as goal

pub returns-clause-array : goal.returns-clause-array
returns-clause-array c k l ps v h =
    let P : Option (List ℕ) → Type 0 = λ bits. IfOk c.all_bits.result (λ all. option_map (λ own. own.items) all ≡ bits) in
    subst P (parts_bits c.args.nodes.now c.args.lexemes.now c.args.at k _ c.get.result c.min-many.result h c.get.ensures (c.min-many.ensures ∙ ap (λ n. min c.get.result.parts (n - (c.args.at + 1))) c.len.ensures.count) ∙ array_bits k l ps v) c.all_bits.ensures

pub returns-clause-flat : goal.returns-clause-flat
returns-clause-flat c k l rs x v h =
    let P : Option (List ℕ) → Type 0 = λ bits. IfOk c.all_bits.result (λ all. option_map (λ own. own.items) all ≡ bits) in
    subst P (parts_bits c.args.nodes.now c.args.lexemes.now c.args.at k _ c.get.result c.min-many.result h c.get.ensures (c.min-many.ensures ∙ ap (λ n. min c.get.result.parts (n - (c.args.at + 1))) c.len.ensures.count) ∙ record_bits k l None rs x v) c.all_bits.ensures
