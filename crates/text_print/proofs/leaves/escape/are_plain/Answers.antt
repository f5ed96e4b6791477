use Rattle.std.proofs.Common.{◌≡◌, ◌==◌, ◌<◌, ◌∷◌, [], take, sym, subst, arith}
use Rattle.std.proofs.lemmas.List.{get_or-take, length-take}
use Rattle.std.proofs.lemmas.Bool.{OnTrue_from}
use Rattle.text_print.specs.leaves.LeafTexts.{escaped}
use Rattle.text_print.proofs.leaves.EscapeLemmas.{all_plain, eq_zero}
use Rattle.text_print.proofs.leaves.escape.are_plain.Goals as goal

pub returns : goal.returns
returns c =
    let bytes = c.args.bytes.now in
    let k = c.args.k in
    OnTrue_from (c.loop-i.others == 0) _
    (λ none. all_plain (escaped 34) (take k bytes) (λ j inside.
    let less : j < k = omega (arith, inside, length-take k bytes) in
    subst (λ b. escaped 34 b ≡ b ∷ []) (sym (get_or-take k bytes j 0 less))
    (c.loop-i.invariant.1 (eq_zero c.loop-i.others none) j (omega (arith, less, c.requires)) less)))
