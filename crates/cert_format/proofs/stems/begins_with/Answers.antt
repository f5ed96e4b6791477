use Rattle.std.proofs.Common.{◌∙◌, sym}
use Rattle.cert_format.proofs.StemLemmas.{prefix_known}
use Rattle.cert_format.proofs.stems.begins_with.Goals as goal

pub returns : goal.returns
returns c =
    prefix_known c.args.text.now c.args.prefix.now c.requires.many c.requires.few c.requires.within (λ k. (c.type_inv.text k).fits)
    (λ k. (c.type_inv.prefix k).fits) (sym c.word_from.ensures ∙ (c.if-word_from.false ∙ c.word_from-2.ensures))
    (sym c.word_from-3.ensures ∙ (c.if-word_from-2.false ∙ c.word_from-4.ensures))
