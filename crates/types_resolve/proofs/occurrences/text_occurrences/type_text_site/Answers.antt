use Rattle.std.proofs.Common.{◌∙◌}
use Rattle.std.proofs.lemmas.Result.{IfOk-weaker}
use Rattle.types_resolve.specs.declared.occurrences.type_occurrences.TypeFound.{TypeFound}
use Rattle.types_resolve.proofs.occurrences.OccurrenceFileLemmas.{type_text, type_text_brackets}
use Rattle.types_resolve.proofs.occurrences.text_occurrences.type_text_site.Goals as goal

pub returns-clause-site : goal.returns-clause-site
returns-clause-site g c =
    IfOk-weaker c.type_site.result _ _ (λ (found : TypeFound) h.
    type_text c.args.lexemes.now c.args.ty.now c.as_slice.result.now g.tree c.requires.0 c.requires.1
    (c.as_slice.ensures.value ∙ c.in_ok-positions.ensures) found.site h) c.type_site.ensures.site

pub returns-clause-brackets : goal.returns-clause-brackets
returns-clause-brackets g c =
    IfOk-weaker c.type_site.result _ _ (λ (found : TypeFound) h.
    type_text_brackets c.args.lexemes.now c.args.ty.now c.as_slice.result.now g.tree c.requires.0 c.requires.1
    (c.as_slice.ensures.value ∙ c.in_ok-positions.ensures) found.brackets h) c.type_site.ensures.brackets
