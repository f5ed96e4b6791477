use Rattle.std.proofs.Common.{◌∙◌}
use Rattle.std.proofs.lemmas.Result.{IfOk-weaker}
use Rattle.types_resolve.specs.declared.occurrences.file_occurrences.FileSites.{FileSites}
use Rattle.types_resolve.proofs.occurrences.OccurrenceFileLemmas.{file_text, file_text_brackets}
use Rattle.types_resolve.proofs.occurrences.text_occurrences.file_text_sites.Goals as goal

pub returns-clause-sites : goal.returns-clause-sites
returns-clause-sites g c =
    IfOk-weaker c.file_sites.result _ _ (λ (found : FileSites) h.
    file_text c.args.lexemes.now c.args.decls.now c.as_slice.result.now g.tree c.requires.0 c.requires.1
    (c.as_slice.ensures.value ∙ c.in_ok-positions.ensures) found.names found.sites h) c.file_sites.ensures.sites

pub returns-clause-brackets : goal.returns-clause-brackets
returns-clause-brackets g c =
    IfOk-weaker c.file_sites.result _ _ (λ (found : FileSites) h.
    file_text_brackets c.args.lexemes.now c.args.decls.now c.as_slice.result.now g.tree c.requires.0 c.requires.1
    (c.as_slice.ensures.value ∙ c.in_ok-positions.ensures) found.brackets h) c.file_sites.ensures.brackets
