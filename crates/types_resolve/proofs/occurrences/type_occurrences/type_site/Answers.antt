use Rattle.std.proofs.Common.{[], false, ap, subst}
use Rattle.types_resolve.specs.occurrences.Counted.{in_type}
use Rattle.types_resolve.specs.declared.occurrences.found_occurrences.FoundOccurrences.{FoundOccurrences}
use Rattle.types_resolve.specs.occurrences.Adds.{Adds}
use Rattle.types_resolve.proofs.occurrences.OccurrenceFoundLemmas.{AreBrackets-added}
use Rattle.types_resolve.proofs.occurrences.OccurrenceSiteLemmas.{IsTypeSite-added}
use Rattle.types_resolve.proofs.occurrences.type_occurrences.type_site.Goals as goal

pub returns-clause-site : goal.returns-clause-site
returns-clause-site c =
    let all = in_type c.args.marks.now false c.args.ty.now in
    IsTypeSite-added c.write_type.new.found.site all
    (subst (λ (f : FoundOccurrences). Adds f.site c.write_type.new.found.site [] [] all) c.nothing-found.ensures
    c.in_ok-write_type.ensures.adds.site)

pub returns-clause-brackets : goal.returns-clause-brackets
returns-clause-brackets c =
    AreBrackets-added c.nothing-found.result c.write_type.new.found [] [] (in_type c.args.marks.now false c.args.ty.now)
    (ap (λ (f : FoundOccurrences). f.brackets) c.nothing-found.ensures) c.in_ok-write_type.ensures.adds
