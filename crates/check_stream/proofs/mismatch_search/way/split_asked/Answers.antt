use Rattle.std.proofs.Common.{rules, ◌<◌, ◌∙◌, ◌∷◌, length, map, get_or, refl, ap, sym}
use Rattle.check_stream.specs.theory.AskedNeeds.{of_type}
use Rattle.check_stream.specs.checker.OpenPositions.{open_needs}
use Rattle.check_stream.proofs.checker.CheckerChunkLemmas.{rest_from}
use Rattle.check_stream.proofs.mismatch_search.MismatchSearchWayLemmas.{first_listed, split_type, split_hash}
use Rattle.check_stream.proofs.mismatch_search.way.split_asked.Goals as goal

pub returns-else-is_empty : goal.returns-else-is_empty
returns-else-is_empty c =
    let types = c.in-Listed.types.now in
    let some : 0 < length types = search rules in
    split_type _ c.args.positions _ _ refl
    (ap open_needs c.in-Listed.is ∙ first_listed types some ∙ ap (λ ts. of_type (get_or types 0 0) ∷ map of_type ts) (sym (rest_from 1 types)))

pub returns-else-count-eq0 : goal.returns-else-count-eq0
returns-else-count-eq0 c = split_type _ c.args.positions _ _ refl (search rules)

pub returns-in-Tagged : goal.returns-in-Tagged
returns-in-Tagged c = split_hash c.args.positions c.in-Tagged.tags c.in-Tagged.is
