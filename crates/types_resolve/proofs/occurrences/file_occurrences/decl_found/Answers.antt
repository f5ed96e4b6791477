use Rattle.std.proofs.Common.{List, ℕ, ◌∙◌, ap}
use Rattle.types_resolve.specs.occurrences.CountedFile.{parameters_in}
use Rattle.types_resolve.proofs.occurrences.BodyLemmas.{decl_rest, decl_known, decl_brackets}
use Rattle.types_resolve.proofs.occurrences.file_occurrences.decl_found.Goals as goal

pub returns-clause-site : goal.returns-clause-site
returns-clause-site c =
    decl_known c.args.marks.now c.skip-name.result.now c.skip.result.now c.args.decl.now c.len.result c.len.ensures
    c.skip-name.ensures c.skip.ensures c.nothing-found.result c.write_names.new.found c.write_body.new.found
    c.in_ok-parameters_row.field-0 c.nothing-found.ensures
    (c.in_ok-parameters_row.ensures ∙ ap (λ (names : List (List ℕ)). parameters_in c.args.marks.now names) c.as_slice.ensures)
    c.in_ok-write_names.ensures c.in_ok-rest.ensures.adds

pub returns-clause-brackets : goal.returns-clause-brackets
returns-clause-brackets c =
    decl_brackets c.args.marks.now c.skip-name.result.now c.skip.result.now c.args.decl.now c.len.result c.len.ensures
    c.skip-name.ensures c.skip.ensures c.nothing-found.result c.write_names.new.found c.write_body.new.found
    c.in_ok-parameters_row.field-0 c.nothing-found.ensures
    (c.in_ok-parameters_row.ensures ∙ ap (λ (names : List (List ℕ)). parameters_in c.args.marks.now names) c.as_slice.ensures)
    c.in_ok-write_names.ensures c.in_ok-rest.ensures.adds

pub returns-clause-rest : goal.returns-clause-rest
returns-clause-rest c =
    decl_rest c.args.marks.now c.skip-name.result.now c.skip.result.now c.args.decl.now c.len.result c.len.ensures
    c.skip-name.ensures c.skip.ensures c.in_ok-rest.rest.now c.in_ok-rest.ensures.rest
