use Rattle.run_types.proofs.RunTypesGivenLemmas.{given_sound}
use Rattle.cmd_build.specs.command.InputLines.{decimals_if, plain_if, known_on}
use Rattle.cmd_build.proofs.command.BuildOnceLemmas.{built_once}
use Rattle.cmd_build.proofs.command.laws.declared_texts_are_read_once.Goals as goal

pub returns : goal.returns
returns c t given line =
    let s = given_sound c.files_are_well_formed.ensures c.types_are_sound.ensures t given in
    built_once (plain_if t.decimal line) t (known_on t.lines (decimals_if t.decimal line))
    (λ graph root text has why.
    c.type_or_fault.ensures.never_both t.decls t.type s.few.types s.ok s.sound s.few.reached graph
    root why.fault why.least.is_fault has)
