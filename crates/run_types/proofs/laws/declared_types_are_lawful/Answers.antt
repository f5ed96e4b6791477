use Rattle.run_types.proofs.LanguageLemmas.{declared_lawful}
use Rattle.run_types.proofs.laws.declared_types_are_lawful.Goals as goal

pub returns : goal.returns
returns c =
    declared_lawful c.one_answer.ensures.files c.one_answer.ensures.types c.one_answer-2.ensures c.one_script_answer.ensures
    c.edits_have_one_answer.ensures c.files_are_well_formed.ensures c.types_are_sound.ensures
    c.type_or_fault.ensures.never_both c.tree_verdicts_are_one.ensures
