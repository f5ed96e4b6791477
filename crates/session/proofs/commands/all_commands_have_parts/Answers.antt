use Rattle.session.proofs.SessionPartLemmas.{values_part, texts_part, certificates_part, sections_part, positions_part, made_part}
use Rattle.session.proofs.commands.all_commands_have_parts.Goals as goal

pub returns-clause-values : goal.returns-clause-values
returns-clause-values c =
    values_part c.building_stands_disjoint.ensures.idle c.verifying_is_idle_elsewhere.ensures
    c.certifying_is_idle_elsewhere.ensures c.searching_is_idle_elsewhere.ensures
    c.gen_spec_is_idle_elsewhere.ensures
    c.command_sums_specify_as_the_first-5.ensures.account c.command_sums_specify_as_the_first-5.ensures.run_spec
    c.command_sums_specify_as_the_first-4.ensures.account c.command_sums_specify_as_the_first-4.ensures.run_spec
    c.command_sums_specify_as_the_first-3.ensures.account c.command_sums_specify_as_the_first-3.ensures.run_spec
    c.command_sums_specify_as_the_first-2.ensures.account c.command_sums_specify_as_the_first-2.ensures.run_spec
    c.command_sums_specify_as_the_first.ensures.account c.command_sums_specify_as_the_first.ensures.run_spec

pub returns-clause-texts : goal.returns-clause-texts
returns-clause-texts c =
    texts_part c.building_stands_disjoint.ensures.idle c.verifying_is_idle_elsewhere.ensures
    c.certifying_is_idle_elsewhere.ensures c.searching_is_idle_elsewhere.ensures
    c.gen_spec_is_idle_elsewhere.ensures
    c.command_sums_specify_as_the_first-5.ensures.account c.command_sums_specify_as_the_first-5.ensures.run_spec
    c.command_sums_specify_as_the_first-4.ensures.account c.command_sums_specify_as_the_first-4.ensures.run_spec
    c.command_sums_specify_as_the_first-3.ensures.account c.command_sums_specify_as_the_first-3.ensures.run_spec
    c.command_sums_specify_as_the_first-2.ensures.account c.command_sums_specify_as_the_first-2.ensures.run_spec
    c.command_sums_specify_as_the_second.ensures.account c.command_sums_specify_as_the_second.ensures.run_spec

pub returns-clause-certificates : goal.returns-clause-certificates
returns-clause-certificates c =
    certificates_part c.building_stands_disjoint.ensures.idle c.verifying_is_idle_elsewhere.ensures
    c.certifying_is_idle_elsewhere.ensures c.searching_is_idle_elsewhere.ensures
    c.gen_spec_is_idle_elsewhere.ensures
    c.command_sums_specify_as_the_first-5.ensures.account c.command_sums_specify_as_the_first-5.ensures.run_spec
    c.command_sums_specify_as_the_first-4.ensures.account c.command_sums_specify_as_the_first-4.ensures.run_spec
    c.command_sums_specify_as_the_first-3.ensures.account c.command_sums_specify_as_the_first-3.ensures.run_spec
    c.command_sums_are_idle.ensures
    c.command_sums_specify_as_the_second-2.ensures.account c.command_sums_specify_as_the_second-2.ensures.run_spec

pub returns-clause-sections : goal.returns-clause-sections
returns-clause-sections c =
    sections_part c.building_stands_disjoint.ensures.idle c.verifying_is_idle_elsewhere.ensures
    c.certifying_is_idle_elsewhere.ensures c.searching_is_idle_elsewhere.ensures
    c.gen_spec_is_idle_elsewhere.ensures
    c.command_sums_specify_as_the_first-5.ensures.account c.command_sums_specify_as_the_first-5.ensures.run_spec
    c.command_sums_specify_as_the_first-4.ensures.account c.command_sums_specify_as_the_first-4.ensures.run_spec
    c.command_sums_are_idle.ensures c.command_sums_are_idle-2.ensures
    c.command_sums_specify_as_the_second-3.ensures.account c.command_sums_specify_as_the_second-3.ensures.run_spec

pub returns-clause-positions : goal.returns-clause-positions
returns-clause-positions c =
    positions_part c.building_stands_disjoint.ensures.idle c.verifying_is_idle_elsewhere.ensures
    c.certifying_is_idle_elsewhere.ensures c.searching_is_idle_elsewhere.ensures
    c.gen_spec_is_idle_elsewhere.ensures
    c.command_sums_specify_as_the_first-5.ensures.account c.command_sums_specify_as_the_first-5.ensures.run_spec
    c.command_sums_are_idle.ensures c.command_sums_are_idle-2.ensures c.command_sums_are_idle-3.ensures
    c.command_sums_specify_as_the_second-4.ensures.account c.command_sums_specify_as_the_second-4.ensures.run_spec

pub returns-clause-made : goal.returns-clause-made
returns-clause-made c =
    made_part c.building_stands_disjoint.ensures.idle c.verifying_is_idle_elsewhere.ensures
    c.certifying_is_idle_elsewhere.ensures c.searching_is_idle_elsewhere.ensures
    c.gen_spec_is_idle_elsewhere.ensures
    c.command_sums_are_idle.ensures c.command_sums_are_idle-2.ensures c.command_sums_are_idle-3.ensures c.command_sums_are_idle-4.ensures
    c.command_sums_specify_as_the_second-5.ensures.account c.command_sums_specify_as_the_second-5.ensures.run_spec
