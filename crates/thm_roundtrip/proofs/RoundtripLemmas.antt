-- The law for all commands follows from the law for the commands on values and `build`.
use Rattle.std.proofs.Common.{false, refl}
use Rattle.cli_spec.specs.CommandLine.{styled_by}
use Rattle.cli_spec.specs.Outcome.{all_under, report, the_text, own, build}
use Rattle.thm_roundtrip.specs.Shown.{ShownTextsAreBuilt}
use Rattle.session.specs.All.{on_values, on_values_after, on_texts, all_commands, IsOfValues, IsOfTexts, IsPart}
use Rattle.session.proofs.SessionPartLemmas.{only_this, values_at_once}

pub all_build_shown_texts : IsPart on_values_after IsOfValues → IsPart on_texts IsOfTexts
    → ShownTextsAreBuilt on_values on_texts → ShownTextsAreBuilt all_commands all_commands
all_build_shown_texts values texts law arguments call reports run_spec later_arguments later later_reports
    later_run_spec file type limit contents input shown shows hides builds reads =
    let show = report (the_text (styled_by false shows.decimal)) file type shows.lines (all_under limit) in
    let built = only_this IsOfTexts later_arguments (own (build file type builds.lines builds.decimal)) builds.asks tt in
    law arguments call reports
    (values_at_once values arguments call show shows.asks tt refl refl run_spec)
    later_arguments later later_reports (texts.run_spec later_arguments later built later_run_spec)
    file type limit contents input shown shows hides builds reads
