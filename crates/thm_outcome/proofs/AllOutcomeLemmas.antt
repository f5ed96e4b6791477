-- If the commands on values, `scan` or `gen` have an outcome, then the set of all commands has the outcome.
use Rattle.cli_spec.specs.Outcome.{Request}
use Rattle.session.specs.All.{on_values_after, on_texts, on_values_or_texts, on_certificates_after, on_others, on_certified_after, on_items, on_positions, on_input, on_made, all_commands}
use Rattle.thm_outcome.specs.Total.{HaveAnOutcome}
use Rattle.thm_outcome.proofs.SumOutcomeLemmas.{first_outcomes, second_outcomes}

pub all_outcomes : (Of : Request → Type 0) → HaveAnOutcome on_values_after Of → HaveAnOutcome all_commands Of
all_outcomes Of some =
    first_outcomes on_input on_made Of
    (first_outcomes on_items on_positions Of
    (first_outcomes on_others on_certified_after Of
    (first_outcomes on_values_or_texts on_certificates_after Of
    (first_outcomes on_values_after on_texts Of some))))

pub all_scan_outcomes : (Of : Request → Type 0) → HaveAnOutcome on_positions Of → HaveAnOutcome all_commands Of
all_scan_outcomes Of some =
    first_outcomes on_input on_made Of (second_outcomes on_items on_positions Of some)

pub all_gen_outcomes : (Of : Request → Type 0) → HaveAnOutcome on_made Of → HaveAnOutcome all_commands Of
all_gen_outcomes Of some = second_outcomes on_input on_made Of some
