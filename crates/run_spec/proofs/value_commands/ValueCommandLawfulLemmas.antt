-- If the language is lawful, then the commands on values are lawful.
use Rattle.cli_spec.specs.Outcome.{Language}
use Rattle.run_spec.specs.runs.Lawful.{AreLawful}
use Rattle.run_spec.specs.runs.LawfulLanguage.{IsLawful}
use Rattle.run_spec.specs.value_commands.Tasks.{commands}
use Rattle.run_spec.proofs.value_commands.ValueCommandFindLemmas.{whole_or, finds_once, finds_given, finds_by, wanted_read, finds_inside, wants_once}
use Rattle.run_spec.proofs.value_commands.ValueCommandItemLemmas.{lawful_at}

pub commands_lawful :
    {D T E : Type 0} (language : Language D T E) → IsLawful language
    → AreLawful (commands language)
commands_lawful language lawful = record {
  wants_once = wants_once language lawful;
  finds_once = finds_once language lawful;
  by_wanted = finds_by language lawful;
  reads_wanted = λ request files result finds turn name wants.
      whole_or (files turn name) (wanted_read language lawful request files result finds turn name wants);
  finds_inside = finds_inside language lawful;
  at = λ a found.
      lawful_at language lawful a (finds_given language lawful found.0 found.1 a found.2);
}
