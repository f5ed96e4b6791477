-- If the language is lawful, and certificates are read once, then the command is lawful.
use Rattle.marshal_spec.specs.format.Tree.{Tree}
use Rattle.cli_spec.specs.Outcome.{Language}
use Rattle.run_spec.specs.runs.Lawful.{AreLawful}
use Rattle.run_spec.specs.runs.LawfulLanguage.{IsLawful}
use Rattle.run_spec.proofs.value_commands.ValueCommandFindLemmas.{whole_or}
use Rattle.cmd_verify.specs.spec.Verification.{Shown, ReadsSections, verifying, AreReadOnce}
use Rattle.cmd_verify.proofs.spec.VerifySpecFindLemmas.{finds_once, wants_once, finds_by, wanted_read, finds_inside, found_given}
use Rattle.cmd_verify.proofs.spec.VerifySpecItemLemmas.{lawful_at}

pub verifying_lawful :
    {D T E S : Type 0} (language : Language D T E) (Reads : ReadsSections S)
    (ShownBy : T → S → Tree → Shown → Type 0) → IsLawful language
    → AreReadOnce language Reads ShownBy → AreLawful (verifying language Reads ShownBy)
verifying_lawful language Reads ShownBy lawful once = record {
  wants_once = wants_once language Reads ShownBy lawful once.sections;
  finds_once = finds_once language Reads ShownBy lawful once.sections;
  by_wanted = finds_by language Reads ShownBy lawful once.sections;
  reads_wanted = λ request files result finds turn name wants.
      whole_or (files turn name)
      (wanted_read language Reads ShownBy lawful once.sections request files result finds turn name
      wants);
  finds_inside = finds_inside language Reads ShownBy lawful once.sections;
  at = λ a found.
      lawful_at ShownBy a
      (once.shown a.type
      (found_given language Reads ShownBy lawful once.sections found.0 found.1 a found.2))
      language Reads;
}
