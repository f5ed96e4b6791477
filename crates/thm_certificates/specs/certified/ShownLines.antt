-- Verifying the certificate entry of a value gives the line that `check` prints for the value.
use Rattle.std.specs.Prelude.{ℕ, ◌≡◌, List}
use Rattle.base_data.specs.declared.model.value.Val.{Val}
use Rattle.base_data.specs.declared.model.value.Obj.{Obj}
use Rattle.cert_format.specs.declared.section.Section.{Section}
use Rattle.cli_spec.specs.Outcome.{the_verdict}
use Rattle.run_spec.specs.runs.LawfulLanguage.{IsGiven}
use Rattle.run_types.specs.Language.{TypeOver, IsTypeLine, declared_types}
use Rattle.cmd_verify.specs.spec.Verification.{Shown, shows}
use Rattle.cmd_verify.specs.command.VerifiedSections.{IsShownAt}
use Rattle.cmd_certify.specs.command.CertifiedOutput.{IsSectionOf, is_yes}

-- The entry is not rejected, and verifying the entry gives a line of `check`.
pub record ShowsLine (t : TypeOver) (graph : List Obj) (v : Val) (section : Section)
    (shown : Shown) : Type 0 where
  pub line : List ℕ
  pub is : shown ≡ shows line (is_yes section)
  pub outputs : IsTypeLine the_verdict t graph v line (is_yes section)

-- Verifying an entry that certifies a value gives the line of `check`, at each type that some texts
-- denote.
abbrev pub CertifiedTextsAreShown : Type 0
CertifiedTextsAreShown =
    (t : TypeOver) → IsGiven declared_types t
    → (graph : List Obj) (v : Val) (section : Section) (shown : Shown)
    → IsSectionOf t graph v section → IsShownAt t section graph v shown
    → ShowsLine t graph v section shown
