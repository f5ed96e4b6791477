-- The error line of an exit reason other than `Finished`.
use Rattle.std.proofs.Common.{◌≡◌, Bool, refl}
use Rattle.cli_spec.specs.Outcome.{exit_line, err_line, exit_text}
use Rattle.cli_spec.specs.declared.exit.Exit.{Exit}
use Rattle.cli_spec.specs.declared.exit.Exit.TheVariants as exits

pub line_is : (exit : Exit) → ((ok : Bool) → exit ≡ exits.Finished ok → ⊥)
    → err_line (exit_text exit) ≡ exit_line exit
line_is exits.Usage other = refl
line_is exits.BadPath other = refl
line_is exits.NotTwoValues other = refl
line_is (exits.CannotOpen name) other = refl
line_is (exits.Declarations refusal) other = refl
line_is (exits.RequestedType refusal) other = refl
line_is (exits.Value number refusal) other = refl
line_is (exits.Script number refusal) other = refl
line_is (exits.Text number refusal) other = refl
line_is (exits.Untyped number fault) other = refl
line_is (exits.LargeValue number refusal) other = refl
line_is (exits.Certificate number) other = refl
line_is (exits.Uncertified number reason) other = refl
line_is exits.SectionsLeft other = refl
line_is (exits.Short taken) other = refl
line_is (exits.Finished ok) other = absurd (other ok refl)
line_is exits.ReadFault other = refl
line_is exits.TooLong other = refl
line_is exits.Memory other = refl
