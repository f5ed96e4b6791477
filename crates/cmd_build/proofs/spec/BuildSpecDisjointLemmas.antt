-- The command on texts ignores each request that is not its own, and the commands on values ignore
-- each request of the command on texts.
use Rattle.std.proofs.Common.{◌≡◌, ◌∙◌, ℕ, List, Some, None, Result, inl, inr, refl, sym}
use Rattle.cli_spec.specs.Outcome.{Request, AskedType, report, get, edit, dump, compare, own, OwnRequest, Language, Task}
use Rattle.cli_spec.specs.declared.exit.Exit.{Exit}
use Rattle.run_spec.specs.runs.Commands.{Fetches}
use Rattle.run_spec.specs.command_sum.CommandSum.{IsIdleAt, AreDisjoint}
use Rattle.run_spec.specs.value_commands.Tasks.{Wants, Finds, commands}
use Rattle.cmd_build.specs.spec.InputTexts.{Built, built_by, building}

-- The commands on values ignore each request of other command sets.
module _ {D T E : Type 0} (language : Language D T E) where
  pub values_idle : (request : OwnRequest) → IsIdleAt (commands language) (own request)
  values_idle request = record {
    unwanted = unwanted;
    unfound = unfound;
  } where
    unwanted : (files : Fetches) (turn : ℕ) (name : List ℕ)
        → Wants language (own request) files turn name → ⊥
    unwanted files turn name (inl (now, w)) = let e = w.typed in cc e
    unwanted files turn name (inr (now, w)) = let e = w.scripted in cc e

    unfound : (files : Fetches) (result : Result (Task T E) Exit)
        → Finds language (own request) files result → ⊥
    unfound files result (work, h, known) = h

module _ {D T E : Type 0} (language : Language D T E) (TextOf : T → List ℕ → Built → Type 0) where
  pub texts_idle :
      (request : Request) → built_by request ≡ None → IsIdleAt (building language TextOf) request
  texts_idle request none = record {
    unwanted = λ files turn name h. differ (name, h.1) h.2;
    unfound = λ files result h. differ h.0 h.1;
  } where
    differ : (typed : List ℕ × AskedType) → built_by request ≡ Some typed → ⊥
    differ typed e = let never : None ≡ Some typed = sym none ∙ e in cc never

  pub disjoint : AreDisjoint (commands language) (building language TextOf)
  disjoint (report query f t lined most) = inr (texts_idle (report query f t lined most) refl)
  disjoint (get f t path style lined most) = inr (texts_idle (get f t path style lined most) refl)
  disjoint (edit f t script compat lined decimal most) = inr (texts_idle (edit f t script compat lined decimal most) refl)
  disjoint (dump most) = inr (texts_idle (dump most) refl)
  disjoint (compare most) = inr (texts_idle (compare most) refl)
  disjoint (own request) = inl (values_idle language request)
