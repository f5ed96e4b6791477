-- The appended text is the text of the verdict on the value.
use Rattle.std.proofs.Common.{◌≡◌, ◌∙◌, ℕ, List, [], ◌++◌, true, false, inl, inr, refl, sym, ap, subst}
use Rattle.std.specs.Prelude.{codes}
use Rattle.base_data.specs.declared.model.value.Val.{Val}
use Rattle.base_data.specs.declared.model.value.Obj.{Obj}
use Rattle.types_spec.specs.types.Equal.{declared_shapes}
use Rattle.types_spec.specs.types.TypeText.{type_text}
use Rattle.types_spec.specs.types.Typing.{HasType}
use Rattle.types_spec.specs.types.VerdictText.{IsNoLine}
use Rattle.types_theory.specs.type_variables.TypeVariables.{HasEachInstance}
use Rattle.cli_spec.specs.Outcome.{Output, the_verdict}
use Rattle.run_types.specs.Language.{TypeOver, IsTypeLine}
use Rattle.run_types.specs.TypeVerdict.{WritesNo}

-- The output for a value without faults.
abbrev output_ok : List ℕ → Output
output_ok text = record { text = text; ok = true }

module _ (t : TypeOver) (graph : List Obj) (v : Val) where
  pub writes_yes :
      HasType (declared_shapes t.decls) graph v t.type → HasEachInstance t.decls graph v t.type
      → (new : List ℕ) → new ≡ codes "yes" → IsTypeLine the_verdict t graph v new true
  writes_yes has each new write = inl (record { has = has; each = each; known = ap output_ok write })

  pub writes_no :
      (old new : List ℕ) → old ≡ [] → WritesNo t graph v old new
      → IsTypeLine the_verdict t graph v new false
  writes_no old new none (line, is, some_not, write) = inr (record {
    why = subst (λ (l : List ℕ). IsNoLine (declared_shapes t.decls) type_text graph v t.type l)
        (sym (write ∙ ap (λ (o : List ℕ). o ++ line) none)) is;
    some_not = some_not;
    is_all_ok = refl;
  })
