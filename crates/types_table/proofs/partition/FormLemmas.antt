-- Forms stay valid if names are added.
use Rattle.std.proofs.Common.{ℕ, ◌<◌, ◌≡◌, ◌∙◌, ◌+◌, ⊎_elim, List, [], ◌∷◌, ◌++◌, sym, length, take, get_or}
use Rattle.std.specs.List.{AllZip}
use Rattle.std.proofs.lemmas.List.{append-nil, take_more}
use Rattle.types_spec.specs.declared.types.head.TagOf.{TagOf}
use Rattle.types_spec.specs.declared.types.head.HeadOf.{HeadOf}
use Rattle.types_spec.specs.declared.types.head.HeadOf.TheVariants as heads
use Rattle.types_table.specs.store.Held.{AddsOnce, Grows}
use Rattle.types_table.proofs.store.StoreHeldLemmas.{there_kept}
use Rattle.types_table.specs.declared.partition.head_form.TagForm.{TagForm}
use Rattle.types_table.specs.declared.partition.head_form.HeadForm.{HeadForm}
use Rattle.types_table.specs.partition.Form.{IsTagForm, AreTagForms, IsNamed, IsForm}
use Rattle.base_data.proofs.model.Lists.{AllZip-push}

pub AllZip-more : {A B : Type 0} (P Q : A → B → Type 0) → ((a : A) (b : B) → P a b → Q a b)
    → (as' : List A) (bs : List B) → AllZip P as' bs → AllZip Q as' bs
AllZip-more P Q more [] [] all = all
AllZip-more P Q more [] (b ∷ bs) all = absurd all
AllZip-more P Q more (a ∷ as') [] all = absurd all
AllZip-more P Q more (a ∷ as') (b ∷ bs) all =
    (more a b all.0, AllZip-more P Q more as' bs all.1)

-- If `R` relates the first `i` elements to `ys`, and the next element to `y`, then `R` relates the
-- first `i + 1` elements to `ys` followed by `y`.
pub AllZip-next : {A B : Type 0} (R : A → B → Type 0) (xs : List A) (i : ℕ) (ys new : List B) (x : A) (y : B)
    → i < length xs → AllZip R (take i xs) ys → x ≡ get_or xs i x → R x y → new ≡ ys ++ y ∷ []
    → AllZip R (take (i + 1) xs) new
AllZip-next R xs i ys new x y below all read more is =
    rw (is, take_more xs i x below, ← read) (AllZip-push R (take i xs) ys x y all more)

module _ {old new : List (List ℕ)} (grown : Grows old new) where
  pub tag_form_grown : (tag : TagOf ℕ) (form : TagForm) → IsTagForm old tag form → IsTagForm new tag form
  tag_form_grown tag form is = record {
    name = there_kept old new form.name tag.name grown is.name;
    argument = is.argument;
  }

  pub tag_forms_grown : (tags : List (TagOf ℕ)) (forms : List TagForm) → AreTagForms old tags forms
      → AreTagForms new tags forms
  tag_forms_grown tags forms = AllZip-more (IsTagForm old) (IsTagForm new) tag_form_grown tags forms

  named_grown : (kind : ℕ) (name parts : List ℕ) (form : HeadForm) → IsNamed old kind name parts form
      → IsNamed new kind name parts form
  named_grown kind name parts form is = (is.0, there_kept old new is.0 name grown is.1, is.2)

  pub form_grown : (head : HeadOf ℕ) (form : HeadForm) → IsForm old head form → IsForm new head form
  form_grown (heads.Variable name) form is = named_grown 0 name [] form is
  form_grown (heads.Predeclared base parts) form is = is
  form_grown (heads.Datatype name parts) form is = named_grown 2 name parts form is
  form_grown (heads.Tuple parts) form is = is
  form_grown (heads.Variants tags) form is =
      record { label = is.label; parts = is.parts; tags = tag_forms_grown tags form.tags is.tags }
  form_grown heads.Absent form is = is

  pub forms_grown : (all : List (HeadOf ℕ)) (forms : List HeadForm) → AllZip (IsForm old) all forms
      → AllZip (IsForm new) all forms
  forms_grown all forms = AllZip-more (IsForm old) (IsForm new) form_grown all forms

pub adds_grows : {T : Type 0} {old new : List T} {x : T} {k : ℕ} → AddsOnce old new x k → Grows old new
adds_grows {T} {old} {new} {x} {k} adds = ⊎_elim
    (λ same. record { added = []; kept = same ∙ sym (append-nil old) })
    (λ more. record { added = x ∷ []; kept = more }) adds.grown
