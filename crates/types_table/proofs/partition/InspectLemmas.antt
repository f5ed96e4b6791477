-- The inspected members of a class.
use Rattle.std.proofs.Common.{ℕ, ◌<◌, ◌≡◌, ◌∙◌, ⊎_elim, ◌⊎◌, inl, inr, List, Some, sym, ap, subst, length, get_or}
use Rattle.std.specs.Prelude.{Contains, slice_get, slice_index, All}
use Rattle.std.specs.Global.{Vec}
use Rattle.std.proofs.lemmas.List.Elements.{Contains-get_or}
use Rattle.std.proofs.lemmas.Option.{same_Some, slice_get_within}
use Rattle.types_table.specs.store.Held.{AreDistinct, Grows}
use Rattle.types_table.proofs.store.StoreHeldLemmas.{there_kept}
use Rattle.types_table.specs.declared.partition.head_form.HeadForm.{HeadForm}
use Rattle.types_table.specs.declared.partition.class_inspection.Inspection.{Inspection}
use Rattle.types_table.specs.partition.Lists.{IsOfClass}
use Rattle.types_table.specs.partition.Refinement.{IsSignatureOf, SignatureAt, SignedAt, AreSigned, IsInspection}
use Rattle.types_table.proofs.partition.FormLemmas.{AllZip-more}

pub inspect_within : (numbers class : List ℕ) (wanted : ℕ) (inspected : List ℕ) (n : ℕ) → IsOfClass numbers class wanted inspected
    → length class ≡ n → All (λ i. i < n) inspected
inspect_within numbers class wanted inspected n of many k d below =
    subst (λ m. get_or inspected k d < m) many (of.is (get_or inspected k d) (Contains-get_or inspected k d below)).0

pub signed_grown : (forms : List HeadForm) (class : List ℕ) (found new : List (List ℕ)) (inspected positions : List ℕ)
    → Grows found new → AreSigned forms (slice_index class) found inspected positions
    → AreSigned forms (slice_index class) new inspected positions
signed_grown forms class found new inspected positions grown =
    AllZip-more (SignedAt forms (slice_index class) found) (SignedAt forms (slice_index class) new)
    (λ j p at_p. (at_p.0, there_kept found new p at_p.0 grown at_p.1, at_p.2)) inspected positions

module _ (forms : List HeadForm) (class : List ℕ) (wanted : ℕ) (numbers : List ℕ) (inspect : Inspection)
    (of : IsOfClass numbers class wanted inspect.inspected.items)
    (signed : AreSigned forms (slice_index class) inspect.found inspect.inspected.items inspect.positions.items)
    (distinct : AreDistinct inspect.found) where
  pub few_inspect : (signatures : List (Vec ℕ)) (v : Vec ℕ) → slice_get signatures wanted ≡ Some v
      → ((i : ℕ) → i < length class → slice_index class i ≡ wanted → Contains numbers i
      ⊎ ((s : List ℕ) × SignatureAt signatures wanted s × IsSignatureOf forms (slice_index class) i s))
      → slice_get inspect.found inspect.kept ≡ Some v.items → IsInspection forms class wanted inspect
  few_inspect signatures v at_wanted settled at_kept = record {
    is = of.is;
    covers = λ i below same. ⊎_elim (λ waits. inl (of.has i waits below same))
        (λ done.
        let is = ap (λ (u : Vec ℕ). u.items) (same_Some v done.1.0 (sym at_wanted ∙ done.1.1)) ∙ done.1.2 in
        inr (done.0, at_kept ∙ ap (λ l. Some l) is, done.2))
        (settled i below same);
    signed = signed;
    distinct = distinct;
    within = slice_get_within inspect.found inspect.kept v.items at_kept;
  }

  pub all_inspect : ((i : ℕ) → i < length class → slice_index class i ≡ wanted → Contains numbers i)
      → inspect.kept < length inspect.found → IsInspection forms class wanted inspect
  all_inspect members within = record {
    is = of.is;
    covers = λ i below same. inl (of.has i (members i below same) below same);
    signed = signed;
    distinct = distinct;
    within = within;
  }
