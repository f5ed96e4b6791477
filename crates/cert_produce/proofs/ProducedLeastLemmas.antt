-- The first types of the classes of equal types, one type at a time.
use Rattle.std.proofs.Common.{ℕ, ◌+◌, ◌≡◌, ◌∙◌, ⊎_elim, Option, Some, None, sym, ap, subst, arith}
use Rattle.std.specs.Prelude.{slice_get}
use Rattle.std.proofs.lemmas.Option.{same_Some, none-some}
use Rattle.base_data.proofs.model.Options.{same_or_not}
use Rattle.types_spec.specs.types.Table.{Table}
use Rattle.cert_verify.specs.certificate.Normal.{IsLeast}
use Rattle.cert_produce.specs.LeastFaults.{AreNoted}

module _ (table : Table) where
  pub noted_none : (noted : ℕ → Option ℕ) → ((c : ℕ) → noted c ≡ None) → AreNoted table 0 noted
  noted_none noted none = record {
    there = λ c l is. absurd (none-some l (sym (none c) ∙ is));
    all = λ t c less at_t. absurd (omega (arith, less));
  }

  module _ (old : ℕ → Option ℕ) (t c : ℕ) (are : AreNoted table t old) (at_t : slice_get table.classes t ≡ Some c) (none : old c ≡ None) where
    -- If the class of a type has no entry, then the type is the first of its class.
    pub is_first : IsLeast table t
    is_first u less equal = let l = are.all u c less (equal ∙ at_t) in none-some l.0 (sym none ∙ l.1)

    pub noted_first :
        (new : ℕ → Option ℕ) → new c ≡ Some t → ((q : ℕ) → ¬ (q ≡ c) → new q ≡ old q) → AreNoted table (t + 1) new
    noted_first new here others = record {
      there = λ d l is. ⊎_elim
          (λ same.
          let first : t ≡ l = same_Some t l (sym here ∙ ap new (sym same) ∙ is) in
          subst (λ k. (slice_get table.classes k ≡ Some d) × IsLeast table k) first (at_t ∙ ap (λ e. Some e) (sym same), is_first))
          (λ apart. are.there d l (sym (others d apart) ∙ is))
          (same_or_not d c);
      all = λ u d less at_u. ⊎_elim
          (λ same. (t, ap new same ∙ here))
          (λ apart. ⊎_elim
          (λ last. absurd (apart (same_Some d c (sym at_u ∙ ap (slice_get table.classes) last ∙ at_t))))
          (λ before. let l = are.all u d (omega (arith, less, before)) at_u in (l.0, others d apart ∙ l.1))
          (same_or_not u t))
          (same_or_not d c);
    }
