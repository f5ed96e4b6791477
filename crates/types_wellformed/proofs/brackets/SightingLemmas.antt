-- Lemmas about the entry of a key after one more value is seen, and about the search of the entry
-- for another value.
use Rattle.std.proofs.Common.{◌≡◌, ◌≢◌, ◌⊎◌, ⊎_elim, Bool, true, false, cond, Option, Some, None}
use Rattle.std.proofs.Common.{refl, sym, subst, inl, inr, ◌∙◌}
use Rattle.std.specs.Prelude.{MatchOption}
use Rattle.std.specs.Bool.{Decides}
use Rattle.std.proofs.lemmas.Bool.{false≢true}
use Rattle.types_wellformed.specs.declared.brackets.sightings.Sighting.{Sighting}
use Rattle.types_wellformed.specs.brackets.Sightings.{with_value, other_value, Reports}

module _ {V B : Type 0} (meaning : V → B) where
  -- If `other` is `None`, all seen values equal the first value. If `other` is a value, the value
  -- was seen and differs from the first value.
  abbrev pub ReportsOther : (B → Type 0) → V → Option V → Type 0
  ReportsOther Seen first other =
      MatchOption other ((b : B) → Seen b → meaning first ≡ b)
      (λ v. Seen (meaning v) × (meaning first ≢ meaning v))

  same_other :
      (Seen Next : B → Type 0) (first : V) (other : Option V) → ((b : B) → Seen b → Next b)
      → ((b : B) → Next b → Seen b) → ReportsOther Seen first other → ReportsOther Next first other
  same_other Seen Next first None to from all = λ b next. all b (from b next)
  same_other Seen Next first (Some v) to from differs = (to (meaning v) differs.0, differs.1)

  -- If an entry describes the seen values, then the entry describes every equal collection of seen
  -- values.
  pub reports_same :
      (Seen Next : B → Type 0) (known : Option (Sighting V)) → ((b : B) → Seen b → Next b)
      → ((b : B) → Next b → Seen b) → Reports meaning Seen known → Reports meaning Next known
  reports_same Seen Next None to from none = λ b next. none b (from b next)
  reports_same Seen Next (Some known) to from some = (
    to (meaning known.first) some.0,
    same_other Seen Next known.first known.other to from some.1,
  )

  module _ (eq : V → V → Bool) (decides : (a b : V) → Decides (eq a b) (meaning a ≡ meaning b)) where
    more_other :
        (Seen Next : B → Type 0) (first value : V) (same : Bool)
        → Decides same (meaning first ≡ meaning value) → ((b : B) → Seen b → meaning first ≡ b)
        → ((b : B) → Next b → Seen b ⊎ (meaning value ≡ b)) → Next (meaning value)
        → ReportsOther Next first (cond same None (Some value))
    more_other Seen Next first value true says all split here =
        λ b next. ⊎_elim (all b) (λ e. says.0 refl ∙ e) (split b next)
    more_other Seen Next first value false says all split here =
        (here, λ e. false≢true (says.1 e))

    added_other :
        (Seen Next : B → Type 0) (first value : V) (other : Option V)
        → ReportsOther Seen first other → ((b : B) → Seen b → Next b)
        → ((b : B) → Next b → Seen b ⊎ (meaning value ≡ b)) → Next (meaning value)
        → ReportsOther Next first (with_value eq (Some (record { first = first; other = other })) value).other
    added_other Seen Next first value None all keep split here =
        more_other Seen Next first value (eq first value) (decides first value) all split here
    added_other Seen Next first value (Some v) differs keep split here =
        (keep (meaning v) differs.0, differs.1)

    -- If one more value is seen, then the extended entry describes the seen values.
    pub reports_more :
        (Seen Next : B → Type 0) (value : V) (known : Option (Sighting V))
        → Reports meaning Seen known → ((b : B) → Seen b → Next b)
        → ((b : B) → Next b → Seen b ⊎ (meaning value ≡ b)) → Next (meaning value)
        → Reports meaning Next (Some (with_value eq known value))
    reports_more Seen Next value None none keep split here =
        (here, λ b next. ⊎_elim (λ seen. absurd (none b seen)) (λ e. e) (split b next))
    reports_more Seen Next value (Some known) some keep split here = (
      keep (meaning known.first) some.0,
      added_other Seen Next known.first value known.other some.1 keep split here,
    )

    -- If `found` is `None`, all seen values equal `value`. If `found` is a value, the found value
    -- was seen and differs from `value`.
    abbrev pub SaysOther : (B → Type 0) → V → Option V → Type 0
    SaysOther Seen value found =
        MatchOption found ((b : B) → Seen b → b ≡ meaning value)
        (λ v. Seen (meaning v) × (meaning v ≢ meaning value))

    says_other :
        (Seen : B → Type 0) (first value : V) (other : Option V) → Seen (meaning first)
        → ReportsOther Seen first other → meaning first ≡ meaning value → SaysOther Seen value other
    says_other Seen first value None seen all e = λ b there. sym (all b there) ∙ e
    says_other Seen first value (Some v) seen differs e =
        (differs.0, λ same. differs.1 (e ∙ sym same))

    says_first :
        (Seen : B → Type 0) (first value : V) (other : Option V) (same : Bool)
        → Decides same (meaning first ≡ meaning value) → Seen (meaning first)
        → ReportsOther Seen first other → SaysOther Seen value (cond same other (Some first))
    says_first Seen first value other true says seen rest =
        says_other Seen first value other seen rest (says.0 refl)
    says_first Seen first value other false says seen rest = (seen, λ e. false≢true (says.1 e))

    -- If the search of an entry finds another value, then the value was seen and differs. If the
    -- search finds none, then no seen value differs.
    pub other_says :
        (Seen : B → Type 0) (value : V) (known : Option (Sighting V)) → Reports meaning Seen known
        → SaysOther Seen value (other_value eq known value)
    other_says Seen value None none = λ b seen. absurd (none b seen)
    other_says Seen value (Some known) some =
        says_first Seen known.first value known.other (eq known.first value)
        (decides known.first value) some.0 some.1

    -- ---- a table with an entry for each key

    module _ {A : Type 0} (key : A) (same : A → Bool) (same_is : (a : A) → Decides (same a) (key ≡ a)) where
      added_at :
          (Seen Next : A → B → Type 0) (value : V) (before : A → Option (Sighting V)) (a : A)
          (test : Bool) → Decides test (key ≡ a) → ((q : A) → Reports meaning (Seen q) (before q))
          → ((q : A) (b : B) → Seen q b → Next q b)
          → ((q : A) (b : B) → Next q b → Seen q b ⊎ ((key ≡ q) × (meaning value ≡ b)))
          → Next key (meaning value)
          → Reports meaning (Next a) (cond test (Some (with_value eq (before key) value)) (before a))
      added_at Seen Next value before a true says reports keep split here =
          subst (λ q. Reports meaning (Next q) (Some (with_value eq (before key) value))) (says.0 refl)
          (reports_more (Seen key) (Next key) value (before key) (reports key) (keep key)
          (λ b next. ⊎_elim (λ seen. inl seen) (λ e. inr e.1) (split key b next)) here)
      added_at Seen Next value before a false says reports keep split here =
          reports_same (Seen a) (Next a) (before a) (keep a)
          (λ b next. ⊎_elim (λ seen. seen) (λ e. absurd (false≢true (says.1 e.0))) (split a b next))
          (reports a)

      -- If one more value is seen under the key, then the extended table describes the seen values.
      pub reports_added :
          (Seen Next : A → B → Type 0) (value : V) (before after : A → Option (Sighting V))
          → ((q : A) → Reports meaning (Seen q) (before q))
          → ((q : A) → after q ≡ cond (same q) (Some (with_value eq (before key) value)) (before q))
          → ((q : A) (b : B) → Seen q b → Next q b)
          → ((q : A) (b : B) → Next q b → Seen q b ⊎ ((key ≡ q) × (meaning value ≡ b)))
          → Next key (meaning value) → (a : A) → Reports meaning (Next a) (after a)
      reports_added Seen Next value before after reports is keep split here a =
          subst (Reports meaning (Next a)) (sym (is a))
          (added_at Seen Next value before a (same a) (same_is a) reports keep split here)
