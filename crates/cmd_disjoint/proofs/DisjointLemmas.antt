-- Two command sets are disjoint: for each request, one of the two sets does nothing.
use Rattle.std.proofs.Common.{◌≡◌, ◌⊎◌, ℕ, List, Some, inl, inr, refl}
use Rattle.marshal_spec.specs.format.Tree.{Tree}
use Rattle.cli_spec.specs.CommandLine.{certify, scan, searched_by}
use Rattle.cli_spec.specs.Outcome.{Request, report, get, edit, dump, compare, own, build, generate, verify, Language}
use Rattle.run_spec.specs.runs.Commands.{Commands}
use Rattle.run_spec.specs.command_sum.CommandSum.{IsIdleAt, AreDisjoint}
use Rattle.run_spec.specs.value_commands.Tasks.{commands}
use Rattle.cmd_build.specs.spec.InputTexts.{Built, building}
use Rattle.cmd_build.proofs.spec.BuildSpecDisjointLemmas.{values_idle, texts_idle}
use Rattle.cmd_gen.specs.spec.GenSpec.{gen_spec}
use Rattle.cmd_gen.proofs.spec.GenSpecIdleLemmas.{gen_spec_idle}
use Rattle.cmd_verify.specs.spec.Verification.{Shown, ReadsSections, verifying}
use Rattle.cmd_verify.proofs.spec.VerifySpecIdleLemmas.{certificates_idle}
use Rattle.cmd_certify.specs.spec.Certification.{OutputsSections, certifying}
use Rattle.cmd_certify.proofs.spec.CertifySpecIdleLemmas.{certifying_idle}
use Rattle.cmd_scan.specs.spec.Searching.{searching}
use Rattle.cmd_scan.proofs.spec.ScanSpecLawfulLemmas.{stands_disjoint}

module _ {D T E : Type 0} (language : Language D T E) where
  pub made_disjoint : AreDisjoint (commands language) (gen_spec language)
  made_disjoint (report query f t lined most) = inr (gen_spec_idle language (report query f t lined most) refl)
  made_disjoint (get f t path style lined most) = inr (gen_spec_idle language (get f t path style lined most) refl)
  made_disjoint (edit f t script compat lined decimal most) = inr (gen_spec_idle language (edit f t script compat lined decimal most) refl)
  made_disjoint (dump most) = inr (gen_spec_idle language (dump most) refl)
  made_disjoint (compare most) = inr (gen_spec_idle language (compare most) refl)
  made_disjoint (own request) = inl (values_idle language request)

  -- `build` and `gen` are disjoint.
  pub made_disjoint_from_texts :
      {D' T' E' : Type 0} (other : Language D' T' E') (TextOf : T' → List ℕ → Built → Type 0)
      → AreDisjoint (building other TextOf) (gen_spec language)
  made_disjoint_from_texts other TextOf (own (build f t lined decimal)) = inr (gen_spec_idle language (own (build f t lined decimal)) refl)
  made_disjoint_from_texts other TextOf (own (generate n count t)) =
      inl (texts_idle other TextOf (own (generate n count t)) refl)
  made_disjoint_from_texts other TextOf (own (verify f t certificate lined most)) =
      inl (texts_idle other TextOf (own (verify f t certificate lined most)) refl)
  made_disjoint_from_texts other TextOf (own (certify f t lined most)) =
      inl (texts_idle other TextOf (own (certify f t lined most)) refl)
  made_disjoint_from_texts other TextOf (own (scan most)) =
      inl (texts_idle other TextOf (own (scan most)) refl)
  made_disjoint_from_texts other TextOf (report query f t lined most) =
      inr (gen_spec_idle language (report query f t lined most) refl)
  made_disjoint_from_texts other TextOf (get f t path style lined most) =
      inr (gen_spec_idle language (get f t path style lined most) refl)
  made_disjoint_from_texts other TextOf (edit f t script compat lined decimal most) =
      inr (gen_spec_idle language (edit f t script compat lined decimal most) refl)
  made_disjoint_from_texts other TextOf (dump most) = inr (gen_spec_idle language (dump most) refl)
  made_disjoint_from_texts other TextOf (compare most) = inr (gen_spec_idle language (compare most) refl)

module _ {D T E S : Type 0} (language : Language D T E) (Reads : ReadsSections S)
    (ShownBy : T → S → Tree → Shown → Type 0) where
  pub certificates_disjoint : AreDisjoint (commands language) (verifying language Reads ShownBy)
  certificates_disjoint (report query f t lined most) = inr (certificates_idle language Reads ShownBy (report query f t lined most) refl)
  certificates_disjoint (get f t path style lined most) = inr (certificates_idle language Reads ShownBy (get f t path style lined most) refl)
  certificates_disjoint (edit f t script compat lined decimal most) = inr (certificates_idle language Reads ShownBy (edit f t script compat lined decimal most) refl)
  certificates_disjoint (dump most) = inr (certificates_idle language Reads ShownBy (dump most) refl)
  certificates_disjoint (compare most) = inr (certificates_idle language Reads ShownBy (compare most) refl)
  certificates_disjoint (own request) = inl (values_idle language request)

  -- `verify` is disjoint from `build` and from `gen`.
  pub certificates_disjoint_from_texts :
      {D' T' E' : Type 0} (other : Language D' T' E') (TextOf : T' → List ℕ → Built → Type 0)
      → AreDisjoint (building other TextOf) (verifying language Reads ShownBy)
  certificates_disjoint_from_texts other TextOf (own (verify f t certificate lined most)) =
      inl (texts_idle other TextOf (own (verify f t certificate lined most)) refl)
  certificates_disjoint_from_texts other TextOf (own (build f t lined decimal)) = inr (certificates_idle language Reads ShownBy (own (build f t lined decimal)) refl)
  certificates_disjoint_from_texts other TextOf (own (generate n count t)) =
      inr (certificates_idle language Reads ShownBy (own (generate n count t)) refl)
  certificates_disjoint_from_texts other TextOf (own (certify f t lined most)) =
      inr (certificates_idle language Reads ShownBy (own (certify f t lined most)) refl)
  certificates_disjoint_from_texts other TextOf (own (scan most)) =
      inr (certificates_idle language Reads ShownBy (own (scan most)) refl)
  certificates_disjoint_from_texts other TextOf (report query f t lined most) =
      inr (certificates_idle language Reads ShownBy (report query f t lined most) refl)
  certificates_disjoint_from_texts other TextOf (get f t path style lined most) =
      inr (certificates_idle language Reads ShownBy (get f t path style lined most) refl)
  certificates_disjoint_from_texts other TextOf (edit f t script compat lined decimal most) =
      inr (certificates_idle language Reads ShownBy (edit f t script compat lined decimal most) refl)
  certificates_disjoint_from_texts other TextOf (dump most) =
      inr (certificates_idle language Reads ShownBy (dump most) refl)
  certificates_disjoint_from_texts other TextOf (compare most) =
      inr (certificates_idle language Reads ShownBy (compare most) refl)

  pub certificates_disjoint_from_made :
      {D' T' E' : Type 0} (other : Language D' T' E')
      → AreDisjoint (verifying language Reads ShownBy) (gen_spec other)
  certificates_disjoint_from_made other (own (generate n count t)) =
      inl (certificates_idle language Reads ShownBy (own (generate n count t)) refl)
  certificates_disjoint_from_made other (own (verify f t certificate lined most)) =
      inr (gen_spec_idle other (own (verify f t certificate lined most)) refl)
  certificates_disjoint_from_made other (own (build f t lined decimal)) = inr (gen_spec_idle other (own (build f t lined decimal)) refl)
  certificates_disjoint_from_made other (own (certify f t lined most)) =
      inr (gen_spec_idle other (own (certify f t lined most)) refl)
  certificates_disjoint_from_made other (own (scan most)) =
      inr (gen_spec_idle other (own (scan most)) refl)
  certificates_disjoint_from_made other (report query f t lined most) =
      inr (gen_spec_idle other (report query f t lined most) refl)
  certificates_disjoint_from_made other (get f t path style lined most) =
      inr (gen_spec_idle other (get f t path style lined most) refl)
  certificates_disjoint_from_made other (edit f t script compat lined decimal most) =
      inr (gen_spec_idle other (edit f t script compat lined decimal most) refl)
  certificates_disjoint_from_made other (dump most) =
      inr (gen_spec_idle other (dump most) refl)
  certificates_disjoint_from_made other (compare most) =
      inr (gen_spec_idle other (compare most) refl)

module _ {D T E : Type 0} (language : Language D T E) (SectionOf : OutputsSections T) where
  pub sections_disjoint : AreDisjoint (commands language) (certifying language SectionOf)
  sections_disjoint (report query f t lined most) = inr (certifying_idle language SectionOf (report query f t lined most) refl)
  sections_disjoint (get f t path style lined most) = inr (certifying_idle language SectionOf (get f t path style lined most) refl)
  sections_disjoint (edit f t script compat lined decimal most) = inr (certifying_idle language SectionOf (edit f t script compat lined decimal most) refl)
  sections_disjoint (dump most) = inr (certifying_idle language SectionOf (dump most) refl)
  sections_disjoint (compare most) = inr (certifying_idle language SectionOf (compare most) refl)
  sections_disjoint (own request) = inl (values_idle language request)

  -- `check --cert` is disjoint from `build`, from `verify` and from `gen`.
  pub sections_disjoint_from_texts :
      {D' T' E' : Type 0} (other : Language D' T' E') (TextOf : T' → List ℕ → Built → Type 0)
      → AreDisjoint (building other TextOf) (certifying language SectionOf)
  sections_disjoint_from_texts other TextOf (own (certify f t lined most)) =
      inl (texts_idle other TextOf (own (certify f t lined most)) refl)
  sections_disjoint_from_texts other TextOf (own (build f t lined decimal)) =
      inr (certifying_idle language SectionOf (own (build f t lined decimal)) refl)
  sections_disjoint_from_texts other TextOf (own (generate n count t)) =
      inr (certifying_idle language SectionOf (own (generate n count t)) refl)
  sections_disjoint_from_texts other TextOf (own (verify f t certificate lined most)) =
      inr (certifying_idle language SectionOf (own (verify f t certificate lined most)) refl)
  sections_disjoint_from_texts other TextOf (own (scan most)) =
      inr (certifying_idle language SectionOf (own (scan most)) refl)
  sections_disjoint_from_texts other TextOf (report query f t lined most) =
      inr (certifying_idle language SectionOf (report query f t lined most) refl)
  sections_disjoint_from_texts other TextOf (get f t path style lined most) =
      inr (certifying_idle language SectionOf (get f t path style lined most) refl)
  sections_disjoint_from_texts other TextOf (edit f t script compat lined decimal most) =
      inr (certifying_idle language SectionOf (edit f t script compat lined decimal most) refl)
  sections_disjoint_from_texts other TextOf (dump most) =
      inr (certifying_idle language SectionOf (dump most) refl)
  sections_disjoint_from_texts other TextOf (compare most) =
      inr (certifying_idle language SectionOf (compare most) refl)

  pub sections_disjoint_from_certificates :
      {D' T' E' S : Type 0} (other : Language D' T' E') (Reads : ReadsSections S)
      (ShownBy : T' → S → Tree → Shown → Type 0)
      → AreDisjoint (verifying other Reads ShownBy) (certifying language SectionOf)
  sections_disjoint_from_certificates other Reads ShownBy (own (certify f t lined most)) =
      inl (certificates_idle other Reads ShownBy (own (certify f t lined most)) refl)
  sections_disjoint_from_certificates other Reads ShownBy (own (build f t lined decimal)) =
      inr (certifying_idle language SectionOf (own (build f t lined decimal)) refl)
  sections_disjoint_from_certificates other Reads ShownBy (own (generate n count t)) =
      inr (certifying_idle language SectionOf (own (generate n count t)) refl)
  sections_disjoint_from_certificates other Reads ShownBy (own (verify f t certificate lined most)) =
      inr (certifying_idle language SectionOf (own (verify f t certificate lined most)) refl)
  sections_disjoint_from_certificates other Reads ShownBy (own (scan most)) =
      inr (certifying_idle language SectionOf (own (scan most)) refl)
  sections_disjoint_from_certificates other Reads ShownBy (report query f t lined most) =
      inr (certifying_idle language SectionOf (report query f t lined most) refl)
  sections_disjoint_from_certificates other Reads ShownBy (get f t path style lined most) =
      inr (certifying_idle language SectionOf (get f t path style lined most) refl)
  sections_disjoint_from_certificates other Reads ShownBy (edit f t script compat lined decimal most) =
      inr (certifying_idle language SectionOf (edit f t script compat lined decimal most) refl)
  sections_disjoint_from_certificates other Reads ShownBy (dump most) =
      inr (certifying_idle language SectionOf (dump most) refl)
  sections_disjoint_from_certificates other Reads ShownBy (compare most) =
      inr (certifying_idle language SectionOf (compare most) refl)

  pub sections_disjoint_from_made :
      {D' T' E' : Type 0} (other : Language D' T' E')
      → AreDisjoint (certifying language SectionOf) (gen_spec other)
  sections_disjoint_from_made other (own (generate n count t)) =
      inl (certifying_idle language SectionOf (own (generate n count t)) refl)
  sections_disjoint_from_made other (own (verify f t certificate lined most)) =
      inr (gen_spec_idle other (own (verify f t certificate lined most)) refl)
  sections_disjoint_from_made other (own (certify f t lined most)) =
      inr (gen_spec_idle other (own (certify f t lined most)) refl)
  sections_disjoint_from_made other (own (build f t lined decimal)) = inr (gen_spec_idle other (own (build f t lined decimal)) refl)
  sections_disjoint_from_made other (own (scan most)) =
      inr (gen_spec_idle other (own (scan most)) refl)
  sections_disjoint_from_made other (report query f t lined most) =
      inr (gen_spec_idle other (report query f t lined most) refl)
  sections_disjoint_from_made other (get f t path style lined most) =
      inr (gen_spec_idle other (get f t path style lined most) refl)
  sections_disjoint_from_made other (edit f t script compat lined decimal most) =
      inr (gen_spec_idle other (edit f t script compat lined decimal most) refl)
  sections_disjoint_from_made other (dump most) =
      inr (gen_spec_idle other (dump most) refl)
  sections_disjoint_from_made other (compare most) =
      inr (gen_spec_idle other (compare most) refl)

-- If a command set does nothing for each request of `scan`, then the command set and `scan` are
-- disjoint.
searches_disjoint :
    {A : Type 0} (c : Commands A) → ((limit : ℕ) → IsIdleAt c (own (scan limit)))
    → AreDisjoint c (searching searched_by)
searches_disjoint c idle = stands_disjoint searched_by c only where
  only : (request : Request) (limit : ℕ) → searched_by request ≡ Some limit → IsIdleAt c request
  only (own (scan most)) limit asked = idle most
  only request limit asked = absurd (cc asked)

pub searches_disjoint_from_values :
    {D T E : Type 0} (language : Language D T E)
    → AreDisjoint (commands language) (searching searched_by)
searches_disjoint_from_values language =
    searches_disjoint (commands language) (λ limit. values_idle language (scan limit))

pub searches_disjoint_from_texts :
    {D T E : Type 0} (language : Language D T E) (TextOf : T → List ℕ → Built → Type 0)
    → AreDisjoint (building language TextOf) (searching searched_by)
searches_disjoint_from_texts language TextOf =
    searches_disjoint (building language TextOf)
    (λ limit. texts_idle language TextOf (own (scan limit)) refl)

pub searches_disjoint_from_certificates :
    {D T E S : Type 0} (language : Language D T E) (Reads : ReadsSections S)
    (ShownBy : T → S → Tree → Shown → Type 0)
    → AreDisjoint (verifying language Reads ShownBy) (searching searched_by)
searches_disjoint_from_certificates language Reads ShownBy =
    searches_disjoint (verifying language Reads ShownBy)
    (λ limit. certificates_idle language Reads ShownBy (own (scan limit)) refl)

pub searches_disjoint_from_sections :
    {D T E : Type 0} (language : Language D T E) (SectionOf : OutputsSections T)
    → AreDisjoint (certifying language SectionOf) (searching searched_by)
searches_disjoint_from_sections language SectionOf =
    searches_disjoint (certifying language SectionOf)
    (λ limit. certifying_idle language SectionOf (own (scan limit)) refl)

pub searches_disjoint_from_made :
    {D T E : Type 0} (language : Language D T E)
    → AreDisjoint (searching searched_by) (gen_spec language)
searches_disjoint_from_made language request =
    turned
    (searches_disjoint (gen_spec language)
    (λ limit. gen_spec_idle language (own (scan limit)) refl) request) where
      turned : IsIdleAt (gen_spec language) request ⊎ IsIdleAt (searching searched_by) request
          → IsIdleAt (searching searched_by) request ⊎ IsIdleAt (gen_spec language) request
      turned (inl made) = inr made
      turned (inr searches) = inl searches
