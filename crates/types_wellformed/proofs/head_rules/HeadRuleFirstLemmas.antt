-- If two notions of a broken rule are equivalent, then the first violation is the same for the two
-- notions.
use Rattle.std.proofs.Common.{ℕ, ◌<◌, ◌≤◌, ◌≡◌, List, Option, Some, None, refl, sym, subst, arith}
use Rattle.std.specs.Prelude.{◌↔◌}
use Rattle.types_spec.specs.types.Scope.{Rule, turn, twice, unknown_name, arity, unbound_variable, cyclic, irregular}
use Rattle.types_spec.specs.types.Scope.{too_many_constructors, not_variant, tag_clash, hash_clash, float_in_group, mixed_record}
use Rattle.types_resolve.specs.scope.Least.{IsLeast}
use Rattle.types_wellformed.specs.declared.head_rules.broken.HeadBreak.{HeadBreak}
use Rattle.types_wellformed.specs.declared.head_rules.broken.HeadBreak.TheVariants as breaks
use Rattle.types_wellformed.specs.head_rules.Broken.{rule_of_break, position_of_break, NamesAre, IsFirstOfHeads}

-- If a predicate holds for the five rules that depend on heads, then the predicate holds for each
-- rule that depends on heads.
pub of_late :
    (P : Rule → Type 0) → P not_variant → P tag_clash → P hash_clash → P float_in_group → P mixed_record → (rule : Rule)
    → 7 ≤ turn rule → P rule
of_late P variant conflict hash float mixed twice late = absurd (omega arith)
of_late P variant conflict hash float mixed unknown_name late = absurd (omega arith)
of_late P variant conflict hash float mixed arity late = absurd (omega arith)
of_late P variant conflict hash float mixed unbound_variable late = absurd (omega arith)
of_late P variant conflict hash float mixed cyclic late = absurd (omega arith)
of_late P variant conflict hash float mixed irregular late = absurd (omega arith)
of_late P variant conflict hash float mixed too_many_constructors late = absurd (omega arith)
of_late P variant conflict hash float mixed not_variant late = variant
of_late P variant conflict hash float mixed tag_clash late = conflict
of_late P variant conflict hash float mixed hash_clash late = hash
of_late P variant conflict hash float mixed float_in_group late = float
of_late P variant conflict hash float mixed mixed_record late = mixed

is_late : (b : HeadBreak) → 7 ≤ turn (rule_of_break b)
is_late (breaks.NotVariant k) = omega arith
is_late (breaks.TagClash k) = omega arith
is_late (breaks.HashClash k one other) = omega arith
is_late (breaks.FloatInGroup k) = omega arith
is_late (breaks.MixedRecord k) = omega arith

named_agree :
    (H G : ℕ → List ℕ → List ℕ → Type 0) (b : HeadBreak)
    → ((k : ℕ) (one other : List ℕ) → H k one other → G k one other) → NamesAre H b → NamesAre G b
named_agree H G (breaks.NotVariant k) to named = tt
named_agree H G (breaks.TagClash k) to named = tt
named_agree H G (breaks.HashClash k one other) to named = to k one other named
named_agree H G (breaks.FloatInGroup k) to named = tt
named_agree H G (breaks.MixedRecord k) to named = tt

module _ (P Q : Rule → ℕ → Type 0) (H G : ℕ → List ℕ → List ℕ → Type 0)
    (to : (k : ℕ) (one other : List ℕ) → H k one other → G k one other) where
  -- Let two notions of a broken rule be equivalent for all rules up to the rule of a violation. If
  -- the violation is first by one notion, then the violation is first by the other notion.
  pub first_agree :
      (b : HeadBreak)
      → ((rule : Rule) → 7 ≤ turn rule → turn rule ≤ turn (rule_of_break b) → (k : ℕ) → P rule k ↔ Q rule k)
      → IsFirstOfHeads P H (Some b) → IsFirstOfHeads Q G (Some b)
  first_agree b agree first =
      let rule = rule_of_break b in
      let here = agree rule (is_late b) (omega arith) in (
        (here (position_of_break b)).0 first.0,
        λ j before holds. first.1 j before ((here j).1 holds),
        λ other j late earlier holds. first.2 other j late earlier ((agree other late (omega arith) j).1 holds),
        named_agree H G b to first.3,
      )

  -- If two notions of a broken rule are equivalent for all rules that depend on heads, then the
  -- first violation is the same.
  pub all_agree :
      (found : Option HeadBreak) → ((rule : Rule) → 7 ≤ turn rule → (k : ℕ) → P rule k ↔ Q rule k)
      → IsFirstOfHeads P H found → IsFirstOfHeads Q G found
  all_agree None agree first = λ rule k late holds. first rule k late ((agree rule late k).1 holds)
  all_agree (Some b) agree first = first_agree b (λ rule late until. agree rule late) first

module _ (Q : Rule → ℕ → Type 0) (G : ℕ → List ℕ → List ℕ → Type 0) where
  -- If a rule is broken and no earlier rule is broken, then the violation of the rule is the first.
  pub found_first :
      (b : HeadBreak) (rule : Rule) → rule_of_break b ≡ rule → IsLeast (Q rule) (Some (position_of_break b))
      → ((other : Rule) → 7 ≤ turn other → turn other < turn rule → (j : ℕ) → ¬ Q other j)
      → NamesAre G b → IsFirstOfHeads Q G (Some b)
  found_first b rule is least earlier named =
      let at : IsLeast (Q (rule_of_break b)) (Some (position_of_break b)) =
      subst (λ r. IsLeast (Q r) (Some (position_of_break b))) (sym is) least in
      (at.0, at.1, λ other j late before. earlier other late (subst (λ r. turn other < turn r) is before) j, named)

pub is_none : {X : Type 0} (o : Option X) → ((x : X) → o ≡ Some x → ⊥) → o ≡ None
is_none None not_some = refl
is_none (Some x) not_some = absurd (not_some x refl)
