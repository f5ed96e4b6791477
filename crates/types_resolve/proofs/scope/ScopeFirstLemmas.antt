-- Rules are checked in the order of their turns.
use Rattle.std.proofs.Common.{ℕ, zero, suc, List, inl, ◌+◌, ◌≡◌, ⊎_elim, Some, refl, sym, ap, subst, arith, ◌∙◌}
use Rattle.std.proofs.lemmas.Bool.{cases_lt}
use Rattle.types_spec.specs.types.Occurrence.{DeclPositions}
use Rattle.types_spec.specs.types.Scope.{BreaksInFile, IsFirst, NamesBreak, Rule, turn}
use Rattle.types_spec.specs.types.Scope as scope
use Rattle.types_resolve.specs.declared.scope.rule.NameRule.{NameRule}
use Rattle.types_resolve.specs.declared.scope.rule.NameRule.TheVariants as names
use Rattle.types_resolve.specs.scope.Breaks.{WantsDistinctNames, rule_of}
use Rattle.types_resolve.specs.scope.First.{KeepsBefore}
use Rattle.types_resolve.specs.scope.Least.{IsLeast}

-- The rule whose turn is the given number.
rule_of_turn : ℕ → Rule
rule_of_turn zero = scope.twice
rule_of_turn (suc zero) = scope.unknown_name
rule_of_turn (suc (suc zero)) = scope.arity
rule_of_turn (suc (suc (suc zero))) = scope.unbound_variable
rule_of_turn (suc (suc (suc (suc zero)))) = scope.cyclic
rule_of_turn (suc (suc (suc (suc (suc zero))))) = scope.irregular
rule_of_turn (suc (suc (suc (suc (suc (suc zero)))))) = scope.too_many_constructors
rule_of_turn (suc (suc (suc (suc (suc (suc (suc zero))))))) = scope.not_variant
rule_of_turn (suc (suc (suc (suc (suc (suc (suc (suc zero)))))))) = scope.tag_clash
rule_of_turn (suc (suc (suc (suc (suc (suc (suc (suc (suc zero))))))))) = scope.hash_clash
rule_of_turn (suc (suc (suc (suc (suc (suc (suc (suc (suc (suc zero)))))))))) = scope.float_in_group
rule_of_turn n = scope.mixed_record

turn_back : (rule : Rule) → rule_of_turn (turn rule) ≡ rule
unfolding rule_of_turn
turn_back scope.twice = refl
turn_back scope.unknown_name = refl
turn_back scope.arity = refl
turn_back scope.unbound_variable = refl
turn_back scope.cyclic = refl
turn_back scope.irregular = refl
turn_back scope.too_many_constructors = refl
turn_back scope.not_variant = refl
turn_back scope.tag_clash = refl
turn_back scope.hash_clash = refl
turn_back scope.float_in_group = refl
turn_back scope.mixed_record = refl

pub same_turn : (rule other : Rule) → turn rule ≡ turn other → rule ≡ other
same_turn rule other e = sym (turn_back rule) ∙ ap rule_of_turn e ∙ turn_back other

pub keeps_more :
    (Breaks : Rule → ℕ → Type 0) (n : ℕ) → KeepsBefore Breaks n → (rule : Rule) → turn rule ≡ n
    → ((k : ℕ) → ¬ Breaks rule k) → KeepsBefore Breaks (n + 1)
keeps_more Breaks n keeps rule is none other k below broken = ⊎_elim
    (λ earlier. keeps other k earlier broken)
    (λ last. let e : turn other ≡ turn rule = omega (arith, is) in
    none k (subst (λ r. Breaks r k) (same_turn other rule e) broken))
    (cases_lt (turn other) n)

pub first_at :
    (Breaks : Rule → ℕ → Type 0) (n : ℕ) → KeepsBefore Breaks n → (rule : Rule) → turn rule ≡ n
    → (k : ℕ) → IsLeast (Breaks rule) (Some k) → IsFirst Breaks rule k
first_at Breaks n keeps rule is k least = record {
  broken = least.0;
  least = least.1;
  earlier = λ other j before. keeps other j (omega (arith, is, before));
}

-- If the check has reached the turn of the rule `Cyclic` or `Irregular`, then no name is declared
-- twice.
pub distinct_by_then :
    (all : List DeclPositions) (n : ℕ) → KeepsBefore (BreaksInFile all) n → (rule : NameRule)
    → turn (rule_of rule) ≡ n → WantsDistinctNames rule → (k : ℕ) → ¬ NamesBreak all scope.twice k
distinct_by_then all n keeps names.Twice is wants k = absurd wants
distinct_by_then all n keeps names.UnknownName is wants k = absurd wants
distinct_by_then all n keeps names.Arity is wants k = absurd wants
distinct_by_then all n keeps names.UnboundVariable is wants k = absurd wants
distinct_by_then all n keeps names.Cyclic is wants k = λ twice. keeps scope.twice k (omega (arith, is)) (inl twice)
distinct_by_then all n keeps names.Irregular is wants k = λ twice. keeps scope.twice k (omega (arith, is)) (inl twice)
distinct_by_then all n keeps names.TooManyConstructors is wants k = absurd wants
