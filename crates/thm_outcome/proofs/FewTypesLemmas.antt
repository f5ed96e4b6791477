-- A type reaches at most 65,536 types, or reaches too many types. The reached types are listed one
-- after another, until no type is new, or until the list is too long.
use Rattle.std.proofs.Common.{◌≡◌, ◌⊎◌, ◌<◌, ◌≤◌, ◌+◌, ℕ, zero, suc, List, [], ◌∷◌, ◌++◌, length, take, Some, inl, inr, ⊎_elim, refl, sym, ap, ◌∙◌, subst, length-append, arith}
use Rattle.std.specs.Prelude.{slice_get, Contains}
use Rattle.std.specs.List.{flat_map}
use Rattle.std.proofs.lemmas.Bool.{cases_lt}
use Rattle.std.proofs.Math.Seq.{take-length}
use Rattle.std.proofs.lemmas.List.{take-append-le}
use Rattle.std.proofs.lemmas.Option.{same_Some, slice_get_within}
use Rattle.base_data.proofs.model.Options.{Contains-none, slice_get_there}
use Rattle.types_spec.specs.declared.types.decl.Decl.{Decl}
use Rattle.types_spec.specs.types.Ty.{Ty}
use Rattle.types_spec.specs.types.Reached.{reached_from, IsWithoutRepeats, IsFromEarlier, ReachesTooMany}
use Rattle.types_table.proofs.store.StoreHeldLemmas.{there_kept}
use Rattle.types_build.proofs.builder.BuilderPlacedLemmas.{one_more as one_more_mapped}
use Rattle.types_build.proofs.builder.RepeatLemmas.{repeats_then, repeats_among, repeats_distinct, old_or_added}
use Rattle.types_build.proofs.representation.RepresentationLoopLemmas.{one_more as one_more_taken}
use Rattle.run_types.specs.Language.{ReachesWithinTable}
use Rattle.thm_outcome.specs.Total.{NotNone}

-- Each list without its repetitions and without the types of `seen` exists.
without_some : (ts seen : List Ty) → NotNone (IsWithoutRepeats seen ts)
without_some [] seen none = none [] refl
without_some (t ∷ ts) seen none =
    let new : Contains seen t → ⊥ = λ again. without_some ts seen (λ others h. none others (inl (again, h))) in
    without_some ts (seen ++ t ∷ []) (λ others h. none (t ∷ others) (inr (new, others, refl, h)))

module _ (decls : List Decl) (t : Ty) where
  -- The list `met` has `t` and the types that the first `k` types of the list reach directly.
  record Met (k : ℕ) (met : List Ty) : Type 0 where
    in_order : IsWithoutRepeats [] (t ∷ flat_map (reached_from decls) (take k met)) met
    from_earlier : (j : ℕ) (u : Ty) → 0 < j → slice_get met j ≡ Some u → IsFromEarlier decls met j u

  first_met : Met 0 (t ∷ [])
  first_met = record {
    in_order = inr (λ among. Contains-none t among, [], refl, refl);
    from_earlier = λ j u above there. absurd (only_first j u above there);
  } where
    only_first : (j : ℕ) (u : Ty) → 0 < j → slice_get (t ∷ []) j ≡ Some u → ⊥
    only_first j u above there = omega (arith, slice_get_within (t ∷ []) j u there)

  module _ (k : ℕ) (met : List Ty) (was : Met k met) (u : Ty) (next : slice_get met k ≡ Some u)
      (added : List Ty) (new : IsWithoutRepeats met (reached_from decls u) added) where
    abbrev more : List Ty
    more = met ++ added

    within_met : k < length met
    within_met = slice_get_within met k u next

    kept : (j : ℕ) (w : Ty) → slice_get met j ≡ Some w → slice_get more j ≡ Some w
    kept j w there = there_kept met more j w (record { added = added; kept = refl }) there

    prefix_more : take (k + 1) more ≡ take k met ++ u ∷ []
    prefix_more =
        one_more_taken more k u (kept k u next)
        ∙ ap (λ (ts : List Ty). ts ++ u ∷ []) (take-append-le k met added (omega (arith, within_met)))

    order_more : IsWithoutRepeats [] (t ∷ flat_map (reached_from decls) (take (k + 1) more)) more
    order_more =
        let then = repeats_then [] (t ∷ flat_map (reached_from decls) (take k met)) met (reached_from decls u) added was.in_order new in
        let same : flat_map (reached_from decls) (take k met) ++ reached_from decls u ≡ flat_map (reached_from decls) (take (k + 1) more) =
        sym (ap (flat_map (reached_from decls)) prefix_more ∙ one_more_mapped (reached_from decls) (take k met) u) in
        subst (λ (ts : List Ty). IsWithoutRepeats [] (t ∷ ts) more) same then

    earlier_more : (j : ℕ) (w : Ty) → 0 < j → slice_get more j ≡ Some w → IsFromEarlier decls more j w
    earlier_more j w above there = ⊎_elim
        (λ old.
        let from = was.from_earlier j w above old in
        (from.0, from.1, from.2, kept from.0 from.1 from.3, from.4))
        (λ later. (
          k,
          u,
          omega (arith, later.0, within_met),
          kept k u next,
          repeats_among (reached_from decls u) met added new w later.1,
        ))
        (old_or_added met added j w there)

    next_met : Met (k + 1) more
    next_met = record { in_order = order_more; from_earlier = earlier_more }

  many_met : (k : ℕ) (met : List Ty) → Met k met → 65536 < length met → ReachesTooMany decls t
  many_met k met is many = record {
    types = met;
    many = many;
    distinct = repeats_distinct (t ∷ flat_map (reached_from decls) (take k met)) [] met is.in_order;
    reached = by;
  } where
    first_of : (ts : List Ty) → IsWithoutRepeats [] (t ∷ ts) met → slice_get met 0 ≡ Some t
    first_of ts (inl again) = absurd (Contains-none t again.0)
    first_of ts (inr new) = ap (λ (us : List Ty). slice_get us 0) new.2

    first : slice_get met 0 ≡ Some t
    first = first_of (flat_map (reached_from decls) (take k met)) is.in_order

    by : (j : ℕ) (u : Ty) → slice_get met j ≡ Some u → (u ≡ t) ⊎ IsFromEarlier decls met j u
    by zero u here = inl (same_Some u t (sym here ∙ first))
    by (suc j) u there = inr (is.from_earlier (suc j) u (omega arith) there)

  few_met : (k : ℕ) (met : List Ty) → Met k met → k ≡ length met → length met ≤ 65536 → ReachesWithinTable decls t
  few_met k met is all few =
      let whole : take k met ≡ met = ap (λ n. take n met) all ∙ take-length met in
      record {
        types = met;
        reached = record {
          in_order = subst (λ (ts : List Ty). IsWithoutRepeats [] (t ∷ flat_map (reached_from decls) ts) met) whole is.in_order;
          from_earlier = is.from_earlier;
        };
        few = few;
      }

  few_in :
      (fuel k : ℕ) (met : List Ty) → Met k met → k ≤ length met → 65536 ≤ fuel + k
      → (ReachesWithinTable decls t → ⊥) → (ReachesTooMany decls t → ⊥) → ⊥
  few_in zero k met is within enough not_few not_many =
      elim (cases_lt 65536 (length met)) [
        | inl many ↦ not_many (many_met k met is many)
        | inr few ↦ not_few (few_met k met is (omega (arith, within, enough, few)) few)
      ]
  few_in (suc fuel) k met is within enough not_few not_many =
      elim (cases_lt 65536 (length met)) [
        | inl many ↦ not_many (many_met k met is many)
        | inr few ↦
            elim (cases_lt k (length met)) [
              | inl less ↦
                  let next = slice_get_there met k less in
                  without_some (reached_from decls next.0) met (λ added new.
                  few_in fuel (k + 1) (met ++ added) (next_met k met is next.0 next.1 added new)
                  (let size = length-append met added in omega (arith, less, size)) (omega (arith, enough))
                  not_few not_many)
              | inr all ↦ not_few (few_met k met is (omega (arith, within, all)) few)
            ]
      ]

  pub few_or_many : (ReachesWithinTable decls t → ⊥) → (ReachesTooMany decls t → ⊥) → ⊥
  few_or_many = few_in 65536 0 (t ∷ []) first_met (omega arith) (omega arith)
