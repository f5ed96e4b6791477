-- Pairs that are noted one after another.
use Rattle.std.proofs.Common.{ℕ, ◌≡◌, ◌∙◌, ◌⊎◌, ⊎_elim, ◌++◌, List, [], ◌∷◌, length, Option, Some, refl, sym, ap, subst, arith}
use Rattle.std.specs.Prelude.{slice_get, option_map, map, Contains}
use Rattle.std.proofs.lemmas.Option.{same_Some, none-some, slice_get-map}
use Rattle.base_data.proofs.model.Options.{slice_get-Contains, Contains-none}
use Rattle.base_data.specs.declared.model.value.Val.TheVariants as vals
use Rattle.types_spec.specs.types.Table.{Table, table_shapes}
use Rattle.types_spec.specs.types.Typing.{IsListed}
use Rattle.types_theory.specs.typing.StepLaws.{AreApart, key_of}
use Rattle.check_heap.specs.declared.scan.second_types.SecondTypes.{SecondTypes}
use Rattle.check_heap.specs.scan.Classed.{Has, IsUntouched, Inserts}
use Rattle.check_heap.specs.scan.Seconds.{noted_in, AreSeconds}
use Rattle.check_heap.proofs.scan.ScanPositionLemmas.{slice_get-push_cases, mapped_at, contains_push, contains_left, contains_last}
use Rattle.check_heap.proofs.scan.ClassedLemmas.{untouched_none}

pub nothing_in : (xs : List (ℕ × ℕ)) → length xs ≡ 0 → xs ≡ []
nothing_in [] none = refl
nothing_in (x ∷ xs) none = absurd (omega (arith, none))

module _ (table : Table) where
  pub seconds_none : (seconds : SecondTypes) → length (noted_in seconds) ≡ 0 → IsUntouched seconds.known → AreSeconds table seconds
  seconds_none seconds none unknown = record {
    known = λ o t c among. absurd (nothing o t among);
    there = λ o c has. absurd (untouched_none seconds.known unknown o c has);
    apart = λ j k x at_j. absurd (none-some x (sym (ap (λ xs. slice_get (map (key_of table) xs) j) (nothing_in (noted_in seconds) none)) ∙ at_j));
  } where
    nothing : (o t : ℕ) → Contains (noted_in seconds) (o, t) → ⊥
    nothing o t among = Contains-none (o, t) (subst (λ xs. Contains xs (o, t)) (nothing_in (noted_in seconds) none) among)

  pub second_there :
      (seconds : SecondTypes) (o t c : ℕ) → AreSeconds table seconds → slice_get table.classes t ≡ Some c → Has seconds.known o c
      → IsListed (table_shapes table) (noted_in seconds) (vals.Ref o) t
  second_there seconds o t c are class has = let there = are.there o c has in (there.0, there.1, there.2 ∙ sym class)

  -- If an object is listed at an equal type, then the class is known for the object.
  pub second_known :
      (seconds : SecondTypes) (o t c : ℕ) → AreSeconds table seconds → slice_get table.classes t ≡ Some c
      → IsListed (table_shapes table) (noted_in seconds) (vals.Ref o) t → Has seconds.known o c
  second_known seconds o t c are class listed = are.known o listed.0 c listed.1 (listed.2 ∙ class)

  -- Case: the class was known for the object already.
  pub seconds_same :
      (old new : SecondTypes) (o c : ℕ) → AreSeconds table old → Has old.known o c → Inserts old.known new.known o c → noted_in new ≡ noted_in old
      → AreSeconds table new
  seconds_same old new o c are has inserts same = record {
    known = λ p u d among at_u. inserts.kept p d (are.known p u d (subst (λ xs. Contains xs (p, u)) same among) at_u);
    there = λ p d is.
        let there = are.there p d (before p d (inserts.only p d is)) in
        (there.0, subst (λ xs. Contains xs (p, there.0)) (sym same) there.1, there.2);
    apart = subst (λ xs. AreApart (map (key_of table) xs)) (sym same) are.apart;
  } where
    before : (p d : ℕ) → Has old.known p d ⊎ ((o ≡ p) × (c ≡ d)) → Has old.known p d
    before p d is = ⊎_elim (λ there. there) (λ own. subst (λ q. Has old.known q d) own.0 (subst (Has old.known o) own.1 has)) is

  -- Case: a pair is appended at a new class for the object.
  module _ (old new : SecondTypes) (o t c : ℕ) (are : AreSeconds table old) (class : slice_get table.classes t ≡ Some c) (fresh : ¬ Has old.known o c)
      (inserts : Inserts old.known new.known o c) (pushed : noted_in new ≡ noted_in old ++ (o, t) ∷ []) where
    apart_pushed : AreApart (map (key_of table) (noted_in old ++ (o, t) ∷ []))
    apart_pushed j k x at_j at_k =
        let p = mapped_at (key_of table) (noted_in old ++ (o, t) ∷ []) j x at_j in
        let q = mapped_at (key_of table) (noted_in old ++ (o, t) ∷ []) k x at_k in
        ⊎_elim
        (λ before. ⊎_elim
        (λ also. are.apart j k x (mapped j p.0 before ∙ ap Some p.2) (mapped k q.0 also ∙ ap Some q.2))
        (λ last. absurd (never p.0 (slice_get-Contains (noted_in old) j p.0 before) (p.2 ∙ sym q.2 ∙ ap (key_of table) (sym last.1))))
        (slice_get-push_cases (noted_in old) (o, t) k q.0 q.1))
        (λ last. ⊎_elim
        (λ before. absurd (never q.0 (slice_get-Contains (noted_in old) k q.0 before) (q.2 ∙ sym p.2 ∙ ap (key_of table) (sym last.1))))
        (λ also. last.0 ∙ sym also.0)
        (slice_get-push_cases (noted_in old) (o, t) k q.0 q.1))
        (slice_get-push_cases (noted_in old) (o, t) j p.0 p.1)
      where
        mapped : (n : ℕ) (y : ℕ × ℕ) → slice_get (noted_in old) n ≡ Some y → slice_get (map (key_of table) (noted_in old)) n ≡ Some (key_of table y)
        mapped n y at_n = slice_get-map (key_of table) (noted_in old) n ∙ ap (option_map (key_of table)) at_n

        never : (y : ℕ × ℕ) → Contains (noted_in old) y → key_of table y ≡ key_of table (o, t) → ⊥
        never y among same =
            let object : y.0 ≡ o = ap (λ (z : ℕ × Option ℕ). z.0) same in
            let type = ap (λ (z : ℕ × Option ℕ). z.1) same in
            fresh (subst (λ n. Has old.known n c) object (are.known y.0 y.1 c among (type ∙ class)))

    pub seconds_more : AreSeconds table new
    seconds_more = record {
      known = λ p u d among at_u. ⊎_elim
          (λ before. inserts.kept p d (are.known p u d before at_u))
          (λ last.
          let object : o ≡ p = ap (λ (y : ℕ × ℕ). y.0) last in
          let type : t ≡ u = ap (λ (y : ℕ × ℕ). y.1) last in
          let same : c ≡ d = same_Some c d (sym class ∙ ap (slice_get table.classes) type ∙ at_u) in
          subst (λ n. Has new.known n d) object (subst (Has new.known o) same inserts.here))
          (contains_push (noted_in old) (o, t) (p, u) (subst (λ xs. Contains xs (p, u)) pushed among));
      there = λ p d is. ⊎_elim
          (λ before.
          let there = are.there p d before in
          (there.0, subst (λ xs. Contains xs (p, there.0)) (sym pushed) (contains_left (noted_in old) ((o, t) ∷ []) (p, there.0) there.1), there.2))
          (λ last.
          let object : o ≡ p = last.0 in
          let same : c ≡ d = last.1 in
          (t, subst (λ xs. Contains xs (p, t)) (sym pushed) (subst (λ n. Contains (noted_in old ++ (o, t) ∷ []) (n, t)) object (contains_last (noted_in old) (o, t))), class ∙ ap (λ n. Some n) same))
          (inserts.only p d is);
      apart = subst (λ xs. AreApart (map (key_of table) xs)) (sym pushed) apart_pushed;
    }
