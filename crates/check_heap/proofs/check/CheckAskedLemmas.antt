-- The pairs of a typing with constrained types form a typing.
use Rattle.std.proofs.Common.{ℕ, zero, suc, ◌+◌, ◌++◌, take, ◌≡◌, ◌∙◌, ◌⊎◌, inl, ⊎_elim, Bool, true, false, List, [], ◌∷◌, Option, Some, None, refl, sym, ap, subst, append_assoc, append-nil, arith}
use Rattle.std.specs.Prelude.{slice_get, option_map, map, filter, cond, Contains, IsSomeAnd, IsTrue}
use Rattle.std.proofs.lemmas.Option.{none-some, slice_get-map, slice_get_within, get_or_from_slice_get}
use Rattle.std.proofs.lemmas.List.Elements.{filter_more, filter-append}
use Rattle.base_data.specs.declared.model.value.Val.{Val}
use Rattle.base_data.specs.declared.model.value.Val.TheVariants as vals
use Rattle.base_data.specs.declared.model.value.Obj.{Obj}
use Rattle.base_data.proofs.model.Lists.{Contains-position, Contains-filter}
use Rattle.base_data.proofs.model.Options.{slice_get-Contains}
use Rattle.types_spec.specs.types.LawfulShapes.{Everything}
use Rattle.types_spec.specs.types.Table.{Table, table_shapes, node_or_none, is_asked_in}
use Rattle.types_spec.specs.types.Typing.{IsListed, IsHeld, IsTyping, field_at}
use Rattle.types_spec.proofs.types.TypeAskedLemmas.{equal_asked, need_typed}
use Rattle.types_spec.proofs.types.TypeListLemmas.{filtered-Contains}
use Rattle.types_theory.specs.typing.StepLaws.{AreApart, key_of}
use Rattle.types_table.specs.type_table.Made.{IsLawful}
use Rattle.check_heap.specs.scan.Paths.{HasPath, IsLed}
use Rattle.check_heap.proofs.scan.ScanPositionLemmas.{mapped_at}
use Rattle.check_heap.specs.check.AskedPairs.{asked_pairs, AreReached}
use Rattle.check_heap.specs.check.Verdict.{IsYes}

-- ---- distinct elements

apart_tail : {X : Type 0} (x : X) (xs : List X) → AreApart (x ∷ xs) → AreApart xs
apart_tail x xs apart j k y at_j at_k = let same = apart (suc j) (suc k) y at_j at_k in omega (arith, same)

module _ {X Y : Type 0} (f : X → Y) (p : X → Bool) where
  apart_step : (x : X) (xs : List X) → AreApart (map f (x ∷ xs)) → AreApart (map f (filter p xs)) → AreApart (map f (filter p (x ∷ xs)))
  apart_step x xs apart rest = by (p x) where
    never : (k : ℕ) → slice_get (map f (filter p xs)) k ≡ Some (f x) → ⊥
    never k at_k =
        let found = mapped_at f (filter p xs) k (f x) at_k in
        let among = (filtered-Contains p xs found.0 (slice_get-Contains (filter p xs) k found.0 found.1)).0 in
        let position = Contains-position xs found.0 among in
        let there = slice_get-map f xs position.0 ∙ ap (option_map f) position.1 ∙ ap Some found.2 in
        let same = apart 0 (suc position.0) (f x) refl there in
        omega (arith, same)

    by : (test : Bool) → AreApart (map f (cond test (x ∷ filter p xs) (filter p xs)))
    by false j k y at_j at_k = rest j k y at_j at_k
    by true zero zero y at_j at_k = refl
    by true zero (suc k) y at_j at_k = absurd (never k (at_k ∙ sym at_j))
    by true (suc j) zero y at_j at_k = absurd (never j (at_j ∙ sym at_k))
    by true (suc j) (suc k) y at_j at_k = ap suc (rest j k y at_j at_k)

  -- If the mapped elements are distinct, then the mapped elements that pass a filter are distinct.
  pub apart_filter : (xs : List X) → AreApart (map f xs) → AreApart (map f (filter p xs))
  apart_filter [] apart j k y at_j at_k = absurd (none-some y at_j)
  apart_filter (x ∷ xs) apart j k y at_j at_k = apart_step x xs apart (apart_filter xs (apart_tail (f x) (map f xs) apart)) j k y at_j at_k

-- ---- a typing

module _ (table : Table) (graph : List Obj) (lawful : IsLawful table) (all : List (ℕ × ℕ)) where
  agree : (t u : ℕ) → (table_shapes table).equal t u → IsTrue (is_asked_in table u) → IsTrue (is_asked_in table t)
  agree t u same asked =
      equal_asked (λ i. node_or_none (slice_get table.nodes i)) (λ i j. slice_get table.classes i ≡ slice_get table.classes j)
      Everything lawful.lawful u t (inl tt) (sym same) asked

  kept : (o t : ℕ) → Contains all (o, t) → IsTrue (is_asked_in table t) → Contains (asked_pairs table all) (o, t)
  kept o t among asked = Contains-filter (λ (pair : ℕ × ℕ). is_asked_in table pair.1) all (o, t) among asked

  pub there : (o t : ℕ) → Contains (asked_pairs table all) (o, t) → Contains all (o, t) × IsTrue (is_asked_in table t)
  there o t among = filtered-Contains (λ (pair : ℕ × ℕ). is_asked_in table pair.1) all (o, t) among

  still_listed : (v : Val) (t : ℕ) → IsTrue (is_asked_in table t) → IsListed (table_shapes table) all v t → IsListed (table_shapes table) (asked_pairs table all) v t
  still_listed (vals.Int z) t asked listed = tt
  still_listed (vals.Atom tag) t asked listed = tt
  still_listed (vals.Ref o) t asked listed = (listed.0, kept o listed.0 listed.1 (agree listed.0 t listed.2 asked), listed.2)

  still_held : (found : Option Val) (t : ℕ) → IsTrue (is_asked_in table t) → IsSomeAnd found (λ v. IsHeld (table_shapes table) graph all v t)
      → IsSomeAnd found (λ v. IsHeld (table_shapes table) graph (asked_pairs table all) v t)
  still_held None t asked held = held
  still_held (Some v) t asked held = record { fits = held.fits; listed = still_listed v t asked held.listed }

  asked_typing : IsTyping (table_shapes table) graph all → IsTyping (table_shapes table) graph (asked_pairs table all)
  asked_typing typing = record {
    fits = λ o t among. typing.fits o t (there o t among).0;
    held = λ o t i u among needed. still_held (field_at graph o i) u (need_typed table graph (vals.Ref o) t i u needed).1
        (typing.held o t i u (there o t among).0 needed);
    one_type = λ o t u one other mutable. typing.one_type o t u (there o t one).0 (there o u other).0 mutable;
  }

  pub asked_yes : (root : Val) → IsTrue (is_asked_in table 0) → IsYes table graph root all → IsYes table graph root (asked_pairs table all)
  asked_yes root asked is = record {
    typing = asked_typing is.typing;
    rooted = still_listed root 0 asked is.rooted;
    apart = apart_filter (key_of table) (λ (pair : ℕ × ℕ). is_asked_in table pair.1) all is.apart;
  }

-- ---- one more pair is tested

module _ (table : Table) where
  asked_more :
      (pairs : List (ℕ × ℕ)) (k : ℕ) (pair : ℕ × ℕ) → slice_get pairs k ≡ Some pair
      → asked_pairs table (take (k + 1) pairs) ≡ asked_pairs table (take k pairs) ++ asked_pairs table (pair ∷ [])
  asked_more pairs k pair at =
      filter_more (λ (p : ℕ × ℕ). is_asked_in table p.1) pairs k pair (slice_get_within pairs k pair at)
      ∙ ap (λ (p : ℕ × ℕ). asked_pairs table (take k pairs) ++ cond (is_asked_in table p.1) (p ∷ []) []) (get_or_from_slice_get pairs k pair pair at)

  pub asked_next :
      (prefix pairs found more : List (ℕ × ℕ)) (k : ℕ) (pair : ℕ × ℕ) → slice_get pairs k ≡ Some pair
      → found ≡ prefix ++ asked_pairs table (take k pairs) → more ≡ found ++ asked_pairs table (pair ∷ [])
      → more ≡ prefix ++ asked_pairs table (take (k + 1) pairs)
  asked_next prefix pairs found more k pair at is write =
      write
      ∙ ap (λ (ps : List (ℕ × ℕ)). ps ++ asked_pairs table (pair ∷ [])) is
      ∙ append_assoc prefix (asked_pairs table (take k pairs)) (asked_pairs table (pair ∷ []))
      ∙ ap (λ (ps : List (ℕ × ℕ)). prefix ++ ps) (sym (asked_more pairs k pair at))

  -- If the type of a pair is constrained, then the filter of the list with the pair appends the
  -- pair.
  pub asked_one : (pairs : List (ℕ × ℕ)) (pair : ℕ × ℕ) → is_asked_in table pair.1 ≡ true → pairs ++ pair ∷ [] ≡ pairs ++ asked_pairs table (pair ∷ [])
  asked_one pairs pair asked = ap (λ (test : Bool). pairs ++ cond test (pair ∷ []) []) (sym asked)

  pub wildcard_one : (pairs : List (ℕ × ℕ)) (pair : ℕ × ℕ) → is_asked_in table pair.1 ≡ false → pairs ≡ pairs ++ asked_pairs table (pair ∷ [])
  wildcard_one pairs pair wildcard = sym (append-nil pairs) ∙ ap (λ (test : Bool). pairs ++ cond test (pair ∷ []) []) (sym wildcard)

  pub asked_both : (xs ys : List (ℕ × ℕ)) → asked_pairs table (xs ++ ys) ≡ asked_pairs table xs ++ asked_pairs table ys
  asked_both xs ys = filter-append (λ (p : ℕ × ℕ). is_asked_in table p.1) xs ys

-- ---- the result of a scan

module _ (table : Table) (graph : List Obj) (lawful : IsLawful table) (types : List ℕ) (all pairs : List (ℕ × ℕ)) (reached : AreReached table types all pairs) where
  pub reached_yes : IsTrue (is_asked_in table 0) → IsYes table graph (vals.Ref 0) all → IsYes table graph (vals.Ref 0) pairs
  reached_yes asked is = ⊎_elim
      (λ whole. subst (IsYes table graph (vals.Ref 0)) (sym whole.0) is)
      (λ part. subst (IsYes table graph (vals.Ref 0)) (sym part) (asked_yes table graph lawful all (vals.Ref 0) asked is))
      reached

  -- Some path leads to each pair of the typing.
  pub reached_paths :
      ((o t : ℕ) → slice_get types o ≡ Some t → IsLed table graph o t)
      → ((o t : ℕ) → Contains all (o, t) → (slice_get types o ≡ Some t) ⊎ HasPath table graph (vals.Ref 0) o t)
      → (o t : ℕ) → Contains pairs (o, t) → HasPath table graph (vals.Ref 0) o t
  reached_paths led cases o t among = ⊎_elim
      (λ whole. ⊎_elim (λ one. led o t one (whole.1 o t one)) (λ path. path) (cases o t (subst (λ xs. Contains xs (o, t)) whole.0 among)))
      (λ part.
      let is = there table graph lawful all o t (subst (λ xs. Contains xs (o, t)) part among) in
      ⊎_elim (λ one. led o t one is.1) (λ path. path) (cases o t is.0))
      reached
