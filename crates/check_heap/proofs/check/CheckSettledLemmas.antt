-- The consequences of types and settled objects for the value.
use Rattle.std.proofs.Common.{ℕ, ◌+◌, ◌<◌, ◌≤◌, ◌≡◌, ◌∙◌, ◌⊎◌, inl, inr, ⊎_elim, ◌++◌, List, length, Option, Some, refl, sym, ap, subst, arith}
use Rattle.std.specs.Prelude.{slice_get, option_map, map, Contains, IsSomeAnd}
use Rattle.std.proofs.lemmas.List.Sums.{sum_by-append}
use Rattle.std.proofs.lemmas.Option.{same_Some, slice_get_within, slice_get-map}
use Rattle.base_data.proofs.model.Options.{slice_get-Contains}
use Rattle.base_data.specs.model.Graph.{IsGraph}
use Rattle.base_data.specs.declared.model.value.Val.{Val}
use Rattle.base_data.specs.declared.model.value.Val.TheVariants as vals
use Rattle.base_data.specs.declared.model.value.Obj.{Obj}
use Rattle.base_data.proofs.model.Lists.{Contains-position}
use Rattle.types_spec.specs.types.Fitting.{numbered_from}
use Rattle.types_spec.specs.types.StepBounds.{most_steps}
use Rattle.types_spec.specs.types.Table.{Table, table_shapes}
use Rattle.types_spec.specs.types.Typing.{IsHeld, IsTyping, HasType}
use Rattle.types_theory.specs.typing.StepLaws.{AreApart, key_of}
use Rattle.types_table.specs.type_table.Made.{IsLawful}
use Rattle.marshal_heap.specs.heap.Heap.{field_at}
use Rattle.check_heap.specs.declared.scan.second_types.SecondTypes.{SecondTypes}
use Rattle.check_heap.specs.scan.Paths.{HasPath}
use Rattle.check_heap.specs.scan.Seconds.{noted_in}
use Rattle.check_heap.specs.scan.TakenObjects.{size_of}
use Rattle.check_heap.specs.scan.Scanned.{IsFoundIn, pairs_with, cost_of, object_typed}
use Rattle.check_heap.proofs.scan.ScanPositionLemmas.{mapped_at, contains_left, contains_cases, slice_get-append_cases}
use Rattle.types_spec.proofs.types.TypeAskedLemmas.{need_typed}
use Rattle.check_heap.proofs.scan.ScanFieldLemmas.{field_there}
use Rattle.check_heap.proofs.scan.ScanNeedLemmas.{need_field}
use Rattle.check_heap.proofs.scan.ScanLemmas.{pair_at}
use Rattle.check_heap.proofs.scan.ScanSizeLemmas.{sizes_are_few}
use Rattle.check_heap.specs.check.Settled.{IsSettledAt, IsSettled, cost_of_pairs}
use Rattle.check_heap.specs.check.Verdict.{IsYes}
use Rattle.check_heap.proofs.check.ScannedLemmas.{first_pair, numbers_apart}

abbrev cost_pair : List Obj → ℕ × ℕ → ℕ
cost_pair graph pair = 1 + size_of graph pair.0

-- If two lists have distinct elements and share none, then their concatenation has distinct
-- elements.
apart_both :
    {X Y : Type 0} (f : X → Y) (xs ys : List X) → AreApart (map f xs) → AreApart (map f ys)
    → ((x y : X) → Contains xs x → Contains ys y → f x ≡ f y → ⊥) → AreApart (map f (xs ++ ys))
apart_both {X} f xs ys one other never j k z at_j at_k =
    let p = mapped_at f (xs ++ ys) j z at_j in
    let q = mapped_at f (xs ++ ys) k z at_k in
    ⊎_elim
    (λ here. ⊎_elim
    (λ also. one j k z (mapped xs j p.0 here ∙ ap Some p.2) (mapped xs k q.0 also ∙ ap Some q.2))
    (λ there. absurd (never p.0 q.0 (slice_get-Contains xs j p.0 here) (slice_get-Contains ys there.0 q.0 there.2) (p.2 ∙ sym q.2)))
    (slice_get-append_cases xs ys k q.0 q.1))
    (λ there. ⊎_elim
    (λ here. absurd (never q.0 p.0 (slice_get-Contains xs k q.0 here) (slice_get-Contains ys there.0 p.0 there.2) (q.2 ∙ sym p.2)))
    (λ also.
    let same = other there.0 also.0 z (mapped ys there.0 p.0 there.2 ∙ ap Some p.2) (mapped ys also.0 q.0 also.2 ∙ ap Some q.2) in
    omega (arith, there.1, also.1, same))
    (slice_get-append_cases xs ys k q.0 q.1))
    (slice_get-append_cases xs ys j p.0 p.1)
  where
    mapped : (all : List X) (n : ℕ) (x : X) → slice_get all n ≡ Some x → slice_get (map f all) n ≡ Some (f x)
    mapped all n x at_n = slice_get-map f all n ∙ ap (option_map f) at_n

module _ (table : Table) (graph : List Obj) (types : List ℕ) (seconds : SecondTypes) (lawful : IsLawful table) (is_graph : IsGraph graph)
    (settled : IsSettled table graph types seconds) where
  -- The type of each pair is its object's type, or the pair was recorded.
  cases : (o t : ℕ) → Contains (pairs_with types seconds) (o, t) → (slice_get types o ≡ Some t) ⊎ Contains (noted_in seconds) (o, t)
  cases o t among = ⊎_elim
      (λ one. inl (pair_at types o t one))
      (λ other. inr other)
      (contains_cases (numbered_from 0 types) (noted_in seconds) (o, t) among)

  settled_at : (o t : ℕ) → Contains (noted_in seconds) (o, t) → IsSettledAt table graph types seconds o t
  settled_at o t among =
      let k = Contains-position (noted_in seconds) (o, t) among in
      settled.settled k.0 o t (slice_get_within (noted_in seconds) k.0 (o, t) k.1) k.1

  inside_at : (o t : ℕ) → Contains (pairs_with types seconds) (o, t) → (o < length graph) × (t < length table.nodes)
  inside_at o t among = ⊎_elim
      (λ one.
      let within = slice_get_within types o t one in
      let many = settled.over.scanned.many in
      (omega (arith, within, many), settled.over.scanned.within o t one))
      (λ other. let own = settled.over.scanned.noted o t other in (own.inside, own.within))
      (cases o t among)

  fits_at : (o t : ℕ) → Contains (pairs_with types seconds) (o, t) → (table_shapes table).fits graph (vals.Ref o) t
  fits_at o t among = ⊎_elim (λ one. settled.over.scanned.fits o t one) (λ other. (settled_at o t other).fits) (cases o t among)

  held_from : (v : Val) (t : ℕ) → IsFoundIn table graph (pairs_with types seconds) v t → IsHeld (table_shapes table) graph (pairs_with types seconds) v t
  held_from (vals.Int z) t found = record { fits = found; listed = tt }
  held_from (vals.Atom tag) t found = record { fits = found; listed = tt }
  held_from (vals.Ref o) t found = record {
    fits = lawful.lawful.fits graph (vals.Ref o) found.0 t (inl tt) found.2 (fits_at o found.0 found.1);
    listed = found;
  }

  pairs_typing : IsTyping (table_shapes table) graph (pairs_with types seconds)
  pairs_typing = record {
    fits = fits_at;
    held = λ o t i a among needed.
        let inside = (inside_at o t among).0 in
        let j = Contains-position (object_typed table graph o t) (i, a) (need_typed table graph (vals.Ref o) t i a needed).0 in
        let short = need_field table graph o t j.0 i a inside j.1 in
        subst (λ value. IsSomeAnd value (λ v. IsHeld (table_shapes table) graph (pairs_with types seconds) v a)) (sym (field_there graph o i inside short))
        (held_from (field_at graph o i) a (⊎_elim
        (λ one. settled.over.scanned.found o t i a one needed)
        (λ other. (settled_at o t other).found i a needed)
        (cases o t among)));
    one_type = λ o t u one other mutable. ⊎_elim
        (λ first. ⊎_elim
        (λ also. ap (slice_get table.classes) (same_Some t u (sym first ∙ also)))
        (λ noted. absurd ((settled_at o u noted).first t first mutable))
        (cases o u other))
        (λ noted. absurd ((settled_at o t noted).here mutable))
        (cases o t one);
  }

  pairs_apart : AreApart (map (key_of table) (pairs_with types seconds))
  pairs_apart = apart_both (key_of table) (numbered_from 0 types) (noted_in seconds) (numbers_apart table types) settled.over.scanned.valid.apart (λ x y one other same.
      let at_x = pair_at types x.0 x.1 one in
      let own = settled.over.scanned.noted y.0 y.1 other in
      let object : x.0 ≡ y.0 = ap (λ (z : ℕ × Option ℕ). z.0) same in
      let class = ap (λ (z : ℕ × Option ℕ). z.1) same in
      let first : own.first ≡ x.1 = same_Some own.first x.1 (sym own.typed ∙ ap (slice_get types) (sym object) ∙ at_x) in
      own.other (ap (slice_get table.classes) first ∙ class))

  pub settled_yes : HasType (table_shapes table) graph (vals.Ref 0) 0 × IsYes table graph (vals.Ref 0) (pairs_with types seconds)
  settled_yes =
      let pair = contains_left (numbered_from 0 types) (noted_in seconds) (0, 0) (first_pair types 0 settled.over.scanned.root) in (
        record { fits = fits_at 0 0 pair; typed = (pairs_with types seconds, pairs_typing, pair) },
        record { typing = pairs_typing; rooted = (0, pair, refl); apart = pairs_apart },
      )

  pub settled_cases : (o t : ℕ) → Contains (pairs_with types seconds) (o, t) → (slice_get types o ≡ Some t) ⊎ HasPath table graph (vals.Ref 0) o t
  settled_cases o t among = ⊎_elim (λ one. inl one) (λ other. inr (settled.over.paths o t other)) (cases o t among)

  pub settled_few : 1 + (cost_of graph types + cost_of_pairs graph (noted_in seconds)) ≤ most_steps table graph
  settled_few =
      let few = sizes_are_few table graph (pairs_with types seconds) (record {
        objects = λ o t among. (inside_at o t among).0;
        types = λ o t among. let within = (inside_at o t among).1 in let classed = lawful.classed in omega (arith, within, classed);
        apart = pairs_apart;
      }) in
      let sum = sum_by-append (cost_pair graph) (numbered_from 0 types) (noted_in seconds) in
      omega (arith, few, sum)
