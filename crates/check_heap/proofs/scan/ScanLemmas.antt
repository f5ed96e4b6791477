-- Objects that are checked one after another, and the result when all are checked.
use Rattle.std.proofs.Common.{ℕ, zero, suc, ◌+◌, ◌<◌, ◌≤◌, ◌≡◌, ◌∙◌, ◌⊎◌, inl, ⊎_elim, ◌++◌, List, [], ◌∷◌, length, Option, Some, refl, sym, ap, subst, arith}
use Rattle.std.specs.Prelude.{slice_get, slice_index, slice_set, replicate, map, sum_by, Contains, IsSomeAnd}
use Rattle.std.proofs.lemmas.List.{length-append, get_or-set_same}
use Rattle.std.proofs.lemmas.List.Sums.{sum_by_push}
use Rattle.std.proofs.lemmas.Option.{same_Some, none-some, slice_get_within}
use Rattle.base_data.proofs.model.Options.{slice_get_there, slice_get-Contains}
use Rattle.base_data.specs.model.Graph.{IsValue, IsGraph}
use Rattle.base_data.specs.declared.model.value.Val.{Val}
use Rattle.base_data.specs.declared.model.value.Val.TheVariants as vals
use Rattle.base_data.specs.declared.model.value.Obj.{Obj}
use Rattle.base_data.proofs.model.Lists.{Contains-position}
use Rattle.types_spec.specs.types.Fitting.{numbered_from}
use Rattle.types_spec.specs.types.StepBounds.{most_steps}
use Rattle.types_spec.specs.types.Table.{Table, table_shapes}
use Rattle.types_spec.specs.types.Typing.{IsHeld, IsTyping}
use Rattle.types_theory.specs.typing.StepLaws.{key_of, AreEntries}
use Rattle.marshal_heap.specs.heap.Heap as heap
use Rattle.marshal_heap.specs.heap.Heap.{field_at}
use Rattle.types_table.specs.type_table.Made.{IsLawful}
use Rattle.check_heap.specs.declared.scan.straight.Scanned.TheVariants as answers
use Rattle.check_heap.specs.scan.Paths.{HasPath, IsLed, HavePaths}
use Rattle.check_heap.specs.scan.TakenObjects.{size_of}
use Rattle.check_heap.specs.declared.scan.second_types.SecondTypes.{SecondTypes}
use Rattle.check_heap.specs.scan.Seconds.{noted_in}
use Rattle.types_spec.proofs.types.TypeAskedLemmas.{need_typed}
use Rattle.check_heap.specs.scan.Scanned.{object_typed, IsScanned, IsFoundIn, IsScannedBut, cost_of}
use Rattle.check_heap.specs.scan.Scan.{mark_of, AreMarks, AreKept, AreNoted, AreStillNoted, IsMet, IsNoted, AreMet, IsTaken, IsScanning}
use Rattle.check_heap.proofs.scan.ScanPositionLemmas.{slice_get-push_cases, contains_left, contains_right}
use Rattle.check_heap.proofs.scan.ScanFieldLemmas.{field_there, field_valid}
use Rattle.check_heap.proofs.scan.ScanNeedLemmas.{need_field, needs_few}
use Rattle.check_heap.proofs.scan.ScanMarkLemmas.{marks_none, marks_more, taken_kept, never_noted}
use Rattle.check_heap.proofs.scan.ScanPathLemmas.{same_from_key, root_path}
use Rattle.check_heap.proofs.scan.ScanSizeLemmas.{sizes_are_few}

-- ---- numbered types

numbered-push : (i : ℕ) (ts : List ℕ) (t : ℕ) → numbered_from i (ts ++ t ∷ []) ≡ numbered_from i ts ++ (i + length ts, t) ∷ []
numbered-push i [] t = let same : i ≡ i + 0 = omega arith in ap (λ n. (n, t) ∷ []) same
numbered-push i (s ∷ ts) t =
    let same : suc i + length ts ≡ i + suc (length ts) = omega arith in
    ap (λ all. (i, s) ∷ all) (numbered-push (suc i) ts t ∙ ap (λ n. numbered_from (suc i) ts ++ (n, t) ∷ []) same)

numbered_at : (i : ℕ) (ts : List ℕ) (k o t : ℕ) → slice_get (numbered_from i ts) k ≡ Some (o, t) → (slice_get ts k ≡ Some t) × (o ≡ i + k)
numbered_at i [] k o t at_k = absurd (none-some (o, t) at_k)
numbered_at i (s ∷ ts) zero o t at_k =
    let same = same_Some (i, s) (o, t) at_k in
    (ap (λ (p : ℕ × ℕ). Some p.1) same, let is = ap (λ (p : ℕ × ℕ). p.0) same in omega (arith, is))
numbered_at i (s ∷ ts) (suc k) o t at_k =
    let rest = numbered_at (suc i) ts k o t at_k in
    (rest.0, omega (arith, rest.1))

numbered_there : (i : ℕ) (ts : List ℕ) (k t : ℕ) → slice_get ts k ≡ Some t → slice_get (numbered_from i ts) k ≡ Some (i + k, t)
numbered_there i [] k t at_k = absurd (none-some t at_k)
numbered_there i (s ∷ ts) zero t at_k =
    let same : i ≡ i + 0 = omega arith in
    ap (λ n. Some (n, s)) same ∙ ap (λ u. Some (i + 0, u)) (same_Some s t at_k)
numbered_there i (s ∷ ts) (suc k) t at_k =
    let same : suc i + k ≡ i + suc k = omega arith in
    numbered_there (suc i) ts k t at_k ∙ ap (λ n. Some (n, t)) same

pub pair_at : (ts : List ℕ) (o t : ℕ) → Contains (numbered_from 0 ts) (o, t) → slice_get ts o ≡ Some t
pair_at ts o t among =
    let k = Contains-position (numbered_from 0 ts) (o, t) among in
    let is = numbered_at 0 ts k.0 o t k.1 in
    let same : o ≡ k.0 = omega (arith, is.1) in
    ap (slice_get ts) same ∙ is.0

pub pair_there : (ts : List ℕ) (o t : ℕ) → slice_get ts o ≡ Some t → Contains (numbered_from 0 ts) (o, t)
pair_there ts o t at_o =
    let same : 0 + o ≡ o = omega arith in
    slice_get-Contains (numbered_from 0 ts) o (o, t) (numbered_there 0 ts o t at_o ∙ ap (λ n. Some (n, t)) same)

pub cost_more : (graph : List Obj) (types : List ℕ) (t : ℕ) → cost_of graph (types ++ t ∷ []) ≡ cost_of graph types + (1 + size_of graph (length types))
cost_more graph types t =
    let cost : ℕ × ℕ → ℕ = λ entry. 1 + size_of graph entry.0 in
    let same : 0 + length types ≡ length types = omega arith in
    ap (sum_by cost) (numbered-push 0 types t ∙ ap (λ n. numbered_from 0 types ++ (n, t) ∷ []) same) ∙ sum_by_push cost (numbered_from 0 types) (length types, t)

module _ (table : Table) (graph : List Obj) where
  -- ---- the start

  pub scanning_none :
      (marks : List ℕ) (n key steps : ℕ) → IsGraph graph → 0 < length graph → 0 < length table.nodes → ((o : ℕ) → o < length graph → heap.key_of graph o < n)
      → key ≡ heap.key_of graph 0 → marks ≡ slice_set (replicate n 0) key 1 → steps ≡ 0 → (noted : List (ℕ × ℕ)) → IsScanning table graph marks noted [] 0 steps
  scanning_none marks n key steps is_graph some rooted keys is made none noted =
      let zeros = marks_none table graph n keys in
      let inside : key < length {A = ℕ} (replicate n 0) = subst (λ k. k < length {A = ℕ} (replicate n 0)) (sym is) (zeros.keyed 0 some) in
      record {
        valid = subst (AreMarks table graph) (sym made) (marks_more table graph (replicate n 0) key 0 zeros inside rooted (λ o here same asked.
            subst (λ p. HasPath table graph (vals.Ref 0) p 0) (sym (same_from_key graph o 0 is_graph here some (same ∙ is))) (root_path table graph 0)));
        root = ap (λ ms. mark_of graph ms 0) made ∙ ap (slice_index (slice_set (replicate n 0) key 1)) (sym is) ∙ get_or-set_same (replicate n 0) key 1 0 inside;
        many = refl;
        taken = λ o t at_o. absurd (none-some t at_o);
        few = omega (arith, none);
      }

  -- ---- one more object

  pub scanning_more :
      (old new : List ℕ) (before noted : List (ℕ × ℕ)) (types : List ℕ) (o t steps more : ℕ) → o < length graph → IsScanning table graph old before types o steps
      → AreMarks table graph new → AreKept old new → AreStillNoted before noted
      → mark_of graph old o ≡ suc t → (table_shapes table).fits graph (vals.Ref o) t
      → AreMet table graph new noted o t (length (object_typed table graph o t))
      → more ≤ steps + (1 + length (object_typed table graph o t)) → IsScanning table graph new noted (types ++ t ∷ []) (o + 1) more
  scanning_more old new before noted types o t steps more inside scanning valid kept still marked fits met few =
      let own : IsTaken table graph new noted o t = record { marked = kept (heap.key_of graph o) (omega (arith, marked)) ∙ marked; fits = fits; met = met } in
      record {
        valid = valid;
        root = kept (heap.key_of graph 0) (let is = scanning.root in omega (arith, is)) ∙ scanning.root;
        many = length-append types (t ∷ []) ∙ ap (λ n. n + 1) scanning.many;
        taken = λ k u at_k. ⊎_elim
            (λ there. taken_kept table graph old new before noted k u kept still (scanning.taken k u there))
            (λ last. subst (λ n. IsTaken table graph new noted n u) (sym (last.0 ∙ scanning.many)) (subst (IsTaken table graph new noted o) last.1 own))
            (slice_get-push_cases types t k u at_k);
        few =
            let cost = cost_more graph types t in
            let own_cost = ap (size_of graph) scanning.many in
            let own_needs = needs_few table graph o t inside in
            let spent = scanning.few in
            omega (arith, few, cost, own_cost, own_needs, spent);
      }

  -- If marks or notes are added and the steps are fewer, then the invariant of the scan holds.
  pub scanning_kept :
      (old new : List ℕ) (before noted : List (ℕ × ℕ)) (types : List ℕ) (n steps fewer : ℕ) → fewer ≤ steps → IsScanning table graph old before types n steps
      → AreMarks table graph new → AreKept old new → AreStillNoted before noted
      → IsScanning table graph new noted types n fewer
  scanning_kept old new before noted types n steps fewer less scanning valid kept still = record {
    valid = valid;
    root = kept (heap.key_of graph 0) (let is = scanning.root in omega (arith, is)) ∙ scanning.root;
    many = scanning.many;
    taken = λ k u at_k. taken_kept table graph old new before noted k u kept still (scanning.taken k u at_k);
    few = let few = scanning.few in omega (arith, few, less);
  }

  -- ---- the first objects

  pub scanned_within : (marks : List ℕ) (noted : List (ℕ × ℕ)) (types : List ℕ) (n steps o t : ℕ) → IsScanning table graph marks noted types n steps → slice_get types o ≡ Some t → t < length table.nodes
  scanned_within marks noted types n steps o t scanning at_o =
      let marked = (scanning.taken o t at_o).marked in
      let small = scanning.valid.small (heap.key_of graph o) in
      omega (arith, marked, small)

  position_first : (i : ℕ) (ts : List ℕ) (k : ℕ) (x : ℕ × Option ℕ) → slice_get (map (key_of table) (numbered_from i ts)) k ≡ Some x → x.0 ≡ i + k
  position_first i [] k x at_k = absurd (none-some x at_k)
  position_first i (t ∷ ts) zero x at_k =
      let same = ap (λ (p : ℕ × Option ℕ). p.0) (same_Some (key_of table (i, t)) x at_k) in omega (arith, same)
  position_first i (t ∷ ts) (suc k) x at_k = let rest = position_first (suc i) ts k x at_k in omega (arith, rest)

  pub types_entries :
      (types : List ℕ) → IsLawful table → length types ≤ length graph → ((o t : ℕ) → slice_get types o ≡ Some t → t < length table.nodes)
      → AreEntries table graph (numbered_from 0 types)
  types_entries types lawful many typed = record {
    objects = λ o t among. let within = slice_get_within types o t (pair_at types o t among) in omega (arith, within, many);
    types = λ o t among. let less = typed o t (pair_at types o t among) in let classed = lawful.classed in omega (arith, less, classed);
    apart = λ j k x at_j at_k.
        let one = position_first 0 types j x at_j in
        let other = position_first 0 types k x at_k in
        omega (arith, one, other);
  }

  -- ---- all objects

  module _ (marks : List ℕ) (noted : List (ℕ × ℕ)) (types : List ℕ) (steps : ℕ) (lawful : IsLawful table) (is_graph : IsGraph graph)
      (scanning : IsScanning table graph marks noted types (length graph) steps) where
    all_there : (o : ℕ) → o < length graph → (t : ℕ) × (slice_get types o ≡ Some t)
    all_there o inside = slice_get_there types o (let many = scanning.many in omega (arith, many, inside))

    inside_of : (o t : ℕ) → slice_get types o ≡ Some t → o < length graph
    inside_of o t at_o = let within = slice_get_within types o t at_o in let many = scanning.many in omega (arith, within, many)

    within_of : (o t : ℕ) → slice_get types o ≡ Some t → t < length table.nodes
    within_of o t at_o =
        let marked = (scanning.taken o t at_o).marked in
        let small = scanning.valid.small (heap.key_of graph o) in
        omega (arith, marked, small)

    root_typed : 0 < length graph → slice_get types 0 ≡ Some 0
    root_typed some =
        let first = all_there 0 some in
        let is : first.0 ≡ 0 = let marked = (scanning.taken 0 first.0 first.1).marked in let root = scanning.root in omega (arith, marked, root) in
        first.1 ∙ ap (λ t. Some t) is

    -- If an object is marked with a type, then the type is the object's type in the result.
    met_type : (p u : ℕ) → p < length graph → mark_of graph marks p ≡ suc u → slice_get types p ≡ Some u
    met_type p u inside marked =
        let there = all_there p inside in
        let same : there.0 ≡ u = let is = (scanning.taken p there.0 there.1).marked in omega (arith, is, marked) in
        there.1 ∙ ap (λ t. Some t) same

    held_of : (v : Val) (t : ℕ) → IsValue (length graph) v → IsMet table graph marks v t → IsHeld (table_shapes table) graph (numbered_from 0 types) v t
    held_of (vals.Int z) t valid met = record { fits = met; listed = tt }
    held_of (vals.Atom tag) t valid met = record { fits = met; listed = tt }
    held_of (vals.Ref p) t valid met =
        let at_p = met_type p met.0 valid met.1 in
        record {
          fits = lawful.lawful.fits graph (vals.Ref p) met.0 t (inl tt) met.2 (scanning.taken p met.0 at_p).fits;
          listed = (met.0, pair_there types p met.0 at_p, met.2);
        }

    -- If nothing was noted, then each value is satisfied.
    only_met : noted ≡ [] → (v : Val) (t : ℕ) → IsMet table graph marks v t ⊎ IsNoted table noted v t → IsMet table graph marks v t
    only_met none v t = ⊎_elim (λ met. met) (λ other. absurd (never_noted table graph v t (subst (λ xs. IsNoted table xs v t) none other)))

    all_typed : noted ≡ [] → IsTyping (table_shapes table) graph (numbered_from 0 types)
    all_typed none = record {
      fits = λ o t among. (scanning.taken o t (pair_at types o t among)).fits;
      held = λ o t i u among needed.
          let at_o = pair_at types o t among in
          let inside = inside_of o t at_o in
          let is = need_typed table graph (vals.Ref o) t i u needed in
          let j = Contains-position (object_typed table graph o t) (i, u) is.0 in
          let short = need_field table graph o t j.0 i u inside j.1 in
          let below = slice_get_within (object_typed table graph o t) j.0 (i, u) j.1 in
          subst (λ value. IsSomeAnd value (λ v. IsHeld (table_shapes table) graph (numbered_from 0 types) v u)) (sym (field_there graph o i inside short))
          (held_of (field_at graph o i) u (field_valid graph o i inside short is_graph)
          (only_met none (field_at graph o i) u ((scanning.taken o t at_o).met j.0 i u below j.1 is.1)));
      one_type = λ o t u one other mutable.
          let same = same_Some t u (sym (pair_at types o t one) ∙ pair_at types o u other) in
          ap (slice_get table.classes) same;
    }

    pub all_scanned : 0 < length graph → noted ≡ [] → IsScanned table graph types
    all_scanned some none = record { many = scanning.many; within = within_of; root = root_typed some; typing = all_typed none }

    -- ---- scans with notes

    found_of : (v : Val) (t : ℕ) → IsValue (length graph) v → IsMet table graph marks v t ⊎ IsNoted table noted v t → IsFoundIn table graph (numbered_from 0 types ++ noted) v t
    found_of (vals.Int z) t valid met = ⊎_elim (λ fits. fits) (λ never. absurd never) met
    found_of (vals.Atom tag) t valid met = ⊎_elim (λ fits. fits) (λ never. absurd never) met
    found_of (vals.Ref p) t valid met = ⊎_elim
        (λ own.
        (own.0, contains_left (numbered_from 0 types) noted (p, own.0) (pair_there types p own.0 (met_type p own.0 valid own.1)), own.2))
        (λ other. (other.0, contains_right (numbered_from 0 types) noted (p, other.0) other.1, other.2))
        met

    pub all_noted : (seconds : SecondTypes) → 0 < length graph → noted_in seconds ≡ noted → AreNoted table graph marks seconds → IsScannedBut table graph types seconds
    all_noted seconds some is are = record {
      many = scanning.many;
      within = within_of;
      root = root_typed some;
      fits = λ o t at_o. (scanning.taken o t at_o).fits;
      found = λ o t i a at_o needed.
          let inside = inside_of o t at_o in
          let need = need_typed table graph (vals.Ref o) t i a needed in
          let j = Contains-position (object_typed table graph o t) (i, a) need.0 in
          let short = need_field table graph o t j.0 i a inside j.1 in
          let below = slice_get_within (object_typed table graph o t) j.0 (i, a) j.1 in
          subst (λ xs. IsFoundIn table graph (numbered_from 0 types ++ xs) (field_at graph o i) a) (sym is)
          (found_of (field_at graph o i) a (field_valid graph o i inside short is_graph) ((scanning.taken o t at_o).met j.0 i a below j.1 need.1));
      valid = are.valid;
      noted = λ o t among.
          let second = are.all o t among in
          record { inside = second.inside; within = second.within; first = second.first; typed = met_type o second.first second.inside second.marked; other = second.other };
    }

    pub types_paths : (o t : ℕ) → slice_get types o ≡ Some t → IsLed table graph o t
    types_paths o t at_o = scanning.valid.paths o t (inside_of o t at_o) (scanning.taken o t at_o).marked

    pub all_few : 1 + steps ≤ most_steps table graph
    all_few =
        let many : length types ≤ length graph = let is = scanning.many in omega (arith, is) in
        let most = sizes_are_few table graph (numbered_from 0 types) (types_entries types lawful many within_of) in
        let few = scanning.few in
        omega (arith, most, few)

    pub all_paths : HavePaths table graph (answers.Known types)
    all_paths o t at_o = types_paths o t at_o
