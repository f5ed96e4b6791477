-- Lemmas about listings, to which discovered types are added one after the other.
use Rattle.std.proofs.Common.{ℕ, zero, suc, true, ◌+◌, ◌<◌, ◌≤◌, ◌≡◌, ◌∙◌, ◌⊎◌, ⊎_elim, inl, inr, List, [], ◌∷◌, ◌++◌, length, map, take, Option, Some, refl, sym, ap, subst, nat_eq, length-append, arith}
use Rattle.std.specs.Prelude.{slice_get}
use Rattle.std.specs.List.{flat_map}
use Rattle.std.proofs.lemmas.List.{map-append, take_more, take-append-le, length_push}
use Rattle.std.proofs.lemmas.List.Sums.{fold-append}
use Rattle.std.proofs.lemmas.List.Elements.{All-append, All-weaker, All-contains, All-head, All-tail}
use Rattle.std.proofs.lemmas.Option.{same_Some, none-some, slice_get-get_or, slice_get_within, get_or_from_slice_get}
use Rattle.indexmap.specs.IndexSet.{insert_key, insert_all}
use Rattle.base_data.proofs.model.Lists.{map-slice_get}
use Rattle.base_data.proofs.model.Options.{slice_get-Contains, Contains-none}
use Rattle.types_spec.specs.declared.types.decl.Decl.{Decl}
use Rattle.types_spec.specs.declared.types.head.HeadOf.{HeadOf}
use Rattle.types_spec.specs.declared.types.head.HeadOf.TheVariants as heads
use Rattle.types_spec.specs.declared.types.names.Names.{Names}
use Rattle.types_spec.specs.declared.types.shape.ShapeOf.{ShapeOf}
use Rattle.types_spec.specs.types.Ty.{Ty, tuple}
use Rattle.types_spec.specs.types.TypeNodes.{type_at}
use Rattle.types_spec.specs.types.Head.{head}
use Rattle.types_spec.specs.types.Shape.{shape}
use Rattle.types_spec.specs.types.Names.{names_of}
use Rattle.types_spec.specs.types.Reached.{named_in, parts_of, reached_from, IsWithoutRepeats, IsFromEarlier, ReachesTooMany}
use Rattle.types_spec.specs.types.Table.{with_parts, head_with_parts}
use Rattle.types_table.specs.store.Held.{AreDistinct, Grows}
use Rattle.types_table.proofs.store.StoreHeldLemmas.{Grows-none, Grows-then, there_kept, get-map}
use Rattle.types_build.proofs.representation.RepresentationFoundLemmas.{tags_of_head}
use Rattle.types_build.specs.declared.representation.representation.Representation.{Representation}
use Rattle.types_build.specs.representation.FoundHeads.{AreFound}
use Rattle.types_build.specs.representation.Representation.{IsRepresentationOf, AreNamesAt}
use Rattle.types_build.specs.declared.builder.type_entry.TypeEntry.{TypeEntry}
use Rattle.types_build.specs.builder.PlacedTypes.{SayTheSame, IsShapePlaced, IsHeadPlaced}
use Rattle.types_build.specs.builder.Listed.{types_at, AreWithin, IsPlacedEntry, IsEntry, IsListing}
use Rattle.types_build.proofs.builder.BuilderPlacedLemmas.{SayTheSame-before, IsPlaced-grows, one_more}
use Rattle.types_build.proofs.builder.RepeatLemmas.{repeats_then, repeats_among, repeats_distinct, old_or_added}
use Rattle.types_build.proofs.builder.BuilderMetLemmas.{MetAfter, met_after}
use Rattle.types_build.proofs.builder.BuilderPartLemmas.{AreNumbers, shape_numbers, head_numbers}

-- ---- growth of the store

module _ (old new : List Ty) (grown : Grows old new) where
  not_fewer : length old ≤ length new
  not_fewer = omega (arith, ap length grown.kept, length-append old grown.added)

  pub within_more : (numbers : List ℕ) → AreWithin old numbers → AreWithin new numbers
  within_more numbers within =
      All-weaker (λ i. i < length old) (λ i. i < length new) (λ i below. omega (arith, not_fewer)) numbers within

  type_stays : (n : ℕ) → n < length old → type_at new n ≡ type_at old n
  type_stays n below =
      get_or_from_slice_get new n (type_at old n) tuple
      (there_kept old new n (type_at old n) grown (slice_get-get_or old n tuple below))

  pub types_stay : (numbers : List ℕ) → AreWithin old numbers → types_at new numbers ≡ types_at old numbers
  types_stay [] within = refl
  types_stay (n ∷ numbers) within =
      ap (λ (t : Ty). t ∷ types_at new numbers) (type_stays n (All-head (λ i. i < length old) n numbers within))
      ∙ ap (λ (ts : List Ty). type_at old n ∷ ts) (types_stay numbers (All-tail (λ i. i < length old) n numbers within))

-- ---- one type

-- If the discovered types are the first of `all`, then `all` has at each index of `met` the type
-- with the store number at the index.
says_types :
    (types : List Ty) (met : List ℕ) (all : List Ty) → AreWithin types met → Grows (types_at types met) all
    → SayTheSame met (slice_get all) (slice_get types)
says_types types met all within grown = record {
  at = λ position number is.
      let below = All-contains (λ i. i < length types) met number within (slice_get-Contains met position number is) in
      there_kept (types_at types met) all position (type_at types number) grown (get-map (type_at types) met position number is)
      ∙ sym (slice_get-get_or types number tuple below);
}

-- The properties of the entry of a type that follow from the type's representation.
pub record IsMet (decls : List Decl) (t : Ty) (old new : List Ty) (before after : List ℕ) (entry : TypeEntry) : Type 0 where
  pub within : AreWithin new after
  pub is : IsEntry decls t (types_at old before) (types_at new after) entry

module _ (decls : List Decl) (t : Ty) (old new : List Ty) (distinct : AreDistinct new) (grown : Grows old new)
    (before middle after : List ℕ) (within : AreWithin old before)
    (representation : Representation) (is : IsRepresentationOf decls new t representation) (entry : TypeEntry)
    (shapes : IsShapePlaced before middle representation.shape entry.shape)
    (heads : IsHeadPlaced middle after representation.head entry.head)
    (named : AreNamesAt decls representation.head entry.names) where
  abbrev numbers : List ℕ
  numbers = named_in representation.shape ++ parts_of representation.head

  in_shape : AreNumbers new (named_in representation.shape) (named_in (shape decls t))
  in_shape = shape_numbers new representation.shape (shape decls t) is.shape

  in_head : AreNumbers new (parts_of representation.head) (parts_of (head decls t))
  in_head = head_numbers new representation.head (head decls t) is.head

  these : types_at new numbers ≡ reached_from decls t
  these =
      map-append (type_at new) (named_in representation.shape) (parts_of representation.head)
      ∙ ap (λ (ts : List Ty). ts ++ types_at new (parts_of representation.head)) in_shape.are
      ∙ ap (λ (ts : List Ty). named_in (shape decls t) ++ ts) in_head.are

  found : MetAfter new before numbers
  found =
      met_after new distinct numbers before (within_more old new grown before within)
      (All-append (λ i. i < length new) (named_in representation.shape) (parts_of representation.head) in_shape.within in_head.within)

  all_met : after ≡ before ++ found.added
  all_met =
      heads.met ∙ ap (λ (ns : List ℕ). insert_all nat_eq ns (parts_of representation.head)) shapes.met
      ∙ sym (fold-append (insert_key nat_eq) before (named_in representation.shape) (parts_of representation.head)) ∙ found.kept

  all_within : AreWithin new after
  all_within =
      subst (λ (ns : List ℕ). AreWithin new ns) (sym all_met)
      (All-append (λ i. i < length new) before found.added (within_more old new grown before within) found.within)

  stayed : types_at new before ≡ types_at old before
  stayed = types_stay old new grown before within

  says : (all : List Ty) → Grows (types_at new after) all → SayTheSame after (slice_get all) (slice_get new)
  says all more = says_types new after all all_within more

  pub is_met : IsMet decls t old new before after entry
  is_met = record {
    within = all_within;
    is = record {
      added = types_at new found.added;
      kept = ap (types_at new) all_met ∙ map-append (type_at new) before found.added
          ∙ ap (λ (ts : List Ty). ts ++ types_at new found.added) stayed;
      new = subst (λ (ts : List Ty). IsWithoutRepeats ts (reached_from decls t) (types_at new found.added)) stayed
          (subst (λ (ts : List Ty). IsWithoutRepeats (types_at new before) ts (types_at new found.added)) these found.new);
      head = λ all more. heads.same (slice_get all) (slice_get new) (says all more) ∙ is.head;
      shape = λ all more.
          shapes.same (slice_get all) (slice_get new)
          (SayTheSame-before middle after (slice_get all) (slice_get new)
          (IsPlaced-grows (λ h. parts_of h) (λ f h. head_with_parts f h) middle after representation.head entry.head heads)
          (says all more))
          ∙ is.shape;
      names = named new t is.head;
    };
  }

pub placed_is_met :
    (decls : List Decl) (t : Ty) (old new : List Ty) → AreDistinct new → Grows old new → (before after : List ℕ) → AreWithin old before
    → (representation : Representation) → IsRepresentationOf decls new t representation → (entry : TypeEntry) → IsPlacedEntry decls before after representation entry
    → IsMet decls t old new before after entry
placed_is_met decls t old new distinct grown before after within representation is entry placed =
    is_met decls t old new distinct grown before placed.middle after within representation is entry placed.shape placed.head placed.names

-- ---- one more type

module _ (decls : List Decl) (t : Ty) (k : ℕ) (met : List Ty) (nodes : List (ShapeOf ℕ)) (tops : List (HeadOf ℕ)) (names : List Names)
    (was : IsListing decls t k met nodes tops names) (u : Ty) (next : slice_get met k ≡ Some u)
    (more : List Ty) (entry : TypeEntry) (is : IsEntry decls u met more entry) where
  within_met : k < length met
  within_met = slice_get_within met k u next

  grows : Grows met more
  grows = record { added = is.added; kept = is.kept }

  prefix : take (k + 1) more ≡ take k met ++ u ∷ []
  prefix =
      let here : slice_get more k ≡ Some u = there_kept met more k u grows next in
      take_more more k u (slice_get_within more k u here)
      ∙ ap (λ (w : Ty). take k more ++ w ∷ []) (get_or_from_slice_get more k u u here)
      ∙ ap (λ (ts : List Ty). take k ts ++ u ∷ []) is.kept
      ∙ ap (λ (ts : List Ty). ts ++ u ∷ []) (take-append-le k met is.added (omega (arith, within_met)))

  -- If `f` maps a prefix with one more element, the image of the element follows the images of the
  -- prefix.
  mapped : {X : Type 0} (f : Ty → X) → map f (take (k + 1) more) ≡ map f (take k met) ++ f u ∷ []
  mapped f = ap (map f) prefix ∙ map-append f (take k met) (u ∷ [])

  order : IsWithoutRepeats [] (t ∷ flat_map (reached_from decls) (take (k + 1) more)) more
  order =
      let then = repeats_then [] (t ∷ flat_map (reached_from decls) (take k met)) met (reached_from decls u) is.added was.in_order is.new in
      let same : flat_map (reached_from decls) (take k met) ++ reached_from decls u ≡ flat_map (reached_from decls) (take (k + 1) more) =
      sym (ap (flat_map (reached_from decls)) prefix ∙ one_more (reached_from decls) (take k met) u) in
      subst (λ (ts : List Ty). IsWithoutRepeats [] (t ∷ ts) more) same
      (subst (λ (ts : List Ty). IsWithoutRepeats [] (t ∷ (flat_map (reached_from decls) (take k met) ++ reached_from decls u)) ts) (sym is.kept) then)

  earlier : (j : ℕ) (w : Ty) → 0 < j → slice_get more j ≡ Some w → IsFromEarlier decls more j w
  earlier j w above there = ⊎_elim
      (λ old.
      let from = was.from_earlier j w above old in
      (from.0, from.1, from.2, there_kept met more from.0 from.1 grows from.3, from.4))
      (λ new. (
        k,
        u,
        omega (arith, new.0, within_met),
        there_kept met more k u grows next,
        repeats_among (reached_from decls u) met is.added is.new w new.1,
      ))
      (old_or_added met is.added j w (subst (λ (ts : List Ty). slice_get ts j ≡ Some w) is.kept there))

  pub one_listed :
      IsListing decls t (k + 1) more (nodes ++ entry.shape ∷ []) (tops ++ entry.head ∷ []) (names ++ entry.names ∷ [])
  one_listed = record {
    in_order = order;
    from_earlier = earlier;
    nodes = λ all later.
        map-append (with_parts (slice_get all)) nodes (entry.shape ∷ [])
        ∙ ap (λ (ss : List (ShapeOf (Option Ty))). ss ++ with_parts (slice_get all) entry.shape ∷ [])
        (was.nodes all (Grows-then met more all grows later))
        ∙ ap (λ (s : ShapeOf (Option Ty)). map (λ w. with_parts (λ (v : Ty). Some v) (shape decls w)) (take k met) ++ s ∷ []) (is.shape all later)
        ∙ sym (mapped (λ w. with_parts (λ (v : Ty). Some v) (shape decls w)));
    heads = λ all later.
        map-append (head_with_parts (slice_get all)) tops (entry.head ∷ [])
        ∙ ap (λ (hs : List (HeadOf (Option Ty))). hs ++ head_with_parts (slice_get all) entry.head ∷ [])
        (was.heads all (Grows-then met more all grows later))
        ∙ ap (λ (h : HeadOf (Option Ty)). map (λ w. head_with_parts (λ (v : Ty). Some v) (head decls w)) (take k met) ++ h ∷ []) (is.head all later)
        ∙ sym (mapped (λ w. head_with_parts (λ (v : Ty). Some v) (head decls w)));
    names = ap (λ (ns : List Names). ns ++ entry.names ∷ []) was.names
        ∙ ap (λ (n : Names). map (names_of decls) (take k met) ++ n ∷ []) is.names
        ∙ sym (mapped (names_of decls));
  }

-- If one more entry is appended to the shapes, heads and names, then the invariant of the listing
-- holds.
pub next_listed :
    (decls : List Decl) (t : Ty) (met : List Ty) (nodes : List (ShapeOf ℕ)) (tops : List (HeadOf ℕ)) (names : List Names)
    → IsListing decls t (length nodes) met nodes tops names
    → (u : Ty) → slice_get met (length nodes) ≡ Some u
    → (more : List Ty) (entry : TypeEntry) → IsEntry decls u met more entry
    → (shapes' : List (ShapeOf ℕ)) (tops' : List (HeadOf ℕ)) (names' : List Names)
    → shapes' ≡ nodes ++ entry.shape ∷ [] → tops' ≡ tops ++ entry.head ∷ [] → names' ≡ names ++ entry.names ∷ []
    → IsListing decls t (length shapes') more shapes' tops' names'
next_listed decls t met nodes tops names was u next more entry is shapes' tops' names' e f g =
    subst (λ (ns : List Names). IsListing decls t (length shapes') more shapes' tops' ns) (sym g)
    (subst (λ (hs : List (HeadOf ℕ)). IsListing decls t (length shapes') more shapes' hs (names ++ entry.names ∷ [])) (sym f)
    (subst (λ (ss : List (ShapeOf ℕ)). IsListing decls t (length ss) more ss (tops ++ entry.head ∷ []) (names ++ entry.names ∷ [])) (sym e)
    (subst (λ (k : ℕ). IsListing decls t k more (nodes ++ entry.shape ∷ []) (tops ++ entry.head ∷ []) (names ++ entry.names ∷ []))
    (sym (length_push nodes entry.shape))
    (one_listed decls t (length nodes) met nodes tops names was u next more entry is))))

-- ---- heads of the first types

-- If a prefix of a list has an element at an index, then the list has the same element at the same
-- index.
in_prefix : {X : Type 0} (xs : List X) (k i : ℕ) (x : X) → slice_get (take k xs) i ≡ Some x → slice_get xs i ≡ Some x
in_prefix xs zero i x is = absurd (none-some x is)
in_prefix [] (suc k) i x is = absurd (none-some x is)
in_prefix (y ∷ xs) (suc k) zero x is = is
in_prefix (y ∷ xs) (suc k) (suc i) x is = in_prefix xs k i x is

pub listed_heads :
    (decls : List Decl) (t : Ty) (k : ℕ) (types : List Ty) (numbers : List ℕ) (nodes : List (ShapeOf ℕ)) (tops : List (HeadOf ℕ)) (names : List Names)
    → AreWithin types numbers → IsListing decls t k (types_at types numbers) nodes tops names → AreFound decls types true numbers tops
listed_heads decls t k types numbers nodes tops names within is = record {
  within = within;
  are = λ position number tags at_number at_head.
      let met = types_at types numbers in
      let h = heads.Variants tags in
      let whole = λ (u : Ty). head_with_parts (λ (v : Ty). Some v) (head decls u) in
      let here =
      ap (λ (hs : List (HeadOf (Option Ty))). slice_get hs position) (sym (is.heads met (Grows-none met)))
      ∙ get-map (head_with_parts (slice_get met)) tops position h at_head in
      let found = map-slice_get whole (take k met) position (head_with_parts (slice_get met) h) here in
      let same = same_Some found.0 (type_at types number)
      (sym (in_prefix met k position found.0 found.1) ∙ get-map (type_at types) numbers position number at_number) in
      tags_of_head decls met (type_at types number) tags (sym found.2 ∙ ap whole same);
}

-- ---- the first type

pub first_listed : (decls : List Decl) (t : Ty) → IsListing decls t 0 (t ∷ []) [] [] []
first_listed decls t = record {
  in_order = inr (λ among. Contains-none t among, [], refl, refl);
  from_earlier = λ j u above there. absurd (only_first j u above there);
  nodes = λ all grown. refl;
  heads = λ all grown. refl;
  names = refl;
} where
  only_first : (j : ℕ) (u : Ty) → 0 < j → slice_get (t ∷ []) j ≡ Some u → ⊥
  only_first j u above there = omega (arith, slice_get_within (t ∷ []) j u there)

-- ---- too many

pub too_many :
    (decls : List Decl) (t : Ty) (k : ℕ) (met : List Ty) (nodes : List (ShapeOf ℕ)) (tops : List (HeadOf ℕ)) (names : List Names)
    → IsListing decls t k met nodes tops names → 65536 < length met → ReachesTooMany decls t
too_many decls t k met nodes tops names is many = record {
  types = met;
  many = many;
  distinct = repeats_distinct (t ∷ flat_map (reached_from decls) (take k met)) [] met is.in_order;
  reached = by;
} where
  first_of : (ts : List Ty) → IsWithoutRepeats [] (t ∷ ts) met → slice_get met 0 ≡ Some t
  first_of ts (inl again) = absurd (Contains-none t again.0)
  first_of ts (inr new) = ap (λ (us : List Ty). slice_get us 0) new.2

  first : slice_get met 0 ≡ Some t
  first = first_of (flat_map (reached_from decls) (take k met)) is.in_order

  by : (j : ℕ) (u : Ty) → slice_get met j ≡ Some u → (u ≡ t) ⊎ IsFromEarlier decls met j u
  by zero u here = inl (same_Some u t (sym here ∙ first))
  by (suc j) u there = inr (is.from_earlier (suc j) u (omega arith) there)

-- If `t` is the only discovered type and no entry exists, then the listing is a valid listing of
-- `t`.
pub first_types :
    (decls : List Decl) (t : Ty) (types : List Ty) (number : ℕ) (met : List ℕ) (nodes : List (ShapeOf ℕ)) (tops : List (HeadOf ℕ)) (names : List Names)
    → slice_get types number ≡ Some t → met ≡ number ∷ [] → nodes ≡ [] → tops ≡ [] → names ≡ []
    → IsListing decls t (length nodes) (types_at types met) nodes tops names
first_types decls t types number met nodes tops names there one e f g =
    let these : types_at types met ≡ t ∷ [] =
    ap (λ (ns : List ℕ). types_at types ns) one ∙ ap (λ (u : Ty). u ∷ []) (get_or_from_slice_get types number t tuple there) in
    subst (λ (ns : List Names). IsListing decls t (length nodes) (types_at types met) nodes tops ns) (sym g)
    (subst (λ (hs : List (HeadOf ℕ)). IsListing decls t (length nodes) (types_at types met) nodes hs []) (sym f)
    (subst (λ (ss : List (ShapeOf ℕ)). IsListing decls t (length ss) (types_at types met) ss [] []) (sym e)
    (subst (λ (ts : List Ty). IsListing decls t 0 ts [] [] []) (sym these) (first_listed decls t))))
