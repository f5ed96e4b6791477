-- Values never nest deeper than the number of objects plus one. A larger bound therefore changes
-- nothing.
use Rattle.std.proofs.Common.{ℕ, zero, suc, ◌+◌, ◌<◌, ◌≤◌, ◌≡◌, ◌∙◌, List, [], ◌∷◌, length, Bool, true, false, ◌||◌, Option, Some, None, refl, ap, sym, subst, arith}
use Rattle.std.specs.Prelude.{if◌then◌else◌, slice_get, unwrap_or, ◌==◌}
use Rattle.std.proofs.lemmas.Bool.{false≢true}
use Rattle.std.proofs.lemmas.Bool.Decides.{Decides-eqb}
use Rattle.std.proofs.lemmas.Option.{slice_get_within}
use Rattle.base_data.specs.declared.model.value.Val.{Val}
use Rattle.base_data.specs.declared.model.value.Val.TheVariants as vals
use Rattle.base_data.specs.declared.model.value.Obj.{Obj}
use Rattle.base_data.specs.declared.model.value.Obj.TheVariants as objects
use Rattle.types_spec.specs.declared.types.names.Names.{Names}
use Rattle.types_spec.specs.declared.types.shape.ShapeOf.{ShapeOf}
use Rattle.types_spec.specs.types.Fitting.{fields_of, or_none, is_asked}
use Rattle.types_spec.specs.types.Fault.{field_of}
use Rattle.text_print.specs.leaves.Frames.{Frame, frame_of, before_part, wildcard_text}
use Rattle.text_print.specs.show.TextChunks.{Text, First, Again, has}
use Rattle.text_print.specs.show.ShownValues.{Met, met, led_by, parts_from, object_met, met_within, asked_met}

-- ---- objects not yet visited

-- The number of unvisited objects among the first `k` objects.
abbrev pub unmet : ℕ → List ℕ → ℕ
unmet zero seen = 0
unmet (suc k) seen = if has seen k then unmet k seen else suc (unmet k seen)

one_more : (k : ℕ) (seen : List ℕ) (o : ℕ) (again here : Bool) → unmet k (o ∷ seen) ≤ unmet k seen
    → (if again || here then unmet k (o ∷ seen) else suc (unmet k (o ∷ seen)))
    ≤ (if here then unmet k seen else suc (unmet k seen))
one_more k seen o true true less = less
one_more k seen o true false less = omega (arith, less)
one_more k seen o false true less = less
one_more k seen o false false less = omega (arith, less)

-- If one more object is visited, then the number of unvisited objects does not grow.
pub unmet_after : (k : ℕ) (seen : List ℕ) (o : ℕ) → unmet k (o ∷ seen) ≤ unmet k seen
unmet_after zero seen o = omega arith
unmet_after (suc k) seen o = one_more k seen o (o == k) (has seen k) (unmet_after k seen o)

one_less : (k : ℕ) (seen : List ℕ) (o : ℕ) (again here : Bool) → (again ≡ true → here ≡ false)
    → (again ≡ false → unmet k (o ∷ seen) < unmet k seen) → unmet k (o ∷ seen) ≤ unmet k seen
    → (if again || here then unmet k (o ∷ seen) else suc (unmet k (o ∷ seen)))
    < (if here then unmet k seen else suc (unmet k seen))
one_less k seen o true true new later less = absurd (false≢true (sym (new refl)))
one_less k seen o true false new later less = omega (arith, less)
one_less k seen o false true new later less = later refl
one_less k seen o false false new later less = let fewer = later refl in omega (arith, fewer)

-- If an unvisited object is visited, then the number of unvisited objects shrinks.
pub unmet_less : (k : ℕ) (seen : List ℕ) (o : ℕ) → o < k → has seen o ≡ false → unmet k (o ∷ seen) < unmet k seen
unmet_less zero seen o below new = absurd (omega (arith, below))
unmet_less (suc k) seen o below new =
    one_less k seen o (o == k) (has seen k)
    (λ same. subst (λ j. has seen j ≡ false) ((Decides-eqb o k).0 same) new)
    (λ other. unmet_less k seen o (lower other) new) (unmet_after k seen o) where
      lower : (o == k) ≡ false → o < k
      lower other =
          let unlike : ¬ (o ≡ k) = λ same. false≢true (sym other ∙ (Decides-eqb o k).1 same) in
          omega (arith, unlike, below)

pub unmet_few : (k : ℕ) (seen : List ℕ) → unmet k seen ≤ k
unmet_few zero seen = omega arith
unmet_few (suc k) seen = by (has seen k) (unmet_few k seen) where
  by : (here : Bool) → unmet k seen ≤ k → (if here then unmet k seen else suc (unmet k seen)) ≤ suc k
  by true few = omega (arith, few)
  by false few = omega (arith, few)

module _ {T : Type 0} (shape : T → ShapeOf T) (names : T → Names) (graph : List Obj) where
  abbrev left : List ℕ → ℕ
  left seen = unmet (length graph) seen

  -- ---- visited objects stay visited

  -- If a value is visited by `meet`, then the number of unvisited objects does not grow.
  abbrev Keeps : (List ℕ → Val → T → Met) → Type 0
  Keeps meet = (seen : List ℕ) (v : Val) (t : T) → left (meet seen v t).seen ≤ left seen

  module _ (meet : List ℕ → Val → T → Met) (keeps : Keeps meet) where
    parts_keep : (frame : Frame) (v : Val) (i : ℕ) (needs : List (ℕ × T)) (seen : List ℕ)
        → left (parts_from shape names graph meet frame v i needs seen).seen ≤ left seen
    parts_keep frame v i [] seen = omega arith
    parts_keep frame v i (need ∷ needs) seen =
        let part : Val = unwrap_or (field_of graph v need.0) v in
        let one = keeps seen part need.1 in
        let rest = parts_keep frame v (suc i) needs (meet seen part need.1).seen in
        omega (arith, one, rest)

    object_keeps : (seen : List ℕ) (o : ℕ) (t : T) (object : Option Obj)
        → left (object_met shape names graph meet seen o t object).seen ≤ left seen
    object_keeps seen o t None = omega arith
    object_keeps seen o t (Some (objects.Block tag values)) =
        parts_keep (frame_of (shape t) (names t) tag values) (vals.Ref o) 0
        (or_none (fields_of graph (vals.Ref o) (shape t))) seen
    object_keeps seen o t (Some object) = omega arith

  either_keeps : (test : Bool) (one other : Met) (bound : ℕ) → left one.seen ≤ bound → left other.seen ≤ bound
      → left (if test then one else other).seen ≤ bound
  either_keeps true one other bound first second = first
  either_keeps false one other bound first second = second

  asked_keeps : (meet : List ℕ → Val → T → Met) → Keeps meet → Keeps (asked_met shape names graph meet)
  asked_keeps meet keeps seen (vals.Int z) t = omega arith
  asked_keeps meet keeps seen (vals.Atom tag) t = omega arith
  asked_keeps meet keeps seen (vals.Ref o) t =
      let inside = object_keeps meet keeps (o ∷ seen) o t (slice_get graph o) in
      let new = unmet_after (length graph) seen o in
      either_keeps (has seen o) (met (Again o ∷ []) seen)
      (object_met shape names graph meet (o ∷ seen) o t (slice_get graph o)) (left seen)
      (omega arith) (omega (arith, inside, new))

  within_keeps : (n : ℕ) → Keeps (met_within shape names graph n)
  within_keeps zero seen v t = omega arith
  within_keeps (suc n) seen v t =
      either_keeps (is_asked (shape t)) (asked_met shape names graph (met_within shape names graph n) seen v t)
      (met (Text wildcard_text ∷ []) seen) (left seen)
      (asked_keeps (met_within shape names graph n) (within_keeps n) seen v t) (omega arith)

  -- ---- two bounds that are large enough

  module _ (meet meet' : List ℕ → Val → T → Met) (keeps : Keeps meet) (bound : ℕ)
      (same : (seen : List ℕ) (v : Val) (t : T) → left seen < bound → meet seen v t ≡ meet' seen v t) where
    parts_same : (frame : Frame) (v : Val) (i : ℕ) (needs : List (ℕ × T)) (seen : List ℕ) → left seen < bound
        → parts_from shape names graph meet frame v i needs seen
        ≡ parts_from shape names graph meet' frame v i needs seen
    parts_same frame v i [] seen few = refl
    parts_same frame v i (need ∷ needs) seen few =
        let part : Val = unwrap_or (field_of graph v need.0) v in
        let one : Met = meet seen part need.1 in
        let kept = keeps seen part need.1 in
        ap (led_by (Text (before_part frame i) ∷ one.chunks))
        (parts_same frame v (suc i) needs one.seen (omega (arith, kept, few)))
        ∙ ap (λ (first : Met). led_by (Text (before_part frame i) ∷ first.chunks)
        (parts_from shape names graph meet' frame v (suc i) needs first.seen))
        (same seen part need.1 few)

    object_same : (seen : List ℕ) (o : ℕ) (t : T) (object : Option Obj)
        → ((found : Obj) → object ≡ Some found → left seen < bound)
        → object_met shape names graph meet seen o t object ≡ object_met shape names graph meet' seen o t object
    object_same seen o t None few = refl
    object_same seen o t (Some (objects.Block tag values)) few =
        let frame : Frame = frame_of (shape t) (names t) tag values in
        ap (led_by (First o ∷ Text frame.opening ∷ []))
        (parts_same frame (vals.Ref o) 0 (or_none (fields_of graph (vals.Ref o) (shape t))) seen
        (few (objects.Block tag values) refl))
    object_same seen o t (Some object) few = refl

  either_same : (test : Bool) (met_again one other : Met) → (test ≡ false → one ≡ other)
      → (if test then met_again else one) ≡ (if test then met_again else other)
  either_same true met_again one other same = refl
  either_same false met_again one other same = same refl

  asked_same : (meet meet' : List ℕ → Val → T → Met) → Keeps meet → (seen : List ℕ)
      → ((after : List ℕ) (v : Val) (t : T) → left after < left seen → meet after v t ≡ meet' after v t)
      → (v : Val) (t : T) → asked_met shape names graph meet seen v t ≡ asked_met shape names graph meet' seen v t
  asked_same meet meet' keeps seen same (vals.Int z) t = refl
  asked_same meet meet' keeps seen same (vals.Atom tag) t = refl
  asked_same meet meet' keeps seen same (vals.Ref o) t =
      either_same (has seen o) (met (Again o ∷ []) seen)
      (object_met shape names graph meet (o ∷ seen) o t (slice_get graph o))
      (object_met shape names graph meet' (o ∷ seen) o t (slice_get graph o))
      (λ new. object_same meet meet' keeps (left seen) same (o ∷ seen) o t (slice_get graph o)
      (λ found at. unmet_less (length graph) seen o (slice_get_within graph o found at) new))

  -- If two bounds exceed the number of unvisited objects, then the bounds give the same chunks.
  pub within_same : (n m : ℕ) (seen : List ℕ) (v : Val) (t : T) → left seen < n → left seen < m
      → met_within shape names graph n seen v t ≡ met_within shape names graph m seen v t
  within_same zero m seen v t few few' = absurd (omega (arith, few))
  within_same (suc n) zero seen v t few few' = absurd (omega (arith, few'))
  within_same (suc n) (suc m) seen v t few few' =
      ap (λ (one : Met). if is_asked (shape t) then one else met (Text wildcard_text ∷ []) seen)
      (asked_same (met_within shape names graph n) (met_within shape names graph m) (within_keeps n) seen
      (λ after v' t' fewer. within_same n m after v' t' (omega (arith, fewer, few)) (omega (arith, fewer, few')))
      v t)

  pub more_same : (more : ℕ) (v : Val) (t : T) → met_within shape names graph (length graph + 1 + more) [] v t
      ≡ met_within shape names graph (length graph + 1) [] v t
  more_same more v t =
      let few = unmet_few (length graph) [] in
      within_same (length graph + 1 + more) (length graph + 1) [] v t (omega (arith, few)) (omega (arith, few))
