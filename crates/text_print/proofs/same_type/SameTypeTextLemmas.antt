-- Isomorphic values have the same text.
use Rattle.std.proofs.Common.{ℕ, zero, suc, ◌+◌, ◌≡◌, ◌∙◌, Bool, true, false, cond, eqb, List, [], ◌∷◌, ◌++◌, length, Some, refl, sym, ap, subst, arith}
use Rattle.std.specs.Prelude.{if◌then◌else◌, slice_get, Contains, option_and_then, ◌||◌, ◌↔◌, unwrap_or, filter, codes, decimal}
use Rattle.std.specs.List.{AllZip, flat_map}
use Rattle.std.proofs.lemmas.Bool.{eqb-true, eqb-false, ne_eqb, eq-eqb}
use Rattle.base_data.specs.declared.model.value.Val.{Val}
use Rattle.base_data.specs.declared.model.value.Val.TheVariants as vals
use Rattle.base_data.specs.declared.model.value.Obj.{Obj}
use Rattle.base_data.specs.declared.model.value.Obj.TheVariants as objects
use Rattle.marshal_spec.specs.format.Isomorphism.{Agree, AgreeObjects, IsPairing, Isomorphism}
use Rattle.marshal_spec.proofs.canonical.IsomorphismLemmas.{objects_of_pair}
use Rattle.types_spec.specs.declared.types.names.Names.{Names}
use Rattle.types_spec.specs.declared.types.shape.ShapeOf.{ShapeOf}
use Rattle.types_spec.specs.declared.types.shape.ShapeOf.TheVariants as shapes
use Rattle.types_spec.specs.types.Fitting.{object_fields, fields_of, or_none, is_asked}
use Rattle.types_spec.specs.types.Fault.{field_of}
use Rattle.types_spec.specs.types.Typing.{values_of}
use Rattle.text_print.specs.leaves.Frames.{Frame, frame_of, tag_of_values, tag_text, listed, int_text, object_text, wildcard_text}
use Rattle.text_print.specs.show.TextChunks.{TextChunk, Text, First, Again, has, firsts, agains, labelled, number_in, label_text, chunk_text, text_of}
use Rattle.text_print.specs.show.ShownValues.{Met, met, met_within, object_met, parts_from, shown_text, asked_met}
use Rattle.text_print.proofs.show.FuelLemmas.{more_same}
use Rattle.text_print.proofs.same_type.KeptLemmas.{agree_object_fields}

-- ---- paired numbers

module _ (pairs : List (ℕ × ℕ)) (one_to_one : (k l m n : ℕ) → Contains pairs (k, l) → Contains pairs (m, n) → (k ≡ m) ↔ (l ≡ n)) where
  abbrev Paired : ℕ → ℕ → Type 0
  Paired o p = Contains pairs (o, p)

  eqb_agree : (x y o p : ℕ) → Paired x y → Paired o p → eqb x o ≡ eqb y p
  eqb_agree x y o p xy op = by_test (eqb x o) refl
    where
      by_test : (b : Bool) → eqb x o ≡ b → eqb x o ≡ eqb y p
      by_test true e = e ∙ sym (eq-eqb y p ((one_to_one x y o p xy op).0 (eqb-true x o e)))
      by_test false e = e ∙ sym (ne_eqb y p (λ same. eqb-false x o e ((one_to_one x y o p xy op).1 same)))

  has_agree : (xs ys : List ℕ) (o p : ℕ) → AllZip Paired xs ys → Paired o p → has xs o ≡ has ys p
  has_agree [] [] o p all op = refl
  has_agree [] (y ∷ ys) o p all op = absurd all
  has_agree (x ∷ xs) [] o p all op = absurd all
  has_agree (x ∷ xs) (y ∷ ys) o p all op = ap (λ b. b || has xs o) (eqb_agree x y o p all.0 op) ∙ ap (λ b. eqb y p || b) (has_agree xs ys o p all.1 op)

  number_agree : (xs ys : List ℕ) (o p : ℕ) → AllZip Paired xs ys → Paired o p → number_in xs o ≡ number_in ys p
  number_agree [] [] o p all op = refl
  number_agree [] (y ∷ ys) o p all op = absurd all
  number_agree (x ∷ xs) [] o p all op = absurd all
  number_agree (x ∷ xs) (y ∷ ys) o p all op = ap (λ b. cond b 0 (suc (number_in xs o))) (eqb_agree x y o p all.0 op) ∙ ap (λ n. cond (eqb y p) 0 (suc n)) (number_agree xs ys o p all.1 op)

  filter_agree : (us ws xs ys : List ℕ) → AllZip Paired us ws → AllZip Paired xs ys → AllZip Paired (filter (has us) xs) (filter (has ws) ys)
  filter_agree us ws [] [] all other = tt
  filter_agree us ws [] (y ∷ ys) all other = absurd other
  filter_agree us ws (x ∷ xs) [] all other = absurd other
  filter_agree us ws (x ∷ xs) (y ∷ ys) all other = by_test (has us x) refl (filter_agree us ws xs ys all other.1)
    where
      by_test : (b : Bool) → has us x ≡ b → AllZip Paired (filter (has us) xs) (filter (has ws) ys) → AllZip Paired (cond (has us x) (x ∷ filter (has us) xs) (filter (has us) xs)) (cond (has ws y) (y ∷ filter (has ws) ys) (filter (has ws) ys))
      by_test true e rest = let f : has ws y ≡ true = sym (has_agree us ws x y all other.0) ∙ e in rw (e, f) (other.0, rest)
      by_test false e rest = let f : has ws y ≡ false = sym (has_agree us ws x y all other.0) ∙ e in rw (e, f) rest

  -- ---- chunks

  abbrev ChunksAgree : TextChunk → TextChunk → Type 0
  ChunksAgree (Text b) (Text c) = b ≡ c
  ChunksAgree (First o) (First p) = Paired o p
  ChunksAgree (Again o) (Again p) = Paired o p
  ChunksAgree one other = ⊥

  abbrev AllAgree : List TextChunk → List TextChunk → Type 0
  AllAgree ps qs = AllZip ChunksAgree ps qs

  firsts_agree : (ps qs : List TextChunk) → AllAgree ps qs → AllZip Paired (firsts ps) (firsts qs)
  firsts_agree [] [] all = tt
  firsts_agree [] (q ∷ qs) all = absurd all
  firsts_agree (p ∷ ps) [] all = absurd all
  firsts_agree (Text b ∷ ps) (Text c ∷ qs) all = firsts_agree ps qs all.1
  firsts_agree (First o ∷ ps) (First p ∷ qs) all = (all.0, firsts_agree ps qs all.1)
  firsts_agree (Again o ∷ ps) (Again p ∷ qs) all = firsts_agree ps qs all.1
  firsts_agree (p ∷ ps) (q ∷ qs) all = absurd all.0

  agains_agree : (ps qs : List TextChunk) → AllAgree ps qs → AllZip Paired (agains ps) (agains qs)
  agains_agree [] [] all = tt
  agains_agree [] (q ∷ qs) all = absurd all
  agains_agree (p ∷ ps) [] all = absurd all
  agains_agree (Text b ∷ ps) (Text c ∷ qs) all = agains_agree ps qs all.1
  agains_agree (First o ∷ ps) (First p ∷ qs) all = agains_agree ps qs all.1
  agains_agree (Again o ∷ ps) (Again p ∷ qs) all = (all.0, agains_agree ps qs all.1)
  agains_agree (p ∷ ps) (q ∷ qs) all = absurd all.0

  label_agree : (xs ys : List ℕ) (o p : ℕ) → AllZip Paired xs ys → Paired o p → label_text xs o ≡ label_text ys p
  label_agree xs ys o p all op = ap (λ n. codes "#" ++ decimal n) (number_agree xs ys o p all op)

  chunk_agree : (xs ys : List ℕ) → AllZip Paired xs ys → (p q : TextChunk) → ChunksAgree p q → chunk_text xs p ≡ chunk_text ys q
  chunk_agree xs ys all (Text b) (Text c) same = same
  chunk_agree xs ys all (First o) (First p) op =
      ap (λ b. cond b (label_text xs o ++ codes "=") []) (has_agree xs ys o p all op) ∙ ap (λ l. cond (has ys p) (l ++ codes "=") []) (label_agree xs ys o p all op)
  chunk_agree xs ys all (Again o) (Again p) op = label_agree xs ys o p all op
  chunk_agree xs ys all p q op = absurd op

  chunks_text : (xs ys : List ℕ) → AllZip Paired xs ys → (ps qs : List TextChunk) → AllAgree ps qs → flat_map (chunk_text xs) ps ≡ flat_map (chunk_text ys) qs
  chunks_text xs ys all [] [] other = refl
  chunks_text xs ys all [] (q ∷ qs) other = absurd other
  chunks_text xs ys all (p ∷ ps) [] other = absurd other
  chunks_text xs ys all (p ∷ ps) (q ∷ qs) other = ap (λ t. t ++ flat_map (chunk_text xs) ps) (chunk_agree xs ys all p q other.0) ∙ ap (λ t. chunk_text ys q ++ t) (chunks_text xs ys all ps qs other.1)

  text_agree : (ps qs : List TextChunk) → AllAgree ps qs → text_of ps ≡ text_of qs
  text_agree ps qs all =
      chunks_text (labelled ps) (labelled qs) (filter_agree (agains ps) (agains qs) (firsts ps) (firsts qs) (agains_agree ps qs all) (firsts_agree ps qs all)) ps qs all

  chunks_both : (ps qs rs ss : List TextChunk) → AllAgree ps qs → AllAgree rs ss → AllAgree (ps ++ rs) (qs ++ ss)
  chunks_both [] [] rs ss one other = other
  chunks_both [] (q ∷ qs) rs ss one other = absurd one
  chunks_both (p ∷ ps) [] rs ss one other = absurd one
  chunks_both (p ∷ ps) (q ∷ qs) rs ss one other = (one.0, chunks_both ps qs rs ss one.1 other)

  -- ---- values

  record AreMetAgree (m n : Met) : Type 0 where
    chunks : AllAgree m.chunks n.chunks
    seen : AllZip Paired m.seen n.seen

  tag_agree : (vs ws : List Val) → AllZip (Agree pairs) vs ws → tag_of_values vs ≡ tag_of_values ws
  tag_agree [] [] all = refl
  tag_agree [] (w ∷ ws) all = absurd all
  tag_agree (v ∷ vs) [] all = absurd all
  tag_agree (vals.Int x ∷ vs) (vals.Int y ∷ ws) all = all.0
  tag_agree (vals.Int x ∷ vs) (vals.Atom y ∷ ws) all = absurd all.0
  tag_agree (vals.Int x ∷ vs) (vals.Ref y ∷ ws) all = absurd all.0
  tag_agree (vals.Atom x ∷ vs) (vals.Int y ∷ ws) all = absurd all.0
  tag_agree (vals.Atom x ∷ vs) (vals.Atom y ∷ ws) all = refl
  tag_agree (vals.Atom x ∷ vs) (vals.Ref y ∷ ws) all = absurd all.0
  tag_agree (vals.Ref x ∷ vs) (vals.Int y ∷ ws) all = absurd all.0
  tag_agree (vals.Ref x ∷ vs) (vals.Atom y ∷ ws) all = absurd all.0
  tag_agree (vals.Ref x ∷ vs) (vals.Ref y ∷ ws) all = refl

  field_agree : (vs ws : List Val) (i : ℕ) (v w : Val) → AllZip (Agree pairs) vs ws → Agree pairs v w → Agree pairs (unwrap_or (slice_get vs i) v) (unwrap_or (slice_get ws i) w)
  field_agree [] [] i v w all vw = vw
  field_agree [] (y ∷ ys) i v w all vw = absurd all
  field_agree (x ∷ xs) [] i v w all vw = absurd all
  field_agree (x ∷ xs) (y ∷ ys) zero v w all vw = all.0
  field_agree (x ∷ xs) (y ∷ ys) (suc i) v w all vw = field_agree xs ys i v w all.1 vw

  module _ {T : Type 0} (shape : T → ShapeOf T) (names : T → Names) (g h : List Obj) (pairing : IsPairing g h pairs) where
    frame_agree : (s : ShapeOf T) (nm : Names) (tag : ℕ) (vs ws : List Val) → AllZip (Agree pairs) vs ws → frame_of s nm tag vs ≡ frame_of s nm tag ws
    frame_agree (shapes.Sum constants blocks) nm tag vs ws all = refl
    frame_agree (shapes.Product mutable ts) nm tag vs ws all = refl
    frame_agree (shapes.Poly tags) nm tag vs ws all = ap (λ z. listed (tag_text nm z)) (tag_agree vs ws all)
    frame_agree s nm tag vs ws all = refl

    abbrev MeetAgree : ℕ → Type 0
    MeetAgree n = (seen seen' : List ℕ) (v w : Val) (t : T) → AllZip Paired seen seen' → Agree pairs v w → AreMetAgree (met_within shape names g n seen v t) (met_within shape names h n seen' w t)

    parts_agree : (n : ℕ) → MeetAgree n → (frame : Frame) (k l : ℕ) (vs ws : List Val) → Paired k l → AllZip (Agree pairs) vs ws
        → ((i : ℕ) → field_of g (vals.Ref k) i ≡ slice_get vs i) → ((i : ℕ) → field_of h (vals.Ref l) i ≡ slice_get ws i)
        → (needs : List (ℕ × T)) (i : ℕ) (seen seen' : List ℕ) → AllZip Paired seen seen'
        → AreMetAgree (parts_from shape names g (met_within shape names g n) frame (vals.Ref k) i needs seen) (parts_from shape names h (met_within shape names h n) frame (vals.Ref l) i needs seen')
    parts_agree n meet frame k l vs ws kl all at_g at_h [] i seen seen' both = record { chunks = (refl, tt); seen = both }
    parts_agree n meet frame k l vs ws kl all at_g at_h ((f, t) ∷ needs) i seen seen' both =
        let agree : Agree pairs (unwrap_or (field_of g (vals.Ref k) f) (vals.Ref k)) (unwrap_or (field_of h (vals.Ref l) f) (vals.Ref l)) =
        subst (λ o. Agree pairs (unwrap_or o (vals.Ref k)) (unwrap_or (field_of h (vals.Ref l) f) (vals.Ref l))) (sym (at_g f))
        (subst (λ o. Agree pairs (unwrap_or (slice_get vs f) (vals.Ref k)) (unwrap_or o (vals.Ref l))) (sym (at_h f)) (field_agree vs ws f (vals.Ref k) (vals.Ref l) all kl)) in
        let one = meet seen seen' _ _ t both agree in
        let rest = parts_agree n meet frame k l vs ws kl all at_g at_h needs (suc i) _ _ one.seen in
        record { chunks = (refl, chunks_both _ _ _ _ one.chunks rest.chunks); seen = rest.seen }

    object_agree : (n : ℕ) → MeetAgree n → (seen seen' : List ℕ) (k l : ℕ) (t : T) → AllZip Paired seen seen' → Paired k l → (a b : Obj) → slice_get g k ≡ Some a → slice_get h l ≡ Some b → AgreeObjects pairs a b
        → AreMetAgree (object_met shape names g (met_within shape names g n) seen k t (Some a)) (object_met shape names h (met_within shape names h n) seen' l t (Some b))
    object_agree n meet seen seen' k l t both kl (objects.Block tag vs) (objects.Block tag' ws) at_g at_h agree =
        let needs : or_none (fields_of g (vals.Ref k) (shape t)) ≡ or_none (fields_of h (vals.Ref l) (shape t)) =
        ap or_none (ap (option_and_then (object_fields (shape t))) at_g ∙ agree_object_fields pairs (shape t) (objects.Block tag vs) (objects.Block tag' ws) agree ∙ sym (ap (option_and_then (object_fields (shape t))) at_h)) in
        let frames : frame_of (shape t) (names t) tag vs ≡ frame_of (shape t) (names t) tag' ws = ap (λ n. frame_of (shape t) (names t) n vs) agree.0 ∙ frame_agree (shape t) (names t) tag' vs ws agree.1 in
        let parts = parts_agree n meet (frame_of (shape t) (names t) tag' ws) k l vs ws kl agree.1 (λ i. ap (option_and_then (λ object. slice_get (values_of object) i)) at_g) (λ i. ap (option_and_then (λ object. slice_get (values_of object) i)) at_h)
        (or_none (fields_of h (vals.Ref l) (shape t))) 0 seen seen' both in
        let moved : AreMetAgree (parts_from shape names g (met_within shape names g n) (frame_of (shape t) (names t) tag vs) (vals.Ref k) 0 (or_none (fields_of g (vals.Ref k) (shape t))) seen) (parts_from shape names h (met_within shape names h n) (frame_of (shape t) (names t) tag' ws) (vals.Ref l) 0 (or_none (fields_of h (vals.Ref l) (shape t))) seen') =
        subst (λ ns. AreMetAgree (parts_from shape names g (met_within shape names g n) (frame_of (shape t) (names t) tag vs) (vals.Ref k) 0 ns seen) (parts_from shape names h (met_within shape names h n) (frame_of (shape t) (names t) tag' ws) (vals.Ref l) 0 (or_none (fields_of h (vals.Ref l) (shape t))) seen')) (sym needs)
        (subst (λ f. AreMetAgree (parts_from shape names g (met_within shape names g n) f (vals.Ref k) 0 (or_none (fields_of h (vals.Ref l) (shape t))) seen) (parts_from shape names h (met_within shape names h n) (frame_of (shape t) (names t) tag' ws) (vals.Ref l) 0 (or_none (fields_of h (vals.Ref l) (shape t))) seen')) (sym frames) parts) in
        record { chunks = (kl, (ap (λ (f : Frame). f.opening) frames, moved.chunks)); seen = moved.seen }
    object_agree n meet seen seen' k l t both kl (objects.Block tag vs) b at_g at_h agree = absurd agree
    object_agree n meet seen seen' k l t both kl (objects.Bytes x) b at_g at_h agree = subst (λ b. AreMetAgree (met (First k ∷ Text (object_text (shape t) (names t) (objects.Bytes x)) ∷ []) seen) (object_met shape names h (met_within shape names h n) seen' l t (Some b))) agree (record { chunks = (kl, (refl, tt)); seen = both })
    object_agree n meet seen seen' k l t both kl (objects.Double x) b at_g at_h agree = subst (λ b. AreMetAgree (met (First k ∷ Text (object_text (shape t) (names t) (objects.Double x)) ∷ []) seen) (object_met shape names h (met_within shape names h n) seen' l t (Some b))) agree (record { chunks = (kl, (refl, tt)); seen = both })
    object_agree n meet seen seen' k l t both kl (objects.Doubles x) b at_g at_h agree = subst (λ b. AreMetAgree (met (First k ∷ Text (object_text (shape t) (names t) (objects.Doubles x)) ∷ []) seen) (object_met shape names h (met_within shape names h n) seen' l t (Some b))) agree (record { chunks = (kl, (refl, tt)); seen = both })
    object_agree n meet seen seen' k l t both kl (objects.I32 x) b at_g at_h agree = subst (λ b. AreMetAgree (met (First k ∷ Text (object_text (shape t) (names t) (objects.I32 x)) ∷ []) seen) (object_met shape names h (met_within shape names h n) seen' l t (Some b))) agree (record { chunks = (kl, (refl, tt)); seen = both })
    object_agree n meet seen seen' k l t both kl (objects.I64 x) b at_g at_h agree = subst (λ b. AreMetAgree (met (First k ∷ Text (object_text (shape t) (names t) (objects.I64 x)) ∷ []) seen) (object_met shape names h (met_within shape names h n) seen' l t (Some b))) agree (record { chunks = (kl, (refl, tt)); seen = both })
    object_agree n meet seen seen' k l t both kl (objects.Native x) b at_g at_h agree = subst (λ b. AreMetAgree (met (First k ∷ Text (object_text (shape t) (names t) (objects.Native x)) ∷ []) seen) (object_met shape names h (met_within shape names h n) seen' l t (Some b))) agree (record { chunks = (kl, (refl, tt)); seen = both })

    -- ---- by the bound on nested values

    abbrev asked_left : ℕ → List ℕ → Val → T → Met
    asked_left n = asked_met shape names g (met_within shape names g n)

    abbrev asked_right : ℕ → List ℕ → Val → T → Met
    asked_right n = asked_met shape names h (met_within shape names h n)

    ref_agree : (n : ℕ) → MeetAgree n → (seen seen' : List ℕ) (k l : ℕ) (t : T) → AllZip Paired seen seen' → Paired k l → AreMetAgree (asked_left n seen (vals.Ref k) t) (asked_right n seen' (vals.Ref l) t)
    ref_agree n meet seen seen' k l t both kl = by_test (has seen k) refl
      where
        by_test : (b : Bool) → has seen k ≡ b → AreMetAgree (asked_left n seen (vals.Ref k) t) (asked_right n seen' (vals.Ref l) t)
        by_test true e = let f : has seen' l ≡ true = sym (has_agree seen seen' k l both kl) ∙ e in rw (e, f) (record { chunks = (kl, tt); seen = both })
        by_test false e =
            let f : has seen' l ≡ false = sym (has_agree seen seen' k l both kl) ∙ e in
            let o = objects_of_pair g h pairs k l pairing kl in
            let m = object_agree n meet (k ∷ seen) (l ∷ seen') k l t (kl, both) kl o.left o.right o.left_is o.right_is o.agree in
            rw (e, f, o.left_is, o.right_is) m

    asked_agree : (n : ℕ) → MeetAgree n → (seen seen' : List ℕ) (v w : Val) (t : T) → AllZip Paired seen seen' → Agree pairs v w → AreMetAgree (asked_left n seen v t) (asked_right n seen' w t)
    asked_agree n meet seen seen' (vals.Int x) (vals.Int y) t both agree = record { chunks = (ap (int_text (shape t) (names t)) agree, tt); seen = both }
    asked_agree n meet seen seen' (vals.Int x) (vals.Atom y) t both agree = absurd agree
    asked_agree n meet seen seen' (vals.Int x) (vals.Ref y) t both agree = absurd agree
    asked_agree n meet seen seen' (vals.Atom x) (vals.Int y) t both agree = absurd agree
    asked_agree n meet seen seen' (vals.Atom x) (vals.Atom y) t both agree = record { chunks = (refl, tt); seen = both }
    asked_agree n meet seen seen' (vals.Atom x) (vals.Ref y) t both agree = absurd agree
    asked_agree n meet seen seen' (vals.Ref x) (vals.Int y) t both agree = absurd agree
    asked_agree n meet seen seen' (vals.Ref x) (vals.Atom y) t both agree = absurd agree
    asked_agree n meet seen seen' (vals.Ref x) (vals.Ref y) t both agree = ref_agree n meet seen seen' x y t both agree

    meet_agree : (n : ℕ) → MeetAgree n
    meet_agree zero seen seen' v w t both agree = record { chunks = tt; seen = both }
    meet_agree (suc n) seen seen' v w t both agree = by_test (is_asked (shape t)) (asked_agree n (meet_agree n) seen seen' v w t both agree)
      where
        by_test : (b : Bool) → AreMetAgree (asked_left n seen v t) (asked_right n seen' w t)
            → AreMetAgree (if b then asked_left n seen v t else met (Text wildcard_text ∷ []) seen) (if b then asked_right n seen' w t else met (Text wildcard_text ∷ []) seen')
        by_test true own = own
        by_test false own = record { chunks = (refl, tt); seen = both }

    -- The texts of two isomorphic values are equal.
    shown_agree : (v w : Val) (t : T) → Agree pairs v w → shown_text shape names g v t ≡ shown_text shape names h w t
    unfolding shown_text
    shown_agree v w t agree =
        let more : length g + 1 + (length h + 1) ≡ length h + 1 + (length g + 1) = omega arith in
        let left : met_within shape names g (length g + 1 + (length h + 1)) [] v t ≡ met_within shape names g (length g + 1) [] v t = more_same shape names g (length h + 1) v t in
        let right : met_within shape names h (length h + 1 + (length g + 1)) [] w t ≡ met_within shape names h (length h + 1) [] w t = more_same shape names h (length g + 1) w t in
        let m = meet_agree (length g + 1 + (length h + 1)) [] [] v w t tt agree in
        ap (λ (m : Met). text_of m.chunks) (sym left) ∙ text_agree _ _ m.chunks ∙ ap (λ n. text_of (met_within shape names h n [] w t).chunks) more ∙ ap (λ (m : Met). text_of m.chunks) right

-- Isomorphic values have the same text, for all types, representations and names.
pub text_is_kept :
    {T : Type 0} (shape : T → ShapeOf T) (names : T → Names) (g h : List Obj) (v w : Val) (t : T) → Isomorphism g v h w
    → shown_text shape names g v t ≡ shown_text shape names h w t
text_is_kept shape names g h v w t (pairs, pairing, agree) = shown_agree pairs pairing.one_to_one shape names g h pairing v w t agree
