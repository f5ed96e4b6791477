-- If two types have equivalent representations and names, part by part, then a value has the same
-- text at each of the two types.
use Rattle.std.proofs.Common.{ℕ, zero, suc, ◌+◌, ◌≡◌, ◌∙◌, ℤ, List, [], ◌∷◌, length, Option, Some, None, refl, ap}
use Rattle.std.specs.Prelude.{if◌then◌else◌, slice_get, unwrap_or}
use Rattle.base_data.specs.declared.model.value.Val.{Val}
use Rattle.base_data.specs.declared.model.value.Val.TheVariants as vals
use Rattle.base_data.specs.declared.model.value.Obj.{Obj}
use Rattle.base_data.specs.declared.model.value.Obj.TheVariants as objects
use Rattle.types_spec.specs.declared.types.names.Names.{Names}
use Rattle.types_spec.specs.declared.types.shape.ShapeOf.{ShapeOf}
use Rattle.types_spec.specs.types.Fitting.{fields_of, or_none, is_asked}
use Rattle.types_spec.specs.types.Fault.{field_of}
use Rattle.types_theory.proofs.equality.NeedAgreement.{NeedsAgree, FieldsAgree}
use Rattle.text_print.specs.leaves.Frames.{Frame, frame_of, before_part, int_text, object_text, wildcard_text}
use Rattle.text_print.specs.show.TextChunks.{Text, First, Again, has, text_of}
use Rattle.text_print.specs.show.ShownValues.{Met, met, led_by, parts_from, object_met, asked_met, met_within, shown_text}

module _ {T U : Type 0} (shape : T → ShapeOf T) (names : T → Names) (shape' : U → ShapeOf U)
    (names' : U → Names) (Of : T → U → Type 0) (graph : List Obj) where
  -- Texts of values without parts, frames, and typed fields agree.
  pub record SayAgree : Type 0 where
    pub ints : (t : T) (u : U) → Of t u → (z : ℤ) → int_text (shape t) (names t) z ≡ int_text (shape' u) (names' u) z
    pub frames : (t : T) (u : U) → Of t u → (tag : ℕ) (values : List Val)
        → frame_of (shape t) (names t) tag values ≡ frame_of (shape' u) (names' u) tag values
    pub texts : (t : T) (u : U) → Of t u → (object : Obj)
        → object_text (shape t) (names t) object ≡ object_text (shape' u) (names' u) object
    pub asked : (t : T) (u : U) → Of t u → is_asked (shape t) ≡ is_asked (shape' u)
    pub fields : (v : Val) (t : T) (u : U) → Of t u
        → FieldsAgree Of (fields_of graph v (shape t)) (fields_of graph v (shape' u))

  abbrev MeetAgree : (List ℕ → Val → T → Met) → (List ℕ → Val → U → Met) → Type 0
  MeetAgree meet meet' =
      (seen : List ℕ) (v : Val) (t : T) (u : U) → Of t u → meet seen v t ≡ meet' seen v u

  needs_agree : (ns : Option (List (ℕ × T))) (ms : Option (List (ℕ × U))) → FieldsAgree Of ns ms
      → NeedsAgree Of (or_none ns) (or_none ms)
  needs_agree None None agree = tt
  needs_agree (Some ns) (Some ms) agree = agree
  needs_agree None (Some ms) agree = absurd agree
  needs_agree (Some ns) None agree = absurd agree

  module _ (meet : List ℕ → Val → T → Met) (meet' : List ℕ → Val → U → Met)
      (matching : MeetAgree meet meet') where
    parts_agree : (frame : Frame) (v : Val) (i : ℕ) (ns : List (ℕ × T)) (ms : List (ℕ × U)) (seen : List ℕ)
        → NeedsAgree Of ns ms → parts_from shape names graph meet frame v i ns seen
        ≡ parts_from shape' names' graph meet' frame v i ms seen
    parts_agree frame v i [] [] seen agree = refl
    parts_agree frame v i [] (m ∷ ms) seen agree = absurd agree
    parts_agree frame v i (n ∷ ns) [] seen agree = absurd agree
    parts_agree frame v i (n ∷ ns) (m ∷ ms) seen agree =
        let part : ℕ → Val = λ k. unwrap_or (field_of graph v k) v in
        let after : Met = meet' seen (part m.0) m.1 in
        let first : meet seen (part n.0) n.1 ≡ after =
        matching seen (part n.0) n.1 m.1 agree.1 ∙ ap (λ k. meet' seen (part k) m.1) agree.0 in
        ap (λ (one : Met). led_by (Text (before_part frame i) ∷ one.chunks)
        (parts_from shape names graph meet frame v (suc i) ns one.seen)) first
        ∙ ap (led_by (Text (before_part frame i) ∷ after.chunks))
        (parts_agree frame v (suc i) ns ms after.seen agree.2)

    module _ (same : SayAgree) where
      object_agree : (seen : List ℕ) (o : ℕ) (t : T) (u : U) → Of t u → (object : Option Obj)
          → object_met shape names graph meet seen o t object
          ≡ object_met shape' names' graph meet' seen o u object
      object_agree seen o t u of None = refl
      object_agree seen o t u of (Some (objects.Block tag values)) =
          let v : Val = vals.Ref o in
          let frame : Frame = frame_of (shape' u) (names' u) tag values in
          ap (λ (f : Frame). led_by (First o ∷ Text f.opening ∷ [])
          (parts_from shape names graph meet f v 0 (or_none (fields_of graph v (shape t))) seen))
          (same.frames t u of tag values)
          ∙ ap (led_by (First o ∷ Text frame.opening ∷ []))
          (parts_agree frame v 0 (or_none (fields_of graph v (shape t)))
          (or_none (fields_of graph v (shape' u))) seen
          (needs_agree (fields_of graph v (shape t)) (fields_of graph v (shape' u))
          (same.fields v t u of)))
      object_agree seen o t u of (Some object) =
          ap (λ text. met (First o ∷ Text text ∷ []) seen) (same.texts t u of object)

  module _ (same : SayAgree) where
    value_agree : (meet : List ℕ → Val → T → Met) (meet' : List ℕ → Val → U → Met) → MeetAgree meet meet'
        → (seen : List ℕ) (v : Val) (t : T) (u : U) → Of t u
        → asked_met shape names graph meet seen v t ≡ asked_met shape' names' graph meet' seen v u
    value_agree meet meet' matching seen (vals.Int z) t u of =
        ap (λ text. met (Text text ∷ []) seen) (same.ints t u of z)
    value_agree meet meet' matching seen (vals.Atom tag) t u of = refl
    value_agree meet meet' matching seen (vals.Ref o) t u of =
        ap (λ (m : Met). if has seen o then met (Again o ∷ []) seen else m)
        (object_agree meet meet' matching same (o ∷ seen) o t u of (slice_get graph o))

    within_agree : (n : ℕ) → MeetAgree (met_within shape names graph n) (met_within shape' names' graph n)
    within_agree zero seen v t u of = refl
    within_agree (suc n) seen v t u of =
        ap (λ test. if test then asked_met shape names graph (met_within shape names graph n) seen v t
        else met (Text wildcard_text ∷ []) seen) (same.asked t u of)
        ∙ ap (λ (m : Met). if is_asked (shape' u) then m else met (Text wildcard_text ∷ []) seen)
        (value_agree (met_within shape names graph n) (met_within shape' names' graph n) (within_agree n)
        seen v t u of)

    pub shown_agree : (v : Val) (t : T) (u : U) → Of t u
        → shown_text shape names graph v t ≡ shown_text shape' names' graph v u
    unfolding shown_text
    shown_agree v t u of =
        ap (λ (m : Met). text_of m.chunks) (within_agree (length graph + 1) [] v t u of)
