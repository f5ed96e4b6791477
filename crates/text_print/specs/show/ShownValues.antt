-- The text of a value at a type, over any representations and names. The text visits the value
-- depth first, fields from left to right.
use Rattle.std.specs.Prelude.{ℕ, zero, suc, ◌+◌, if◌then◌else◌, List, [], ◌∷◌, ◌++◌, length}
use Rattle.std.specs.Prelude.{slice_get, codes}
use Rattle.std.specs.Prelude.{Option, Some, None, option_map, unwrap_or}
use Rattle.base_data.specs.declared.model.value.Val.{Val}
use Rattle.base_data.specs.declared.model.value.Val.TheVariants as vals
use Rattle.base_data.specs.declared.model.value.Obj.{Obj}
use Rattle.base_data.specs.declared.model.value.Obj.TheVariants as objects
use Rattle.types_spec.specs.declared.types.names.Names.{Names}
use Rattle.types_spec.specs.declared.types.shape.ShapeOf.{ShapeOf}
use Rattle.types_spec.specs.types.Fitting.{fields_of, or_none, is_asked, shaped}
use Rattle.types_spec.specs.types.Fault.{field_of, value_at}
use Rattle.text_print.specs.leaves.Frames.{Frame, frame_of, before_part, int_text, object_text}
use Rattle.text_print.specs.leaves.Frames.{wildcard_text}
use Rattle.text_print.specs.show.TextChunks.{TextChunk, Text, First, Again, has, text_of}

-- ---- a value as chunks

-- The chunks of the visited values, and the visited objects.
pub record Met : Type 0 where
  pub chunks : List TextChunk
  pub seen : List ℕ

abbrev pub met : List TextChunk → List ℕ → Met
met chunks seen = record { chunks = chunks; seen = seen }

abbrev pub led_by : List TextChunk → Met → Met
led_by prefix m = met (prefix ++ m.chunks) m.seen

module _ {T : Type 0} (shape : T → ShapeOf T) (names : T → Names) (graph : List Obj) where
  -- The chunks of the parts from index `i` on, in order. `meet` visits one value.
  abbrev pub parts_from : (List ℕ → Val → T → Met) → Frame → Val → ℕ → List (ℕ × T) → List ℕ → Met
  parts_from meet frame v i [] seen = met (Text frame.closing ∷ []) seen
  parts_from meet frame v i ((field, t) ∷ needs) seen =
      let one = meet seen (unwrap_or (field_of graph v field) v) t in
      led_by (Text (before_part frame i) ∷ one.chunks)
      (parts_from meet frame v (suc i) needs one.seen)

  -- The chunks of an object that is visited for the first time.
  abbrev pub object_met : (List ℕ → Val → T → Met) → List ℕ → ℕ → T → Option Obj → Met
  object_met meet seen o t None = met [] seen
  object_met meet seen o t (Some (objects.Block tag values)) =
      let frame = frame_of (shape t) (names t) tag values in
      led_by (First o ∷ Text frame.opening ∷ [])
      (parts_from meet frame (vals.Ref o) 0 (or_none (fields_of graph (vals.Ref o) (shape t))) seen)
  object_met meet seen o t (Some object) =
      met (First o ∷ Text (object_text (shape t) (names t) object) ∷ []) seen

  -- The chunks of a value whose type is not a wildcard.
  abbrev pub asked_met : (List ℕ → Val → T → Met) → List ℕ → Val → T → Met
  asked_met meet seen (vals.Int z) t = met (Text (int_text (shape t) (names t) z) ∷ []) seen
  asked_met meet seen (vals.Atom tag) t = met (Text (codes "[||]") ∷ []) seen
  asked_met meet seen (vals.Ref o) t =
      if has seen o then met (Again o ∷ []) seen
      else object_met meet (o ∷ seen) o t (slice_get graph o)

  -- The chunks of a value at a type, after the objects `seen` were visited, with at most `n` nested
  -- values. A value at a wildcard type is not visited.
  abbrev pub met_within : ℕ → List ℕ → Val → T → Met
  met_within zero seen v t = met [] seen
  met_within (suc n) seen v t =
      if is_asked (shape t) then asked_met (met_within n) seen v t
      else met (Text wildcard_text ∷ []) seen

  -- An object that is being visited is not entered again. Values therefore nest at most as deep as
  -- the number of objects plus one.
  abbrev pub chunks_of : Val → T → List TextChunk
  chunks_of v t = (met_within (length graph + 1) [] v t).chunks

  -- The text of a value at a type.
  unfoldable pub shown_text : Val → T → List ℕ
  shown_text v t = text_of (chunks_of v t)

  -- The text of the part at a path, or `None` if the path leads to no part.
  abbrev pub shown_at : (T → T → Type 0) → Val → T → List ℕ → Option (List ℕ)
  shown_at Equal v t path =
      option_map (λ position. shown_text position.0 position.1)
      (value_at (shaped shape Equal) graph v t path)
