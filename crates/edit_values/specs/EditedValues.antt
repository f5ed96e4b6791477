-- The result of an edit for a value at its type, generic in representations and names: an edited
-- value, or the reason for a refusal. A value is a graph and a root.
use Rattle.std.specs.Prelude.{ℕ, ◌≡◌, Option, Some, None, Result, Ok, Err, List, [], ◌∷◌, ◌++◌}
use Rattle.std.specs.Prelude.{length, slice_get}
use Rattle.base_data.specs.declared.model.value.Val.{Val}
use Rattle.base_data.specs.declared.model.value.Val.TheVariants as vals
use Rattle.base_data.specs.declared.model.value.Obj.{Obj}
use Rattle.types_lex.specs.declared.lexeme.Lexeme.{Lexeme}
use Rattle.types_spec.specs.declared.types.fault.Fault.{Fault}
use Rattle.types_spec.specs.declared.types.names.Names.{Names}
use Rattle.types_spec.specs.declared.types.shape.ShapeOf.{ShapeOf}
use Rattle.types_spec.specs.types.Fitting.{shaped}
use Rattle.types_spec.specs.types.LeastFault.{IsLeastFault}
use Rattle.types_spec.specs.types.Typing.{HasType}
use Rattle.types_parse.specs.grammar.Refusals.{IsSyntax}
use Rattle.marshal_heap.specs.heap.Heap.{set_field}
use Rattle.text_literal.specs.literal_grammar.Literal.{Literal, literal_kinds}
use Rattle.types_parse.specs.grammar.LexemeKinds.{kinds_of}
use Rattle.text_literal.specs.parser.LiteralAnswers.{byte_of, in_bytes}
use Rattle.text_literal.specs.parser.LiteralReading.{LiteralRefusal, IsRead, IsRefused}
use Rattle.text_path.specs.declared.edits.Edit.{Edit}
use Rattle.text_path.specs.declared.edits.Edit.TheVariants as edits
use Rattle.edit_values.specs.declared.spots.Location.{Location}
use Rattle.edit_values.specs.declared.spots.Location.TheVariants as spots
use Rattle.edit_values.specs.declared.spots.TypedLocation.{TypedLocation}
use Rattle.edit_values.specs.declared.edit_refusal.EditSide.TheVariants.{Left, Right}
use Rattle.edit_values.specs.EditPositions.{position_at}
use Rattle.edit_values.specs.Reasons.{Reason, no_field, not_block, no_literal, misread, ill_typed}

-- An edited value, or the reason for a refusal.
abbrev pub EditAnswer : Type 0 → Type 0
EditAnswer T = Result (List Obj × Val) (Reason T)

-- The value after all lines; or the index of the first line that is refused, and the reason.
abbrev pub Edited : Type 0 → Type 0
Edited T = Result (List Obj × Val) (ℕ × Reason T)

-- The value with a new part at a location. The change is visible along every path that leads to the
-- location.
abbrev pub write_at : Location → Val → List Obj → Val → List Obj × Val
write_at spots.Root new graph root = (graph, new)
write_at (spots.Field o i) new graph root = (set_field graph o i new, root)

-- The object to which a value refers.
abbrev pub object_of : List Obj → Val → Option Obj
object_of graph (vals.Ref o) = slice_get graph o
object_of graph v = None

module _ {T : Type 0} where
  -- ---- `link`: the value at the second path

  abbrev pub linked : List Obj → Val → Result (TypedLocation T) ℕ → Result (TypedLocation T) ℕ
      → EditAnswer T
  linked graph root (Err step) source = Err (no_field Left step)
  linked graph root (Ok p) (Err step) = Err (no_field Right step)
  linked graph root (Ok p) (Ok source) = Ok (write_at p.spot source.value graph root)

  -- ---- `unshare`: a copy of the object, at the end of the graph

  abbrev pub copied : List Obj → Val → Location → Option Obj → EditAnswer T
  copied graph root spot None = Err not_block
  copied graph root spot (Some object) =
      Ok (write_at spot (vals.Ref (length graph)) (graph ++ object ∷ []) root)

  abbrev pub unshared : List Obj → Val → Result (TypedLocation T) ℕ → EditAnswer T
  unshared graph root (Err step) = Err (no_field Left step)
  unshared graph root (Ok p) = copied graph root p.spot (object_of graph p.value)

module _ {T : Type 0} (shape : T → ShapeOf T) (names : T → Names) where
  -- ---- `set`: the value of a literal, whose objects are at the end of the graph

  -- The lexemes are a literal that denotes this value at the type. `objects` are the value's
  -- objects, which follow `count` earlier objects.
  abbrev pub IsLiteral : T → List Lexeme → ℕ → List Obj → Val → Type 0
  IsLiteral t lexemes count objects value =
      (literal : Literal) × (literal_kinds literal ≡ kinds_of lexemes)
      × IsRead shape names literal t count value objects

  -- The lexemes are a literal that does not have the type.
  abbrev pub IsMisread : T → List Lexeme → ℕ → ℕ → LiteralRefusal T → Type 0
  IsMisread t lexemes end count refusal =
      (literal : Literal) × (at : LiteralRefusal T) × (literal_kinds literal ≡ kinds_of lexemes)
      × IsRefused shape names literal t count at
      × (refusal ≡ in_bytes lexemes end at)

  -- The lexemes are not a literal, because of the lexeme at this byte.
  abbrev pub IsNoLiteral : List Lexeme → ℕ → ℕ → Type 0
  IsNoLiteral lexemes end position =
      (k : ℕ) × IsSyntax literal_kinds (kinds_of lexemes) k × (position ≡ byte_of lexemes end k)

  -- The result of `set` at a location.
  abbrev pub IsSetAt : List Obj → Val → TypedLocation T → List Lexeme → ℕ → EditAnswer T → Type 0
  IsSetAt graph root p lexemes end (Ok made) =
      (objects : List Obj) × (value : Val) × IsLiteral p.ty lexemes (length graph) objects value
      × (made ≡ write_at p.spot value (graph ++ objects) root)
  IsSetAt graph root p lexemes end (Err (no_literal position)) = IsNoLiteral lexemes end position
  IsSetAt graph root p lexemes end (Err (misread refusal)) =
      IsMisread p.ty lexemes end (length graph) refusal
  IsSetAt graph root p lexemes end (Err reason) = ⊥

  abbrev pub IsSet : List Obj → Val → Result (TypedLocation T) ℕ → List Lexeme → ℕ → EditAnswer T
      → Type 0
  IsSet graph root (Err step) lexemes end made = made ≡ Err (no_field Left step)
  IsSet graph root (Ok p) lexemes end made = IsSetAt graph root p lexemes end made

  module _ (Equal : T → T → Type 0) (t : T) where
    abbrev pub position_in : List Obj → Val → List ℕ → Result (TypedLocation T) ℕ
    position_in graph root path = position_at (shaped shape Equal) graph root t path

    -- The result of an edit, without regard to whether the edited value has its type.
    abbrev pub IsMade : Edit → List Obj → Val → EditAnswer T → Type 0
    IsMade (edits.Set path lexemes end) graph root made =
        IsSet graph root (position_in graph root path) lexemes end made
    IsMade (edits.Link path source) graph root made =
        made ≡ linked graph root (position_in graph root path) (position_in graph root source)
    IsMade (edits.Unshare path) graph root made =
        made ≡ unshared graph root (position_in graph root path)

    -- The edit has a result, and the edited value has its type.
    pub record IsEdited (edit : Edit) (graph : List Obj) (root : Val) (edited : List Obj × Val)
        : Type 0 where
      pub made : IsMade edit graph root (Ok edited)
      pub typed : HasType (shaped shape Equal) edited.0 edited.1 t

    -- The edit has a result, but the edited value does not have its type. `fault` is the first
    -- fault of the edited value.
    pub record IsIllTyped (edit : Edit) (graph : List Obj) (root : Val) (fault : Fault)
        : Type 0 where
      pub edited : List Obj × Val
      pub made : IsMade edit graph root (Ok edited)
      pub least : IsLeastFault (shaped shape Equal) edited.0 edited.1 t fault

    -- The answer to an edit of a value at its type.
    abbrev pub IsAnswer : Edit → List Obj → Val → EditAnswer T → Type 0
    IsAnswer edit graph root (Ok edited) = IsEdited edit graph root edited
    IsAnswer edit graph root (Err (ill_typed fault)) = IsIllTyped edit graph root fault
    IsAnswer edit graph root (Err reason) = IsMade edit graph root (Err reason)
