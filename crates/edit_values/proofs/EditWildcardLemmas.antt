-- An edit or a graft changes at most one earlier object: an object to which a path leads.
use Rattle.std.proofs.Common.{ℕ, zero, suc, ◌≡◌, ◌≢◌, ◌∙◌, List, [], ◌∷◌, ◌++◌, length, set, Option, Some, None, Result, Ok, Err, refl, ap, sym, subst}
use Rattle.std.specs.Prelude.{slice_get, option_map, option_and_then, ⊤}
use Rattle.base_data.specs.declared.model.value.Val.{Val}
use Rattle.base_data.specs.declared.model.value.Val.TheVariants as vals
use Rattle.base_data.specs.declared.model.value.Obj.{Obj}
use Rattle.base_data.proofs.model.Lists.{slice_get-append_left}
use Rattle.types_lex.specs.declared.lexeme.Lexeme.{Lexeme}
use Rattle.types_spec.specs.declared.types.decl.Decl.{Decl}
use Rattle.types_spec.specs.declared.types.names.Names.{Names}
use Rattle.types_spec.specs.declared.types.shape.ShapeOf.{ShapeOf}
use Rattle.types_spec.specs.types.Shapes.{Shapes}
use Rattle.types_spec.specs.types.Fault.{step, value_at}
use Rattle.types_spec.specs.types.Fitting.{shaped}
use Rattle.types_spec.specs.types.Equal.{Equal}
use Rattle.types_spec.specs.types.Names.{names_of}
use Rattle.types_spec.specs.types.Shape.{shape}
use Rattle.types_spec.specs.types.Ty.{Ty}
use Rattle.marshal_heap.specs.heap.Heap.{object_at, with_field}
use Rattle.text_path.specs.declared.edits.Edit.{Edit}
use Rattle.text_path.specs.declared.edits.Edit.TheVariants as edits
use Rattle.text_path.specs.declared.edits.Action.{Action}
use Rattle.text_path.specs.declared.edits.Action.TheVariants as actions
use Rattle.text_path.specs.declared.edits.ScriptLine.{ScriptLine}
use Rattle.edit_values.specs.declared.spots.Location.{Location}
use Rattle.edit_values.specs.declared.spots.Location.TheVariants as spots
use Rattle.edit_values.specs.declared.spots.TypedLocation.{TypedLocation}
use Rattle.edit_values.specs.declared.edit_refusal.EditSide.TheVariants.{Left}
use Rattle.edit_values.specs.Reasons.{no_field}
use Rattle.edit_values.specs.EditPositions.{spot_after, or_step, position_from, position_at}
use Rattle.edit_values.specs.EditedLines.{IsLineAnswer}
use Rattle.edit_values.specs.EditedValues.{EditAnswer, Edited, write_at, linked, object_of, copied, unshared, position_in, IsSet, IsMade}
use Rattle.edit_values.specs.Grafts.{Other, IsGraft}
use Rattle.edit_values.specs.Laws.{AreDeclaredEdits}
use Rattle.edit_values.specs.WildcardLaws.{IsUnreached, IsNeverReached}

-- ---- lists

set_elsewhere : {X : Type 0} (xs : List X) (p k : ℕ) (new : X) → p ≢ k → slice_get (set xs p new) k ≡ slice_get xs k
set_elsewhere [] p k new other = refl
set_elsewhere (x ∷ xs) zero zero new other = absurd (other refl)
set_elsewhere (x ∷ xs) zero (suc k) new other = refl
set_elsewhere (x ∷ xs) (suc p) zero new other = refl
set_elsewhere (x ∷ xs) (suc p) (suc k) new other = set_elsewhere xs p k new (λ same. other (ap suc same))

-- ---- locations

module _ {T : Type 0} (shapes : Shapes T) (graph : List Obj) (o : ℕ) where
  -- The location is not a field of the object.
  abbrev IsElsewhere : Location → Type 0
  IsElsewhere spots.Root = ⊤
  IsElsewhere (spots.Field p i) = p ≢ o

  spot_elsewhere : (v : Val) (t : T) (i : ℕ) → IsUnreached shapes graph o v t → IsElsewhere (spot_after v i)
  spot_elsewhere (vals.Int z) t i unreached = tt
  spot_elsewhere (vals.Atom tag) t i unreached = tt
  spot_elsewhere (vals.Ref p) t i unreached = λ same. unreached [] t (ap (λ q. Some (vals.Ref q, t)) same)

  -- If no path from a value leads to an object, then no path from the next value leads to the
  -- object.
  step_unreached : (v : Val) (t : T) (i : ℕ) (next : Val × T) → step shapes graph v t i ≡ Some next → IsUnreached shapes graph o v t
      → IsUnreached shapes graph o next.0 next.1
  step_unreached v t i next is unreached path u leads =
      unreached (i ∷ path) u (ap (option_and_then (λ (next : Val × T). value_at shapes graph next.0 next.1 path)) is ∙ leads)

  on_elsewhere : (v : Val) (i n : ℕ) (q : TypedLocation T) (go : TypedLocation T → Result (TypedLocation T) ℕ) (o' : Option (Val × T))
      → ((next : Val × T) → o' ≡ Some next → go (record { spot = spot_after v i; value = next.0; ty = next.1 }) ≡ Ok q → IsElsewhere q.spot)
      → or_step n go (option_map (λ (next : Val × T). record { spot = spot_after v i; value = next.0; ty = next.1 }) o') ≡ Ok q
      → IsElsewhere q.spot
  on_elsewhere v i n q go None rest is = absurd (never n q is) where
    never : (n : ℕ) (q : TypedLocation T) → ◌≡◌ {A = Result (TypedLocation T) ℕ} (Err n) (Ok q) → ⊥
    never n q is = cc
  on_elsewhere v i n q go (Some next) rest is = rest next refl is

  from_elsewhere : (path : List ℕ) (n : ℕ) (p q : TypedLocation T) → IsElsewhere p.spot → IsUnreached shapes graph o p.value p.ty
      → position_from shapes graph n p path ≡ Ok q → IsElsewhere q.spot
  from_elsewhere [] n p q here unreached is = subst (λ (x : TypedLocation T). IsElsewhere x.spot) (inside p q is) here where
    inside : (a b : TypedLocation T) → ◌≡◌ {A = Result (TypedLocation T) ℕ} (Ok a) (Ok b) → a ≡ b
    inside a b is = cc
  from_elsewhere (i ∷ path) n p q here unreached is =
      on_elsewhere p.value i n q (λ next. position_from shapes graph (suc n) next path) (step shapes graph p.value p.ty i)
      (λ next at there. from_elsewhere path (suc n) _ q (spot_elsewhere p.value p.ty i unreached)
      (step_unreached p.value p.ty i next at unreached) there)
      is

  position_elsewhere : (root : Val) (t : T) (path : List ℕ) (q : TypedLocation T) → IsUnreached shapes graph o root t
      → position_at shapes graph root t path ≡ Ok q → IsElsewhere q.spot
  position_elsewhere root t path q unreached is = from_elsewhere path 0 _ q tt unreached is

  -- ---- new parts

  write_elsewhere : (spot : Location) (new : Val) (all : List Obj) (root : Val) (object : Obj) → IsElsewhere spot → slice_get all o ≡ Some object
      → slice_get (write_at spot new all root).0 o ≡ Some object
  write_elsewhere spots.Root new all root object elsewhere at = at
  write_elsewhere (spots.Field p i) new all root object elsewhere at =
      set_elsewhere all p o (with_field (object_at all p) i new) elsewhere ∙ at

-- ---- edits

made_inside : {T : Type 0} (one other : List Obj × Val) → ◌≡◌ {A = EditAnswer T} (Ok one) (Ok other) → one ≡ other
made_inside one other is = cc

module _ {T : Type 0} (shape : T → ShapeOf T) (names : T → Names) (Equal : T → T → Type 0) (t : T) (graph : List Obj) (root : Val) (o : ℕ) (object : Obj)
    (at : slice_get graph o ≡ Some object) (unreached : IsUnreached (shaped shape Equal) graph o root t) (edited : List Obj × Val) where
  abbrev Kept : List Obj × Val → Type 0
  Kept made = slice_get made.0 o ≡ Some object

  elsewhere : (path : List ℕ) (q : TypedLocation T) → position_in shape names Equal t graph root path ≡ Ok q → IsElsewhere (shaped shape Equal) graph o q.spot
  elsewhere path q is = position_elsewhere (shaped shape Equal) graph o root t path q unreached is

  kept_by : (spot : Location) (new : Val) (all : List Obj) → IsElsewhere (shaped shape Equal) graph o spot → slice_get all o ≡ Some object → edited ≡ write_at spot new all root
      → Kept edited
  kept_by spot new all there kept is = subst Kept (sym is) (write_elsewhere (shaped shape Equal) graph o spot new all root object there kept)

  set_keeps : (p : Result (TypedLocation T) ℕ) → ((q : TypedLocation T) → p ≡ Ok q → IsElsewhere (shaped shape Equal) graph o q.spot)
      → (lexemes : List Lexeme) (end : ℕ) → IsSet shape names graph root p lexemes end (Ok edited) → Kept edited
  set_keeps (Err step) there lexemes end is = absurd (never step edited is) where
    never : (step : ℕ) (edited : List Obj × Val) → ◌≡◌ {A = EditAnswer T} (Ok edited) (Err (no_field Left step)) → ⊥
    never step edited is = cc
  set_keeps (Ok q) there lexemes end (objects, value, literal, is) =
      kept_by q.spot value (graph ++ objects) (there q refl) (slice_get-append_left graph objects o object at) is

  link_keeps : (p source : Result (TypedLocation T) ℕ) → ((q : TypedLocation T) → p ≡ Ok q → IsElsewhere (shaped shape Equal) graph o q.spot)
      → Ok edited ≡ linked graph root p source → Kept edited
  link_keeps (Err step) source there is = absurd cc
  link_keeps (Ok q) (Err step) there is = absurd cc
  link_keeps (Ok q) (Ok source) there is =
      kept_by q.spot source.value graph (there q refl) at (made_inside {T = T} edited (write_at q.spot source.value graph root) is)

  copy_keeps : (spot : Location) (found : Option Obj) → IsElsewhere (shaped shape Equal) graph o spot
      → Ok edited ≡ copied {T = T} graph root spot found → Kept edited
  copy_keeps spot None there is = absurd cc
  copy_keeps spot (Some copy) there is =
      kept_by spot (vals.Ref (length graph)) (graph ++ copy ∷ []) there (slice_get-append_left graph (copy ∷ []) o object at)
      (made_inside {T = T} edited (write_at spot (vals.Ref (length graph)) (graph ++ copy ∷ []) root) is)

  unshare_keeps : (p : Result (TypedLocation T) ℕ) → ((q : TypedLocation T) → p ≡ Ok q → IsElsewhere (shaped shape Equal) graph o q.spot)
      → Ok edited ≡ unshared graph root p → Kept edited
  unshare_keeps (Err step) there is = absurd cc
  unshare_keeps (Ok q) there is = copy_keeps q.spot (object_of graph q.value) (there q refl) is

  pub edit_keeps : (edit : Edit) → IsMade shape names Equal t edit graph root (Ok edited) → Kept edited
  edit_keeps (edits.Set path lexemes end) is = set_keeps (position_in shape names Equal t graph root path) (elsewhere path) lexemes end is
  edit_keeps (edits.Link path source) is =
      link_keeps (position_in shape names Equal t graph root path) (position_in shape names Equal t graph root source) (elsewhere path) is
  edit_keeps (edits.Unshare path) is = unshare_keeps (position_in shape names Equal t graph root path) (elsewhere path) is

  graft_keeps : (p : Result (TypedLocation T) ℕ) → ((q : TypedLocation T) → p ≡ Ok q → IsElsewhere (shaped shape Equal) graph o q.spot)
      → (from : List Obj) (part : Result (TypedLocation T) ℕ) → IsGraft graph root p from part (Ok edited) → Kept edited
  graft_keeps (Err step) there from part is = absurd cc
  graft_keeps (Ok q) there from (Err step) is = absurd cc
  graft_keeps (Ok q) there from (Ok part) (objects, value, copy, is) =
      kept_by q.spot value (graph ++ objects) (there q refl) (slice_get-append_left graph objects o object at) is

  pub line_keeps : (others : List Other) (action : Action) → IsLineAnswer shape names Equal t others action graph root (Ok edited) → Kept edited
  line_keeps others (actions.Edit edit) is = edit_keeps edit is.made
  line_keeps others (actions.Graft path number source) (other, at, grafted) =
      graft_keeps (position_at (shaped shape Equal) graph root t path) (λ q. position_elsewhere (shaped shape Equal) graph o root t path q unreached)
      other.0 (position_at (shaped shape Equal) other.0 other.1 t source) grafted.0

-- ---- lines

module _ (decls : List Decl) (t : Ty) (others : List Other) (o : ℕ) (object : Obj) where
  pub lines_keep : (lines : List ScriptLine) (graph : List Obj) (root : Val) (edited : List Obj × Val)
      → AreDeclaredEdits decls t others lines graph root (Ok edited) → slice_get graph o ≡ Some object
      → IsNeverReached decls t others o lines graph root → slice_get edited.0 o ≡ Some object
  lines_keep [] graph root edited is at unreached =
      subst (λ (made : List Obj × Val). slice_get made.0 o ≡ Some object) (sym (made_inside {T = Ty} edited (graph, root) (whole edited graph root is))) at where
        whole : (edited : List Obj × Val) (graph : List Obj) (root : Val) → ◌≡◌ {A = Edited Ty} (Ok edited) (Ok (graph, root))
            → ◌≡◌ {A = EditAnswer Ty} (Ok edited) (Ok (graph, root))
        whole edited graph root is = cc
  lines_keep (line ∷ lines) graph root edited (Err reason, first, is) at unreached = absurd cc
  lines_keep (line ∷ lines) graph root edited (Ok made, first, rest) at unreached =
      lines_keep lines made.0 made.1 edited rest
      (line_keeps (shape decls) (names_of decls) (Equal decls) t graph root o object at unreached.0 made others line.action first)
      (unreached.1 made first)
