-- The text of a value by a table of types equals the text by the types.
use Rattle.std.proofs.Common.{ℕ, ◌≡◌, ◌∙◌, ⊎_elim, ℤ, List, [], ◌∷◌, Option, Some, None, refl, ap, sym}
use Rattle.std.specs.Prelude.{map, slice_get, option_map, option_and_then, unwrap_or}
use Rattle.base_data.proofs.model.Options.{Contains-none}
use Rattle.base_data.specs.declared.model.value.Val.{Val}
use Rattle.base_data.specs.declared.model.value.Obj.{Obj}
use Rattle.base_data.specs.declared.model.value.Obj.TheVariants as objects
use Rattle.types_spec.specs.declared.types.decl.Decl.{Decl}
use Rattle.types_spec.specs.declared.types.names.Names.{Names}
use Rattle.types_spec.specs.declared.types.shape.ShapeOf.{ShapeOf}
use Rattle.types_spec.specs.declared.types.shape.ShapeOf.TheVariants as shapes
use Rattle.types_spec.specs.types.Ty.{Ty}
use Rattle.types_spec.specs.types.Equal.{Equal, declared_shapes}
use Rattle.types_spec.specs.types.Fault.{step, value_at}
use Rattle.types_spec.specs.types.Fitting.{shaped}
use Rattle.types_spec.specs.types.Names.{no_names, names_of}
use Rattle.types_spec.specs.types.Shape.{shape}
use Rattle.types_spec.specs.types.Table.{with_parts, node_or_none, table_shapes}
use Rattle.types_theory.proofs.equality.SimulationLemmas.{SamePosition, position_same}
use Rattle.types_theory.proofs.equality.EqualityTableLemmas.{slice_get-mapped, mapped_some, asked_at, fields_same, table_says}
use Rattle.types_table.specs.declared.type_table.tabled.Tabled.{Tabled}
use Rattle.types_table.specs.type_table.Made.{types_of, table_of, IsTypeTable}
use Rattle.text_print.specs.leaves.Frames.{Frame, frame_of, doubles_frame, int_text, double_text, object_text, row_text}
use Rattle.text_print.specs.show.Laws.{SameClass, ShowAgree}
use Rattle.text_print.specs.show.ShownValues.{shown_text, shown_at}
use Rattle.text_print.specs.show.TableShapes.{shape_in, names_in}
use Rattle.text_print.proofs.show.ShowAgreeLemmas.{SayAgree, shown_agree}

-- ---- texts of values without parts, and frames, do not depend on the types of parts

module _ {T U : Type 0} (f : T → U) (names : Names) where
  int_kept : (s : ShapeOf T) (z : ℤ) → int_text (with_parts f s) names z ≡ int_text s names z
  int_kept (shapes.Below many) z = refl
  int_kept (shapes.Sum constants blocks) z = refl
  int_kept (shapes.Poly tags) z = refl
  int_kept s z = refl

  frame_kept : (s : ShapeOf T) (tag : ℕ) (values : List Val)
      → frame_of (with_parts f s) names tag values ≡ frame_of s names tag values
  frame_kept (shapes.Sum constants blocks) tag values = refl
  frame_kept (shapes.Product mutable ts) tag values = refl
  frame_kept (shapes.Poly tags) tag values = refl
  frame_kept s tag values = refl

  doubles_kept : (s : ShapeOf T) → doubles_frame (with_parts f s) names ≡ doubles_frame s names
  doubles_kept (shapes.FlatFloats mutable n) = refl
  doubles_kept s = refl

  double_kept : (s : ShapeOf T) (bits : ℕ) → double_text (with_parts f s) bits ≡ double_text s bits
  double_kept (shapes.ArrayOfAnything t) bits = refl
  double_kept s bits = refl

  parts_kept : (s : ShapeOf T) (all : List ℕ) → map (double_text (with_parts f s)) all ≡ map (double_text s) all
  parts_kept s [] = refl
  parts_kept s (bits ∷ all) =
      ap (λ text. text ∷ map (double_text (with_parts f s)) all) (double_kept s bits)
      ∙ ap (λ rest. double_text s bits ∷ rest) (parts_kept s all)

  text_kept : (s : ShapeOf T) (object : Obj)
      → object_text (with_parts f s) names object ≡ object_text s names object
  text_kept s (objects.Doubles all) =
      ap (λ (frame : Frame). row_text frame (map (double_text (with_parts f s)) all)) (doubles_kept s)
      ∙ ap (row_text (doubles_frame s names)) (parts_kept s all)
  text_kept s object = refl

-- ---- the value at a path does not depend on which types are equal

module _ {T : Type 0} (shape : T → ShapeOf T) (Equal Other : T → T → Type 0) (graph : List Obj) where
  along_any : (path : List ℕ) (next : Option (Val × T))
      → ((v : Val) (t : T) → value_at (shaped shape Equal) graph v t path ≡ value_at (shaped shape Other) graph v t path)
      → option_and_then (λ (position : Val × T). value_at (shaped shape Equal) graph position.0 position.1 path) next
      ≡ option_and_then (λ (position : Val × T). value_at (shaped shape Other) graph position.0 position.1 path) next
  along_any path None same = refl
  along_any path (Some position) same = same position.0 position.1

  any_equality : (path : List ℕ) (v : Val) (t : T)
      → value_at (shaped shape Equal) graph v t path ≡ value_at (shaped shape Other) graph v t path
  any_equality [] v t = refl
  any_equality (i ∷ path) v t =
      along_any path (step (shaped shape Equal) graph v t i) (any_equality path)

-- ---- tables

module _ (decls : List Decl) (t : Ty) (table : Tabled) (is : IsTypeTable decls t table) where
  abbrev pub Is : ℕ → Ty → Type 0
  Is i u = slice_get (types_of table) i ≡ Some u

  -- The representation at a number is the representation of the type, with numbers for the types of
  -- parts.
  pub shape_is : (i : ℕ) (u : Ty) → Is i u
      → with_parts (slice_get (types_of table)) (shape_in table i) ≡ with_parts Some (shape decls u)
  shape_is i u at =
      let found = mapped_some (with_parts (slice_get (types_of table))) (slice_get table.nodes i)
      (with_parts Some (shape decls u))
      (sym (slice_get-mapped (with_parts (slice_get (types_of table))) table.nodes i)
      ∙ ap (λ all. slice_get all i) is.made.nodes
      ∙ slice_get-mapped (λ u. with_parts Some (shape decls u)) (types_of table) i
      ∙ ap (option_map (λ u. with_parts Some (shape decls u))) at) in
      ap (λ node. with_parts (slice_get (types_of table)) (node_or_none node)) found.1 ∙ found.2

  pub names_are : (i : ℕ) (u : Ty) → Is i u → names_in table i ≡ names_of decls u
  names_are i u at =
      ap (λ all. unwrap_or (slice_get all i) no_names) is.named
      ∙ ap (λ found. unwrap_or found no_names) (slice_get-mapped (names_of decls) (types_of table) i)
      ∙ ap (λ found. unwrap_or (option_map (names_of decls) found) no_names) at

  module _ (graph : List Obj) where
    ints : (i : ℕ) (u : Ty) → Is i u → (z : ℤ)
        → int_text (shape_in table i) (names_in table i) z ≡ int_text (shape decls u) (names_of decls u) z
    ints i u at z =
        ap (λ names. int_text (shape_in table i) names z) (names_are i u at)
        ∙ sym (int_kept (slice_get (types_of table)) (names_of decls u) (shape_in table i) z)
        ∙ ap (λ s. int_text s (names_of decls u) z) (shape_is i u at)
        ∙ int_kept Some (names_of decls u) (shape decls u) z

    frames : (i : ℕ) (u : Ty) → Is i u → (tag : ℕ) (values : List Val)
        → frame_of (shape_in table i) (names_in table i) tag values
        ≡ frame_of (shape decls u) (names_of decls u) tag values
    frames i u at tag values =
        ap (λ names. frame_of (shape_in table i) names tag values) (names_are i u at)
        ∙ sym (frame_kept (slice_get (types_of table)) (names_of decls u) (shape_in table i) tag values)
        ∙ ap (λ s. frame_of s (names_of decls u) tag values) (shape_is i u at)
        ∙ frame_kept Some (names_of decls u) (shape decls u) tag values

    texts : (i : ℕ) (u : Ty) → Is i u → (object : Obj)
        → object_text (shape_in table i) (names_in table i) object
        ≡ object_text (shape decls u) (names_of decls u) object
    texts i u at object =
        ap (λ names. object_text (shape_in table i) names object) (names_are i u at)
        ∙ sym (text_kept (slice_get (types_of table)) (names_of decls u) (shape_in table i) object)
        ∙ ap (λ s. object_text s (names_of decls u) object) (shape_is i u at)
        ∙ text_kept Some (names_of decls u) (shape decls u) object

    agree : SayAgree (shape_in table) (names_in table) (shape decls) (names_of decls) Is graph
    agree = record {
      ints = ints;
      frames = frames;
      texts = texts;
      asked = λ i u at. asked_at decls (types_of table) (table_of table) is.made i u at;
      fields = λ v i u at. fields_same decls (types_of table) (table_of table) is.made graph v i u at;
    }

    pub shown_same : (v : Val) (i : ℕ) (u : Ty) → Is i u
        → shown_text (shape_in table) (names_in table) graph v i ≡ shown_text (shape decls) (names_of decls) graph v u
    shown_same v i u at =
        shown_agree (shape_in table) (names_in table) (shape decls) (names_of decls) Is graph agree v i u at

    abbrev text_at : Val × ℕ → List ℕ
    text_at position = shown_text (shape_in table) (names_in table) graph position.0 position.1

    abbrev declared_text_at : Val × Ty → List ℕ
    declared_text_at position = shown_text (shape decls) (names_of decls) graph position.0 position.1

    positions_same : (p : Option (Val × ℕ)) (q : Option (Val × Ty))
        → SamePosition (table_shapes (table_of table)) (declared_shapes decls) Is graph p q
        → option_map text_at p ≡ option_map declared_text_at q
    positions_same None None positions = refl
    positions_same (Some p) (Some q) positions =
        ap Some (ap (λ w. shown_text (shape_in table) (names_in table) graph w p.1) positions.0
        ∙ shown_same q.0 p.1 q.1 positions.1)
    positions_same None (Some q) positions = absurd positions
    positions_same (Some p) None positions = absurd positions

    -- A part of a value has the same text at a number as at the number's type, for every choice of
    -- equal numbers and types.
    pub part_same : (Same : ℕ → ℕ → Type 0) (Same' : Ty → Ty → Type 0) (v : Val) (i : ℕ) (u : Ty)
        → Is i u → (path : List ℕ)
        → shown_at (shape_in table) (names_in table) graph Same v i path
        ≡ shown_at (shape decls) (names_of decls) graph Same' v u path
    part_same Same Same' v i u at path =
        ap (option_map text_at) (any_equality (shape_in table) Same
        (λ j k. slice_get table.classes j ≡ slice_get table.classes k) graph path v i)
        ∙ positions_same (value_at (table_shapes (table_of table)) graph v i path)
        (value_at (declared_shapes decls) graph v u path)
        (position_same (table_shapes (table_of table)) (declared_shapes decls) Is graph
        (table_says decls (types_of table) (table_of table) is.made graph) path v i u at)
        ∙ ap (option_map declared_text_at) (any_equality (shape decls) (Equal decls) Same' graph path v u)

  pub show_agree : (i : ℕ) (u : Ty) → Is i u → ShowAgree decls table i u
  show_agree i u at = record {
    whole = λ graph v. shown_same graph v i u at;
    part = λ graph v path. part_same graph (SameClass table) (Equal decls) v i u at path;
    plain_part = λ graph v path. part_same graph ◌≡◌ ◌≡◌ v i u at path;
  }

  -- The type that was asked for has number 0.
  root_is : Is 0 t
  root_is = ⊎_elim
      (λ seen. absurd (Contains-none t seen.0))
      (λ new. ap (λ all. slice_get all 0) new.2)
      is.reached.in_order

  pub root_agree : ShowAgree decls table 0 t
  root_agree = show_agree 0 t root_is
