-- A table and the types of which it was made agree about trees.
use Rattle.std.proofs.Common.{ℕ, ◌≡◌, ◌∙◌, ◌⊎◌, inl, inr, Bool, false, List, [], ◌∷◌, length, map, Option, Some, None, refl, sym, ap, arith}
use Rattle.std.specs.Prelude.{slice_get, option_map}
use Rattle.std.proofs.lemmas.List.{length-map}
use Rattle.std.proofs.lemmas.Option.{slice_get_within}
use Rattle.base_data.proofs.model.Options.{slice_get-Contains, slice_get_there, none_or_some}
use Rattle.base_data.specs.declared.model.value.Val.{Val}
use Rattle.base_data.specs.declared.model.value.Obj.{Obj}
use Rattle.types_spec.specs.declared.types.decl.Decl.{Decl}
use Rattle.types_spec.specs.declared.types.shape.Constr.{Constr}
use Rattle.types_spec.specs.declared.types.shape.ShapeOf.{ShapeOf}
use Rattle.types_spec.specs.declared.types.shape.ShapeOf.TheVariants as shapes
use Rattle.types_spec.specs.types.WellFormed.{AreWellFormed, IsSoundType}
use Rattle.types_spec.specs.types.Equal.{Equal}
use Rattle.types_spec.specs.types.Names.{names_of}
use Rattle.types_spec.specs.types.Shape.{shape}
use Rattle.types_spec.specs.types.Table.{constr_with, with_parts, node_or_none}
use Rattle.types_spec.specs.types.Ty.{Ty}
use Rattle.types_theory.proofs.equality.EqualitySoundLemmas.{known_by_hash}
use Rattle.types_theory.proofs.equality.EqualityTableLemmas.{slice_get-mapped, mapped_some, table_says, types_say}
use Rattle.types_theory.proofs.table.TableDecideLemmas.{root_is_first}
use Rattle.types_table.specs.declared.type_table.tabled.Tabled.{Tabled}
use Rattle.types_table.specs.type_table.Made.{types_of, table_of, IsTypeTable}
use Rattle.trees.specs.declared.search_trees.tree_verdict.TreeVerdict.{TreeVerdict}
use Rattle.trees.specs.search_trees.Laws.{IsVerdictOf}
use Rattle.trees.specs.search_trees.TreeType.{IsTreeType, IsTreeNumber, SameClass, shape_in, names_in, names_or_none, names_with, field_names, layout_of, fields_in, tree_shape}
use Rattle.trees.proofs.search_trees.SearchTreeAgreeLemmas.{tree_too}
use Rattle.trees.specs.value_verdict.TreeTable.{IsTreeTable, IsTableVerdict}
use Rattle.trees.proofs.value_verdict.SameLemmas.{nodes_go, verdict_on}

-- ---- shapes that are equal except for their parts

module _ {T U V : Type 0} (f : T → V) (g : U → V) where
  any_int_of : (s : ShapeOf U) → shapes.AnyInt ≡ with_parts g s → s ≡ shapes.AnyInt
  any_int_of shapes.AnyInt is = refl
  any_int_of s is = absurd (cc)

  bytes_of : (s : ShapeOf U) (b : Bool) → shapes.Bytes b ≡ with_parts g s → s ≡ shapes.Bytes b
  bytes_of (shapes.Bytes c) b is = let same : b ≡ c = cc in ap shapes.Bytes (sym same)
  bytes_of s b is = absurd (cc)

  -- The fields are the fields of a node, except for the types of the parts.
  record AreFields (fields : List U) (l e : T) (d : Option T) (r h : T) : Type 0 where
    left : U
    element : U
    kept : Option U
    right : U
    height : U
    is : fields ≡ fields_in left element kept right height
    same_layout : layout_of kept ≡ layout_of d
    left_at : f l ≡ g left
    element_at : f e ≡ g element
    right_at : f r ≡ g right
    height_at : f h ≡ g height

  four : (fields : List U) (l e r h : T) → f l ∷ f e ∷ f r ∷ f h ∷ [] ≡ map g fields → AreFields
      fields l e None r h
  four [] l e r h same = absurd (cc)
  four (a ∷ []) l e r h same = absurd (cc)
  four (a ∷ b ∷ []) l e r h same = absurd (cc)
  four (a ∷ b ∷ c ∷ []) l e r h same = absurd (cc)
  four (a ∷ b ∷ c ∷ d ∷ []) l e r h same = record {
    left = a;
    element = b;
    kept = None;
    right = c;
    height = d;
    is = refl;
    same_layout = refl;
    left_at = cc;
    element_at = cc;
    right_at = cc;
    height_at = cc;
  }
  four (a ∷ b ∷ c ∷ d ∷ x ∷ more) l e r h same = absurd (cc)

  five : (fields : List U) (l e k r h : T) → f l ∷ f e ∷ f k ∷ f r ∷ f h ∷ [] ≡ map g fields →
      AreFields fields l e (Some k) r h
  five [] l e k r h same = absurd (cc)
  five (a ∷ []) l e k r h same = absurd (cc)
  five (a ∷ b ∷ []) l e k r h same = absurd (cc)
  five (a ∷ b ∷ c ∷ []) l e k r h same = absurd (cc)
  five (a ∷ b ∷ c ∷ d ∷ []) l e k r h same = absurd (cc)
  five (a ∷ b ∷ c ∷ d ∷ x ∷ []) l e k r h same = record {
    left = a;
    element = b;
    kept = Some c;
    right = d;
    height = x;
    is = refl;
    same_layout = refl;
    left_at = cc;
    element_at = cc;
    right_at = cc;
    height_at = cc;
  }
  five (a ∷ b ∷ c ∷ d ∷ x ∷ y ∷ more) l e k r h same = absurd (cc)

  four_or_five : (fields : List U) (l e : T) (d : Option T) (r h : T) → map f (fields_in l e d r h)
      ≡ map g fields → AreFields fields l e d r h
  four_or_five fields l e None r h same = four fields l e r h same
  four_or_five fields l e (Some k) r h same = five fields l e k r h same

  record IsOneBlock (s : ShapeOf U) (wanted : List T) : Type 0 where
    fields : List U
    is : s ≡ shapes.Sum 1 (record { mutable = false; fields = fields } ∷ [])
    same : map f wanted ≡ map g fields

  block_of : (constants : ℕ) (blocks : List (Constr U)) (wanted : List T)
      → shapes.Sum 1 (record { mutable = false; fields = map f wanted } ∷ []) ≡ shapes.Sum
      constants (map (constr_with g) blocks)
      → IsOneBlock (shapes.Sum constants blocks) wanted
  block_of constants [] wanted same = absurd (cc)
  block_of constants (b ∷ []) wanted same =
      let many : 1 ≡ constants = cc in
      let one : ◌≡◌ {A = Constr V} (record { mutable = false; fields = map f wanted })
      (constr_with g b) = cc in
      record {
        fields = b.fields;
        is = ap (λ n. shapes.Sum n (b ∷ [])) (sym many)
            ∙ ap (λ (m : Bool). shapes.Sum 1 (record { mutable = m; fields = b.fields } ∷ []))
            (sym (ap (λ (c : Constr V). c.mutable) one));
        same = ap (λ (c : Constr V). c.fields) one;
      }
  block_of constants (b ∷ c ∷ more) wanted same = absurd (cc)

  one_block : (s : ShapeOf U) (wanted : List T)
      → shapes.Sum 1 (record { mutable = false; fields = map f wanted } ∷ []) ≡ with_parts g s →
      IsOneBlock s wanted
  one_block (shapes.Sum constants blocks) wanted same = block_of constants blocks wanted same
  one_block s wanted same = absurd (cc)

-- ---- tables

module _ (decls : List Decl) (t : Ty) (table : Tabled) (is : IsTypeTable decls t table) where
  abbrev Is : ℕ → Ty → Type 0
  Is i u = slice_get (types_of table) i ≡ Some u

  -- The shape at an index is the shape of the type, with indices instead of types.
  shape_is : (i : ℕ) (u : Ty) → Is i u
      → with_parts (slice_get (types_of table)) (shape_in table i) ≡ with_parts Some (shape decls u)
  shape_is i u at =
      let found = mapped_some (with_parts (slice_get (types_of table))) (slice_get table.nodes i)
      (with_parts Some (shape decls u))
      (sym (slice_get-mapped (with_parts (slice_get (types_of table))) table.nodes i)
      ∙ ap (λ all. slice_get all i) is.made.nodes
      ∙ slice_get-mapped (λ u. with_parts Some (shape decls u)) (types_of table) i
      ∙ ap (option_map (λ u. with_parts Some (shape decls u))) at) in
      ap (λ node. with_parts (slice_get (types_of table)) (node_or_none node)) found.1 ∙ found.2

  names_are : (i : ℕ) (u : Ty) → Is i u → names_in table i ≡ names_of decls u
  names_are i u at =
      ap (λ all. names_or_none (slice_get all i)) is.named
      ∙ ap names_or_none (slice_get-mapped (names_of decls) (types_of table) i)
      ∙ ap (λ found. names_or_none (option_map (names_of decls) found)) at

  ordered_forth : (i : ℕ) (u : Ty) → Is i u → (shape_in table i ≡ shapes.AnyInt) ⊎
      (shape_in table i ≡ shapes.Bytes false)
      → (shape decls u ≡ shapes.AnyInt) ⊎ (shape decls u ≡ shapes.Bytes false)
  ordered_forth i u at (inl any) = inl (any_int_of (slice_get (types_of table)) Some (shape decls u)
      (ap (with_parts (slice_get (types_of table))) (sym any) ∙ shape_is i u at))
  ordered_forth i u at (inr bytes) = inr (bytes_of (slice_get (types_of table)) Some
      (shape decls u) false
      (ap (with_parts (slice_get (types_of table))) (sym bytes) ∙ shape_is i u at))

  ordered_back : (i : ℕ) (u : Ty) → Is i u → (shape decls u ≡ shapes.AnyInt) ⊎
      (shape decls u ≡ shapes.Bytes false)
      → (shape_in table i ≡ shapes.AnyInt) ⊎ (shape_in table i ≡ shapes.Bytes false)
  ordered_back i u at (inl any) = inl (any_int_of Some (slice_get (types_of table))
      (shape_in table i)
      (ap (with_parts Some) (sym any) ∙ sym (shape_is i u at)))
  ordered_back i u at (inr bytes) = inr (bytes_of Some (slice_get (types_of table))
      (shape_in table i) false
      (ap (with_parts Some) (sym bytes) ∙ sym (shape_is i u at)))

  tree_forth : (i : ℕ) (u : Ty) → Is i u → IsTreeNumber table i → IsTreeType (shape decls)
      (names_of decls) (Equal decls) u
  tree_forth i u at tree =
      let f = slice_get (types_of table) in
      let one = one_block f Some (shape decls u)
      (fields_in tree.left tree.element tree.kept tree.right tree.height)
      (ap (with_parts f) (sym tree.shaped) ∙ shape_is i u at) in
      let own = four_or_five f Some one.fields tree.left tree.element tree.kept tree.right
      tree.height one.same in
      record {
        left = own.left;
        element = own.element;
        kept = own.kept;
        right = own.right;
        height = own.height;
        named = sym (names_are i u at) ∙ tree.named ∙ ap
            (λ layout. names_with (field_names layout)) (sym own.same_layout);
        shaped = one.is ∙ ap (λ (fs : List Ty). shapes.Sum 1
            (record { mutable = false; fields = fs } ∷ [])) own.is;
        left_same = is.made.same_class tree.left i own.left u own.left_at at tree.left_same;
        right_same = is.made.same_class tree.right i own.right u own.right_at at tree.right_same;
        ordered = ordered_forth tree.element own.element own.element_at tree.ordered;
        counted = any_int_of f Some (shape decls own.height)
            (ap (with_parts f) (sym tree.counted) ∙ shape_is tree.height own.height own.height_at);
      }

  tree_back : (i : ℕ) (u : Ty) → Is i u → IsTreeType (shape decls) (names_of decls) (Equal decls) u
      → IsTreeNumber table i
  tree_back i u at tree =
      let g = slice_get (types_of table) in
      let one = one_block Some g (shape_in table i)
      (fields_in tree.left tree.element tree.kept tree.right tree.height)
      (ap (with_parts Some) (sym tree.shaped) ∙ sym (shape_is i u at)) in
      let own = four_or_five Some g one.fields tree.left tree.element tree.kept tree.right
      tree.height one.same in
      record {
        left = own.left;
        element = own.element;
        kept = own.kept;
        right = own.right;
        height = own.height;
        named = names_are i u at ∙ tree.named ∙ ap (λ layout. names_with (field_names layout))
            (sym own.same_layout);
        shaped = one.is ∙ ap (λ (fs : List ℕ). shapes.Sum 1
            (record { mutable = false; fields = fs } ∷ [])) own.is;
        left_same = is.made.equal_types own.left i tree.left u (sym own.left_at) at tree.left_same;
        right_same = is.made.equal_types own.right i tree.right u (sym own.right_at) at
            tree.right_same;
        ordered = ordered_back own.element tree.element (sym own.element_at) tree.ordered;
        counted = any_int_of Some g (shape_in table own.height)
            (ap (with_parts Some) (sym tree.counted) ∙ sym
            (shape_is own.height tree.height (sym own.height_at)));
      }

  -- ---- a table with which trees can be checked

  as_many : length table.nodes ≡ length (types_of table)
  as_many =
      sym (length-map table.nodes (with_parts (slice_get (types_of table)))) ∙ ap length
      is.made.nodes
      ∙ length-map (types_of table) (λ u. with_parts Some (shape decls u))

  -- If an index is the index of a tree type, then the index is the index of some type.
  number_known : (i : ℕ) → IsTreeNumber table i → (u : Ty) × Is i u
  number_known i tree = by_node (none_or_some (slice_get table.nodes i)) where
    by_node : (slice_get table.nodes i ≡ None) ⊎
        ((s : ShapeOf ℕ) × (slice_get table.nodes i ≡ Some s)) → (u : Ty) × Is i u
    by_node (inl none) = absurd (no_shape (sym (ap node_or_none none) ∙ tree.shaped)) where
      no_shape : shapes.Variable ≡ tree_shape tree.left tree.element tree.kept tree.right
          tree.height → ⊥
      no_shape same = cc
    by_node (inr some) =
        let within = slice_get_within table.nodes i some.0 some.1 in
        let many = as_many in
        slice_get_there (types_of table) i (omega (arith, within, many))

  -- If an index is in the class of the index of a type, then some type has the index.
  class_known : (i j : ℕ) (u : Ty) → SameClass table i j → Is j u → (w : Ty) × Is i w
  class_known i j u same at =
      let within = slice_get_within (types_of table) j u at in
      let many = is.made.many in
      let class = slice_get_there table.classes j (omega (arith, within, many)) in
      let inside = slice_get_within table.classes i class.0 (same ∙ class.1) in
      slice_get_there (types_of table) i (omega (arith, inside, many))

  pub judges_trees : AreWellFormed decls → IsSoundType decls t → IsTreeTable table
  judges_trees well sound i j same tree =
      let u = number_known j tree in
      let w = class_known i j u.0 same u.1 in
      let equal = is.made.same_class i j w.0 u.0 w.1 u.1 same in
      tree_back i w.0 w.1
      (tree_too decls well.sound t (types_of table) is.reached
      (known_by_hash decls well t sound (types_of table) is.reached)
      w.0 u.0 (slice_get-Contains (types_of table) j u.0 u.1) equal (tree_forth j u.0 u.1 tree))

  -- ---- the verdict

  module _ (graph : List Obj) (root : Val) where
    root_is : Is 0 t
    root_is = root_is_first decls t (types_of table) is.reached

    pub verdict_forth : (verdict : TreeVerdict) → IsTableVerdict table graph root verdict →
        IsVerdictOf decls graph root t verdict
    verdict_forth verdict known =
        verdict_on (shape_in table) (names_in table) (SameClass table) (shape decls)
        (names_of decls) (Equal decls) Is graph root 0 t
        (nodes_go (shape_in table) (names_in table) (SameClass table) (shape decls)
        (names_of decls) (Equal decls) Is graph
        (table_says decls (types_of table) (table_of table) is.made graph) tree_forth root 0 t
        root_is)
        (nodes_go (shape decls) (names_of decls) (Equal decls) (shape_in table) (names_in table)
        (SameClass table) (λ u i. Is i u) graph
        (types_say decls (types_of table) (table_of table) is.made graph)
        (λ u i at. tree_back i u at) root t 0 root_is)
        (λ i j u w at_i at_j. is.made.same_class i j u w at_i at_j)
        (λ i j u w at_i at_j. is.made.equal_types i j u w at_i at_j) verdict known

    pub verdict_back : (verdict : TreeVerdict) → IsVerdictOf decls graph root t verdict →
        IsTableVerdict table graph root verdict
    verdict_back verdict known =
        verdict_on (shape decls) (names_of decls) (Equal decls) (shape_in table) (names_in table)
        (SameClass table) (λ u i. Is i u) graph root t 0
        (nodes_go (shape decls) (names_of decls) (Equal decls) (shape_in table) (names_in table)
        (SameClass table) (λ u i. Is i u) graph
        (types_say decls (types_of table) (table_of table) is.made graph)
        (λ u i at. tree_back i u at) root t 0 root_is)
        (nodes_go (shape_in table) (names_in table) (SameClass table) (shape decls)
        (names_of decls) (Equal decls) Is graph
        (table_says decls (types_of table) (table_of table) is.made graph) tree_forth root 0 t
        root_is)
        (λ u w i j at_i at_j. is.made.equal_types i j u w at_i at_j)
        (λ u w i j at_i at_j. is.made.same_class i j u w at_i at_j) verdict known
