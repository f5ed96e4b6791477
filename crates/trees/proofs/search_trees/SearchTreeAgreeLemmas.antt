-- If a type is equal to the type of a tree, then the type is the type of a tree.
use Rattle.std.proofs.Common.{ℕ, ◌≡◌, ◌∙◌, ◌⊎◌, inl, inr, Bool, false, List, [], ◌∷◌, Option, Some, None, refl, sym, ap, subst}
use Rattle.std.specs.Prelude.{Contains, codes}
use Rattle.base_data.proofs.model.Options.{Contains-first, Contains-later}
use Rattle.types_spec.specs.declared.types.decl.Decl.{Decl}
use Rattle.types_spec.specs.declared.types.head.HeadOf.{HeadOf}
use Rattle.types_spec.specs.declared.types.head.HeadOf.TheVariants as heads
use Rattle.types_spec.specs.declared.types.names.Names.{Names}
use Rattle.types_spec.specs.declared.types.shape.Constr.{Constr}
use Rattle.types_spec.specs.declared.types.shape.ShapeOf.{ShapeOf}
use Rattle.types_spec.specs.declared.types.shape.ShapeOf.TheVariants as shapes
use Rattle.types_spec.specs.types.Ty.{Ty}
use Rattle.types_spec.specs.types.Head.{head}
use Rattle.types_spec.specs.types.Shape.{shape}
use Rattle.types_spec.specs.types.Names.{names_of, head_names}
use Rattle.types_spec.specs.types.Reached.{IsReached, named_in}
use Rattle.types_spec.specs.types.WellFormed.{AreSound, AreKnownByHash}
use Rattle.types_spec.specs.types.Equal.{Equal, HeadsAgree, Holds, Pairwise}
use Rattle.types_theory.proofs.equality.SimilarClosure.{similar_is_equal}
use Rattle.types_theory.proofs.equality.SimilarLemmas.{Similar}
use Rattle.types_theory.proofs.equality.EqualLemmas.{equal_turned, equal_joined}
use Rattle.types_theory.proofs.equality.HeadShapes.{pair_shapes}
use Rattle.types_theory.proofs.equality.EqualityNeedLemmas.{similar_heads}
use Rattle.types_theory.proofs.equality.RankedLemmas.{are_ranked}
use Rattle.types_theory.proofs.equality.EqualityReachedLemmas.{parts_listed, named_listed}
use Rattle.types_theory.proofs.equality.ShapeAgreement.{ShapesAgree, BlocksAgree, same_any_int, same_below, same_bytes, same_double, same_int32, same_int64, same_native, same_sum, same_product, same_flat, same_array, same_float_array, same_poly, same_variable, same_array_of_variable, same_anything, same_array_of_anything}
use Rattle.types_theory.proofs.equality.TyEquality.{types_same_or_not}
use Rattle.trees.specs.search_trees.TreeType.{IsTreeType, layout_of, field_names, names_with, tree_shape, fields_in}

-- ---- shapes that agree with known ones

module _ {T : Type 0} (Likes : T → T → Type 0) where
  any_int_too : {s r : ShapeOf T} → ShapesAgree Likes s r → r ≡ shapes.AnyInt → s ≡ shapes.AnyInt
  any_int_too same_any_int is = refl
  any_int_too (same_below k) is = is
  any_int_too (same_bytes mutable) is = is
  any_int_too same_double is = is
  any_int_too same_int32 is = is
  any_int_too same_int64 is = is
  any_int_too same_native is = is
  any_int_too (same_sum k bs cs agree) is = cc
  any_int_too (same_product mutable ts us agree) is = cc
  any_int_too (same_flat mutable n) is = is
  any_int_too (same_array t u matching) is = cc
  any_int_too same_float_array is = is
  any_int_too (same_poly tags others agree) is = cc
  any_int_too same_variable is = is
  any_int_too same_array_of_variable is = is
  any_int_too same_anything is = is
  any_int_too (same_array_of_anything t u matching) is = cc

  bytes_too : {s r : ShapeOf T} → ShapesAgree Likes s r → (b : Bool) → r ≡ shapes.Bytes b → s ≡ shapes.Bytes b
  bytes_too same_any_int b is = is
  bytes_too (same_below k) b is = is
  bytes_too (same_bytes mutable) b is = is
  bytes_too same_double b is = is
  bytes_too same_int32 b is = is
  bytes_too same_int64 b is = is
  bytes_too same_native b is = is
  bytes_too (same_sum k bs cs agree) b is = cc
  bytes_too (same_product mutable ts us agree) b is = cc
  bytes_too (same_flat mutable n) b is = is
  bytes_too (same_array t u matching) b is = cc
  bytes_too same_float_array b is = is
  bytes_too (same_poly tags others agree) b is = cc
  bytes_too same_variable b is = is
  bytes_too same_array_of_variable b is = is
  bytes_too same_anything b is = is
  bytes_too (same_array_of_anything t u matching) b is = cc

  -- The shape `s` is a sum whose blocks agree with the blocks `cs`.
  record IsSum (s : ShapeOf T) (k : ℕ) (cs : List (Constr T)) : Type 0 where
    blocks : List (Constr T)
    is : s ≡ shapes.Sum k blocks
    agree : BlocksAgree Likes blocks cs

  sum_too : {s r : ShapeOf T} → ShapesAgree Likes s r → (k : ℕ) (cs : List (Constr T)) → r ≡ shapes.Sum k cs → IsSum s k cs
  sum_too same_any_int k cs is = absurd (cc)
  sum_too (same_below n) k cs is = absurd (cc)
  sum_too (same_bytes mutable) k cs is = absurd (cc)
  sum_too same_double k cs is = absurd (cc)
  sum_too same_int32 k cs is = absurd (cc)
  sum_too same_int64 k cs is = absurd (cc)
  sum_too same_native k cs is = absurd (cc)
  sum_too (same_sum n bs ds agree) k cs is =
      let count : n ≡ k = cc in
      let blocks : ds ≡ cs = cc in
      record { blocks = bs; is = ap (λ m. shapes.Sum m bs) count; agree = subst (λ es. BlocksAgree Likes bs es) blocks agree }
  sum_too (same_product mutable ts us agree) k cs is = absurd (cc)
  sum_too (same_flat mutable n) k cs is = absurd (cc)
  sum_too (same_array t u matching) k cs is = absurd (cc)
  sum_too same_float_array k cs is = absurd (cc)
  sum_too (same_poly tags others agree) k cs is = absurd (cc)
  sum_too same_variable k cs is = absurd (cc)
  sum_too same_array_of_variable k cs is = absurd (cc)
  sum_too same_anything k cs is = absurd (cc)
  sum_too (same_array_of_anything t u matching) k cs is = absurd (cc)

  -- The fields are the fields of a node, and the types of the fields are equal to the given types.
  record AreFields (fields : List T) (l e : T) (d : Option T) (r h : T) : Type 0 where
    left : T
    element : T
    kept : Option T
    right : T
    height : T
    is : fields ≡ fields_in left element kept right height
    same_layout : layout_of kept ≡ layout_of d
    left_agree : Likes left l
    element_agree : Likes element e
    right_agree : Likes right r
    height_agree : Likes height h

  four : (fields : List T) (l e r h : T) → Pairwise Likes fields (l ∷ e ∷ r ∷ h ∷ []) → AreFields fields l e None r h
  four [] l e r h agree = absurd agree
  four (a ∷ []) l e r h agree = absurd agree.1
  four (a ∷ b ∷ []) l e r h agree = absurd agree.1.1
  four (a ∷ b ∷ c ∷ []) l e r h agree = absurd agree.1.1.1
  four (a ∷ b ∷ c ∷ d ∷ []) l e r h agree = record {
    left = a;
    element = b;
    kept = None;
    right = c;
    height = d;
    is = refl;
    same_layout = refl;
    left_agree = agree.0;
    element_agree = agree.1.0;
    right_agree = agree.1.1.0;
    height_agree = agree.1.1.1.0;
  }
  four (a ∷ b ∷ c ∷ d ∷ f ∷ more) l e r h agree = absurd agree.1.1.1.1

  five : (fields : List T) (l e k r h : T) → Pairwise Likes fields (l ∷ e ∷ k ∷ r ∷ h ∷ []) → AreFields fields l e (Some k) r h
  five [] l e k r h agree = absurd agree
  five (a ∷ []) l e k r h agree = absurd agree.1
  five (a ∷ b ∷ []) l e k r h agree = absurd agree.1.1
  five (a ∷ b ∷ c ∷ []) l e k r h agree = absurd agree.1.1.1
  five (a ∷ b ∷ c ∷ d ∷ []) l e k r h agree = absurd agree.1.1.1.1
  five (a ∷ b ∷ c ∷ d ∷ f ∷ []) l e k r h agree = record {
    left = a;
    element = b;
    kept = Some c;
    right = d;
    height = f;
    is = refl;
    same_layout = refl;
    left_agree = agree.0;
    element_agree = agree.1.0;
    right_agree = agree.1.1.1.0;
    height_agree = agree.1.1.1.1.0;
  }
  five (a ∷ b ∷ c ∷ d ∷ f ∷ g ∷ more) l e k r h agree = absurd agree.1.1.1.1.1

  four_or_five : (fields : List T) (l e : T) (d : Option T) (r h : T) → Pairwise Likes fields (fields_in l e d r h) → AreFields fields l e d r h
  four_or_five fields l e None r h agree = four fields l e r h agree
  four_or_five fields l e (Some k) r h agree = five fields l e k r h agree

  record IsNodeShape (s : ShapeOf T) (wanted : List T) : Type 0 where
    fields : List T
    is : s ≡ shapes.Sum 1 (record { mutable = false; fields = fields } ∷ [])
    agree : Pairwise Likes fields wanted

  one_block :
      (s : ShapeOf T) (wanted : List T) (bs : List (Constr T)) → s ≡ shapes.Sum 1 bs
      → BlocksAgree Likes bs (record { mutable = false; fields = wanted } ∷ []) → IsNodeShape s wanted
  one_block s wanted [] is agree = absurd agree
  one_block s wanted (b ∷ []) is agree = record {
    fields = b.fields;
    is = is ∙ ap (λ (m : Bool). shapes.Sum 1 (record { mutable = m; fields = b.fields } ∷ [])) agree.0;
    agree = agree.1;
  }
  one_block s wanted (b ∷ c ∷ bs) is agree = absurd agree.2

-- Each type of a node's parts is named in the shape of the tree.
module _ {T : Type 0} (l e : T) where
  names_left : (d : Option T) (r h : T) → Contains (named_in (tree_shape l e d r h)) l
  names_left None r h = Contains-first l (e ∷ r ∷ h ∷ [])
  names_left (Some k) r h = Contains-first l (e ∷ k ∷ r ∷ h ∷ [])

  names_element : (d : Option T) (r h : T) → Contains (named_in (tree_shape l e d r h)) e
  names_element None r h = Contains-later l (e ∷ r ∷ h ∷ []) e (Contains-first e (r ∷ h ∷ []))
  names_element (Some k) r h = Contains-later l (e ∷ k ∷ r ∷ h ∷ []) e (Contains-first e (k ∷ r ∷ h ∷ []))

  names_right : (d : Option T) (r h : T) → Contains (named_in (tree_shape l e d r h)) r
  names_right None r h = Contains-later l (e ∷ r ∷ h ∷ []) r (Contains-later e (r ∷ h ∷ []) r (Contains-first r (h ∷ [])))
  names_right (Some k) r h =
      Contains-later l (e ∷ k ∷ r ∷ h ∷ []) r (Contains-later e (k ∷ r ∷ h ∷ []) r (Contains-later k (r ∷ h ∷ []) r (Contains-first r (h ∷ []))))

  names_height : (d : Option T) (r h : T) → Contains (named_in (tree_shape l e d r h)) h
  names_height None r h = Contains-later l (e ∷ r ∷ h ∷ []) h (Contains-later e (r ∷ h ∷ []) h (Contains-later r (h ∷ []) h (Contains-first h [])))
  names_height (Some k) r h =
      Contains-later l (e ∷ k ∷ r ∷ h ∷ []) h (Contains-later e (k ∷ r ∷ h ∷ []) h
      (Contains-later k (r ∷ h ∷ []) h (Contains-later r (h ∷ []) h (Contains-first h []))))

-- ---- names

names_too : (decls : List Decl) (Likes : Ty → Ty → Type 0) (fields : List (List ℕ)) (h k : HeadOf Ty) → HeadsAgree Likes h k → head_names decls k ≡ names_with fields → head_names decls h ≡ names_with fields
names_too decls Likes fields (heads.Variable x) (heads.Variable y) agree is = is
names_too decls Likes fields (heads.Predeclared b ts) (heads.Predeclared c us) agree is = subst (λ d. head_names decls (heads.Predeclared d ts) ≡ names_with fields) (sym agree.0) is
names_too decls Likes fields (heads.Datatype m ts) (heads.Datatype n us) agree is = subst (λ d. head_names decls (heads.Datatype d ts) ≡ names_with fields) (sym agree.0) is
names_too decls Likes fields (heads.Tuple ts) (heads.Tuple us) agree is = is
names_too decls Likes fields (heads.Variants tags) (heads.Variants others) agree is = absurd (none (ap (λ (n : Names). n.constants) is)) where
  none : [] ≡ codes "Empty" ∷ [] → ⊥
  none same = cc
names_too decls Likes fields heads.Absent heads.Absent agree is = is
names_too decls Likes fields h k agree is = absurd agree

-- ---- the type of a tree

module _ (decls : List Decl) (sound : AreSound decls) (root : Ty) (types : List Ty)
    (reached : IsReached decls root types) (known : AreKnownByHash decls types) where
  agree_equal : (t u : Ty) (equal : Equal decls t u) (a b : Ty) → Contains types b → Similar equal.pairs a b → Equal decls a b
  agree_equal t u equal a b among matching =
      similar_is_equal types_same_or_not equal.pairs (head decls)
      (similar_heads decls sound.rank (are_ranked decls sound) equal.pairs equal.closed)
      types (parts_listed decls root types reached) a b among matching

  shapes_agree : (t u : Ty) (equal : Equal decls t u) → Contains types u → ShapesAgree (Similar equal.pairs) (shape decls t) (shape decls u)
  shapes_agree t u equal among =
      pair_shapes decls sound equal.pairs equal.closed t u equal.holds (λ tags is. known u tags among is)

  abbrev IsTreeHere : Ty → Type 0
  IsTreeHere u = IsTreeType (shape decls) (names_of decls) (Equal decls) u

  element_too : (t u : Ty) → Contains types u → Equal decls t u → (shape decls u ≡ shapes.AnyInt) ⊎ (shape decls u ≡ shapes.Bytes false)
      → (shape decls t ≡ shapes.AnyInt) ⊎ (shape decls t ≡ shapes.Bytes false)
  element_too t u among equal (inl is) = inl (any_int_too (Similar equal.pairs) (shapes_agree t u equal among) is)
  element_too t u among equal (inr is) = inr (bytes_too (Similar equal.pairs) (shapes_agree t u equal among) false is)

  pub tree_too : (t u : Ty) → Contains types u → Equal decls t u → IsTreeHere u → IsTreeHere t
  tree_too t u among equal tree =
      let Likes = Similar equal.pairs in
      let wanted = fields_in tree.left tree.element tree.kept tree.right tree.height in
      let sum = sum_too Likes (shapes_agree t u equal among) 1 (record { mutable = false; fields = wanted } ∷ []) tree.shaped in
      let one = one_block Likes (shape decls t) wanted sum.blocks sum.is sum.agree in
      let its = four_or_five Likes one.fields tree.left tree.element tree.kept tree.right tree.height one.agree in
      let named : (a : Ty) → Contains (named_in (tree_shape tree.left tree.element tree.kept tree.right tree.height)) a → Contains types a =
      λ a has. named_listed decls root types reached u a among (subst (λ s. Contains (named_in s) a) (sym tree.shaped) has) in
      let in_l = named tree.left (names_left tree.left tree.element tree.kept tree.right tree.height) in
      let in_e = named tree.element (names_element tree.left tree.element tree.kept tree.right tree.height) in
      let in_r = named tree.right (names_right tree.left tree.element tree.kept tree.right tree.height) in
      let in_h = named tree.height (names_height tree.left tree.element tree.kept tree.right tree.height) in
      let back = equal_turned (head decls) t u equal in
      let left = agree_equal t u equal its.left tree.left in_l its.left_agree in
      let element = agree_equal t u equal its.element tree.element in_e its.element_agree in
      let right = agree_equal t u equal its.right tree.right in_r its.right_agree in
      let height = agree_equal t u equal its.height tree.height in_h its.height_agree in
      record {
        left = its.left;
        element = its.element;
        kept = its.kept;
        right = its.right;
        height = its.height;
        named = names_too decls (Holds equal.pairs) (field_names (layout_of tree.kept)) (head decls t) (head decls u) (equal.closed t u equal.holds) tree.named
            ∙ ap (λ layout. names_with (field_names layout)) (sym its.same_layout);
        shaped = one.is ∙ ap (λ (fs : List Ty). shapes.Sum 1 (record { mutable = false; fields = fs } ∷ [])) its.is;
        left_same =
            equal_joined (head decls) types_same_or_not its.left tree.left t left (equal_joined (head decls) types_same_or_not tree.left u t tree.left_same back);
        right_same =
            equal_joined (head decls) types_same_or_not its.right tree.right t right (equal_joined (head decls) types_same_or_not tree.right u t tree.right_same back);
        ordered = element_too its.element tree.element in_e element tree.ordered;
        counted = any_int_too (Similar height.pairs) (shapes_agree its.height tree.height height in_h) tree.counted;
      }
