-- If a tree's objects come after more objects, then the tree's graph is the same graph with shifted
-- numbers.
use Rattle.std.proofs.Common.{ℕ, ◌+◌, ◌-◌, ◌≡◌, ◌∙◌, List, [], ◌∷◌, ◌++◌, refl, sym, ap, ap₂, arith}
use Rattle.std.specs.Prelude.{map}
use Rattle.std.proofs.lemmas.List.{map-append}
use Rattle.base_data.specs.declared.model.value.Val.{Val}
use Rattle.base_data.specs.declared.model.value.Val.TheVariants as vals
use Rattle.base_data.specs.declared.model.value.Obj.{Obj}
use Rattle.base_data.specs.declared.model.value.Obj.TheVariants as objects
use Rattle.marshal_spec.specs.format.Token.{Token, integer, atom, shared, block, leaf, IsLeaf, IsToken}
use Rattle.marshal_spec.specs.format.Tree.{Tree, Forest, node, none, more, IsTree, AreTrees, value_of, root, roots, made, made_by, object_of, objects_of, all_objects, RefersBack, ReferBack, AllReferBack}

abbrev pub later_value : ℕ → Val → Val
later_value b (vals.Int z) = vals.Int z
later_value b (vals.Atom tag) = vals.Atom tag
later_value b (vals.Ref k) = vals.Ref (b + k)

abbrev pub later_object : ℕ → Obj → Obj
later_object b (objects.Block tag values) = objects.Block tag (map (later_value b) values)
later_object b (objects.Bytes bytes) = objects.Bytes bytes
later_object b (objects.Double bits) = objects.Double bits
later_object b (objects.Doubles all) = objects.Doubles all
later_object b (objects.I32 z) = objects.I32 z
later_object b (objects.I64 z) = objects.I64 z
later_object b (objects.Native z) = objects.Native z

module _ (b : ℕ) where
  value_later : (t : Token) (c : ℕ) → RefersBack t c → value_of t (b + c) ≡ later_value b (value_of t c)
  value_later (integer z) c back = refl
  value_later (atom tag) c back = refl
  value_later (shared offset) c back =
      let most = back.1 in
      let position : b + c - offset ≡ b + (c - offset) = omega (arith, most) in
      ap (λ k. vals.Ref k) position
  value_later (block tag size) c back = refl
  value_later (leaf object) c back = refl

  pub root_later : (tree : Tree) (c : ℕ) → ReferBack tree c → root tree (b + c) ≡ later_value b (root tree c)
  root_later (node t f) c back = value_later t c back.0

  -- The sum of the shift `b`, `c` and `n` is associative.
  further : (c n : ℕ) → b + c + n ≡ b + (c + n)
  further c n = omega arith

  roots_later : (f : Forest) (c : ℕ) → AllReferBack f c → roots f (b + c) ≡ map (later_value b) (roots f c)
  roots_later none c back = refl
  roots_later (more tree f) c back =
      ap (λ v. v ∷ roots f (b + c + made tree)) (root_later tree c back.0)
      ∙ ap (λ rest. later_value b (root tree c) ∷ rest)
      (ap (roots f) (further c (made tree)) ∙ roots_later f (c + made tree) back.1)

  leaf_later : (o : Obj) → IsLeaf o → o ≡ later_object b o
  leaf_later (objects.Block tag values) is = absurd is
  leaf_later (objects.Bytes bytes) is = refl
  leaf_later (objects.Double bits) is = refl
  leaf_later (objects.Doubles all) is = refl
  leaf_later (objects.I32 z) is = refl
  leaf_later (objects.I64 z) is = refl
  leaf_later (objects.Native z) is = refl

  object_later : (t : Token) (values : List Val) → IsToken t
      → object_of t (map (later_value b) values) ≡ map (later_object b) (object_of t values)
  object_later (integer z) values is = refl
  object_later (atom tag) values is = refl
  object_later (shared offset) values is = refl
  object_later (block tag size) values is = refl
  object_later (leaf object) values is = ap (λ o. o ∷ []) (leaf_later object is)

  mutual
    pub objects_later : (tree : Tree) (c : ℕ) → IsTree tree → ReferBack tree c
        → objects_of tree (b + c) ≡ map (later_object b) (objects_of tree c)
    objects_later (node t f) c is back =
        let here = c + made_by t in
        let position = further c (made_by t) in
        let own : object_of t (roots f (b + c + made_by t)) ≡ map (later_object b) (object_of t (roots f here)) =
        ap (λ n. object_of t (roots f n)) position ∙ ap (object_of t) (roots_later f here back.1) ∙ object_later t (roots f here) is.0 in
        let rest : all_objects f (b + c + made_by t) ≡ map (later_object b) (all_objects f here) =
        ap (all_objects f) position ∙ forest_later f here is.2 back.1 in
        ap₂ ◌++◌ own rest ∙ sym (map-append (later_object b) (object_of t (roots f here)) (all_objects f here))

    forest_later : (f : Forest) (c : ℕ) → AreTrees f → AllReferBack f c
        → all_objects f (b + c) ≡ map (later_object b) (all_objects f c)
    forest_later none c is back = refl
    forest_later (more tree f) c is back =
        let next = c + made tree in
        let rest : all_objects f (b + c + made tree) ≡ map (later_object b) (all_objects f next) =
        ap (all_objects f) (further c (made tree)) ∙ forest_later f next is.1 back.1 in
        ap₂ ◌++◌ (objects_later tree c is.0 back.0) rest
        ∙ sym (map-append (later_object b) (objects_of tree c) (all_objects f next))
