-- A flat block among the tokens.
use Rattle.std.proofs.Common.{ℕ, ◌+◌, ◌-◌, ◌≤◌, ◌≡◌, ◌∙◌, refl, ◌⊎◌, inl, inr, ⊎_elim, List, [], ◌∷◌, ◌++◌, length, map, Some, sym, ap, subst, arith}
use Rattle.std.specs.Prelude.{slice_get}
use Rattle.std.proofs.lemmas.List.{append_assoc, append-nil}
use Rattle.base_data.specs.declared.model.value.Obj.{Obj}
use Rattle.base_data.specs.declared.model.value.Obj.TheVariants as objects
use Rattle.base_data.proofs.model.Lists.{slice_get-append_left}
use Rattle.types_spec.specs.types.Table.{Table}
use Rattle.marshal_spec.specs.format.Words.{of_object, fields}
use Rattle.marshal_spec.specs.format.Token.{Token, integer, atom, shared, block, leaf, measure_of}
use Rattle.marshal_spec.specs.format.Tree.{Tree, Forest, node, none, more, trees_in, IsTree, AreTrees, tokens, forest_tokens, made, made_by, all_made, object_of, objects_of, all_objects, roots, value_of}
use Rattle.marshal_spec.proofs.canonical.CanonicalListLemmas.{slice_get_right}
use Rattle.marshal_spec.proofs.format.Counts.{length-objects_of, length-object_of}
use Rattle.check_stream.specs.theory.AskedNeeds.{Need, shape_at, block_needs}
use Rattle.check_stream.specs.theory.Noted.{AreAt, IsFlat, AreFlat, Stands}
use Rattle.check_stream.proofs.theory.Kernel.{IsGood}
use Rattle.check_stream.proofs.theory.BlockLemmas.{block_good}

abbrev first_or : Token → List Token → Token
first_or other [] = other
first_or other (t ∷ ts) = t

abbrev rest_of : List Token → List Token
rest_of [] = []
rest_of (t ∷ ts) = ts

-- If a token is flat, then the tree of the token has no subtrees.
flat_none : (token : Token) (g : Forest) → IsFlat token → trees_in g ≡ of_object fields (measure_of token) → (all_made g ≡ 0) × (forest_tokens g ≡ []) × (made_by token ≡ 0)
flat_none (integer z) none flat many = (refl, refl, refl)
flat_none (atom tag) none flat many = (refl, refl, refl)
flat_none (shared offset) none flat many = (refl, refl, refl)
flat_none (integer z) (more tree g) flat many = absurd (omega (arith, many))
flat_none (atom tag) (more tree g) flat many = absurd (omega (arith, many))
flat_none (shared offset) (more tree g) flat many = absurd (omega (arith, many))
flat_none (block tag size) g flat many = absurd flat
flat_none (leaf object) g flat many = absurd flat

-- The values of flat trees are those of their tokens.
flat_roots : (f : Forest) (c : ℕ) (flat rest after : List Token) → AreTrees f → trees_in f ≡ length flat → AreFlat flat → forest_tokens f ++ after ≡ flat ++ rest → roots f c ≡ map (λ t. value_of t c) flat
flat_roots none c [] rest after are many flat' is = refl
flat_roots none c (t ∷ ts) rest after are many flat' is = absurd (omega (arith, many))
flat_roots (more tree f) c [] rest after are many flat' is = absurd (omega (arith, many))
flat_roots (more (node token g) f) c (t ∷ ts) rest after are many flat' is =
    let same : token ≡ t = ap (first_or token) is in
    let own = flat_none token g (subst IsFlat (sym same) flat'.0) are.0.1 in
    let tail : (forest_tokens g ++ forest_tokens f) ++ after ≡ ts ++ rest = ap rest_of is in
    let tail' : forest_tokens f ++ after ≡ ts ++ rest = ap (λ xs. (xs ++ forest_tokens f) ++ after) (sym own.1) ∙ tail in
    let later = flat_roots f c ts rest after are.1 (omega (arith, many)) flat'.1 tail' in
    let all' = own.0 in
    let made' = own.2 in
    let position : c + (made_by token + all_made g) ≡ c = omega (arith, all', made') in
    ap (λ u. value_of u c ∷ roots f (c + (made_by token + all_made g))) same ∙ ap (λ vs. value_of t c ∷ vs) (ap (roots f) position ∙ later)

-- The object is at its index among all objects, or among the tokens after the trees.
abbrev pub IsThere : List Obj → ℕ → ℕ → ℕ → List Token → Type 0
IsThere all c o tag flat = (c ≤ o) × (slice_get all (o - c) ≡ Some (objects.Block tag (map (λ t. value_of t (o + 1)) flat)))

there_later : (xs ys : List Obj) (c d o tag : ℕ) (flat : List Token) → length xs + c ≡ d → IsThere ys d o tag flat → IsThere (xs ++ ys) c o tag flat
there_later xs ys c d o tag flat is there =
    let less = there.0 in
    let position : o - c ≡ length xs + (o - d) = omega (arith, is, less) in
    (omega (arith, is, less), ap (slice_get (xs ++ ys)) position ∙ slice_get_right xs ys (o - d) ∙ there.1)

there_first : (xs ys : List Obj) (c o tag : ℕ) (flat : List Token) → IsThere xs c o tag flat → IsThere (xs ++ ys) c o tag flat
there_first xs ys c o tag flat there = (there.0, slice_get-append_left xs ys (o - c) (objects.Block tag (map (λ t. value_of t (o + 1)) flat)) there.1)

own_there : (token : Token) (f : Forest) (c o tag : ℕ) (flat rest after : List Token) → IsTree (node token f) → token ≡ block tag (length flat) → o ≡ c → AreFlat flat → forest_tokens f ++ after ≡ flat ++ rest → IsThere (objects_of (node token f) c) c o tag flat
own_there token f c o tag flat rest after tree same at flat' is =
    let many : trees_in f ≡ length flat = tree.1 ∙ ap (λ t. of_object fields (measure_of t)) same in
    let values : roots f (c + 1) ≡ map (λ t. value_of t (c + 1)) flat = flat_roots f (c + 1) flat rest after tree.2 many flat' is in
    let values' : objects.Block tag (roots f (c + 1)) ≡ objects.Block tag (map (λ t. value_of t (o + 1)) flat) = ap (objects.Block tag) (values ∙ ap (λ n. map (λ t. value_of t (n + 1)) flat) (sym at)) in
    let zero' : o - c ≡ 0 = omega (arith, at) in
    (omega (arith, at), ap (slice_get (objects_of (node token f) c)) zero' ∙ ap (λ u. slice_get (objects_of (node u f) c) 0) same ∙ ap Some values')

mutual
  pub tree_stands : (tree : Tree) (c o tag : ℕ) (flat after : List Token) → IsTree tree → Stands c (tokens tree ++ after) o tag flat → IsThere (objects_of tree c) c o tag flat ⊎ Stands (c + made tree) after o tag flat
  tree_stands (node token f) c o tag flat after tree (inl h) = inl (own_there token f c o tag flat h.0 after tree h.1 h.2 h.3 h.4)
  tree_stands (node token f) c o tag flat after tree (inr h) =
      let m = made_by token in
      let long = length-object_of token (roots f (c + m)) tree.0 in
      ⊎_elim
      (λ there. inl (there_later (object_of token (roots f (c + m))) (all_objects f (c + m)) c (c + m) o tag flat (omega (arith, long)) there))
      (λ stands. let same : (c + m) + all_made f ≡ c + (m + all_made f) = omega arith in inr (subst (λ n. Stands n after o tag flat) same stands))
      (forest_stands f (c + m) o tag flat after tree.2 h)

  pub forest_stands : (f : Forest) (c o tag : ℕ) (flat after : List Token) → AreTrees f → Stands c (forest_tokens f ++ after) o tag flat → IsThere (all_objects f c) c o tag flat ⊎ Stands (c + all_made f) after o tag flat
  forest_stands none c o tag flat after are h = let same : c ≡ c + 0 = omega arith in inr (subst (λ n. Stands n after o tag flat) same h)
  forest_stands (more tree f) c o tag flat after are h =
      let h' = subst (λ ts. Stands c ts o tag flat) (append_assoc (tokens tree) (forest_tokens f) after) h in
      ⊎_elim
      (λ there. inl (there_first (objects_of tree c) (all_objects f (c + made tree)) c o tag flat there))
      (λ stands. ⊎_elim
      (λ there. let long = length-objects_of tree c are.0 in inl (there_later (objects_of tree c) (all_objects f (c + made tree)) c (c + made tree) o tag flat (omega (arith, long)) there))
      (λ stands'. let same : (c + made tree) + all_made f ≡ c + (made tree + all_made f) = omega arith in inr (subst (λ n. Stands n after o tag flat) same stands'))
      (forest_stands f (c + made tree) o tag flat after are.1 stands))
      (tree_stands tree c o tag flat (forest_tokens f ++ after) are.0 h')

-- If a flat block is among the tokens of a tree, then object `o` is a block of the flat values.
pub flat_object : (tree : Tree) (o tag : ℕ) (flat : List Token) → IsTree tree → Stands 0 (tokens tree) o tag flat → slice_get (objects_of tree 0) o ≡ Some (objects.Block tag (map (λ t. value_of t (o + 1)) flat))
flat_object tree o tag flat is h =
    let h' = subst (λ ts. Stands 0 ts o tag flat) (sym (append-nil (tokens tree))) h in
    let zero' : o - 0 ≡ o = omega arith in
    ⊎_elim (λ there. ap (slice_get (objects_of tree 0)) (sym zero') ∙ there.1) (λ stands. absurd stands) (tree_stands tree 0 o tag flat [] is h')

-- If the tokens of a flat block's fields satisfy the requirements of a type, then the block is good
-- at the type.
pub flat_noted :
    (table : Table) (all : List ℕ) (noted : List (ℕ × ℕ)) (tree : Tree) (o t tag : ℕ) (flat : List Token) (next : List Need) → IsTree tree → Stands 0 (tokens tree) o tag flat
    → block_needs (shape_at table t) tag (length (map (λ u. value_of u (o + 1)) flat)) ≡ Some next → AreAt table all noted (map (λ u. value_of u (o + 1)) flat) next
    → (object : Obj) × (slice_get (objects_of tree 0) o ≡ Some object) × IsGood table all noted object t
flat_noted table all noted tree o t tag flat next is stands asked at =
    let values = map (λ u. value_of u (o + 1)) flat in
    (objects.Block tag values, flat_object tree o tag flat is stands, block_good table all noted t tag values next asked at)
