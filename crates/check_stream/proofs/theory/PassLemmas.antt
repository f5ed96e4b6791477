-- If the tokens of a tree satisfy their requirements, then the objects of the tree are good.
use Rattle.std.proofs.Common.{ℕ, suc, ◌+◌, ◌-◌, ◌≡◌, ◌∙◌, refl, List, [], ◌∷◌, ◌++◌, length, inl, inr, ⊎_elim, Bool, true, false, Some, sym, ap, subst, arith}
use Rattle.std.specs.Prelude.{slice_get, IsSome, Contains}
use Rattle.std.proofs.lemmas.List.{append_assoc, append-nil, length-append}
use Rattle.base_data.proofs.model.Options.{Contains-none}
use Rattle.base_data.specs.declared.model.value.Obj.{Obj}
use Rattle.base_data.specs.declared.model.value.Obj.TheVariants as objects
use Rattle.base_data.proofs.model.Lists.{slice_get-append_left, slice_get-last}
use Rattle.types_spec.specs.declared.types.shape.ShapeOf.{ShapeOf}
use Rattle.types_spec.specs.types.Fitting.{none_if, or_none, object_fields, is_bytes, is_double, has_doubles, is_int32, is_int64, is_native}
use Rattle.types_spec.specs.types.Table.{Table}
use Rattle.marshal_spec.specs.format.Words.{of_object}
use Rattle.marshal_spec.specs.format.Token.{Token, integer, atom, shared, block, leaf, IsLeaf, leaf_measure}
use Rattle.marshal_spec.specs.format.Tree.{Tree, Forest, node, none, more, trees_in, IsTree, AreTrees, tokens, forest_tokens, root, roots, made, all_made, objects_of, all_objects}
use Rattle.marshal_spec.proofs.format.Counts.{leaf_fields, length-roots, length-objects_of}
use Rattle.check_stream.specs.theory.AskedNeeds.{Need, of_type, hash_of, shape_at, type_in, Passes, values_in, fields_ask}
use Rattle.check_stream.specs.theory.Noted.{IsAt, AreAt}
use Rattle.check_stream.proofs.theory.Kernel.{IsGood, AreGood, good_append}
use Rattle.check_stream.proofs.theory.BlockLemmas.{fields_many, asked_good}

-- ---- leaf objects

pub nothing_needed : (test : Bool) (i a : ℕ) → Contains (or_none (none_if {T = ℕ} test)) (i, a) → ⊥
nothing_needed true i a needed = Contains-none (i, a) needed
nothing_needed false i a needed = Contains-none (i, a) needed

pub leaf_needs : (shape : ShapeOf ℕ) (object : Obj) (i a : ℕ) → IsLeaf object → Contains (or_none (object_fields shape object)) (i, a) → ⊥
leaf_needs shape (objects.Block tag values) i a is needed = is
leaf_needs shape (objects.Bytes bytes) i a is needed = nothing_needed (is_bytes shape) i a needed
leaf_needs shape (objects.Double bits) i a is needed = nothing_needed (is_double shape) i a needed
leaf_needs shape (objects.Doubles all) i a is needed = nothing_needed (has_doubles shape (length all)) i a needed
leaf_needs shape (objects.I32 z) i a is needed = nothing_needed (is_int32 shape) i a needed
leaf_needs shape (objects.I64 z) i a is needed = nothing_needed (is_int64 shape) i a needed
leaf_needs shape (objects.Native z) i a is needed = nothing_needed (is_native shape) i a needed

pub leaf_made : (object : Obj) → IsLeaf object → of_object (λ _. 1) (leaf_measure object) ≡ 1
leaf_made (objects.Block tag values) is = absurd is
leaf_made (objects.Bytes bytes) is = refl
leaf_made (objects.Double bits) is = refl
leaf_made (objects.Doubles all) is = refl
leaf_made (objects.I32 z) is = refl
leaf_made (objects.I64 z) is = refl
leaf_made (objects.Native z) is = refl

module _ (table : Table) (all : List ℕ) (noted : List (ℕ × ℕ)) where
  -- The types so far are a prefix of the types after the last token.
  pub prefix : (types : List ℕ) (needs : List Need) (ts : List Token) → Passes noted table types needs ts all → (later : List ℕ) × (types ++ later ≡ all)
  prefix types [] [] h = ([], append-nil types ∙ h)
  prefix types [] (t ∷ ts) h = absurd h
  prefix types (n ∷ ns) [] h = absurd h
  prefix types (n ∷ ns) (t ∷ ts) h =
      let r = prefix (types ++ type_in n t) (h.0 ++ ns) ts h.2 in
      (type_in n t ++ r.0, sym (append_assoc types (type_in n t) r.0) ∙ r.1)

  kept_at : (types : List ℕ) (needs : List Need) (ts : List Token) (k u : ℕ) → Passes noted table types needs ts all → slice_get types k ≡ Some u → slice_get all k ≡ Some u
  kept_at types needs ts k u h at_k =
      let r = prefix types needs ts h in
      subst (λ xs. slice_get xs k ≡ Some u) r.1 (slice_get-append_left types r.0 k u at_k)

  -- The last type so far is the type of the last object.
  pub last_at : (types : List ℕ) (t : ℕ) (needs : List Need) (ts : List Token) → Passes noted table (types ++ t ∷ []) needs ts all → slice_get all (length types) ≡ Some t
  last_at types t needs ts h = kept_at (types ++ t ∷ []) needs ts (length types) t h (slice_get-last types t)

  leaf_good : (t : ℕ) (object : Obj) → IsLeaf object → IsSome (object_fields (shape_at table t) object) → IsGood table all noted object t
  leaf_good t object is fits = record { fits = fits; held = λ i a typed asked. absurd (leaf_needs (shape_at table t) object i a is typed) }

  -- The tokens of a tree from object `c` on satisfy the requirement of a position of type `t`. The
  -- tree's value satisfies the requirement, and the tree's objects are good. The tokens `rest`
  -- satisfy the requirements `needs`.
  pub record IsRead (c t : ℕ) (tree : Tree) (needs : List Need) (rest : List Token) : Type 0 where
    pub after : List ℕ
    pub many : length after ≡ c + made tree
    pub value : IsAt table all noted (root tree c) t
    pub good : AreGood table all noted c (objects_of tree c)
    pub passes : Passes noted table after needs rest all

  pub record AreRead (c : ℕ) (asked : List Need) (forest : Forest) (needs : List Need) (rest : List Token) : Type 0 where
    pub after : List ℕ
    pub many : length after ≡ c + all_made forest
    pub values : AreAt table all noted (roots forest c) asked
    pub good : AreGood table all noted c (all_objects forest c)
    pub passes : Passes noted table after needs rest all

  same_made : (tree : Tree) (types after : List ℕ) (n : ℕ) → length after ≡ n → n ≡ length types + made tree → length after ≡ length types + made tree
  same_made tree types after n is same = is ∙ same

  mutual
    pub tree_read : (tree : Tree) (t : ℕ) (types : List ℕ) (needs : List Need) (rest : List Token) → IsTree tree → Passes noted table types (of_type t ∷ needs) (tokens tree ++ rest) all → IsRead (length types) t tree needs rest
    tree_read (node (integer z) none) t types needs rest is h = record {
      after = types ++ [];
      many = let same = length-append types [] in omega (arith, same);
      value = h.1.0;
      good = tt;
      passes = subst (λ next. Passes noted table (types ++ []) (next ++ needs) rest all) h.1.1 h.2;
    }
    tree_read (node (atom tag) none) t types needs rest is h = record {
      after = types ++ [];
      many = let same = length-append types [] in omega (arith, same);
      value = h.1.0;
      good = tt;
      passes = subst (λ next. Passes noted table (types ++ []) (next ++ needs) rest all) h.1.1 h.2;
    }
    tree_read (node (shared offset) none) t types needs rest is h =
        record {
          after = types ++ [];
          many = let same = length-append types [] in omega (arith, same);
          value = ⊎_elim
              (λ wildcard. inl wildcard)
              (λ back. inr (back.type, ⊎_elim (λ first. inl (kept_at types (of_type t ∷ needs) (shared offset ∷ rest) (length types - offset) back.type h first)) (λ second. inr second) back.at, back.equal))
              h.1.0;
          good = tt;
          passes = subst (λ next. Passes noted table (types ++ []) (next ++ needs) rest all) h.1.1 h.2;
        }
    tree_read (node (leaf object) none) t types needs rest is h =
        let at = last_at types t (h.0 ++ needs) rest h.2 in
        record {
          after = types ++ t ∷ [];
          many = let same = length-append types (t ∷ []) in let one = leaf_made object is.0 in omega (arith, same, one);
          value = inr (t, inl at, refl);
          good = ((t, at, leaf_good t object is.0 h.1.0), tt);
          passes = subst (λ next. Passes noted table (types ++ t ∷ []) (next ++ needs) rest all) h.1.1 h.2;
        }
    tree_read (node (block tag size) f) t types needs rest is h =
        let at = last_at types t (h.0 ++ needs) (forest_tokens f ++ rest) h.2 in
        let long : length (types ++ t ∷ []) ≡ length types + 1 = length-append types (t ∷ []) in
        let many' : values_in h.0 ≡ trees_in f = fields_many table t tag size h.0 h.1 ∙ sym is.1 in
        let r = forest_read f h.0 (types ++ t ∷ []) needs rest is.2 many' h.2 in
        let values = subst (λ n. AreAt table all noted (roots f n) h.0) long r.values in
        let size_is : size ≡ length (roots f (length types + 1)) = sym is.1 ∙ sym (length-roots f (length types + 1)) in
        let asked = subst (λ n. fields_ask table t tag n ≡ Some h.0) size_is h.1 in
        let next : length (types ++ t ∷ []) ≡ suc (length types) = omega (arith, long) in
        record {
          after = r.after;
          many = let rest_many = r.many in omega (arith, rest_many, long);
          value = inr (t, inl at, refl);
          good = (
            (t, at, asked_good table all noted t tag (roots f (length types + 1)) h.0 asked values),
            subst (λ n. AreGood table all noted n (all_objects f (length types + 1))) next (subst (λ n. AreGood table all noted (length (types ++ t ∷ [])) (all_objects f n)) long r.good),
          );
          passes = r.passes;
        }
    tree_read (node (integer z) (more tree f)) t types needs rest is h = absurd (let no' = is.1 in omega (arith, no'))
    tree_read (node (atom tag) (more tree f)) t types needs rest is h = absurd (let no' = is.1 in omega (arith, no'))
    tree_read (node (shared offset) (more tree f)) t types needs rest is h = absurd (let no' = is.1 in omega (arith, no'))
    tree_read (node (leaf object) (more tree f)) t types needs rest is h = absurd (let no' = is.1 in let leaf' = leaf_fields object in omega (arith, no', leaf'))

    pub forest_read : (f : Forest) (asked : List Need) (types : List ℕ) (needs : List Need) (rest : List Token) → AreTrees f → values_in asked ≡ trees_in f → Passes noted table types (asked ++ needs) (forest_tokens f ++ rest) all → AreRead (length types) asked f needs rest
    forest_read none [] types needs rest are many h = record { after = types; many = omega arith; values = tt; good = tt; passes = h }
    forest_read none (of_type t ∷ asked) types needs rest are many h = absurd (omega (arith, many))
    forest_read none (hash_of tags ∷ asked) types needs rest are many h = absurd (omega (arith, many))
    forest_read (more tree f) [] types needs rest are many h = absurd (omega (arith, many))
    forest_read (more tree f) (of_type t ∷ asked) types needs rest are many h =
        let h' = subst (λ ts. Passes noted table types (of_type t ∷ (asked ++ needs)) ts all) (append_assoc (tokens tree) (forest_tokens f) rest) h in
        let first = tree_read tree t types (asked ++ needs) (forest_tokens f ++ rest) are.0 h' in
        let later = forest_read f asked first.after needs rest are.1 (omega (arith, many)) first.passes in
        let position = first.many in
        let objects_many : length types + length (objects_of tree (length types)) ≡ length types + made tree = ap (λ n. length types + n) (length-objects_of tree (length types) are.0) in
        record {
          after = later.after;
          many = let more_many = later.many in omega (arith, position, more_many);
          values = (first.value, subst (λ n. AreAt table all noted (roots f n) asked) position later.values);
          good = good_append table all noted (length types) (objects_of tree (length types)) (all_objects f (length types + made tree)) first.good
              (subst (λ n. AreGood table all noted n (all_objects f (length types + made tree))) (position ∙ sym objects_many)
              (subst (λ n. AreGood table all noted (length first.after) (all_objects f n)) position later.good));
          passes = later.passes;
        }
    forest_read (more (node (integer z) none) f) (hash_of tags ∷ asked) types needs rest are many h =
        let tagged = h.1 in
        let h' = subst (λ next. Passes noted table (types ++ []) (next ++ (asked ++ needs)) (forest_tokens f ++ rest) all) tagged.argument h.2 in
        let later = forest_read f (of_type tagged.type ∷ asked) (types ++ []) needs rest are.1 (omega (arith, many)) h' in
        let long : length (types ++ []) ≡ length types = ap length (append-nil types) in
        let position : length (types ++ []) ≡ length types + made (node (integer z) none) = omega (arith, long) in
        record {
          after = later.after;
          many = let more_many = later.many in omega (arith, position, more_many);
          values = (tagged.type, record { hash = z; is_hash = refl; tag = tagged.tag; has_hash = tagged.has_hash; has_argument = tagged.has_argument }, subst (λ n. AreAt table all noted (roots f n) (of_type tagged.type ∷ asked)) position later.values);
          good = subst (λ n. AreGood table all noted n (all_objects f (length types + made (node (integer z) none)))) long (subst (λ n. AreGood table all noted (length (types ++ [])) (all_objects f n)) position later.good);
          passes = later.passes;
        }
    forest_read (more (node (integer z) (more tree g)) f) (hash_of tags ∷ asked) types needs rest are many h = absurd (let no' = are.0.1 in omega (arith, no'))
    forest_read (more (node (atom tag) g) f) (hash_of tags ∷ asked) types needs rest are many h = absurd h.1
    forest_read (more (node (shared offset) g) f) (hash_of tags ∷ asked) types needs rest are many h = absurd h.1
    forest_read (more (node (block tag size) g) f) (hash_of tags ∷ asked) types needs rest are many h = absurd h.1
    forest_read (more (node (leaf object) g) f) (hash_of tags ∷ asked) types needs rest are many h = absurd h.1
