-- A copy of a value is the same value as the original.
use Rattle.std.proofs.Common.{ℕ, zero, suc, ◌+◌, ◌<◌, ◌≡◌, ◌∙◌, List, [], ◌∷◌, ◌++◌, length, length-append, Some, refl, sym, ap, subst, arith}
use Rattle.std.specs.Prelude.{map, option_map, slice_get, Contains, All, IsSomeAnd}
use Rattle.std.specs.List.{AllZip}
use Rattle.std.specs.List.{AllByRecursion}
use Rattle.std.proofs.lemmas.Option.{none-some}
use Rattle.std.proofs.lemmas.List.Elements.{All-contains, All-from_recursion}
use Rattle.base_data.proofs.model.Options.{Contains-map, map-Contains, slice_get_there, slice_get-Contains, Contains-first, Contains-later}
use Rattle.base_data.specs.declared.model.value.Val.{Val}
use Rattle.base_data.specs.declared.model.value.Val.TheVariants as vals
use Rattle.base_data.specs.declared.model.value.Obj.{Obj}
use Rattle.base_data.specs.declared.model.value.Obj.TheVariants as objects
use Rattle.base_data.specs.model.Graph.{IsValue, IsObject, IsGraph}
use Rattle.marshal_spec.specs.format.Tree.{root, objects_of}
use Rattle.marshal_spec.specs.format.Isomorphism.{Agree, AgreeObjects, Isomorphism}
use Rattle.marshal_spec.proofs.format.FormatRootLemmas.{root_is_value}
use Rattle.marshal_spec.proofs.canonical.CanonicalListLemmas.{below, Contains-below, below-Contains, slice_get_right}
use Rattle.marshal_spec.proofs.canonical.IsomorphismLemmas.{agree_at, same_symmetric, same_transitive}
use Rattle.marshal_spec.proofs.canonical.TreeGraphs.{is_graph}
use Rattle.marshal_spec.proofs.canonical.Walk.{has_one_tree}
use Rattle.marshal_write.specs.graft.Copies.{IsCopy, StandFrom, IsWithin, AreWithin, HasCopy}
use Rattle.marshal_write.specs.graft.Laws.{CopiesAreTheSame, OneCopyFollows, CopiesAreClosed}
use Rattle.marshal_write.proofs.graft.ShiftLemmas.{later_value, later_object, root_later, objects_later}

slice_get-map : (f : Obj → Obj) (xs : List Obj) (i : ℕ) (o : Obj) → slice_get xs i ≡ Some o → slice_get (map f xs) i ≡ Some (f o)
slice_get-map f [] zero o is = absurd (none-some o is)
slice_get-map f [] (suc i) o is = absurd (none-some o is)
slice_get-map f (x ∷ xs) zero o is = ap (λ found. option_map f found) is
slice_get-map f (x ∷ xs) (suc i) o is = slice_get-map f xs i o is

-- ---- numbers shifted by c

module _ (c : ℕ) where
  abbrev moved : ℕ → ℕ × ℕ
  moved i = (c + i, i)

  abbrev all_moved : ℕ → List (ℕ × ℕ)
  all_moved n = map moved (below n)

  moved_is : (n k l : ℕ) → Contains (all_moved n) (k, l) → (l < n) × (k ≡ c + l)
  moved_is n k l among =
      let from = map-Contains moved (below n) (k, l) among in
      let second : from.0 ≡ l = ap (λ (p : ℕ × ℕ). p.1) from.2 in
      let first : c + from.0 ≡ k = ap (λ (p : ℕ × ℕ). p.0) from.2 in
      (subst (λ m. m < n) second (below-Contains n from.0 from.1), sym first ∙ ap (λ m. c + m) second)

  value_agree : (n : ℕ) (v : Val) → IsValue n v → Agree (all_moved n) (later_value c v) v
  value_agree n (vals.Int z) is = refl
  value_agree n (vals.Atom tag) is = refl
  value_agree n (vals.Ref k) is = Contains-map moved (below n) k (Contains-below n k is)

  values_agree : (n : ℕ) (vs : List Val) → ((v : Val) → Contains vs v → IsValue n v) → AllZip (Agree (all_moved n)) (map (later_value c) vs) vs
  values_agree n [] all = tt
  values_agree n (v ∷ vs) all =
      (value_agree n v (all v (Contains-first v vs)), values_agree n vs (λ w has. all w (Contains-later v vs w has)))

  object_agree : (n : ℕ) (o : Obj) → IsObject n o → AgreeObjects (all_moved n) (later_object c o) o
  object_agree n (objects.Block tag values) is =
      (refl, values_agree n values (λ v has. All-contains (IsValue n) values v is.2 has))
  object_agree n (objects.Bytes bytes) is = refl
  object_agree n (objects.Double bits) is = refl
  object_agree n (objects.Doubles all) is = refl
  object_agree n (objects.I32 z) is = refl
  object_agree n (objects.I64 z) is = refl
  object_agree n (objects.Native z) is = refl

  -- If the objects of a graph are placed after `c` other objects, then the graph stays the same
  -- graph with shifted numbers.
  module _ (own other : List Obj) (graph : IsGraph own) (stand : StandFrom other c (map (later_object c) own)) where
    pair_agree : (k l : ℕ) → (l < length own) × (k ≡ c + l)
        → IsSomeAnd (slice_get other k) (λ a. IsSomeAnd (slice_get own l) (λ b. AgreeObjects (all_moved (length own)) a b))
    pair_agree k l (there, is) =
        let found = slice_get_there own l there in
        let moved' = stand l (later_object c found.0) (slice_get-map (later_object c) own l found.0 found.1) in
        subst (λ m. IsSomeAnd (slice_get other m) (λ a. IsSomeAnd (slice_get own l) (λ b. AgreeObjects (all_moved (length own)) a b))) (sym is)
        (agree_at other own (all_moved (length own)) (c + l) l (later_object c found.0) found.0 moved' found.1
        (object_agree (length own) found.0
        (All-contains (IsObject (length own)) own found.0 graph (slice_get-Contains own l found.0 found.1))))

    pub moved_same : (v : Val) → IsValue (length own) v → Isomorphism other (later_value c v) own v
    moved_same v valid = (
      all_moved (length own),
      record {
        one_to_one = λ k l m n first second.
            let one = moved_is (length own) k l first in
            let two = moved_is (length own) m n second in
            let k_is = one.1 in
            let m_is = two.1 in
            (λ same. omega (arith, same, k_is, m_is), λ same. k_is ∙ ap (λ x. c + x) same ∙ sym m_is);
        agree = λ k l among. pair_agree k l (moved_is (length own) k l among);
      },
      value_agree (length own) v valid,
    )

-- ---- copies

behind : (c : ℕ) → c + 0 ≡ c
behind c = omega arith

module _ (graph : List Obj) (v : Val) (c : ℕ) (copied : List Obj) (value : Val) (copy : IsCopy graph v c copied value) where
  abbrev own : List Obj
  own = objects_of copy.tree 0

  copied_is : copied ≡ map (later_object c) own
  copied_is = copy.all ∙ ap (objects_of copy.tree) (sym (behind c)) ∙ objects_later c copy.tree 0 copy.is.is_tree copy.is.refers_back

  value_is : value ≡ later_value c (root copy.tree 0)
  value_is = copy.top ∙ ap (root copy.tree) (sym (behind c)) ∙ root_later c copy.tree 0 copy.is.refers_back

  pub copy_same : (other : List Obj) → StandFrom other c copied → Isomorphism other value graph v
  copy_same other stand =
      same_transitive other own graph value (root copy.tree 0) v
      (subst (λ w. Isomorphism other w own (root copy.tree 0)) (sym value_is)
      (moved_same c own other (is_graph copy.tree copy.is.is_tree copy.is.refers_back)
      (subst (λ all. StandFrom other c all) copied_is stand) (root copy.tree 0)
      (root_is_value copy.tree copy.is.is_tree copy.is.refers_back)))
      (same_symmetric graph own v (root copy.tree 0) copy.is.same)

pub copies_are_the_same_lem : CopiesAreTheSame
copies_are_the_same_lem graph v c copied value copy other stand = copy_same graph v c copied value copy other stand

pub one_copy_follows : OneCopyFollows
one_copy_follows graph v c is_graph' valid =
    let one = has_one_tree graph v is_graph' valid in
    record {
      copied = objects_of one.tree c;
      value = root one.tree c;
      is = record { tree = one.tree; is = one.is; all = refl; top = refl };
      only = λ others other copy.
          let same : copy.tree ≡ one.tree = one.only copy.tree copy.is in
          (copy.all ∙ ap (λ tree. objects_of tree c) same, copy.top ∙ ap (λ tree. root tree c) same);
    }

-- ---- a copy refers only to its own objects

module _ (c n : ℕ) where
  value_within : (v : Val) → IsValue n v → IsWithin c (c + n) (later_value c v)
  value_within (vals.Int z) is = tt
  value_within (vals.Atom tag) is = tt
  value_within (vals.Ref k) is = (omega arith, omega (arith, is))

  values_within : (vs : List Val) → ((v : Val) → Contains vs v → IsValue n v) → AllByRecursion (IsWithin c (c + n)) (map (later_value c) vs)
  values_within [] all = tt
  values_within (v ∷ vs) all =
      (value_within v (all v (Contains-first v vs)), values_within vs (λ w has. all w (Contains-later v vs w has)))

  object_within : (o : Obj) → IsObject n o → AreWithin c (c + n) (later_object c o)
  object_within (objects.Block tag values) is =
      All-from_recursion (IsWithin c (c + n)) (map (later_value c) values)
      (values_within values (λ v has. All-contains (IsValue n) values v is.2 has))
  object_within (objects.Bytes bytes) is = tt
  object_within (objects.Double bits) is = tt
  object_within (objects.Doubles all) is = tt
  object_within (objects.I32 z) is = tt
  object_within (objects.I64 z) is = tt
  object_within (objects.Native z) is = tt

  objects_within : (os : List Obj) → ((o : Obj) → Contains os o → IsObject n o) → AllByRecursion (AreWithin c (c + n)) (map (later_object c) os)
  objects_within [] all = tt
  objects_within (o ∷ os) all =
      (object_within o (all o (Contains-first o os)), objects_within os (λ p has. all p (Contains-later o os p has)))

length-map : (f : Obj → Obj) (xs : List Obj) → length (map f xs) ≡ length xs
length-map f [] = refl
length-map f (x ∷ xs) = ap suc (length-map f xs)

pub copies_are_closed : CopiesAreClosed
copies_are_closed graph v c copied value copy =
    let all : List Obj = objects_of copy.tree 0 in
    let is = copied_is graph v c copied value copy in
    let top = value_is graph v c copied value copy in
    let count : length copied ≡ length all = ap (λ (os : List Obj). length os) is ∙ length-map (later_object c) all in
    let valid = is_graph copy.tree copy.is.is_tree copy.is.refers_back in
    subst (λ n. IsWithin c (c + n) value × All (AreWithin c (c + n)) copied) (sym count) (
      subst (IsWithin c (c + length all)) (sym top)
          (value_within c (length all) (root copy.tree 0) (root_is_value copy.tree copy.is.is_tree copy.is.refers_back)),
      subst (λ os. All (AreWithin c (c + length all)) os) (sym is)
          (All-from_recursion (AreWithin c (c + length all)) (map (later_object c) all)
          (objects_within c (length all) all (λ o has. All-contains (IsObject (length all)) all o valid has))),
    )

-- ---- a graph followed by a copy

module _ (old new graph : List Obj) (v : Val) (copied : List Obj) (value : Val) (copy : IsCopy graph v (length old) copied value) (behind' : new ≡ old ++ copied) where
  pub stands_behind : StandFrom new (length old) copied
  stands_behind i o is = ap (λ g. slice_get g (length old + i)) behind' ∙ slice_get_right old copied i ∙ is

  pub has_copy : HasCopy old new graph v value
  has_copy =
      let closed = copies_are_closed graph v (length old) copied value copy in
      let many : length old + length copied ≡ length new = sym (ap (λ (g : List Obj). length g) behind' ∙ length-append old copied) in
      record {
        copied = copied;
        is = copy;
        behind = behind';
        same = copy_same graph v (length old) copied value copy new stands_behind;
        top_is_new = subst (λ n. IsWithin (length old) n value) many closed.0;
        all_are_new = subst (λ n. All (AreWithin (length old) n) copied) many closed.1;
      }
