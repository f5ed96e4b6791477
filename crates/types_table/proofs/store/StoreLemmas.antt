-- The effect of one more name or node on a store.
use Rattle.std.proofs.Common.{ℕ, zero, suc, ◌<◌, ◌≡◌, ◌∙◌, ⊎_elim, List, [], ◌∷◌, ◌++◌, length, map, Some, Result, Ok, Err, IfOk, OnErr, refl, sym, ap, subst, length-append, take, ◌≤◌, arith}
use Rattle.std.specs.Prelude.{slice_get}
use Rattle.std.proofs.lemmas.List.{map-append, length-map, append-nil, take-map}
use Rattle.std.proofs.lemmas.Option.{none-some, same_Some, slice_get_within, get_or_from_slice_get}
use Rattle.types_spec.specs.types.Ty.{Ty}
use Rattle.types_spec.specs.declared.types.ty.TypeTreeNode.TheVariants as written
use Rattle.types_spec.specs.types.TypeNodes.{type_of_node, types_of, IsBelow, AreOrdered}
use Rattle.types_spec.proofs.types.TypeNodeLemmas.{types_of-push, types_of-length, types_of-at, node_kept, AreOrdered-push, AreOrdered-take, types_of-take, from_prefix}
use Rattle.types_table.specs.declared.store.stored_node.StoredNode.{StoredNode}
use Rattle.types_table.specs.declared.store.stored_node.StoredNode.TheVariants as nodes
use Rattle.types_table.specs.store.Held.{AreDistinct, AddsOnce, Holds}
use Rattle.types_table.specs.store.View.{name_at, encoded, types_in, IsNamedBelow, IsStore}
use Rattle.types_table.proofs.store.StoreHeldLemmas.{get-map}

pub types_in-none : types_in [] [] ≡ []
unfolding types_of
types_in-none = refl

pub types_in-length : (names : List (List ℕ)) (all : List StoredNode) → length (types_in names all) ≡ length all
types_in-length names all = types_of-length (map (encoded names) all) ∙ length-map all (encoded names)

-- ---- one more name

name_kept : (names added : List (List ℕ)) (n : ℕ) → n < length names → name_at (names ++ added) n ≡ name_at names n
name_kept [] added n below = absurd (omega arith)
name_kept (name ∷ names) added zero below = refl
name_kept (name ∷ names) added (suc n) below = name_kept names added n (omega arith)

encoded_kept :
    (names added : List (List ℕ)) (node : StoredNode) → IsNamedBelow (length names) node
    → encoded (names ++ added) node ≡ encoded names node
encoded_kept names added (nodes.Variable n) below = ap written.Variable (name_kept names added n below)
encoded_kept names added (nodes.Named n) below = ap written.Named (name_kept names added n below)
encoded_kept names added nodes.Tuple below = refl
encoded_kept names added nodes.Bracket below = refl
encoded_kept names added (nodes.Part whole part) below = refl
encoded_kept names added (nodes.Tag whole n) below = ap (written.Tag whole) (name_kept names added n below)
encoded_kept names added (nodes.TagOf whole n argument) below =
    ap (λ x. written.TagOf whole x argument) (name_kept names added n below)
encoded_kept names added (nodes.Including whole included) below = refl

named_more : (n m : ℕ) → n < suc m → (node : StoredNode) → IsNamedBelow n node → IsNamedBelow m node
named_more n m more (nodes.Variable k) below = omega arith
named_more n m more (nodes.Named k) below = omega arith
named_more n m more nodes.Tuple below = tt
named_more n m more nodes.Bracket below = tt
named_more n m more (nodes.Part whole part) below = tt
named_more n m more (nodes.Tag whole k) below = omega arith
named_more n m more (nodes.TagOf whole k argument) below = omega arith
named_more n m more (nodes.Including whole included) below = tt

map_same :
    {A B : Type 0} (f g : A → B) (xs : List A)
    → ((i : ℕ) (x : A) → slice_get xs i ≡ Some x → f x ≡ g x) → map f xs ≡ map g xs
map_same f g [] same = refl
map_same f g (x ∷ xs) same =
    ap (λ y. y ∷ map f xs) (same 0 x refl) ∙ ap (λ ys. g x ∷ ys) (map_same f g xs (λ i. same (suc i)))

-- Lemmas on the list `new` of names, which extends the list `names`.
module _ (names new added : List (List ℕ)) (all : List StoredNode) (kept : new ≡ names ++ added) (store : IsStore names all) where
  encoded_same : map (encoded new) all ≡ map (encoded names) all
  encoded_same =
      ap (λ (ns : List (List ℕ)). map (encoded ns) all) kept
      ∙ map_same (encoded (names ++ added)) (encoded names) all (λ i node is. encoded_kept names added node (store.named i node is))

  pub types_in-names : types_in new all ≡ types_in names all
  types_in-names = ap types_of encoded_same

  pub store_names : AreDistinct new → IsStore new all
  store_names distinct = record {
    ordered = subst AreOrdered (sym encoded_same) store.ordered;
    named = λ i node is. named_more (length names) (length new) (omega (arith, ap length kept, length-append names added)) node (store.named i node is);
    own_names = distinct;
    own_nodes = store.own_nodes;
  }

-- If a list satisfies `AddsOnce`, then the list is `old` followed by zero or one elements.
pub added_by : {T : Type 0} (old new : List T) (x : T) (i : ℕ) → AddsOnce old new x i → (added : List T) × (new ≡ old ++ added)
added_by old new x i adds = ⊎_elim
    (λ same. ([], same ∙ sym (append-nil old)))
    (λ more. (x ∷ [], more))
    adds.grown

-- ---- one more node

module _ (names : List (List ℕ)) (all new : List StoredNode) (node : StoredNode) (i : ℕ) (store : IsStore names all)
    (adds : AddsOnce all new node i) (distinct : AreDistinct new) (known : IsNamedBelow (length names) node)
    (below : IsBelow (length (types_in names all)) (encoded names node)) where
  grown_map : (new ≡ all ++ node ∷ []) → map (encoded names) new ≡ map (encoded names) all ++ encoded names node ∷ []
  grown_map more = ap (map (encoded names)) more ∙ map-append (encoded names) all (node ∷ [])

  ordered_new : AreOrdered (map (encoded names) new)
  ordered_new = ⊎_elim
      (λ same. subst (λ ns. AreOrdered (map (encoded names) ns)) (sym same) store.ordered)
      (λ more. subst AreOrdered (sym (grown_map more))
      (AreOrdered-push (map (encoded names) all) (encoded names node) store.ordered
      (subst (λ n. IsBelow n (encoded names node)) (types_of-length (map (encoded names) all)) below)))
      adds.grown

  named_new : (k : ℕ) (other : StoredNode) → slice_get new k ≡ Some other → IsNamedBelow (length names) other
  named_new k other is = ⊎_elim
      (λ same. store.named k other (sym (ap (λ ns. slice_get ns k) same) ∙ is))
      (λ more. at_push all k (sym (ap (λ ns. slice_get ns k) more) ∙ is) (λ at. store.named k other at))
      adds.grown where
        at_push :
            (ns : List StoredNode) (j : ℕ) → slice_get (ns ++ node ∷ []) j ≡ Some other
            → (slice_get ns j ≡ Some other → IsNamedBelow (length names) other)
            → IsNamedBelow (length names) other
        at_push [] zero at before = subst (IsNamedBelow (length names)) (same_Some node other at) known
        at_push [] (suc j) at before = absurd (none-some other at)
        at_push (n ∷ ns) zero at before = before at
        at_push (n ∷ ns) (suc j) at before = at_push ns j at before

  pub store_node : IsStore names new
  store_node = record {
    ordered = ordered_new;
    named = named_new;
    own_names = store.own_names;
    own_nodes = distinct;
  }

  types_new : (added : List Ty) × (types_in names new ≡ types_in names all ++ added)
  types_new = ⊎_elim
      (λ same. ([], ap (types_in names) same ∙ sym (append-nil (types_in names all))))
      (λ more. (
        type_of_node (types_in names all) (encoded names node) ∷ [],
        ap types_of (grown_map more) ∙ types_of-push (map (encoded names) all) (encoded names node),
      ))
      adds.grown

  pub holds_node : Holds (types_in names all) (types_in names new) (type_of_node (types_in names all) (encoded names node)) i
  holds_node = record {
    added = types_new.0;
    kept = types_new.1;
    there = types_of-at (map (encoded names) new) i (encoded names node) ordered_new (get-map (encoded names) new i node adds.there)
        ∙ ap Some (ap (λ ts. type_of_node ts (encoded names node)) types_new.1
        ∙ node_kept (types_in names all) types_new.0 (encoded names node) below);
  }

-- ---- after a call

-- Lemmas on a call that adds a name, or fails and adds nothing.
module _ {E : Type 0} (names new : List (List ℕ)) (name : List ℕ) (r : Result ℕ E) (ok : IfOk r (AddsOnce names new name)) (err : OnErr r (new ≡ names)) where
  pub names_grown : (added : List (List ℕ)) × (new ≡ names ++ added)
  names_grown = by r ok err where
    by : (q : Result ℕ E) → IfOk q (AddsOnce names new name) → OnErr q (new ≡ names) → (added : List (List ℕ)) × (new ≡ names ++ added)
    by (Ok i) adds none = added_by names new name i adds
    by (Err e) none same = ([], same ∙ sym (append-nil names))

  pub name_below : IfOk r (λ n. n < length new)
  name_below = by r ok where
    by : (q : Result ℕ E) → IfOk q (AddsOnce names new name) → IfOk q (λ n. n < length new)
    by (Ok i) adds = slice_get_within new i name adds.there
    by (Err e) none = tt

  pub name_is : IfOk r (λ n. name_at new n ≡ name)
  name_is = by r ok where
    by : (q : Result ℕ E) → IfOk q (AddsOnce names new name) → IfOk q (λ n. name_at new n ≡ name)
    by (Ok i) adds = get_or_from_slice_get new i name [] adds.there
    by (Err e) none = tt

-- Lemmas on a call that adds a node, or fails and adds nothing.
module _ {E : Type 0} (names : List (List ℕ)) (all new : List StoredNode) (node : StoredNode) (r : Result ℕ E) (ok : IfOk r (AddsOnce all new node)) (err : OnErr r (new ≡ all))
    (store : IsStore names all) (distinct : AreDistinct new) (known : IsNamedBelow (length names) node)
    (below : IsBelow (length (types_in names all)) (encoded names node)) where
  pub store_after : IsStore names new
  store_after = by r ok err where
    by : (q : Result ℕ E) → IfOk q (AddsOnce all new node) → OnErr q (new ≡ all) → IsStore names new
    by (Ok i) adds none = store_node names all new node i store adds distinct known below
    by (Err e) none same = subst (IsStore names) (sym same) store

  pub holds_after : IfOk r (Holds (types_in names all) (types_in names new) (type_of_node (types_in names all) (encoded names node)))
  holds_after = by r ok where
    by : (q : Result ℕ E) → IfOk q (AddsOnce all new node) → IfOk q (Holds (types_in names all) (types_in names new) (type_of_node (types_in names all) (encoded names node)))
    by (Ok i) adds = holds_node names all new node i store adds distinct known below
    by (Err e) none = tt

-- The type with number `i` in a store is the type of node `i`.
pub node_at :
    (names : List (List ℕ)) (all : List StoredNode) (i : ℕ) (node : StoredNode) → IsStore names all
    → slice_get all i ≡ Some node
    → slice_get (types_in names all) i ≡ Some (type_of_node (types_in names all) (encoded names node))
node_at names all i node store is =
    types_of-at (map (encoded names) all) i (encoded names node) store.ordered (get-map (encoded names) all i node is)

-- ---- the first nodes

pub types_in-take :
    (n : ℕ) (names : List (List ℕ)) (all : List StoredNode) → n ≤ length all
    → types_in names (take n all) ≡ take n (types_in names all)
types_in-take n names all within =
    let many : n ≤ length (map (encoded names) all) = omega (arith, length-map all (encoded names)) in
    ap types_of (sym (take-map (encoded names) n all)) ∙ types_of-take n (map (encoded names) all) many

pub store_take : (n : ℕ) (names : List (List ℕ)) (all : List StoredNode) → IsStore names all → IsStore names (take n all)
store_take n names all store = record {
  ordered = subst AreOrdered (take-map (encoded names) n all) (AreOrdered-take n (map (encoded names) all) store.ordered);
  named = λ i node is. store.named i node (from_prefix n all i node is);
  own_names = store.own_names;
  own_nodes = λ i j node at_i at_j. store.own_nodes i j node (from_prefix n all i node at_i) (from_prefix n all j node at_j);
}
