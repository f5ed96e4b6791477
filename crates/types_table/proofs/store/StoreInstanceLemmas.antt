-- Instances of types, computed node by node.
use Rattle.std.proofs.Common.{ℕ, zero, suc, ◌+◌, ◌-◌, ◌<◌, ◌≤◌, ◌≡◌, ◌∙◌, List, [], ◌∷◌, ◌++◌, length, map, take, drop, Bool, false, cond, Some, None, refl, sym, ap, subst, length-append, All, Contains, min, Result, Ok, Err, IfOk, arith}
use Rattle.std.specs.Prelude.{slice_get}
use Rattle.std.specs.Str.{bytes_eq}
use Rattle.std.proofs.lemmas.List.{map-append, length-map, append-nil, length-take-le}
use Rattle.std.proofs.Math.Seq.{take-length}
use Rattle.std.proofs.lemmas.List.Elements.{All-nil, All-head, All-tail, All-push, All-weaker}
use Rattle.std.proofs.lemmas.Option.{none-some, same_Some, slice_get_within, get_or_from_slice_get, slice_get-get_or}
use Rattle.base_data.proofs.model.Options.{slice_get_there}
use Rattle.types_table.proofs.store.StoreHeldLemmas.{get-map, Grows-held}
use Rattle.types_spec.specs.types.Ty.{Ty, variable, named, tuple, bracket, part, tag, tag_of, including, instance, argument_for}
use Rattle.types_spec.specs.declared.types.ty.TypeTreeNode.{TypeTreeNode}
use Rattle.types_spec.specs.declared.types.ty.TypeTreeNode.TheVariants as nodes
use Rattle.types_spec.specs.types.TypeNodes.{type_at, type_of_node, types_of, type_of}
use Rattle.types_spec.proofs.types.TypeNodeLemmas.{types_of-push, types_of-length, at_kept}
use Rattle.types_table.specs.store.Held.{Holds, Grows}
use Rattle.types_table.specs.store.Instance.{instance_of_node, argument_at, AreInstances, HasNumbers, HoldsEach}

-- ---- earlier types keep their numbers

types_at-grown :
    (types added : List Ty) (numbers : List ℕ) → All (λ i. i < length types) numbers
    → map (type_at (types ++ added)) numbers ≡ map (type_at types) numbers
types_at-grown types added [] below = refl
types_at-grown types added (n ∷ numbers) below =
    ap (λ t. t ∷ map (type_at (types ++ added)) numbers) (at_kept types added n (All-head (λ i. i < length types) n numbers below))
    ∙ ap (λ ts. type_at types n ∷ ts) (types_at-grown types added numbers (All-tail (λ i. i < length types) n numbers below))

pub types_at-kept :
    (old new added : List Ty) (numbers : List ℕ) → new ≡ old ++ added → All (λ i. i < length old) numbers
    → map (type_at new) numbers ≡ map (type_at old) numbers
types_at-kept old new added numbers kept below =
    ap (λ ts. map (type_at ts) numbers) kept ∙ types_at-grown old added numbers below

pub below_kept :
    (old new added : List Ty) (numbers : List ℕ) → new ≡ old ++ added → All (λ i. i < length old) numbers
    → All (λ i. i < length new) numbers
below_kept old new added numbers kept below =
    let many : length new ≡ length old + length added = ap length kept ∙ length-append old added in
    All-weaker (λ i. i < length old) (λ i. i < length new) (λ i less. omega arith) numbers below

-- ---- one node

type_at-instance :
    (value : List ℕ → Ty) (types : List Ty) (i : ℕ)
    → type_at (map (instance value) types) i ≡ instance value (type_at types i)
type_at-instance value [] zero = refl
type_at-instance value [] (suc i) = refl
type_at-instance value (t ∷ types) zero = refl
type_at-instance value (t ∷ types) (suc i) = type_at-instance value types i

node_instance :
    (value : List ℕ → Ty) (types : List Ty) (node : TypeTreeNode)
    → instance_of_node value (map (instance value) types) node ≡ instance value (type_of_node types node)
node_instance value types (nodes.Variable name) = refl
node_instance value types (nodes.Named name) = refl
node_instance value types nodes.Tuple = refl
node_instance value types nodes.Bracket = refl
node_instance value types (nodes.Part whole added) =
    λ k. part (type_at-instance value types whole k) (type_at-instance value types added k)
node_instance value types (nodes.Tag whole name) = λ k. tag (type_at-instance value types whole k) name
node_instance value types (nodes.TagOf whole name argument) =
    λ k. tag_of (type_at-instance value types whole k) name (type_at-instance value types argument k)
node_instance value types (nodes.Including whole included) =
    λ k. including (type_at-instance value types whole k) (type_at-instance value types included k)

-- ---- the loop over the nodes

pub AreInstances-none :
    (old : List Ty) (value : List ℕ → Ty) (all : List TypeTreeNode) → AreInstances old old value all 0 []
unfolding types_of
AreInstances-none old value all = record {
  grown = record { added = []; kept = sym (append-nil old) };
  below = All-nil (λ i. i < length old);
  are = refl;
}

take-more :
    (all : List TypeTreeNode) (k : ℕ) (node : TypeTreeNode) → slice_get all k ≡ Some node
    → take (suc k) all ≡ take k all ++ node ∷ []
take-more [] k node is = absurd (none-some node is)
take-more (first ∷ all) zero node is = ap (λ n. n ∷ []) (same_Some first node is)
take-more (first ∷ all) (suc k) node is = ap (λ ns. first ∷ ns) (take-more all k node is)

module _ (old types : List Ty) (value : List ℕ → Ty) (all : List TypeTreeNode) (k : ℕ) (numbers : List ℕ) (so_far : AreInstances old types value all k numbers) where
  pub AreInstances-many : k ≤ length all → length numbers ≡ k
  AreInstances-many within =
      sym (length-map numbers (type_at types)) ∙ ap length so_far.are ∙ length-map (types_of (take k all)) (instance value)
      ∙ types_of-length (take k all) ∙ length-take-le k all within

  module _ (node : TypeTreeNode) (is : slice_get all k ≡ Some node) (new : List Ty) (i : ℕ)
      (held : Holds types new (instance_of_node value (map (type_at types) numbers) node) i) where
    there : type_at new i ≡ instance value (type_of_node (types_of (take k all)) node)
    there =
        get_or_from_slice_get new i (instance_of_node value (map (type_at types) numbers) node) tuple held.there
        ∙ ap (λ ts. instance_of_node value ts node) so_far.are
        ∙ node_instance value (types_of (take k all)) node

    pub AreInstances-more : AreInstances old new value all (suc k) (numbers ++ i ∷ [])
    AreInstances-more = record {
      grown = Grows-held old types new _ i so_far.grown held;
      below = All-push (λ j. j < length new) numbers i (below_kept types new held.added numbers held.kept so_far.below) (slice_get_within new i _ held.there);
      are = map-append (type_at new) numbers (i ∷ [])
          ∙ (λ j. (types_at-kept types new held.added numbers held.kept so_far.below ∙ so_far.are) j ++ there j ∷ [])
          ∙ sym (map-append (instance value) (types_of (take k all)) (type_of_node (types_of (take k all)) node ∷ []))
          ∙ ap (map (instance value)) (sym (types_of-push (take k all) node) ∙ ap types_of (sym (take-more all k node is)));
    }

-- If the instance of the next node was made in an extended store, then the instances of one more
-- node are known.
module _ (old types : List Ty) (parameters : List (List ℕ)) (arguments : List ℕ) (all : List TypeTreeNode) (k : ℕ) (numbers : List ℕ)
    (so_far : AreInstances old types (argument_at old parameters arguments) all k numbers)
    (among : All (λ i. i < length old) arguments) where
  argument_at-kept : argument_at types parameters arguments ≡ argument_at old parameters arguments
  argument_at-kept =
      ap (argument_for parameters) (types_at-kept old types so_far.grown.added arguments so_far.grown.kept among)

  module _ (node : TypeTreeNode) (borrowed : List ℕ) (same : borrowed ≡ numbers) (new : List Ty) (i : ℕ)
      (held : Holds types new (instance_of_node (argument_at types parameters arguments) (map (type_at types) borrowed) node) i) where
    here : Holds types new (instance_of_node (argument_at old parameters arguments) (map (type_at types) numbers) node) i
    here = subst (λ t. Holds types new t i)
        (λ j. instance_of_node (argument_at-kept j) (map (type_at types) (same j)) node) held

    pub grown_next : Grows old new
    grown_next = Grows-held old types new _ i so_far.grown held

    pub AreInstances-next :
        slice_get all k ≡ Some node
        → AreInstances old new (argument_at old parameters arguments) all (k + 1) (numbers ++ i ∷ [])
    AreInstances-next is =
        let next : suc k ≡ k + 1 = omega arith in
        subst (λ m. AreInstances old new (argument_at old parameters arguments) all m (numbers ++ i ∷ [])) next
        (AreInstances-more old types (argument_at old parameters arguments) all k numbers so_far node is new i here)

-- ---- the last number

type_of-some : (all : List TypeTreeNode) → type_of all ≡ type_at (types_of all) (length all - 1)
unfolding type_of
type_of-some all = refl

type_of-none : type_of [] ≡ tuple
unfolding type_of types_of
type_of-none = refl

module _ (old types : List Ty) (value : List ℕ → Ty) (all : List TypeTreeNode) (numbers : List ℕ) (whole : AreInstances old types value all (length all) numbers) where
  many : length numbers ≡ length all
  many = AreInstances-many old types value all (length all) numbers whole (omega arith)

  pub last_instance :
      (number : ℕ) → slice_get numbers (length numbers - 1) ≡ Some number
      → slice_get types number ≡ Some (instance value (type_of all))
  last_instance number is =
      let j = length numbers - 1 in
      let within : j < length numbers = slice_get_within numbers j number is in
      let inside : number < length types = subst (λ n. n < length types) (get_or_from_slice_get numbers j number number is) (whole.below j number within) in
      let all_types : map (type_at types) numbers ≡ map (instance value) (types_of all) =
      whole.are ∙ ap (λ ns. map (instance value) (types_of ns)) (take-length all) in
      let left : slice_get (map (type_at types) numbers) j ≡ Some (type_at types number) = get-map (type_at types) numbers j number is in
      let bound : j < length (types_of all) = omega (arith, types_of-length all, many, within) in
      let right : slice_get (map (instance value) (types_of all)) j ≡ Some (instance value (type_at (types_of all) j)) =
      get-map (instance value) (types_of all) j (type_at (types_of all) j) (slice_get-get_or (types_of all) j tuple bound) in
      let same : type_at types number ≡ instance value (type_at (types_of all) j) =
      same_Some (type_at types number) (instance value (type_at (types_of all) j)) (sym left ∙ ap (λ ts. slice_get ts j) all_types ∙ right) in
      slice_get-get_or types number tuple inside
      ∙ ap Some (same ∙ ap (instance value) (ap (λ n. type_at (types_of all) (n - 1)) many ∙ sym (type_of-some all)))

  pub no_instance :
      slice_get numbers (length numbers - 1) ≡ None → instance value (type_of all) ≡ tuple
  no_instance none = by all refl where
    by : (ns : List TypeTreeNode) → all ≡ ns → instance value (type_of all) ≡ tuple
    by [] e = ap (instance value) (ap type_of e ∙ type_of-none)
    by (n ∷ ns) e =
        let within : length numbers - 1 < length numbers = omega (arith, many, ap length e) in
        let some = slice_get_there numbers (length numbers - 1) within in
        absurd (none-some some.0 (sym none ∙ some.1))

-- ---- arguments by name

pub holds_there : (types : List Ty) (i : ℕ) (t : Ty) → i < length types → type_at types i ≡ t → Holds types types t i
holds_there types i t within is =
    record { added = []; kept = sym (append-nil types); there = slice_get-get_or types i tuple within ∙ ap Some is }

pub among_below :
    (types : List Ty) (arguments : List ℕ) (i : ℕ) → All (λ k. k < length types) arguments
    → Contains arguments i → i < length types
among_below types arguments i all (k, within, is) = subst (λ n. n < length types) is (all k i within)

pub argument_skipped :
    (types : List Ty) (name : List ℕ) (i : ℕ) (parameters : List (List ℕ)) (arguments : List ℕ) (p : List ℕ)
    → slice_get parameters i ≡ Some p → i < length arguments → bytes_eq p name ≡ false
    → argument_at types (drop i parameters) (drop i arguments) name
    ≡ argument_at types (drop (suc i) parameters) (drop (suc i) arguments) name
argument_skipped types name zero [] arguments p is within differ = absurd (none-some p is)
argument_skipped types name (suc i) [] arguments p is within differ = absurd (none-some p is)
argument_skipped types name zero (q ∷ parameters) [] p is within differ = absurd (omega arith)
argument_skipped types name (suc i) (q ∷ parameters) [] p is within differ = absurd (omega arith)
argument_skipped types name zero (q ∷ parameters) (a ∷ arguments) p is within differ =
    ap (λ (b : Bool). cond b (type_at types a) (argument_at types parameters arguments name))
    (ap (λ x. bytes_eq x name) (same_Some q p is) ∙ differ)
argument_skipped types name (suc i) (q ∷ parameters) (a ∷ arguments) p is within differ =
    argument_skipped types name i parameters arguments p is (omega arith) differ

pub argument_none :
    (types : List Ty) (name : List ℕ) (i : ℕ) (parameters : List (List ℕ)) (arguments : List ℕ)
    → min (length parameters) (length arguments) ≤ i
    → argument_at types (drop i parameters) (drop i arguments) name ≡ variable name
argument_none types name zero [] arguments past = refl
argument_none types name (suc i) [] arguments past = refl
argument_none types name zero (q ∷ parameters) [] past = refl
argument_none types name (suc i) (q ∷ parameters) [] past = none_left (drop i parameters) where
  none_left : (ps : List (List ℕ)) → argument_at types ps [] name ≡ variable name
  none_left [] = refl
  none_left (p ∷ ps) = refl
argument_none types name zero (q ∷ parameters) (a ∷ arguments) past = absurd (omega arith)
argument_none types name (suc i) (q ∷ parameters) (a ∷ arguments) past =
    argument_none types name i parameters arguments (omega arith)

pub held_is :
    {E : Type 0} (r : Result ℕ E) (types new : List Ty) (t u : Ty) → t ≡ u → IfOk r (Holds types new t)
    → IfOk r (λ i. slice_get new i ≡ Some u)
held_is (Ok i) types new t u same held = held.there ∙ ap Some same
held_is (Err e) types new t u same held = tt

-- If `value` maps each variable to itself, then the instance of a type is the type.
pub instance_itself :
    (value : List ℕ → Ty) → ((x : List ℕ) → value x ≡ variable x) → (t : Ty) → instance value t ≡ t
instance_itself value same (variable x) = same x
instance_itself value same (named x) = refl
instance_itself value same tuple = refl
instance_itself value same bracket = refl
instance_itself value same (part t u) = λ k. part (instance_itself value same t k) (instance_itself value same u k)
instance_itself value same (tag t x) = λ k. tag (instance_itself value same t k) x
instance_itself value same (tag_of t x u) = λ k. tag_of (instance_itself value same t k) x (instance_itself value same u k)
instance_itself value same (including t u) = λ k. including (instance_itself value same t k) (instance_itself value same u k)

instances_themselves :
    (value : List ℕ → Ty) → ((x : List ℕ) → value x ≡ variable x) → (ts : List Ty) → map (instance value) ts ≡ ts
instances_themselves value same [] = refl
instances_themselves value same (t ∷ ts) = λ k. instance_itself value same t k ∷ instances_themselves value same ts k

pub each_there :
    (old types : List Ty) (value : List ℕ → Ty) (all : List TypeTreeNode) (numbers : List ℕ)
    → ((x : List ℕ) → value x ≡ variable x) → AreInstances old types value all (length all) numbers
    → HoldsEach old types (types_of all) numbers
each_there old types value all numbers same are = record {
  grown = are.grown;
  has = record {
    below = are.below;
    are = are.are ∙ instances_themselves value same (types_of (take (length all) all)) ∙ ap types_of (take-length all);
  };
}

-- If `all` are the types with `numbers`, then the type with the `i`-th number is the `i`-th type of
-- `all`.
pub number_there :
    (types all : List Ty) (numbers : List ℕ) (i n : ℕ) → HasNumbers types all numbers → slice_get numbers i ≡ Some n
    → type_at types n ≡ type_at all i
number_there types all numbers i n has is =
    sym (get_or_from_slice_get all i (type_at types n) tuple
    (ap (λ ts. slice_get ts i) (sym has.are) ∙ get-map (type_at types) numbers i n is))

pub numbers_many : (types all : List Ty) (numbers : List ℕ) → HasNumbers types all numbers → length numbers ≡ length all
numbers_many types all numbers has = sym (length-map numbers (type_at types)) ∙ ap length has.are

-- If types are appended to a store, then each number keeps its type.
pub numbers_kept :
    (types new all : List Ty) (numbers : List ℕ) → HasNumbers types all numbers → Grows types new
    → HasNumbers new all numbers
numbers_kept types new all numbers has grown = record {
  below = below_kept types new grown.added numbers grown.kept has.below;
  are = types_at-kept types new grown.added numbers grown.kept has.below ∙ has.are;
}
