-- An encoded value has few objects, each object has few fields, and each reference leads to one of
-- the objects.
use Rattle.std.proofs.Common.{◌≡◌, ℕ, zero, suc, ◌+◌, ◌<◌, ◌≤◌, ◌^◌, List, [], ◌∷◌, length, Some, length-append, arith, subst}
use Rattle.std.specs.Prelude.{slice_get}
use Rattle.std.specs.List.{AllByRecursion}
use Rattle.std.proofs.lemmas.Option.{slice_get_within, option_and_then_some, none-some, same_Some}
use Rattle.base_data.specs.declared.model.value.Obj.{Obj}
use Rattle.base_data.specs.declared.model.value.Obj.TheVariants as objects
use Rattle.base_data.specs.declared.model.value.Val.{Val}
use Rattle.base_data.specs.declared.model.value.Val.TheVariants as vals
use Rattle.base_data.proofs.model.Lists.{AllByRecursion-append}
use Rattle.marshal_spec.specs.format.Encoded.{EncodedUnder}
use Rattle.marshal_spec.specs.format.Token.{Token, integer, atom, shared, block, leaf}
use Rattle.marshal_spec.specs.format.Tree.{Tree, Forest, node, none, more, IsTree, AreTrees, trees_in, tokens, forest_tokens, root, roots, made, made_by, all_made, object_of, objects_of, all_objects}
use Rattle.marshal_spec.proofs.format.Counts.{length-roots, trees_in-le}
use Rattle.marshal_spec.proofs.format.EncodeValues.{bytes_of_tokens}
use Rattle.types_spec.specs.types.Typing.{values_of, field_at}

-- If the value is a reference, then its object number is at most `n`.
abbrev pub IsUpTo : ℕ → Val → Type 0
IsUpTo n (vals.Int z) = Unit {0}
IsUpTo n (vals.Atom tag) = Unit {0}
IsUpTo n (vals.Ref o) = o ≤ n

-- The object has at most `n` values, and none of the values refers to an object after object `n`.
pub record IsFew (n : ℕ) (object : Obj) : Type 0 where
  pub many : length (values_of object) ≤ n
  pub up_to : AllByRecursion (IsUpTo n) (values_of object)

-- ---- counts

made_by_one : (t : Token) → made_by t ≤ 1
made_by_one (integer z) = omega arith
made_by_one (atom tag) = omega arith
made_by_one (shared offset) = omega arith
made_by_one (block tag size) = omega arith
made_by_one (leaf (objects.Block tag values)) = omega arith
made_by_one (leaf (objects.Bytes bytes)) = omega arith
made_by_one (leaf (objects.Double bits)) = omega arith
made_by_one (leaf (objects.Doubles all)) = omega arith
made_by_one (leaf (objects.I32 z)) = omega arith
made_by_one (leaf (objects.I64 z)) = omega arith
made_by_one (leaf (objects.Native z)) = omega arith

mutual
  few_made : (tree : Tree) → made tree ≤ length (tokens tree)
  few_made (node t f) = omega (arith, made_by_one t, all_few_made f)

  all_few_made : (f : Forest) → all_made f ≤ length (forest_tokens f)
  all_few_made none = omega arith
  all_few_made (more tree f) =
      omega (arith, few_made tree, all_few_made f, length-append (tokens tree) (forest_tokens f))

-- ---- values

root_up_to : (tree : Tree) (c n : ℕ) → c ≤ n → IsUpTo n (root tree c)
root_up_to (node (integer z) f) c n fits = tt
root_up_to (node (atom tag) f) c n fits = tt
root_up_to (node (shared offset) f) c n fits = omega (arith, fits)
root_up_to (node (block tag size) f) c n fits = fits
root_up_to (node (leaf object) f) c n fits = fits

roots_up_to : (f : Forest) (c n : ℕ) → c + all_made f ≤ n → AllByRecursion (IsUpTo n) (roots f c)
roots_up_to none c n fits = tt
roots_up_to (more tree f) c n fits = (
  root_up_to tree c n (omega (arith, fits)),
  roots_up_to f (c + made tree) n (omega (arith, fits)),
)

-- ---- objects

object_few : (t : Token) (f : Forest) (c n : ℕ) → IsTree (node t f) → c + made (node t f) ≤ n
    → length (tokens (node t f)) ≤ n
    → AllByRecursion (IsFew n) (object_of t (roots f (c + made_by t)))
object_few (integer z) f c n h fits many = tt
object_few (atom tag) f c n h fits many = tt
object_few (shared offset) f c n h fits many = tt
object_few (block tag size) f c n h fits many = (
  record {
    many = omega (arith, length-roots f (c + 1), trees_in-le f, many);
    up_to = roots_up_to f (c + 1) n (omega (arith, fits));
  },
  tt,
)
object_few (leaf (objects.Block tag values)) f c n h fits many = absurd h.0
object_few (leaf (objects.Bytes bytes)) f c n h fits many =
    (record { many = omega arith; up_to = tt }, tt)
object_few (leaf (objects.Double bits)) f c n h fits many =
    (record { many = omega arith; up_to = tt }, tt)
object_few (leaf (objects.Doubles all)) f c n h fits many =
    (record { many = omega arith; up_to = tt }, tt)
object_few (leaf (objects.I32 z)) f c n h fits many =
    (record { many = omega arith; up_to = tt }, tt)
object_few (leaf (objects.I64 z)) f c n h fits many =
    (record { many = omega arith; up_to = tt }, tt)
object_few (leaf (objects.Native z)) f c n h fits many =
    (record { many = omega arith; up_to = tt }, tt)

mutual
  objects_few : (tree : Tree) (c n : ℕ) → IsTree tree → c + made tree ≤ n
      → length (tokens tree) ≤ n → AllByRecursion (IsFew n) (objects_of tree c)
  objects_few (node t f) c n h fits many =
      AllByRecursion-append (IsFew n) (object_of t (roots f (c + made_by t)))
      (all_objects f (c + made_by t)) (object_few t f c n h fits many)
      (forest_few f (c + made_by t) n h.2 (omega (arith, fits)) (omega (arith, many)))

  forest_few : (f : Forest) (c n : ℕ) → AreTrees f → c + all_made f ≤ n
      → length (forest_tokens f) ≤ n → AllByRecursion (IsFew n) (all_objects f c)
  forest_few none c n h fits many = tt
  forest_few (more tree f) c n h fits many =
      let both = length-append (tokens tree) (forest_tokens f) in
      AllByRecursion-append (IsFew n) (objects_of tree c) (all_objects f (c + made tree))
      (objects_few tree c n h.0 (omega (arith, fits)) (omega (arith, many, both)))
      (forest_few f (c + made tree) n h.1 (omega (arith, fits)) (omega (arith, many, both)))

-- ---- fields

one_of : {X : Type 0} (P : X → Type 0) (xs : List X) (i : ℕ) (x : X) → AllByRecursion P xs
    → slice_get xs i ≡ Some x → P x
one_of P [] i x h at = absurd (none-some x at)
one_of P (y ∷ xs) zero x h at = subst P (same_Some y x at) h.0
one_of P (y ∷ xs) (suc i) x h at = one_of P xs i x h.1 at

-- Each field of an object in the graph has an index below `n`, and does not refer to an object
-- after object `n`.
abbrev pub AreFew : ℕ → List Obj → Type 0
AreFew n graph =
    (o i : ℕ) (w : Val) → field_at graph o i ≡ Some w → (i < n) × IsUpTo n w

fields_few : (n : ℕ) (graph : List Obj) → AllByRecursion (IsFew n) graph → AreFew n graph
fields_few n graph h o i w at =
    option_and_then_some (λ object. slice_get (values_of object) i) (slice_get graph o) w at
    (λ object found has.
    let few = one_of (IsFew n) graph o object h found in
    let within = slice_get_within (values_of object) i w has in (
      omega (arith, few.many, within),
      one_of (IsUpTo n) (values_of object) i w few.up_to has,
    ))

-- The bounds hold for the objects of an encoded value, and for its root.
pub record IsSmall (tree : Tree) : Type 0 where
  pub bound : ℕ
  pub below : bound < 2 ^ 63
  pub fields : AreFew bound (objects_of tree 0)
  pub root : IsUpTo bound (root tree 0)

pub encoded_small : (limit : ℕ) (bytes : List ℕ) (tree : Tree) → EncodedUnder limit bytes tree
    → IsSmall tree
encoded_small limit bytes tree s =
    let long = bytes_of_tokens (tokens tree) s.chunks s.encodes.encodes in
    let n = length (tokens tree) in record {
      bound = n;
      below = omega (arith, long, s.encodes.length, s.small);
      fields = fields_few n (objects_of tree 0)
          (objects_few tree 0 n s.encodes.is_tree (omega (arith, few_made tree)) (omega arith));
      root = root_up_to tree 0 n (omega arith);
    }
