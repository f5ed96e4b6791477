-- The number of values that are still expected after tokens.
use Rattle.std.proofs.Common.{◌≡◌, ◌+◌, ◌-◌, ◌<◌, ◌≤◌, List, [], ◌∷◌, ◌++◌, length, map, sum_by, Option, refl, arith, length-append, append_assoc, append-nil}
use Rattle.std.proofs.lemmas.List.{map-append, length_push}
use Rattle.std.proofs.lemmas.List.Sums.{sum_by-append, sum_by-cons, sum_by_push}
use Rattle.base_data.specs.declared.model.code.Measure.{Measure}
use Rattle.marshal_spec.specs.format.Words.{of_object, fields, pending}
use Rattle.marshal_spec.specs.format.Token.{Token, measure_of}
use Rattle.marshal_spec.specs.format.Tree.{Tree, Forest, node, none, more, trees_in, IsTree, AreTrees, tokens, forest_tokens}
use Rattle.marshal_spec.specs.format.Preorder.{OpenBefore}

-- A token is one of the expected values, and adds its fields to the expected values.
pub pending_push : (ms : List (Option Measure)) (m : Option Measure) → 0 < pending ms → pending (ms ++ m ∷ []) ≡ pending ms - 1 + of_object fields m
pending_push ms m h =
    let s = sum_by_push (of_object fields) ms m in
    let l = length_push ms m in
    rw (s, l) (omega arith)

-- Each expected value takes at least one token.
pub pending-le : (ms ns : List (Option Measure)) → pending ms ≤ pending (ms ++ ns) + length ns
pending-le ms ns =
    let s = sum_by-append (of_object fields) ms ns in
    let l = length-append ms ns in
    rw (s, l) (omega arith)

pub pending-le-length : (ms ns : List (Option Measure)) → pending (ms ++ ns) ≡ 0 → pending ms ≤ length ns
pending-le-length ms ns h = omega (arith, pending-le ms ns)

-- A token's measure may be appended to the measures before, or prepended to the measures after.

before_push : (ms : List (Option Measure)) (t : Token) (ts : List Token) → (ms ++ measure_of t ∷ []) ++ map measure_of ts ≡ ms ++ map measure_of (t ∷ ts)
before_push ms t ts = append_assoc ms (measure_of t ∷ []) (map measure_of ts)

pub OpenBefore-append : (ms : List (Option Measure)) (xs ys : List Token) → OpenBefore ms xs → OpenBefore (ms ++ map measure_of xs) ys → OpenBefore ms (xs ++ ys)
OpenBefore-append ms [] ys h k = rw append-nil at k
OpenBefore-append ms (x ∷ xs) ys h k =
    (h.0, OpenBefore-append (ms ++ measure_of x ∷ []) xs ys h.1 (rw (before_push ms x xs) k))

-- The tokens of a tree together are one value.

-- The fields of all tokens of a tree are one fewer than the tokens of the tree.
mutual
  fields-tokens : (tree : Tree) → IsTree tree → sum_by (of_object fields) (map measure_of (tokens tree)) + 1 ≡ length (map measure_of (tokens tree))
  fields-tokens (node t f) h =
      let s = sum_by-cons (of_object fields) (measure_of t) (map measure_of (forest_tokens f)) in
      let k = fields-forest_tokens f h.2 in
      rw s (omega arith)

  fields-forest_tokens : (f : Forest) → AreTrees f → sum_by (of_object fields) (map measure_of (forest_tokens f)) + trees_in f ≡ length (map measure_of (forest_tokens f))
  fields-forest_tokens none h = refl
  fields-forest_tokens (more tree f) h =
      let m = map-append measure_of (tokens tree) (forest_tokens f) in
      let s = sum_by-append (of_object fields) (map measure_of (tokens tree)) (map measure_of (forest_tokens f)) in
      let l = length-append (map measure_of (tokens tree)) (map measure_of (forest_tokens f)) in
      let j = fields-tokens tree h.0 in
      let k = fields-forest_tokens f h.1 in
      rw (m, s, l) (omega arith)

pub pending-tokens : (ms : List (Option Measure)) (tree : Tree) → IsTree tree → 0 < pending ms → pending (ms ++ map measure_of (tokens tree)) + 1 ≡ pending ms
pending-tokens ms tree h k =
    let s = sum_by-append (of_object fields) ms (map measure_of (tokens tree)) in
    let l = length-append ms (map measure_of (tokens tree)) in
    let e = fields-tokens tree h in
    rw (s, l) (omega arith)

-- If a value is expected before a tree, then a value is expected at each token of the tree.
mutual
  pub open_tokens : (ms : List (Option Measure)) (tree : Tree) → IsTree tree → 0 < pending ms → OpenBefore ms (tokens tree)
  open_tokens ms (node t f) h k =
      (k, open_forest_tokens (ms ++ measure_of t ∷ []) f h.2 (let e = pending_push ms (measure_of t) k in rw e (omega arith)))

  pub open_forest_tokens : (ms : List (Option Measure)) (f : Forest) → AreTrees f → trees_in f ≤ pending ms → OpenBefore ms (forest_tokens f)
  open_forest_tokens ms none h k = tt
  open_forest_tokens ms (more tree f) h k =
      OpenBefore-append ms (tokens tree) (forest_tokens f)
      (open_tokens ms tree h.0 (omega arith))
      (open_forest_tokens (ms ++ map measure_of (tokens tree)) f h.1 (let p : 0 < pending ms = omega arith in let e = pending-tokens ms tree h.0 p in omega arith))
