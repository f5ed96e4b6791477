-- If a value is expected before each token and no value at the end, then the tokens are the tokens
-- of one tree.
use Rattle.std.proofs.Common.{◌≡◌, ℕ, zero, suc, ◌+◌, ◌-◌, ◌<◌, List, [], ◌∷◌, ◌++◌, map, Option, All, refl, ap, sym, ◌∙◌, arith, append_assoc, append-nil}
use Rattle.std.proofs.lemmas.List.Elements.{All-head, All-tail}
use Rattle.base_data.specs.declared.model.code.Measure.{Measure}
use Rattle.marshal_spec.specs.format.Words.{of_object, fields, pending}
use Rattle.marshal_spec.specs.format.Token.{Token, IsToken, measure_of}
use Rattle.marshal_spec.specs.format.Tree.{Tree, Forest, node, none, more, trees_in, IsTree, AreTrees, tokens, forest_tokens}
use Rattle.marshal_spec.specs.format.Preorder.{OpenBefore}
use Rattle.marshal_spec.proofs.format.Pending.{pending_push}

-- A forest of `n` trees whose tokens are `ts`.
pub record TreesOf (ts : List Token) (n : ℕ) : Type 0 where
  pub forest : Forest
  pub tokens_are : forest_tokens forest ≡ ts
  pub count : trees_in forest ≡ n
  pub are_trees : AreTrees forest

-- A tree whose tokens are `ts`.
pub record TreeOf (ts : List Token) : Type 0 where
  pub tree : Tree
  pub tokens_are : tokens tree ≡ ts
  pub is_tree : IsTree tree

-- A forest of `m` + `n` trees, split into two forests.
record Split (f : Forest) (n m : ℕ) : Type 0 where
  prefix : Forest
  rest : Forest
  tokens_are : forest_tokens prefix ++ forest_tokens rest ≡ forest_tokens f
  prefix_count : trees_in prefix ≡ n
  rest_count : trees_in rest ≡ m
  prefix_trees : AreTrees prefix
  rest_trees : AreTrees rest

split : (f : Forest) (n m : ℕ) → AreTrees f → trees_in f ≡ m + n → Split f n m
split f zero m h e = record { prefix = none; rest = f; tokens_are = refl; prefix_count = refl; rest_count = omega arith; prefix_trees = tt; rest_trees = h }
split none (suc n) m h e = absurd (omega arith)
split (more tree f) (suc n) m h e =
    let s : Split f n m = split f n m h.1 (omega arith) in
    record {
      prefix = more tree s.prefix;
      rest = s.rest;
      tokens_are = append_assoc (tokens tree) (forest_tokens s.prefix) (forest_tokens s.rest) ∙ ap (λ ts. tokens tree ++ ts) s.tokens_are;
      prefix_count = ap suc s.prefix_count;
      rest_count = s.rest_count;
      prefix_trees = (h.0, s.prefix_trees);
      rest_trees = s.rest_trees;
    }

-- If `n` values are expected before the tokens and no value at the end, then the tokens are the
-- tokens of `n` trees.
pub trees_from_tokens : (ms : List (Option Measure)) (ts : List Token) → All IsToken ts → OpenBefore ms ts → pending (ms ++ map measure_of ts) ≡ 0 → TreesOf ts (pending ms)
trees_from_tokens ms [] h k e = record { forest = none; tokens_are = refl; count = sym (rw append-nil at e); are_trees = tt }
trees_from_tokens ms (t ∷ ts) h k e =
    let r : TreesOf ts (pending (ms ++ measure_of t ∷ [])) =
    trees_from_tokens (ms ++ measure_of t ∷ []) ts (All-tail IsToken t ts h) k.1 (rw append_assoc e) in
    let o : 0 < pending ms = k.0 in
    let p = pending_push ms (measure_of t) o in
    let s : Split r.forest (of_object fields (measure_of t)) (pending ms - 1) =
    split r.forest (of_object fields (measure_of t)) (pending ms - 1) r.are_trees (r.count ∙ p) in
    record {
      forest = more (node t s.prefix) s.rest;
      tokens_are = ap (λ xs. t ∷ xs) (s.tokens_are ∙ r.tokens_are);
      count = let q = s.rest_count in omega arith;
      are_trees = ((All-head IsToken t ts h, s.prefix_count, s.prefix_trees), s.rest_trees);
    }

only_tree : (ts : List Token) → TreesOf ts 1 → TreeOf ts
only_tree ts r = go r.forest r.tokens_are r.count r.are_trees
  where
    go : (f : Forest) → forest_tokens f ≡ ts → trees_in f ≡ 1 → AreTrees f → TreeOf ts
    go none e n h = absurd (omega arith)
    go (more tree none) e n h = record { tree = tree; tokens_are = rw append-nil at e; is_tree = h.0 }
    go (more tree (more other f)) e n h = absurd (omega arith)

-- If a value is expected before each token and no value at the end, then the tokens are the tokens
-- of a tree.
pub tree_from_tokens : (ts : List Token) → All IsToken ts → OpenBefore [] ts → pending (map measure_of ts) ≡ 0 → TreeOf ts
tree_from_tokens ts h k e = only_tree ts (trees_from_tokens [] ts h k e)
