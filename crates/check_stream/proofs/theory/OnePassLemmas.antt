-- If the tokens of a tree satisfy the requirements of their positions, then the tree has the type.
-- The invariant of the pass at the end follows.
use Rattle.std.proofs.Common.{ℕ, ◌≡◌, refl, inl, List, [], ◌∷◌, ◌++◌, length, sym, ap, subst, arith}
use Rattle.std.specs.Prelude.{Some, slice_get}
use Rattle.std.proofs.lemmas.List.{append_assoc, append-nil}
use Rattle.std.proofs.lemmas.List.Elements.{Contains-append_left}
use Rattle.base_data.specs.declared.model.value.Val.TheVariants as vals
use Rattle.types_spec.specs.types.Fitting.{numbered_from, fits_int, fits_atom}
use Rattle.types_spec.specs.types.LawfulShapes.{AreLawful, Everything}
use Rattle.types_spec.specs.types.Table.{Table, table_shapes}
use Rattle.types_spec.specs.types.Typing.{IsTyped, IsTyping}
use Rattle.marshal_spec.specs.format.Token.{Token, integer, atom, shared, block, leaf}
use Rattle.marshal_spec.specs.format.Tree.{Tree, node, IsTree, tokens, forest_tokens, root, objects_of, ReferBack}
use Rattle.marshal_spec.proofs.format.Counts.{length-objects_of}
use Rattle.check_heap.proofs.scan.ScanLemmas.{pair_there}
use Rattle.check_stream.specs.theory.AskedNeeds.{Need, of_type, shape_at, Passes}
use Rattle.check_stream.specs.theory.OnePass.{AreTypesOf, PassedTokens, start, further}
use Rattle.check_stream.proofs.theory.Kernel.{AreNoted, some_if, is_typing, object_fits}
use Rattle.check_stream.proofs.theory.PassLemmas.{last_at, tree_read}

module _ (table : Table) (all : List ℕ) (noted : List (ℕ × ℕ)) where
  -- If the value is an object, then the value is object 0 and has the first type.
  rooted : (tree : Tree) → ReferBack tree 0 → Passes noted table [] (of_type 0 ∷ []) (tokens tree) all → (typing : IsTyping (table_shapes table) (objects_of tree 0) (numbered_from 0 all ++ noted)) → IsTyped (table_shapes table) (objects_of tree 0) (root tree 0) 0
  rooted (node (integer z) f) back h typing = tt
  rooted (node (atom tag) f) back h typing = tt
  rooted (node (shared offset) f) back h typing = absurd (let some = back.0.0 in let few = back.0.1 in omega (arith, some, few))
  rooted (node (block tag size) f) back h typing = (numbered_from 0 all ++ noted, typing, Contains-append_left (numbered_from 0 all) noted (0, 0) (pair_there all 0 0 (last_at table all noted [] 0 (h.0 ++ []) (forest_tokens f) h.2)))
  rooted (node (leaf object) f) back h typing = (numbered_from 0 all ++ noted, typing, Contains-append_left (numbered_from 0 all) noted (0, 0) (pair_there all 0 0 (last_at table all noted [] 0 (h.0 ++ []) (forest_tokens f) h.2)))

  -- The value matches the first type. The value may be an object, an integer or an atom.
  root_fits : (tree : Tree) → ReferBack tree 0 → Passes noted table [] (of_type 0 ∷ []) (tokens tree) all → ((o : ℕ) → slice_get all o ≡ Some 0 → (table_shapes table).fits (objects_of tree 0) (vals.Ref o) 0) → (table_shapes table).fits (objects_of tree 0) (root tree 0) 0
  root_fits (node (integer z) f) back h fits = some_if (fits_int (shape_at table 0) z) h.1.0
  root_fits (node (atom tag) f) back h fits = some_if (fits_atom (shape_at table 0) tag) h.1.0
  root_fits (node (shared offset) f) back h fits = absurd (let some = back.0.0 in let few = back.0.1 in omega (arith, some, few))
  root_fits (node (block tag size) f) back h fits = fits 0 (last_at table all noted [] 0 (h.0 ++ []) (forest_tokens f) h.2)
  root_fits (node (leaf object) f) back h fits = fits 0 (last_at table all noted [] 0 (h.0 ++ []) (forest_tokens f) h.2)

  -- If the tokens of a tree satisfy all requirements, then the objects of the tree have the types.
  pub types_of_tree : (tree : Tree) → AreLawful (table_shapes table) Everything → IsTree tree → ReferBack tree 0 → AreNoted table (objects_of tree 0) all noted → Passes noted table [] (of_type 0 ∷ []) (tokens tree) all → AreTypesOf noted table tree all
  types_of_tree tree lawful is back are_noted h =
      let h' = subst (λ ts. Passes noted table [] (of_type 0 ∷ []) ts all) (sym (append-nil (tokens tree))) h in
      let r = tree_read table all noted tree 0 [] [] [] is h' in
      let first : length all ≡ length r.after = ap length (sym r.passes) in
      let second = r.many in
      let third = length-objects_of tree 0 is in
      let none' : length {A = ℕ} [] ≡ 0 = refl in
      let many : length all ≡ length (objects_of tree 0) = omega (arith, first, second, third, none') in
      let typing = is_typing table (objects_of tree 0) all noted many lawful r.good are_noted in
      record {
        many = many;
        typing = typing;
        typed = record {
          fits = root_fits tree back h (λ o at_o. object_fits table (objects_of tree 0) all noted many lawful r.good are_noted o 0 (inl at_o));
          typed = rooted tree back h typing;
        };
      }

-- ---- token by token

passes_later : (noted : List (ℕ × ℕ)) (table : Table) (prefix rest : List Token) (types : List ℕ) (needs : List Need) (all : List ℕ) → PassedTokens noted table prefix types needs → Passes noted table types needs rest all → Passes noted table [] (of_type 0 ∷ []) (prefix ++ rest) all
passes_later noted table prefix rest types needs all start h = h
passes_later noted table prefix rest types needs all (further tokens types' need needs' next token before asks) h =
    subst (λ ts. Passes noted table [] (of_type 0 ∷ []) ts all) (sym (append_assoc tokens (token ∷ []) rest))
    (passes_later noted table tokens (token ∷ rest) types' (need ∷ needs') all before (next, asks, h))

pub passes_all : (noted : List (ℕ × ℕ)) (table : Table) (ts : List Token) (types : List ℕ) → PassedTokens noted table ts types [] → Passes noted table [] (of_type 0 ∷ []) ts types
passes_all noted table ts types passed = subst (λ xs. Passes noted table [] (of_type 0 ∷ []) xs types) (append-nil ts) (passes_later noted table ts [] types [] types passed refl)
