-- The trees of the worked examples, for `worked_values_are_generated`.
use Rattle.std.proofs.Common.{◌≡◌, ℕ, ◌+◌, ◌<◌, List, [], ◌∷◌, refl, arith, lit<}
use Rattle.std.specs.Prelude.{replicate, All, IsSomeAnd, slice_get, pos}
use Rattle.std.proofs.lemmas.List.Elements.{All-from_recursion, All-contains, All-replicate}
use Rattle.base_data.specs.declared.model.value.Val.TheVariants as vals
use Rattle.base_data.specs.declared.model.value.Obj.{Obj}
use Rattle.base_data.specs.declared.model.value.Obj.TheVariants as objects
use Rattle.marshal_spec.specs.format.Isomorphism.{AgreeObjects, IsTreeOf}
use Rattle.marshal_spec.specs.format.Tree.{Tree, IsTree, objects_of}
use Rattle.cmd_gen.specs.generator.Worked.{an_int, a_cell, a_text, three}

abbrev graph : List Obj
graph =
    objects.Bytes (replicate 38 99) ∷ objects.Block 1 (vals.Ref 0 ∷ [])
    ∷ objects.Block 0 (vals.Ref 1 ∷ vals.Int (pos 0) ∷ [])
    ∷ objects.Block 0 (vals.Int (pos 0) ∷ vals.Ref 2 ∷ [])
    ∷ objects.Block 0 (vals.Int (pos 0) ∷ vals.Ref 3 ∷ []) ∷ []

int_tree : IsTree (an_int 0)
int_tree = (omega arith, refl, tt)

cell_tree : (first rest : Tree) → IsTree first → IsTree rest → IsTree (a_cell first rest)
cell_tree first rest is_first is_rest = ((omega arith, omega arith), refl, (is_first, (is_rest, tt)))

text_tree : IsTree a_text
text_tree = ((omega arith, omega arith), refl, ((All-replicate (λ (b : ℕ). b < 256) 38 99 (omega arith), refl, tt), tt))

pub empty_is : IsTreeOf [] (vals.Int (pos 0)) (an_int 0)
empty_is = record {
  is_tree = int_tree;
  refers_back = (tt, tt);
  same = ([], record { one_to_one = λ k l m n a b. absurd (let none : a.0 < 0 = a.1 in omega arith); agree = λ k l a. absurd (let none : a.0 < 0 = a.1 in omega arith) }, refl);
}

-- The pairs of object numbers in the tree and in the generated value. The tree numbers the objects
-- from the last to the first.
abbrev pairs : List (ℕ × ℕ)
pairs = (4, 0) ∷ (3, 1) ∷ (2, 2) ∷ (1, 3) ∷ (0, 4) ∷ []

abbrev AddUp : ℕ × ℕ → Type 0
AddUp pair = pair.0 + pair.1 ≡ 4

add_up : All AddUp pairs
add_up = All-from_recursion AddUp pairs (refl, (refl, (refl, (refl, (refl, tt)))))

abbrev AgreeAt : ℕ × ℕ → Type 0
AgreeAt pair = IsSomeAnd (slice_get graph pair.0) (λ a. IsSomeAnd (slice_get (objects_of three 0) pair.1) (λ b. AgreeObjects pairs a b))

agree : All AgreeAt pairs
agree = All-from_recursion AgreeAt pairs (
  (refl, (refl, ((1, lit< tt, refl), tt))),
  (
    (refl, (refl, ((2, lit< tt, refl), tt))),
    ((refl, ((3, lit< tt, refl), (refl, tt))), ((refl, ((4, lit< tt, refl), tt)), (refl, tt))),
  ),
)

pub three_is : IsTreeOf graph (vals.Ref 4) three
three_is = record {
  is_tree = cell_tree (an_int 0) (a_cell (an_int 0) (a_cell a_text (an_int 0))) int_tree
      (cell_tree (an_int 0) (a_cell a_text (an_int 0)) int_tree (cell_tree a_text (an_int 0) text_tree int_tree));
  refers_back = (tt, ((tt, tt), ((tt, ((tt, tt), ((tt, ((tt, ((tt, tt), tt)), ((tt, tt), tt))), tt))), tt)));
  same = (
    pairs,
    record {
      one_to_one = λ k l m n a b.
          let first : k + l ≡ 4 = All-contains AddUp pairs (k, l) add_up a in
          let second : m + n ≡ 4 = All-contains AddUp pairs (m, n) add_up b in
          (λ e. omega arith, λ e. omega arith);
      agree = λ k l a. All-contains AgreeAt pairs (k, l) agree a;
    },
    (0, lit< tt, refl),
  );
}
