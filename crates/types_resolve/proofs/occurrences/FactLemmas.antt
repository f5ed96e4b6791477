-- Lemmas about the facts of a node that is appended to a list of nodes.
use Rattle.std.proofs.Common.{ℕ, ◌+◌, ◌<◌, ◌≤◌, ◌≡◌, ◌∙◌, ⊎_elim, Bool, true, false, not, ◌&&◌, ◌||◌, List, [], ◌∷◌, ◌++◌}
use Rattle.std.proofs.Common.{length, get_or, Some, refl, sym, ap, subst, arith, length-append}
use Rattle.std.specs.Prelude.{slice_get}
use Rattle.std.proofs.lemmas.Bool.{cases_lt}
use Rattle.std.proofs.lemmas.List.{get_or_append_left, get_or_push}
use Rattle.std.proofs.lemmas.Option.{slice_get_read, get_or_from_slice_get}
use Rattle.types_spec.specs.types.Ty.{Ty, variable, named, tuple, bracket, part, tag, tag_of, including, parts}
use Rattle.types_spec.specs.types.Occurrence.{PlacedItem}
use Rattle.types_spec.specs.types.TypeNodes.{type_at, types_of, type_of_node, IsBelow, AreOrdered}
use Rattle.types_spec.specs.declared.types.ty.TypeTreeNode.{TypeTreeNode}
use Rattle.types_spec.specs.declared.types.ty.TypeTreeNode.TheVariants as nodes
use Rattle.types_spec.proofs.types.TypeNodeLemmas.{types_of-at}
use Rattle.types_resolve.specs.occurrences.Counted.{inner_count, own_count, begins}
use Rattle.types_resolve.specs.declared.occurrences.fact.Facts.{Facts}
use Rattle.types_resolve.specs.occurrences.Facts.{holds, is_alone, some_grow, capped, nothing, fact_at, facts_of, total_of, whole, leaf}
use Rattle.types_resolve.specs.occurrences.Facts.{IsLeaf, IsFacts, AreFacts}

cap_one : (a : ℕ) → capped (capped a + 1) ≡ capped (a + 1)
cap_one a = omega arith

grow_last : (ts : List Ty) (t : Ty) → some_grow (ts ++ t ∷ []) ≡ (some_grow ts || (holds t && not (is_alone t)))
grow_last [] t = or_none (holds t && not (is_alone t)) where
  or_none : (b : Bool) → (b || false) ≡ b
  or_none true = refl
  or_none false = refl
grow_last (u ∷ ts) t =
    ap (λ b. (holds u && not (is_alone u)) || b) (grow_last ts t)
    ∙ regroup (holds u && not (is_alone u)) (some_grow ts) (holds t && not (is_alone t)) where
      regroup : (a b c : Bool) → (a || (b || c)) ≡ ((a || b) || c)
      regroup true b c = refl
      regroup false b c = refl

pub total_is : (types : List Ty) (n : ℕ) (t : Ty) (f : Facts) → IsFacts types n t f → total_of f ≡ capped (inner_count t + own_count t)
total_is types n t f is = let a = is.inner_is in let b = is.own_is in omega arith

-- ---- a node that refers to no other

leaf_is :
    (types : List Ty) (n : ℕ) (facts : List Facts) (t : Ty) (own : ℕ) (alone : Bool)
    → length facts ≡ n → type_at types n ≡ t → IsLeaf t → 0 ≡ inner_count t → own ≡ own_count t
    → [] ≡ parts t → alone ≡ holds t → alone ≡ is_alone t
    → IsFacts types n t (leaf own alone (length facts))
leaf_is types n facts t own alone counted at leaf_t none own_is no_parts holds_is alone_is =
    let there : type_at types (length facts) ≡ t = ap (λ m. type_at types m) counted ∙ at in
    record {
      inner_is = ap capped none;
      own_is = own_is;
      arguments_are = ap length no_parts;
      grows_is = ap some_grow no_parts;
      holds_is = holds_is;
      alone_is = alone_is;
      few = let e : 0 ≡ length (parts t) = ap length no_parts in omega arith;
      base_below = omega arith;
      leaf_there = subst IsLeaf (sym there) leaf_t;
      begins_there = λ j b arguments items. ap (begins j b arguments items) (sym there);
    }

-- ---- a node that extends another by a part

whole_is :
    (types : List Ty) (n w : ℕ) (t u : Ty) (f : Facts) (inner arguments : ℕ) (grows some : Bool)
    → w < n → IsFacts types w u f → own_count t ≡ own_count u
    → ((j : ℕ) (b : Bool) (ts : List Ty) (items : List PlacedItem)
    → begins j b ts items t ≡ begins j b ts items u)
    → is_alone t ≡ false → length (parts t) ≤ n → inner ≡ capped (inner_count t)
    → arguments ≡ length (parts t) → grows ≡ some_grow (parts t) → some ≡ holds t
    → IsFacts types n t (whole f inner arguments grows some)
whole_is types n w t u f inner arguments grows some below is own_is same alone few inner_is arguments_are grows_is holds_is =
    record {
      inner_is = inner_is;
      own_is = is.own_is ∙ sym own_is;
      arguments_are = arguments_are;
      grows_is = grows_is;
      holds_is = holds_is;
      alone_is = sym alone;
      few = few;
      base_below = let b = is.base_below in omega arith;
      leaf_there = is.leaf_there;
      begins_there = λ j b ts items. same j b ts items ∙ is.begins_there j b ts items;
    }

either_same : (a b c d : Bool) → a ≡ c → b ≡ d → (a || b) ≡ (c || d)
either_same a b c d e f = ap (λ x. x || b) e ∙ ap (λ x. c || x) f

capped_sum : (a b c d : ℕ) → a ≡ capped c → b ≡ capped d → capped (a + b) ≡ capped (c + d)
capped_sum a b c d e f = omega arith

node_facts :
    (types : List Ty) (n : ℕ) (facts : List Facts) (node : TypeTreeNode) → n < 18446744073709551616
    → AreFacts types n facts → IsBelow n node → type_at types n ≡ type_of_node types node
    → IsFacts types n (type_of_node types node) (facts_of facts node)
node_facts types n facts (nodes.Variable x) small are below at =
    leaf_is types n facts (variable x) 1 true are.counted at tt refl refl refl refl refl
node_facts types n facts (nodes.Named x) small are below at =
    leaf_is types n facts (named x) 1 false are.counted at tt refl refl refl refl refl
node_facts types n facts nodes.Tuple small are below at =
    leaf_is types n facts tuple 0 false are.counted at tt refl refl refl refl refl
node_facts types n facts nodes.Bracket small are below at =
    leaf_is types n facts bracket 0 false are.counted at tt refl refl refl refl refl
node_facts types n facts (nodes.Part w a) small are below at =
    let t = type_at types w in
    let u = type_at types a in
    let f = fact_at facts w in
    let g = fact_at facts a in
    let f_is = are.are w below.0 in
    let g_is = are.are a below.1 in
    let more : length (parts t ++ u ∷ []) ≡ length (parts t) + 1 = length-append (parts t) (u ∷ []) in
    let w_below : w < n = below.0 in
    let few = f_is.few in
    let count = f_is.arguments_are in
    whole_is types n w (part t u) t f (capped (f.inner + total_of g)) (capped (f.arguments + 1))
    (f.grows || (g.holds && not g.alone)) (f.holds || g.holds) below.0 f_is refl (λ j b ts items. refl) refl
    (omega arith)
    (capped_sum f.inner (total_of g) (inner_count t) (inner_count u + own_count u) f_is.inner_is (total_is types a u g g_is))
    (let e : capped (f.arguments + 1) ≡ length (parts t) + 1 = omega arith in e ∙ sym more)
    (either_same f.grows (g.holds && not g.alone) (some_grow (parts t)) (holds u && not (is_alone u)) f_is.grows_is
    (ap (λ x. x && not g.alone) g_is.holds_is ∙ ap (λ x. holds u && not x) g_is.alone_is) ∙ sym (grow_last (parts t) u))
    (either_same f.holds g.holds (holds t) (holds u) f_is.holds_is g_is.holds_is)
node_facts types n facts (nodes.Tag w x) small are below at =
    let t = type_at types w in
    let f = fact_at facts w in
    let f_is = are.are w below in
    let count = f_is.inner_is in
    whole_is types n w (tag t x) t f (capped (f.inner + 1)) 0 false f.holds below f_is refl (λ j b ts items. refl) refl
    (omega arith) (ap (λ m. capped (m + 1)) count ∙ cap_one (inner_count t)) refl refl f_is.holds_is
node_facts types n facts (nodes.TagOf w x a) small are below at =
    let t = type_at types w in
    let u = type_at types a in
    let f = fact_at facts w in
    let g = fact_at facts a in
    let f_is = are.are w below.0 in
    let g_is = are.are a below.1 in
    whole_is types n w (tag_of t x u) t f (capped (capped (f.inner + 1) + total_of g)) 0 false (f.holds || g.holds) below.0 f_is refl
    (λ j b ts items. refl) refl (omega arith)
    (capped_sum (capped (f.inner + 1)) (total_of g) (inner_count t + 1) (inner_count u + own_count u)
    (ap (λ m. capped (m + 1)) f_is.inner_is ∙ cap_one (inner_count t)) (total_is types a u g g_is))
    refl refl (either_same f.holds g.holds (holds t) (holds u) f_is.holds_is g_is.holds_is)
node_facts types n facts (nodes.Including w a) small are below at =
    let t = type_at types w in
    let u = type_at types a in
    let f = fact_at facts w in
    let g = fact_at facts a in
    let f_is = are.are w below.0 in
    let g_is = are.are a below.1 in
    whole_is types n w (including t u) t f (capped (capped (f.inner + 1) + total_of g)) 0 false (f.holds || g.holds) below.0 f_is refl
    (λ j b ts items. refl) refl (omega arith)
    (capped_sum (capped (f.inner + 1)) (total_of g) (inner_count t + 1) (inner_count u + own_count u)
    (ap (λ m. capped (m + 1)) f_is.inner_is ∙ cap_one (inner_count t)) (total_is types a u g g_is))
    refl refl (either_same f.holds g.holds (holds t) (holds u) f_is.holds_is g_is.holds_is)

-- The invariant of the loop over the nodes holds after one more iteration.
pub facts_more :
    (nodes : List TypeTreeNode) (i : ℕ) (node : TypeTreeNode) (facts next : List Facts) → length nodes < 18446744073709551616
    → AreOrdered nodes → i < length nodes → node ≡ get_or nodes i node
    → AreFacts (types_of nodes) i facts → next ≡ facts ++ facts_of facts node ∷ []
    → AreFacts (types_of nodes) (i + 1) next
facts_more nodes i node facts next small ordered below read are is =
    let types = types_of nodes in
    let node_at : slice_get nodes i ≡ Some node = slice_get_read nodes (length nodes) i node refl below read in
    let at : type_at types i ≡ type_of_node types node =
    get_or_from_slice_get types i (type_of_node types node) tuple (types_of-at nodes i node ordered node_at) in
    let here = node_facts types i facts node (omega arith) are (ordered i node node_at) at in
    subst (AreFacts types (i + 1)) (sym is) (record {
      counted = length-append facts (facts_of facts node ∷ []) ∙ ap (λ n. n + 1) are.counted;
      are = λ j j_below. ⊎_elim
          (λ before. let within : j < length facts = (let c = are.counted in omega arith) in
          subst (IsFacts types j (type_at types j))
          (sym (get_or_append_left facts (facts_of facts node ∷ []) nothing j within)) (are.are j before))
          (λ last. let e : i ≡ j = omega arith in
          subst (λ m. IsFacts types m (type_at types m) (fact_at (facts ++ facts_of facts node ∷ []) m)) e
          (subst (IsFacts types i (type_at types i)) (sym (get_or_push facts (facts_of facts node) nothing i are.counted))
          (subst (λ t. IsFacts types i t (facts_of facts node)) (sym at) here)))
          (cases_lt j i);
    })
