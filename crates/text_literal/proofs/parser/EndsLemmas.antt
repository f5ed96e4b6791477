-- The index of the node after each literal, computed from the last node to the first.
use Rattle.std.proofs.Common.{arith, refl, sym, ap, ◌∙◌, get_or, cond, ⊎_elim, get_or-set_other, get_or-set_same}
use Rattle.std.specs.Prelude.{ℕ, suc, ◌+◌, ◌<◌, ◌≤◌, ◌≡◌, List, [], ◌∷◌, length, slice_set}
use Rattle.std.proofs.lemmas.Bool.{lt-ltb, cases_eq}
use Rattle.std.proofs.lemmas.List.{length-append}
use Rattle.text_literal.specs.declared.literal_grammar.literal_node.LiteralNode.{LiteralNode}
use Rattle.text_literal.specs.literal_grammar.Literal.{Literal}
use Rattle.text_literal.specs.literal_grammar.LiteralNodes.{literal_nodes}
use Rattle.text_literal.specs.parser.NodesOf.{part_nodes, nodes_of_parts}
use Rattle.text_literal.specs.parser.Standing.{IsAt, own_node, inner_parts}
use Rattle.text_literal.specs.parser.SubtreeEnds.{AreEndsFrom, AreEnds, sibling}
use Rattle.text_literal.proofs.parser.StandingLemmas.{at_prefix, at_back, at_same, at_position, first_in, first_is, own_and_parts, parts_counted}

-- ---- one sibling, or none

pub sibling_next : (ends : List ℕ) (position n m : ℕ) → n ≡ suc m → position < length ends → sibling ends position n ≡ sibling ends (get_or ends position 0) m
sibling_next ends position n m e h =
    ap (λ i. sibling ends position i) e
    ∙ ap (λ b. cond b (sibling ends (get_or ends position 0) m) position) (lt-ltb position (length ends) h)

-- ---- one sibling for each part

node_at : (nodes : List LiteralNode) (j k : ℕ) (v : Literal) → IsAt nodes j (literal_nodes k v) → IsAt nodes j (own_node k v ∷ nodes_of_parts (inner_parts k v))
node_at nodes j k v h = at_same nodes j _ _ (own_and_parts k v) h

pub position_in : (nodes : List LiteralNode) (j k : ℕ) (v : Literal) → IsAt nodes j (literal_nodes k v) → j < length nodes
position_in nodes j k v h = first_in nodes j _ _ (node_at nodes j k v h)

pub behind_parts :
    (nodes : List LiteralNode) (ends : List ℕ) (i : ℕ) → length ends ≡ length nodes → AreEndsFrom i nodes ends
    → (parts : List (ℕ × Literal)) (j : ℕ) → i ≤ j → IsAt nodes j (nodes_of_parts parts) → sibling ends j (length parts) ≡ j + length (nodes_of_parts parts)
behind_parts nodes ends i len known [] j h at = omega arith
behind_parts nodes ends i len known (p ∷ parts) j h at =
    let here = at_prefix nodes j (part_nodes p) (nodes_of_parts parts) at in
    let there = at_back nodes j (part_nodes p) (nodes_of_parts parts) at in
    let inside = position_in nodes j p.0 p.1 here in
    sibling_next ends j (suc (length parts)) (length parts) refl (omega (arith, inside, len))
    ∙ ap (λ position. sibling ends position (length parts)) (known j p.0 p.1 h here)
    ∙ behind_parts nodes ends i len known parts (j + length (part_nodes p)) (omega (arith, h)) there
    ∙ omega (arith, length-append (part_nodes p) (nodes_of_parts parts))

-- ---- one more node at the beginning

pub own_parts : (nodes : List LiteralNode) (i k : ℕ) (v : Literal) (d : LiteralNode) → IsAt nodes i (literal_nodes k v) → (get_or nodes i d).parts ≡ length (inner_parts k v)
own_parts nodes i k v d h = ap (λ (node : LiteralNode). node.parts) (first_is nodes i _ _ d (node_at nodes i k v h)) ∙ parts_counted k v

pub own_length : (k : ℕ) (v : Literal) → length (literal_nodes k v) ≡ suc (length (nodes_of_parts (inner_parts k v)))
own_length k v = ap (λ (ns : List LiteralNode). length ns) (own_and_parts k v)

own_end :
    (nodes : List LiteralNode) (ends : List ℕ) (i k : ℕ) (v : Literal) (d : LiteralNode) → length ends ≡ length nodes → AreEndsFrom (suc i) nodes ends
    → IsAt nodes i (literal_nodes k v) → sibling ends (i + 1) (get_or nodes i d).parts ≡ i + length (literal_nodes k v)
own_end nodes ends i k v d len known h =
    let there = at_back nodes i (own_node k v ∷ []) (nodes_of_parts (inner_parts k v)) (node_at nodes i k v h) in
    ap (λ many. sibling ends (i + 1) many) (own_parts nodes i k v d h)
    ∙ behind_parts nodes ends (suc i) len known (inner_parts k v) (i + 1) (omega arith) there
    ∙ omega (arith, own_length k v)

pub ends_more :
    (nodes : List LiteralNode) (ends from : List ℕ) (i end : ℕ) (d : LiteralNode) → length ends ≡ length nodes → i < length nodes → from ≡ ends
    → end ≡ sibling from (i + 1) (get_or nodes i d).parts → AreEndsFrom (suc i) nodes ends → AreEndsFrom i nodes (slice_set ends i end)
ends_more nodes ends from i end d len inside same is known j k v h at =
    ⊎_elim
    (λ here.
    ap (λ position. get_or (slice_set ends i end) position 0) here
    ∙ get_or-set_same ends i end 0 (omega (arith, inside, len))
    ∙ is
    ∙ ap (λ es. sibling es (i + 1) (get_or nodes i d).parts) same
    ∙ own_end nodes ends i k v d len known (at_position nodes j i (literal_nodes k v) here at)
    ∙ ap (λ position. position + length (literal_nodes k v)) (sym here))
    (λ other. get_or-set_other ends i j end 0 other ∙ known j k v (omega (arith, h, other)) at)
    (cases_eq j i)

-- If the index `i` is at or beyond the end of the nodes, then no entry from `i` on is required.
pub ends_none : (nodes : List LiteralNode) (ends : List ℕ) (i : ℕ) → length nodes ≤ i → AreEndsFrom i nodes ends
ends_none nodes ends i all j k v h at = absurd (omega (arith, all, h, position_in nodes j k v at))

pub ends_all : (nodes : List LiteralNode) (ends : List ℕ) → AreEndsFrom 0 nodes ends → AreEnds nodes ends
ends_all nodes ends known j k v at = known j k v (omega arith) at
