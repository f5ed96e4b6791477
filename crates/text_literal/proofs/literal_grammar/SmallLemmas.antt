-- Nodes in eight bytes: appending a node does not change the earlier nodes, and a node can be
-- replaced.
use Rattle.std.proofs.Common.{ℕ, zero, suc, ◌≡◌, ◌<◌, ◌∙◌, List, [], ◌∷◌, ◌++◌, length, Option, Some, None, refl, ap, arith, length-append}
use Rattle.std.specs.Prelude.{slice_get, slice_set, unwrap_or}
use Rattle.text_literal.specs.declared.literal_grammar.literal_node.NodeForm.{NodeForm}
use Rattle.text_literal.specs.declared.literal_grammar.literal_node.NodeForm.TheVariants as forms
use Rattle.text_literal.specs.declared.literal_grammar.literal_node.LiteralNode.{LiteralNode}
use Rattle.text_literal.specs.declared.literal_grammar.literal_nodes.SmallNode.{SmallNode}
use Rattle.text_literal.specs.literal_grammar.SmallNodes.{plain_node, node_by, node_in, nodes_in, IsHeldBy, AreHeld, Holds, Keeps}
use Rattle.base_data.proofs.model.Lists.{slice_get-last}

found_before : {T : Type 0} (xs ys : List T) (i : ℕ) → i < length xs → slice_get (xs ++ ys) i ≡ slice_get xs i
found_before [] ys i h = absurd (omega (arith, h))
found_before (x ∷ xs) ys zero h = refl
found_before (x ∷ xs) ys (suc i) h = found_before xs ys i (omega (arith, h))

module _ (others more : List LiteralNode) where
  same_by : (first parts : ℕ) (form : Option NodeForm) → IsHeldBy (length others) first form → node_by (others ++ more) first parts form ≡ node_by others first parts form
  same_by first parts (Some form) held = refl
  same_by first parts None held = ap (λ found. unwrap_or found (plain_node forms.Unit 0 0)) (found_before others more first held)

  held_by : (first : ℕ) (form : Option NodeForm) → IsHeldBy (length others) first form → IsHeldBy (length (others ++ more)) first form
  held_by first (Some form) held = tt
  held_by first None held = omega (arith, held, length-append others more)

  pub keeps_more : Keeps others (others ++ more)
  keeps_more [] held = (refl, tt)
  keeps_more (s ∷ all) held =
      let rest = keeps_more all held.1 in
      (ap (λ (n : LiteralNode). n ∷ nodes_in (others ++ more) all) (same_by s.first s.parts s.form held.0) ∙ ap (λ (ns : List LiteralNode). node_in others s ∷ ns) rest.0, (held_by s.first s.form held.0, rest.1))

-- If a node is appended to the list `others`, then the node is at the previous length of the list.
pub last_found : (others new : List LiteralNode) (n : LiteralNode) (number : ℕ) → number ≡ length others → new ≡ others ++ n ∷ [] → unwrap_or (slice_get new number) (plain_node forms.Unit 0 0) ≡ n
last_found others new n number last is =
    ap (λ (found : Option LiteralNode). unwrap_or found (plain_node forms.Unit 0 0))
    (ap (λ i. slice_get new i) last ∙ ap (λ (ns : List LiteralNode). slice_get ns (length others)) is ∙ slice_get-last others n)

nodes_written : (others : List LiteralNode) (all : List SmallNode) (k : ℕ) (s : SmallNode) → nodes_in others (slice_set all k s) ≡ slice_set (nodes_in others all) k (node_in others s)
nodes_written others [] zero s = refl
nodes_written others [] (suc k) s = refl
nodes_written others (x ∷ all) zero s = refl
nodes_written others (x ∷ all) (suc k) s = ap (λ (ns : List LiteralNode). node_in others x ∷ ns) (nodes_written others all k s)

-- If the entry at index `k` is replaced, then the list denotes the nodes with node `k` replaced.
pub write :
    (old new : List LiteralNode) (all : List SmallNode) (n : LiteralNode) (s : SmallNode) (k : ℕ) → Keeps old new → AreHeld (length old) all → Holds new n s
    → nodes_in new (slice_set all k s) ≡ slice_set (nodes_in old all) k n
write old new all n s k keeps held holds =
    nodes_written new all k s
    ∙ ap (λ (ns : List LiteralNode). slice_set ns k (node_in new s)) (keeps all held).0
    ∙ ap (λ (x : LiteralNode). slice_set (nodes_in old all) k x) holds.0
