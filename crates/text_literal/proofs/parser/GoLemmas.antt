-- One step of the reader, by cases on the first lexeme of a part.
use Rattle.std.proofs.Common.{arith, refl, sym, ap, ◌∙◌, subst, get_or}
use Rattle.std.specs.Prelude.{ℕ, ◌+◌, ◌<◌, ◌≡◌, Option, Some, None, Result, Ok, List, [], ◌∷◌, length, All, slice_get, slice_index}
use Rattle.std.proofs.lemmas.Option.{get_or_from_slice_get}
use Rattle.base_data.specs.declared.model.value.Obj.{Obj}
use Rattle.base_data.specs.model.Graph.{IsValue}
use Rattle.marshal_heap.specs.heap.Heap.{set_field}
use Rattle.text_literal.specs.declared.literal_grammar.literal_node.NodeForm.TheVariants as forms
use Rattle.text_literal.specs.declared.literal_grammar.literal_node.LiteralNode.{LiteralNode}
use Rattle.text_literal.specs.literal_grammar.Literal.{Literal, labelled, again, Plain, integer, character, string, double, truth, unit, constant, applied, fields, tuple, empty_array, array, label_kinds, literal_kinds}
use Rattle.types_parse.specs.grammar.LexemeKinds.{kinds_of}
use Rattle.text_literal.specs.literal_grammar.LiteralNodes.{literal_nodes}
use Rattle.text_literal.specs.declared.parser.literal_fault.LiteralFault.{LiteralFault}
use Rattle.text_literal.specs.declared.parser.literal_fault.LiteralFault.TheVariants as faults
use Rattle.text_literal.specs.declared.parser.block_stack.Opened.{Opened}
use Rattle.text_literal.specs.declared.parser.literal_text.LiteralText.{LiteralText}
use Rattle.text_literal.specs.declared.parser.part.PartStart.{PartStart}
use Rattle.text_literal.specs.parser.NodesOf.{form_of}
use Rattle.text_literal.specs.parser.Pending.{finished}
use Rattle.text_literal.specs.parser.LiteralReading.{LiteralReading, LiteralRefusal, literal_read}
use Rattle.text_literal.specs.parser.LiteralAnswers.{shape_in, names_in}
use Rattle.text_literal.specs.parser.Openings.{types_in}
use Rattle.text_literal.specs.parser.Standing.{IsAt, Stands, own_node}
use Rattle.text_literal.specs.parser.Underway.{PartList, Popped, opens_with, AreOpen, IsAdvanced, if_open, IsText, HasPart, IsGiven, IsBegun, IsUnderway, CanGoOn, MayRefuse, IsRefusedAs}
use Rattle.text_literal.proofs.parser.StandingLemmas.{at_same, first_is, own_and_parts, lead_in}
use Rattle.text_literal.proofs.parser.EndsLemmas.{position_in, own_length}
use Rattle.text_literal.proofs.parser.LiteralParserPartLemmas.{IsNext, next_part, part_stands, part_refused, after_whole, after_inner}

-- ---- the node of a literal

pub own_at : (nodes : List LiteralNode) (j k : ℕ) (v : Literal) (d : LiteralNode) → IsAt nodes j (literal_nodes k v) → get_or nodes j d ≡ own_node k v
own_at nodes j k v d h = first_is nodes j _ _ d (at_same nodes j _ _ (own_and_parts k v) h)

pub own_found : (nodes : List LiteralNode) (j k : ℕ) (v : Literal) (n : LiteralNode) → IsAt nodes j (literal_nodes k v) → slice_get nodes j ≡ Some n → n ≡ own_node k v
own_found nodes j k v n h e = sym (get_or_from_slice_get nodes j n n e) ∙ own_at nodes j k v n h

no_again : (p : Plain) → form_of p ≡ forms.Again → ⊥
no_again (integer i) e = absurd (cc)
no_again (character c) e = absurd (cc)
no_again (string s) e = absurd (cc)
no_again (double d) e = absurd (cc)
no_again (truth b) e = absurd (cc)
no_again unit e = absurd (cc)
no_again (constant h) e = absurd (cc)
no_again (applied h ps v) e = absurd (cc)
no_again (fields o rs x v) e = absurd (cc)
no_again (tuple ps u v) e = absurd (cc)
no_again empty_array e = absurd (cc)
no_again (array ps v) e = absurd (cc)

-- If the node of a literal has the form `Again`, then the literal is a reference to a label.
pub again_only : (P : Literal → Type 0) (k : ℕ) → ((n : ℕ) → P (again n)) → (v : Literal) → (own_node k v).form ≡ forms.Again → P v
again_only P k f (again n) e = f n
again_only P k f (labelled l p) e = absurd (no_again p e)

pub plain_only : (P : Literal → Type 0) (k : ℕ) → ((l : Option ℕ) (p : Plain) → P (labelled l p)) → (v : Literal) → ((own_node k v).form ≡ forms.Again → ⊥) → P v
plain_only P k f (again n) other = absurd (other refl)
plain_only P k f (labelled l p) other = f l p

-- ---- when the reader can go on

pub has_part : (text : LiteralText) (block : Opened) (stack : List Opened) (j : ℕ) (graph : List Obj) (labels : List ℕ) → CanGoOn text (block ∷ stack) j graph labels → HasPart text j
has_part text block stack j graph labels (old, outcome, u) =
    let n = next_part text old outcome block stack j graph labels u in (n.part.0, n.part.1, part_stands text old outcome block stack j graph labels n)

pub part_inside : (text : LiteralText) (j : ℕ) → HasPart text j → j < length text.nodes.now
part_inside text j (k, v, stands) = position_in text.nodes.now j k v stands.nodes_at

pub end_is : (text : LiteralText) (j k : ℕ) (v : Literal) → IsText text → Stands text.nodes.now text.lexemes.now j k v → slice_index text.ends.now j ≡ j + length (literal_nodes k v)
end_is text j k v good stands = good.ends j k v stands.nodes_at

pub end_behind : (text : LiteralText) (j : ℕ) → IsText text → HasPart text j → j < slice_index text.ends.now j
end_behind text j good (k, v, stands) = omega (arith, end_is text j k v good stands, own_length k v)

-- A plain literal has at least one lexeme after its label.
pub first_within :
    (text : LiteralText) (j : ℕ) (d : LiteralNode) → HasPart text j → slice_get text.nodes.now j ≡ Some d → (d.form ≡ forms.Again → ⊥)
    → d.first + length (label_kinds d.label) < length text.lexemes.now
first_within text j d (k, v, stands) found other =
    let own = own_found text.nodes.now j k v d stands.nodes_at found in
    plain_only (λ u. IsAt (kinds_of text.lexemes.now) k (literal_kinds u) → d ≡ own_node k u
    → d.first + length (label_kinds d.label) < length text.lexemes.now) k
    (λ l p there is. omega (arith, lead_in text.lexemes.now k l p there, ap (λ (n : LiteralNode). n.first + length (label_kinds n.label)) is)) v
    (λ e. other (ap (λ (n : LiteralNode). n.form) own ∙ e)) stands.kinds_at own

-- ---- no more parts

pub popped_none : (old new : List Opened) (r : Option Opened) → Popped old new r → ((b : Opened) → r ≡ Some b → ⊥) → old ≡ []
popped_none old new None p other = p.0
popped_none old new (Some b) p other = absurd (other b refl)

nothing_open :
    (text : LiteralText) (old : List Obj) (outcome : Result (List Obj) (LiteralRefusal ℕ)) (graph : List Obj) (labels : List ℕ) (all : List PartList) → AreOpen old graph (kinds_of text.lexemes.now) [] all
    → finished (shape_in text.table.now) (names_in text.table.now) (opens_with [] all) graph labels ≡ outcome → outcome ≡ Ok graph
nothing_open text old outcome graph labels [] o same = sym same
nothing_open text old outcome graph labels (p ∷ all) o same = absurd o

pub all_finished :
    (text : LiteralText) (old : List Obj) (outcome : Result (List Obj) (LiteralRefusal ℕ)) (stack : List Opened) (j : ℕ) (graph : List Obj) (labels : List ℕ) → stack ≡ []
    → IsUnderway text old outcome stack j graph labels → outcome ≡ Ok graph
all_finished text old outcome stack j graph labels empty u =
    let v = subst (λ (blocks : List Opened). IsUnderway text old outcome blocks j graph labels) empty u in nothing_open text old outcome graph labels v.parts v.open_blocks v.same

-- ---- one more part

module _ (text : LiteralText) (block : Opened) (stack : List Opened) (j : ℕ) (graph : List Obj) (labels : List ℕ) (t : ℕ) (type_is : t ≡ types_in block.at block.types block.part) where
  -- The property `P` holds for the part that begins at node `j`.
  abbrev Here : (ℕ → Literal → Type 0) → Type 0
  Here P = (k : ℕ) (v : Literal) → Stands text.nodes.now text.lexemes.now j k v → All (λ o. o < length graph) labels → P k v

  abbrev read : ℕ → ℕ → Literal → Result LiteralReading (LiteralRefusal ℕ)
  read at k v = literal_read (shape_in text.table.now) (names_in text.table.now) k v (length graph) labels at

  refused_as :
      (old : List Obj) (outcome : Result (List Obj) (LiteralRefusal ℕ)) (n : IsNext text old outcome block stack j graph labels) (fault : LiteralFault)
      → IsRefusedAs text.lexemes.now text.end (read t n.part.0 n.part.1) fault → IsRefusedAs text.lexemes.now text.end outcome fault
  refused_as old outcome n fault r = record {
    refusal = r.refusal;
    is = part_refused text old outcome block stack j graph labels n r.refusal (ap (λ at. read at n.part.0 n.part.1) (sym type_is) ∙ r.is);
    position = r.position;
  }

  pub part_fault :
      (fault : LiteralFault) → Here (λ k v. MayRefuse text.lexemes.now text.end (read t k v) fault)
      → (old : List Obj) (outcome : Result (List Obj) (LiteralRefusal ℕ)) → IsUnderway text old outcome (block ∷ stack) j graph labels → MayRefuse text.lexemes.now text.end outcome fault
  part_fault faults.Memory here old outcome u = tt
  part_fault (faults.Syntax position) here old outcome u =
      let n = next_part text old outcome block stack j graph labels u in
      refused_as old outcome n (faults.Syntax position) (here n.part.0 n.part.1 (part_stands text old outcome block stack j graph labels n) n.labels_in)
  part_fault (faults.Mismatch position at) here old outcome u =
      let n = next_part text old outcome block stack j graph labels u in
      refused_as old outcome n (faults.Mismatch position at) (here n.part.0 n.part.1 (part_stands text old outcome block stack j graph labels n) n.labels_in)
  part_fault (faults.IntRange position) here old outcome u =
      let n = next_part text old outcome block stack j graph labels u in
      refused_as old outcome n (faults.IntRange position) (here n.part.0 n.part.1 (part_stands text old outcome block stack j graph labels n) n.labels_in)
  part_fault (faults.Label position) here old outcome u =
      let n = next_part text old outcome block stack j graph labels u in
      refused_as old outcome n (faults.Label position) (here n.part.0 n.part.1 (part_stands text old outcome block stack j graph labels n) n.labels_in)

  module _ (new : List Obj) (more : List ℕ) (begun : PartStart) (here : Here (λ k v. IsGiven text.table.now k v t graph new labels more begun)) where
    pub part_valid : CanGoOn text (block ∷ stack) j graph labels → IsValue (length new) begun.value
    part_valid (old, outcome, u) =
        let n = next_part text old outcome block stack j graph labels u in
        let g = here n.part.0 n.part.1 (part_stands text old outcome block stack j graph labels n) n.labels_in in g.valid

    module _ (advanced : Opened) (a : IsAdvanced block advanced) (old : List Obj) (outcome : Result (List Obj) (LiteralRefusal ℕ)) (u : IsUnderway text old outcome (block ∷ stack) j graph labels) where
      next : IsNext text old outcome block stack j graph labels
      next = next_part text old outcome block stack j graph labels u

      given : IsGiven text.table.now next.part.0 next.part.1 t graph new labels more begun
      given = here next.part.0 next.part.1 (part_stands text old outcome block stack j graph labels next) next.labels_in

      begun_as : (inner : Option Opened) → begun.inner ≡ inner → IsBegun text.table.now next.part.0 next.part.1 (types_in block.at block.types block.part) graph new labels more begun.value inner
      begun_as inner e =
          subst (λ at. IsBegun text.table.now next.part.0 next.part.1 at graph new labels more begun.value inner) type_is
          (subst (λ o. IsBegun text.table.now next.part.0 next.part.1 t graph new labels more begun.value o) e given.begun_is)

      pub gone_in : (inner : Opened) → begun.inner ≡ Some inner → IsUnderway text old outcome (inner ∷ if_open advanced stack) (j + 1) (set_field new block.block block.field begun.value) more
      gone_in inner e = after_inner text old outcome block stack j graph labels next advanced a new more begun.value given.labels_in inner (begun_as (Some inner) e)

      pub gone_on :
          begun.inner ≡ None → IsText text → (end : ℕ) → end ≡ slice_index text.ends.now j
          → IsUnderway text old outcome (if_open advanced stack) end (set_field new block.block block.field begun.value) more
      gone_on e good end at =
          after_whole text old outcome block stack j graph labels next advanced a new more begun.value given.labels_in (begun_as None e) end
          (at ∙ end_is text j next.part.0 next.part.1 good (part_stands text old outcome block stack j graph labels next))
