-- Lemmas on a reference to a label, and on a label that does not have the next number.
use Rattle.std.proofs.Common.{sym, ap, ◌∙◌, subst}
use Rattle.std.specs.Prelude.{ℕ, suc, ◌+◌, ◌<◌, ◌≡◌, false, if◌then◌else◌, Option, Some, None, Result, Err, List, [], length, All, slice_get}
use Rattle.std.proofs.lemmas.List.{append-nil}
use Rattle.std.proofs.lemmas.List.Elements.{All-get_or}
use Rattle.std.proofs.lemmas.Option.{slice_get_within, get_or_from_slice_get}
use Rattle.base_data.specs.declared.model.value.Val.TheVariants as vals
use Rattle.base_data.specs.declared.model.value.Obj.{Obj}
use Rattle.text_literal.specs.declared.literal_grammar.literal_node.LiteralNode.{LiteralNode}
use Rattle.text_literal.specs.literal_grammar.Literal.{labelled, again, Plain, label_kinds}
use Rattle.text_literal.specs.declared.parser.literal_fault.LiteralFault.TheVariants as faults
use Rattle.text_literal.specs.declared.parser.literal_text.LiteralText.{LiteralText}
use Rattle.text_literal.specs.parser.Starts.{Start, start_at}
use Rattle.text_literal.specs.parser.LiteralReading.{LiteralReading, LiteralRefusal, label_at, is_next, again_read, begun, literal_read, inside}
use Rattle.text_literal.specs.parser.LiteralAnswers.{byte_of, shape_in, names_in}
use Rattle.text_literal.specs.parser.Standing.{own_node}
use Rattle.text_literal.specs.parser.Underway.{IsGiven, MayRefuse}

-- ---- the use of a label

module _ (text : LiteralText) (k n t : ℕ) (graph : List Obj) (labels : List ℕ) (labels_in : All (λ o. o < length graph) labels) where
  pub again_given :
      (o : ℕ) → slice_get labels n ≡ Some o
      → IsGiven text.table.now k (again n) t graph graph labels labels (record { value = vals.Ref o; inner = None })
  again_given o found = record {
    begun_is = record {
      objects = [];
      read = ap (again_read k labels) found;
      behind = sym (append-nil graph);
    };
    valid = subst (λ m. m < length graph) (get_or_from_slice_get labels n o 0 found) (All-get_or (λ m. m < length graph) labels n 0 (slice_get_within labels n o found) labels_in);
    labels_in = labels_in;
  }

-- ---- a plain literal

module _ (text : LiteralText) (node : LiteralNode) (k t : ℕ) (l : Option ℕ) (p : Plain) (graph : List Obj) (labels : List ℕ) (is : node ≡ own_node k (labelled l p)) where
  abbrev start : Start ℕ
  start = start_at t (shape_in text.table.now t) (names_in text.table.now t) p

  abbrev read : Result LiteralReading (LiteralRefusal ℕ)
  read = literal_read (shape_in text.table.now) (names_in text.table.now) k (labelled l p) (length graph) labels t

  abbrev position : ℕ
  position = k + length (label_kinds l)

  abbrev begun_by : Start ℕ → Result LiteralReading (LiteralRefusal ℕ)
  begun_by s = begun k position (length graph) labels l t (inside (shape_in text.table.now) (names_in text.table.now) position p (suc (length graph))) s

  same_label : node.label ≡ l
  same_label = ap (λ (n : LiteralNode). n.label) is

  -- If the label of a part does not have the next number, then the part is refused.
  pub number_refused :
      (byte : ℕ) → is_next labels node.label ≡ false → byte ≡ byte_of text.lexemes.now text.end node.first → MayRefuse text.lexemes.now text.end read (faults.Label byte)
  number_refused byte other at = record {
    refusal = label_at k;
    is = ap (λ b. if b then begun_by start else Err (label_at k)) (sym (ap (is_next labels) same_label) ∙ other);
    position = ap faults.Label (at ∙ ap (λ (n : LiteralNode). byte_of text.lexemes.now text.end n.first) is);
  }
