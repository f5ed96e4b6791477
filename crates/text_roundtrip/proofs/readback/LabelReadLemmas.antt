-- The prefix of an object that is visited for the first time, and the text of an object that is
-- visited again.
use Rattle.std.proofs.Common.{◌≡◌, ℕ, suc, ◌<◌, ◌^◌, Bool, true, false, List, [], ◌∷◌, ◌++◌, length, Option, Some, None, refl, sym, ap, arith}
use Rattle.std.specs.Prelude.{codes, decimal}
use Rattle.std.specs.List.{flat_map}
use Rattle.std.proofs.lemmas.Bool.{eq-eqb}
use Rattle.std.proofs.lemmas.List.{append-nil}
use Rattle.base_data.specs.declared.model.value.Val.TheVariants as vals
use Rattle.types_spec.specs.declared.types.names.Names.{Names}
use Rattle.types_spec.specs.declared.types.shape.ShapeOf.{ShapeOf}
use Rattle.text_literal.specs.literal_grammar.Literal.{again, label_kinds, reference}
use Rattle.text_print.specs.show.TextChunks.{First, Again, has, number_in, label_text, chunk_text}
use Rattle.text_literal.specs.parser.LiteralReading.{is_next, with_label, again_read}
use Rattle.text_roundtrip.specs.lexed.Lexed.{Ends, IsLexed, BeginsWithoutStar}
use Rattle.text_roundtrip.proofs.lexed.LexedLemmas.{lexed_then, lexed_nothing, lexed_hash, lexed_equals, lexed_at}
use Rattle.text_roundtrip.proofs.lexed.LexedNumberLemmas.{lexed_natural}
use Rattle.text_roundtrip.specs.literal_texts.NumberedLabels.{AreIncreasing, before}
use Rattle.text_roundtrip.specs.readback.Back.{IsBack}
use Rattle.text_roundtrip.proofs.readback.ReadbackLabelLemmas.{next_label, no_label, label_of, number_small}

reference_lexed : (labels : List ℕ) (o : ℕ) → length labels < 2 ^ 63 → IsLexed Ends (label_text labels o) (reference (number_in labels o))
reference_lexed labels o few =
    let small : number_in labels o < 2 ^ 63 = omega (arith, number_small labels o) in
    lexed_then (lexed_hash (λ after. Unit {0})) (lexed_natural (number_in labels o) small) (λ after may. tt)

-- The prefix in the text of an object that is visited for the first time.
pub record IsPrefix (labels : List ℕ) (c : ℕ) : Type 0 where
  pub label : Option ℕ
  pub lexed : IsLexed (λ after. Unit {0}) (chunk_text labels (First c)) (label_kinds label)
  pub begins : (text : List ℕ) → BeginsWithoutStar text → BeginsWithoutStar (chunk_text labels (First c) ++ text)
  pub next : is_next (before c labels) label ≡ true
  pub labels_are : with_label (before c labels) label c ≡ before (suc c) labels

pub prefix_of : (labels : List ℕ) (c : ℕ) → AreIncreasing 0 labels → length labels < 2 ^ 63 → IsPrefix labels c
prefix_of labels c up few = by_label (has labels c) refl
  where
    by_label : (b : Bool) → has labels c ≡ b → IsPrefix labels c
    by_label false e = record {
      label = None;
      lexed = rw e (lexed_nothing (λ after. Unit {0}));
      begins = λ text begins. rw e begins;
      next = refl;
      labels_are = sym (no_label labels 0 c up e);
    }
    by_label true e =
        let n = next_label labels 0 c up e in
        record {
          label = Some (number_in labels c);
          lexed = rw e (lexed_then (reference_lexed labels c few) (lexed_equals (λ after. Unit {0})) (λ after may. refl));
          begins = λ text begins. rw e (record { first = 35; others = (decimal (number_in labels c) ++ codes "=") ++ text; is = refl; no_star = λ e. absurd (omega arith) });
          next = eq-eqb _ _ n.number;
          labels_are = sym n.one_more;
        }

-- If an object is visited again, then the text of its label is read back as a reference to the
-- object.
pub again_back : {T : Type 0} (shape : T → ShapeOf T) (names : T → Names) (labels : List ℕ) (c o : ℕ) (t : T) → AreIncreasing 0 labels → length labels < 2 ^ 63 → has labels o ≡ true → o < c
    → IsBack shape names labels (flat_map (chunk_text labels) (Again o ∷ [])) (vals.Ref o) [] c c t
again_back shape names labels c o t up few there lt = record {
  literal = again (number_in labels o);
  is_text = record {
    lexed = lexed_at (sym (append-nil (label_text labels o))) refl (reference_lexed labels o few);
    begins = record { first = 35; others = decimal (number_in labels o) ++ []; is = refl; no_star = λ e. absurd (omega arith) };
  };
  reads = λ k. ap (again_read k (before c labels)) (label_of labels 0 c o up there lt);
}
