-- The text of a value without parts is a plain literal with the value.
use Rattle.std.proofs.Common.{◌≡◌, ◌≢◌, ℕ, ℤ, pos, negsuc, zero, suc, ◌<◌, ◌≤◌, ◌^◌, ◌⊎◌, true, false, eqb, List, [], ◌∷◌, ◌++◌, Option, Some, None, refl, sym, ap, subst, ◌∙◌, arith, inl, inr}
use Rattle.std.specs.Prelude.{slice_get, find, IsTrue, IsSome, unwrap_or, option_map, codes}
use Rattle.std.specs.Fmt.{signed_decimal}
use Rattle.std.specs.Str.{bytes_eq}
use Rattle.std.proofs.lemmas.Bool.{false≢true, true≢false, lt-ltb, ltb-true, eqb-true}
use Rattle.std.proofs.lemmas.List.{append-nil}
use Rattle.base_data.specs.declared.model.value.Val.TheVariants as vals
use Rattle.base_data.specs.model.Graph.{IsSigned, IsInteger}
use Rattle.base_data.proofs.model.Lists.{found_passes}
use Rattle.types_lex.specs.declared.lexeme.Keyword.{Keyword}
use Rattle.types_lex.specs.declared.lexeme.Keyword.TheVariants as keywords
use Rattle.types_lex.specs.declared.lexeme.LexemeKind.TheVariants as kinds
use Rattle.types_lex.specs.declared.lexeme.Suffix.TheVariants as suffixes
use Rattle.types_lex.specs.declared.lexeme.Symbol.TheVariants as symbols
use Rattle.types_lex.specs.Lexeme.{Lower, IsForm, keyword_text}
use Rattle.types_spec.specs.declared.types.names.TagName.{TagName}
use Rattle.types_spec.specs.declared.types.names.Names.{Names}
use Rattle.types_spec.specs.declared.types.shape.PolyTag.{PolyTag}
use Rattle.types_spec.specs.declared.types.shape.ShapeOf.{ShapeOf}
use Rattle.types_spec.specs.declared.types.shape.ShapeOf.TheVariants as shapes
use Rattle.types_spec.specs.types.Fitting.{tag_with, is_bare, is_number, fits_int, fits_atom}
use Rattle.types_parse.specs.grammar.Grammar.{mark}
use Rattle.text_literal.specs.literal_grammar.Literal.{tag_head, integer, character, truth, unit, constant, empty_array, plain_kinds}
use Rattle.text_print.specs.leaves.Frames.{is_hash, tag_text, int_text}
use Rattle.text_print.specs.leaves.LeafTexts.{below_text, char_text}
use Rattle.text_print.specs.show.NamedFields.{HasIntName, HasTag}
use Rattle.text_literal.specs.parser.Starts.{small, start_at, is_in_bits, bare_tag, if_tag}
use Rattle.text_roundtrip.specs.lexed.Lexed.{Ends, IsLexed, BeginsWithoutStar}
use Rattle.text_roundtrip.specs.lexed.LexedNumbers.{InRange, is_minus}
use Rattle.text_roundtrip.proofs.lexed.CharLemmas.{char_lexed}
use Rattle.text_roundtrip.proofs.lexed.LexedLemmas.{lexed_then, lexed_lower, lexed_tag, lexed_open_paren, lexed_close_paren, lexed_open_array, lexed_close_array, begins_with}
use Rattle.text_roundtrip.proofs.lexed.LexedNumberLemmas.{lexed_integer, begins_integer}
use Rattle.text_roundtrip.specs.literal_texts.PlainLiterals.{IsPlain}
use Rattle.text_roundtrip.specs.literal_texts.Readable.{AreSumNames, IsTagName, IsReadable}

-- ---- names that are words

lower_word : (b : ℕ) (bs : List ℕ) → IsForm (Lower (b ∷ bs)) → IsLexed Ends (b ∷ bs) (kinds.Lower (b ∷ bs) ∷ [])
lower_word b bs is = lexed_lower (b ∷ bs) is

pub unit_lexed : IsLexed Ends (codes "()") (mark symbols.OpenParen ++ mark symbols.CloseParen)
unit_lexed = lexed_then lexed_open_paren (lexed_close_paren Ends) (λ after ends e. absurd (omega arith))

pub array_lexed : IsLexed Ends (codes "[||]") (mark symbols.OpenArray ++ mark symbols.CloseArray)
array_lexed = lexed_then (lexed_open_array Ends) (lexed_close_array Ends) (λ after ends. refl)

true_word : IsForm (Lower (codes "true"))
true_word = ((refl, refl), free)
  where
    free : (k : Keyword) → codes "true" ≢ keyword_text k
    free keywords.Type e = true≢false (ap (λ n. bytes_eq n (codes "true")) e)
    free keywords.And e = true≢false (ap (λ n. bytes_eq n (codes "true")) e)
    free keywords.Of e = true≢false (ap (λ n. bytes_eq n (codes "true")) e)
    free keywords.Mutable e = true≢false (ap (λ n. bytes_eq n (codes "true")) e)

false_word : IsForm (Lower (codes "false"))
false_word = ((refl, refl), free)
  where
    free : (k : Keyword) → codes "false" ≢ keyword_text k
    free keywords.Type e = true≢false (ap (λ n. bytes_eq n (codes "false")) e)
    free keywords.And e = true≢false (ap (λ n. bytes_eq n (codes "false")) e)
    free keywords.Of e = true≢false (ap (λ n. bytes_eq n (codes "false")) e)
    free keywords.Mutable e = true≢false (ap (λ n. bytes_eq n (codes "false")) e)

-- ---- integers

pub in_bits : (n : ℕ) (z : ℤ) → IsSigned n z → is_in_bits n z ≡ true
in_bits n (pos m) h = lt-ltb m (2 ^ n) h
in_bits n (negsuc m) h = lt-ltb m (2 ^ n) h

pub in_range : (n : ℕ) (z : ℤ) → 2 ^ n ≤ 2 ^ 63 → IsSigned n z → InRange z
in_range n (pos m) le h = omega (arith, h, le)
in_range n (negsuc m) le h = omega (arith, h, le)

absent_lexed : (z : ℤ) → InRange z → IsLexed Ends (signed_decimal z) (plain_kinds (integer (record { minus = is_minus z; value = z; suffix = suffixes.Absent })))
absent_lexed z range = subst (λ t. IsLexed Ends t (plain_kinds (integer (record { minus = is_minus z; value = z; suffix = suffixes.Absent })))) (append-nil (signed_decimal z)) (lexed_integer z suffixes.Absent range)

absent_begins : (z : ℤ) → InRange z → BeginsWithoutStar (signed_decimal z)
absent_begins z range = subst BeginsWithoutStar (append-nil (signed_decimal z)) (begins_integer z [] range)

pub same_number : (x y : ℤ) → is_number x y ≡ true → x ≡ y
same_number (pos m) (pos n) e = ap pos (eqb-true m n e)
same_number (negsuc m) (negsuc n) e = ap negsuc (eqb-true m n e)
same_number (pos m) (negsuc n) e = absurd (false≢true e)
same_number (negsuc m) (pos n) e = absurd (false≢true e)

pub some_of : {X : Type 0} (o : Option X) → IsSome o → (x : X) × (o ≡ Some x)
some_of None is = absurd (false≢true is)
some_of (Some x) is = (x, refl)

module _ {T : Type 0} (t : T) (names : Names) where
  unit_plain : IsPlain t (shapes.Below 1) names (codes "()") (small (vals.Int (pos 0)))
  unit_plain = record { plain = unit; lexed = unit_lexed; begins = begins_with 40 _ (λ e. absurd (omega arith)); starts = refl }

  truth_plain : (n : ℕ) → n < 2 → IsPlain t (shapes.Below 2) names (below_text 2 n) (small (vals.Int (pos n)))
  truth_plain zero less = record { plain = truth false; lexed = lower_word 102 _ false_word; begins = begins_with 102 _ (λ e. absurd (omega arith)); starts = refl }
  truth_plain (suc zero) less = record { plain = truth true; lexed = lower_word 116 _ true_word; begins = begins_with 116 _ (λ e. absurd (omega arith)); starts = refl }
  truth_plain (suc (suc n)) less = absurd (omega arith)

  char_plain : (n : ℕ) → n < 256 → IsPlain t (shapes.Below 256) names (char_text n) (small (vals.Int (pos n)))
  char_plain n less = record {
    plain = character n;
    lexed = char_lexed Ends n less;
    begins = begins_with 39 _ (λ e. absurd (omega arith));
    starts = refl;
  }

  below_plain : (many n : ℕ) → (many ≡ 1) ⊎ ((many ≡ 2) ⊎ (many ≡ 256)) → n < many → IsPlain t (shapes.Below many) names (below_text many n) (small (vals.Int (pos n)))
  below_plain many n (inl one) less =
      let none : n ≡ 0 = omega arith in
      subst (λ m. IsPlain t (shapes.Below m) names (below_text m n) (small (vals.Int (pos n)))) (sym one)
      (subst (λ n. IsPlain t (shapes.Below 1) names (codes "()") (small (vals.Int (pos n)))) (sym none) unit_plain)
  below_plain many n (inr (inl two)) less = subst (λ m. IsPlain t (shapes.Below m) names (below_text m n) (small (vals.Int (pos n)))) (sym two) (truth_plain n (omega arith))
  below_plain many n (inr (inr more)) less = subst (λ m. IsPlain t (shapes.Below m) names (below_text m n) (small (vals.Int (pos n)))) (sym more) (char_plain n (omega arith))

  constant_plain : (constants : ℕ) (blocks : List _) (n : ℕ) → AreSumNames names → n < constants → IsSome (slice_get names.constants n)
      → IsPlain t (shapes.Sum constants blocks) names (unwrap_or (slice_get names.constants n) []) (small (vals.Int (pos n)))
  constant_plain constants blocks n are less is =
      let some = some_of (slice_get names.constants n) is in
      let c = are.constant n some.0 some.1 in
      subst (λ o. IsPlain t (shapes.Sum constants blocks) names (unwrap_or o []) (small (vals.Int (pos n)))) (sym some.1) (record {
        plain = constant c.is_head.head;
        lexed = c.is_head.lexed;
        begins = c.is_head.begins;
        starts = rw (c.is_head.named, c.one, lt-ltb n constants less) refl;
      })

  tag_plain : (tags : List (PolyTag T)) (z : ℤ) → ((z : ℤ) (tag : TagName) → find (is_hash z) names.tags ≡ Some tag → IsTagName tags names z tag) → IsInteger z
      → IsTrue (is_bare (tag_with tags z)) → HasTag names z → IsPlain t (shapes.Poly tags) names (tag_text names z) (small (vals.Int z))
  tag_plain tags z are range bare is =
      let some = some_of (find (is_hash z) names.tags) is in
      let name = are z some.0 some.1 in
      subst (λ o. IsPlain t (shapes.Poly tags) names (codes "`" ++ unwrap_or (option_map (λ (tag : TagName). tag.name) o) []) (small (vals.Int z))) (sym some.1) (record {
        plain = constant (tag_head some.0.name);
        lexed = lexed_tag some.0.name name.lexed;
        begins = begins_with 96 _ (λ e. absurd (omega arith));
        starts = rw name.one (by_tag (tag_with tags z) refl bare);
      })
    where
      by_tag : (o : Option (PolyTag T)) → tag_with tags z ≡ o → IsTrue (is_bare o) → if_tag bare_tag o ≡ small (vals.Int z)
      by_tag None at bare = absurd (false≢true bare)
      by_tag (Some tag) at bare = by_argument tag.arg refl
        where
          same : tag.hash ≡ z
          same = same_number tag.hash z (found_passes (λ (tag : PolyTag T). is_number tag.hash z) tags tag at)

          by_argument : (a : Option T) → tag.arg ≡ a → bare_tag tag.hash tag.arg ≡ small (vals.Int z)
          by_argument None e = rw (e, same, in_bits 62 z range) refl
          by_argument (Some u) e = absurd (false≢true (rw e at bare))

  pub int_plain : (s : ShapeOf T) (z : ℤ) → IsReadable s names → IsInteger z → IsTrue (fits_int s z) → HasIntName s names z → IsPlain t s names (int_text s names z) (small (vals.Int z))
  int_plain shapes.AnyInt z are range fits named = record {
    plain = integer (record { minus = is_minus z; value = z; suffix = suffixes.Absent });
    lexed = absent_lexed z (in_range 62 z (omega arith) range);
    begins = absent_begins z (in_range 62 z (omega arith) range);
    starts = rw (in_bits 62 z range) refl;
  }
  int_plain (shapes.Below many) (pos n) are range fits named = below_plain many n are (ltb-true n many fits)
  int_plain (shapes.Below many) (negsuc n) are range fits named = absurd (false≢true fits)
  int_plain (shapes.Sum constants blocks) (pos n) are range fits named = constant_plain constants blocks n are (ltb-true n constants fits) named
  int_plain (shapes.Sum constants blocks) (negsuc n) are range fits named = absurd (false≢true fits)
  int_plain (shapes.Poly tags) z are range fits named = tag_plain tags z are range fits named
  int_plain shapes.Anything z are range fits named = absurd are
  int_plain s z are range fits named = absurd (false≢true fits)

  -- The literal `[||]` is the atom 0.
  empty_plain : (s : ShapeOf T) (tag : ℕ) → start_at t s names empty_array ≡ small (vals.Atom 0) → eqb tag 0 ≡ true → IsPlain t s names (codes "[||]") (small (vals.Atom tag))
  empty_plain s tag starts is = record {
    plain = empty_array;
    lexed = array_lexed;
    begins = begins_with 91 _ (λ e. absurd (omega arith));
    starts = starts ∙ ap (λ n. small (vals.Atom n)) (sym (eqb-true tag 0 is));
  }

  pub atom_plain : (s : ShapeOf T) (tag : ℕ) → IsReadable s names → IsTrue (fits_atom s tag) → IsPlain t s names (codes "[||]") (small (vals.Atom tag))
  atom_plain (shapes.ArrayOf u) tag are fits = empty_plain (shapes.ArrayOf u) tag refl fits
  atom_plain shapes.FloatArray tag are fits = empty_plain shapes.FloatArray tag refl fits
  atom_plain shapes.ArrayOfVariable tag are fits = empty_plain shapes.ArrayOfVariable tag refl fits
  atom_plain shapes.Anything tag are fits = absurd are
  atom_plain (shapes.ArrayOfAnything u) tag are fits = absurd are
  atom_plain s tag are fits = absurd (false≢true fits)
