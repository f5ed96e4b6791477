-- The plain text of a script, line by line.
use Rattle.std.proofs.Common.{ℕ, ◌+◌, ◌≡◌, ◌<◌, ◌≤◌, ◌∙◌, Bool, eqb, List, [], ◌∷◌, ◌++◌, length, map, take, drop, refl, sym, ap, subst, arith, append_assoc, drop-drop, length-drop}
use Rattle.std.specs.Prelude.{◌≢◌, not}
use Rattle.std.specs.List.{All, join_with_byte, position_or_len}
use Rattle.std.proofs.lemmas.List.{length-map}
use Rattle.std.proofs.lemmas.List.Elements.{All-append, All-from_recursion}
use Rattle.std.proofs.lemmas.List.Splits.{slice_split_first, length-slice_split}
use Rattle.std.proofs.lemmas.List.Sums.{prefix_len-le-length}
use Rattle.std.proofs.Math.Seq.{take-length}
use Rattle.text_path.specs.ScriptAnswer.{lines_of}
use Rattle.text_path.proofs.PathScriptLemmas.{last_line}
use Rattle.text_decimal.specs.texts.PlainTexts.{decimals_in, plain_text}
use Rattle.text_decimal.specs.declared.scripts.plain_scripts.PlainScript.{PlainScript}
use Rattle.text_decimal.specs.scripts.Scripts.{plain_script, decimals_of}
use Rattle.text_decimal.specs.scripts.PlainScripts.{Fit, IsLineWritten, IsPlainScript}

abbrev is_feed : ℕ → Bool
is_feed b = eqb b 10

abbrev pub first_len : List ℕ → ℕ
first_len text = position_or_len is_feed text

-- ---- the first line

join_more : (line : List ℕ) (others : List (List ℕ)) → 0 < length others → join_with_byte 10 (line ∷ others) ≡ line ++ 10 ∷ join_with_byte 10 others
join_more line [] some = absurd (omega arith)
join_more line (other ∷ others) some = refl

module _ (text : List ℕ) (more : first_len text < length text) where
  abbrev line : List ℕ
  line = take (first_len text) text

  abbrev rest : List ℕ
  rest = drop (first_len text + 1) text

  lines_more : lines_of text ≡ line ∷ lines_of rest
  lines_more = slice_split_first is_feed text 0 more

  some_lines : 0 < length (map plain_text (lines_of rest))
  some_lines = omega (arith, length-map (lines_of rest) plain_text, length-slice_split is_feed rest)

  plain_more : plain_script text ≡ plain_text line ++ 10 ∷ plain_script rest
  plain_more = ap (λ ls. join_with_byte 10 (map plain_text ls)) lines_more ∙ join_more (plain_text line) (map plain_text (lines_of rest)) some_lines

  decimals_more : decimals_of text ≡ decimals_in line ∷ decimals_of rest
  decimals_more = ap (λ ls. map decimals_in ls) lines_more

-- If a line is not the last line, then the line ends before the end of the text.
pub shorter : (text : List ℕ) (len : ℕ) → len ≡ first_len text → len ≢ length text → len < length text
shorter text len is other = omega (arith, is, other, prefix_len-le-length (λ b. not (is_feed b)) text)

-- ---- the loop

-- The appended text is the plain text of the original text before the offset `at`.
pub record IsBegun (text : List ℕ) (at : ℕ) (plain : PlainScript) : Type 0 where
  pub inside : at ≤ length text
  pub text_is : plain_script text ≡ plain.text.items ++ plain_script (drop at text)
  pub decimals_are : decimals_of text ≡ plain.decimals.items ++ decimals_of (drop at text)
  pub fit : All Fit plain.decimals.items

module _ (text : List ℕ) (at : ℕ) (plain : PlainScript) (begun : IsBegun text at plain) (rest : List ℕ) (is_rest : rest ≡ drop at text) (len : ℕ) (is_len : len ≡ first_len rest)
    (next : PlainScript) (write : IsLineWritten (take len rest) plain next) where
  fit_next : All Fit next.decimals.items
  fit_next = subst (All Fit) (sym write.decimals) (All-append Fit plain.decimals.items (decimals_in (take len rest) ∷ []) begun.fit (All-from_recursion Fit (decimals_in (take len rest) ∷ []) (write.fit, tt)))

  pub ended : len ≡ length rest → IsPlainScript text next
  ended e =
      let whole : first_len rest ≡ length rest = sym is_len ∙ e in
      let line : take len rest ≡ rest = ap (λ n. take n rest) e ∙ take-length rest in
      let last : lines_of (drop at text) ≡ take len rest ∷ [] = ap lines_of (sym is_rest) ∙ last_line rest whole ∙ ap (λ l. l ∷ []) (sym line) in
      record {
        text_is = write.text ∙ sym (begun.text_is ∙ ap (λ ls. plain.text.items ++ join_with_byte 10 (map plain_text ls)) last);
        decimals_are = write.decimals ∙ sym (begun.decimals_are ∙ ap (λ ls. plain.decimals.items ++ map decimals_in ls) last);
        fit = fit_next;
      }

  pub going : len < length rest → (after : PlainScript) → after.text.items ≡ next.text.items ++ 10 ∷ [] → after.decimals.items ≡ next.decimals.items → IsBegun text (at + (len + 1)) after
  going h after e f =
      let more : first_len rest < length rest = subst (λ n. n < length rest) is_len h in
      let left : drop (first_len rest + 1) rest ≡ drop (at + (len + 1)) text =
      ap (λ n. drop (n + 1) rest) (sym is_len) ∙ ap (λ t. drop (len + 1) t) is_rest ∙ drop-drop (len + 1) at text in
      let line : take (first_len rest) rest ≡ take len rest = ap (λ n. take n rest) (sym is_len) in
      record {
        inside = omega (arith, begun.inside, h, ap length is_rest, length-drop at text);
        text_is = begun.text_is ∙ ap (λ t. plain.text.items ++ plain_script t) (sym is_rest)
            ∙ ap (λ t. plain.text.items ++ t) (plain_more rest more)
            ∙ ap (λ t. plain.text.items ++ (plain_text t ++ 10 ∷ plain_script (drop (first_len rest + 1) rest))) line
            ∙ ap (λ t. plain.text.items ++ (plain_text (take len rest) ++ 10 ∷ plain_script t)) left
            ∙ sym (append_assoc plain.text.items (plain_text (take len rest)) (10 ∷ plain_script (drop (at + (len + 1)) text)))
            ∙ ap (λ t. t ++ 10 ∷ plain_script (drop (at + (len + 1)) text)) (sym write.text)
            ∙ sym (append_assoc next.text.items (10 ∷ []) (plain_script (drop (at + (len + 1)) text)))
            ∙ ap (λ t. t ++ plain_script (drop (at + (len + 1)) text)) (sym e);
        decimals_are = begun.decimals_are ∙ ap (λ t. plain.decimals.items ++ decimals_of t) (sym is_rest)
            ∙ ap (λ ds. plain.decimals.items ++ ds) (decimals_more rest more)
            ∙ ap (λ t. plain.decimals.items ++ decimals_in t ∷ decimals_of (drop (first_len rest + 1) rest)) line
            ∙ ap (λ t. plain.decimals.items ++ decimals_in (take len rest) ∷ decimals_of t) left
            ∙ sym (append_assoc plain.decimals.items (decimals_in (take len rest) ∷ []) (decimals_of (drop (at + (len + 1)) text)))
            ∙ ap (λ ds. ds ++ decimals_of (drop (at + (len + 1)) text)) (sym write.decimals ∙ sym f);
        fit = subst (All Fit) (sym f) fit_next;
      }
