-- Writing of a text to a sink through a buffer.
use Rattle.std.proofs.Common.{ℕ, ◌≡◌, ◌+◌, ◌∙◌, List, [], ◌∷◌, ◌++◌, take, drop, Some, Result, Ok, Err, sym, ap, subst, append_assoc, append-nil}
use Rattle.std.specs.Prelude.{IsErr, map, codes, slice_get}
use Rattle.std.proofs.lemmas.List.{take-append-drop, take_more, map-append}
use Rattle.std.proofs.lemmas.Option.{slice_get_within, get_or_from_slice_get}
use Rattle.std.proofs.lemmas.Result.{MatchResult-from_err}
use Rattle.std.proofs.lemmas.List.Concat.{flat_map-append}
use Rattle.base_io.specs.StreamState.{ByteState, change}
use Rattle.base_io.specs.Sink.{Writes, WritesPart}
use Rattle.base_io.proofs.WritesLemmas.{writes_writes, writes_part, part_more}
use Rattle.cert_format.specs.Format.{pair_line, text_of, head_line, pair_lines, section_text}
use Rattle.cert_format.specs.declared.section.Section.{Section}
use Rattle.cert_format.specs.TextWrites.{LeavesText, WritesPrefix, WritesAll}

-- ---- the contents of the buffer

module _ (a b c : ByteState) (text rest : List ℕ) (left : LeavesText (change a b) text rest) where
  pub leaves_then : (last : List ℕ) → LeavesText (change b c) rest last → LeavesText (change a c) text last
  leaves_then last then = record {
    prefix = left.prefix ++ then.prefix;
    whole = left.whole ∙ (ap (λ (r : List ℕ). left.prefix ++ r) then.whole ∙ sym (append_assoc left.prefix then.prefix last));
    write = writes_writes a b c left.prefix then.prefix left.write then.write;
  }

  pub part_then : WritesPart (change b c) rest → WritesPart (change a c) text
  part_then part =
      subst (λ (t : List ℕ). WritesPart (change a c) t) (sym left.whole) (writes_part a b c left.prefix rest left.write part)

  pub writes_then : Writes (change b c) rest → Writes (change a c) text
  writes_then write =
      subst (λ (t : List ℕ). Writes (change a c) t) (sym left.whole) (writes_writes a b c left.prefix rest left.write write)

pub leaves_more : (a b : ByteState) (text rest more longer : List ℕ) → LeavesText (change a b) text rest → longer ≡ rest ++ more
    → LeavesText (change a b) (text ++ more) longer
leaves_more a b text rest more longer left is = record {
  prefix = left.prefix;
  whole = ap (λ (t : List ℕ). t ++ more) left.whole
      ∙ (append_assoc left.prefix rest more ∙ ap (λ (r : List ℕ). left.prefix ++ r) (sym is));
  write = left.write;
}

-- If a call on the sink fails, then a proper prefix was written.
pub prefix_fails : {A E : Type 0} (a b : ByteState) (text rest : List ℕ) (result : Result A E) → IsErr result → WritesPart (change a b) text
    → WritesPrefix (change a b) text rest result
prefix_fails a b text rest result is part =
    MatchResult-from_err result (λ _. LeavesText (change a b) text rest) (λ _. WritesPart (change a b) text) is (λ _. part)

pub all_fails : {A E : Type 0} (a b : ByteState) (text : List ℕ) (result : Result A E) → IsErr result → WritesPart (change a b) text
    → WritesAll (change a b) text result
all_fails a b text result is part = MatchResult-from_err result (λ _. Writes (change a b) text) (λ _. WritesPart (change a b) text) is (λ _. part)

-- If a prefix is written, and then the remaining text is written, then the whole text is written.
pub all_then : {A E : Type 0} (a b c : ByteState) (text rest : List ℕ) (result : Result A E) → LeavesText (change a b) text rest
    → WritesAll (change b c) rest result → WritesAll (change a c) text result
all_then a b c text rest (Ok done) left all = writes_then a b c text rest left all
all_then a b c text rest (Err failed) left all = part_then a b c text rest left all

-- ---- lines of pairs

abbrev lines_of : List (ℕ × ℕ) → List ℕ
lines_of pairs = text_of (map pair_line pairs)

lines_both : (one other : List (ℕ × ℕ)) → lines_of (one ++ other) ≡ lines_of one ++ lines_of other
lines_both one other =
    ap text_of (map-append pair_line one other) ∙ flat_map-append (λ (l : List ℕ). l ++ 10 ∷ []) (map pair_line one) (map pair_line other)

pub lines_more :
    (text : List ℕ) (pairs : List (ℕ × ℕ)) (i : ℕ) (pair : ℕ × ℕ) → slice_get pairs i ≡ Some pair
    → (text ++ lines_of (take i pairs)) ++ (pair_line pair ++ 10 ∷ []) ≡ text ++ lines_of (take (i + 1) pairs)
lines_more text pairs i pair at_i =
    append_assoc text (lines_of (take i pairs)) (pair_line pair ++ 10 ∷ [])
    ∙ ap (λ (t : List ℕ). text ++ t)
    (ap (λ (t : List ℕ). lines_of (take i pairs) ++ t) (sym (append-nil (pair_line pair ++ 10 ∷ [])))
    ∙ (sym (lines_both (take i pairs) (pair ∷ [])) ∙ ap lines_of (sym more))) where
      more : take (i + 1) pairs ≡ take i pairs ++ pair ∷ []
      more =
          take_more pairs i pair (slice_get_within pairs i pair at_i)
          ∙ ap (λ (p : ℕ × ℕ). take i pairs ++ p ∷ []) (get_or_from_slice_get pairs i pair pair at_i)

-- A proper prefix of the first lines of pairs is a proper prefix of all lines of pairs.
pub part_of_lines : (a b : ByteState) (text : List ℕ) (pairs : List (ℕ × ℕ)) (i : ℕ) → WritesPart (change a b) (text ++ lines_of (take i pairs))
    → WritesPart (change a b) (text ++ lines_of pairs)
part_of_lines a b text pairs i part =
    subst (λ (t : List ℕ). WritesPart (change a b) t)
    (append_assoc text (lines_of (take i pairs)) (lines_of (drop i pairs))
    ∙ ap (λ (t : List ℕ). text ++ t) (sym (lines_both (take i pairs) (drop i pairs)) ∙ ap lines_of (take-append-drop i pairs)))
    (part_more a b (text ++ lines_of (take i pairs)) (lines_of (drop i pairs)) part)

-- An entry consists of its first line, the lines of its pairs, and the last line.
pub whole_text : (k : ℕ) (section : Section) (text : List ℕ) → text ≡ head_line k section ++ 10 ∷ []
    → (text ++ text_of (pair_lines section)) ++ codes "end\n" ≡ section_text k section
whole_text k section text is =
    append_assoc text (text_of (pair_lines section)) (codes "end\n")
    ∙ (ap (λ (t : List ℕ). t ++ (text_of (pair_lines section) ++ codes "end\n")) is
    ∙ ap (λ (t : List ℕ). (head_line k section ++ 10 ∷ []) ++ t)
    (sym (flat_map-append (λ (l : List ℕ). l ++ 10 ∷ []) (pair_lines section) (codes "end" ∷ []))))
