-- The answer for lexemes follows from the result of reading the lexemes.
use Rattle.std.proofs.Common.{sym, ◌∙◌, take}
use Rattle.std.specs.Prelude.{ℕ, ◌≡◌, true, false, is_err, Result, Ok, Err, List, [], length}
use Rattle.base_data.specs.declared.model.value.Val.{Val}
use Rattle.base_data.specs.declared.model.value.Obj.{Obj}
use Rattle.types_lex.specs.declared.lexeme.Lexeme.{Lexeme}
use Rattle.types_table.specs.declared.type_table.tabled.Tabled.{Tabled}
use Rattle.text_literal.specs.literal_grammar.Literal.{Literal, literal_kinds}
use Rattle.types_parse.specs.grammar.LexemeKinds.{kinds_of}
use Rattle.text_literal.specs.literal_grammar.LiteralNodes.{IsTreeOf}
use Rattle.text_literal.specs.declared.parser.literal_fault.LiteralFault.{LiteralFault}
use Rattle.text_literal.specs.declared.parser.literal_fault.LiteralFault.TheVariants as faults
use Rattle.text_literal.specs.declared.parser.literal_text.LiteralText.{LiteralText}
use Rattle.text_literal.specs.parser.LiteralReading.{LiteralRefusal, mismatch_at, int_range_at, label_at, literal_read}
use Rattle.text_literal.specs.parser.LiteralAnswers.{fault_of, in_bytes, shape_in, names_in, IsMisread, IsAnswer, IsAnswered, Gives}
use Rattle.text_literal.specs.parser.Underway.{IsRefusedAs, ReadsTree, Reads}
use Rattle.text_literal.proofs.parser.LiteralParserAnswerLemmas.{one_answer}

-- ---- the answer for a tree

misread :
    (table : Tabled) (at : ℕ) (lexemes : List Lexeme) (end : ℕ) (old : List Obj) (v : Literal) (fault : LiteralFault) → literal_kinds v ≡ kinds_of lexemes
    → IsRefusedAs lexemes end (literal_read (shape_in table) (names_in table) 0 v (length old) [] at) fault → IsMisread table at lexemes end (length old) fault
misread table at lexemes end old v fault encoded r = record { literal = v; refusal = r.refusal; encoded = encoded; refused = r.is; is = r.position }

no_syntax_refused : (lexemes : List Lexeme) (end position : ℕ) (refusal : LiteralRefusal ℕ) → faults.Syntax position ≡ fault_of (in_bytes lexemes end refusal) → ⊥
no_syntax_refused lexemes end position (mismatch_at k t) e = absurd (cc)
no_syntax_refused lexemes end position (int_range_at k) e = absurd (cc)
no_syntax_refused lexemes end position (label_at k) e = absurd (cc)

pub tree_answers :
    (text : LiteralText) (at : ℕ) (old new : List Obj) (result : Result Val LiteralFault) → IsTreeOf text.lexemes.now text.nodes.now → ReadsTree text at old new result
    → Reads text.table.now at text.lexemes.now text.end old new result
tree_answers text at old new (Ok value) tree reads =
    let w = reads.0 tree.0 tree.1 tree.2 in (
      record {
        literal = tree.0;
        objects = w.1.objects;
        encoded = tree.1;
        read = record { labels = w.0; read = w.1.read };
        behind = w.1.behind;
      },
      reads.1,
    )
tree_answers text at old new (Err faults.Memory) tree reads = reads.1
tree_answers text at old new (Err (faults.Syntax position)) tree reads =
    let r = reads.0 tree.0 tree.1 tree.2 in absurd (no_syntax_refused text.lexemes.now text.end position r.refusal r.position)
tree_answers text at old new (Err (faults.Mismatch position t)) tree reads = (reads.1, misread text.table.now at text.lexemes.now text.end old tree.0 _ tree.1 (reads.0 tree.0 tree.1 tree.2))
tree_answers text at old new (Err (faults.IntRange position)) tree reads = (reads.1, misread text.table.now at text.lexemes.now text.end old tree.0 _ tree.1 (reads.0 tree.0 tree.1 tree.2))
tree_answers text at old new (Err (faults.Label position)) tree reads = (reads.1, misread text.table.now at text.lexemes.now text.end old tree.0 _ tree.1 (reads.0 tree.0 tree.1 tree.2))

-- ---- the heap is restored after a fault

module _ (table : Tabled) (at : ℕ) (lexemes : List Lexeme) (end : ℕ) (old new : List Obj) where
  fault_answered : (fault : LiteralFault) (final : List Obj) → Reads table at lexemes end old new (Err fault) → final ≡ take (length old) new → IsAnswered table at lexemes end old final (Err fault)
  fault_answered faults.Memory final r e = e ∙ r
  fault_answered (faults.Syntax position) final r e = (e ∙ r.0, r.1)
  fault_answered (faults.Mismatch position t) final r e = (e ∙ r.0, r.1)
  fault_answered (faults.IntRange position) final r e = (e ∙ r.0, r.1)
  fault_answered (faults.Label position) final r e = (e ∙ r.0, r.1)

  pub answered_back :
      (result : Result Val LiteralFault) (final : List Obj) → is_err result ≡ true → Reads table at lexemes end old new result → final ≡ take (length old) new
      → IsAnswered table at lexemes end old final result
  answered_back (Ok value) final err r e = absurd (cc)
  answered_back (Err fault) final err r e = fault_answered fault final r e

  pub answered_there : (result : Result Val LiteralFault) → is_err result ≡ false → Reads table at lexemes end old new result → IsAnswered table at lexemes end old new result
  answered_there (Ok value) err r = r.0
  answered_there (Err fault) err r = absurd (cc)

  -- If two answers hold for the same lexemes, type and heap, then the answers are equal.
  same_answer : (one other : Result (List Obj × Val) LiteralFault) → IsAnswer table at lexemes end old one → IsAnswer table at lexemes end old other → one ≡ other
  same_answer one other a b = let answer = one_answer table at lexemes end old in answer.2 one a ∙ sym (answer.2 other b)

  pub only_answer :
      (result : Result Val LiteralFault) (answer : Result (List Obj × Val) LiteralFault) → IsAnswered table at lexemes end old new result
      → IsAnswer table at lexemes end old answer → Gives answer new result
  only_answer (Ok value) answer i a = same_answer answer (Ok (new, value)) a i
  only_answer (Err faults.Memory) answer i a = tt
  only_answer (Err (faults.Syntax position)) answer i a = same_answer answer (Err (faults.Syntax position)) a i.1
  only_answer (Err (faults.Mismatch position t)) answer i a = same_answer answer (Err (faults.Mismatch position t)) a i.1
  only_answer (Err (faults.IntRange position)) answer i a = same_answer answer (Err (faults.IntRange position)) a i.1
  only_answer (Err (faults.Label position)) answer i a = same_answer answer (Err (faults.Label position)) a i.1
