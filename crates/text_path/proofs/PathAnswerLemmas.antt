-- A text has exactly one answer as a path. The lexer has one result, and the lexemes are one path
-- or have one syntax error.
use Rattle.std.proofs.Common.{ℕ, ◌≡◌, ◌∙◌, ⊎_elim, List, length, refl, sym, ap, subst}
use Rattle.std.specs.Prelude.{Result, Ok, Err, IfOk, IfErr}
use Rattle.types_lex.specs.declared.lexeme.Lexeme.{Lexeme}
use Rattle.types_lex.specs.declared.lexeme.LexFault.{LexFault}
use Rattle.types_lex.proofs.PartLaws.{has_one_outcome}
use Rattle.types_parse.specs.grammar.Refusals.{IsSyntax}
use Rattle.types_parse.proofs.grammar.TypeGrammarTableLemmas.{one_text}
use Rattle.types_parse.proofs.grammar.LawLemmas.{text_or_syntax, no_syntax}
use Rattle.types_parse.specs.grammar.LexemeKinds.{kinds_of}
use Rattle.types_parse.specs.parse.Parsed.{byte_of}
use Rattle.text_path.specs.PathGrammar.{path_kinds}
use Rattle.text_path.specs.ParserAnswer.{IsEncoded, IsLexed, IsAnswer, HasOneAnswer, UnlessMemory, Reports}
use Rattle.text_path.specs.declared.path_fault.PathFault.{PathFault}
use Rattle.text_path.specs.declared.path_fault.PathFault.TheVariants as faults
use Rattle.text_path.proofs.PathTable.{path_table}

abbrev Answer : Type 0
Answer = Result (List ℕ) PathFault

-- ---- at most one answer

no_both : (lexemes : List Lexeme) (path : List ℕ) (k : ℕ) → path_kinds path ≡ kinds_of lexemes → IsSyntax path_kinds (kinds_of lexemes) k → ⊥
no_both lexemes path k e s = no_syntax path_table path k (subst (λ all. IsSyntax path_kinds all k) (sym e) s)

one_position : (lexemes : List Lexeme) (j k : ℕ) → IsSyntax path_kinds (kinds_of lexemes) j → IsSyntax path_kinds (kinds_of lexemes) k → j ≡ k
one_position lexemes j k a b = ⊎_elim
    (λ (path, e). absurd (no_both lexemes path j e a))
    (λ (n, s, alone). alone j a ∙ sym (alone k b))
    (text_or_syntax path_table (kinds_of lexemes))

pub one_encoded : (lexemes : List Lexeme) (end : ℕ) (one other : Answer) → IsEncoded lexemes end one → IsEncoded lexemes end other → one ≡ other
one_encoded lexemes end (Ok p) (Ok q) a b = ap Ok (one_text path_table p q (a ∙ sym b))
one_encoded lexemes end (Ok p) (Err (faults.Syntax position)) a (k, s, at) = absurd (no_both lexemes p k a s)
one_encoded lexemes end (Ok p) (Err faults.Lex) a b = absurd b
one_encoded lexemes end (Ok p) (Err faults.Memory) a b = absurd b
one_encoded lexemes end (Err (faults.Syntax position)) (Ok q) (k, s, at) b = absurd (no_both lexemes q k b s)
one_encoded lexemes end (Err (faults.Syntax position)) (Err (faults.Syntax other)) (j, s, at) (k, t, there) =
    let e = sym at ∙ ap (byte_of lexemes end) (one_position lexemes j k s t) ∙ there in
    ap (λ p. Err (faults.Syntax p)) e
one_encoded lexemes end (Err (faults.Syntax position)) (Err faults.Lex) a b = absurd b
one_encoded lexemes end (Err (faults.Syntax position)) (Err faults.Memory) a b = absurd b
one_encoded lexemes end (Err faults.Lex) other a b = absurd a
one_encoded lexemes end (Err faults.Memory) other a b = absurd a

pub one_lexed : (end : ℕ) (outcome : Result (List Lexeme) LexFault) (one other : Answer) → IsLexed end outcome one → IsLexed end outcome other → one ≡ other
one_lexed end (Ok lexemes) one other a b = one_encoded lexemes end one other a b
one_lexed end (Err fault) one other a b = sym a ∙ b

pub at_most_one : (text : List ℕ) (one other : Answer) → IsAnswer text one → IsAnswer text other → one ≡ other
at_most_one text one other (o, a, l) (p, b, m) =
    let law = has_one_outcome text in
    let same : p ≡ o = law.2 p b ∙ sym (law.2 o a) in
    one_lexed (length text) o one other l (subst (λ outcome. IsLexed (length text) outcome other) same m)

-- ---- at least one answer

some_encoded : (lexemes : List Lexeme) (end : ℕ) → (answer : Answer) × IsEncoded lexemes end answer
some_encoded lexemes end = ⊎_elim {C = (answer : Answer) × IsEncoded lexemes end answer}
    (λ (path, e). (Ok path, e))
    (λ (k, s, alone). (Err (faults.Syntax (byte_of lexemes end k)), (k, s, refl)))
    (text_or_syntax path_table (kinds_of lexemes))

some_lexed : (end : ℕ) (outcome : Result (List Lexeme) LexFault) → (answer : Answer) × IsLexed end outcome answer
some_lexed end (Ok lexemes) = some_encoded lexemes end
some_lexed end (Err fault) = (Err faults.Lex, refl)

pub one_answer : (text : List ℕ) → HasOneAnswer text
one_answer text =
    let law = has_one_outcome text in
    let lexed = some_lexed (length text) law.0 in
    let is : IsAnswer text lexed.0 = (law.0, law.1, lexed.1) in
    (lexed.0, is, λ other so. at_most_one text other lexed.0 so is)

-- ---- the result of a call

pub reports : (text : List ℕ) (result : Answer) → IfOk result (λ path. IsAnswer text (Ok path))
    → IfErr result (UnlessMemory (λ fault. IsAnswer text (Err fault)))
    → (answer : Answer) → IsAnswer text answer → Reports result answer
reports text (Ok path) p f answer is = at_most_one text answer (Ok path) is p
reports text (Err (faults.Syntax position)) p f answer is = at_most_one text answer (Err (faults.Syntax position)) is f
reports text (Err faults.Lex) p f answer is = at_most_one text answer (Err faults.Lex) is f
reports text (Err faults.Memory) p f answer is = tt
