-- The code of the path parser agrees with the table of paths.
use Rattle.std.proofs.Common.{ℕ, suc, ◌≡◌, ◌∙◌, ◌<◌, Bool, true, false, List, length, take, get_or, Some, None, refl, sym, ap, subst, arith}
use Rattle.std.specs.Prelude.{not, Result, Ok, Err, IfOk, IfErr}
use Rattle.types_lex.specs.declared.lexeme.Lexeme.{Lexeme}
use Rattle.types_lex.specs.declared.lexeme.LexFault.{LexFault}
use Rattle.types_lex.specs.declared.lexeme.LexFault.TheVariants as lexer
use Rattle.types_lex.specs.LexText.{Lexes, Faults, UnlessMemory as unless_lexer}
use Rattle.types_parse.specs.grammar.Refusals.{IsSyntax}
use Rattle.types_parse.specs.grammar.TypeMachine.{run}
use Rattle.types_parse.proofs.grammar.TypeGrammarTableLemmas.{take_whole, run_more, is_syntax_at, syntax_end, text_is_read}
use Rattle.types_parse.specs.grammar.LexemeKinds.{kinds_of}
use Rattle.types_parse.proofs.grammar.LexemeLemmas.{kinds_length, kinds_next}
use Rattle.text_path.specs.ParserAnswer.{IsAnswer, IsEncoded, fault_of_lexer, UnlessMemory}
use Rattle.text_path.specs.declared.path_fault.PathFault.{PathFault}
use Rattle.text_path.specs.declared.path_fault.PathFault.TheVariants as faults
use Rattle.text_path.specs.PathGrammar.{path_kinds}
use Rattle.text_path.specs.PathMachine.{at, start, step, stepped, accepted}
use Rattle.text_path.proofs.PathTable.{path_table}

-- The lexemes before the index `position` lead to the state with the steps and `after_dot`.
abbrev pub Reached : List Lexeme → ℕ → List ℕ → Bool → Type 0
Reached lexemes position path after_dot = run step start (take position (kinds_of lexemes)) ≡ Some (at path after_dot)

module _ (lexemes : List Lexeme) (position : ℕ) (path : List ℕ) (after_dot : Bool) (reached : Reached lexemes position path after_dot) where
  module _ (l : Lexeme) (within : position < length lexemes) (is : l ≡ get_or lexemes position l) where
    pub reads_on : (more : List ℕ) (goes : Bool) → step (at path after_dot) l.kind ≡ stepped goes more after_dot → goes ≡ true →
        Reached lexemes (suc position) more (not after_dot)
    reads_on more goes h e =
        ap (run step start) (kinds_next lexemes position l within is)
        ∙ run_more step (take position (kinds_of lexemes)) start (at path after_dot) (Some (at more (not after_dot))) l.kind reached
        (h ∙ ap (λ b. stepped b more after_dot) e)

    pub stops : (more : List ℕ) (goes : Bool) → step (at path after_dot) l.kind ≡ stepped goes more after_dot → goes ≡ false →
        IsSyntax path_kinds (kinds_of lexemes) position
    stops more goes h e =
        is_syntax_at path_table (kinds_of lexemes) position l.kind (at path after_dot)
        (omega (arith, kinds_length lexemes)) (kinds_next lexemes position l within is) reached
        (h ∙ ap (λ b. stepped b more after_dot) e)

  module _ (all : position ≡ length lexemes) where
    run_whole : run step start (kinds_of lexemes) ≡ Some (at path after_dot)
    run_whole =
        let here : position ≡ length (kinds_of lexemes) = all ∙ sym (kinds_length lexemes) in
        let whole : take position (kinds_of lexemes) ≡ kinds_of lexemes = ap (λ n. take n (kinds_of lexemes)) here ∙ take_whole (kinds_of lexemes) in
        sym (ap (run step start) whole) ∙ reached

    pub is_path : accepted (at path after_dot) ≡ Some path → path_kinds path ≡ kinds_of lexemes
    is_path h = text_is_read path_table path (at path after_dot) (kinds_of lexemes) run_whole h

    pub ends_early : accepted (at path after_dot) ≡ None → IsSyntax path_kinds (kinds_of lexemes) (length lexemes)
    ends_early h = subst (IsSyntax path_kinds (kinds_of lexemes)) (kinds_length lexemes)
        (syntax_end path_table (kinds_of lexemes) (at path after_dot) run_whole h)

-- ---- from the result of the lexer

module _ (text : List ℕ) where
  pub lexed_path : (lexemes : List Lexeme) → Lexes text lexemes → (result : Result (List ℕ) PathFault) →
      IfOk result (λ path. IsEncoded lexemes (length text) (Ok path)) → IfOk result (λ path. IsAnswer text (Ok path))
  lexed_path lexemes lexes (Ok path) h = (Ok lexemes, lexes, h)
  lexed_path lexemes lexes (Err fault) h = tt

  pub lexed_fault : (lexemes : List Lexeme) → Lexes text lexemes → (result : Result (List ℕ) PathFault) →
      IfErr result (UnlessMemory (λ fault. IsEncoded lexemes (length text) (Err fault))) →
      IfErr result (UnlessMemory (λ fault. IsAnswer text (Err fault)))
  lexed_fault lexemes lexes (Ok path) h = tt
  lexed_fault lexemes lexes (Err (faults.Syntax position)) h = (Ok lexemes, lexes, h)
  lexed_fault lexemes lexes (Err faults.Lex) h = absurd h
  lexed_fault lexemes lexes (Err faults.Memory) h = tt

  pub refused : (fault : LexFault) → unless_lexer (Faults text) fault → UnlessMemory (λ f. IsAnswer text (Err f)) (fault_of_lexer fault)
  refused (lexer.BadByte position) h = (Err (lexer.BadByte position), h, refl)
  refused (lexer.OpenString position) h = (Err (lexer.OpenString position), h, refl)
  refused (lexer.OpenComment position) h = (Err (lexer.OpenComment position), h, refl)
  refused (lexer.TooBig position) h = (Err (lexer.TooBig position), h, refl)
  refused lexer.Memory h = tt
