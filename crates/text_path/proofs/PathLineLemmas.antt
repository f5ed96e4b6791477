-- The code of the line parser agrees with the table of lines.
use Rattle.std.proofs.Common.{ℕ, suc, ◌≡◌, ◌∙◌, ◌<◌, ◌≤◌, ⊎_elim, true, false, List, [], ◌∷◌, ◌++◌, length, take, drop, get_or, Option, Some, None, refl, sym, ap, subst, arith, append-nil}
use Rattle.std.specs.Prelude.{Result, Ok, Err, IfOk, IfErr, option_map, option_and_then, unwrap_or, if◌then◌else◌, nat_le}
use Rattle.std.proofs.lemmas.Bool.Decides.{leb_tells}
use Rattle.std.proofs.lemmas.List.{take-append-drop, drop-map}
use Rattle.std.proofs.lemmas.Option.{slice_get_past}
use Rattle.types_lex.specs.declared.lexeme.Lexeme.{Lexeme}
use Rattle.types_lex.specs.declared.lexeme.LexFault.{LexFault}
use Rattle.types_lex.specs.declared.lexeme.LexFault.TheVariants as lexer
use Rattle.types_lex.specs.LexText.{Lexes, Faults, UnlessMemory as unless_lexer}
use Rattle.types_parse.specs.grammar.Grammar.{Kinds}
use Rattle.types_parse.specs.grammar.Refusals.{IsSyntax}
use Rattle.types_parse.specs.grammar.TypeMachine.{run, Leads}
use Rattle.types_parse.proofs.grammar.MachineLemmas.{leads_run}
use Rattle.types_parse.proofs.grammar.TypeGrammarTableLemmas.{take_whole, run_more, is_syntax_at, syntax_end, text_is_read}
use Rattle.types_parse.specs.grammar.LexemeKinds.{kinds_of}
use Rattle.types_parse.specs.parse.Parsed.{byte_of}
use Rattle.types_parse.proofs.grammar.LexemeLemmas.{kinds_length, kinds_next}
use Rattle.text_path.specs.PathMachine.{at, accepted}
use Rattle.text_path.specs.LineGrammar.{LineTree, set_line, link_line, unshare_line, graft_line, line_kinds}
use Rattle.text_path.specs.LineMachine.{LineState, reading, literal, line_start, line_step, line_accepted, next_of, state_of, ended}
use Rattle.text_path.specs.LineCode.{IsKnown, whole_line, ended_line, in_time, in_time_by}
use Rattle.text_path.specs.ScriptAnswer.{tree_of, IsAction, IsInTime, HasLiteralOf, LineAnswer, IsRead, IsLineAnswer, UnlessMemory, line_fault}
use Rattle.text_path.specs.declared.edits.Action.{Action}
use Rattle.text_path.specs.declared.edits.Action.TheVariants as actions
use Rattle.text_path.specs.declared.edits.Edit.TheVariants as edits
use Rattle.text_path.specs.declared.edits.ScriptLine.{ScriptLine}
use Rattle.text_path.specs.declared.edits.ScriptFault.{ScriptFault}
use Rattle.text_path.specs.declared.edits.ScriptFault.TheVariants as faults
use Rattle.text_path.specs.declared.line_prefix.Role.{Role}
use Rattle.text_path.specs.declared.line_prefix.Role.TheVariants as roles
use Rattle.text_path.specs.declared.line_prefix.LinePrefix.{LinePrefix}
use Rattle.text_path.specs.declared.line_prefix.LinePrefix.TheVariants as prefixes
use Rattle.text_path.specs.declared.line_prefix.LineLexemes.{LineLexemes}
use Rattle.text_path.specs.declared.line_prefix.LineLexemes.TheVariants as tolds
use Rattle.text_path.specs.declared.line_prefix.LexemeResult.{LexemeResult}
use Rattle.text_path.specs.declared.line_prefix.LexemeResult.TheVariants as nexts
use Rattle.text_path.proofs.PathTable.{zeros}
use Rattle.text_path.proofs.LineTable.{flat, line_table, literal_leads}

-- The lexemes before the index `position` lead to the state `f`.
abbrev pub LineReached : List Lexeme → ℕ → LinePrefix → Type 0
LineReached lexemes position f = run line_step line_start (take position (kinds_of lexemes)) ≡ Some (reading f)

module _ (lexemes : List Lexeme) (position : ℕ) (f : LinePrefix) (reached : LineReached lexemes position f) where
  module _ (l : Lexeme) (within : position < length lexemes) (is : l ≡ get_or lexemes position l) where
    pub further : (next : LexemeResult) → next_of f l.kind ≡ next → run line_step line_start (take (suc position) (kinds_of lexemes)) ≡ state_of next
    further next h =
        ap (run line_step line_start) (kinds_next lexemes position l within is)
        ∙ run_more line_step (take position (kinds_of lexemes)) line_start (reading f) (state_of next) l.kind reached (ap state_of h)

    pub stuck : next_of f l.kind ≡ nexts.Nowhere → IsSyntax line_kinds (kinds_of lexemes) position
    stuck h =
        is_syntax_at line_table (kinds_of lexemes) position l.kind (reading f)
        (omega (arith, kinds_length lexemes)) (kinds_next lexemes position l within is) reached (ap state_of h)

  pub read_all : position ≡ length lexemes → run line_step line_start (kinds_of lexemes) ≡ Some (reading f)
  read_all all =
      let here : position ≡ length (kinds_of lexemes) = all ∙ sym (kinds_length lexemes) in
      let whole : take position (kinds_of lexemes) ≡ kinds_of lexemes = ap (λ n. take n (kinds_of lexemes)) here ∙ take_whole (kinds_of lexemes) in
      sym (ap (run line_step line_start) whole) ∙ reached

-- ---- the end of a line

no_end_in : (number value : ℕ) (role : Role) (o : Option (List ℕ)) → whole_line number value role o ≡ None → ended value role o ≡ None
no_end_in number value role None h = refl
no_end_in number value (roles.Source target) (Some path) h = absurd (cc)
no_end_in number value roles.Unshare (Some path) h = absurd (cc)
no_end_in number value (roles.Part target other) (Some path) h = absurd (cc)
no_end_in number value role (Some path) h = refl

no_end : (number : ℕ) (f : LinePrefix) → ended_line number f ≡ None → line_accepted (reading f) ≡ None
no_end number prefixes.Start h = refl
no_end number (prefixes.Value value) h = refl
no_end number (prefixes.Other value path) h = refl
no_end number (prefixes.Steps value role path after_dot) h = no_end_in number value role (accepted (at path after_dot)) h

-- The line has the number `number`, and the tree `o` is the tree of the line.
record Ends (number : ℕ) (o : Option LineTree) (line : ScriptLine) : Type 0 where
  numbers : line.number ≡ number
  encoded : o ≡ Some (tree_of line.value line.action)
  free : (lexemes : List Lexeme) (end : ℕ) → HasLiteralOf lexemes end line.action

is_end_in : (number value : ℕ) (role : Role) (o : Option (List ℕ)) (line : ScriptLine) → whole_line number value role o ≡ Some line → Ends number (ended value role o) line
is_end_in number value role None line h = absurd (cc)
is_end_in number value (roles.Source target) (Some path) line h =
    let is : record { number = number; value = value; action = actions.Edit (edits.Link target path) } ≡ line = cc in
    subst (Ends number (Some (link_line value target path))) is (record { numbers = refl; encoded = refl; free = λ lexemes end. tt })
is_end_in number value roles.Unshare (Some path) line h =
    let is : record { number = number; value = value; action = actions.Edit (edits.Unshare path) } ≡ line = cc in
    subst (Ends number (Some (unshare_line value path))) is (record { numbers = refl; encoded = refl; free = λ lexemes end. tt })
is_end_in number value (roles.Part target other) (Some path) line h =
    let is : record { number = number; value = value; action = actions.Graft target other path } ≡ line = cc in
    subst (Ends number (Some (graft_line value target other path))) is (record { numbers = refl; encoded = refl; free = λ lexemes end. tt })
is_end_in number value role (Some path) line h = absurd (cc)

is_end : (number : ℕ) (f : LinePrefix) (line : ScriptLine) → ended_line number f ≡ Some line → Ends number (line_accepted (reading f)) line
is_end number prefixes.Start line h = absurd (cc)
is_end number (prefixes.Value value) line h = absurd (cc)
is_end number (prefixes.Other value path) line h = absurd (cc)
is_end number (prefixes.Steps value role path after_dot) line h = is_end_in number value role (accepted (at path after_dot)) line h

-- If a prefix leads to a state, then reading continues from the state.
run_on : (xs ys : Kinds) (s m : LineState) → run line_step s xs ≡ Some m → run line_step s (xs ++ ys) ≡ run line_step m ys
run_on [] ys s m h = let e : s ≡ m = cc in ap (λ n. run line_step n ys) e
run_on (kind ∷ rest) ys s m h = on (line_step s kind) (λ n. run_on rest ys n m) h
  where
    on : (next : Option LineState) → ((n : LineState) → run line_step n rest ≡ Some m → run line_step n (rest ++ ys) ≡ run line_step m ys) →
        option_and_then (λ n. run line_step n rest) next ≡ Some m → option_and_then (λ n. run line_step n (rest ++ ys)) next ≡ run line_step m ys
    on None f i = absurd (cc)
    on (Some n) f i = f n i

literal_run : (value : ℕ) (path : List ℕ) (xs : Kinds) → run line_step (literal value path []) xs ≡ Some (literal value path xs)
literal_run value path xs = leads_whole (literal_leads value path [] xs)
  where
    leads_whole : Leads line_step flat (literal value path []) xs (zeros xs) (literal value path xs) → run line_step (literal value path []) xs ≡ Some (literal value path xs)
    leads_whole p = ap (run line_step (literal value path [])) (sym (append-nil xs)) ∙ leads_run p []

past_end : (lexemes : List Lexeme) (end : ℕ) → byte_of lexemes end (length lexemes) ≡ end
past_end lexemes end = ap (λ o. unwrap_or (option_map (λ (l : Lexeme). l.span.first) o) end) (slice_get_past lexemes (length lexemes) (omega arith))

-- ---- the result of the code

module _ (lexemes : List Lexeme) (number end : ℕ) where
  pub ends_early : 0 < length lexemes → (f : LinePrefix) → run line_step line_start (kinds_of lexemes) ≡ Some (reading f) → ended_line number f ≡ None →
      IsRead number lexemes end (Err (faults.Syntax number end))
  ends_early some f h e = (
    refl,
    some,
    length lexemes,
    subst (IsSyntax line_kinds (kinds_of lexemes)) (kinds_length lexemes) (syntax_end line_table (kinds_of lexemes) (reading f) h (no_end number f e)),
    past_end lexemes end,
  )

  -- The result is the line, or an error of the line's lexemes.
  abbrev pub Judged : ScriptLine → Result ScriptLine ScriptFault → Type 0
  Judged line (Ok whole) = IsRead number lexemes end (Ok (Some whole))
  Judged line (Err fault) = UnlessMemory (λ fault. IsRead number lexemes end (Err fault)) fault

  -- If lexemes request an action, then the result of the test for late copies is the result for the
  -- lexemes.
  judged : (line : ScriptLine) → line.number ≡ number → (action : Action) → IsAction lexemes end line.value action → action ≡ line.action →
      (result : Result ScriptLine ScriptFault) → result ≡ in_time_by line action → Judged line result
  judged line n (actions.Edit edit) is same result e = subst (Judged line) (sym e) (n, subst (IsAction lexemes end line.value) same is, subst (IsInTime line.value) same tt)
  judged line n (actions.Graft path other source) is same result e = subst (Judged line) (sym e) (⊎_elim {C = Judged line (in_time_by line (actions.Graft path other source))}
      (λ (yes : (nat_le line.value other ≡ true) × (line.value ≤ other)).
      subst (λ b. Judged line (if b then Err (faults.Later line.number) else Ok line)) (sym yes.0) (n, (line.value, other, path, source, is.0, yes.1)))
      (λ (no : (nat_le line.value other ≡ false) × (other < line.value)).
      subst (λ b. Judged line (if b then Err (faults.Later line.number) else Ok line)) (sym no.0)
      (n, subst (IsAction lexemes end line.value) same is, subst (IsInTime line.value) same no.1))
      (leb_tells line.value other))

  pub is_ended : (f : LinePrefix) → run line_step line_start (kinds_of lexemes) ≡ Some (reading f) → (line : ScriptLine) → ended_line number f ≡ Some line →
      (result : Result ScriptLine ScriptFault) → result ≡ in_time line → Judged line result
  is_ended f h line e result is =
      let i = is_end number f line e in
      judged line i.numbers line.action (text_is_read line_table (tree_of line.value line.action) (reading f) (kinds_of lexemes) h i.encoded, i.free lexemes end) refl result is

  pub judged_line : (line : ScriptLine) (result : Result ScriptLine ScriptFault) → Judged line result → IfOk result (λ line. IsRead number lexemes end (Ok (Some line)))
  judged_line line (Ok whole) is = is
  judged_line line (Err fault) is = tt

  pub judged_fault : (line : ScriptLine) (result : Result ScriptLine ScriptFault) → Judged line result
      → IfErr result (UnlessMemory (λ fault. IsRead number lexemes end (Err fault)))
  judged_fault line (Ok whole) is = tt
  judged_fault line (Err fault) is = is

  pub is_set : (value : ℕ) (path : List ℕ) (position : ℕ) → run line_step line_start (take position (kinds_of lexemes)) ≡ Some (literal value path []) →
      (line : ScriptLine) → line ≡ record { number = number; value = value; action = actions.Edit (edits.Set path (drop position lexemes) end) } →
      IsRead number lexemes end (Ok (Some line))
  is_set value path position h line e =
      let last = kinds_of (drop position lexemes) in
      let parts : kinds_of lexemes ≡ take position (kinds_of lexemes) ++ last =
      sym (take-append-drop position (kinds_of lexemes)) ∙ ap (λ xs. take position (kinds_of lexemes) ++ xs) (drop-map (λ (l : Lexeme). l.kind) position lexemes) in
      let ran : run line_step line_start (kinds_of lexemes) ≡ Some (literal value path last) =
      ap (run line_step line_start) parts ∙ run_on (take position (kinds_of lexemes)) last line_start (literal value path []) h ∙ literal_run value path last in
      subst (λ l. IsRead number lexemes end (Ok (Some l))) (sym e)
      (refl, (text_is_read line_table (set_line value path last) (literal value path last) (kinds_of lexemes) ran refl, ((take position lexemes, sym (take-append-drop position lexemes)), refl)), tt)

pub known_all : (lexemes : List Lexeme) (known : LineLexemes) (f : LinePrefix) → known ≡ tolds.All f → IsKnown lexemes known → run line_step line_start (kinds_of lexemes) ≡ Some (reading f)
known_all lexemes known f e h = subst (IsKnown lexemes) e h

pub known_literal : (lexemes : List Lexeme) (known : LineLexemes) (value : ℕ) (path : List ℕ) (position : ℕ) → known ≡ tolds.Literal value path position → IsKnown lexemes known →
    run line_step line_start (take position (kinds_of lexemes)) ≡ Some (literal value path [])
known_literal lexemes known value path position e h = let i = subst (IsKnown lexemes) e h in i.1

-- ---- from the result of the lexer

module _ (number : ℕ) (text : List ℕ) where
  pub lexed_line : (lexemes : List Lexeme) → Lexes text lexemes → (result : LineAnswer) →
      IfOk result (λ line. IsRead number lexemes (length text) (Ok line)) → IfOk result (λ line. IsLineAnswer number text (Ok line))
  lexed_line lexemes lexes (Ok line) h = (Ok lexemes, lexes, h)
  lexed_line lexemes lexes (Err fault) h = tt

  pub lexed_line_fault : (lexemes : List Lexeme) → Lexes text lexemes → (result : LineAnswer) →
      IfErr result (UnlessMemory (λ fault. IsRead number lexemes (length text) (Err fault))) →
      IfErr result (UnlessMemory (λ fault. IsLineAnswer number text (Err fault)))
  lexed_line_fault lexemes lexes (Ok line) h = tt
  lexed_line_fault lexemes lexes (Err (faults.Syntax line position)) h = (Ok lexemes, lexes, h)
  lexed_line_fault lexemes lexes (Err (faults.Later line)) h = (Ok lexemes, lexes, h)
  lexed_line_fault lexemes lexes (Err (faults.Lex line fault)) h = absurd h
  lexed_line_fault lexemes lexes (Err faults.Memory) h = tt

  pub refused_line : (fault : LexFault) → unless_lexer (Faults text) fault → UnlessMemory (λ f. IsLineAnswer number text (Err f)) (line_fault number fault)
  refused_line (lexer.BadByte position) h = (Err (lexer.BadByte position), h, refl)
  refused_line (lexer.OpenString position) h = (Err (lexer.OpenString position), h, refl)
  refused_line (lexer.OpenComment position) h = (Err (lexer.OpenComment position), h, refl)
  refused_line (lexer.TooBig position) h = (Err (lexer.TooBig position), h, refl)
  refused_line lexer.Memory h = tt
