-- A line has exactly one result. The lexer has one result, and the lexemes are empty, are one edit,
-- or have one syntax error.
use Rattle.std.proofs.Common.{ℕ, ◌+◌, ◌≡◌, ◌<◌, ◌≤◌, ◌∙◌, ⊎_elim, List, [], ◌∷◌, ◌++◌, length, drop, Some, None, refl, sym, ap, subst, arith, length-append, append_assoc}
use Rattle.std.specs.Prelude.{Result, Ok, Err}
use Rattle.std.proofs.lemmas.Bool.{cases_lt}
use Rattle.std.proofs.lemmas.List.{drop_at}
use Rattle.types_lex.specs.declared.lexeme.Lexeme.{Lexeme}
use Rattle.types_lex.specs.declared.lexeme.LexFault.{LexFault}
use Rattle.types_lex.proofs.PartLaws.{has_one_outcome}
use Rattle.types_parse.specs.grammar.Grammar.{Kinds}
use Rattle.types_parse.specs.grammar.Refusals.{IsSyntax}
use Rattle.types_parse.proofs.grammar.TypeGrammarTableLemmas.{one_text}
use Rattle.types_parse.proofs.grammar.LawLemmas.{text_or_syntax, no_syntax}
use Rattle.types_parse.specs.grammar.LexemeKinds.{kinds_of, number}
use Rattle.types_parse.specs.parse.Parsed.{byte_of}
use Rattle.types_parse.proofs.grammar.LexemeLemmas.{kinds_length}
use Rattle.text_path.specs.PathGrammar.{path_kinds}
use Rattle.text_path.specs.LineGrammar.{LineTree, set_line, link_line, unshare_line, graft_line, equals, assigned, line_kinds}
use Rattle.text_path.specs.LineMachine.{role_kinds}
use Rattle.text_path.specs.ScriptAnswer.{tree_of, EndWith, HasLiteralOf, IsAction, IsInTime, IsLater, LineAnswer, IsRead, IsLineLexed, IsLineAnswer}
use Rattle.text_path.specs.declared.edits.Action.{Action}
use Rattle.text_path.specs.declared.edits.Action.TheVariants as actions
use Rattle.text_path.specs.declared.edits.Edit.TheVariants as edits
use Rattle.text_path.specs.declared.edits.ScriptLine.{ScriptLine}
use Rattle.text_path.specs.declared.edits.ScriptFault.TheVariants as faults
use Rattle.text_path.specs.declared.line_prefix.Role.TheVariants as roles
use Rattle.text_path.proofs.LineTable.{line_table}

-- ---- at most one answer

no_both : (lexemes : List Lexeme) (line : LineTree) (k : ℕ) → line_kinds line ≡ kinds_of lexemes → IsSyntax line_kinds (kinds_of lexemes) k → ⊥
no_both lexemes line k e s = no_syntax line_table line k (subst (λ all. IsSyntax line_kinds all k) (sym e) s)

one_position : (lexemes : List Lexeme) (j k : ℕ) → IsSyntax line_kinds (kinds_of lexemes) j → IsSyntax line_kinds (kinds_of lexemes) k → j ≡ k
one_position lexemes j k a b = ⊎_elim
    (λ (line, e). absurd (no_both lexemes line j e a))
    (λ (n, s, alone). alone j a ∙ sym (alone k b))
    (text_or_syntax line_table (kinds_of lexemes))

-- A line has at least one lexeme.
not_empty : (line : LineTree) → line_kinds line ≡ [] → ⊥
not_empty (set_line value path all) h = cc
not_empty (link_line value path source) h = cc
not_empty (unshare_line value path) h = cc
not_empty (graft_line value path other source) h = cc

no_line : (lexemes : List Lexeme) (line : LineTree) → lexemes ≡ [] → line_kinds line ≡ kinds_of lexemes → ⊥
no_line lexemes line none h = not_empty line (h ∙ ap kinds_of none)

none_or_some : (lexemes : List Lexeme) → lexemes ≡ [] → 0 < length lexemes → ⊥
none_or_some lexemes none some = let e : length lexemes ≡ 0 = ap length none in absurd (omega arith)

-- If two suffixes of one list of lexemes have the same kinds, then the suffixes are equal.
same_end : (lexemes one other : List Lexeme) → kinds_of one ≡ kinds_of other → EndWith lexemes one → EndWith lexemes other → one ≡ other
same_end lexemes one other k (before, e) (prefix, f) =
    let lengths : length one ≡ length other = sym (kinds_length one) ∙ ap length k ∙ kinds_length other in
    let all : length before + length one ≡ length lexemes = sym (length-append before one) ∙ ap length (sym e) in
    let whole : length prefix + length other ≡ length lexemes = sym (length-append prefix other) ∙ ap length (sym f) in
    let same : length before ≡ length prefix = omega arith in
    sym (drop_at before one (length before) refl) ∙ ap (drop (length before)) (sym e ∙ f) ∙ drop_at prefix other (length before) (sym same)

record Same (value other : ℕ) (one two : Action) : Type 0 where
  values : value ≡ other
  actions : one ≡ two

same_set : (p q : List ℕ) (l m : List Lexeme) (n k : ℕ) → p ≡ q → l ≡ m → n ≡ k → actions.Edit (edits.Set p l n) ≡ actions.Edit (edits.Set q m k)
same_set p q l m n k a b c = cc

same_edit : (lexemes : List Lexeme) (end value other : ℕ) (one two : Action) → tree_of value one ≡ tree_of other two →
    HasLiteralOf lexemes end one → HasLiteralOf lexemes end two → Same value other one two
same_edit lexemes end value other (actions.Edit (edits.Set p l n)) (actions.Edit (edits.Set q m k)) h (a, s) (b, t) =
    let values : value ≡ other = cc in
    let paths : p ≡ q = cc in
    let kinds : kinds_of l ≡ kinds_of m = cc in
    record { values = values; actions = same_set p q l m n k paths (same_end lexemes l m kinds a b) (s ∙ sym t) }
same_edit lexemes end value other (actions.Edit (edits.Set p l n)) (actions.Edit (edits.Link q r)) h a b = absurd (cc)
same_edit lexemes end value other (actions.Edit (edits.Set p l n)) (actions.Edit (edits.Unshare q)) h a b = absurd (cc)
same_edit lexemes end value other (actions.Edit (edits.Link p s)) (actions.Edit (edits.Set q m k)) h a b = absurd (cc)
same_edit lexemes end value other (actions.Edit (edits.Link p s)) (actions.Edit (edits.Link q r)) h a b =
    let values : value ≡ other = cc in
    let paths : p ≡ q = cc in
    let sources : s ≡ r = cc in
    record { values = values; actions = cc }
same_edit lexemes end value other (actions.Edit (edits.Link p s)) (actions.Edit (edits.Unshare q)) h a b = absurd (cc)
same_edit lexemes end value other (actions.Edit (edits.Unshare p)) (actions.Edit (edits.Set q m k)) h a b = absurd (cc)
same_edit lexemes end value other (actions.Edit (edits.Unshare p)) (actions.Edit (edits.Link q r)) h a b = absurd (cc)
same_edit lexemes end value other (actions.Edit (edits.Unshare p)) (actions.Edit (edits.Unshare q)) h a b =
    let values : value ≡ other = cc in
    let paths : p ≡ q = cc in
    record { values = values; actions = cc }
same_edit lexemes end value other (actions.Graft p n s) (actions.Graft q m r) h a b =
    let values : value ≡ other = cc in
    let paths : p ≡ q = cc in
    let others : n ≡ m = cc in
    let sources : s ≡ r = cc in
    record { values = values; actions = cc }
same_edit lexemes end value other (actions.Graft p n s) (actions.Edit (edits.Set q m k)) h a b = absurd (cc)
same_edit lexemes end value other (actions.Graft p n s) (actions.Edit (edits.Link q r)) h a b = absurd (cc)
same_edit lexemes end value other (actions.Graft p n s) (actions.Edit (edits.Unshare q)) h a b = absurd (cc)
same_edit lexemes end value other (actions.Edit (edits.Set p l n)) (actions.Graft q m r) h a b = absurd (cc)
same_edit lexemes end value other (actions.Edit (edits.Link p s)) (actions.Graft q m r) h a b = absurd (cc)
same_edit lexemes end value other (actions.Edit (edits.Unshare p)) (actions.Graft q m r) h a b = absurd (cc)

same_line : (one other : ScriptLine) → one.number ≡ other.number → one.value ≡ other.value → one.action ≡ other.action → one ≡ other
same_line one other n v e =
    let a : one ≡ record { number = other.number; value = one.value; action = one.action } = ap (λ (x : ℕ). let l : ScriptLine = record { number = x; value = one.value; action = one.action } in l) n in
    let b : record { number = other.number; value = one.value; action = one.action } ≡ record { number = other.number; value = other.value; action = one.action } =
    ap (λ (x : ℕ). let l : ScriptLine = record { number = other.number; value = x; action = one.action } in l) v in
    let c : record { number = other.number; value = other.value; action = one.action } ≡ other =
    ap (λ (x : Action). let l : ScriptLine = record { number = other.number; value = other.value; action = x } in l) e in
    a ∙ b ∙ c

module _ (number : ℕ) (lexemes : List Lexeme) (end : ℕ) where
  same_answer : (one other : ScriptLine) → one.number ≡ number → other.number ≡ number → IsAction lexemes end one.value one.action → IsAction lexemes end other.value other.action → one ≡ other
  same_answer one other n m a b =
      let trees = one_text line_table (tree_of one.value one.action) (tree_of other.value other.action) (a.0 ∙ sym b.0) in
      let same = same_edit lexemes end one.value other.value one.action other.action trees a.1 b.1 in
      same_line one other (n ∙ sym m) same.values same.actions

  -- If lexemes request an action and are the lexemes of a `graft` line, then the action's tree is
  -- the `graft` line.
  same_tree : (value : ℕ) (action : Action) → IsAction lexemes end value action → (v o : ℕ) (p q : List ℕ) → line_kinds (graft_line v p o q) ≡ kinds_of lexemes
      → tree_of value action ≡ graft_line v p o q
  same_tree value action is v o p q e = one_text line_table (tree_of value action) (graft_line v p o q) (is.0 ∙ sym e)

  not_later : (value : ℕ) (action : Action) → IsInTime value action → (v o : ℕ) (p q : List ℕ) → tree_of value action ≡ graft_line v p o q → v ≤ o → ⊥
  not_later value (actions.Edit (edits.Set path literal len)) time v o p q e later = absurd (cc)
  not_later value (actions.Edit (edits.Link path source)) time v o p q e later = absurd (cc)
  not_later value (actions.Edit (edits.Unshare path)) time v o p q e later = absurd (cc)
  not_later value (actions.Graft path other source) time v o p q e later =
      let values : value ≡ v = cc in
      let others : other ≡ o = cc in
      omega (arith, values, others, time, later)

  in_time_only : (line : ScriptLine) → IsAction lexemes end line.value line.action → IsInTime line.value line.action → IsLater lexemes → ⊥
  in_time_only line is time (v, o, p, q, e, later) = not_later line.value line.action time v o p q (same_tree line.value line.action is v o p q e) later

  later_line : IsLater lexemes → lexemes ≡ [] → ⊥
  later_line (v, o, p, q, e, later) none = no_line lexemes (graft_line v p o q) none e

  later_position : IsLater lexemes → (k : ℕ) → IsSyntax line_kinds (kinds_of lexemes) k → ⊥
  later_position (v, o, p, q, e, later) k s = no_both lexemes (graft_line v p o q) k e s

  pub one_read : (one other : LineAnswer) → IsRead number lexemes end one → IsRead number lexemes end other → one ≡ other
  one_read (Ok None) (Ok None) a b = refl
  one_read (Ok None) (Ok (Some line)) a (n, e, t) = absurd (no_line lexemes (tree_of line.value line.action) a e.0)
  one_read (Ok None) (Err (faults.Later line)) a (n, is) = absurd (later_line is a)
  one_read (Ok None) (Err (faults.Syntax line position)) a (n, some, k, s, at) = absurd (none_or_some lexemes a some)
  one_read (Ok (Some line)) (Ok None) (n, e, t) b = absurd (no_line lexemes (tree_of line.value line.action) b e.0)
  one_read (Ok (Some line)) (Err (faults.Later number')) (n, e, t) (m, is) = absurd (in_time_only line e t is)
  one_read (Ok (Some line)) (Ok (Some other)) (n, a, t) (m, b, u) = ap (λ l. Ok (Some l)) (same_answer line other n m a b)
  one_read (Ok (Some line)) (Err (faults.Syntax l position)) (n, e, t) (m, some, k, s, at) = absurd (no_both lexemes (tree_of line.value line.action) k e.0 s)
  one_read (Err (faults.Syntax line position)) (Ok None) (n, some, k, s, at) b = absurd (none_or_some lexemes b some)
  one_read (Err (faults.Syntax l position)) (Ok (Some line)) (m, some, k, s, at) (n, e, t) = absurd (no_both lexemes (tree_of line.value line.action) k e.0 s)
  one_read (Err (faults.Syntax line position)) (Err (faults.Syntax other byte)) (n, some, j, s, at) (m, more, k, t, there) =
      let lines : line ≡ other = n ∙ sym m in
      let positions : position ≡ byte = sym at ∙ ap (byte_of lexemes end) (one_position lexemes j k s t) ∙ there in
      ap (λ x. Err (faults.Syntax x position)) lines ∙ ap (λ x. Err (faults.Syntax other x)) positions
  one_read (Err (faults.Syntax line position)) (Err (faults.Later other)) (n, some, k, s, at) (m, is) = absurd (later_position is k s)
  one_read (Err (faults.Later line)) (Ok None) (n, is) b = absurd (later_line is b)
  one_read (Err (faults.Later number')) (Ok (Some line)) (m, is) (n, e, t) = absurd (in_time_only line e t is)
  one_read (Err (faults.Later line)) (Err (faults.Syntax other position)) (m, is) (n, some, k, s, at) = absurd (later_position is k s)
  one_read (Err (faults.Later line)) (Err (faults.Later other)) (n, is) (m, is') = ap (λ x. Err (faults.Later x)) (n ∙ sym m)
  one_read one (Err (faults.Lex line fault)) a b = absurd b
  one_read one (Err faults.Memory) a b = absurd b
  one_read (Err (faults.Lex line fault)) other a b = absurd a
  one_read (Err faults.Memory) other a b = absurd a

one_lexed : (number end : ℕ) (outcome : Result (List Lexeme) LexFault) (one other : LineAnswer) → IsLineLexed number end outcome one → IsLineLexed number end outcome other → one ≡ other
one_lexed number end (Ok lexemes) one other a b = one_read number lexemes end one other a b
one_lexed number end (Err fault) one other a b = sym a ∙ b

pub one_line_answer : (number : ℕ) (text : List ℕ) (one other : LineAnswer) → IsLineAnswer number text one → IsLineAnswer number text other → one ≡ other
one_line_answer number text one other (o, a, l) (p, b, m) =
    let law = has_one_outcome text in
    let same : p ≡ o = law.2 p b ∙ sym (law.2 o a) in
    one_lexed number (length text) o one other l (subst (λ outcome. IsLineLexed number (length text) outcome other) same m)

-- ---- at least one answer

record Split (lexemes : List Lexeme) (last : Kinds) : Type 0 where
  before : List Lexeme
  after : List Lexeme
  whole : lexemes ≡ before ++ after
  encoded : kinds_of after ≡ last

split : (xs ys : Kinds) (lexemes : List Lexeme) → xs ++ ys ≡ kinds_of lexemes → Split lexemes ys
split [] ys lexemes h = record { before = []; after = lexemes; whole = refl; encoded = sym h }
split (x ∷ xs) ys [] h = absurd (cc)
split (x ∷ xs) ys (l ∷ rest) h =
    let tails : xs ++ ys ≡ kinds_of rest = cc in
    let s = split xs ys rest tails in
    record { before = l ∷ s.before; after = s.after; whole = ap (λ all. l ∷ all) s.whole; encoded = s.encoded }

abbrev set_prefix : ℕ → List ℕ → Kinds
set_prefix value path = number value ∷ (role_kinds roles.Set ++ assigned path [])

begins : (value : ℕ) (path : List ℕ) (last : Kinds) → set_prefix value path ++ last ≡ line_kinds (set_line value path last)
begins value path last = ap (λ xs. number value ∷ (role_kinds roles.Set ++ xs)) (append_assoc (path_kinds path) (equals ∷ []) last)

module _ (number : ℕ) (lexemes : List Lexeme) (end : ℕ) where
  some_line : (line : LineTree) → line_kinds line ≡ kinds_of lexemes → (answer : LineAnswer) × IsRead number lexemes end answer
  some_line (set_line value path last) h =
      let s = split (set_prefix value path) last lexemes (begins value path last ∙ h) in
      let encoded : line_kinds (set_line value path (kinds_of s.after)) ≡ kinds_of lexemes = ap (λ xs. line_kinds (set_line value path xs)) s.encoded ∙ h in
      (Ok (Some (record { number = number; value = value; action = actions.Edit (edits.Set path s.after end) })), (refl, (encoded, ((s.before, s.whole), refl)), tt))
  some_line (link_line value path source) h = (Ok (Some (record { number = number; value = value; action = actions.Edit (edits.Link path source) })), (refl, (h, tt), tt))
  some_line (unshare_line value path) h = (Ok (Some (record { number = number; value = value; action = actions.Edit (edits.Unshare path) })), (refl, (h, tt), tt))
  some_line (graft_line value path other source) h = ⊎_elim {C = (answer : LineAnswer) × IsRead number lexemes end answer}
      (λ (less : other < value). (Ok (Some (record { number = number; value = value; action = actions.Graft path other source })), (refl, (h, tt), less)))
      (λ (later : value ≤ other). (Err (faults.Later number), (refl, (value, other, path, source, h, later))))
      (cases_lt other value)

  some_read : (all : List Lexeme) → all ≡ lexemes → (answer : LineAnswer) × IsRead number lexemes end answer
  some_read [] e = (Ok None, sym e)
  some_read (l ∷ rest) e =
      let some : 0 < length lexemes = subst (λ (all : List Lexeme). 0 < length all) e (omega arith) in
      ⊎_elim {C = (answer : LineAnswer) × IsRead number lexemes end answer}
      (λ (line, h). some_line line h)
      (λ (k, s, alone). (Err (faults.Syntax number (byte_of lexemes end k)), (refl, some, k, s, refl)))
      (text_or_syntax line_table (kinds_of lexemes))

some_lexed : (number end : ℕ) (outcome : Result (List Lexeme) LexFault) → (answer : LineAnswer) × IsLineLexed number end outcome answer
some_lexed number end (Ok lexemes) = some_read number lexemes end lexemes refl
some_lexed number end (Err fault) = (Err (faults.Lex number fault), refl)

pub some_line_answer : (number : ℕ) (text : List ℕ) → (answer : LineAnswer) × IsLineAnswer number text answer
some_line_answer number text =
    let law = has_one_outcome text in
    let lexed = some_lexed number (length text) law.0 in
    (lexed.0, (law.0, law.1, lexed.1))
