-- The table of paths reads exactly the paths.
use Rattle.std.proofs.Common.{ℕ, ◌≡◌, ◌∙◌, Bool, true, false, List, [], ◌∷◌, ◌++◌, Option, Some, None, refl, sym, ap, subst, arith, append_assoc, append-nil}
use Rattle.std.specs.Prelude.{IfSome, option_map, map, if◌then◌else◌}
use Rattle.types_lex.specs.declared.lexeme.LexemeKind.{LexemeKind}
use Rattle.types_lex.specs.declared.lexeme.LexemeKind.TheVariants as kinds
use Rattle.types_lex.specs.declared.lexeme.Symbol.TheVariants as symbols
use Rattle.types_parse.specs.grammar.Grammar.{Kinds}
use Rattle.types_parse.specs.grammar.TypeMachine.{Leads, stop, go}
use Rattle.types_parse.proofs.grammar.TypeGrammarTableLemmas.{Adds, Completes, Reads}
use Rattle.text_path.specs.PathGrammar.{dot, steps_kinds, path_kinds}
use Rattle.types_parse.specs.grammar.LexemeKinds.{number_of, number}
use Rattle.types_parse.proofs.grammar.LexemeLemmas.{number_is}
use Rattle.text_path.specs.PathMachine.{is_dot, PathState, at, start, step, prefix, accepted, ends}

abbrev pub none : PathState → ℕ
none s = 0

abbrev pub zeros : Kinds → List ℕ
zeros lexemes = map (λ (kind : LexemeKind). 0) lexemes

-- ---- the kind of a lexeme

dot_is : (kind : LexemeKind) → is_dot kind ≡ true → kind ≡ dot
dot_is (kinds.Symbol symbols.Dot) h = refl
dot_is kind h = absurd (cc)

-- ---- one step after another

pub steps_more : (path : List ℕ) (n : ℕ) → steps_kinds (path ++ n ∷ []) ≡ steps_kinds path ++ dot ∷ number n ∷ []
steps_more [] n = refl
steps_more (m ∷ ms) n = ap (λ rest. dot ∷ number m ∷ rest) (steps_more ms n)

more_is_steps : (path : List ℕ) (n : ℕ) → path_kinds (path ++ n ∷ []) ≡ steps_kinds (path ++ n ∷ [])
more_is_steps [] n = refl
more_is_steps (m ∷ ms) n = refl

-- ---- the table

abbrev pub final : List ℕ → PathState
final [] = at [] true
final (n ∷ ns) = at (n ∷ ns) false

leads_steps : (path steps : List ℕ) → Leads step none (at path false) (steps_kinds steps) (zeros (steps_kinds steps)) (at (path ++ steps) false)
leads_steps path [] = subst (λ p. Leads step none (at path false) [] [] (at p false)) (sym (append-nil path)) stop
leads_steps path (n ∷ ns) =
    go refl (omega arith) (go refl (omega arith)
    (subst (λ p. Leads step none (at (path ++ n ∷ []) false) (steps_kinds ns) (zeros (steps_kinds ns)) (at p false))
    (append_assoc path (n ∷ []) ns) (leads_steps (path ++ n ∷ []) ns)))

pub leads : (path : List ℕ) → Leads step none start (path_kinds path) (ends path) (final path)
leads [] = go refl (omega arith) stop
leads (n ∷ ns) = leads_steps [] (n ∷ ns)

accepts : (path : List ℕ) → accepted (final path) ≡ Some path
accepts [] = refl
accepts (n ∷ ns) = refl

accepted_prefix : (s : PathState) (path : List ℕ) → accepted s ≡ Some path → path_kinds path ≡ prefix s
accepted_prefix (at [] true) path h = let e : [] ≡ path = cc in ap path_kinds (sym e)
accepted_prefix (at (n ∷ ns) false) path h = let e : n ∷ ns ≡ path = cc in ap path_kinds (sym e)
accepted_prefix (at [] false) path h = absurd (cc)
accepted_prefix (at (n ∷ ns) true) path h = absurd (cc)

adds_number : (path : List ℕ) (kind : LexemeKind) (o : Option ℕ) → number_of kind ≡ o →
    IfSome (option_map (λ n. at (path ++ n ∷ []) false) o) (λ next. Adds prefix none (prefix (at path true)) 0 kind next)
adds_number path kind None h = tt
adds_number path kind (Some n) h = let is = number_is kind n h in
    subst (λ k. Adds prefix none (prefix (at path true)) 0 k (at (path ++ n ∷ []) false)) (sym is)
    (record { prefixes = steps_more path n ∙ sym (append_assoc (steps_kinds path) (dot ∷ []) (number n ∷ [])); opens = refl })

adds_dot : (path : List ℕ) (kind : LexemeKind) (b : Bool) → is_dot kind ≡ b →
    IfSome (if b then Some (at path true) else None) (λ next. Adds prefix none (prefix (at path false)) 0 kind next)
adds_dot path kind false h = tt
adds_dot path kind true h =
    subst (λ k. Adds prefix none (prefix (at path false)) 0 k (at path true)) (sym (dot_is kind h))
    (record { prefixes = refl; opens = refl })

adds : (s : PathState) (kind : LexemeKind) → IfSome (step s kind) (λ next. Adds prefix none (prefix s) (none s) kind next)
adds (at path true) kind = adds_number path kind (number_of kind) refl
adds (at path false) kind = adds_dot path kind (is_dot kind) refl

completes : (s : PathState) → Completes path_kinds ends prefix none s
completes (at path true) = record {
  text = path ++ 0 ∷ [];
  rest = number 0 ∷ [];
  begins = more_is_steps path 0 ∙ steps_more path 0 ∙ sym (append_assoc (steps_kinds path) (dot ∷ []) (number 0 ∷ []));
  deep = omega arith;
}
completes (at [] false) = record { text = []; rest = dot ∷ []; begins = refl; deep = omega arith }
completes (at (n ∷ ns) false) = record {
  text = n ∷ ns;
  rest = [];
  begins = sym (append-nil (steps_kinds (n ∷ ns)));
  deep = omega arith;
}

pub path_table : Reads path_kinds ends step start prefix none none accepted
path_table = record {
  final = final;
  leads = leads;
  accepts = accepts;
  accepted_prefix = accepted_prefix;
  start_prefix = refl;
  start_open = refl;
  adds = adds;
  completes = completes;
}
