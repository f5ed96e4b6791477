-- The state of the parser at a lexeme, and the result of the parser at the end.
use Rattle.std.proofs.Common.{ℕ, suc, ◌^◌, ◌≡◌, ◌∙◌, ◌<◌, List, [], ◌∷◌, ◌++◌, length, take, get_or, Option, Some, None, refl, sym, ap, subst, ⊎_elim, arith, append_assoc, append-nil}
use Rattle.std.specs.Prelude.{Bool, true, false, if◌then◌else◌, Result, Ok, Err, IfSome, option_map, option_and_then}
use Rattle.types_lex.specs.declared.lexeme.Lexeme.{Lexeme}
use Rattle.types_parse.specs.grammar.Grammar.{Kinds}
use Rattle.types_parse.specs.grammar.Refusals.{IsSyntax}
use Rattle.types_parse.specs.grammar.TypeMachine.{run}
use Rattle.types_parse.proofs.grammar.TypeGrammarTableLemmas.{taken, take_whole, run_more, is_syntax_at, syntax_end, text_is_read, one_text}
use Rattle.types_parse.proofs.grammar.LawLemmas.{text_or_syntax, no_syntax}
use Rattle.text_literal.specs.declared.literal_grammar.literal_node.LiteralNode.{LiteralNode}
use Rattle.text_literal.specs.declared.literal_grammar.pending_node.PendingNode.{PendingNode}
use Rattle.text_literal.specs.declared.literal_grammar.pending_node.Stage.{Stage}
use Rattle.text_literal.specs.declared.literal_grammar.pending_node.Stage.TheVariants as stages
use Rattle.text_literal.specs.literal_grammar.Literal.{Literal, literal_kinds}
use Rattle.text_literal.specs.literal_grammar.LiteralMachine.{due, hash_read, number_read, plain_due, bracket_read, head_read, field_due, name_read, whole, LiteralState, at, start, step, accepted, prefix}
use Rattle.types_parse.specs.grammar.LexemeKinds.{kinds_of}
use Rattle.types_parse.proofs.grammar.LexemeLemmas.{kinds_length, kinds_next}
use Rattle.text_literal.specs.literal_grammar.LiteralNodes.{literal_nodes, IsTreeOf, IsTreeAnswer}
use Rattle.text_literal.specs.literal_grammar.LiteralCode.{Code, code, step_code, end_code, Steps}
use Rattle.text_literal.proofs.literal_grammar.LiteralPrefixes.{step_prefixes}
use Rattle.text_literal.proofs.literal_grammar.LiteralTable.{literal_table}
use Rattle.text_literal.proofs.literal_grammar.FollowCode.{code_of, coded, step_follows}

run_prefix : (xs : Kinds) (s t : LiteralState) → run step s xs ≡ Some t → prefix t ≡ prefix s ++ xs
run_prefix [] s t h = let e : s ≡ t = cc in ap prefix (sym e) ∙ sym (append-nil (prefix s))
run_prefix (kind ∷ rest) s t h = onward (step s kind) (step_prefixes s kind) (λ n. run_prefix rest n t) h
  where
    onward : (next : Option LiteralState) → IfSome next (λ n. prefix n ≡ prefix s ++ kind ∷ []) → ((n : LiteralState) → run step n rest ≡ Some t → prefix t ≡ prefix n ++ rest) →
        option_and_then (λ n. run step n rest) next ≡ Some t → prefix t ≡ prefix s ++ kind ∷ rest
    onward None a f e = absurd (cc)
    onward (Some n) a f e = f n e ∙ ap (λ xs. xs ++ rest) a ∙ append_assoc (prefix s) (kind ∷ []) rest

from_map : {X Y : Type 0} (f : X → Y) (o : Option X) (y : Y) → option_map f o ≡ Some y → (x : X) × (o ≡ Some x) × (f x ≡ y)
from_map f None y h = absurd (cc)
from_map f (Some x) y h = let e : f x ≡ y = cc in (x, refl, e)

none_map : {X Y : Type 0} (f : X → Y) (o : Option X) → option_map f o ≡ None → o ≡ None
none_map f None h = refl
none_map f (Some x) h = absurd (cc)

-- The lexemes before the index `position` lead to a state with the given nodes, brackets and stage.
abbrev pub Reached : List Lexeme → ℕ → List LiteralNode → List PendingNode → Stage → Type 0
Reached lexemes position ns os stage = (s : LiteralState) × (run step start (take position (kinds_of lexemes)) ≡ Some s) × (code_of s ≡ code ns os stage)

pub begins : (lexemes : List Lexeme) (ns : List LiteralNode) (os : List PendingNode) → ns ≡ [] → os ≡ [] → Reached lexemes 0 ns os stages.Due
begins lexemes ns os h i = (start, refl, ap (λ x. code x [] stages.Due) (sym h) ∙ ap (λ x. code ns x stages.Due) (sym i))

abbrev end_of : Code → Option (List LiteralNode)
end_of (code ns os stage) = end_code ns os stage

end_follows : (s : LiteralState) → end_of (code_of s) ≡ option_map (literal_nodes 0) (accepted s)
end_follows (at [] due) = refl
end_follows (at [] hash_read) = refl
end_follows (at [] (number_read n)) = refl
end_follows (at [] (plain_due n)) = refl
end_follows (at [] (bracket_read l)) = refl
end_follows (at [] (head_read l h)) = refl
end_follows (at [] (field_due l o rs)) = refl
end_follows (at [] (name_read l o rs x)) = refl
end_follows (at [] (whole v)) = refl
end_follows (at (f ∷ fs) phase) = refl

module _ (lexemes : List Lexeme) (position : ℕ) (ns : List LiteralNode) (os : List PendingNode) (stage : Stage) (reached : Reached lexemes position ns os stage) where
  module _ (l : Lexeme) (within : position < length lexemes) (size : length lexemes < 2 ^ 64) (is : l ≡ get_or lexemes position l) where
    position_is : length (prefix reached.0) ≡ position
    position_is = ap length (run_prefix (take position (kinds_of lexemes)) start reached.0 reached.1)
        ∙ taken (kinds_of lexemes) position (omega (arith, kinds_length lexemes))

    follows : step_code ns os stage position l.kind ≡ option_map code_of (step reached.0 l.kind)
    follows =
        ap (λ c. coded c position l.kind) (sym reached.2) ∙ ap (λ n. coded (code_of reached.0) n l.kind) (sym position_is)
        ∙ step_follows reached.0 l.kind (omega (arith, position_is))

    reads_on : (ms : List LiteralNode) (ps : List PendingNode) (next : Stage) → step_code ns os stage position l.kind ≡ Some (code ms ps next) → Reached lexemes (suc position) ms ps next
    reads_on ms ps next h =
        let n = from_map code_of (step reached.0 l.kind) (code ms ps next) (sym follows ∙ h) in (
          n.0,
          ap (run step start) (kinds_next lexemes position l within is)
              ∙ run_more step (take position (kinds_of lexemes)) start reached.0 (Some n.0) l.kind reached.1 n.1,
          n.2,
        )

    stops : step_code ns os stage position l.kind ≡ None → IsSyntax literal_kinds (kinds_of lexemes) position
    stops h =
        is_syntax_at literal_table (kinds_of lexemes) position l.kind reached.0 (omega (arith, kinds_length lexemes))
        (kinds_next lexemes position l within is) reached.1 (none_map code_of (step reached.0 l.kind) (sym follows ∙ h))

    pub goes_at : (ms : List LiteralNode) (ps : List PendingNode) (o : Option Stage) (next : Stage) → Steps (Ok o) ms ps (step_code ns os stage position l.kind) → o ≡ Some next → Reached lexemes (suc position) ms ps next
    goes_at ms ps None next h e = absurd (cc)
    goes_at ms ps (Some other) next h e = reads_on ms ps next (let same : other ≡ next = cc in h ∙ ap (λ (k : Stage). Some (code ms ps k)) same)

    pub stops_at : (ms : List LiteralNode) (ps : List PendingNode) (o : Option Stage) → Steps (Ok o) ms ps (step_code ns os stage position l.kind) → o ≡ None → IsSyntax literal_kinds (kinds_of lexemes) position
    stops_at ms ps None h e = stops h
    stops_at ms ps (Some other) h e = absurd (cc)

  module _ (all : position ≡ length lexemes) where
    run_whole : run step start (kinds_of lexemes) ≡ Some reached.0
    run_whole =
        let here : position ≡ length (kinds_of lexemes) = all ∙ sym (kinds_length lexemes) in
        let everything : take position (kinds_of lexemes) ≡ kinds_of lexemes = ap (λ n. take n (kinds_of lexemes)) here ∙ take_whole (kinds_of lexemes) in
        sym (ap (run step start) everything) ∙ reached.1

    ending : end_code ns os stage ≡ option_map (literal_nodes 0) (accepted reached.0)
    ending = ap end_of (sym reached.2) ∙ end_follows reached.0

    is_tree : (ms : List LiteralNode) → end_code ns os stage ≡ Some ms → IsTreeOf lexemes ms
    is_tree ms h =
        let v = from_map (literal_nodes 0) (accepted reached.0) ms (sym ending ∙ h) in
        (v.0, text_is_read literal_table v.0 reached.0 (kinds_of lexemes) run_whole v.1, sym v.2)

    ends_early : end_code ns os stage ≡ None → IsSyntax literal_kinds (kinds_of lexemes) (length lexemes)
    ends_early h =
        subst (IsSyntax literal_kinds (kinds_of lexemes)) (kinds_length lexemes)
        (syntax_end literal_table (kinds_of lexemes) reached.0 run_whole (none_map (literal_nodes 0) (accepted reached.0) (sym ending ∙ h)))

    pub is_tree_where : (ends : Bool) (ms result : List LiteralNode) → end_code ns os stage ≡ (if ends then Some ms else None) → ends ≡ true → result ≡ ms → IsTreeOf lexemes result
    is_tree_where ends ms result h e same = is_tree result (h ∙ ap (λ b. if b then Some ms else None) e ∙ ap Some (sym same))

    pub ends_early_where : (ends : Bool) (ms : List LiteralNode) → end_code ns os stage ≡ (if ends then Some ms else None) → ends ≡ false → IsSyntax literal_kinds (kinds_of lexemes) (length lexemes)
    ends_early_where ends ms h e = ends_early (h ∙ ap (λ b. if b then Some ms else None) e)

-- ---- at most one result

module _ (lexemes : List Lexeme) where
  pub gives_tree : (answer : Result (List LiteralNode) ℕ) → IsTreeAnswer lexemes answer → (v : Literal) → literal_kinds v ≡ kinds_of lexemes → answer ≡ Ok (literal_nodes 0 v)
  gives_tree (Ok all) p v e = ap Ok (p.2 ∙ ap (literal_nodes 0) (one_text literal_table p.0 v (p.1 ∙ sym e)))
  gives_tree (Err k) f v e = absurd (no_syntax literal_table v k (subst (λ all. IsSyntax literal_kinds all k) (sym e) f))

  one_position : (j k : ℕ) → IsSyntax literal_kinds (kinds_of lexemes) j → IsSyntax literal_kinds (kinds_of lexemes) k → j ≡ k
  one_position j k a b = ⊎_elim
      (λ (v, e). absurd (no_syntax literal_table v j (subst (λ all. IsSyntax literal_kinds all j) (sym e) a)))
      (λ (n, s, alone). alone j a ∙ sym (alone k b))
      (text_or_syntax literal_table (kinds_of lexemes))

  pub gives_syntax : (answer : Result (List LiteralNode) ℕ) → IsTreeAnswer lexemes answer → (k : ℕ) → IsSyntax literal_kinds (kinds_of lexemes) k → answer ≡ Err k
  gives_syntax (Ok all) p k s = absurd (no_syntax literal_table p.0 k (subst (λ all. IsSyntax literal_kinds all k) (sym p.1) s))
  gives_syntax (Err j) f k s = ap Err (one_position j k f s)
