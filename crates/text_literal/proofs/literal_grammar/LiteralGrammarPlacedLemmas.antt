-- The state of the parser at a byte offset, and the lexemes from this offset on.
use Rattle.std.proofs.Common.{ℕ, zero, suc, ◌+◌, ◌^◌, ◌≡◌, ◌≢◌, ◌∙◌, ◌<◌, ◌≤◌, List, [], ◌∷◌, ◌++◌, length, take, get_or, Option, Some, None, refl, sym, ap, subst, arith, append_assoc}
use Rattle.std.specs.Prelude.{true, false, Ok, option_map, unwrap_or, slice_get}
use Rattle.std.proofs.lemmas.List.{map-append, length-map, length-append}
use Rattle.types_lex.specs.declared.lexeme.Lexeme.{Lexeme}
use Rattle.types_lex.specs.Lexemes as lex
use Rattle.types_lex.specs.Lexemes.{lexeme_from, IsNext}
use Rattle.types_lex.specs.LexText.{Lexes}
use Rattle.types_lex.proofs.PartLaws.{reached_end, few_lexemes}
use Rattle.types_parse.specs.grammar.Grammar.{Kinds}
use Rattle.types_parse.specs.grammar.TypeMachine.{run}
use Rattle.text_literal.specs.declared.literal_grammar.literal_node.LiteralNode.{LiteralNode}
use Rattle.text_literal.specs.declared.literal_grammar.pending_node.PendingNode.{PendingNode}
use Rattle.text_literal.specs.declared.literal_grammar.pending_node.Stage.{Stage}
use Rattle.text_literal.specs.declared.literal_grammar.pending_node.Stage.TheVariants as stages
use Rattle.text_literal.specs.declared.literal_grammar.placed_nodes.PlacedFault.{PlacedFault}
use Rattle.text_literal.specs.declared.literal_grammar.placed_nodes.PlacedFault.TheVariants as faults
use Rattle.text_literal.specs.literal_grammar.LiteralMachine.{start, step}
use Rattle.types_parse.specs.grammar.LexemeKinds.{kinds_of}
use Rattle.text_literal.specs.literal_grammar.LiteralCode.{step_code, end_code, Steps}
use Rattle.text_literal.specs.literal_grammar.PlacedLiterals.{lexemes_at, StopsAt, IsLexed, Stopped, IsPlacedFault, IsPlaced}
use Rattle.text_literal.proofs.literal_grammar.LiteralGrammarReadLemmas.{Reached, begins, goes_at, stops_at, is_tree_where, ends_early_where}

-- The lexemes before the byte `at` have the offsets `positions` and lead to the given nodes,
-- brackets and stage.
pub record Prefix (text : List ℕ) (at : ℕ) (positions : List ℕ) (ns : List LiteralNode) (os : List PendingNode) (stage : Stage) : Type 0 where
  pub reached : lex.Reached text at (lexemes_at text positions)
  pub read : Reached (lexemes_at text positions) (length positions) ns os stage
  pub few : length positions ≤ at

-- ---- lists

last_is : (xs : List Lexeme) (x : Lexeme) → x ≡ get_or (xs ++ x ∷ []) (length xs) x
last_is [] x = refl
last_is (y ∷ xs) x = last_is xs x

prefix_of : (xs ys : Kinds) (n : ℕ) → length xs ≡ n → take n (xs ++ ys) ≡ take n xs
prefix_of [] ys zero e = refl
prefix_of (x ∷ xs) ys zero e = refl
prefix_of [] ys (suc n) e = absurd (omega (arith, e))
prefix_of (x ∷ xs) ys (suc n) e = ap (λ all. x ∷ all) (prefix_of xs ys n (omega (arith, e)))

-- If further lexemes are appended, then the state reached before these lexemes does not change.
further : (xs ys : List Lexeme) (n : ℕ) (ns : List LiteralNode) (os : List PendingNode) (stage : Stage) → length xs ≡ n → Reached xs n ns os stage → Reached (xs ++ ys) n ns os stage
further xs ys n ns os stage e r =
    let all : kinds_of (xs ++ ys) ≡ kinds_of xs ++ kinds_of ys = map-append (λ (l : Lexeme). l.kind) xs ys in
    (r.0, ap (λ ks. run step start (take n ks)) all ∙ ap (run step start) (prefix_of (kinds_of xs) (kinds_of ys) n (length-map xs (λ (l : Lexeme). l.kind) ∙ e)) ∙ r.1, r.2)

more_is : (xs more : List Lexeme) (x : Lexeme) → x ≡ get_or ((xs ++ x ∷ []) ++ more) (length xs) x
more_is [] more x = refl
more_is (y ∷ xs) more x = more_is xs more x

found_is : (xs more : List Lexeme) (x : Lexeme) → slice_get ((xs ++ x ∷ []) ++ more) (length xs) ≡ Some x
found_is [] more x = refl
found_is (y ∷ xs) more x = found_is xs more x

none_is : (xs : List Lexeme) → slice_get xs (length xs) ≡ None
none_is [] = refl
none_is (x ∷ xs) = none_is xs

some_are : (xs more : List Lexeme) (x : Lexeme) → (xs ++ x ∷ []) ++ more ≢ []
some_are [] more x e = absurd cc
some_are (y ∷ xs) more x e = absurd cc

-- ---- lexical errors

pub stopped_lexed : (text : List ℕ) (prefix : List Lexeme) (first : ℕ) (f : PlacedFault) → IsLexed text f → Stopped text prefix first f
stopped_lexed text prefix first (faults.Lex f) is = is
stopped_lexed text prefix first (faults.Syntax byte) is = absurd is
stopped_lexed text prefix first faults.TooLong is = absurd is
stopped_lexed text prefix first faults.Memory is = tt

pub placed_lexed : (text : List ℕ) (f : PlacedFault) → IsLexed text f → IsPlacedFault text f
placed_lexed text (faults.Lex f) is = is
placed_lexed text (faults.Syntax byte) is = absurd is
placed_lexed text faults.TooLong is = absurd is
placed_lexed text faults.Memory is = tt

-- ---- at the first byte

pub prefix_begins : (text : List ℕ) (positions : List ℕ) (ns : List LiteralNode) (os : List PendingNode) → positions ≡ [] → ns ≡ [] → os ≡ [] → Prefix text 0 positions ns os stages.Due
prefix_begins text positions ns os none h i =
    subst (λ (ps : List ℕ). Prefix text 0 ps ns os stages.Due) (sym none)
    (record {
      reached = record { parts = []; are = tt; is = refl; long = refl; inside = omega arith; found = refl };
      read = begins [] ns os h i;
      few = omega arith;
    })

module _ (text : List ℕ) (at : ℕ) (positions : List ℕ) (ns : List LiteralNode) (os : List PendingNode) (stage : Stage) (prefix : Prefix text at positions ns os stage) where
  count_is : length (lexemes_at text positions) ≡ length positions
  count_is = length-map positions (lexeme_from text)

  -- If no further lexeme follows, then the state holds at the end of the text.
  pub prefix_ends : lex.Reached text (length text) (lexemes_at text positions) → Prefix text (length text) positions ns os stage
  prefix_ends r = record { reached = r; read = prefix.read; few = omega (arith, prefix.few, prefix.reached.inside) }

  module _ (short : length text < 2 ^ 32) (l : Lexeme) (next : IsNext text at l) (on : lex.Reached text (l.span.first + l.span.len) (lexemes_at text positions ++ l ∷ [])) where
    pub prefix_goes : (ms : List LiteralNode) (ps : List PendingNode) (o : Option Stage) (then : Stage) (more : List ℕ)
        → Steps (Ok o) ms ps (step_code ns os stage (length positions) l.kind) → o ≡ Some then → more ≡ positions ++ l.span.first ∷ []
        → Prefix text (l.span.first + l.span.len) more ms ps then
    prefix_goes ms ps o then more steps e is =
        let all : lexemes_at text more ≡ lexemes_at text positions ++ l ∷ [] =
        ap (lexemes_at text) is ∙ map-append (lexeme_from text) positions (l.span.first ∷ []) ∙ ap (λ (x : Lexeme). lexemes_at text positions ++ x ∷ []) next.is in
        let long : suc (length positions) ≡ length more = omega (arith, ap length is, length-append positions (l.span.first ∷ [])) in
        let many : length (lexemes_at text positions ++ l ∷ []) ≡ suc (length positions) = omega (arith, length-append (lexemes_at text positions) (l ∷ []), count_is) in
        let here : l ≡ get_or (lexemes_at text positions ++ l ∷ []) (length positions) l = last_is (lexemes_at text positions) l ∙ ap (λ n. get_or (lexemes_at text positions ++ l ∷ []) n l) count_is in
        let read = goes_at (lexemes_at text positions ++ l ∷ []) (length positions) ns os stage (further (lexemes_at text positions) (l ∷ []) (length positions) ns os stage count_is prefix.read)
        l (omega (arith, many)) (omega (arith, many, prefix.few, next.behind, next.onward, next.within, short)) here ms ps o then steps e in
        record {
          reached = subst (lex.Reached text (l.span.first + l.span.len)) (sym all) on;
          read = subst (λ n. Reached (lexemes_at text more) n ms ps then) long (subst (λ (xs : List Lexeme). Reached xs (suc (length positions)) ms ps then) (sym all) read);
          few = omega (arith, long, prefix.few, next.behind, next.onward);
        }

    stops_in : (ms : List LiteralNode) (ps : List PendingNode) (o : Option Stage) (byte : ℕ) (more : List Lexeme)
        → Steps (Ok o) ms ps (step_code ns os stage (length positions) l.kind) → o ≡ None → byte ≡ l.span.first → Lexes text ((lexemes_at text positions ++ l ∷ []) ++ more)
        → StopsAt text byte
    stops_in ms ps o byte more steps e is lexes =
        let xs = lexemes_at text positions in
        let all = (xs ++ l ∷ []) ++ more in
        let many : length all ≡ suc (length positions) + length more = omega (arith, length-append (xs ++ l ∷ []) more, length-append xs (l ∷ []), count_is) in
        let here : l ≡ get_or all (length positions) l = more_is xs more l ∙ ap (λ n. get_or all n l) count_is in
        let reached : Reached all (length positions) ns os stage =
        subst (λ (ys : List Lexeme). Reached ys (length positions) ns os stage) (sym (append_assoc xs (l ∷ []) more)) (further xs (l ∷ [] ++ more) (length positions) ns os stage count_is prefix.read) in
        record {
          lexemes = all;
          lexeme = length positions;
          lexes = lexes;
          some = some_are xs more l;
          syntax = stops_at all (length positions) ns os stage reached l (omega (arith, many)) (omega (arith, few_lexemes text all lexes, short)) here ms ps o steps e;
          is = is ∙ ap (λ (found : Option Lexeme). unwrap_or (option_map (λ (x : Lexeme). x.span.first) found) (length text)) (sym (found_is xs more l) ∙ ap (slice_get all) count_is);
        }

    pub prefix_stops : (ms : List LiteralNode) (ps : List PendingNode) (o : Option Stage) (f : PlacedFault)
        → Steps (Ok o) ms ps (step_code ns os stage (length positions) l.kind) → o ≡ None → Stopped text (lexemes_at text positions ++ l ∷ []) l.span.first f
        → IsPlacedFault text f
    prefix_stops ms ps o (faults.Lex f) steps e is = is
    prefix_stops ms ps o (faults.Syntax byte) steps e is = stops_in ms ps o byte is.1.0 steps e is.0 is.1.1
    prefix_stops ms ps o faults.TooLong steps e is = absurd is
    prefix_stops ms ps o faults.Memory steps e is = tt

  module _ (end : length text ≤ at) where
    lexes_all : Lexes text (lexemes_at text positions)
    lexes_all = reached_end text at (lexemes_at text positions) prefix.reached end

    pub prefix_tree : (ms : List LiteralNode) → Some ms ≡ end_code ns os stage → IsPlaced text positions ms
    prefix_tree ms h = (lexes_all, is_tree_where (lexemes_at text positions) (length positions) ns os stage prefix.read (sym count_is) true ms ms (sym h) refl refl)

    pub prefix_faulty : None ≡ end_code ns os stage → 0 < length positions → StopsAt text (length text)
    prefix_faulty h some = record {
      lexemes = lexemes_at text positions;
      lexeme = length (lexemes_at text positions);
      lexes = lexes_all;
      some = λ e. omega (arith, ap length e, count_is, some);
      syntax = ends_early_where (lexemes_at text positions) (length positions) ns os stage prefix.read (sym count_is) false [] (sym h) refl;
      is = ap (λ (found : Option Lexeme). unwrap_or (option_map (λ (x : Lexeme). x.span.first) found) (length text)) (sym (none_is (lexemes_at text positions)));
    }
