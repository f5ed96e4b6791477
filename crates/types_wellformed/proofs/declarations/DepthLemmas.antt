-- The depth of each type in a tree is recorded at the lexeme where the type ends. Each type of a
-- parsed text is at most 200 deep.
use Rattle.std.proofs.Common.{ℕ, suc, ◌≡◌, ◌<◌, ◌≤◌, ◌∙◌, ⊎_elim, inl, List, [], ◌∷◌, ◌++◌, length, drop, sym, ap, arith, length-append, take-append-drop}
use Rattle.std.specs.Prelude.{Contains, max, replicate, slice_index}
use Rattle.std.proofs.lemmas.Bool.{cases_lt}
use Rattle.std.proofs.lemmas.List.{get_or_default}
use Rattle.std.proofs.lemmas.List.Elements.{Contains-push}
use Rattle.base_data.proofs.model.Options.{Contains-first, Contains-later}
use Rattle.types_parse.specs.grammar.Grammar.{Kinds, Texpr, App, Simple, bar_if}
use Rattle.types_parse.specs.grammar.Grammar as trees
use Rattle.types_parse.specs.grammar.Depths.{texpr_depth, app_depth, simple_depth, items_depth, at_last, no_end, texpr_ends, app_ends, simple_ends, texprs_ends, items_ends}
use Rattle.types_parse.specs.grammar.Refusals.{IsText}

-- One of the depths `ends` is at least `n`.
abbrev pub Reaches : List ℕ → ℕ → Type 0
Reaches ends n = (m : ℕ) × Contains ends m × (n ≤ m)

at_last_from : (n first : ℕ) (rest : List ℕ) → Reaches (at_last n (first ∷ rest)) n
at_last_from n first [] = (max first n, Contains-first (max first n) [], omega arith)
at_last_from n first (next ∷ rest) =
    let r = at_last_from n next rest in (r.0, Contains-later first (at_last n (next ∷ rest)) r.0 r.1, r.2)

at_last_reaches : (n : ℕ) (ends : List ℕ) → 0 < length ends → Reaches (at_last n ends) n
at_last_reaches n [] some = absurd (omega arith)
at_last_reaches n (first ∷ rest) some = at_last_from n first rest

pushed : (ends : List ℕ) (n : ℕ) → Reaches (ends ++ n ∷ []) n
pushed ends n = (n, Contains-push ends n, omega arith)

simple_reached : (s : Simple) → Reaches (simple_ends s) (simple_depth s)
simple_reached (trees.variable name) = pushed [] 1
simple_reached (trees.named name) = pushed [] 1
simple_reached (trees.grouped t) = pushed (no_end ++ texpr_ends t) (suc (texpr_depth t))
simple_reached (trees.arguments ts t name) =
    pushed (no_end ++ texprs_ends ts ++ no_end ++ texpr_ends t ++ no_end) (simple_depth (trees.arguments ts t name))
simple_reached (trees.bracket bar all) =
    pushed (no_end ++ replicate (length (bar_if bar)) 0 ++ items_ends all) (suc (items_depth all))

app_reached : (a : App) → Reaches (app_ends a) (app_depth a)
app_reached (trees.simple s) = simple_reached s
app_reached (trees.applied a name) = pushed (app_ends a) (suc (app_depth a))

pub types_end : (t : Texpr) → Reaches (texpr_ends t) (texpr_depth t)
types_end (trees.single a) = app_reached a
types_end (trees.starred t a) =
    let first = length-append (texpr_ends t) no_end in
    let both = length-append (texpr_ends t ++ no_end) (app_ends a) in
    at_last_reaches (texpr_depth (trees.starred t a)) (texpr_ends t ++ no_end ++ app_ends a) (omega (arith, first, both))

-- No type that ends in the text is deeper than 200.
pub text_is_shallow :
    {Text : Type 0} (encoded : Text → Kinds) (ends : Text → List ℕ) (lexemes : Kinds) (text : Text) → length (ends text) ≡ length (encoded text)
    → IsText encoded ends lexemes text → (n : ℕ) → Contains (ends text) n → n ≤ 200
text_is_shallow encoded ends lexemes text even is n among =
    let k = among.0 in
    let here : slice_index (ends text) k ≡ n = get_or_default (ends text) k 0 n among.1 ∙ among.2 in
    let lexemes_even = ap length is.encodes in
    ⊎_elim
    (λ deep.
    absurd (is.shallow k (record {
      text = text;
      rest = drop (suc k) lexemes;
      within = omega (arith, among.1, even, lexemes_even);
      begins = is.encodes ∙ sym (take-append-drop (suc k) lexemes);
      deep = inl (omega (arith, here, deep));
    })))
    (λ shallow. shallow)
    (cases_lt 200 n)
