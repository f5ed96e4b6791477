-- Lemmas on lists of names.
use Rattle.std.proofs.Common.{arith, refl, sym, ap, ◌∙◌, drop, get_or, Bor, true≢false}
use Rattle.std.proofs.Math.Seq.{drop-cons}
use Rattle.std.proofs.lemmas.List.{drop_all, drop-map}
use Rattle.std.specs.Prelude.{ℕ, suc, ◌+◌, ◌≡◌, ◌<◌, ◌≤◌, ◌==◌, ◌&&◌, not, map, Bool, true, false, List, [], ◌∷◌, length}
use Rattle.std.specs.Str.{bytes_eq}
use Rattle.types_parse.specs.grammar.Grammar.{Name}
use Rattle.text_literal.specs.parser.Starts.{same_names}

pub unnamed : (all : List Name) → (length all == 0) ≡ same_names all []
unnamed [] = refl
unnamed (x ∷ xs) = grind arith

pub other_length : (xs ys : List Name) → (length xs ≡ length ys → ⊥) → false ≡ same_names xs ys
other_length [] [] other = absurd (other refl)
other_length [] (y ∷ ys) other = refl
other_length (x ∷ xs) [] other = refl
other_length (x ∷ xs) (y ∷ ys) other = both (bytes_eq x y) (other_length xs ys (λ same. other (ap suc same)))
  where
    both : (b : Bool) → false ≡ same_names xs ys → false ≡ (b && same_names xs ys)
    both true same = same
    both false same = refl

pub none_left : (xs ys : List Name) (i : ℕ) → length xs ≤ i → length ys ≤ i → true ≡ same_names (drop i xs) (drop i ys)
none_left xs ys i h g = sym (ap (λ all. same_names all (drop i ys)) (drop_all i xs h) ∙ ap (same_names []) (drop_all i ys g))

abbrev pub borrowed_names : List (Bor Name) → List Name
borrowed_names ws = map (λ (name : Bor Name). name.now) ws

after : (i : ℕ) → suc i ≡ i + 1
after i = omega arith

pub step_names :
    (xs : List Name) (ws : List (Bor Name)) (i : ℕ) (a : Name) (d : Bor Name) → i < length xs → length xs ≡ length ws → a ≡ get_or xs i a
    → same_names (drop i xs) (drop i (borrowed_names ws)) ≡ (bytes_eq a (get_or ws i d).now && same_names (drop (i + 1) xs) (drop (i + 1) (borrowed_names ws)))
step_names xs ws i a d h same here =
    ap (λ all. same_names all (drop i (borrowed_names ws))) (drop-cons xs i a h ∙ ap (λ x. x ∷ drop (suc i) xs) (sym here))
    ∙ ap (same_names (a ∷ drop (suc i) xs)) (drop-map (λ (name : Bor Name). name.now) i ws ∙ ap borrowed_names (drop-cons ws i d (omega (arith, same))) ∙ ap (λ all. (get_or ws i d).now ∷ all) (sym (drop-map (λ (name : Bor Name). name.now) (suc i) ws)))
    ∙ ap (λ n. bytes_eq a (get_or ws i d).now && same_names (drop n xs) (drop n (borrowed_names ws))) (after i)

pub differ : (r b rest : Bool) → r ≡ true → r ≡ not b → false ≡ (b && rest)
differ r true rest e f = absurd (true≢false (sym e ∙ f))
differ r false rest e f = refl

pub agree : (r b rest : Bool) → r ≡ false → r ≡ not b → (b && rest) ≡ rest
agree r true rest e f = refl
agree r false rest e f = absurd (true≢false (sym f ∙ e))
