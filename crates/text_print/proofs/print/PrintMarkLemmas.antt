-- Marks of the objects that were visited.
use Rattle.std.proofs.Common.{ℕ, zero, suc, ◌≡◌, ◌<◌, ◌≤◌, ◌==◌, ◌∙◌, ⊎_elim, Bool, true, false, List, [], ◌∷◌, ◌++◌, length, take, reverse, replicate, get_or, set, refl, sym, ap, subst, arith}
use Rattle.std.specs.Prelude.{◌||◌}
use Rattle.std.proofs.lemmas.Bool.Decides.{eqb_tells}
use Rattle.std.proofs.lemmas.List.{reverse-append, get_or-set_same, get_or-set_other}
use Rattle.text_print.specs.show.TextChunks.{has}
use Rattle.text_print.specs.print.PrintWalk.{AreMarked, how_many}

pub reversed_more : (order : List ℕ) (o : ℕ) → reverse (order ++ o ∷ []) ≡ o ∷ reverse order
reversed_more order o = reverse-append order (o ∷ [])

-- ---- one more mark

pub mark_set : (marks : List Bool) (o x : ℕ) → o < length marks → get_or (set marks o true) x false ≡ ((o == x) || get_or marks x false)
mark_set marks o x inside = ⊎_elim
    (λ same. let e : o ≡ x = same.1 in
    subst (λ y. get_or (set marks o true) y false ≡ true) e (get_or-set_same marks o true false inside) ∙ sym (ap (λ b. b || get_or marks x false) same.0))
    (λ other. get_or-set_other marks o x true false (λ e. other.1 (sym e)) ∙ sym (ap (λ b. b || get_or marks x false) other.0))
    (eqb_tells o x)

pub marked_more : (marks : List Bool) (order : List ℕ) (o : ℕ) → o < length marks → AreMarked marks order → AreMarked (set marks o true) (order ++ o ∷ [])
marked_more marks order o inside marked x =
    mark_set marks o x inside ∙ ap (λ b. (o == x) || b) (marked x) ∙ sym (ap (λ seen. has seen x) (reversed_more order o))

-- ---- the number of marks

pub how_many_none : (n : ℕ) → how_many (replicate n false) ≡ 0
how_many_none zero = refl
how_many_none (suc n) = how_many_none n

pub how_many_within : (marks : List Bool) → how_many marks ≤ length marks
how_many_within [] = omega arith
how_many_within (true ∷ marks) = omega (arith, how_many_within marks)
how_many_within (false ∷ marks) = omega (arith, how_many_within marks)

pub how_many_set : (marks : List Bool) (o : ℕ) → o < length marks → get_or marks o false ≡ false → how_many (set marks o true) ≡ suc (how_many marks)
how_many_set [] o inside unset = absurd (omega arith)
how_many_set (true ∷ marks) zero inside unset = absurd (cc)
how_many_set (false ∷ marks) zero inside unset = refl
how_many_set (true ∷ marks) (suc o) inside unset = ap suc (how_many_set marks o (omega arith) unset)
how_many_set (false ∷ marks) (suc o) inside unset = how_many_set marks o (omega arith) unset

pub no_marks : (n : ℕ) → AreMarked (replicate n false) []
no_marks zero o = refl
no_marks (suc n) zero = refl
no_marks (suc n) (suc o) = no_marks n o

-- ---- the last of several

pub last_split : {X : Type 0} (xs : List X) (n : ℕ) (d : X) → length xs ≡ suc n → xs ≡ take n xs ++ get_or xs n d ∷ []
last_split [] n d is = absurd (omega arith)
last_split (x ∷ []) zero d is = refl
last_split (x ∷ []) (suc n) d is = absurd (omega arith)
last_split (x ∷ y ∷ xs) zero d is = absurd (omega arith)
last_split (x ∷ y ∷ xs) (suc n) d is = ap (λ ys. x ∷ ys) (last_split (y ∷ xs) n d (omega arith))
