-- It is decidable whether two types are the same tree, because their encodings are lists of
-- numbers.
use Rattle.std.proofs.Common.{ℕ, ◌≡◌, ◌∙◌, ◌⊎◌, ⊎_elim, inl, inr, List, [], ◌∷◌, refl, sym, ap}
use Rattle.std.specs.Str.{bytes_eq}
use Rattle.std.proofs.lemmas.Slice.Eq.{bytes_eq-Decides}
use Rattle.base_data.proofs.model.Options.{true_or_not, same_or_not}
use Rattle.types_spec.specs.types.Ty.{Ty}
use Rattle.types_spec.specs.types.TyCode.{Word, words, run, top, read-words}

bytes_same_or_not : (a b : List ℕ) → (a ≡ b) ⊎ (a ≡ b → ⊥)
bytes_same_or_not a b = ⊎_elim
    (λ yes'. inl ((bytes_eq-Decides a b).0 yes'))
    (λ no'. inr (λ same. no' ((bytes_eq-Decides a b).1 same)))
    (true_or_not (bytes_eq a b))

word_is : (a b : Word) → a.0 ≡ b.0 → a.1 ≡ b.1 → a ≡ b
word_is a b first second = ap (λ x. (x, a.1)) first ∙ ap (λ y. (b.0, y)) second

word_same_or_not : (a b : Word) → (a ≡ b) ⊎ (a ≡ b → ⊥)
word_same_or_not a b = ⊎_elim
    (λ first. ⊎_elim
    (λ second. inl (word_is a b first second))
    (λ different. inr (λ same. different (ap (λ (w : Word). w.1) same)))
    (bytes_same_or_not a.1 b.1))
    (λ different. inr (λ same. different (ap (λ (w : Word). w.0) same)))
    (same_or_not a.0 b.0)

words_same_or_not : (some bs : List Word) → (some ≡ bs) ⊎ (some ≡ bs → ⊥)
words_same_or_not [] [] = inl refl
words_same_or_not [] (b ∷ bs) = inr (λ same. cc)
words_same_or_not (a ∷ more) [] = inr (λ same. cc)
words_same_or_not (a ∷ more) (b ∷ bs) = ⊎_elim
    (λ first. ⊎_elim
    (λ rest. inl (ap (λ x. x ∷ more) first ∙ ap (λ xs. b ∷ xs) rest))
    (λ different. inr (λ same. different (rest_same a b more bs same)))
    (words_same_or_not more bs))
    (λ different. inr (λ same. different (first_same a b more bs same)))
    (word_same_or_not a b) where
      rest_same : (a b : Word) (more bs : List Word) → a ∷ more ≡ b ∷ bs → more ≡ bs
      rest_same a b more bs same = cc

      first_same : (a b : Word) (more bs : List Word) → a ∷ more ≡ b ∷ bs → a ≡ b
      first_same a b more bs same = cc

pub types_same_or_not : (t u : Ty) → (t ≡ u) ⊎ (t ≡ u → ⊥)
types_same_or_not t u = ⊎_elim
    (λ same. inl (sym (read-words t) ∙ ap (λ all. top (run all [])) same ∙ read-words u))
    (λ different. inr (λ same. different (ap (λ w. words w []) same)))
    (words_same_or_not (words t []) (words u []))
