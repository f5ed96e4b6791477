-- When the steps of a list all pass, compared with the first refusal of the list.
use Rattle.std.proofs.Common.{ℕ, ◌≤◌, ◌≡◌, Bool, true, false, cond, ltb, List, [], ◌∷◌, ◌++◌, Option, Some, None, refl, le-ltb}
use Rattle.std.proofs.lemmas.Bool.{cond_both}
use Rattle.base_data.specs.declared.model.refusal.ReadRefusal.{ReadRefusal}
use Rattle.marshal_spec.specs.format.Step.{Step, fails_if, or_else, first_refusal}

-- Each step of the list passes.
abbrev pub AllStepsPass : List Step → Type 0
AllStepsPass [] = Unit {0}
AllStepsPass (s ∷ steps) = (s.refusal ≡ None) × AllStepsPass steps

-- The first `n` bytes decide each step of the list.
abbrev pub AllEndWithin : ℕ → List Step → Type 0
AllEndWithin n [] = Unit {0}
AllEndWithin n (s ∷ steps) = (s.ends ≤ n) × AllEndWithin n steps

-- If both parts of `or_else` refuse nothing, then `or_else` refuses nothing.
pub or_else_none : (a b : Option ReadRefusal) → a ≡ None → b ≡ None → or_else a b ≡ None
or_else_none None b p q = q
or_else_none (Some r) b p q = p

-- If `or_else` refuses nothing, then both its parts refuse nothing.
pub or_else_parts : (a b : Option ReadRefusal) → or_else a b ≡ None → (a ≡ None) × (b ≡ None)
or_else_parts None b p = (refl, p)
or_else_parts (Some r) b p = absurd (cc)

-- If each step of a list passes, then the list has no refusal.
pub no_refusal : (n : ℕ) (steps : List Step) → AllStepsPass steps → first_refusal n steps ≡ None
no_refusal n [] p = refl
no_refusal n (s ∷ steps) p =
    cond_both (ltb n s.ends) None (or_else s.refusal (first_refusal n steps)) (λ x. x ≡ None) (λ _. refl)
    (λ _. or_else_none s.refusal (first_refusal n steps) p.0 (no_refusal n steps p.1))

-- If a list of decided steps has no refusal, then each step passes.
pub steps_pass : (n : ℕ) (steps : List Step) → AllEndWithin n steps → first_refusal n steps ≡ None → AllStepsPass steps
steps_pass n [] w p = tt
steps_pass n (s ∷ steps) w p =
    let parts = or_else_parts s.refusal (first_refusal n steps) (rw (le-ltb n s.ends w.0) at p) in
    (parts.0, steps_pass n steps w.1 parts.1)

-- If the failure test of a step is false, then the step passes.
pub fails_if_none : (b : Bool) (r : ReadRefusal) → b ≡ false → fails_if b r ≡ None
fails_if_none true r e = absurd (cc)
fails_if_none false r e = refl

-- If a step passes, then the failure test of the step is false.
pub none_fails_if : (b : Bool) (r : ReadRefusal) → fails_if b r ≡ None → b ≡ false
none_fails_if true r e = absurd (cc)
none_fails_if false r e = refl

-- If two lists of steps pass, then the concatenation of the lists passes.
pub AllStepsPass-append : (xs ys : List Step) → AllStepsPass xs → AllStepsPass ys → AllStepsPass (xs ++ ys)
AllStepsPass-append [] ys p q = q
AllStepsPass-append (x ∷ xs) ys p q = (p.0, AllStepsPass-append xs ys p.1 q)

-- If the concatenation of two lists of steps passes, then both lists pass.
pub AllStepsPass-parts : (xs ys : List Step) → AllStepsPass (xs ++ ys) → AllStepsPass xs × AllStepsPass ys
AllStepsPass-parts [] ys p = (tt, p)
AllStepsPass-parts (x ∷ xs) ys p = let rest = AllStepsPass-parts xs ys p.1 in ((p.0, rest.0), rest.1)

-- If `n` bytes decide two lists of steps, then `n` bytes decide the concatenation of the lists.
pub AllEndWithin-append : (n : ℕ) (xs ys : List Step) → AllEndWithin n xs → AllEndWithin n ys → AllEndWithin n (xs ++ ys)
AllEndWithin-append n [] ys p q = q
AllEndWithin-append n (x ∷ xs) ys p q = (p.0, AllEndWithin-append n xs ys p.1 q)

-- If steps pass whenever the test `b` is true, then the steps on condition `b` pass.
pub AllStepsPass-cond : (b : Bool) (xs : List Step) → (b ≡ true → AllStepsPass xs) → AllStepsPass (cond b xs [])
AllStepsPass-cond true xs p = p refl
AllStepsPass-cond false xs p = tt

-- If the steps on condition `b` pass and `b` is true, then the steps pass.
pub AllStepsPass-when : (b : Bool) (xs : List Step) → AllStepsPass (cond b xs []) → b ≡ true → AllStepsPass xs
AllStepsPass-when true xs p e = p
AllStepsPass-when false xs p e = absurd (cc)

-- If `n` bytes decide steps, then `n` bytes decide the steps on condition `b`.
pub AllEndWithin-cond : (n : ℕ) (b : Bool) (xs : List Step) → AllEndWithin n xs → AllEndWithin n (cond b xs [])
AllEndWithin-cond n true xs p = p
AllEndWithin-cond n false xs p = tt
