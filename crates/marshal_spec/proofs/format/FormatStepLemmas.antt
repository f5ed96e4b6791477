-- Lists of steps: the first refusal among the steps that `n` bytes decide.
use Rattle.std.proofs.Common.{◌≡◌, ℕ, ◌<◌, ◌≤◌, max, List, [], ◌∷◌, ◌++◌, Option, Some, None, ◌⊎◌, inl, inr, refl, sym, ◌∙◌, ap, subst, arith, le_refl, lt-ltb, le-ltb, nat_lt, if◌then◌else◌, ap₂}
use Rattle.std.proofs.lemmas.Bool.{cases_lt, cond-true, cond-false}
use Rattle.base_data.proofs.model.Options.{none_or_some}
use Rattle.base_data.specs.declared.model.refusal.ReadRefusal.{ReadRefusal}
use Rattle.marshal_spec.specs.format.Step.{Step, or_else, first_refusal}

-- If `n` bytes do not decide the first step of a list, then the list refuses nothing.
pub first_refusal-undecided : (n : ℕ) (s : Step) (steps : List Step) → n < s.ends → first_refusal n (s ∷ steps) ≡ None
first_refusal-undecided n s steps l = cond-true (nat_lt n s.ends) None (or_else s.refusal (first_refusal n steps)) (lt-ltb n s.ends l)

-- If `n` bytes decide the first step, then the list's refusal is that of the first step or of the
-- next steps.
pub first_refusal-decided : (n : ℕ) (s : Step) (steps : List Step) → s.ends ≤ n → first_refusal n (s ∷ steps) ≡ or_else s.refusal (first_refusal n steps)
first_refusal-decided n s steps l = cond-false (nat_lt n s.ends) None (or_else s.refusal (first_refusal n steps)) (le-ltb n s.ends l)

-- If `b` refuses whenever `a` refuses, then `or_else o b` refuses whenever `or_else o a` refuses.
or_else-mono : (o a b : Option ReadRefusal) (r : ReadRefusal) → (a ≡ Some r → b ≡ Some r) → or_else o a ≡ Some r → or_else o b ≡ Some r
or_else-mono None a b r f h = f h
or_else-mono (Some q) a b r f h = h

-- If the first `n` bytes are refused, then more bytes are refused for the same reason.
pub first_refusal-more : (n m : ℕ) (steps : List Step) (r : ReadRefusal) → n ≤ m → first_refusal n steps ≡ Some r → first_refusal m steps ≡ Some r
first_refusal-more n m [] r l h = cc
first_refusal-more n m (s ∷ steps) r l h =
    elim (cases_lt n s.ends) [
      | inl u ↦ let e : first_refusal n (s ∷ steps) ≡ None = first_refusal-undecided n s steps u in cc
      | inr d ↦
          let dm : s.ends ≤ m = omega arith in
          first_refusal-decided m s steps dm
          ∙ or_else-mono s.refusal (first_refusal n steps) (first_refusal m steps) r (first_refusal-more n m steps r l)
          (sym (first_refusal-decided n s steps d) ∙ h)
    ]

-- If the first `m` bytes are not refused, then fewer bytes are not refused.
pub first_refusal-fewer : (n m : ℕ) (steps : List Step) → n ≤ m → first_refusal m steps ≡ None → first_refusal n steps ≡ None
first_refusal-fewer n m steps l h =
    elim (none_or_some (first_refusal n steps)) [
      | inl e ↦ e
      | inr p ↦ let e : first_refusal m steps ≡ Some p.0 = first_refusal-more n m steps p.0 l p.1 in cc
    ]

-- The least number of bytes with which the steps refuse.
pub record LeastRefusal (m : ℕ) (steps : List Step) (r : ReadRefusal) : Type 0 where
  pub least : ℕ
  pub within : least ≤ m
  pub refuses : first_refusal least steps ≡ Some r
  pub before : (k : ℕ) → k < least → first_refusal k steps ≡ None

-- If the first step passes, then a refusal by the next steps takes at least the bytes of the first
-- step.
least_after : (m : ℕ) (s : Step) (steps : List Step) (r : ReadRefusal) → s.ends ≤ m → s.refusal ≡ None → LeastRefusal m steps r → LeastRefusal m (s ∷ steps) r
least_after m s steps r d e h = record {
  least = max s.ends h.least;
  within = omega (arith, h.within);
  refuses =
      first_refusal-decided (max s.ends h.least) s steps (omega arith)
      ∙ (ap (λ o. or_else o (first_refusal (max s.ends h.least) steps)) e
      ∙ first_refusal-more h.least (max s.ends h.least) steps r (omega arith) h.refuses);
  before = λ k l.
      elim (cases_lt k s.ends) [
        | inl u ↦ first_refusal-undecided k s steps u
        | inr g ↦
            first_refusal-decided k s steps g
            ∙ (ap (λ o. or_else o (first_refusal k steps)) e
            ∙ h.before k (omega arith))
      ];
}

-- If the first step fails, then the list's refusal is the refusal of the first step.
least_here : (m : ℕ) (s : Step) (steps : List Step) (r : ReadRefusal) → s.ends ≤ m → s.refusal ≡ Some r → LeastRefusal m (s ∷ steps) r
least_here m s steps r d e = record {
  least = s.ends;
  within = d;
  refuses = first_refusal-decided s.ends s steps (le_refl s.ends) ∙ ap (λ o. or_else o (first_refusal s.ends steps)) e;
  before = λ k l. first_refusal-undecided k s steps l;
}

-- If a list of steps refuses, then there is a least number of bytes, by cases on the refusal of the
-- first step.
least_from : (m : ℕ) (s : Step) (steps : List Step) (r : ReadRefusal) → s.ends ≤ m → (first_refusal m steps ≡ Some r → LeastRefusal m steps r)
    → first_refusal m (s ∷ steps) ≡ Some r → LeastRefusal m (s ∷ steps) r
least_from m s steps r d rest h =
    let f : or_else s.refusal (first_refusal m steps) ≡ Some r = sym (first_refusal-decided m s steps d) ∙ h in
    elim (none_or_some s.refusal) [
      | inl e ↦ least_after m s steps r d e (rest (rw e at f))
      | inr p ↦ least_here m s steps r d (p.1 ∙ (rw p.1 at f))
    ]

-- If steps refuse, then there is a least number of bytes with which the steps refuse.
pub least_refusal : (m : ℕ) (steps : List Step) (r : ReadRefusal) → first_refusal m steps ≡ Some r → LeastRefusal m steps r
least_refusal m [] r h = absurd (let e : None ≡ Some r = h in cc)
least_refusal m (s ∷ steps) r h =
    elim (cases_lt m s.ends) [
      | inl u ↦ let e : first_refusal m (s ∷ steps) ≡ None = first_refusal-undecided m s steps u in absurd (cc)
      | inr d ↦ least_from m s steps r d (least_refusal m steps r) h
    ]

-- Every step takes at least `low` and at most `high` bytes.
abbrev pub EndWithin : ℕ → ℕ → List Step → Type 0
EndWithin low high [] = Unit {0}
EndWithin low high (s ∷ steps) = (low ≤ s.ends) × (s.ends ≤ high) × EndWithin low high steps

pub EndWithin-append : (low high : ℕ) (steps more : List Step) → EndWithin low high steps → EndWithin low high more → EndWithin low high (steps ++ more)
EndWithin-append low high [] more h k = k
EndWithin-append low high (s ∷ steps) more h k = (h.0, h.1, EndWithin-append low high steps more h.2 k)

-- If every step takes at least `low` bytes, then a refusal takes at least `low` bytes.
pub EndWithin-low : (low high n : ℕ) (steps : List Step) (r : ReadRefusal) → EndWithin low high steps → first_refusal n steps ≡ Some r → low ≤ n
EndWithin-low low high n [] r w h = absurd (let e : None ≡ Some r = h in cc)
EndWithin-low low high n (s ∷ steps) r w h =
    elim (cases_lt n s.ends) [
      | inl u ↦ let e : first_refusal n (s ∷ steps) ≡ None = first_refusal-undecided n s steps u in absurd (cc)
      | inr d ↦ omega (arith, w.0)
    ]

-- If no step takes more than `high` bytes, then `high` bytes decide all steps.
pub EndWithin-high : (low high n : ℕ) (steps : List Step) → EndWithin low high steps → high ≤ n → first_refusal n steps ≡ first_refusal high steps
EndWithin-high low high n [] w l = refl
EndWithin-high low high n (s ∷ steps) w l =
    first_refusal-decided n s steps (omega (arith, w.1))
    ∙ (ap (λ o. or_else s.refusal o) (EndWithin-high low high n steps w.2 l)
    ∙ sym (first_refusal-decided high s steps w.1))

-- If every step takes between `low` and `high` bytes, then the least number of bytes of a refusal
-- is between `low` and `high`.
pub least_refusal-within : (low high m : ℕ) (steps : List Step) (r : ReadRefusal) → EndWithin low high steps → (h : LeastRefusal m steps r)
    → (low ≤ h.least) × (h.least ≤ high)
least_refusal-within low high m steps r w h = (
  EndWithin-low low high h.least steps r w h.refuses,
  elim (cases_lt high h.least) [
    | inl u ↦ let a : first_refusal high steps ≡ None = h.before high u in
        let b : first_refusal h.least steps ≡ first_refusal high steps = EndWithin-high low high h.least steps w (omega arith) in
        let c : first_refusal h.least steps ≡ Some r = h.refuses in absurd (cc)
    | inr g ↦ g
  ],
)

-- The two lists agree on all steps that `n` bytes decide.
abbrev pub AgreeUpTo : ℕ → List Step → List Step → Type 0
AgreeUpTo n [] [] = Unit {0}
AgreeUpTo n [] (t ∷ more) = n < t.ends
AgreeUpTo n (s ∷ steps) [] = n < s.ends
AgreeUpTo n (s ∷ steps) (t ∷ more) = ((s ≡ t) × AgreeUpTo n steps more) ⊎ ((n < s.ends) × (n < t.ends))

pub agree_itself : (n : ℕ) (steps : List Step) → AgreeUpTo n steps steps
agree_itself n [] = tt
agree_itself n (s ∷ steps) = inl (refl, agree_itself n steps)

-- If two lists of steps are equal, then the lists agree up to any number of bytes.
pub agree_same : (n : ℕ) (steps more : List Step) → steps ≡ more → AgreeUpTo n steps more
agree_same n steps more e = subst (λ ss. AgreeUpTo n steps ss) e (agree_itself n steps)

-- If two lists agree up to `n` bytes, then the lists have the same refusal for at most `n` bytes.
pub agree_refuses : (n k : ℕ) (steps more : List Step) → AgreeUpTo n steps more → k ≤ n → first_refusal k steps ≡ first_refusal k more
agree_refuses n k [] [] h l = refl
agree_refuses n k [] (t ∷ more) h l = sym (first_refusal-undecided k t more (omega arith))
agree_refuses n k (s ∷ steps) [] h l = first_refusal-undecided k s steps (omega arith)
agree_refuses n k (s ∷ steps) (t ∷ more) h l =
    elim h [
      | inl p ↦ ap₂ (λ x o. if nat_lt k x.ends then None else or_else x.refusal o) p.0 (agree_refuses n k steps more p.1 l)
      | inr u ↦ first_refusal-undecided k s steps (omega (arith, u.0)) ∙ sym (first_refusal-undecided k t more (omega (arith, u.1)))
    ]
