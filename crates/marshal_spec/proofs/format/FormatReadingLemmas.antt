-- There is only one way to split bytes into tokens.
use Rattle.std.proofs.Common.{◌≡◌, ℕ, List, [], ◌∷◌, ◌++◌, inl, inr, ◌⊎◌, refl, sym, ◌∙◌, ap, ap₂, subst, append_assoc, append-nil}
use Rattle.std.proofs.lemmas.List.{append_cancel_left}
use Rattle.std.specs.List.{concat}
pub use Rattle.base_data.proofs.model.Lists.{AllZip-push}
use Rattle.marshal_spec.specs.format.Raw.{IsRaw}
use Rattle.marshal_spec.specs.format.Prefix.{TokenPasses, TokensPass}
use Rattle.marshal_spec.proofs.format.RawLemmas.{IsRaw-same}

-- ---- lists of tokens

pub concat-append : (ts us : List (List ℕ)) → concat (ts ++ us) ≡ concat ts ++ concat us
concat-append [] us = refl
concat-append (t ∷ ts) us = ap (λ xs. t ++ xs) (concat-append ts us) ∙ sym (append_assoc t (concat ts) (concat us))

-- If a token is appended to a list of tokens, then the token's bytes are appended to the list's
-- bytes.
pub concat-push : (ts : List (List ℕ)) (t : List ℕ) → concat (ts ++ t ∷ []) ≡ concat ts ++ t
concat-push ts t = concat-append ts (t ∷ []) ∙ ap (λ xs. concat ts ++ xs) (append-nil t)

-- If tokens `ts` pass and tokens `us` pass after `ts`, then the concatenation of `ts` and `us`
-- passes.
pub TokensPass-append : (header : List ℕ) (before ts us : List (List ℕ))
    → TokensPass header before ts → TokensPass header (before ++ ts) us → TokensPass header before (ts ++ us)
TokensPass-append header before [] us p q = subst (λ xs. TokensPass header xs us) (append-nil before) q
TokensPass-append header before (t ∷ ts) us p q =
    (p.0, TokensPass-append header (before ++ t ∷ []) ts us p.1 (subst (λ xs. TokensPass header xs us) (sym (append_assoc before (t ∷ []) ts)) q))

pub TokensPass-after : (header : List ℕ) (before ts us : List (List ℕ)) → TokensPass header before (ts ++ us) → TokensPass header (before ++ ts) us
TokensPass-after header before [] us p = subst (λ xs. TokensPass header xs us) (sym (append-nil before)) p
TokensPass-after header before (t ∷ ts) us p =
    subst (λ xs. TokensPass header xs us) (append_assoc before (t ∷ []) ts) (TokensPass-after header (before ++ t ∷ []) ts us p.1)

-- If tokens `ts` pass and the token `t` passes after `ts`, then `ts` followed by `t` passes.
pub TokensPass-push : (header : List ℕ) (before ts : List (List ℕ)) (t : List ℕ) → TokensPass header before ts → TokenPasses header (before ++ ts) t → TokensPass header before (ts ++ t ∷ [])
TokensPass-push header before ts t p q = TokensPass-append header before ts (t ∷ []) p (q, tt)

-- ---- one reading

-- Each chunk of the list is a raw token.
abbrev pub AreRaw : List (List ℕ) → Type 0
AreRaw [] = Unit {0}
AreRaw (t ∷ ts) = IsRaw t × AreRaw ts

pub TokensPass-raw : (header : List ℕ) (before ts : List (List ℕ)) → TokensPass header before ts → AreRaw ts
TokensPass-raw header before [] p = tt
TokensPass-raw header before (t ∷ ts) p = (p.0.raw, TokensPass-raw header (before ++ t ∷ []) ts p.1)

-- The list of tokens `us` extends the list `ts`. The bytes `x` follow `ts`, and the bytes `y`
-- follow `us`.
pub record GoesOn (ts us : List (List ℕ)) (x y : List ℕ) : Type 0 where
  pub next : List ℕ
  pub more : List (List ℕ)
  pub tokens_are : us ≡ ts ++ next ∷ more
  pub bytes_are : x ≡ concat (next ∷ more) ++ y

-- Two readings of the same bytes are equal, or one reading extends the other.
abbrev pub Readings : List (List ℕ) → List (List ℕ) → List ℕ → List ℕ → Type 0
Readings ts us x y = ((ts ≡ us) × (x ≡ y)) ⊎ (GoesOn ts us x y ⊎ GoesOn us ts y x)

readings_more : (t u : List ℕ) (ts us : List (List ℕ)) (x y : List ℕ) → t ≡ u → Readings ts us x y → Readings (t ∷ ts) (u ∷ us) x y
readings_more t u ts us x y e h =
    elim h [
      | inl p ↦ inl (ap₂ (λ v vs. v ∷ vs) e p.0, p.1)
      | inr (inl g) ↦ inr (inl (record { next = g.next; more = g.more; tokens_are = ap₂ (λ v vs. v ∷ vs) (sym e) g.tokens_are; bytes_are = g.bytes_are }))
      | inr (inr g) ↦ inr (inr (record { next = g.next; more = g.more; tokens_are = ap₂ (λ v vs. v ∷ vs) e g.tokens_are; bytes_are = g.bytes_are }))
    ]

pub raw_readings : (ts us : List (List ℕ)) (x y : List ℕ) → AreRaw ts → AreRaw us → concat ts ++ x ≡ concat us ++ y → Readings ts us x y
raw_readings [] [] x y p q e = inl (refl, e)
raw_readings [] (u ∷ us) x y p q e = inr (inl (record { next = u; more = us; tokens_are = refl; bytes_are = e }))
raw_readings (t ∷ ts) [] x y p q e = inr (inr (record { next = t; more = ts; tokens_are = refl; bytes_are = sym e }))
raw_readings (t ∷ ts) (u ∷ us) x y p q e =
    let split : t ++ (concat ts ++ x) ≡ u ++ (concat us ++ y) = sym (append_assoc t (concat ts) x) ∙ (e ∙ append_assoc u (concat us) y) in
    let same : t ≡ u = IsRaw-same t u (concat ts ++ x) (concat us ++ y) p.0 q.0 split in
    let after : concat ts ++ x ≡ concat us ++ y =
    append_cancel_left u (concat ts ++ x) (concat us ++ y) (ap (λ v. v ++ (concat ts ++ x)) (sym same) ∙ split) in
    readings_more t u ts us x y same (raw_readings ts us x y p.1 q.1 after)

-- If two lists of tokens pass and begin the same bytes, then the lists are equal or one list
-- extends the other.
pub readings : (header : List ℕ) (before : List (List ℕ)) (ts us : List (List ℕ)) (x y : List ℕ)
    → TokensPass header before ts → TokensPass header before us → concat ts ++ x ≡ concat us ++ y → Readings ts us x y
readings header before ts us x y p q e = raw_readings ts us x y (TokensPass-raw header before ts p) (TokensPass-raw header before us q) e

-- If the list `us` passes and extends `ts`, then the additional tokens pass after `ts`.
pub GoesOn-tokens_pass : (header : List ℕ) (ts us : List (List ℕ)) (x y : List ℕ) → TokensPass header [] us → (g : GoesOn ts us x y) → TokensPass header ts (g.next ∷ g.more)
GoesOn-tokens_pass header ts us x y p g = TokensPass-after header [] ts (g.next ∷ g.more) (subst (TokensPass header []) g.tokens_are p)

-- If the list `us` passes and extends `ts`, then the first additional token passes after `ts`.
pub GoesOn-passes : (header : List ℕ) (ts us : List (List ℕ)) (x y : List ℕ) → TokensPass header [] us → (g : GoesOn ts us x y) → TokenPasses header ts g.next
GoesOn-passes header ts us x y p g = (GoesOn-tokens_pass header ts us x y p g).0
