-- The position of the first line feed.
use Rattle.std.proofs.Common.{◌≡◌, ℕ, zero, suc, ◌+◌, ◌<◌, List, [], ◌∷◌, ◌++◌, length, take, drop, refl, sym, ap, ◌∙◌, arith}
use Rattle.std.proofs.lemmas.Bool.Decides.{Decides-eqb}
use Rattle.memchr.specs.Find.{Nowhere, Passes, is_byte}
use Rattle.cmd_build.proofs.command.TextsLemmas.{IsFeedAt}

next_suc : (n : ℕ) → suc n + 1 ≡ suc (n + 1)
next_suc n = omega arith

feed_next :
    (b : ℕ) (bytes : List ℕ) (n : ℕ) → (b ≡ 10 → ⊥) → IsFeedAt bytes n
    → IsFeedAt (b ∷ bytes) (suc n)
feed_next b bytes n first rest = record {
  unbroken = (first, rest.unbroken);
  within = (let w = rest.within in omega (arith, w));
  all = ap (λ l. b ∷ l) rest.all
      ∙ ap (λ k. b ∷ (take n bytes ++ 10 ∷ drop k (b ∷ bytes))) (sym (next_suc n));
  prefix = ap (λ k. take k (b ∷ bytes)) (next_suc n) ∙ ap (λ l. b ∷ l) rest.prefix;
}

pub feed_at :
    (bytes : List ℕ) (n : ℕ) → n < length bytes
    → Nowhere (Passes (is_byte 10) bytes) 0 n → Passes (is_byte 10) bytes n → IsFeedAt bytes n
feed_at [] n within none at = absurd (omega (arith, within))
feed_at (b ∷ bytes) zero within none at =
    let is : b ≡ 10 = (Decides-eqb b 10).0 at in record {
      unbroken = tt;
      within = omega (arith, within);
      all = ap (λ b. b ∷ bytes) is;
      prefix = ap (λ b. b ∷ []) is;
    }
feed_at (b ∷ bytes) (suc n) within none at =
    feed_next b bytes n (λ e. none 0 (omega arith) (omega arith) ((Decides-eqb b 10).1 e))
    (feed_at bytes n (omega (arith, within))
    (λ k low high is. none (suc k) (omega arith) (omega (arith, high)) is) at)

pub take_whole : (bytes : List ℕ) → take (length bytes) bytes ≡ bytes
take_whole [] = refl
take_whole (b ∷ bytes) = ap (λ l. b ∷ l) (take_whole bytes)
