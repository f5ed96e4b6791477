-- Consecutive pair lines.
use Rattle.std.proofs.Common.{ℕ, ◌≤◌, ◌+◌, ◌-◌, ◌≡◌, ◌∙◌, List, [], ◌∷◌, ◌++◌, length, refl, sym, ap, subst, arith, length-append, append_assoc}
use Rattle.std.specs.Prelude.{All, map}
use Rattle.std.proofs.lemmas.List.{append-nil, map-append, length_push}
use Rattle.std.proofs.lemmas.List.Concat.{flat_map-append}
use Rattle.std.proofs.lemmas.List.Elements.{All-push}
use Rattle.cert_format.specs.Format.{pair_line, text_of}
use Rattle.cert_format.specs.CertificateReading.{AreNumbers}
use Rattle.cert_format.specs.PairRuns.{IsFirstPair}

-- The pairs were extended by the pairs of the parsed lines, and `rest` is the text after these
-- lines.
pub record IsPast (pairs : List (ℕ × ℕ)) (text : List ℕ) (longer : List (ℕ × ℕ)) (many : ℕ) (rest : List ℕ) : Type 0 where
  pub added : List (ℕ × ℕ)
  pub is : longer ≡ pairs ++ added
  pub numbers : All AreNumbers longer
  pub counted : many ≡ length added
  pub few : many + length rest ≤ length text
  pub encoded : text ≡ text_of (map pair_line added) ++ rest

-- No line was parsed.
pub none_past : (pairs : List (ℕ × ℕ)) (text : List ℕ) → All AreNumbers pairs → IsPast pairs text pairs 0 text
none_past pairs text numbers = record {
  added = [];
  is = sym (append-nil pairs);
  numbers = numbers;
  counted = refl;
  few = omega arith;
  encoded = refl;
}

module _ (pairs : List (ℕ × ℕ)) (text : List ℕ) (longer : List (ℕ × ℕ)) (many : ℕ) (rest : List ℕ) (past : IsPast pairs text longer many rest) where
  pub one_past :
      (pair : ℕ × ℕ) (behind : List ℕ) (next : List (ℕ × ℕ)) → IsFirstPair rest pair behind → next ≡ longer ++ pair ∷ []
      → IsPast pairs text next (many + 1) behind
  one_past pair behind next first is = record {
    added = past.added ++ pair ∷ [];
    is = is ∙ (ap (λ (z : List (ℕ × ℕ)). z ++ pair ∷ []) past.is ∙ append_assoc pairs past.added (pair ∷ []));
    numbers = subst (λ (z : List (ℕ × ℕ)). All AreNumbers z) (sym is) (All-push AreNumbers longer pair past.numbers first.numbers);
    counted = let long = length_push past.added pair in let counted = past.counted in omega (arith, long, counted);
    few =
        let few = past.few in
        let long = ap length first.encoded ∙ length-append (pair_line pair) (10 ∷ behind) in
        omega (arith, few, long);
    encoded =
        past.encoded
        ∙ (ap (λ (z : List ℕ). text_of (map pair_line past.added) ++ z) (first.encoded ∙ line)
        ∙ (sym (append_assoc (text_of (map pair_line past.added)) (text_of (pair_line pair ∷ [])) behind)
        ∙ ap (λ (z : List ℕ). z ++ behind)
        (sym (flat_map-append (λ (l : List ℕ). l ++ 10 ∷ []) (map pair_line past.added) (pair_line pair ∷ []))
        ∙ ap text_of (sym (map-append pair_line past.added (pair ∷ []))))));
  } where
    line : pair_line pair ++ 10 ∷ behind ≡ text_of (pair_line pair ∷ []) ++ behind
    line = sym
        (ap (λ (z : List ℕ). z ++ behind) (append-nil (pair_line pair ++ 10 ∷ [])) ∙ append_assoc (pair_line pair) (10 ∷ []) behind)
