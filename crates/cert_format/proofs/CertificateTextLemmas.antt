-- The texts of a certificate's lines determine their contents.
use Rattle.std.proofs.Common.{ℕ, ◌<◌, ◌^◌, ◌≡◌, ◌∙◌, inl, inr, List, [], ◌∷◌, ◌++◌, length, get_or, refl, sym, ap, arith, length-append}
use Rattle.std.specs.Prelude.{Contains, All, codes, decimal}
use Rattle.std.proofs.lemmas.Fmt.{decimal_is_IsNumeral, decimal_nonempty, decimal_injective}
use Rattle.std.proofs.lemmas.Str.Parse.{digit_at}
use Rattle.std.proofs.lemmas.List.{append_cancel_left, get_or_default}
use Rattle.std.proofs.lemmas.List.Elements.{All-head, All-tail}
use Rattle.base_data.proofs.model.Options.{Contains-none}
use Rattle.base_data.specs.model.PathText.{path_text, steps_text}
use Rattle.cert_format.specs.declared.section.Section.{Section}
use Rattle.cert_format.specs.declared.section.Section.TheVariants as sections
use Rattle.cert_format.specs.CertificateNumbers.{IsNumber}
use Rattle.cert_format.specs.Format.{IsStated, pair_line, verdict_text, head_line}
use Rattle.cert_format.specs.CertificateReading.{BeginsAt, AreNumbers}
use Rattle.cert_format.proofs.CutLemmas.{lacks_append, lacks_more, lacks_by_test, has, cut_is_one}

-- ---- numbers

small : (n : ℕ) → IsNumber n → n < 2 ^ 64
small n less = omega (arith, less)

pub decimal_lacks : (n c : ℕ) → IsNumber n → c < 48 → ¬ Contains (decimal n) c
decimal_lacks n c less low among =
    let digit = digit_at (decimal n) among.0 (decimal_is_IsNumeral n (small n less)).0.1 among.1 in
    let from = digit.0 in
    let at = among.2 in
    let same = get_or_default (decimal n) among.0 c 0 among.1 in
    omega (arith, low, from, at, same)

pub number_is_one : (m n : ℕ) → IsNumber m → IsNumber n → decimal m ≡ decimal n → m ≡ n
number_is_one m n one two is = decimal_injective m n (small m one) (small n two) is

-- ---- paths

pub steps_begin : (steps : List ℕ) → BeginsAt 46 (steps_text steps)
steps_begin [] = inl refl
steps_begin (step ∷ steps) = inr (decimal step ++ steps_text steps, refl)

pub steps_are_one : (a b : List ℕ) → All IsNumber a → All IsNumber b → steps_text a ≡ steps_text b → a ≡ b
steps_are_one [] [] one two is = refl
steps_are_one [] (t ∷ b) one two is = let e : [] ≡ 46 ∷ (decimal t ++ steps_text b) = is in absurd (let never : ⊥ = cc in never)
steps_are_one (s ∷ a) [] one two is = let e : [] ≡ 46 ∷ (decimal s ++ steps_text a) = sym is in absurd (let never : ⊥ = cc in never)
steps_are_one (s ∷ a) (t ∷ b) one two is =
    let rest : decimal s ++ steps_text a ≡ decimal t ++ steps_text b = append_cancel_left (46 ∷ []) _ _ is in
    let m = All-head IsNumber s a one in
    let n = All-head IsNumber t b two in
    let cut =
    cut_is_one 46 (decimal s) (decimal t) (steps_text a) (steps_text b) (decimal_lacks s 46 m (omega arith)) (decimal_lacks t 46 n (omega arith))
    (steps_begin a) (steps_begin b) rest in
    let first : s ≡ t = number_is_one s t m n cut.0 in
    let others : a ≡ b = steps_are_one a b (All-tail IsNumber s a one) (All-tail IsNumber t b two) cut.1 in
    let whole : s ∷ a ≡ t ∷ b = cc in
    whole

dot_is_no_step : (s : ℕ) (rest : List ℕ) → IsNumber s → 46 ∷ [] ≡ 46 ∷ (decimal s ++ rest) → ⊥
dot_is_no_step s rest number is =
    let some = decimal_nonempty s (small s number) in
    let long = length-append (decimal s) rest in
    let same = ap length (append_cancel_left (46 ∷ []) [] (decimal s ++ rest) is) in
    omega (arith, some, long, same)

pub path_is_one : (a b : List ℕ) → All IsNumber a → All IsNumber b → path_text a ≡ path_text b → a ≡ b
path_is_one [] [] one two is = refl
path_is_one [] (t ∷ b) one two is = absurd (dot_is_no_step t (steps_text b) (All-head IsNumber t b two) is)
path_is_one (s ∷ a) [] one two is = absurd (dot_is_no_step s (steps_text a) (All-head IsNumber s a one) (sym is))
path_is_one (s ∷ a) (t ∷ b) one two is = steps_are_one (s ∷ a) (t ∷ b) one two is

steps_missing : (c : ℕ) (steps : List ℕ) → c < 46 → All IsNumber steps → ¬ Contains (steps_text steps) c
steps_missing c [] low numbers = Contains-none c
steps_missing c (s ∷ steps) low numbers =
    lacks_more 46 (decimal s ++ steps_text steps) c (λ same. omega (arith, same, low))
    (lacks_append (decimal s) (steps_text steps) c (decimal_lacks s c (All-head IsNumber s steps numbers) (omega (arith, low)))
    (steps_missing c steps low (All-tail IsNumber s steps numbers)))

pub path_lacks : (c : ℕ) (path : List ℕ) → c < 46 → All IsNumber path → ¬ Contains (path_text path) c
path_lacks c [] low numbers = lacks_more 46 [] c (λ same. omega (arith, same, low)) (Contains-none c)
path_lacks c (s ∷ path) low numbers = steps_missing c (s ∷ path) low numbers

-- ---- pairs

pub pair_is_one : (p q : ℕ × ℕ) → AreNumbers p → AreNumbers q → pair_line p ≡ pair_line q → p ≡ q
pair_is_one p q one two is =
    let rest : decimal p.0 ++ 32 ∷ decimal p.1 ≡ decimal q.0 ++ 32 ∷ decimal q.1 = append_cancel_left (codes "pair ") _ _ is in
    let cut =
    cut_is_one 32 (decimal p.0) (decimal q.0) (32 ∷ decimal p.1) (32 ∷ decimal q.1) (decimal_lacks p.0 32 one.0 (omega arith))
    (decimal_lacks q.0 32 two.0 (omega arith)) (inr (decimal p.1, refl)) (inr (decimal q.1, refl)) rest in
    let object : p.0 ≡ q.0 = number_is_one p.0 q.0 one.0 two.0 cut.0 in
    let ty : p.1 ≡ q.1 = number_is_one p.1 q.1 one.1 two.1 (append_cancel_left (32 ∷ []) _ _ cut.1) in
    let first : ◌≡◌ {A = ℕ × ℕ} (p.0, p.1) (q.0, p.1) = ap (λ (o : ℕ). (o, p.1)) object in
    let second : ◌≡◌ {A = ℕ × ℕ} (q.0, p.1) (q.0, q.1) = ap (λ (t : ℕ). (q.0, t)) ty in
    first ∙ second

pub first_byte : (a b : List ℕ) → a ≡ b → get_or a 0 0 ≡ get_or b 0 0
first_byte a b is = ap (λ bytes. get_or bytes 0 0) is

pub pair_is_no_end : (p : ℕ × ℕ) → pair_line p ≡ codes "end" → ⊥
pair_is_no_end p is = let first : 112 ≡ 101 = first_byte _ _ is in omega (arith, first)

pub pair_lacks : (p : ℕ × ℕ) → AreNumbers p → ¬ Contains (pair_line p) 10
unfolding has
pair_lacks p numbers =
    lacks_append (codes "pair ") (decimal p.0 ++ (codes " " ++ decimal p.1)) 10 (lacks_by_test 10 (codes "pair ") refl)
    (lacks_append (decimal p.0) (codes " " ++ decimal p.1) 10 (decimal_lacks p.0 10 numbers.0 (omega arith))
    (lacks_append (codes " ") (decimal p.1) 10 (lacks_by_test 10 (codes " ") refl) (decimal_lacks p.1 10 numbers.1 (omega arith))))

pub end_lacks : ¬ Contains (codes "end") 10
unfolding has
end_lacks = lacks_by_test 10 (codes "end") refl

-- ---- verdicts

-- The entries are of the same kind and have the same paths.
abbrev pub Agree : Section → Section → Type 0
Agree (sections.Pairs pairs) (sections.Pairs others) = Unit {0}
Agree (sections.Pairs pairs) (sections.Mismatch path) = ⊥
Agree (sections.Pairs pairs) (sections.Conflict first second) = ⊥
Agree (sections.Mismatch path) (sections.Pairs pairs) = ⊥
Agree (sections.Mismatch path) (sections.Mismatch other) = path ≡ other
Agree (sections.Mismatch path) (sections.Conflict first second) = ⊥
Agree (sections.Conflict first second) (sections.Pairs pairs) = ⊥
Agree (sections.Conflict first second) (sections.Mismatch path) = ⊥
Agree (sections.Conflict first second) (sections.Conflict one other) = (first ≡ one) × (second ≡ other)

apart : (m n : ℕ) (a b : List ℕ) → (m < n) → m ∷ a ≡ n ∷ b → ⊥
apart m n a b less is = let first : m ≡ n = first_byte (m ∷ a) (n ∷ b) is in omega (arith, less, first)

pub verdicts_agree : (one other : Section) → IsStated one → IsStated other → verdict_text one ≡ verdict_text other → Agree one other
verdicts_agree (sections.Pairs pairs) (sections.Pairs others) a b is = tt
verdicts_agree (sections.Pairs pairs) (sections.Mismatch path) a b is = apart 109 121 _ _ (omega arith) (sym is)
verdicts_agree (sections.Pairs pairs) (sections.Conflict first second) a b is = apart 99 121 _ _ (omega arith) (sym is)
verdicts_agree (sections.Mismatch path) (sections.Pairs pairs) a b is = apart 109 121 _ _ (omega arith) is
verdicts_agree (sections.Mismatch path) (sections.Mismatch other) a b is = path_is_one path other a b (append_cancel_left (codes "misfit ") _ _ is)
verdicts_agree (sections.Mismatch path) (sections.Conflict first second) a b is = apart 99 109 _ _ (omega arith) (sym is)
verdicts_agree (sections.Conflict first second) (sections.Pairs pairs) a b is = apart 99 121 _ _ (omega arith) is
verdicts_agree (sections.Conflict first second) (sections.Mismatch path) a b is = apart 99 109 _ _ (omega arith) is
verdicts_agree (sections.Conflict first second) (sections.Conflict one other) a b is =
    let rest : path_text first ++ 32 ∷ path_text second ≡ path_text one ++ 32 ∷ path_text other = append_cancel_left (codes "clash ") _ _ is in
    let cut =
    cut_is_one 32 (path_text first) (path_text one) (32 ∷ path_text second) (32 ∷ path_text other) (path_lacks 32 first (omega arith) a.0)
    (path_lacks 32 one (omega arith) b.0) (inr (path_text second, refl)) (inr (path_text other, refl)) rest in (
      path_is_one first one a.0 b.0 cut.0,
      path_is_one second other a.1 b.1 (append_cancel_left (32 ∷ []) _ _ cut.1),
    )

pub head_reports_verdict : (k : ℕ) (one other : Section) → head_line k one ≡ head_line k other → verdict_text one ≡ verdict_text other
head_reports_verdict k one other is =
    append_cancel_left (codes " ") _ _ (append_cancel_left (decimal k) _ _ (append_cancel_left (codes "value ") _ _ is))

verdict_lacks : (section : Section) → IsStated section → ¬ Contains (verdict_text section) 10
unfolding has
verdict_lacks (sections.Pairs pairs) stated = lacks_by_test 10 (codes "yes") refl
verdict_lacks (sections.Mismatch path) stated =
    lacks_append (codes "misfit ") (path_text path) 10 (lacks_by_test 10 (codes "misfit ") refl) (path_lacks 10 path (omega arith) stated)
verdict_lacks (sections.Conflict first second) stated =
    lacks_append (codes "clash ") (path_text first ++ (codes " " ++ path_text second)) 10 (lacks_by_test 10 (codes "clash ") refl)
    (lacks_append (path_text first) (codes " " ++ path_text second) 10 (path_lacks 10 first (omega arith) stated.0)
    (lacks_append (codes " ") (path_text second) 10 (lacks_by_test 10 (codes " ") refl) (path_lacks 10 second (omega arith) stated.1)))

pub head_lacks : (k : ℕ) (section : Section) → IsNumber k → IsStated section → ¬ Contains (head_line k section) 10
unfolding has
head_lacks k section number stated =
    lacks_append (codes "value ") (decimal k ++ (codes " " ++ verdict_text section)) 10 (lacks_by_test 10 (codes "value ") refl)
    (lacks_append (decimal k) (codes " " ++ verdict_text section) 10 (decimal_lacks k 10 number (omega arith))
    (lacks_append (codes " ") (verdict_text section) 10 (lacks_by_test 10 (codes " ") refl) (verdict_lacks section stated)))
