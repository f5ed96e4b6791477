-- The parts of single lines of a certificate.
use Rattle.std.proofs.Common.{ℕ, suc, ◌<◌, ◌≡◌, ◌≢◌, ◌∙◌, inr, Bool, true, false, List, [], ◌∷◌, ◌++◌, length, Option, Some, None, Result, Ok, Err, refl, sym, ap, subst, arith, append_assoc}
use Rattle.std.specs.Prelude.{All, IfOk, MatchOption, codes, decimal, ◌==◌}
use Rattle.std.proofs.lemmas.Bool.{false≢true}
use Rattle.std.proofs.lemmas.Bool.Decides.{Decides-eqb}
use Rattle.std.proofs.lemmas.List.{append-nil, append_cancel_left}
use Rattle.std.proofs.lemmas.List.Concat.{flat_map-append}
use Rattle.std.proofs.lemmas.List.Elements.{All-head, All-tail, All-push}
use Rattle.base_data.specs.model.PathText.{path_text, steps_text}
use Rattle.cert_format.specs.declared.section.Section.{Section}
use Rattle.cert_format.specs.declared.section.Section.TheVariants as sections
use Rattle.cert_format.specs.CertificateNumbers.{IsNumber, IsNumberText, IsNoNumberText}
use Rattle.cert_format.specs.Format.{verdict_text, head_line}
use Rattle.cert_format.specs.CertificateReading.{BeginsAt, IsCut, IsPairLine, IsNoPairLine, IsPathText, IsNoPathText, IsStepsText, IsNoStepsText, IsStep, IsNoStep, IsVerdict, IsNoVerdict, IsHead, IsNoHead}
use Rattle.cert_format.proofs.CutLemmas.{cut_is_one}
use Rattle.cert_format.proofs.CertificateTextLemmas.{decimal_lacks, number_is_one, steps_begin, path_lacks, first_byte}

nil_is_no_cons : (x : ℕ) (xs : List ℕ) → [] ≡ x ∷ xs → ⊥
nil_is_no_cons x xs is = cc

-- ---- results

pub at_none : {A : Type 0} (r : Option A) (P : Type 0) (Q : A → Type 0) → r ≡ None → P → MatchOption r P Q
at_none r P Q none holds = subst (λ o. MatchOption o P Q) (sym none) holds

pub found_more :
    {A E : Type 0} (r : Result (Option A) E) (P R : Type 0) (Q S : A → Type 0) → (P → R) → ((x : A) → Q x → S x)
    → IfOk r (λ found. MatchOption found P Q) → IfOk r (λ found. MatchOption found R S)
found_more (Ok None) P R Q S one two holds = one holds
found_more (Ok (Some x)) P R Q S one two holds = two x holds
found_more (Err e) P R Q S one two holds = holds

pub some_bytes : (bytes : List ℕ) (test : Bool) → test ≡ (length bytes == 0) → test ≡ false → bytes ≡ [] → ⊥
some_bytes [] test is no' none = false≢true (sym no' ∙ is)
some_bytes (b ∷ bytes) test is no' none = nil_is_no_cons b bytes (sym none)

pub no_bytes : (bytes : List ℕ) (test : Bool) → test ≡ (length bytes == 0) → test ≡ true → bytes ≡ []
no_bytes [] test is yes' = refl
no_bytes (b ∷ bytes) test is yes' = absurd (let none : suc (length bytes) ≡ 0 = (Decides-eqb (suc (length bytes)) 0).0 (sym is ∙ yes') in omega (arith, none))

-- ---- two numbers with a space

-- If the bytes begin with a number and a space, then the split at the first space is after the
-- number.
number_cut :
    (text object behind : List ℕ) → IsCut text 32 object behind → (n : ℕ) (rest : List ℕ) → IsNumber n → text ≡ decimal n ++ 32 ∷ rest
    → (object ≡ decimal n) × (behind ≡ 32 ∷ rest)
number_cut text object behind cut n rest number is =
    cut_is_one 32 object (decimal n) behind (32 ∷ rest) cut.none (decimal_lacks n 32 number (omega arith)) cut.begins (inr (rest, refl))
    (sym cut.whole ∙ is)

module _ (line text object behind : List ℕ) (prefix : line ≡ codes "pair " ++ text) (cut : IsCut text 32 object behind) where
  pair_cut : (pair : ℕ × ℕ) → IsPairLine line pair → (object ≡ decimal pair.0) × (behind ≡ 32 ∷ decimal pair.1)
  pair_cut pair is =
      number_cut text object behind cut pair.0 (decimal pair.1) is.0.0 (append_cancel_left (codes "pair ") text (decimal pair.0 ++ 32 ∷ decimal pair.1) (sym prefix ∙ is.1))

  pub no_pair_space : ((rest : List ℕ) → behind ≢ codes " " ++ rest) → IsNoPairLine line
  no_pair_space none pair is = none (decimal pair.1) (pair_cut pair is).1

  pub no_pair_object : IsNoNumberText object → IsNoPairLine line
  no_pair_object none pair is = none pair.0 (is.0.0, (pair_cut pair is).0)

  pub no_pair_type : (ty : List ℕ) → behind ≡ codes " " ++ ty → IsNoNumberText ty → IsNoPairLine line
  no_pair_type ty space none pair is =
      none pair.1 (is.0.1, append_cancel_left (codes " ") ty (decimal pair.1) (sym space ∙ (pair_cut pair is).1))

  pub pair_is : (ty : List ℕ) (o t : ℕ) → behind ≡ codes " " ++ ty → IsNumberText object o → IsNumberText ty t → IsPairLine line (o, t)
  pair_is ty o t space one two = (
    (one.0, two.0),
    prefix
        ∙ ap (λ (z : List ℕ). codes "pair " ++ z)
        (cut.whole ∙ (ap (λ (z : List ℕ). z ++ behind) one.1 ∙ ap (λ (z : List ℕ). decimal o ++ z) (space ∙ ap (λ (z : List ℕ). codes " " ++ z) two.1))),
  )

-- ---- the head

module _ (k : ℕ) (line text digits behind : List ℕ) (prefix : line ≡ codes "value " ++ text) (cut : IsCut text 32 digits behind) where
  head_cut : IsNumber k → (section : Section) → line ≡ head_line k section → (digits ≡ decimal k) × (behind ≡ 32 ∷ verdict_text section)
  head_cut number section is =
      number_cut text digits behind cut k (verdict_text section) number
      (append_cancel_left (codes "value ") text (decimal k ++ 32 ∷ verdict_text section) (sym prefix ∙ is))

  pub no_head_space : ((rest : List ℕ) → behind ≢ codes " " ++ rest) → IsNoHead k line
  no_head_space none number section stated is = none (verdict_text section) (head_cut number section is).1

  pub no_head_number : IsNoNumberText digits → IsNoHead k line
  no_head_number none number section stated is = none k (number, (head_cut number section is).0)

  pub no_head_other : (n : ℕ) → IsNumberText digits n → (n ≡ k → ⊥) → IsNoHead k line
  no_head_other n text' other number section stated is =
      other (number_is_one n k text'.0 number (sym text'.1 ∙ (head_cut number section is).0))

  pub no_head_verdict : (verdict : List ℕ) → behind ≡ codes " " ++ verdict → IsNoVerdict verdict → IsNoHead k line
  no_head_verdict verdict space none number section stated is =
      none section stated (append_cancel_left (codes " ") verdict (verdict_text section) (sym space ∙ (head_cut number section is).1))

  pub head_is :
      (verdict : List ℕ) (n : ℕ) (section : Section) → behind ≡ codes " " ++ verdict → IsNumberText digits n → n ≡ k → IsVerdict verdict section
      → IsHead k line section
  head_is verdict n section space text' same is = record {
    number = subst IsNumber same text'.0;
    stated = is.stated;
    encoded =
        prefix
        ∙ ap (λ (z : List ℕ). codes "value " ++ z)
        (cut.whole
        ∙ (ap (λ (z : List ℕ). z ++ behind) (text'.1 ∙ ap decimal same)
        ∙ ap (λ (z : List ℕ). decimal k ++ z) (space ∙ ap (λ (z : List ℕ). codes " " ++ z) is.encoded)));
    no_pair = is.no_pair;
  }

-- ---- one step of a path

pub no_step_number : (text numbers digits rest : List ℕ) → text ≡ codes "." ++ numbers → IsCut numbers 46 digits rest → IsNoNumberText digits → IsNoStep text
no_step_number text numbers digits rest dot cut none step more is =
    none step (
      is.number,
      (cut_is_one 46 digits (decimal step) rest more cut.none (decimal_lacks step 46 is.number (omega arith)) cut.begins is.begins
          (sym cut.whole ∙ append_cancel_left (codes ".") numbers (decimal step ++ more) (sym dot ∙ is.encoded))).0,
    )

pub step_is :
    (text numbers digits rest : List ℕ) (step : ℕ) → text ≡ codes "." ++ numbers → IsCut numbers 46 digits rest → IsNumberText digits step
    → IsStep text step rest
step_is text numbers digits rest step dot cut is = record {
  number = is.0;
  encoded = dot ∙ ap (λ (z : List ℕ). codes "." ++ z) (cut.whole ∙ ap (λ (z : List ℕ). z ++ rest) is.1);
  begins = cut.begins;
}

-- ---- steps

all_behind : (xs ys : List ℕ) → All IsNumber (xs ++ ys) → All IsNumber ys
all_behind [] ys all = all
all_behind (x ∷ xs) ys all = all_behind xs ys (All-tail IsNumber x (xs ++ ys) all)

begin_both : (steps rest : List ℕ) → BeginsAt 46 rest → BeginsAt 46 (steps_text steps ++ rest)
begin_both [] rest begins = begins
begin_both (step ∷ steps) rest begins = inr ((decimal step ++ steps_text steps) ++ rest, refl)

record HasMore (path all rest : List ℕ) : Type 0 where
  more : List ℕ
  is : all ≡ path ++ more
  encoded : rest ≡ steps_text more

steps_go_on :
    (path all rest : List ℕ) → All IsNumber path → All IsNumber all → BeginsAt 46 rest → steps_text all ≡ steps_text path ++ rest
    → HasMore path all rest
steps_go_on [] all rest one two begins is = record { more = all; is = refl; encoded = sym is }
steps_go_on (s ∷ path) [] rest one two begins is = absurd (nil_is_no_cons _ _ is)
steps_go_on (s ∷ path) (t ∷ all) rest one two begins is =
    let m = All-head IsNumber s path one in
    let n = All-head IsNumber t all two in
    let cut =
    cut_is_one 46 (decimal t) (decimal s) (steps_text all) (steps_text path ++ rest) (decimal_lacks t 46 n (omega arith))
    (decimal_lacks s 46 m (omega arith)) (steps_begin all) (begin_both path rest begins)
    (append_cancel_left (46 ∷ []) _ _ is ∙ append_assoc (decimal s) (steps_text path) rest) in
    let r = steps_go_on path all rest (All-tail IsNumber s path one) (All-tail IsNumber t all two) begins cut.1 in
    let first : t ≡ s = number_is_one t s n m cut.0 in
    let others : all ≡ path ++ r.more = r.is in
    let whole : t ∷ all ≡ s ∷ (path ++ r.more) = cc in
    record { more = r.more; is = whole; encoded = r.encoded }

-- The text begins with these steps, and `rest` is the text of the other steps.
pub record AreSteps (text path rest : List ℕ) : Type 0 where
  pub numbers : All IsNumber path
  pub encoded : text ≡ steps_text path ++ rest
  pub begins : BeginsAt 46 rest

pub steps_more :
    (text path rest : List ℕ) (step : ℕ) (more : List ℕ) → AreSteps text path rest → IsStep rest step more → AreSteps text (path ++ step ∷ []) more
steps_more text path rest step more are is = record {
  numbers = All-push IsNumber path step are.numbers is.number;
  encoded =
      are.encoded
      ∙ (ap (λ (z : List ℕ). steps_text path ++ z) (is.encoded ∙ sym one)
      ∙ (sym (append_assoc (steps_text path) (steps_text (step ∷ [])) more)
      ∙ ap (λ (z : List ℕ). z ++ more) (sym (flat_map-append (λ (s : ℕ). codes "." ++ decimal s) path (step ∷ [])))));
  begins = is.begins;
} where
  one : steps_text (step ∷ []) ++ more ≡ codes "." ++ (decimal step ++ more)
  one = ap (λ (z : List ℕ). z ++ more) (append-nil (codes "." ++ decimal step))

pub no_steps : (text path rest : List ℕ) → AreSteps text path rest → (rest ≡ [] → ⊥) → IsNoStep rest → IsNoStepsText text
no_steps text path rest are some none all is = by_more has.more has.is has.encoded where
  has : HasMore path all rest
  has = steps_go_on path all rest are.numbers is.0 are.begins (sym is.1 ∙ are.encoded)

  by_more : (more : List ℕ) → all ≡ path ++ more → rest ≡ steps_text more → ⊥
  by_more [] whole encoded = some encoded
  by_more (step ∷ more) whole encoded =
      let numbers = all_behind path (step ∷ more) (subst (λ (z : List ℕ). All IsNumber z) whole is.0) in
      none step (steps_text more) (record { number = All-head IsNumber step more numbers; encoded = encoded; begins = steps_begin more })

-- ---- paths

pub no_path_steps : (text numbers : List ℕ) → text ≡ codes "." ++ numbers → (numbers ≡ [] → ⊥) → IsNoStepsText text → IsNoPathText text
no_path_steps text numbers dot some none [] is = some (append_cancel_left (codes ".") numbers [] (sym dot ∙ is.1))
no_path_steps text numbers dot some none (step ∷ path) is = none (step ∷ path) is

pub path_is_steps : (text numbers path : List ℕ) → text ≡ codes "." ++ numbers → IsStepsText text path → IsPathText text path
path_is_steps text numbers [] dot is = absurd (nil_is_no_cons 46 numbers (sym is.1 ∙ dot))
path_is_steps text numbers (step ∷ path) dot is = is

-- ---- verdicts

apart : (m n : ℕ) (a b : List ℕ) → (m < n) → m ∷ a ≡ n ∷ b → ⊥
apart m n a b less is = let first : m ≡ n = first_byte (m ∷ a) (n ∷ b) is in omega (arith, less, first)

module _ (paths one behind : List ℕ) (cut : IsCut paths 32 one behind) where
  -- If the text is not two paths separated by a space, then the text is no aliasing conflict.
  no_conflict :
      ((first second : List ℕ) → All IsNumber first → All IsNumber second → one ≡ path_text first → behind ≡ 32 ∷ path_text second → ⊥)
      → IsNoVerdict (codes "clash " ++ paths)
  no_conflict none (sections.Pairs pairs) stated is = apart 99 121 _ _ (omega arith) is
  no_conflict none (sections.Mismatch path) stated is = apart 99 109 _ _ (omega arith) is
  no_conflict none (sections.Conflict first second) stated is =
      let both =
      cut_is_one 32 one (path_text first) behind (32 ∷ path_text second) cut.none (path_lacks 32 first (omega arith) stated.0) cut.begins
      (inr (path_text second, refl))
      (sym cut.whole ∙ append_cancel_left (codes "clash ") paths (path_text first ++ 32 ∷ path_text second) is) in
      none first second stated.0 stated.1 both.0 both.1

  pub no_conflict_space : ((rest : List ℕ) → behind ≢ codes " " ++ rest) → IsNoVerdict (codes "clash " ++ paths)
  no_conflict_space none = no_conflict (λ first second numbers others here there. none (path_text second) there)

  pub no_conflict_first : IsNoPathText one → IsNoVerdict (codes "clash " ++ paths)
  no_conflict_first none = no_conflict (λ first second numbers others here there. none first (numbers, here))

  pub no_conflict_second : (other : List ℕ) → behind ≡ codes " " ++ other → IsNoPathText other → IsNoVerdict (codes "clash " ++ paths)
  no_conflict_second other space none = no_conflict
      (λ first second numbers others here there. none second (others, append_cancel_left (codes " ") other (path_text second) (sym space ∙ there)))
