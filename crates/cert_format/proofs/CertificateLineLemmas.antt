-- The lines of a certificate determine the entries of the certificate, and how the lines may
-- continue.
use Rattle.std.proofs.Common.{ℕ, suc, ◌≤◌, ◌+◌, ◌^◌, ◌≡◌, ◌∙◌, ◌⊎◌, ⊎_elim, inl, inr, List, [], ◌∷◌, ◌++◌, length, refl, sym, ap, subst, arith, add-zero, append_assoc}
use Rattle.std.specs.Prelude.{Contains, All, map, codes}
use Rattle.std.proofs.lemmas.List.{append-nil}
use Rattle.std.proofs.lemmas.List.Elements.{All-head, All-tail, Contains-append_cases}
use Rattle.base_data.proofs.model.Options.{Contains-none, Contains-cases}
use Rattle.cert_format.specs.declared.section.Section.{Section}
use Rattle.cert_format.specs.declared.section.Section.TheVariants as sections
use Rattle.cert_format.specs.CertificateNumbers.{IsNumber}
use Rattle.cert_format.specs.Format.{IsStated, pair_line, pair_lines, head_line, section_lines, lines_from}
use Rattle.cert_format.specs.CertificateReading.{AreNumbers}
use Rattle.cert_format.proofs.CertificateTextLemmas.{pair_is_one, pair_is_no_end, pair_lacks, end_lacks, Agree, verdicts_agree, head_reports_verdict, head_lacks}

abbrev AllNumbers : List (ℕ × ℕ) → Type 0
AllNumbers pairs = All (λ (pair : ℕ × ℕ). IsNumber pair.0 × IsNumber pair.1) pairs

abbrev Lines : Type 0
Lines = List (List ℕ)

pub nil_is_no_cons : {A : Type 0} (x : A) (xs : List A) → [] ≡ x ∷ xs → ⊥
nil_is_no_cons x xs is = cc

pub first_is : {A : Type 0} (x y : A) (xs ys : List A) → x ∷ xs ≡ y ∷ ys → x ≡ y
first_is x y xs ys is = cc

pub rest_is : {A : Type 0} (x y : A) (xs ys : List A) → x ∷ xs ≡ y ∷ ys → xs ≡ ys
rest_is x y xs ys is = cc

both_are : {A : Type 0} (x y : A) (xs ys : List A) → x ≡ y → xs ≡ ys → x ∷ xs ≡ y ∷ ys
both_are x y xs ys one two = cc

-- ---- pairs

pub pairs_are_one :
    (ps qs : List (ℕ × ℕ)) → AllNumbers ps → AllNumbers qs → (x y : Lines)
    → map pair_line ps ++ (codes "end" ∷ x) ≡ map pair_line qs ++ (codes "end" ∷ y) → (ps ≡ qs) × (x ≡ y)
pairs_are_one [] [] one two x y is = (refl, rest_is (codes "end") (codes "end") x y is)
pairs_are_one [] (q ∷ qs) one two x y is = absurd (pair_is_no_end q (sym (first_is _ _ _ _ is)))
pairs_are_one (p ∷ ps) [] one two x y is = absurd (pair_is_no_end p (first_is _ _ _ _ is))
pairs_are_one (p ∷ ps) (q ∷ qs) one two x y is =
    let first = pair_is_one p q (All-head AreNumbers p ps one) (All-head AreNumbers q qs two) (first_is _ _ _ _ is) in
    let r = pairs_are_one ps qs (All-tail AreNumbers p ps one) (All-tail AreNumbers q qs two) x y (rest_is _ _ _ _ is) in
    (both_are p q ps qs first r.0, r.1)

-- The pairs `qs` are `ps`, one more pair and further pairs; `line` is the line of that one pair.
pub record HasPair (ps qs : List (ℕ × ℕ)) (line : List ℕ) : Type 0 where
  pub pair : ℕ × ℕ
  pub rest : List (ℕ × ℕ)
  pub is : qs ≡ ps ++ (pair ∷ rest)
  pub encoded : line ≡ pair_line pair

pub pairs_go_on :
    (ps qs : List (ℕ × ℕ)) → AllNumbers ps → AllNumbers qs → (line : List ℕ) (x more : Lines)
    → map pair_line qs ++ (codes "end" ∷ x) ≡ map pair_line ps ++ (line ∷ more) → (line ≡ codes "end") ⊎ HasPair ps qs line
pairs_go_on [] [] one two line x more is = inl (sym (first_is _ _ _ _ is))
pairs_go_on [] (q ∷ qs) one two line x more is = inr (record { pair = q; rest = qs; is = refl; encoded = sym (first_is _ _ _ _ is) })
pairs_go_on (p ∷ ps) [] one two line x more is = absurd (pair_is_no_end p (sym (first_is _ _ _ _ is)))
pairs_go_on (p ∷ ps) (q ∷ qs) one two line x more is =
    let first : q ≡ p = sym (pair_is_one p q (All-head AreNumbers p ps one) (All-head AreNumbers q qs two) (sym (first_is _ _ _ _ is))) in
    ⊎_elim
    inl
    (λ (has : HasPair ps qs line). inr (record {
      pair = has.pair;
      rest = has.rest;
      is = both_are q p qs (ps ++ (has.pair ∷ has.rest)) first has.is;
      encoded = has.encoded;
    }))
    (pairs_go_on ps qs (All-tail AreNumbers p ps one) (All-tail AreNumbers q qs two) line x more (rest_is _ _ _ _ is))

pub pairs_have_end :
    (ps qs : List (ℕ × ℕ)) (x : Lines) → map pair_line qs ++ (codes "end" ∷ x) ≡ map pair_line ps → ⊥
pairs_have_end [] [] x is = nil_is_no_cons _ _ (sym is)
pairs_have_end [] (q ∷ qs) x is = nil_is_no_cons _ _ (sym is)
pairs_have_end (p ∷ ps) [] x is = pair_is_no_end p (sym (first_is _ _ _ _ is))
pairs_have_end (p ∷ ps) (q ∷ qs) x is = pairs_have_end ps qs x (rest_is _ _ _ _ is)

-- ---- entries

-- The lines after the first line of an entry, with the lines of later entries.
behind : (one : Section) (x : Lines) → (pair_lines one ++ (codes "end" ∷ [])) ++ x ≡ pair_lines one ++ (codes "end" ∷ x)
behind one x = append_assoc (pair_lines one) (codes "end" ∷ []) x

pub section_is_one :
    (k : ℕ) (one other : Section) → IsStated one → IsStated other → (x y : Lines)
    → section_lines k one ++ x ≡ section_lines k other ++ y → (one ≡ other) × (x ≡ y)
section_is_one k one other a b x y is =
    by_kind one other a b (verdicts_agree one other a b (head_reports_verdict k one other (first_is _ _ _ _ is)))
    (sym (behind one x) ∙ (rest_is _ _ _ _ is ∙ behind other y)) where
      by_kind :
          (one other : Section) → IsStated one → IsStated other → Agree one other
          → pair_lines one ++ (codes "end" ∷ x) ≡ pair_lines other ++ (codes "end" ∷ y) → (one ≡ other) × (x ≡ y)
      by_kind (sections.Pairs pairs) (sections.Pairs others) a b agree is =
          let r = pairs_are_one pairs others a.1 b.1 x y is in (ap sections.Pairs r.0, r.1)
      by_kind (sections.Pairs pairs) (sections.Mismatch path) a b agree is = absurd agree
      by_kind (sections.Pairs pairs) (sections.Conflict first second) a b agree is = absurd agree
      by_kind (sections.Mismatch path) (sections.Pairs pairs) a b agree is = absurd agree
      by_kind (sections.Mismatch path) (sections.Mismatch other) a b agree is = (ap sections.Mismatch agree, rest_is _ _ _ _ is)
      by_kind (sections.Mismatch path) (sections.Conflict first second) a b agree is = absurd agree
      by_kind (sections.Conflict first second) (sections.Pairs pairs) a b agree is = absurd agree
      by_kind (sections.Conflict first second) (sections.Mismatch path) a b agree is = absurd agree
      by_kind (sections.Conflict first second) (sections.Conflict one other) a b agree is =
          (ap (λ (p : List ℕ). sections.Conflict p second) agree.0 ∙ ap (λ (p : List ℕ). sections.Conflict one p) agree.1, rest_is _ _ _ _ is)

-- The entries `all` begin with the entries `whole`, and `more` is the lines of the remaining
-- entries.
pub record Begin (k : ℕ) (whole all : List Section) (more : Lines) : Type 0 where
  pub rest : List Section
  pub is : all ≡ whole ++ rest
  pub lines : lines_from (k + length whole) rest ≡ more

pub begin_with :
    (k : ℕ) (whole all : List Section) → All IsStated whole → All IsStated all → (more : Lines)
    → lines_from k all ≡ lines_from k whole ++ more → Begin k whole all more
begin_with k [] all one two more is =
    record { rest = all; is = refl; lines = subst (λ (n : ℕ). lines_from n all ≡ more) (sym (add-zero k)) is }
begin_with k (s ∷ whole) [] one two more is = absurd (nil_is_no_cons _ _ is)
begin_with k (s ∷ whole) (t ∷ all) one two more is =
    let both =
    section_is_one k t s (All-head IsStated t all two) (All-head IsStated s whole one) (lines_from (suc k) all) (lines_from (suc k) whole ++ more)
    (is ∙ append_assoc (section_lines k s) (lines_from (suc k) whole) more) in
    let r = begin_with (suc k) whole all (All-tail IsStated s whole one) (All-tail IsStated t all two) more both.1 in
    let number : suc k + length whole ≡ k + suc (length whole) = omega arith in
    record {
      rest = r.rest;
      is = both_are t s all (whole ++ r.rest) both.0 r.is;
      lines = subst (λ (n : ℕ). lines_from n r.rest ≡ more) number r.lines;
    }

pub lines_from-push :
    (k : ℕ) (whole : List Section) (section : Section)
    → lines_from k (whole ++ (section ∷ [])) ≡ lines_from k whole ++ section_lines (k + length whole) section
lines_from-push k [] section = append-nil (section_lines k section) ∙ ap (λ (n : ℕ). section_lines n section) (sym (add-zero k))
lines_from-push k (s ∷ whole) section =
    let r = lines_from-push (suc k) whole section in
    let number : suc k + length whole ≡ k + suc (length whole) = omega arith in
    ap (λ (l : Lines). section_lines k s ++ l) (r ∙ ap (λ (n : ℕ). lines_from (suc k) whole ++ section_lines n section) number)
    ∙ sym (append_assoc (section_lines k s) (lines_from (suc k) whole) (section_lines (k + suc (length whole)) section))

-- ---- no line has a line feed

abbrev pub HaveNoFeed : Lines → Type 0
HaveNoFeed lines = (line : List ℕ) → Contains lines line → ¬ Contains line 10

pub no_feed_here : (line : List ℕ) (lines : Lines) → ¬ Contains line 10 → HaveNoFeed lines → HaveNoFeed (line ∷ lines)
no_feed_here line lines here later other among =
    ⊎_elim (λ same. subst (λ (l : List ℕ). ¬ Contains l 10) same here) (λ more. later other more) (Contains-cases line lines other among)

pub no_feed_both : (lines others : Lines) → HaveNoFeed lines → HaveNoFeed others → HaveNoFeed (lines ++ others)
no_feed_both lines others one two line among = ⊎_elim (one line) (two line) (Contains-append_cases lines others line among)

pub no_feed_none : HaveNoFeed []
no_feed_none line among = absurd (Contains-none line among)

pairs_no_feed : (pairs : List (ℕ × ℕ)) → AllNumbers pairs → HaveNoFeed (map pair_line pairs)
pairs_no_feed [] numbers = no_feed_none
pairs_no_feed (pair ∷ pairs) numbers =
    no_feed_here (pair_line pair) (map pair_line pairs) (pair_lacks pair (All-head AreNumbers pair pairs numbers))
    (pairs_no_feed pairs (All-tail AreNumbers pair pairs numbers))

body_no_feed : (section : Section) → IsStated section → HaveNoFeed (pair_lines section)
body_no_feed (sections.Pairs pairs) stated = pairs_no_feed pairs stated.1
body_no_feed (sections.Mismatch path) stated = no_feed_none
body_no_feed (sections.Conflict first second) stated = no_feed_none

pub lines_no_feed : (k : ℕ) (all : List Section) → All IsStated all → k + length all ≤ 2 ^ 63 → HaveNoFeed (lines_from k all)
lines_no_feed k [] stated few = no_feed_none
lines_no_feed k (section ∷ all) stated few =
    let own = All-head IsStated section all stated in
    no_feed_both (section_lines k section) (lines_from (suc k) all)
    (no_feed_here (head_line k section) (pair_lines section ++ (codes "end" ∷ [])) (head_lacks k section (omega (arith, few)) own)
    (no_feed_both (pair_lines section) (codes "end" ∷ []) (body_no_feed section own) (no_feed_here (codes "end") [] end_lacks no_feed_none)))
    (lines_no_feed (suc k) all (All-tail IsStated section all stated) (omega (arith, few)))
