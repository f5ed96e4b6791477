-- The first faulty line of a text.
use Rattle.std.proofs.Common.{ℕ, ◌<◌, ◌≤◌, ◌+◌, ◌-◌, ◌≡◌, ◌≢◌, ◌∙◌, ◌⊎◌, ⊎_elim, inl, inr, List, [], ◌∷◌, ◌++◌, length, take, drop, refl, sym, ap, subst, arith, length-append, append_assoc}
use Rattle.std.specs.Prelude.{Contains}
use Rattle.std.proofs.lemmas.List.{append-nil, append_cancel_left, take-append-drop, take-take, take_at, length_push}
use Rattle.std.proofs.lemmas.List.Concat.{flat_map-append}
use Rattle.std.proofs.lemmas.List.Elements.{Contains-append_left, Contains-append_right, Contains-push}
use Rattle.base_data.proofs.model.Options.{Contains-first, Contains-none, same_or_not}
use Rattle.base_data.proofs.model.Numbers.{less_same_more}
use Rattle.cert_format.specs.declared.section.Section.{Section}
use Rattle.cert_format.specs.Format.{lines_from, text_of, IsCertificate, AreLinesOf, ArePrefix, AreWhole, IsSyntaxAt}
use Rattle.cert_format.proofs.CutLemmas.{lacks_more, cut_is_one}
use Rattle.cert_format.proofs.CertificateLineLemmas.{begin_with, HaveNoFeed, no_feed_here, no_feed_both, no_feed_none, lines_no_feed}

abbrev Lines : Type 0
Lines = List (List ℕ)

-- ---- lines of bytes

-- A text with a first line is that line, its line feed, and the remaining bytes.
line_first : (line : List ℕ) (others rest : List ℕ) → ((line ++ 10 ∷ []) ++ others) ++ rest ≡ line ++ (10 ∷ (others ++ rest))
line_first line others rest = append_assoc (line ++ 10 ∷ []) others rest ∙ append_assoc line (10 ∷ []) (others ++ rest)

-- If there is a complete line, then the text contains a line feed.
feed_among : (line : List ℕ) (others : Lines) (rest : List ℕ) → Contains (text_of (line ∷ others) ++ rest) 10
feed_among line others rest =
    Contains-append_left (text_of (line ∷ others)) rest 10 (Contains-append_left (line ++ 10 ∷ []) (text_of others) 10 (Contains-push line 10))

tail_has_none : (line : List ℕ) (lines : Lines) → HaveNoFeed (line ∷ lines) → HaveNoFeed lines
tail_has_none line lines none other among = none other (Contains-append_right (line ∷ []) lines other among)

pub lines_are_one :
    (a b : Lines) (x y : List ℕ) → HaveNoFeed a → HaveNoFeed b → ¬ Contains x 10 → ¬ Contains y 10 → text_of a ++ x ≡ text_of b ++ y
    → (a ≡ b) × (x ≡ y)
lines_are_one [] [] x y one two here there is = (refl, is)
lines_are_one [] (m ∷ b) x y one two here there is = absurd (here (subst (λ (z : List ℕ). Contains z 10) (sym is) (feed_among m b y)))
lines_are_one (l ∷ a) [] x y one two here there is = absurd (there (subst (λ (z : List ℕ). Contains z 10) is (feed_among l a x)))
lines_are_one (l ∷ a) (m ∷ b) x y one two here there is =
    let cut =
    cut_is_one 10 l m (10 ∷ (text_of a ++ x)) (10 ∷ (text_of b ++ y)) (one l (Contains-first l a)) (two m (Contains-first m b))
    (inr (text_of a ++ x, refl)) (inr (text_of b ++ y, refl))
    (sym (line_first l (text_of a) x) ∙ (is ∙ line_first m (text_of b) y)) in
    let r =
    lines_are_one a b x y (tail_has_none l a one) (tail_has_none m b two) here there (append_cancel_left (10 ∷ []) _ _ cut.1) in
    let first : l ≡ m = cut.0 in
    let others : a ≡ b = r.0 in
    let whole : l ∷ a ≡ m ∷ b = cc in
    (whole, r.1)

record HasLines (bytes : List ℕ) : Type 0 where
  lines : Lines
  rest : List ℕ
  are : AreLinesOf bytes lines rest

-- If bytes have lines, then the bytes with one byte before them have lines.
one_more : (b : ℕ) (bytes : List ℕ) → HasLines bytes → HasLines (b ∷ bytes)
one_more b bytes has = by_feed (same_or_not b 10) where
  longer : (lines : Lines) (rest : List ℕ) → AreLinesOf bytes lines rest → (b ≡ 10 → ⊥) → HasLines (b ∷ bytes)
  longer [] rest are other = record {
    lines = [];
    rest = b ∷ rest;
    are = record {
      whole = ap (λ (z : List ℕ). b ∷ z) are.whole;
      no_feed = no_feed_none;
      no_feed_behind = lacks_more b rest 10 other are.no_feed_behind;
    };
  }
  longer (line ∷ lines) rest are other = record {
    lines = (b ∷ line) ∷ lines;
    rest = rest;
    are = record {
      whole = ap (λ (z : List ℕ). b ∷ z) are.whole;
      no_feed =
          no_feed_here (b ∷ line) lines (lacks_more b line 10 other (are.no_feed line (Contains-first line lines)))
          (tail_has_none line lines are.no_feed);
      no_feed_behind = are.no_feed_behind;
    };
  }

  by_feed : (b ≡ 10) ⊎ (b ≡ 10 → ⊥) → HasLines (b ∷ bytes)
  by_feed (inl feed) = record {
    lines = [] ∷ has.lines;
    rest = has.rest;
    are = record {
      whole = ap (λ (z : List ℕ). b ∷ z) has.are.whole ∙ ap (λ (c : ℕ). c ∷ (text_of has.lines ++ has.rest)) feed;
      no_feed = no_feed_here [] has.lines (Contains-none 10) has.are.no_feed;
      no_feed_behind = has.are.no_feed_behind;
    };
  }
  by_feed (inr other) = longer has.lines has.rest has.are other

has_lines : (bytes : List ℕ) → HasLines bytes
has_lines [] = record {
  lines = [];
  rest = [];
  are = record { whole = refl; no_feed = no_feed_none; no_feed_behind = Contains-none 10 };
}
has_lines (b ∷ bytes) = one_more b bytes (has_lines bytes)

-- ---- prefixes of certificates

pub prefix_no_feed : (lines : Lines) → ArePrefix lines → HaveNoFeed lines
prefix_no_feed lines (all, more, stated, is) line among =
    let few = stated.few in
    lines_no_feed 0 all stated.stated (omega (arith, few)) line
    (subst (λ (l : Lines). Contains l line) (sym is) (Contains-append_left lines more line among))

-- If some certificate begins with these lines, then some certificate begins with a prefix of the
-- lines.
prefix_of_prefix : (lines others : Lines) → ArePrefix (lines ++ others) → ArePrefix lines
prefix_of_prefix lines others (all, more, stated, is) = (all, others ++ more, stated, is ∙ append_assoc lines others more)

-- If some certificate begins with these lines, then some certificate begins with the first `n` of
-- the lines.
pub prefix_first : (n : ℕ) (lines : Lines) → ArePrefix lines → ArePrefix (take n lines)
prefix_first n lines prefix =
    prefix_of_prefix (take n lines) (drop n lines) (subst (λ (l : Lines). ArePrefix l) (sym (take-append-drop n lines)) prefix)

-- ---- faults

before_last : (n : ℕ) → n + 1 - 1 ≡ n
before_last n = omega arith

pub fault_at_line :
    (bytes : List ℕ) (before : Lines) (line more : List ℕ) → bytes ≡ text_of before ++ (line ++ 10 ∷ more) → ArePrefix before
    → ¬ Contains line 10 → ¬ ArePrefix (before ++ line ∷ []) → IsSyntaxAt bytes (length before + 1)
fault_at_line bytes before line more is prefix none nowhere = record {
  lines = before ++ line ∷ others.lines;
  rest = others.rest;
  are = record {
    whole =
        is
        ∙ (ap (λ (z : List ℕ). text_of before ++ z) (ap (λ (z : List ℕ). line ++ 10 ∷ z) others.are.whole ∙ sym (line_first line (text_of others.lines) others.rest))
        ∙ (sym (append_assoc (text_of before) (text_of (line ∷ others.lines)) others.rest)
        ∙ ap (λ (z : List ℕ). z ++ others.rest) (sym (flat_map-append (λ (l : List ℕ). l ++ 10 ∷ []) before (line ∷ others.lines)))));
    no_feed = no_feed_both before (line ∷ others.lines) (prefix_no_feed before prefix) (no_feed_here line others.lines none others.are.no_feed);
    no_feed_behind = others.are.no_feed_behind;
  };
  counted = omega arith;
  within = let long = length-append before (line ∷ others.lines) in omega (arith, long);
  before = subst (λ (l : Lines). ArePrefix l) (sym (take_at before (line ∷ others.lines) (length before + 1 - 1) (sym (before_last (length before))))) prefix;
  why = inl (inside, λ same. nowhere (subst (λ (l : Lines). ArePrefix l) first same));
} where
  others : HasLines more
  others = has_lines more

  inside : length before + 1 ≤ length (before ++ line ∷ others.lines)
  inside = let long = length-append before (line ∷ others.lines) in omega (arith, long)

  first : take (length before + 1) (before ++ line ∷ others.lines) ≡ before ++ line ∷ []
  first =
      ap (λ (l : Lines). take (length before + 1) l) (sym (append_assoc before (line ∷ []) others.lines))
      ∙ take_at (before ++ line ∷ []) others.lines (length before + 1) (length_push before line)

pub fault_behind :
    (bytes : List ℕ) (before : Lines) (rest : List ℕ) → bytes ≡ text_of before ++ rest → ArePrefix before → ¬ Contains rest 10
    → (rest ≢ []) ⊎ (¬ AreWhole before) → IsSyntaxAt bytes (length before + 1)
fault_behind bytes before rest is prefix none why' = record {
  lines = before;
  rest = rest;
  are = record { whole = is; no_feed = prefix_no_feed before prefix; no_feed_behind = none };
  counted = omega arith;
  within = omega arith;
  before = prefix_first (length before + 1 - 1) before prefix;
  why = inr (refl, why');
}

-- ---- laws

lines_of : (bytes : List ℕ) (all : List Section) → IsCertificate bytes all → AreLinesOf bytes (lines_from 0 all) []
lines_of bytes all is =
    let few = is.stated.few in
    record {
      whole = is.encoded ∙ sym (append-nil (text_of (lines_from 0 all)));
      no_feed = lines_no_feed 0 all is.stated.stated (omega (arith, few));
      no_feed_behind = Contains-none 10;
    }

same_lines : (bytes : List ℕ) (a b : Lines) (x y : List ℕ) → AreLinesOf bytes a x → AreLinesOf bytes b y → (a ≡ b) × (x ≡ y)
same_lines bytes a b x y one two =
    lines_are_one a b x y one.no_feed two.no_feed one.no_feed_behind two.no_feed_behind (sym one.whole ∙ two.whole)

no_lines : (k : ℕ) (all : List Section) → lines_from k all ≡ [] → all ≡ []
no_lines k [] is = refl
no_lines k (section ∷ all) is = absurd (never _ _ is) where
  never : (x : List ℕ) (xs : Lines) → x ∷ xs ≡ [] → ⊥
  never x xs is = cc

pub sections_are_one : (bytes : List ℕ) (all others : List Section) → IsCertificate bytes all → IsCertificate bytes others → all ≡ others
sections_are_one bytes all others one two =
    let same = (same_lines bytes (lines_from 0 all) (lines_from 0 others) [] [] (lines_of bytes all one) (lines_of bytes others two)).0 in
    let begin = begin_with 0 all others one.stated.stated two.stated.stated [] (sym same ∙ sym (append-nil (lines_from 0 all))) in
    sym (append-nil all) ∙ (ap (λ (rest : List Section). all ++ rest) (sym (no_lines (0 + length all) begin.rest begin.lines)) ∙ sym begin.is)

pub certificates_have_no_fault : (bytes : List ℕ) (all : List Section) (n : ℕ) → IsCertificate bytes all → ¬ IsSyntaxAt bytes n
certificates_have_no_fault bytes all n is fault = ⊎_elim at_line behind fault.why where
  same : (lines_from 0 all ≡ fault.lines) × ([] ≡ fault.rest)
  same = same_lines bytes (lines_from 0 all) fault.lines [] fault.rest (lines_of bytes all is) fault.are

  whole : AreWhole fault.lines
  whole = (all, is.stated, same.0)

  prefix : ArePrefix fault.lines
  prefix = (all, [], is.stated, same.0 ∙ sym (append-nil fault.lines))

  at_line : (n ≤ length fault.lines) × (¬ ArePrefix (take n fault.lines)) → ⊥
  at_line (inside, nowhere) = nowhere (prefix_first n fault.lines prefix)

  behind : (n ≡ length fault.lines + 1) × ((fault.rest ≢ []) ⊎ (¬ AreWhole fault.lines)) → ⊥
  behind (last, inl some) = some (sym same.1)
  behind (last, inr open') = open' whole

-- If line `m` is the first faulty line, then no later line is the first faulty line.
never_later : (bytes : List ℕ) (m n : ℕ) → IsSyntaxAt bytes m → IsSyntaxAt bytes n → m < n → ⊥
never_later bytes m n one two less = ⊎_elim at_line behind one.why where
  same : (one.lines ≡ two.lines) × (one.rest ≡ two.rest)
  same = same_lines bytes one.lines two.lines one.rest two.rest one.are two.are

  prefix : ArePrefix (take m one.lines)
  prefix =
      subst (λ (l : Lines). ArePrefix (take m l)) (sym same.0)
      (subst (λ (l : Lines). ArePrefix l) (take-take m (n - 1) two.lines (omega (arith, less))) (prefix_first m (take (n - 1) two.lines) two.before))

  at_line : (m ≤ length one.lines) × (¬ ArePrefix (take m one.lines)) → ⊥
  at_line (inside, nowhere) = nowhere prefix

  behind : (m ≡ length one.lines + 1) × ((one.rest ≢ []) ⊎ (¬ AreWhole one.lines)) → ⊥
  behind (last, others) = let within = two.within in let long = ap length same.0 in omega (arith, last, within, long, less)

pub faults_are_one : (bytes : List ℕ) (m n : ℕ) → IsSyntaxAt bytes m → IsSyntaxAt bytes n → m ≡ n
faults_are_one bytes m n one two = ⊎_elim
    (λ less. absurd (never_later bytes m n one two less))
    (λ others. ⊎_elim (λ same. same) (λ more. absurd (never_later bytes n m two one more)) others)
    (less_same_more m n)
