-- Parsing of a certificate, line by line.
use Rattle.std.proofs.Common.{ℕ, zero, suc, ◌≤◌, ◌+◌, ◌-◌, ◌≡◌, ◌∙◌, ⊎_elim, inl, inr, Bool, false, List, [], ◌∷◌, ◌++◌, length, Option, Some, None, refl, sym, ap, subst, arith, zero-add, length-append, append_assoc, take, drop}
use Rattle.std.specs.Prelude.{All, IfSome, is_some, not, map, codes, decimal, slice_get}
use Rattle.std.proofs.lemmas.Bool.{false≢true}
use Rattle.std.proofs.lemmas.List.{append-nil, map-append, length_push, length-drop, take_rest}
use Rattle.std.proofs.lemmas.List.Concat.{flat_map-append}
use Rattle.std.proofs.lemmas.List.Elements.{All-head, All-push}
use Rattle.std.proofs.lemmas.Option.{slice_get_within}
use Rattle.cert_format.specs.declared.section.Section.{Section}
use Rattle.cert_format.specs.declared.section.Section.TheVariants as sections
use Rattle.cert_format.specs.declared.certificate_reader.CertificateReading.{CertificateReading}
use Rattle.cert_format.specs.Increasing.{AreIncreasing, IsAbove}
use Rattle.cert_format.specs.CertificateNumbers.{IsNumber}
use Rattle.cert_format.specs.Format.{IsStated, AreStated, pair_line, pair_lines, head_line, section_lines, lines_from, text_of, IsCertificate, ArePrefix, AreWhole, IsSyntaxAt}
use Rattle.cert_format.specs.CertificateReading.{BeginsAt, IsCut, AreNumbers, IsPairLine, IsHead, IsNoHead, HasOneMore, HasNoMore, open_lines, lines_read, IsReading, IsAt, GoesOnByLine, GoesNowhere}
use Rattle.cert_format.specs.PairRuns.{HasMorePairs, HasReadMore}
use Rattle.cert_format.proofs.SectionLemmas.{increasing_push}
use Rattle.cert_format.proofs.CertificateTextLemmas.{pair_is_one, Agree, verdicts_agree, head_reports_verdict}
use Rattle.cert_format.proofs.CertificateLineLemmas.{nil_is_no_cons, first_is, rest_is, HasPair, pairs_go_on, pairs_have_end, Begin, begin_with, lines_from-push}
use Rattle.cert_format.proofs.CertificateFaultLemmas.{fault_at_line, fault_behind}

abbrev Lines : Type 0
Lines = List (List ℕ)

-- ---- pairs

at_push : (pairs : List (ℕ × ℕ)) (pair : ℕ × ℕ) (rest : List (ℕ × ℕ)) → slice_get (pairs ++ (pair ∷ rest)) (length pairs) ≡ Some pair
at_push [] pair rest = refl
at_push (p ∷ pairs) pair rest = at_push pairs pair rest

at_before : (pairs others : List (ℕ × ℕ)) (k : ℕ) (one : ℕ × ℕ) → slice_get pairs k ≡ Some one → slice_get (pairs ++ others) k ≡ Some one
at_before [] others k one at = absurd (let inside = slice_get_within [] k one at in omega (arith, inside))
at_before (p ∷ pairs) others zero one at = at
at_before (p ∷ pairs) others (suc k) one at = at_before pairs others k one at

-- If a list of pairs is increasing, then each pair is above the pairs before it.
next_is_above : (pairs : List (ℕ × ℕ)) (pair : ℕ × ℕ) (rest : List (ℕ × ℕ)) → AreIncreasing (pairs ++ (pair ∷ rest)) → IsAbove pairs pair
next_is_above pairs pair rest increasing k one at =
    increasing k (length pairs) one pair (slice_get_within pairs k one at) (at_before pairs (pair ∷ rest) k one at) (at_push pairs pair rest)

all_at : (pairs : List (ℕ × ℕ)) (pair : ℕ × ℕ) (rest : List (ℕ × ℕ)) → All AreNumbers (pairs ++ (pair ∷ rest)) → AreNumbers pair
all_at [] pair rest all = All-head AreNumbers pair rest all
all_at (p ∷ pairs) pair rest all = all_at pairs pair rest (λ k d inside. all (suc k) d (omega (arith, inside)))

-- If a pair is larger than all pairs of an open entry, then the pair can be added to the entry.
pub has_one_more :
    (pairs longer : List (ℕ × ℕ)) (pair : ℕ × ℕ) (line : List ℕ) → IsStated (sections.Pairs pairs) → IsAbove pairs pair
    → IsPairLine line pair → longer ≡ pairs ++ pair ∷ [] → HasOneMore (sections.Pairs pairs) line (sections.Pairs longer)
has_one_more pairs longer pair line own above is more = record {
  stated = (
    subst AreIncreasing (sym more) (increasing_push pairs pair own.0 above),
    subst (λ (z : List (ℕ × ℕ)). All AreNumbers z) (sym more) (All-push AreNumbers pairs pair own.1 is.0),
  );
  encoded = ap (map pair_line) more
      ∙ (map-append pair_line pairs (pair ∷ []) ∙ ap (λ (l : List ℕ). map pair_line pairs ++ l ∷ []) (sym is.1));
  same = refl;
}

pub no_longer :
    (pairs : List (ℕ × ℕ)) (pair : ℕ × ℕ) (line : List ℕ) → IsPairLine line pair → ¬ IsAbove pairs pair → HasNoMore (sections.Pairs pairs) line
no_longer pairs pair line own below other above is =
    below (subst (λ (p : ℕ × ℕ). IsAbove pairs p) (pair_is_one other pair is.0 own.0 (sym is.1 ∙ own.1)) above)

-- ---- states

module _ (whole : List Section) (stated : AreStated whole) where
  abbrev n : ℕ
  n = length whole

  -- If a certificate begins with the lines of the complete entries, then the certificate's entries
  -- begin with the complete entries.
  rest_of : (all : List Section) → AreStated all → (more : Lines) → lines_from 0 all ≡ lines_from 0 whole ++ more → Begin 0 whole all more
  rest_of all others more is = begin_with 0 whole all stated.stated others.stated more is

  all_behind : (xs ys : List Section) → All IsStated (xs ++ ys) → All IsStated ys
  all_behind [] ys all = all
  all_behind (x ∷ xs) ys all = all_behind xs ys (λ k d inside. all (suc k) d (omega (arith, inside)))

  -- If a certificate's entries begin with the complete entries, then the entry after the complete
  -- entries can be written.
  next_stated : (all : List Section) → AreStated all → (section : Section) (rest : List Section) → all ≡ whole ++ (section ∷ rest) → IsStated section
  next_stated all others section rest is =
      All-head IsStated section rest (all_behind whole (section ∷ rest) (subst (λ (s : List Section). All IsStated s) is others.stated))

  next_number : (all : List Section) → AreStated all → (section : Section) (rest : List Section) → all ≡ whole ++ (section ∷ rest) → IsNumber (length whole)
  next_number all others section rest is =
      let few = others.few in
      let long = ap length is ∙ length-append whole (section ∷ rest) in
      omega (arith, few, long)

  -- ---- prefixes of certificates

  pub whole_is_prefix : ArePrefix (lines_from 0 whole ++ [])
  whole_is_prefix = (whole, [], stated, sym (append-nil (lines_from 0 whole)) ∙ sym (append-nil (lines_from 0 whole ++ [])))

  pushed : (section : Section) → IsStated section → IsNumber (length whole) → AreStated (whole ++ section ∷ [])
  pushed section own number = record {
    stated = All-push IsStated whole section stated.stated own;
    few = let long = length_push whole section in omega (arith, long, number);
  }

  pushed_lines :
      (section : Section) → lines_from 0 (whole ++ section ∷ []) ≡ (lines_from 0 whole ++ (head_line (length whole) section ∷ pair_lines section)) ++ codes "end" ∷ []
  pushed_lines section =
      lines_from-push 0 whole section
      ∙ (ap (λ (k : ℕ). lines_from 0 whole ++ section_lines k section) (zero-add (length whole))
      ∙ sym (append_assoc (lines_from 0 whole) (head_line (length whole) section ∷ pair_lines section) (codes "end" ∷ [])))

  pub open_is_prefix :
      (section : Section) → IsStated section → IsNumber (length whole) → ArePrefix (lines_from 0 whole ++ (head_line (length whole) section ∷ pair_lines section))
  open_is_prefix section own number = (whole ++ section ∷ [], codes "end" ∷ [], pushed section own number, pushed_lines section)

  -- ---- one more line

  pub opened : (section : Section) (line : List ℕ) → IsHead (length whole) line section → GoesOnByLine (record { whole = whole; begun = None }) line (record { whole = whole; begun = Some section })
  opened section line head = record {
    is = record { stated = stated; opened = (head.stated, head.number) };
    lines =
        ap (λ (l : Lines). lines_from 0 whole ++ l)
        (ap (λ (l : Lines). head_line (length whole) section ∷ l) head.no_pair ∙ ap (λ (l : List ℕ). l ∷ []) (sym head.encoded))
        ∙ ap (λ (l : Lines). l ++ line ∷ []) (sym (append-nil (lines_from 0 whole)));
  }

  pub closed :
      (section : Section) (line : List ℕ) (longer : List Section) → IsStated section → IsNumber (length whole) → line ≡ codes "end" → longer ≡ whole ++ section ∷ []
      → GoesOnByLine (record { whole = whole; begun = Some section }) line (record { whole = longer; begun = None })
  closed section line longer own number end is = record {
    is = record { stated = subst (λ (s : List Section). AreStated s) (sym is) (pushed section own number); opened = tt };
    lines =
        append-nil (lines_from 0 longer)
        ∙ (ap (λ (s : List Section). lines_from 0 s) is
        ∙ (pushed_lines section
        ∙ ap (λ (l : List ℕ). (lines_from 0 whole ++ (head_line (length whole) section ∷ pair_lines section)) ++ l ∷ []) (sym end)));
  }

  pub grown :
      (section longer : Section) (line : List ℕ) → IsNumber (length whole) → HasOneMore section line longer
      → GoesOnByLine (record { whole = whole; begun = Some section }) line (record { whole = whole; begun = Some longer })
  grown section longer line number has = record {
    is = record { stated = stated; opened = (has.stated, number) };
    lines =
        ap (λ (l : Lines). lines_from 0 whole ++ l)
        (ap (λ (v : List ℕ). (codes "value " ++ (decimal (length whole) ++ (codes " " ++ v))) ∷ pair_lines longer) has.same
        ∙ ap (λ (l : Lines). head_line (length whole) section ∷ l) has.encoded)
        ∙ sym (append_assoc (lines_from 0 whole) (head_line (length whole) section ∷ pair_lines section) (line ∷ []));
  }

  -- ---- a line with which no certificate continues

  pub no_head : (line : List ℕ) → IsNoHead (length whole) line → GoesNowhere (record { whole = whole; begun = None }) line
  no_head line none (all, more, others, is) =
      by_rest begin.rest begin.is begin.lines where
        begin : Begin 0 whole all (line ∷ more)
        begin =
            rest_of all others (line ∷ more)
            (is ∙ (append_assoc (lines_from 0 whole ++ []) (line ∷ []) more ∙ ap (λ (l : Lines). l ++ (line ∷ more)) (append-nil (lines_from 0 whole))))

        by_rest : (rest : List Section) → all ≡ whole ++ rest → lines_from (0 + length whole) rest ≡ line ∷ more → ⊥
        by_rest [] whole' lines = nil_is_no_cons _ _ lines
        by_rest (section ∷ rest) whole' lines =
            none (next_number all others section rest whole') section (next_stated all others section rest whole')
            (sym (first_is _ _ _ _ lines) ∙ ap (λ (k : ℕ). head_line k section) (zero-add (length whole)))

  -- The lines after the complete entries, if the entry `section` is open.
  module _ (section : Section) (own : IsStated section) where
    -- The first entry after the complete entries has the verdict and the lines of the open entry.
    record IsNext (more : Lines) : Type 0 where
      next : Section
      stated' : IsStated next
      agree : Agree next section
      behind : Lines
      lines : pair_lines next ++ (codes "end" ∷ behind) ≡ pair_lines section ++ more

    next_is : (all : List Section) → AreStated all → (more : Lines)
        → lines_from 0 all ≡ lines_from 0 whole ++ (head_line (length whole) section ∷ (pair_lines section ++ more)) → IsNext more
    next_is all others more is = by_rest begin.rest begin.is begin.lines where
      begin : Begin 0 whole all (head_line (length whole) section ∷ (pair_lines section ++ more))
      begin = rest_of all others (head_line (length whole) section ∷ (pair_lines section ++ more)) is

      by_rest : (rest : List Section) → all ≡ whole ++ rest
          → lines_from (0 + length whole) rest ≡ head_line (length whole) section ∷ (pair_lines section ++ more) → IsNext more
      by_rest [] whole' lines = absurd (nil_is_no_cons _ _ lines)
      by_rest (next ∷ rest) whole' lines =
          let its = next_stated all others next rest whole' in
          let head : head_line (length whole) next ≡ head_line (length whole) section =
          ap (λ (k : ℕ). head_line k next) (sym (zero-add (length whole))) ∙ first_is _ _ _ _ lines in
          record {
            next = next;
            stated' = its;
            agree = verdicts_agree next section its own (head_reports_verdict (length whole) next section head);
            behind = lines_from (suc (0 + length whole)) rest;
            lines = sym (append_assoc (pair_lines next) (codes "end" ∷ []) (lines_from (suc (0 + length whole)) rest)) ∙ rest_is _ _ _ _ lines;
          }

  no_more_here :
      (section next : Section) (line : List ℕ) (behind more : Lines) → IsStated section → IsStated next → Agree next section
      → (line ≡ codes "end" → ⊥) → HasNoMore section line → pair_lines next ++ (codes "end" ∷ behind) ≡ pair_lines section ++ (line ∷ more) → ⊥
  no_more_here (sections.Pairs pairs) (sections.Pairs others) line behind more one two agree other none is =
      ⊎_elim other of_pair (pairs_go_on pairs others one.1 two.1 line behind more is) where
        of_pair : HasPair pairs others line → ⊥
        of_pair has =
            none has.pair (next_is_above pairs has.pair has.rest (subst AreIncreasing has.is two.0))
            (all_at pairs has.pair has.rest (subst (λ (ps : List (ℕ × ℕ)). All AreNumbers ps) has.is two.1), has.encoded)
  no_more_here (sections.Pairs pairs) (sections.Mismatch path) line behind more one two agree other none is = agree
  no_more_here (sections.Pairs pairs) (sections.Conflict first second) line behind more one two agree other none is = agree
  no_more_here (sections.Mismatch path) (sections.Pairs pairs) line behind more one two agree other none is = agree
  no_more_here (sections.Mismatch path) (sections.Mismatch its) line behind more one two agree other none is = other (sym (first_is _ _ _ _ is))
  no_more_here (sections.Mismatch path) (sections.Conflict first second) line behind more one two agree other none is = agree
  no_more_here (sections.Conflict first second) (sections.Pairs pairs) line behind more one two agree other none is = agree
  no_more_here (sections.Conflict first second) (sections.Mismatch path) line behind more one two agree other none is = agree
  no_more_here (sections.Conflict first second) (sections.Conflict its others) line behind more one two agree other none is =
      other (sym (first_is _ _ _ _ is))

  pub no_more :
      (section : Section) (line : List ℕ) → IsStated section → (line ≡ codes "end" → ⊥) → HasNoMore section line
      → GoesNowhere (record { whole = whole; begun = Some section }) line
  no_more section line own other none (all, more, others, is) =
      no_more_here section next.next line next.behind more own next.stated' next.agree other none next.lines where
        next : IsNext section own (line ∷ more)
        next =
            next_is section own all others (line ∷ more)
            (is
            ∙ (append_assoc (lines_from 0 whole ++ (head_line (length whole) section ∷ pair_lines section)) (line ∷ []) more
            ∙ append_assoc (lines_from 0 whole) (head_line (length whole) section ∷ pair_lines section) (line ∷ more)))

  never_whole_here : (section next : Section) (behind : Lines) → Agree next section → pair_lines next ++ (codes "end" ∷ behind) ≡ pair_lines section ++ [] → ⊥
  never_whole_here (sections.Pairs pairs) (sections.Pairs others) behind agree is = pairs_have_end pairs others behind (is ∙ append-nil (map pair_line pairs))
  never_whole_here (sections.Pairs pairs) (sections.Mismatch path) behind agree is = agree
  never_whole_here (sections.Pairs pairs) (sections.Conflict first second) behind agree is = agree
  never_whole_here (sections.Mismatch path) (sections.Pairs pairs) behind agree is = agree
  never_whole_here (sections.Mismatch path) (sections.Mismatch its) behind agree is = nil_is_no_cons _ _ (sym is)
  never_whole_here (sections.Mismatch path) (sections.Conflict first second) behind agree is = agree
  never_whole_here (sections.Conflict first second) (sections.Pairs pairs) behind agree is = agree
  never_whole_here (sections.Conflict first second) (sections.Mismatch path) behind agree is = agree
  never_whole_here (sections.Conflict first second) (sections.Conflict its others) behind agree is = nil_is_no_cons _ _ (sym is)

  -- A certificate does not end in an open entry.
  pub never_whole : (section : Section) → IsStated section → ¬ AreWhole (lines_from 0 whole ++ (head_line (length whole) section ∷ pair_lines section))
  never_whole section own (all, others, is) = never_whole_here section next.next next.behind next.agree next.lines where
    next : IsNext section own []
    next =
        next_is section own all others []
        (is ∙ ap (λ (l : Lines). lines_from 0 whole ++ (head_line (length whole) section ∷ l)) (sym (append-nil (pair_lines section))))

-- ---- the whole state

begun_is :
    (reading : CertificateReading) (section : Section) → IsReading reading → reading.begun ≡ Some section → IsStated section × IsNumber (length reading.whole)
begun_is reading section is some =
    subst (λ (o : Option Section). IfSome o (λ s. IsStated s × IsNumber (length reading.whole))) some is.opened

pub reading_closed :
    (reading : CertificateReading) (section : Section) (line : List ℕ) (longer : List Section) → IsReading reading → reading.begun ≡ Some section
    → line ≡ codes "end" → longer ≡ reading.whole ++ section ∷ [] → GoesOnByLine reading line (record { whole = longer; begun = None })
reading_closed reading section line longer is some end more =
    let own = begun_is reading section is some in
    subst (λ (o : Option Section). GoesOnByLine (record { whole = reading.whole; begun = o }) line (record { whole = longer; begun = None })) (sym some)
    (closed reading.whole is.stated section line longer own.0 own.1 end more)

pub reading_without_head :
    (reading : CertificateReading) (line : List ℕ) → IsReading reading → reading.begun ≡ None → IsNoHead (length reading.whole) line → GoesNowhere reading line
reading_without_head reading line is none without =
    subst (λ (o : Option Section). GoesNowhere (record { whole = reading.whole; begun = o }) line) (sym none)
    (no_head reading.whole is.stated line without)

pub reading_without_more :
    (reading : CertificateReading) (section : Section) (line : List ℕ) → IsReading reading → reading.begun ≡ Some section → (line ≡ codes "end" → ⊥)
    → HasNoMore section line → GoesNowhere reading line
reading_without_more reading section line is some other without =
    subst (λ (o : Option Section). GoesNowhere (record { whole = reading.whole; begun = o }) line) (sym some)
    (no_more reading.whole is.stated section line (begun_is reading section is some).0 other without)

-- ---- a run of pairs

pub run_read :
    (reading : CertificateReading) (pairs longer : List (ℕ × ℕ)) (text : List ℕ) (many taken : ℕ) → IsReading reading
    → reading.begun ≡ Some (sections.Pairs pairs) → AreIncreasing longer → HasMorePairs pairs text longer many taken
    → HasReadMore reading text (record { whole = reading.whole; begun = Some (sections.Pairs longer) }) many taken
run_read reading pairs longer text many taken is some increasing more = record {
  is = record { stated = is.stated; opened = ((increasing, more.numbers), own.1) };
  lines = map pair_line more.added;
  read =
      ap (λ (z : List (ℕ × ℕ)). lines_from 0 reading.whole ++ (head_line (length reading.whole) (sections.Pairs pairs) ∷ map pair_line z)) more.is
      ∙ (ap (λ (z : Lines). lines_from 0 reading.whole ++ (head_line (length reading.whole) (sections.Pairs pairs) ∷ z)) (map-append pair_line pairs more.added)
      ∙ (sym (append_assoc (lines_from 0 reading.whole) (head_line (length reading.whole) (sections.Pairs pairs) ∷ map pair_line pairs) (map pair_line more.added))
      ∙ ap (λ (o : Option Section). (lines_from 0 reading.whole ++ open_lines (length reading.whole) o) ++ map pair_line more.added) (sym some)));
  begins = more.begins;
} where
  own : IsStated (sections.Pairs pairs) × IsNumber (length reading.whole)
  own = begun_is reading (sections.Pairs pairs) is some

pub nothing_read :
    (reading : CertificateReading) (begun' : Option Section) (text : List ℕ) → IsReading reading → reading.begun ≡ begun'
    → HasReadMore reading text (record { whole = reading.whole; begun = begun' }) 0 0
nothing_read reading begun' text is same =
    subst (λ (o : Option Section). HasReadMore reading text (record { whole = reading.whole; begun = o }) 0 0) same (record {
      is = is;
      lines = [];
      read = sym (append-nil (lines_read reading));
      begins = record { counted = refl; within = omega arith; few = omega arith; encoded = refl };
    })

-- ---- all of the lines

-- Some certificate begins with the parsed lines, with an open entry or without.
pub prefix_of : (whole : List Section) (begun' : Option Section) → IsReading (record { whole = whole; begun = begun' }) → ArePrefix (lines_read (record { whole = whole; begun = begun' }))
prefix_of whole None is = whole_is_prefix whole is.stated
prefix_of whole (Some section) is = open_is_prefix whole is.stated section is.opened.0 is.opened.1

-- If the remaining bytes are not empty, then they begin with a line feed.
behind_feed : (rest : List ℕ) → BeginsAt 10 rest → (rest ≡ [] → ⊥) → rest ≡ 10 ∷ drop 1 rest
behind_feed rest (inl none) some = absurd (some none)
behind_feed rest (inr (more, is)) some = is ∙ ap (λ (z : List ℕ). 10 ∷ drop 1 z) (sym is)

pub lines_more : (xs ys : Lines) → text_of xs ++ text_of ys ≡ text_of (xs ++ ys)
lines_more xs ys = sym (flat_map-append (λ (l : List ℕ). l ++ 10 ∷ []) xs ys)

-- Each line has a line feed, so a text has at most as many lines as bytes.
pub lines_few : (lines : Lines) → length lines ≤ length (text_of lines)
lines_few [] = omega arith
lines_few (line ∷ lines) =
    let next = lines_few lines in
    let both = length-append (line ++ 10 ∷ []) (text_of lines) in
    let one = length-append line (10 ∷ []) in
    omega (arith, next, both, one)

-- The state after the lines at the start of the bytes, with the next line split off.
pub at_begin :
    (from longer : CertificateReading) (text : List ℕ) (many taken : ℕ) (line rest : List ℕ) → HasReadMore from text longer many taken
    → IsCut (take (length text - taken) (drop taken text)) 10 line rest
    → IsAt (text_of (lines_read from) ++ text) longer (length (lines_read from) + many) line rest
at_begin from longer text many taken line rest run slice = record {
  is = run.is;
  counted =
      let size = ap length run.read ∙ length-append (lines_read from) run.lines in
      let counted = run.begins.counted in
      omega (arith, size, counted);
  few =
      let prefix = lines_few (lines_read from) in
      let both = length-append (text_of (lines_read from)) text in
      let left = length-drop taken text in
      let parts = ap length cut.whole ∙ length-append line rest in
      let within = run.begins.within in
      let few = run.begins.few in
      omega (arith, prefix, both, left, parts, within, few);
  encoded =
      ap (λ (z : List ℕ). text_of (lines_read from) ++ z) (run.begins.encoded ∙ ap (λ (z : List ℕ). text_of run.lines ++ z) cut.whole)
      ∙ (sym (append_assoc (text_of (lines_read from)) (text_of run.lines) (line ++ rest))
      ∙ ap (λ (z : List ℕ). z ++ (line ++ rest)) (lines_more (lines_read from) run.lines ∙ ap text_of (sym run.read)));
  none = cut.none;
  begins = cut.begins;
} where
  cut : IsCut (drop taken text) 10 line rest
  cut = subst (λ (z : List ℕ). IsCut z 10 line rest) (take_rest text taken) slice

-- The number of parsed lines and the number of remaining bytes are together at most the number of
-- bytes.
pub few_begin :
    (from longer : CertificateReading) (text : List ℕ) (many taken : ℕ) (line rest : List ℕ) → HasReadMore from text longer many taken
    → IsCut (take (length text - taken) (drop taken text)) 10 line rest → many + length rest ≤ length text
few_begin from longer text many taken line rest run slice =
    let same = ap length (take_rest text taken) in
    let left = length-drop taken text in
    let parts = ap length slice.whole ∙ length-append line rest in
    let within = run.begins.within in
    let few = run.begins.few in
    omega (arith, same, left, parts, within, few)

module _ (bytes : List ℕ) (reading : CertificateReading) (lines : ℕ) (line rest : List ℕ) (at : IsAt bytes reading lines line rest) where
  prefix : ArePrefix (lines_read reading)
  prefix = prefix_of reading.whole reading.begun at.is

  -- The state after a complete line and some lines after it.
  pub at_next :
      (next far : CertificateReading) (many taken : ℕ) (line' rest' : List ℕ) → (rest ≡ [] → ⊥) → GoesOnByLine reading line next
      → HasReadMore next (drop 1 rest) far many taken → IsCut (drop taken (drop 1 rest)) 10 line' rest'
      → IsAt bytes far (lines + 1 + many) line' rest'
  at_next next far many taken line' rest' some goes run cut = record {
    is = run.is;
    counted =
        let counted = at.counted in
        let long = ap length goes.lines ∙ length_push (lines_read reading) line in
        let more = run.begins.counted in
        let far' = ap length run.read ∙ length-append (lines_read next) run.lines in
        omega (arith, counted, long, more, far');
    few =
        let few = at.few in
        let long = ap length feed in
        let both = ap length cut.whole ∙ length-append line' rest' in
        let within = run.begins.within in
        let few' = run.begins.few in
        let short = length-drop taken (drop 1 rest) in
        omega (arith, few, long, both, within, few', short);
    encoded =
        at.encoded
        ∙ (ap (λ (z : List ℕ). text_of (lines_read reading) ++ (line ++ z)) feed
        ∙ (ap (λ (z : List ℕ). text_of (lines_read reading) ++ z) (sym one)
        ∙ (sym (append_assoc (text_of (lines_read reading)) (text_of (line ∷ [])) (drop 1 rest))
        ∙ (ap (λ (z : List ℕ). z ++ drop 1 rest) (lines_more (lines_read reading) (line ∷ []) ∙ ap text_of (sym goes.lines))
        ∙ (ap (λ (z : List ℕ). text_of (lines_read next) ++ z) (run.begins.encoded ∙ ap (λ (z : List ℕ). text_of run.lines ++ z) cut.whole)
        ∙ (sym (append_assoc (text_of (lines_read next)) (text_of run.lines) (line' ++ rest'))
        ∙ ap (λ (z : List ℕ). z ++ (line' ++ rest')) (lines_more (lines_read next) run.lines ∙ ap text_of (sym run.read))))))));
    none = cut.none;
    begins = cut.begins;
  } where
    feed : rest ≡ 10 ∷ drop 1 rest
    feed = behind_feed rest at.begins some

    one : text_of (line ∷ []) ++ drop 1 rest ≡ line ++ (10 ∷ drop 1 rest)
    one = ap (λ (z : List ℕ). z ++ drop 1 rest) (append-nil (line ++ 10 ∷ [])) ∙ append_assoc line (10 ∷ []) (drop 1 rest)

  -- If no certificate continues with a complete line, then that line is the first faulty line,
  -- whatever bytes follow.
  pub faulty_line : (later : List ℕ) → (rest ≡ [] → ⊥) → GoesNowhere reading line → IsSyntaxAt (bytes ++ later) (lines + 1)
  faulty_line later some nowhere =
      subst (λ (n : ℕ). IsSyntaxAt (bytes ++ later) (n + 1)) (sym at.counted)
      (fault_at_line (bytes ++ later) (lines_read reading) line (drop 1 rest ++ later)
      (ap (λ (z : List ℕ). z ++ later) (at.encoded ∙ ap (λ (z : List ℕ). text_of (lines_read reading) ++ (line ++ z)) (behind_feed rest at.begins some))
      ∙ (append_assoc (text_of (lines_read reading)) (line ++ 10 ∷ drop 1 rest) later
      ∙ ap (λ (z : List ℕ). text_of (lines_read reading) ++ z) (append_assoc line (10 ∷ drop 1 rest) later)))
      prefix at.none nowhere)

  last_line : rest ≡ [] → bytes ≡ text_of (lines_read reading) ++ line
  last_line none = at.encoded ∙ ap (λ (z : List ℕ). text_of (lines_read reading) ++ z) (ap (λ (z : List ℕ). line ++ z) none ∙ append-nil line)

  pub unended : rest ≡ [] → (line ≡ [] → ⊥) → IsSyntaxAt bytes (lines + 1)
  unended none some =
      subst (λ (n : ℕ). IsSyntaxAt bytes (n + 1)) (sym at.counted)
      (fault_behind bytes (lines_read reading) line (last_line none) prefix at.none (inl some))

  pub unclosed : rest ≡ [] → (section : Section) → reading.begun ≡ Some section → IsSyntaxAt bytes (lines + 1)
  unclosed none section is =
      subst (λ (n : ℕ). IsSyntaxAt bytes (n + 1)) (sym at.counted)
      (fault_behind bytes (lines_read reading) line (last_line none) prefix at.none (inr open_at_end)) where
        own : IfSome (Some section) (λ s. IsStated s × IsNumber (length reading.whole))
        own = subst (λ (o : Option Section). IfSome o (λ s. IsStated s × IsNumber (length reading.whole))) is at.is.opened

        open_at_end : ¬ AreWhole (lines_read reading)
        open_at_end =
            subst (λ (o : Option Section). ¬ AreWhole (lines_from 0 reading.whole ++ open_lines (length reading.whole) o)) (sym is)
            (never_whole reading.whole at.is.stated section own.0)

  some_of : {A : Type 0} (o : Option A) (test : Bool) → is_some o ≡ not test → test ≡ false → (x : A) × (o ≡ Some x)
  some_of None test is no' = absurd (false≢true (is ∙ ap not no'))
  some_of (Some x) test is no' = (x, refl)

  pub unclosed_by_test : rest ≡ [] → (test : Bool) → is_some reading.begun ≡ not test → test ≡ false → IsSyntaxAt bytes (lines + 1)
  unclosed_by_test none test is no' = let some = some_of reading.begun test is no' in unclosed none some.0 some.1

  pub all_read : rest ≡ [] → line ≡ [] → reading.begun ≡ None → IsCertificate bytes reading.whole
  all_read none empty' is = record {
    stated = at.is.stated;
    encoded =
        last_line none
        ∙ (ap (λ (z : List ℕ). text_of (lines_read reading) ++ z) empty'
        ∙ (append-nil (text_of (lines_read reading))
        ∙ ap text_of
        (ap (λ (o : Option Section). lines_from 0 reading.whole ++ open_lines (length reading.whole) o) is ∙ append-nil (lines_from 0 reading.whole))));
  }
