-- From the header through the tokens to the mismatch.
use Rattle.std.proofs.Common.{ℕ, ◌+◌, ◌<◌, ◌≤◌, ◌≡◌, ◌∙◌, ◌⊎◌, ⊎_elim, take-add, Bool, true, false, List, [], ◌∷◌, ◌++◌, length, take, drop, map, Option, Some, refl, sym, ap, subst, subst₂, arith}
use Rattle.std.specs.Prelude.{slice_get, Contains, All}
use Rattle.std.specs.Global.{Vec}
use Rattle.std.specs.List.{concat}
use Rattle.std.proofs.lemmas.List.{length-take-le, length-append, length-drop, take-append-le}
use Rattle.std.proofs.lemmas.List.Elements.{All-nil, All-head, All-tail, All-push}
use Rattle.std.proofs.lemmas.Option.{none-some}
use Rattle.base_data.proofs.model.Options.{Contains-none}
use Rattle.base_data.specs.declared.model.header.Head.{Head}
use Rattle.types_spec.specs.types.Table.{Table, table_shapes}
use Rattle.types_spec.specs.types.LawfulShapes.{AreLawful, Everything}
use Rattle.marshal_spec.specs.format.Words.{of_object, words32, words64, all_words32, all_words64}
use Rattle.marshal_spec.specs.format.Header.{magic, small_magic, big_magic, header_length, head_of}
use Rattle.marshal_spec.specs.format.Token.{measure_of}
use Rattle.marshal_spec.specs.format.Tree.{RefersBack}
use Rattle.marshal_spec.specs.format.Encoded.{IsNoReference}
use Rattle.marshal_spec.proofs.format.TokenStepLemmas.{magic-take, header_length-take, header_length-from, head_of-take}
use Rattle.check_stream.specs.mismatch_theory.PassedBut.{OpenPosition, MadeObject, Missed, made_in, values_at}
use Rattle.check_stream.specs.mismatch_theory.MissedPrefix.{IsPassingBut}
use Rattle.check_stream.proofs.mismatch_theory.MismatchStatedLemmas.{one_missed_prefixes, but_start, but_further}
use Rattle.check_stream.proofs.mismatch_theory.MismatchPlainLemmas.{plain_more}
use Rattle.check_stream.specs.checker.Again.{AreMarks}
use Rattle.check_stream.proofs.checker.AgainLemmas.{marks_more, marks_push, no_marks}
use Rattle.check_stream.specs.declared.checker.stated_words.Words.{Words}
use Rattle.check_stream.specs.checker.CheckerState.{BeginsAs, stated32}
use Rattle.check_stream.proofs.checker.CheckerRunLemmas.{words32_push, words64_push, words32_stated, start_from}
use Rattle.check_stream.specs.declared.mismatch_search.reference_targets.Again.{Again}
use Rattle.check_stream.specs.declared.mismatch_search.mismatch.FoundMismatch.{FoundMismatch}
use Rattle.check_stream.specs.declared.mismatch_search.mismatch.Finding.{Finding}
use Rattle.marshal_codec.specs.declared.token.summary.Summary.{Summary}
use Rattle.check_stream.specs.declared.mismatch_search.second.SecondReads.{SecondReads}
use Rattle.check_stream.specs.declared.mismatch_search.way.Expectation.{Expectation}
use Rattle.check_stream.specs.declared.mismatch_search.way.Link.{Link}
use Rattle.marshal_codec.specs.token.Summary.{IsSummaryBy}
use Rattle.check_stream.specs.declared.mismatch_search.way.Way.{Way}
use Rattle.check_stream.specs.mismatch_search.SearchTrail.{trail_of, trail_in, position_of, way_positions, left_values, IsWay}
use Rattle.check_stream.specs.mismatch_search.Find.{AreTypes, AreMarked, IsAlone, IsMissedAt, AreMissedAt, LeadsSearch, BeginsSearch, LeadsTo, Comes, Follows, EndsSearch, IsFound}
use Rattle.check_stream.specs.mismatch_search.Second.{Knows, MarksOffset}
use Rattle.check_stream.proofs.mismatch_search.ComesLemmas.{many_held}
use Rattle.check_stream.proofs.mismatch_search.MismatchSearchWayLemmas.{way_many}

-- ---- the header

pub finds_start :
    (table : Table) (limit : ℕ) (bytes : List ℕ) (head : Head) (start : ℕ) (finding : Finding) → BeginsAs limit bytes head → ((head.big ≡ true) × (start ≡ 32)) ⊎ ((head.big ≡ false) × (start ≡ 20)) → BeginsSearch head finding
    → LeadsSearch table limit bytes head start start [] finding
finds_start table limit bytes head start finding b by begins =
    let start' : start ≡ header_length bytes = start_from limit bytes head start b by in
    let from = header_length-from bytes in
    let within' : start ≤ length bytes = let whole = b.whole in omega (arith, start', whole) in
    let long : length (take start bytes) ≡ start = length-take-le start bytes within' in
    let same_magic : magic (take start bytes) ≡ magic bytes = magic-take start bytes (let least = from.0 in omega (arith, least, start')) in
    let same_length : header_length (take start bytes) ≡ header_length bytes = header_length-take start bytes (let least = from.0 in omega (arith, least, start')) in
    let same_head : head_of (take start bytes) ≡ head = head_of-take start bytes (omega (arith, start')) ∙ sym b.head_is in
    let w32' = begins.w32 in
    let w64' = begins.w64 in
    record {
      tokens = [];
      back = [];
      made = [];
      missed = [];
      passing = subst (λ ps. IsPassingBut [] table limit bytes head start start [] [] ps []) (sym begins.positions)
          (but_start table limit bytes head start within' (record { magic_is = subst (λ m. (m ≡ small_magic) ⊎ (m ≡ big_magic)) (sym same_magic) b.magic_is; whole = long ∙ start' ∙ sym same_length }) same_head long b.words b.small);
      held = record {
        is_way = begins.is_way;
        types = (begins.types, λ o t trail at. let object : MadeObject = record { type = Some t; trail = trail } in absurd (none-some object at));
        marked = λ o among. absurd (Contains-none {X = ℕ} o among);
        found = subst (λ f. AreMissedAt f []) (sym begins.found) refl;
      };
      known = record {
        marks = subst (λ ms. AreMarks (take start bytes) ms []) (sym begins.seconds.marks) (no_marks (take start bytes) []);
        notes = λ o t among. absurd (Contains-none {X = ℕ × ℕ} (o, t) (subst (λ ns. Contains ns (o, t)) begins.seconds.notes among));
      };
      w32 = omega (arith, w32');
      w64 = omega (arith, w64');
    }

-- If the bytes lead to a state of the search, then the header precedes the tokens.
pub finds_from : (table : Table) (limit : ℕ) (bytes : List ℕ) (head : Head) (start n : ℕ) (taken : List OpenPosition) (finding : Finding) → LeadsSearch table limit bytes head start n taken finding → start ≤ n
finds_from table limit bytes head start n taken finding f =
    let p = f.passing in
    let prefix = length-take-le n bytes p.within in
    let both = length-append p.header (concat p.chunks) in
    let same = ap length p.taken in
    let begins = p.begins in
    omega (arith, prefix, both, same, begins)

-- ---- the search continues

-- If the list of taken and open positions is unchanged, and nothing else changes, then the bytes
-- lead to the new state.
pub finds_moved :
    (table : Table) (limit : ℕ) (bytes : List ℕ) (head : Head) (start n : ℕ) (taken taken' : List OpenPosition) (old new : Finding) → LeadsSearch table limit bytes head start n taken old → IsWay new.way → taken ++ way_positions old.way ≡ taken' ++ way_positions new.way
    → new.types ≡ old.types → new.again ≡ old.again → new.seconds.marks ≡ old.seconds.marks → new.seconds.notes ≡ old.seconds.notes → new.words ≡ old.words → new.found ≡ old.found → LeadsSearch table limit bytes head start n taken' new
finds_moved table limit bytes head start n taken taken' old new f is positions types again marks notes words found = record {
  tokens = f.tokens;
  back = f.back;
  made = f.made;
  missed = f.missed;
  passing = subst (λ ps. IsPassingBut f.back table limit bytes head start n f.tokens f.made ps f.missed) positions f.passing;
  held = record {
    is_way = is;
    types = subst (λ (v : Vec ℕ). AreTypes v.items f.made) (sym types) f.held.types;
    marked = subst (λ (a : Again). AreMarked f.back a.marks.items) (sym again) f.held.marked;
    found = subst (λ o. AreMissedAt o f.missed) (sym found) f.held.found;
  };
  known = record {
    marks = subst (λ (v : Vec ℕ). AreMarks (take n bytes) v.items f.tokens) (sym marks) f.known.marks;
    notes = λ o t among. f.known.notes o t (subst (λ (v : Vec (ℕ × ℕ)). Contains v.items (o, t)) notes among);
  };
  w32 = subst (λ (w : Words). w.w32 + all_words32 (map measure_of f.tokens) ≡ stated32 head) (sym words) f.w32;
  w64 = subst (λ (w : Words). w.w64 + all_words64 (map measure_of f.tokens) ≡ head.w64) (sym words) f.w64;
}

-- If more bytes are appended, then the bytes still lead to the state of the search.
pub finds_longer :
    (table : Table) (limit : ℕ) (bytes more : List ℕ) (head : Head) (start n : ℕ) (taken : List OpenPosition) (finding : Finding) → LeadsSearch table limit bytes head start n taken finding → LeadsSearch table limit (bytes ++ more) head start n taken finding
finds_longer table limit bytes more head start n taken finding f =
    let p = f.passing in
    let within' = p.within in
    let long = length-append bytes more in
    let same : take n bytes ≡ take n (bytes ++ more) = sym (take-append-le n bytes more within') in
    record {
      tokens = f.tokens;
      back = f.back;
      made = f.made;
      missed = f.missed;
      passing = record {
        header = p.header;
        chunks = p.chunks;
        within = omega (arith, within', long);
        is_header = p.is_header;
        head_is = p.head_is;
        begins = p.begins;
        taken = sym same ∙ p.taken;
        encodes = p.encodes;
        refer_back = p.refer_back;
        many = p.many;
        unshared = p.unshared;
        passed = p.passed;
        words = p.words;
        small = p.small;
      };
      held = f.held;
      known = subst (λ prefix. Knows table prefix f.tokens finding.seconds) same f.known;
      w32 = f.w32;
      w64 = f.w64;
    }

-- If the current block has an open position, then a value is pending.
pub some_open : (way : Way) → 0 < left_values way.now.left → 0 < values_at (way_positions way)
some_open way some = let many = way_many way in omega (arith, many, some)

-- ---- a mark

-- If the number of objects before the offset calls for a mark and the offset is marked, then the
-- marks stay valid.
marked_there :
    (table : Table) (limit : ℕ) (bytes : List ℕ) (head : Head) (start n made : ℕ) (finding : Finding) (new : SecondReads) → (f : LeadsSearch table limit bytes head start n [] finding) → made ≡ length finding.types.items → MarksOffset finding.seconds n made new
    → Knows table (take n bytes) f.tokens new
marked_there table limit bytes head start n made finding new f many m =
    let p = f.passing in
    let prefix = take n bytes in
    let here : n ≡ length prefix = sym (length-take-le n bytes p.within) in
    let same : length finding.types.items ≡ length f.made = many_held finding.types.items f.made f.held.types in
    record {
      marks = ⊎_elim
          (λ old. subst (λ ms. AreMarks prefix ms f.tokens) (sym old) f.known.marks)
          (λ more. subst (λ ms. AreMarks prefix ms f.tokens) (sym more.1) (marks_push prefix finding.seconds.marks.items f.tokens n here (p.many ∙ sym same ∙ sym many ∙ more.0) f.known.marks))
          m.marks;
      notes = λ o t among. f.known.notes o t (subst (λ (v : Vec (ℕ × ℕ)). Contains v.items (o, t)) m.notes among);
    }

pub finds_marked :
    (table : Table) (limit : ℕ) (bytes : List ℕ) (head : Head) (start n made : ℕ) (finding : Finding) (seconds : SecondReads) → LeadsSearch table limit bytes head start n [] finding → made ≡ length finding.types.items → MarksOffset finding.seconds n made seconds
    → LeadsSearch table limit bytes head start n [] (record finding { seconds = seconds })
finds_marked table limit bytes head start n made finding seconds f many m = record {
  tokens = f.tokens;
  back = f.back;
  made = f.made;
  missed = f.missed;
  passing = f.passing;
  held = record { is_way = f.held.is_way; types = f.held.types; marked = f.held.marked; found = f.held.found };
  known = marked_there table limit bytes head start n made finding seconds f many m;
  w32 = f.w32;
  w64 = f.w64;
}

-- ---- one more token

-- If one more token leads to a state, then the bytes up to the end of the token lead to the state.
finds_led :
    (table : Table) (limit : ℕ) (bytes : List ℕ) (head : Head) (start n m : ℕ) (taken : List OpenPosition) (old new : Finding) (summary : Summary) → (f : LeadsSearch table limit bytes head start n taken old) → (by : IsSummaryBy (drop n bytes) summary m)
    → LeadsTo f.back table (take n bytes) f.tokens f.made by.token new → RefersBack by.token (length old.types.items) × (head.objects ≡ 0 → IsNoReference by.token)
    → new.words.w32 + of_object words32 (measure_of by.token) ≡ old.words.w32 → new.words.w64 + of_object words64 (measure_of by.token) ≡ old.words.w64 → LeadsSearch table limit bytes head start (n + m) [] new
finds_led table limit bytes head start n m taken old new summary f by l refers one32 one64 =
    let within' : n + m ≤ length bytes = let here = f.passing.within in let there = by.within in let left = length-drop n bytes in omega (arith, here, there, left) in
    let many : length old.types.items ≡ length f.made = many_held old.types.items f.made f.held.types in
    record {
      tokens = f.tokens ++ by.token ∷ [];
      back = f.back ++ l.more;
      made = f.made ++ made_in l.type l.trail by.token;
      missed = l.missed;
      passing = but_further f.back l.more table limit bytes head start n f.tokens f.made (taken ++ way_positions old.way) f.missed f.passing by.token m within' by.encodes
          (subst (RefersBack by.token) many refers.0) refers.1 l.type l.trail (way_positions new.way) l.missed l.passed;
      held = l.held;
      known = record {
        marks = subst (λ prefix. AreMarks prefix new.seconds.marks.items (f.tokens ++ by.token ∷ [])) (sym (take-add n m bytes)) (marks_more (take n bytes) (take m (drop n bytes)) new.seconds.marks.items f.tokens by.token by.encodes l.known.marks);
        notes = λ o t among. plain_more table f.tokens (by.token ∷ []) o t (l.known.notes o t among);
      };
      w32 = let before = f.w32 in let both = words32_push f.tokens by.token in omega (arith, one32, before, both);
      w64 = let before = f.w64 in let both = words64_push f.tokens by.token in omega (arith, one64, before, both);
    }

pub finds_further :
    (table : Table) (limit : ℕ) (bytes : List ℕ) (head : Head) (start n m : ℕ) (old new : Finding) (asked : Expectation) (summary : Summary) → LeadsSearch table limit bytes head start n (position_of asked (trail_in old.way) ∷ []) old → IsSummaryBy (drop n bytes) summary m
    → Comes table head.objects (take n bytes) old asked summary new → LeadsSearch table limit bytes head start (n + m) [] new
finds_further table limit bytes head start n m old new asked summary f by c =
    finds_led table limit bytes head start n m (position_of asked (trail_in old.way) ∷ []) old new summary f by (c.leads f.back f.tokens f.made f.missed by.token by.is_token by.is_summary f.held f.known f.passing.passed)
    (c.refers by.token by.is_summary) (c.w32 by.token by.is_summary) (c.w64 by.token by.is_summary)

-- If a token is consumed at the first open position, then the bytes up to the end of the token lead
-- to the new state.
pub finds_followed :
    (table : Table) (limit : ℕ) (bytes : List ℕ) (head : Head) (start n m : ℕ) (old new : Finding) (summary : Summary) → LeadsSearch table limit bytes head start n [] old → IsSummaryBy (drop n bytes) summary m
    → Follows table head.objects (take n bytes) old summary new → LeadsSearch table limit bytes head start (n + m) [] new
finds_followed table limit bytes head start n m old new summary f by g =
    finds_led table limit bytes head start n m [] old new summary f by (g.leads f.back f.tokens f.made f.missed by.token by.is_token by.is_summary f.held f.known f.passing.passed)
    (g.refers by.token by.is_summary) (g.w32 by.token by.is_summary) (g.w64 by.token by.is_summary)

-- ---- the end

-- If no mark of a link's block is set, then no reference leads back to a block of the links.
alone_links : (back : List ℕ) (marks : List Bool) → ((o : ℕ) → Contains back o → slice_get marks o ≡ Some true) → (links : List Link) → All (IsAlone marks) links → All (λ (link : ℕ × ℕ). ¬ Contains back link.0) (trail_of links)
alone_links back marks each [] alone = All-nil (λ (link : ℕ × ℕ). ¬ Contains back link.0)
alone_links back marks each (link ∷ links) alone =
    All-push (λ (link : ℕ × ℕ). ¬ Contains back link.0) (trail_of links) (link.object, link.field)
    (alone_links back marks each links (All-tail (IsAlone marks) link links alone))
    (λ among. let marked = each link.object among in let lone = All-head (IsAlone marks) link links alone in lone marked)

-- If a mismatch was found, then exactly one mismatch is recorded.
one_missed : (found : Option FoundMismatch) (its : FoundMismatch) (missed : List Missed) → found ≡ Some its → AreMissedAt found missed → (one : Missed) × (missed ≡ one ∷ []) × IsMissedAt its one
one_missed found its missed is are = subst (λ f. AreMissedAt f missed) is are

pub found_end :
    (table : Table) (limit : ℕ) (bytes : List ℕ) (head : Head) (start n : ℕ) (finding : Finding) (found : FoundMismatch) → AreLawful (table_shapes table) Everything → LeadsSearch table limit bytes head start n [] finding → way_positions finding.way ≡ []
    → EndsSearch head start n finding found → IsFound table limit n bytes found
found_end table limit bytes head start n finding found lawful f none ends =
    let one = one_missed finding.found found f.missed ends.its f.held.found in
    let missed = one.0 in
    let many : length finding.types.items ≡ length f.made = many_held finding.types.items f.made f.held.types in
    record {
      missed = missed;
      prefix = one_missed_prefixes table limit bytes head start n f.tokens f.back f.made missed lawful
          (subst₂ (IsPassingBut f.back table limit bytes head start n f.tokens f.made) none one.1 f.passing)
          (record {
            whole = ends.spent.whole;
            w32 = words32_stated head f.tokens finding.words.w32 head.big refl f.w32 ends.spent.w32;
            w64 = let sum = f.w64 in let zero' = ends.spent.w64 in omega (arith, sum, zero');
            count = subst (λ k. (head.objects ≡ 0) ⊎ (head.objects ≡ k)) many ends.spent.count;
          })
          (subst (All (λ (link : ℕ × ℕ). ¬ Contains f.back link.0)) (sym one.2.trail) (alone_links f.back finding.again.marks.items f.held.marked found.links.items ends.alone));
      at = one.2;
    }
