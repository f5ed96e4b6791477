-- Growing marks, and their consequences.
use Rattle.std.proofs.Common.{ℕ, zero, suc, ◌+◌, ◌^◌, ◌%◌, ◌<◌, ◌≡◌, ◌≢◌, ◌∙◌, ◌⊎◌, inl, inr, ⊎_elim, Bool, true, false, List, [], ◌∷◌, length, Option, Some, None, refl, sym, ap, subst, arith}
use Rattle.std.specs.Bool.{OnTrue}
use Rattle.std.specs.Prelude.{slice_get, slice_index, slice_set, replicate, Contains, IsTrue, IsSome, ℤ, MatchOption}
use Rattle.std.proofs.lemmas.List.{get_or-set_same, get_or-set_other, length-set, length-replicate}
use Rattle.std.proofs.lemmas.Option.{same_Some}
use Rattle.base_data.specs.declared.model.value.Val.{Val}
use Rattle.base_data.specs.declared.model.value.Val.TheVariants as vals
use Rattle.base_data.specs.declared.model.value.Obj.{Obj}
use Rattle.types_spec.specs.declared.types.shape.ShapeOf.{ShapeOf}
use Rattle.types_spec.specs.declared.types.shape.ShapeOf.TheVariants as shapes
use Rattle.types_spec.specs.types.Fitting.{none_if, fits_int, fits_atom, is_asked}
use Rattle.types_spec.specs.types.Table.{Table, table_shapes, node_or_none, is_asked_in}
use Rattle.base_data.specs.model.Graph.{IsValue, IsGraph}
use Rattle.marshal_heap.specs.heap.Heap.{key_of, field_at, word_of, IsFieldWord}
use Rattle.marshal_heap.proofs.heap.HeapReadLemmas.{word_of-inj}
use Rattle.check_heap.proofs.fits.FitsRowLemmas.{is_reference}
use Rattle.base_data.proofs.model.Options.{Contains-none}
use Rattle.base_data.proofs.model.Lists.{slice_index-zeros}
use Rattle.types_spec.specs.types.Typing.{IsListed}
use Rattle.check_heap.specs.declared.scan.notes.First.{First}
use Rattle.check_heap.specs.declared.scan.notes.Notes.{Notes}
use Rattle.check_heap.specs.declared.scan.notes.Unmet.{Unmet}
use Rattle.check_heap.specs.declared.scan.second_types.SecondTypes.{SecondTypes}
use Rattle.check_heap.specs.scan.Paths.{HasPath, IsLed}
use Rattle.check_heap.specs.scan.Seconds.{noted_in, AreSeconds, IsNoting}
use Rattle.check_heap.specs.scan.Scanned.{object_typed}
use Rattle.check_heap.specs.scan.Scan.{first_or, AreMarks, AreKept, IsSecond, AreNoted, AreStillNoted, IsMet, IsOther, IsNoted, IsUnfit, AreMet, IsUnmet, IsFirstOf, IsKnownIn, IsWhole, IsMeeting, IsTaken}
use Rattle.check_heap.proofs.scan.ScanPositionLemmas.{contains_push, contains_left, contains_last}

-- ---- numbers

same_or_not : (m n : ℕ) → (m ≡ n) ⊎ (m ≢ n)
same_or_not zero zero = inl refl
same_or_not zero (suc n) = inr (λ same. omega (arith, same))
same_or_not (suc m) zero = inr (λ same. omega (arith, same))
same_or_not (suc m) (suc n) = ⊎_elim (λ same. inl (ap suc same)) (λ other. inr (λ same. other (omega (arith, same)))) (same_or_not m n)

int_asked : (s : ShapeOf ℕ) (z : ℤ) → (IsSome (none_if {T = ℕ} (fits_int s z)) → ⊥) → IsTrue (is_asked s)
int_asked shapes.Anything z unfit = absurd (unfit refl)
int_asked s z unfit = refl

atom_asked : (s : ShapeOf ℕ) (tag : ℕ) → (IsSome (none_if {T = ℕ} (fits_atom s tag)) → ⊥) → IsTrue (is_asked s)
atom_asked shapes.Anything tag unfit = absurd (unfit refl)
atom_asked s tag unfit = refl

module _ (table : Table) (graph : List Obj) where
  -- ---- one more mark

  pub marks_none : (n : ℕ) → ((o : ℕ) → o < length graph → key_of graph o < n) → AreMarks table graph (replicate n 0)
  marks_none n keys = record {
    keyed = λ o inside. subst (λ m. key_of graph o < m) (sym (length-replicate n 0)) (keys o inside);
    small = λ key. let none = slice_index-zeros n key in omega (arith, none);
    paths = λ o t inside marked. let none = slice_index-zeros n (key_of graph o) in absurd (omega (arith, none, marked));
  }

  pub marks_more :
      (marks : List ℕ) (key t : ℕ) → AreMarks table graph marks → key < length marks → t < length table.nodes
      → ((o : ℕ) → o < length graph → key_of graph o ≡ key → IsLed table graph o t)
      → AreMarks table graph (slice_set marks key (suc t))
  marks_more marks key t are inside less led = record {
    keyed = λ o there. subst (λ m. key_of graph o < m) (sym (length-set marks key (suc t))) (are.keyed o there);
    small = λ other. ⊎_elim
        (λ same. let is = ap (slice_index (slice_set marks key (suc t))) same ∙ get_or-set_same marks key (suc t) 0 inside in omega (arith, is, less))
        (λ apart. let is = get_or-set_other marks key other (suc t) 0 apart in let old = are.small other in omega (arith, is, old))
        (same_or_not other key);
    paths = λ o u there marked. ⊎_elim
        (λ same.
        let is = ap (slice_index (slice_set marks key (suc t))) same ∙ get_or-set_same marks key (suc t) 0 inside in
        let type : t ≡ u = omega (arith, is, marked) in
        subst (IsLed table graph o) type (led o there same))
        (λ apart. are.paths o u there (sym (get_or-set_other marks key (key_of graph o) (suc t) 0 apart) ∙ marked))
        (same_or_not (key_of graph o) key);
  }

  pub kept_more : (marks : List ℕ) (key t : ℕ) → slice_index marks key ≡ 0 → AreKept marks (slice_set marks key (suc t))
  kept_more marks key t none other some = ⊎_elim
      (λ same. let is = ap (slice_index marks) same ∙ none in absurd (omega (arith, is, some)))
      (λ apart. get_or-set_other marks key other (suc t) 0 apart)
      (same_or_not other key)

  -- ---- preservation

  pub met_kept : (old new : List ℕ) (v : Val) (t : ℕ) → AreKept old new → IsMet table graph old v t → IsMet table graph new v t
  met_kept old new (vals.Int z) t kept met = met
  met_kept old new (vals.Atom tag) t kept met = met
  met_kept old new (vals.Ref o) t kept met =
      (met.0, kept (key_of graph o) (let is = met.1 in omega (arith, is)) ∙ met.1, met.2)

  pub kept_twice : (old middle new : List ℕ) → AreKept old middle → AreKept middle new → AreKept old new
  kept_twice old middle new first second key some =
      let is = first key some in second key (omega (arith, is, some)) ∙ is

  -- If the list of notes is empty, then no value is noted at any type.
  pub never_noted : (v : Val) (t : ℕ) → IsNoted table [] v t → ⊥
  never_noted (vals.Int z) t noted = noted
  never_noted (vals.Atom tag) t noted = noted
  never_noted (vals.Ref o) t noted = Contains-none (o, noted.0) noted.1

  -- If an object is noted, then it stays noted.
  noted_still : (old new : List (ℕ × ℕ)) (v : Val) (t : ℕ) → AreStillNoted old new → IsNoted table old v t → IsNoted table new v t
  noted_still old new (vals.Int z) t still noted = noted
  noted_still old new (vals.Atom tag) t still noted = noted
  noted_still old new (vals.Ref o) t still noted = (noted.0, still (o, noted.0) noted.1, noted.2)

  pub all_kept :
      (old new : List ℕ) (before noted : List (ℕ × ℕ)) (o t r : ℕ) → AreKept old new → AreStillNoted before noted
      → AreMet table graph old before o t r → AreMet table graph new noted o t r
  all_kept old new before noted o t r kept still met j i a less at_j asked = ⊎_elim
      (λ own. inl (met_kept old new (field_at graph o i) a kept own))
      (λ other. inr (noted_still before noted (field_at graph o i) a still other))
      (met j i a less at_j asked)

  pub unmet_kept :
      (old new : List ℕ) (o t : ℕ) (unmet : Unmet) → AreKept old new → IsUnmet table graph old [] o t unmet → IsUnmet table graph new [] o t unmet
  unmet_kept old new o t unmet kept is = record {
    type = is.type;
    at = is.at;
    asked = is.asked;
    met = all_kept old new [] [] o t unmet.position kept (λ p among. among) is.met;
    unfit = is.unfit;
    small = is.small;
  }

  pub taken_kept :
      (old new : List ℕ) (before noted : List (ℕ × ℕ)) (o t : ℕ) → AreKept old new → AreStillNoted before noted
      → IsTaken table graph old before o t → IsTaken table graph new noted o t
  taken_kept old new before noted o t kept still taken = record {
    marked = kept (key_of graph o) (let is = taken.marked in omega (arith, is)) ∙ taken.marked;
    fits = taken.fits;
    met = all_kept old new before noted o t (length (object_typed table graph o t)) kept still taken.met;
  }

  -- ---- noted objects

  second_kept : (old new : List ℕ) (o t : ℕ) → AreKept old new → IsSecond table graph old o t → IsSecond table graph new o t
  second_kept old new o t kept second = record {
    inside = second.inside;
    within = second.within;
    path = second.path;
    first = second.first;
    marked = kept (key_of graph o) (let is = second.marked in omega (arith, is)) ∙ second.marked;
    other = second.other;
  }

  pub noted_kept : (old new : List ℕ) (seconds : SecondTypes) → AreKept old new → AreNoted table graph old seconds → AreNoted table graph new seconds
  noted_kept old new seconds kept noted = record {
    valid = noted.valid;
    all = λ o t among. second_kept old new o t kept (noted.all o t among);
  }

  -- If the pair (`o`, `t`) is second (`IsSecond`) and is added to the notes, then `AreNoted` still
  -- holds.
  noted_more :
      (marks : List ℕ) (old new : SecondTypes) (o t : ℕ) → AreNoted table graph marks old → AreSeconds table new
      → IsNoting table (noted_in old) (noted_in new) o t → IsSecond table graph marks o t → AreNoted table graph marks new
  noted_more marks old new o t noted valid noting second = record {
    valid = valid;
    all = λ p u among. ⊎_elim
        (λ same. noted.all p u (subst (λ xs. Contains xs (p, u)) same.1 among))
        (λ pushed. ⊎_elim
        (λ before. noted.all p u before)
        (λ last.
        let object : o ≡ p = ap (λ (y : ℕ × ℕ). y.0) last in
        let type : t ≡ u = ap (λ (y : ℕ × ℕ). y.1) last in
        subst (λ n. IsSecond table graph marks n u) object (subst (IsSecond table graph marks o) type second))
        (contains_push (noted_in old) (o, t) (p, u) (subst (λ xs. Contains xs (p, u)) pushed.1 among)))
        noting;
  }

  noting_still : (old new : List (ℕ × ℕ)) (o t : ℕ) → IsNoting table old new o t → AreStillNoted old new
  noting_still old new o t noting p among = ⊎_elim
      (λ same. subst (λ xs. Contains xs p) (sym same.1) among)
      (λ pushed. subst (λ xs. Contains xs p) (sym pushed.1) (contains_left old ((o, t) ∷ []) p among))
      noting

  pub noting_listed : (old new : List (ℕ × ℕ)) (o t : ℕ) → IsNoting table old new o t → IsListed (table_shapes table) new (vals.Ref o) t
  noting_listed old new o t noting = ⊎_elim
      (λ same. subst (λ xs. IsListed (table_shapes table) xs (vals.Ref o) t) (sym same.1) same.0)
      (λ pushed. (t, subst (λ xs. Contains xs (o, t)) (sym pushed.1) (contains_last old (o, t)), refl))
      noting

  -- ---- the first noted object

  first_kept : (old new : List ℕ) (o t steps : ℕ) (first : First) → AreKept old new → IsFirstOf table graph old o t steps first → IsFirstOf table graph new o t steps first
  first_kept old new o t steps first kept is = record {
    object = is.object;
    type = is.type;
    before = is.before;
    unmet = unmet_kept old new o t first.unmet kept is.unmet;
  }

  known_kept :
      (old new : List ℕ) (o t steps : ℕ) (before notes : Notes) → AreKept old new
      → IsKnownIn table graph old o t steps before notes → IsKnownIn table graph new o t steps before notes
  known_kept old new o t steps before notes kept known = by_before before.first known where
    by_new :
        (found : Option First) → MatchOption found (noted_in notes.seconds ≡ []) (IsFirstOf table graph old o t steps)
        → MatchOption found (noted_in notes.seconds ≡ []) (IsFirstOf table graph new o t steps)
    by_new None none = none
    by_new (Some first) is = first_kept old new o t steps first kept is

    by_before :
        (found : Option First)
        → MatchOption found (MatchOption notes.first (noted_in notes.seconds ≡ []) (IsFirstOf table graph old o t steps)) (λ first. notes.first ≡ Some first)
        → MatchOption found (MatchOption notes.first (noted_in notes.seconds ≡ []) (IsFirstOf table graph new o t steps)) (λ first. notes.first ≡ Some first)
    by_before None is = by_new notes.first is
    by_before (Some first) is = is

  known_first : (marks : List ℕ) (o t steps : ℕ) (notes : Notes) → IsWhole notes → IsKnownIn table graph marks o t steps notes notes
  known_first marks o t steps notes whole = by_first notes.first refl whole where
    by_first :
        (found : Option First) → notes.first ≡ found → MatchOption found (noted_in notes.seconds ≡ []) (λ first. Unit {0})
        → MatchOption found (MatchOption notes.first (noted_in notes.seconds ≡ []) (IsFirstOf table graph marks o t steps)) (λ first. notes.first ≡ Some first)
    by_first None is none = subst (λ found. MatchOption found (noted_in notes.seconds ≡ []) (IsFirstOf table graph marks o t steps)) (sym is) none
    by_first (Some first) is some = is

  -- If an object is noted at a required field of object `o`, then the first noted object is known.
  known_more :
      (marks : List ℕ) (o t steps : ℕ) (before now new : Notes) (first : First) → IsKnownIn table graph marks o t steps before now
      → new.first ≡ first_or now.first first → first.object ≡ o → first.ty ≡ t → first.steps ≡ steps
      → (noted_in now.seconds ≡ [] → IsUnmet table graph marks [] o t first.unmet)
      → IsKnownIn table graph marks o t steps before new
  known_more marks o t steps before now new first known is object type taken unmet = by_before before.first known where
    by_now :
        (found : Option First) → now.first ≡ found → MatchOption found (noted_in now.seconds ≡ []) (IsFirstOf table graph marks o t steps)
        → (last : First) × (new.first ≡ Some last) × IsFirstOf table graph marks o t steps last
    by_now None none empty = (first, is ∙ ap (λ f. first_or f first) none, record { object = object; type = type; before = taken; unmet = unmet empty })
    by_now (Some known) some own = (known, is ∙ ap (λ f. first_or f first) some, own)

    by_before :
        (found : Option First)
        → MatchOption found (MatchOption now.first (noted_in now.seconds ≡ []) (IsFirstOf table graph marks o t steps)) (λ known. now.first ≡ Some known)
        → MatchOption found (MatchOption new.first (noted_in new.seconds ≡ []) (IsFirstOf table graph marks o t steps)) (λ known. new.first ≡ Some known)
    by_before None own =
        let last = by_now now.first refl own in
        subst (λ found. MatchOption found (noted_in new.seconds ≡ []) (IsFirstOf table graph marks o t steps)) (sym last.1) last.2
    by_before (Some known) some = is ∙ ap (λ f. first_or f first) some

  -- ---- required fields

  -- If a value does not match a type, then the type constrains its values.
  pub unfit_is_asked : (v : Val) (a : ℕ) → IsUnfit table graph v a → IsTrue (is_asked_in table a)
  unfit_is_asked (vals.Int z) a unfit = int_asked (node_or_none (slice_get table.nodes a)) z unfit
  unfit_is_asked (vals.Atom tag) a unfit = atom_asked (node_or_none (slice_get table.nodes a)) tag unfit
  unfit_is_asked (vals.Ref o) a unfit = absurd unfit

  pub meeting_first :
      (marks : List ℕ) (notes : Notes) (o t steps : ℕ) → AreMarks table graph marks → AreNoted table graph marks notes.seconds → IsWhole notes
      → IsMeeting table graph marks marks notes notes o t 0 steps
  meeting_first marks notes o t steps are noted whole = record {
    marks = are;
    kept = λ key some. refl;
    noted = noted;
    still = λ p among. among;
    known = known_first marks o t steps notes whole;
    met = λ j i a less at_j asked. absurd (omega (arith, less));
  }

  one_more :
      (now new : List ℕ) (before noted : List (ℕ × ℕ)) (o t r i a : ℕ) → AreKept now new → AreStillNoted before noted → AreMet table graph now before o t r
      → slice_get (object_typed table graph o t) r ≡ Some (i, a)
      → (IsTrue (is_asked_in table a) → IsMet table graph new (field_at graph o i) a ⊎ IsNoted table noted (field_at graph o i) a)
      → AreMet table graph new noted o t (r + 1)
  one_more now new before noted o t r i a kept still all at_r own j x b less at_j asked = ⊎_elim
      (λ same.
      let pair = same_Some (i, a) (x, b) (sym at_r ∙ ap (slice_get (object_typed table graph o t)) (sym same) ∙ at_j) in
      subst (λ (need : ℕ × ℕ). IsTrue (is_asked_in table need.1) → IsMet table graph new (field_at graph o need.0) need.1 ⊎ IsNoted table noted (field_at graph o need.0) need.1) pair own asked)
      (λ apart. all_kept now new before noted o t r kept still all j x b (below apart less) at_j asked)
      (same_or_not j r) where
        below : {j : ℕ} → j ≢ r → j < r + 1 → j < r
        below {j} apart less = omega (arith, apart, less)

  pub meeting_more :
      (old now new : List ℕ) (before notes : Notes) (o t r i a steps : ℕ) → IsMeeting table graph old now before notes o t r steps → AreMarks table graph new → AreKept now new
      → slice_get (object_typed table graph o t) r ≡ Some (i, a) → (IsTrue (is_asked_in table a) → IsMet table graph new (field_at graph o i) a)
      → IsMeeting table graph old new before notes o t (r + 1) steps
  meeting_more old now new before notes o t r i a steps meeting marks kept at_r met = record {
    marks = marks;
    kept = kept_twice old now new meeting.kept kept;
    noted = noted_kept now new notes.seconds kept meeting.noted;
    still = meeting.still;
    known = known_kept now new o t steps before notes kept meeting.known;
    met = one_more now new (noted_in notes.seconds) (noted_in notes.seconds) o t r i a kept (λ p among. among) meeting.met at_r (λ asked. inl (met asked));
  }

  -- The invariant is preserved if only the marks change.
  pub meeting_kept :
      (old now new : List ℕ) (before notes : Notes) (o t r steps : ℕ) → IsMeeting table graph old now before notes o t r steps → AreMarks table graph new → AreKept now new
      → IsMeeting table graph old new before notes o t r steps
  meeting_kept old now new before notes o t r steps meeting marks kept = record {
    marks = marks;
    kept = kept_twice old now new meeting.kept kept;
    noted = noted_kept now new notes.seconds kept meeting.noted;
    still = meeting.still;
    known = known_kept now new o t steps before notes kept meeting.known;
    met = all_kept now new (noted_in notes.seconds) (noted_in notes.seconds) o t r kept (λ p among. among) meeting.met;
  }

  -- If a required field's object is marked with another type and noted, then the invariant holds
  -- with one more field.
  pub meeting_noted :
      (old now new : List ℕ) (before notes more : Notes) (o t r i a steps p : ℕ) (first : First) → IsMeeting table graph old now before notes o t r steps
      → AreMarks table graph new → AreKept now new → slice_get (object_typed table graph o t) r ≡ Some (i, a) → IsTrue (is_asked_in table a)
      → field_at graph o i ≡ vals.Ref p → p < length graph
      → a < length table.nodes → HasPath table graph (vals.Ref 0) p a → IsOther table graph new (vals.Ref p) a
      → AreSeconds table more.seconds → IsNoting table (noted_in notes.seconds) (noted_in more.seconds) p a
      → more.first ≡ first_or notes.first first → first.object ≡ o → first.ty ≡ t → first.steps ≡ steps
      → first.unmet.position ≡ r → first.unmet.field ≡ i → (IsTrue first.unmet.unfit → ⊥) → i + 1 < 2 ^ 64
      → IsMeeting table graph old new before more o t (r + 1) steps
  meeting_noted old now new before notes more o t r i a steps p first meeting marks kept at_r asked is inside within path other valid noting known object type taken position field never small =
      let grown = meeting_kept old now new before notes o t r steps meeting marks kept in
      let second : IsSecond table graph new p a = record { inside = inside; within = within; path = path; first = other.0; marked = other.1; other = other.2 } in
      let still = noting_still (noted_in notes.seconds) (noted_in more.seconds) p a noting in
      record {
        marks = marks;
        kept = grown.kept;
        noted = noted_more new notes.seconds more.seconds p a grown.noted valid noting second;
        still = λ q among. still q (grown.still q among);
        known = known_more new o t steps before notes more first grown.known known object type taken (λ none. record {
          type = a;
          at = ap (slice_get (object_typed table graph o t)) position ∙ at_r ∙ ap (λ n. Some (n, a)) (sym field);
          asked = asked;
          met = subst (λ n. AreMet table graph new [] o t n) (sym position) (subst (λ xs. AreMet table graph new xs o t r) none grown.met);
          unfit = λ unfit. absurd (never unfit);
          small = omega (arith, small, field);
        });
        met = one_more new new (noted_in notes.seconds) (noted_in more.seconds) o t r i a (λ key some. refl) still grown.met at_r
            (λ also. inr (subst (λ v. IsNoted table (noted_in more.seconds) v a) (sym is) (noting_listed (noted_in notes.seconds) (noted_in more.seconds) p a noting)));
      }

-- If a statement holds, then it holds under any condition.
pub known : (test : Bool) (X : Type 0) → X → OnTrue test X
known true X x = x
known false X x = tt

-- ---- 64-bit words

-- If a word refers to an object that is marked with an equal type, then the word's value is
-- satisfied.
pub marked_met :
    (table : Table) (graph : List Obj) (marks : List ℕ) (word key t u : ℕ) → IsGraph graph → IsFieldWord graph word → word % 8 ≡ 0
    → ((o : ℕ) → o < length graph → word ≡ word_of graph (vals.Ref o) → key ≡ key_of graph o)
    → slice_index marks key ≡ suc u → (table_shapes table).equal u t
    → (v : Val) → IsValue (length graph) v → word ≡ word_of graph v → IsMet table graph marks v t
marked_met table graph marks word key t u graph' field even keys marked same v valid is =
    let r = is_reference graph word field even in
    let named : v ≡ vals.Ref r.0 = word_of-inj graph v (vals.Ref r.0) graph' valid r.1 (sym is ∙ r.2) in
    subst (λ w. IsMet table graph marks w t) (sym named)
    (u, ap (slice_index marks) (sym (keys r.0 r.1 r.2)) ∙ marked, same)

-- If a word refers to no object and its value does not match, then the value is a mismatch.
pub word_unfit :
    (table : Table) (graph : List Obj) (v : Val) (t word : ℕ) → word ≡ word_of graph v → word % 8 ≢ 0
    → ¬ (table_shapes table).fits graph v t → IsUnfit table graph v t
word_unfit table graph (vals.Int z) t word is odd unfit = unfit
word_unfit table graph (vals.Atom tag) t word is odd unfit = unfit
word_unfit table graph (vals.Ref o) t word is odd unfit = absurd (odd (omega (arith, is)))
