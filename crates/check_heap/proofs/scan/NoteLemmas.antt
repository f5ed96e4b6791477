-- The notes of a scan, object by object.
use Rattle.std.proofs.Common.{ℕ, suc, ◌+◌, ◌<◌, ◌≤◌, ◌≡◌, ◌∙◌, ◌++◌, List, [], ◌∷◌, length, take, Option, Some, None, refl, sym, ap, subst, arith}
use Rattle.std.specs.Prelude.{slice_get, slice_set, Contains, MatchOption}
use Rattle.std.proofs.lemmas.Bool.{false≢true}
use Rattle.std.proofs.lemmas.Option.{none-some}
use Rattle.std.proofs.lemmas.List.{take-set, take-set-le, take_more_set, get_or-set_same}
use Rattle.base_data.proofs.model.Options.{Contains-none}
use Rattle.base_data.specs.declared.model.value.Val.TheVariants as vals
use Rattle.base_data.specs.declared.model.value.Obj.{Obj}
use Rattle.types_spec.specs.types.Table.{Table, table_shapes}
use Rattle.marshal_heap.specs.heap.Heap.{key_of}
use Rattle.check_heap.specs.declared.scan.notes.First.{First}
use Rattle.check_heap.specs.declared.scan.notes.Notes.{Notes}
use Rattle.check_heap.specs.declared.scan.straight.ScanStop.TheVariants as stops
use Rattle.check_heap.specs.scan.Paths.{IsWildcard}
use Rattle.check_heap.specs.scan.Classed.{IsUntouched}
use Rattle.check_heap.specs.scan.Seconds.{noted_in}
use Rattle.check_heap.specs.scan.Scan.{mark_of, AreMarks, AreKept, AreNoted, IsFirstOf, IsKnownIn, IsWhole, IsScanning, Stops, IsStoppedAt, AreNotes, IsGoing}
use Rattle.check_heap.proofs.scan.ScanPositionLemmas.{slice_set_at, slice_set_other}
use Rattle.check_heap.proofs.scan.ScanMarkLemmas.{unmet_kept, marks_more, kept_more, noted_kept, meeting_first}
use Rattle.check_heap.proofs.scan.ScanLemmas.{scanning_kept, scanning_more}
use Rattle.check_heap.proofs.scan.ScanPathLemmas.{wildcard_typed, wildcard_fits}
use Rattle.check_heap.proofs.scan.ScanSecondLemmas.{seconds_none, nothing_in}

module _ (table : Table) (graph : List Obj) where
  -- If nothing is noted yet, then the notes are correct.
  pub notes_none :
      (marks types : List ℕ) (n : ℕ) (notes : Notes) → length (noted_in notes.seconds) ≡ 0 → IsUntouched notes.seconds.known → notes.first ≡ None
      → AreNotes table graph marks types n notes
  notes_none marks types n notes none unknown first = record {
    noted = record {
      valid = seconds_none table notes.seconds none unknown;
      all = λ o t among. absurd (Contains-none (o, t) (subst (λ xs. Contains xs (o, t)) (nothing_in (noted_in notes.seconds) none) among));
    };
    first = subst (λ found. MatchOption found (noted_in notes.seconds ≡ []) (IsStoppedAt table graph marks types n)) (sym first) (nothing_in (noted_in notes.seconds) none);
  }

  pub stopped_within :
      (marks types : List ℕ) (n m : ℕ) (first : First) → n ≤ m → IsStoppedAt table graph marks types n first → IsStoppedAt table graph marks types m first
  stopped_within marks types n m first more is = record {
    before = let before = is.before in omega (arith, before, more);
    scanning = is.scanning;
    stops = is.stops;
    row = is.row;
  }

  pub notes_within :
      (marks types : List ℕ) (n m : ℕ) (notes : Notes) → n ≤ m → AreNotes table graph marks types n notes → AreNotes table graph marks types m notes
  notes_within marks types n m notes more are = record { noted = are.noted; first = by_first notes.first are.first } where
    by_first :
        (found : Option First) → MatchOption found (noted_in notes.seconds ≡ []) (IsStoppedAt table graph marks types n)
        → MatchOption found (noted_in notes.seconds ≡ []) (IsStoppedAt table graph marks types m)
    by_first None none = none
    by_first (Some first) is = stopped_within marks types n m first more is

  -- If one more object is checked, or the scan ends at the object, then the notes stay correct.
  module _ (old new types : List ℕ) (o t steps : ℕ) (kept : AreKept old new) (valid : AreMarks table graph new) (inside : o < length types)
      (marked : mark_of graph new o ≡ suc t) (fits : (table_shapes table).fits graph (vals.Ref o) t) where
    still_stopped : (first : First) → IsStoppedAt table graph old types o first → IsStoppedAt table graph new (slice_set types o t) (o + 1) first
    still_stopped first is = record {
      before = let before = is.before in omega (arith, before);
      scanning =
          let before = is.before in
          subst (λ ts. IsScanning table graph new [] ts first.object first.steps) (sym (take-set-le first.object types o t (omega (arith, before))))
          (scanning_kept table graph old new [] [] (take first.object types) first.object first.steps first.steps (omega arith) is.scanning valid kept (λ p among. among));
      stops = (
        kept (key_of graph first.object) (let mark = is.stops.0 in omega (arith, mark)) ∙ is.stops.0,
        (is.stops.1.0, unmet_kept table graph old new first.object first.ty first.unmet kept is.stops.1.1),
      );
      row =
          let before = is.before in
          slice_set_other types o first.object t (λ same. omega (arith, before, same)) ∙ is.row;
    }

    now_stopped :
        (first : First) (before : List (ℕ × ℕ)) → IsScanning table graph old before (take o types) o steps → before ≡ []
        → IsFirstOf table graph new o t steps first → IsStoppedAt table graph new (slice_set types o t) (o + 1) first
    now_stopped first before scanning none is = record {
      before = let object = is.object in omega (arith, object);
      scanning =
          let fewer : first.steps ≤ steps = let same = is.before in omega (arith, same) in
          let strict = subst (λ xs. IsScanning table graph old xs (take o types) o steps) none scanning in
          let own = scanning_kept table graph old new [] [] (take o types) o steps first.steps fewer strict valid kept (λ p among. among) in
          subst (λ n. IsScanning table graph new [] (take n (slice_set types o t)) n first.steps) (sym is.object)
          (subst (λ ts. IsScanning table graph new [] ts o first.steps) (sym (take-set types o t)) own);
      stops = subst (λ n. Stops table graph new [] n (stops.Needs first.ty first.unmet)) (sym is.object)
          (subst (λ u. Stops table graph new [] o (stops.Needs u first.unmet)) (sym is.type) (marked, (fits, is.unmet)));
      row = ap (slice_get (slice_set types o t)) is.object ∙ slice_set_at types o t inside ∙ ap (λ u. Some u) (sym is.type);
    }

    pub notes_turned :
        (before notes : Notes) → AreNotes table graph old types o before → IsScanning table graph old (noted_in before.seconds) (take o types) o steps
        → AreNoted table graph new notes.seconds → IsKnownIn table graph new o t steps before notes
        → AreNotes table graph new (slice_set types o t) (o + 1) notes
    notes_turned before notes are scanning noted known = record { noted = noted; first = by_before before.first are.first known } where
      by_new :
          (found : Option First) → noted_in before.seconds ≡ [] → MatchOption found (noted_in notes.seconds ≡ []) (IsFirstOf table graph new o t steps)
          → MatchOption found (noted_in notes.seconds ≡ []) (IsStoppedAt table graph new (slice_set types o t) (o + 1))
      by_new None none empty = empty
      by_new (Some first) none is = now_stopped first (noted_in before.seconds) scanning none is

      by_before :
          (found : Option First) → MatchOption found (noted_in before.seconds ≡ []) (IsStoppedAt table graph old types o)
          → MatchOption found (MatchOption notes.first (noted_in notes.seconds ≡ []) (IsFirstOf table graph new o t steps)) (λ first. notes.first ≡ Some first)
          → MatchOption notes.first (noted_in notes.seconds ≡ []) (IsStoppedAt table graph new (slice_set types o t) (o + 1))
      by_before None none is = by_new notes.first none is
      by_before (Some first) stopped is =
          subst (λ found. MatchOption found (noted_in notes.seconds ≡ []) (IsStoppedAt table graph new (slice_set types o t) (o + 1))) (sym is) (still_stopped first stopped)

  -- If no first noted object is known, then nothing was noted.
  pub none_noted : (marks types : List ℕ) (n : ℕ) (notes : Notes) → AreNotes table graph marks types n notes → notes.first ≡ None → noted_in notes.seconds ≡ []
  none_noted marks types n notes are is =
      subst (λ found. MatchOption found (noted_in notes.seconds ≡ []) (IsStoppedAt table graph marks types n)) is are.first

  pub first_stopped :
      (marks types : List ℕ) (n : ℕ) (notes : Notes) (first : First) → AreNotes table graph marks types n notes → notes.first ≡ Some first
      → IsStoppedAt table graph marks types n first
  first_stopped marks types n notes first are is =
      subst (λ found. MatchOption found (noted_in notes.seconds ≡ []) (IsStoppedAt table graph marks types n)) is are.first

  pub whole_notes : (marks types : List ℕ) (n : ℕ) (notes : Notes) → AreNotes table graph marks types n notes → IsWhole notes
  whole_notes marks types n notes are = by_first notes.first are.first where
    by_first :
        (found : Option First) → MatchOption found (noted_in notes.seconds ≡ []) (IsStoppedAt table graph marks types n)
        → MatchOption found (noted_in notes.seconds ≡ []) (λ first. Unit {0})
    by_first None none = none
    by_first (Some first) is = tt

  -- ---- a skipped object

  module _ (marks types : List ℕ) (notes : Notes) (o t steps : ℕ) (inside : o < length graph) (many : length types ≡ length graph)
      (wildcard : IsWildcard table t) (unmarked : mark_of graph marks o ≡ 0) (going : IsGoing table graph marks types notes o steps) where
    keyed : key_of graph o < length marks
    keyed = going.scanning.valid.keyed o inside

    passed_valid : AreMarks table graph (slice_set marks (key_of graph o) (suc t))
    passed_valid = marks_more table graph marks (key_of graph o) t going.scanning.valid keyed wildcard.0
        (λ p here same asked. absurd (false≢true (sym wildcard.1 ∙ asked)))

    passed_kept : AreKept marks (slice_set marks (key_of graph o) (suc t))
    passed_kept = kept_more table graph marks (key_of graph o) t unmarked

    passed_mark : mark_of graph (slice_set marks (key_of graph o) (suc t)) o ≡ suc t
    passed_mark = get_or-set_same marks (key_of graph o) (suc t) 0 keyed

    passed_noted : AreNoted table graph (slice_set marks (key_of graph o) (suc t)) notes.seconds
    passed_noted = noted_kept table graph marks (slice_set marks (key_of graph o) (suc t)) notes.seconds passed_kept going.noted.noted

    passed_known : IsKnownIn table graph (slice_set marks (key_of graph o) (suc t)) o t steps notes notes
    passed_known = (meeting_first table graph (slice_set marks (key_of graph o) (suc t)) notes o t steps passed_valid passed_noted
        (whole_notes marks types o notes going.noted)).known

    passed_scanning : IsScanning table graph (slice_set marks (key_of graph o) (suc t)) (noted_in notes.seconds) (take o types ++ t ∷ []) (o + 1) steps
    passed_scanning = scanning_more table graph (slice_set marks (key_of graph o) (suc t)) (slice_set marks (key_of graph o) (suc t)) (noted_in notes.seconds) (noted_in notes.seconds)
        (take o types) o t steps steps inside
        (scanning_kept table graph marks (slice_set marks (key_of graph o) (suc t)) (noted_in notes.seconds) (noted_in notes.seconds) (take o types) o steps steps (omega arith)
        going.scanning passed_valid passed_kept (λ p among. among))
        passed_valid (λ key some. refl) (λ p among. among) passed_mark (wildcard_fits table graph o t inside wildcard.1)
        (λ j i a less at_j asked. absurd (none-some (i, a) (ap (λ needs. slice_get needs j) (sym (wildcard_typed table graph o t inside wildcard.1)) ∙ at_j)))
        (omega arith)

    pub passed : IsGoing table graph (slice_set marks (key_of graph o) (suc t)) (slice_set types o t) notes (o + 1) steps
    passed = record {
      scanning = subst (λ ts. IsScanning table graph (slice_set marks (key_of graph o) (suc t)) (noted_in notes.seconds) ts (o + 1) steps)
          (sym (take_more_set types o t (omega (arith, inside, many)))) passed_scanning;
      noted = notes_turned marks (slice_set marks (key_of graph o) (suc t)) types o t steps passed_kept passed_valid (omega (arith, inside, many)) passed_mark
          (wildcard_fits table graph o t inside wildcard.1) notes notes going.noted going.scanning passed_noted passed_known;
    }
