-- The type of a task was read.
use Rattle.std.proofs.Common.{◌≡◌, ℕ, Bool, List, Ok, Err, sym, subst}
use Rattle.cli_spec.specs.Outcome.{FetchResults, Request, AskedType, asked_with, asked_type, report, get, edit, dump, compare, own, Query, the_part, ValueWork, reports, edits, dumps, compares, Language, ReadsTypeOf, ReportsAt, EditsBy, FindsWork}
use Rattle.run_spec.specs.runs.LawfulLanguage.{IsGiven}

-- The type of the work was read.
abbrev pub IsGivenWork : {D T E : Type 0} → Language D T E → ValueWork T E → Type 0
IsGivenWork language (reports query t) = IsGiven language t
IsGivenWork language (edits t script compat) = IsGiven language t
IsGivenWork language dumps = Unit {0}
IsGivenWork language compares = Unit {0}

module _ {D T E : Type 0} (language : Language D T E) (files : FetchResults) where
  -- If a type is read from a file, then the type was read over declarations.
  pub type_given : (f : List ℕ) (u : AskedType) (t : T) → ReadsTypeOf language files.file (f, u) (Ok t) → IsGiven language t
  type_given f u t (Err s, h, other) = absurd (cc other)
  type_given f u t (Ok text, h, (Err s, g, other)) = absurd (cc other)
  type_given f u t (Ok text, h, (Ok d, g, given)) = (text, u, d, g, given)

  reports_given : (f : List ℕ) (u : AskedType) (query : Query) (work : ValueWork T E) → ReportsAt language files.file (f, u) query (Ok work) → IsGivenWork language work
  reports_given f u query work (Err s, reads, same) = absurd (cc same)
  reports_given f u query work (Ok t, reads, known) =
      let is : work ≡ reports query t = cc in subst (IsGivenWork language) (sym is) (type_given f u t reads)

  edits_given : (f : List ℕ) (u : AskedType) (script : List ℕ) (compat : Bool) (work : ValueWork T E) → EditsBy language files (f, u) script compat (Ok work) → IsGivenWork language work
  edits_given f u script compat work (Err s, reads, same) = absurd (cc same)
  edits_given f u script compat work (Ok t, reads, (Err s, lines, same)) = absurd (cc same)
  edits_given f u script compat work (Ok t, reads, (Ok ls, lines, known)) =
      let is : work ≡ edits t ls compat = cc in subst (IsGivenWork language) (sym is) (type_given f u t reads)

  pub work_given : (request : Request) (work : ValueWork T E) → FindsWork language files request (Ok work) → IsGivenWork language work
  work_given (report query f u lined most) work h = reports_given f (asked_type u lined) query work h
  work_given (get f u text style lined most) work (Err s, reads, same) = absurd (cc same)
  work_given (get f u text style lined most) work (Ok path, reads, h) = reports_given f (asked_type u lined) (the_part path style) work h
  work_given (edit f u script compat lined decimal most) work h = edits_given f (asked_with u lined decimal) script compat work h
  work_given (dump most) work h = let is : work ≡ dumps = cc in subst (IsGivenWork language) (sym is) tt
  work_given (compare most) work h = let is : work ≡ compares = cc in subst (IsGivenWork language) (sym is) tt
  work_given (own request) work h = absurd h
