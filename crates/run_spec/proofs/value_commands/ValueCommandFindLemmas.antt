-- The task that the files determine. There is at most one task, which depends only on the requested
-- files. Each requested file is read or ends the run.
use Rattle.std.proofs.Common.{◌≡◌, ◌⊎◌, ℕ, Bool, List, Option, Some, Result, Ok, Err, inl, inr, refl, sym, ap, ◌∙◌, subst}
use Rattle.std.specs.Prelude.{MatchResult}
use Rattle.cli_spec.specs.Outcome as outcome
use Rattle.cli_spec.specs.Outcome.{Found, opened, whole, Request, AskedType, asked_with, asked_type, report, get, edit, dump, compare, own, Query, the_part, ValueWork, reports, edits, Task, task, limit_of, Language, Then, OrRefusal, ReadsFile, ReadsTypeOf, ReadsPathOf, ReadsScriptOf, ReportsAt, EditsBy, FindsWork}
use Rattle.cli_spec.specs.declared.exit.Exit.{Exit}
use Rattle.cli_spec.specs.declared.exit.Exit.TheVariants.{Declarations as declarations, RequestedType as requested_type, Script as script_line}
use Rattle.run_spec.specs.runs.Commands.{Fetches}
use Rattle.run_spec.specs.runs.Lawful.{IsOnce, IsInner, IsWhole, FailsAtFile}
use Rattle.run_spec.specs.runs.LawfulLanguage.{IsLawful}
use Rattle.run_spec.proofs.runs.ExampleLemmas.{reads_once}
use Rattle.run_spec.proofs.runs.RunOnceLemmas.{Then_once}
use Rattle.run_spec.specs.value_commands.Tasks.{by_turns, WantsFile, WantsScript, Wants, Finds, commands}
use Rattle.run_spec.proofs.value_commands.ValueCommandGivenLemmas.{IsGivenWork, work_given}

-- If a file is read, then the file is read completely.
pub whole_or :
    {S : Type 0} (found : Found) → ((bytes : List ℕ) × (found ≡ opened (whole bytes))) ⊎ S
    → IsWhole found ⊎ S
whole_or found (inl read) = inl (inl read)
whole_or found (inr exits) = inr exits

-- The result of reading a text, or the exit reason that reports its refusal, is unique.
pub refusal_once :
    {X R : Type 0} (Reads : Result X R → Type 0) (exit : R → Exit)
    → IsOnce Reads → IsOnce (OrRefusal Reads exit)
refusal_once Reads exit one (Ok x) (Ok y) h k =
    let same : x ≡ y = cc (one (Ok x) (Ok y) h k) in ap (λ x. Ok x) same
refusal_once Reads exit one (Ok x) (Err s) h (refusal, refuses, is) =
    absurd (cc (one (Ok x) (Err refusal) h refuses))
refusal_once Reads exit one (Err s) (Ok y) (refusal, refuses, is) k =
    absurd (cc (one (Err refusal) (Ok y) refuses k))
refusal_once Reads exit one (Err s) (Err t) (refusal, refuses, is) (other, refuses', is') =
    let same : refusal ≡ other = cc (one (Err refusal) (Err other) refuses refuses') in
    ap (λ s. Err s) (is ∙ (ap exit same ∙ sym is'))

-- The file is read, or the file ends the run.
abbrev pub IsRead : {X : Type 0} → List ℕ → Found → Result X Exit → Type 0
IsRead name found result = ((bytes : List ℕ) × (found ≡ opened (whole bytes)))
    ⊎ ((exit : Exit) × ReadsFile name found (Err exit) × (result ≡ Err exit))

pub file_read :
    (name : List ℕ) (found : Found) (result : Result (List ℕ) Exit)
    → ReadsFile name found result → IsRead name found result
file_read name found (Ok bytes) reads = inl (bytes, reads)
file_read name found (Err exit) reads = inr (exit, reads, refl)

-- If the first stage reads a file, then the composition of the stages reads the file.
pub then_read :
    {X Y : Type 0} (name : List ℕ) (found : Found)
    (first : Result X Exit → Type 0) (next : X → Result Y Exit → Type 0)
    → ((given : Result X Exit) → first given → IsRead name found given)
    → (result : Result Y Exit) → Then first next result → IsRead name found result
then_read {X} {Y} name found first next reads result (given, h, m) = from given m (reads given h) where
  from : (given : Result X Exit)
      → MatchResult given (λ x. next x result) (λ exit. result ≡ Err exit)
      → IsRead name found given → IsRead name found result
  from (Ok x) m (inl whole) = inl whole
  from (Err s) m (inl whole) = inl whole
  from (Ok x) m (inr (exit, fault, is)) = absurd (cc is)
  from (Err s) m (inr (exit, fault, is)) =
      let same : s ≡ exit = cc is in inr (exit, fault, m ∙ ap (λ s. Err s) same)

module _ {D T E : Type 0} (language : Language D T E) (lawful : IsLawful language) where
  -- ---- the task is unique

  text_once : (lined : Bool) (text : List ℕ) → IsOnce (language.ReadsDeclarations lined text)
  text_once lined text (Ok d) (Ok e) h k =
      ap (λ d. Ok d) (lawful.same_declarations lined text d e h k)
  text_once lined text (Ok d) (Err r) h k = absurd (lawful.declarations_once lined text d r h k)
  text_once lined text (Err r) (Ok e) h k = absurd (lawful.declarations_once lined text e r k h)
  text_once lined text (Err r) (Err s) h k =
      ap (λ r. Err r) (lawful.same_refusal lined text r s h k)

  requested_once : (d : D) (text : AskedType) → IsOnce (language.ReadsType d text)
  requested_once d text (Ok t) (Ok u) h k = ap (λ t. Ok t) (lawful.same_type d text t u h k)
  requested_once d text (Ok t) (Err r) h k = absurd (lawful.type_once d text t r h k)
  requested_once d text (Err r) (Ok u) h k = absurd (lawful.type_once d text u r k h)
  requested_once d text (Err r) (Err s) h k =
      ap (λ r. Err r) (lawful.same_type_refusal d text r s h k)

  lines_once : (lined decimal : Bool) (text : List ℕ) → IsOnce (language.ReadsScript lined decimal text)
  lines_once lined decimal text (Ok l) (Ok m) h k = ap (λ l. Ok l) (lawful.same_script lined decimal text l m h k)
  lines_once lined decimal text (Ok l) (Err r) h k = absurd (lawful.script_once lined decimal text l r h k)
  lines_once lined decimal text (Err r) (Ok m) h k = absurd (lawful.script_once lined decimal text m r k h)
  lines_once lined decimal text (Err r) (Err s) h k =
      ap (λ r. Err r) (lawful.same_script_refusal lined decimal text r s h k)

  path_once : (text : List ℕ) → IsOnce (ReadsPathOf language text)
  path_once text (Ok p) (Ok q) h k = ap (λ p. Ok p) (lawful.same_path text p q h k)
  path_once text (Ok p) (Err s) h (none, is) = absurd (lawful.path_once text p h none)
  path_once text (Err s) (Ok q) (none, is) k = absurd (lawful.path_once text q k none)
  path_once text (Err s) (Err t) (none, is) (none', is') = ap (λ s. Err s) (is ∙ sym is')

  pub type_once :
      (file : List ℕ → Found) (typed : List ℕ × AskedType)
      → IsOnce (ReadsTypeOf language file typed)
  type_once file typed =
      Then_once (ReadsFile typed.0 (file typed.0))
      (λ text. Then (OrRefusal (language.ReadsDeclarations typed.1.lines text) declarations)
      (λ decls. OrRefusal (language.ReadsType decls typed.1) requested_type))
      (reads_once typed.0 (file typed.0))
      (λ text. Then_once (OrRefusal (language.ReadsDeclarations typed.1.lines text) declarations)
      (λ decls. OrRefusal (language.ReadsType decls typed.1) requested_type)
      (refusal_once (language.ReadsDeclarations typed.1.lines text) declarations (text_once typed.1.lines text))
      (λ decls. refusal_once (language.ReadsType decls typed.1) requested_type
      (requested_once decls typed.1)))

  reports_once :
      (file : List ℕ → Found) (typed : List ℕ × AskedType) (query : Query)
      → IsOnce (ReportsAt language file typed query)
  reports_once file typed query =
      Then_once (ReadsTypeOf language file typed) (λ type found. found ≡ Ok (reports query type))
      (type_once file typed) (λ type found other h k. h ∙ sym k)

  script_once :
      (lined decimal : Bool) (script : List ℕ → Found) (name : List ℕ)
      → IsOnce (ReadsScriptOf language lined decimal script name)
  script_once lined decimal script name =
      Then_once (ReadsFile name (script name))
      (λ text. OrRefusal (language.ReadsScript lined decimal text)
      (λ refusal. script_line refusal.0 refusal.1)) (reads_once name (script name))
      (λ text. refusal_once (language.ReadsScript lined decimal text)
      (λ refusal. script_line refusal.0 refusal.1) (lines_once lined decimal text))

  edits_once :
      (files : outcome.FetchResults) (typed : List ℕ × AskedType) (name : List ℕ) (compat : Bool)
      → IsOnce (EditsBy language files typed name compat)
  edits_once files typed name compat =
      Then_once (ReadsTypeOf language files.file typed)
      (λ type. Then (ReadsScriptOf language typed.1.lines typed.1.decimal files.script name)
      (λ script found. found ≡ Ok (edits type script compat)))
      (type_once files.file typed)
      (λ type. Then_once (ReadsScriptOf language typed.1.lines typed.1.decimal files.script name)
      (λ script found. found ≡ Ok (edits type script compat))
      (script_once typed.1.lines typed.1.decimal files.script name) (λ script found other h k. h ∙ sym k))

  work_once :
      (files : outcome.FetchResults) (request : Request) → IsOnce (FindsWork language files request)
  work_once files (report query f t lined most) r s h k = reports_once files.file (f, asked_type t lined) query r s h k
  work_once files (get f t text style lined most) r s h k =
      Then_once (ReadsPathOf language text)
      (λ path. ReportsAt language files.file (f, asked_type t lined) (the_part path style))
      (path_once text) (λ path. reports_once files.file (f, asked_type t lined) (the_part path style)) r s h k
  work_once files (edit f t script compat lined decimal most) r s h k =
      edits_once files (f, asked_with t lined decimal) script compat r s h k
  work_once files (dump most) r s h k = h ∙ sym k
  work_once files (compare most) r s h k = h ∙ sym k
  work_once files (own request) r s h k = absurd h

  pub finds_once :
      (request : Request) (files : Fetches) → IsOnce (Finds language request files)
  finds_once request files =
      Then_once (FindsWork language (by_turns files) request)
      (λ work found. found ≡ Ok (task work (limit_of request)))
      (work_once (by_turns files) request) (λ work found other h k. h ∙ sym k)

  -- If a task is found, then the type of the task was read from a file.
  pub finds_given :
      (request : Request) (files : Fetches) (a : Task T E)
      → Finds language request files (Ok a) → IsGivenWork language a.work
  finds_given request files a (Err s, h, known) = absurd (cc known)
  finds_given request files a (Ok work, h, known) =
      let is : a ≡ task work (limit_of request) = cc in
      subst (λ a. IsGivenWork language a.work) (sym is)
      (work_given language (by_turns files) request work h)

  -- ---- the task depends only on the requested files

  pub type_by :
      (file other : List ℕ → Found) (typed : List ℕ × AskedType) (result : Result T Exit)
      → file typed.0 ≡ other typed.0
      → ReadsTypeOf language file typed result → ReadsTypeOf language other typed result
  type_by file other typed result same (text, reads, next) =
      (text, subst (λ found. ReadsFile typed.0 found text) same reads, next)

  reports_by :
      (file other : List ℕ → Found) (typed : List ℕ × AskedType) (query : Query)
      (result : Result (ValueWork T E) Exit) → file typed.0 ≡ other typed.0
      → ReportsAt language file typed query result → ReportsAt language other typed query result
  reports_by file other typed query result same (type, reads, next) =
      (type, type_by file other typed type same reads, next)

  script_by :
      (lined decimal : Bool) (script other : List ℕ → Found) (name : List ℕ) (result : Result (List E) Exit)
      → script name ≡ other name → ReadsScriptOf language lined decimal script name result
      → ReadsScriptOf language lined decimal other name result
  script_by lined decimal script other name result same (text, reads, next) =
      (text, subst (λ found. ReadsFile name found text) same reads, next)

  -- The task that the lines of SCRIPT determine.
  abbrev Lines : (lined decimal : Bool) → Fetches → List ℕ → Bool → Result (ValueWork T E) Exit → T → Type 0
  Lines lined decimal files name compat result type =
      Then (ReadsScriptOf language lined decimal (files 1) name)
      (λ lines found. found ≡ Ok (edits type lines compat)) result

  work_by :
      (request : Request) (files others : Fetches) (result : Result (ValueWork T E) Exit)
      → ((turn : ℕ) (name : List ℕ) → Wants language request files turn name
      → files turn name ≡ others turn name)
      → FindsWork language (by_turns files) request result
      → FindsWork language (by_turns others) request result
  work_by (report query f t lined most) files others result same h =
      reports_by (files 0) (others 0) (f, asked_type t lined) query result
      (same 0 f (inl (refl, record { has_path = tt; type = asked_type t lined; typed = refl }))) h
  work_by (get f t text style lined most) files others result same (Err s, none, next) = (Err s, none, next)
  work_by (get f t text style lined most) files others result same (Ok path, is_path, h) = (
    Ok path,
    is_path,
    reports_by (files 0) (others 0) (f, asked_type t lined) (the_part path style) result
        (same 0 f (inl (refl, record { has_path = (path, is_path); type = asked_type t lined; typed = refl }))) h,
  )
  work_by (edit f t script compat lined decimal most) files others result same (type, reads, next) =
      (type, type_by (files 0) (others 0) (f, asked_with t lined decimal) type wanted reads, from type reads next) where
        wanted : files 0 f ≡ others 0 f
        wanted = same 0 f (inl (refl, record { has_path = tt; type = asked_with t lined decimal; typed = refl }))

        from : (type : Result T Exit) → ReadsTypeOf language (files 0) (f, asked_with t lined decimal) type
            → MatchResult type (Lines lined decimal files script compat result) (λ exit. result ≡ Err exit)
            → MatchResult type (Lines lined decimal others script compat result) (λ exit. result ≡ Err exit)
        from (Err s) reads is = is
        from (Ok type) reads (lines, read, is) =
            let asked : WantsScript language (edit f t script compat lined decimal most) files script =
            record { scripted = refl; typed = (f, asked_with t lined decimal); is_typed = refl; type = type; reads = reads } in
            (lines, script_by lined decimal (files 1) (others 1) script lines (same 1 script (inr (refl, asked))) read, is)
  work_by (dump most) files others result same h = h
  work_by (compare most) files others result same h = h
  work_by (own request) files others result same h = h

  pub finds_by :
      (request : Request) (files others : Fetches) (result : Result (Task T E) Exit)
      → ((turn : ℕ) (name : List ℕ) → Wants language request files turn name
      → files turn name ≡ others turn name)
      → Finds language request files result → Finds language request others result
  finds_by request files others result same (work, h, next) =
      (work, work_by request files others work same h, next)

  -- ---- each requested file is read, or ends the run

  pub type_read :
      (file : List ℕ → Found) (typed : List ℕ × AskedType) (result : Result T Exit)
      → ReadsTypeOf language file typed result → IsRead typed.0 (file typed.0) result
  type_read file typed =
      then_read typed.0 (file typed.0) (ReadsFile typed.0 (file typed.0))
      (λ text. Then (OrRefusal (language.ReadsDeclarations typed.1.lines text) declarations)
      (λ decls. OrRefusal (language.ReadsType decls typed.1) requested_type))
      (file_read typed.0 (file typed.0))

  reports_read :
      (file : List ℕ → Found) (typed : List ℕ × AskedType) (query : Query)
      (result : Result (ValueWork T E) Exit) → ReportsAt language file typed query result
      → IsRead typed.0 (file typed.0) result
  reports_read file typed query =
      then_read typed.0 (file typed.0) (ReadsTypeOf language file typed)
      (λ type found. found ≡ Ok (reports query type)) (type_read file typed)

  script_read :
      (lined decimal : Bool) (script : List ℕ → Found) (name : List ℕ) (result : Result (List E) Exit)
      → ReadsScriptOf language lined decimal script name result → IsRead name (script name) result
  script_read lined decimal script name =
      then_read name (script name) (ReadsFile name (script name))
      (λ text. OrRefusal (language.ReadsScript lined decimal text)
      (λ refusal. script_line refusal.0 refusal.1)) (file_read name (script name))

  edits_read :
      (files : outcome.FetchResults) (typed : List ℕ × AskedType) (name : List ℕ) (compat : Bool)
      (result : Result (ValueWork T E) Exit) → EditsBy language files typed name compat result
      → IsRead typed.0 (files.file typed.0) result
  edits_read files typed name compat =
      then_read typed.0 (files.file typed.0) (ReadsTypeOf language files.file typed)
      (λ type. Then (ReadsScriptOf language typed.1.lines typed.1.decimal files.script name)
      (λ script found. found ≡ Ok (edits type script compat))) (type_read files.file typed)

  -- If FILE of the arguments is the requested file, then their names are equal.
  same_file :
      (f : List ℕ) (t : AskedType) (name : List ℕ) (files : Fetches)
      (result : Result (ValueWork T E) Exit) (type : AskedType)
      → ◌≡◌ {A = Option (List ℕ × AskedType)} (Some (f, t)) (Some (name, type))
      → IsRead f (files 0 f) result → IsRead name (files 0 name) result
  same_file f t name files result type same =
      let both : ◌≡◌ {A = List ℕ × AskedType} (f, t) (name, type) = cc in
      subst (λ n. IsRead n (files 0 n) result) (ap (λ p. p.0) both)

  file_wanted :
      (request : Request) (files : Fetches) (result : Result (ValueWork T E) Exit) (name : List ℕ)
      → FindsWork language (by_turns files) request result → WantsFile language request name
      → IsRead name (files 0 name) result
  file_wanted (report query f t lined most) files result name h w =
      same_file f (asked_type t lined) name files result w.type w.typed
      (reports_read (files 0) (f, asked_type t lined) query result h)
  file_wanted (get f t text style lined most) files result name (Err s, (none, is), next) w =
      absurd (lawful.path_once text w.has_path.0 w.has_path.1 none)
  file_wanted (get f t text style lined most) files result name (Ok path, is_path, h) w =
      same_file f (asked_type t lined) name files result w.type w.typed
      (reports_read (files 0) (f, asked_type t lined) (the_part path style) result h)
  file_wanted (edit f t script compat lined decimal most) files result name h w =
      same_file f (asked_with t lined decimal) name files result w.type w.typed
      (edits_read (by_turns files) (f, asked_with t lined decimal) script compat result h)
  file_wanted (dump most) files result name h w = let e = w.typed in absurd (cc e)
  file_wanted (compare most) files result name h w = let e = w.typed in absurd (cc e)
  file_wanted (own request) files result name h w = absurd h

  script_wanted :
      (request : Request) (files : Fetches) (result : Result (ValueWork T E) Exit) (name : List ℕ)
      → FindsWork language (by_turns files) request result
      → WantsScript language request files name → IsRead name (files 1 name) result
  script_wanted (report query f t lined most) files result name h w = let e = w.scripted in absurd (cc e)
  script_wanted (get f t text style lined most) files result name h w = let e = w.scripted in absurd (cc e)
  script_wanted (edit f t script compat lined decimal most) files result name (given, reads, next) w =
      from given (type_once (files 0) (f, asked_with t lined decimal) (Ok w.type) given first reads) next where
        both : ◌≡◌ {A = List ℕ × AskedType} (f, asked_with t lined decimal) w.typed
        both =
            let e : ◌≡◌ {A = Option (List ℕ × AskedType)} (Some (f, asked_with t lined decimal)) (Some w.typed) =
            w.is_typed in cc e

        first : ReadsTypeOf language (files 0) (f, asked_with t lined decimal) (Ok w.type)
        first = subst (λ p. ReadsTypeOf language (files 0) p (Ok w.type)) (sym both) w.reads

        same : script ≡ name
        same = let e : ◌≡◌ {A = Option (List ℕ)} (Some script) (Some name) = w.scripted in cc e

        from : (given : Result T Exit) → Ok w.type ≡ given
            → MatchResult given (Lines lined decimal files script compat result) (λ exit. result ≡ Err exit)
            → IsRead name (files 1 name) result
        from (Err s) e next = absurd (cc e)
        from (Ok type) e next =
            subst (λ n. IsRead n (files 1 n) result) same
            (then_read script (files 1 script) (ReadsScriptOf language lined decimal (files 1) script)
            (λ lines found. found ≡ Ok (edits type lines compat))
            (script_read lined decimal (files 1) script) result next)
  script_wanted (dump most) files result name h w = let e = w.scripted in absurd (cc e)
  script_wanted (compare most) files result name h w = let e = w.scripted in absurd (cc e)
  script_wanted (own request) files result name h w = absurd h

  pub wanted_read :
      (request : Request) (files : Fetches) (result : Result (Task T E) Exit)
      → Finds language request files result
      → (turn : ℕ) (name : List ℕ) → Wants language request files turn name
      → IsRead name (files turn name) result
  wanted_read request files result h turn name (inl (now, w)) =
      subst (λ t. IsRead name (files t name) result) (sym now)
      (then_read name (files 0 name) (FindsWork language (by_turns files) request)
      (λ work found. found ≡ Ok (task work (limit_of request)))
      (λ given found. file_wanted request files given name found w) result h)
  wanted_read request files result h turn name (inr (now, w)) =
      subst (λ t. IsRead name (files t name) result) (sym now)
      (then_read name (files 1 name) (FindsWork language (by_turns files) request)
      (λ work found. found ≡ Ok (task work (limit_of request)))
      (λ given found. script_wanted request files given name found w) result h)

  -- ---- an exit reason of the environment comes from a requested file

  -- The environment did not cause the exit reason, or the file `name` led to the exit reason.
  abbrev pub ComesOf : List ℕ → Found → Exit → Type 0
  ComesOf name found exit = IsInner exit ⊎ ReadsFile name found (Err exit)

  pub type_inside :
      (file : List ℕ → Found) (typed : List ℕ × AskedType) (exit : Exit)
      → ReadsTypeOf language file typed (Err exit) → ComesOf typed.0 (file typed.0) exit
  type_inside file typed exit (Err s, fault, is) =
      let same : s ≡ exit = cc is in
      inr (subst (λ s. ReadsFile typed.0 (file typed.0) (Err s)) same fault)
  type_inside file typed exit (Ok text, reads, (Err s, (refusal, refuses, e), is)) =
      let same : exit ≡ s = cc is in
      inl (subst IsInner (sym (same ∙ e)) tt)
  type_inside file typed exit (Ok text, reads, (Ok d, g, (refusal, refuses, e))) =
      inl (subst IsInner (sym e) tt)

  reports_inside :
      (file : List ℕ → Found) (typed : List ℕ × AskedType) (query : Query) (exit : Exit)
      → ReportsAt language file typed query (Err exit) → ComesOf typed.0 (file typed.0) exit
  reports_inside file typed query exit (Ok type, reads, known) = absurd (cc known)
  reports_inside file typed query exit (Err s, reads, is) =
      let same : s ≡ exit = cc is in
      subst (ComesOf typed.0 (file typed.0)) same (type_inside file typed s reads)

  script_inside :
      (lined decimal : Bool) (script : List ℕ → Found) (name : List ℕ) (exit : Exit)
      → ReadsScriptOf language lined decimal script name (Err exit) → ComesOf name (script name) exit
  script_inside lined decimal script name exit (Err s, fault, is) =
      let same : s ≡ exit = cc is in
      inr (subst (λ s. ReadsFile name (script name) (Err s)) same fault)
  script_inside lined decimal script name exit (Ok text, reads, (refusal, refuses, e)) =
      inl (subst IsInner (sym e) tt)

  -- The environment did not cause the exit reason, or a requested file ends the run.
  abbrev IsInside : Request → Fetches → Exit → Type 0
  IsInside request files exit =
      IsInner exit ⊎ FailsAtFile (commands language) request files (Err exit)

  at_file :
      (request : Request) (files : Fetches) (exit : Exit) (turn : ℕ) (name : List ℕ)
      → Wants language request files turn name
      → ComesOf name (files turn name) exit → IsInside request files exit
  at_file request files exit turn name wants (inl inner) = inl inner
  at_file request files exit turn name wants (inr fault) = inr (record {
    turn = turn;
    name = name;
    wants = wants;
    exit = exit;
    fault = fault;
    is = refl;
  })

  work_inside :
      (request : Request) (files : Fetches) (exit : Exit)
      → FindsWork language (by_turns files) request (Err exit) → IsInside request files exit
  work_inside (report query f t lined most) files exit h =
      at_file (report query f t lined most) files exit 0 f
      (inl (refl, record { has_path = tt; type = asked_type t lined; typed = refl }))
      (reports_inside (files 0) (f, asked_type t lined) query exit h)
  work_inside (get f t text style lined most) files exit (Err s, (none, e), is) =
      let same : exit ≡ s = cc is in inl (subst IsInner (sym (same ∙ e)) tt)
  work_inside (get f t text style lined most) files exit (Ok path, is_path, h) =
      at_file (get f t text style lined most) files exit 0 f
      (inl (refl, record { has_path = (path, is_path); type = asked_type t lined; typed = refl }))
      (reports_inside (files 0) (f, asked_type t lined) (the_part path style) exit h)
  work_inside (edit f t script compat lined decimal most) files exit (Err s, reads, is) =
      let same : s ≡ exit = cc is in
      at_file (edit f t script compat lined decimal most) files exit 0 f
      (inl (refl, record { has_path = tt; type = asked_with t lined decimal; typed = refl }))
      (subst (ComesOf f (files 0 f)) same (type_inside (files 0) (f, asked_with t lined decimal) s reads))
  work_inside (edit f t script compat lined decimal most) files exit (Ok type, reads, (Ok lines, read, known)) =
      absurd (cc known)
  work_inside (edit f t script compat lined decimal most) files exit (Ok type, reads, (Err s, read, is)) =
      let same : s ≡ exit = cc is in
      let asked : WantsScript language (edit f t script compat lined decimal most) files script =
      record { scripted = refl; typed = (f, asked_with t lined decimal); is_typed = refl; type = type; reads = reads } in
      at_file (edit f t script compat lined decimal most) files exit 1 script (inr (refl, asked))
      (subst (ComesOf script (files 1 script)) same (script_inside lined decimal (files 1) script s read))
  work_inside (dump most) files exit h = absurd (cc h)
  work_inside (compare most) files exit h = absurd (cc h)
  work_inside (own request) files exit h = absurd h

  pub finds_inside :
      (request : Request) (files : Fetches) (exit : Exit)
      → Finds language request files (Err exit) → IsInside request files exit
  finds_inside request files exit (Ok work, h, known) = absurd (cc known)
  finds_inside request files exit (Err s, h, is) =
      let same : s ≡ exit = cc is in
      subst (IsInside request files) same (work_inside request files s h)

  -- ---- in each turn at most one file is requested

  pub wants_once :
      (request : Request) (files : Fetches) (turn : ℕ)
      → IsOnce (Wants language request files turn)
  wants_once request files turn name other (inl (now, w)) (inl (now', v)) =
      let e : ◌≡◌ {A = Option (List ℕ × AskedType)} (Some (name, w.type)) (Some (other, v.type)) =
      sym w.typed ∙ v.typed in
      let both : ◌≡◌ {A = List ℕ × AskedType} (name, w.type) (other, v.type) = cc e in
      ap (λ p. p.0) both
  wants_once request files turn name other (inl (now, w)) (inr (now', v)) = absurd (cc (now, now'))
  wants_once request files turn name other (inr (now, w)) (inl (now', v)) = absurd (cc (now, now'))
  wants_once request files turn name other (inr (now, w)) (inr (now', v)) =
      let e : ◌≡◌ {A = Option (List ℕ)} (Some name) (Some other) = sym w.scripted ∙ v.scripted in
      cc e
