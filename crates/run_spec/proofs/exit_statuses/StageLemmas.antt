-- A request and its fetched files end the run with a status if and only if `Bar` holds for the
-- request, the files and the status.
use Rattle.std.proofs.Common.{◌≡◌, ◌⊎◌, ℕ, List, Option, Some, Ok, Err, inl, inr, refl, sym, ap, ◌∙◌, subst}
use Rattle.cli_spec.specs.declared.status.Status.{Status}
use Rattle.cli_spec.specs.declared.status.Status.TheVariants.{Usage, Types, Script, ReadFault, OpenFault, TooLong}
use Rattle.cli_spec.specs.Outcome.{ReadingEnd, at_end, at_fault, at_length, unasked, Found, opened, whole, missing, failed, unfetched, Request, AskedType, asked_with, asked_type, report, get, edit, dump, compare, own, status_of, fault_of, ReadsFile, ReadsTypeOf, ReadsScriptOf, Query, the_part, ReportsAt, FindsWork, Language}
use Rattle.cli_spec.specs.declared.exit.Exit.{Exit}
use Rattle.cli_spec.specs.declared.exit.Exit.TheVariants.{BadPath as bad_path, Declarations as declarations, RequestedType as requested_type, Script as script_line, ReadFault as read_fault, TooLong as too_long}
use Rattle.run_spec.specs.runs.Commands.{Fetches}
use Rattle.run_spec.specs.value_commands.Tasks.{by_turns, WantsFile, WantsScript, Wants, Finds, commands}
use Rattle.run_spec.specs.exit_causes.Causes.{HaveBars}
use Rattle.run_spec.specs.exit_statuses.Tables.{values_tables}
use Rattle.run_spec.specs.exit_statuses.Stages.{HasNoPath, IsRefusedType, RefusesTypes, RefusesScript, IsUnread, Bar}

-- The status can be that of a file that was not read.
abbrev pub IsOfFile : Status → Type 0
IsOfFile status = (status ≡ ReadFault) ⊎ ((status ≡ OpenFault) ⊎ (status ≡ TooLong))

end_status : (until : ReadingEnd) (exit : Exit) → fault_of until ≡ Some exit → IsOfFile (status_of exit)
end_status at_end exit e = absurd (cc e)
end_status at_fault exit e = let is : read_fault ≡ exit = cc e in inl (sym (ap status_of is))
end_status at_length exit e = let is : too_long ≡ exit = cc e in inr (inr (sym (ap status_of is)))
end_status unasked exit e = absurd (cc e)

pub file_status :
    (name : List ℕ) (found : Found) (exit : Exit) → ReadsFile name found (Err exit)
    → IsOfFile (status_of exit)
file_status name (opened taken) exit fault = end_status taken.until exit fault
file_status name missing exit fault = inr (inl (ap status_of fault))
file_status name failed exit fault = inr (inl (ap status_of fault))
file_status name unfetched exit fault = absurd fault

-- If a file was not read, then `Bar` holds for the status of its exit reason.
pub file_bar :
    (P Unread : Status → Type 0) → (Unread ReadFault → P ReadFault)
    → (Unread OpenFault → P OpenFault) → (Unread TooLong → P TooLong)
    → (name : List ℕ) (found : Found) (exit : Exit) → ReadsFile name found (Err exit)
    → ((status : Status) → status_of exit ≡ status → Unread status) → P (status_of exit)
file_bar P Unread at_read at_open at_long name found exit fault so =
    by (file_status name found exit fault) where
      by : IsOfFile (status_of exit) → P (status_of exit)
      by (inl e) = subst P (sym e) (at_read (so ReadFault e))
      by (inr (inl e)) = subst P (sym e) (at_open (so OpenFault e))
      by (inr (inr e)) = subst P (sym e) (at_long (so TooLong e))

module _ {D T E : Type 0} (language : Language D T E) where
  -- ---- FILE and TYPE

  -- If reading the type gives an exit reason, then the file gave the exit reason, or the file's
  -- contents or the type are refused.
  pub type_exit :
      (P : Exit → Type 0) (file : List ℕ → Found) (name : List ℕ) (type : AskedType) (exit : Exit)
      → ReadsTypeOf language file (name, type) (Err exit)
      → ((s : Exit) → ReadsFile name (file name) (Err s) → P s)
      → ((s : Exit) (text : List ℕ) → status_of s ≡ Types → file name ≡ opened (whole text)
      → IsRefusedType language text type → P s)
      → P exit
  type_exit P file name type exit (Err s, fault, is) of_file of_type =
      let same : s ≡ exit = cc is in subst P same (of_file s fault)
  type_exit P file name type exit (Ok text, read, (Err s, (refusal, refuses, e), is)) of_file of_type =
      let same : exit ≡ s = cc is in
      of_type exit text (ap status_of (same ∙ e)) read (inl (refusal, refuses))
  type_exit P file name type exit (Ok text, read, (Ok d, reads, (refusal, refuses, e))) of_file of_type =
      of_type exit text (ap status_of e) read (inr (d, refusal, reads, refuses))

  -- If the file's contents or the type are refused, then there is an exit reason with the status
  -- `Types`.
  pub refused_exit :
      (file : List ℕ → Found) (name : List ℕ) (type : AskedType) (text : List ℕ)
      → file name ≡ opened (whole text) → IsRefusedType language text type
      → (exit : Exit) × (status_of exit ≡ Types)
      × ReadsTypeOf language file (name, type) (Err exit)
  refused_exit file name type text read (inl (refusal, refuses)) = (
    declarations refusal,
    refl,
    (Ok text, read, (Err (declarations refusal), (refusal, refuses, refl), refl)),
  )
  refused_exit file name type text read (inr (d, refusal, reads, refuses)) =
      (requested_type refusal, refl, (Ok text, read, (Ok d, reads, (refusal, refuses, refl))))

  -- ---- an exit reason is a row of the table

  module _ (request : Request) (files : Fetches) where
    -- `Bar` holds for the status of the exit reason.
    abbrev BarBy : Exit → Type 0
    BarBy exit = Bar language request files (status_of exit)

    unread :
        (turn : ℕ) (name : List ℕ) → Wants language request files turn name → (exit : Exit)
        → ReadsFile name (files turn name) (Err exit) → BarBy exit
    unread turn name wants exit fault =
        file_bar (Bar language request files) (IsUnread language request files) (λ u. u) (λ u. u)
        (λ u. u) name (files turn name) exit fault (λ status is. record {
          turn = turn;
          name = name;
          wants = wants;
          exit = exit;
          fault = fault;
          is = is;
        })

    type_bar :
        (name : List ℕ) (wants : WantsFile language request name) (exit : Exit)
        → ReadsTypeOf language (files 0) (name, wants.type) (Err exit) → BarBy exit
    type_bar name wants exit reads =
        type_exit BarBy (files 0) name wants.type exit reads
        (λ s fault. unread 0 name (inl (refl, wants)) s fault)
        (λ s text is read refused. subst (Bar language request files) (sym is) (record {
          name = name;
          wants = wants;
          text = text;
          read = read;
          refused = refused;
        }))

    reports_bar :
        (name : List ℕ) (wants : WantsFile language request name) (query : Query) (exit : Exit)
        → ReportsAt language (files 0) (name, wants.type) query (Err exit) → BarBy exit
    reports_bar name wants query exit (Ok type, reads, known) = absurd (cc known)
    reports_bar name wants query exit (Err s, reads, is) =
        let same : s ≡ exit = cc is in subst BarBy same (type_bar name wants s reads)

    script_bar :
        (name : List ℕ) (wants : WantsScript language request files name) (exit : Exit)
        → ReadsScriptOf language wants.typed.1.lines wants.typed.1.decimal (files 1) name (Err exit) → BarBy exit
    script_bar name wants exit (Err s, fault, is) =
        let same : s ≡ exit = cc is in
        subst BarBy same (unread 1 name (inr (refl, wants)) s fault)
    script_bar name wants exit (Ok text, read, (refusal, refuses, e)) =
        subst BarBy (sym e) (record {
          name = name;
          wants = wants;
          text = text;
          read = read;
          refusal = refusal;
          refused = refuses;
        })

  work_bar :
      (request : Request) (files : Fetches) (exit : Exit)
      → FindsWork language (by_turns files) request (Err exit) → BarBy request files exit
  work_bar (report query f t lined most) files exit h =
      reports_bar (report query f t lined most) files f (record { has_path = tt; type = asked_type t lined; typed = refl })
      query exit h
  work_bar (get f t text style lined most) files exit (Err s, (none, e), is) =
      let same : exit ≡ s = cc is in
      subst (BarBy (get f t text style lined most) files) (sym (same ∙ e)) none
  work_bar (get f t text style lined most) files exit (Ok path, is_path, h) =
      reports_bar (get f t text style lined most) files f
      (record { has_path = (path, is_path); type = asked_type t lined; typed = refl }) (the_part path style) exit h
  work_bar (edit f t script compat lined decimal most) files exit (Err s, reads, is) =
      let same : s ≡ exit = cc is in
      subst (BarBy (edit f t script compat lined decimal most) files) same
      (type_bar (edit f t script compat lined decimal most) files f
      (record { has_path = tt; type = asked_with t lined decimal; typed = refl }) s reads)
  work_bar (edit f t script compat lined decimal most) files exit (Ok type, reads, (Ok lines, read, known)) =
      absurd (cc known)
  work_bar (edit f t script compat lined decimal most) files exit (Ok type, reads, (Err s, read, is)) =
      let same : s ≡ exit = cc is in
      let asked : WantsScript language (edit f t script compat lined decimal most) files script =
      record { scripted = refl; typed = (f, asked_with t lined decimal); is_typed = refl; type = type; reads = reads } in
      subst (BarBy (edit f t script compat lined decimal most) files) same
      (script_bar (edit f t script compat lined decimal most) files script asked s read)
  work_bar (dump most) files exit h = absurd (cc h)
  work_bar (compare most) files exit h = absurd (cc h)
  work_bar (own request) files exit h = absurd h

  pub bar_of :
      (request : Request) (files : Fetches) (exit : Exit)
      → Finds language request files (Err exit) → Bar language request files (status_of exit)
  bar_of request files exit (Ok work, h, known) = absurd (cc known)
  bar_of request files exit (Err s, h, is) =
      let same : s ≡ exit = cc is in
      subst (BarBy request files) same (work_bar request files s h)

  -- ---- a row of the table is an exit reason

  same_typed :
      (f : List ℕ) (t : AskedType) (name : List ℕ) (type : AskedType) (file : List ℕ → Found)
      (exit : Exit)
      → ◌≡◌ {A = Option (List ℕ × AskedType)} (Some (f, t)) (Some (name, type))
      → ReadsTypeOf language file (name, type) (Err exit)
      → ReadsTypeOf language file (f, t) (Err exit)
  same_typed f t name type file exit e reads =
      let both : ◌≡◌ {A = List ℕ × AskedType} (f, t) (name, type) = cc e in
      subst (λ p. ReadsTypeOf language file p (Err exit)) (sym both) reads

  type_work :
      (request : Request) (files : Fetches) (name : List ℕ)
      (wants : WantsFile language request name) (exit : Exit)
      → ReadsTypeOf language (files 0) (name, wants.type) (Err exit)
      → FindsWork language (by_turns files) request (Err exit)
  type_work (report query f t lined most) files name wants exit reads =
      (Err exit, same_typed f (asked_type t lined) name wants.type (files 0) exit wants.typed reads, refl)
  type_work (get f t text style lined most) files name wants exit reads = (
    Ok wants.has_path.0,
    wants.has_path.1,
    (Err exit, same_typed f (asked_type t lined) name wants.type (files 0) exit wants.typed reads, refl),
  )
  type_work (edit f t script compat lined decimal most) files name wants exit reads =
      (Err exit, same_typed f (asked_with t lined decimal) name wants.type (files 0) exit wants.typed reads, refl)
  type_work (dump most) files name wants exit reads = let e = wants.typed in absurd (cc e)
  type_work (compare most) files name wants exit reads = let e = wants.typed in absurd (cc e)
  type_work (own request) files name wants exit reads = let e = wants.typed in absurd (cc e)

  script_work :
      (request : Request) (files : Fetches) (name : List ℕ)
      (wants : WantsScript language request files name) (exit : Exit)
      → ReadsScriptOf language wants.typed.1.lines wants.typed.1.decimal (files 1) name (Err exit)
      → FindsWork language (by_turns files) request (Err exit)
  script_work (report query f t lined most) files name wants exit read =
      let e = wants.scripted in absurd (cc e)
  script_work (get f t text style lined most) files name wants exit read =
      let e = wants.scripted in absurd (cc e)
  script_work (edit f t script compat lined decimal most) files name wants exit read =
      let e : ◌≡◌ {A = Option (List ℕ)} (Some script) (Some name) = wants.scripted in
      let same : script ≡ name = cc e in
      let k : ◌≡◌ {A = Option (List ℕ × AskedType)} (Some (f, asked_with t lined decimal)) (Some wants.typed) =
      wants.is_typed in
      let both : ◌≡◌ {A = List ℕ × AskedType} (f, asked_with t lined decimal) wants.typed = cc k in (
        Ok wants.type,
        subst (λ p. ReadsTypeOf language (files 0) p (Ok wants.type)) (sym both) wants.reads,
        (
          Err exit,
          subst (λ n. ReadsScriptOf language lined decimal (files 1) n (Err exit)) (sym same)
              (subst (λ (p : List ℕ × AskedType). ReadsScriptOf language p.1.lines p.1.decimal (files 1) name (Err exit))
              (sym both) read),
          refl,
        ),
      )
  script_work (dump most) files name wants exit read = let e = wants.scripted in absurd (cc e)
  script_work (compare most) files name wants exit read = let e = wants.scripted in absurd (cc e)
  script_work (own request) files name wants exit read = let e = wants.scripted in absurd (cc e)

  path_work :
      (request : Request) (files : Fetches) → HasNoPath language request
      → FindsWork language (by_turns files) request (Err bad_path)
  path_work (report query f t lined most) files none = absurd none
  path_work (get f t text style lined most) files none = (Err bad_path, (none, refl), refl)
  path_work (edit f t script compat lined decimal most) files none = absurd none
  path_work (dump most) files none = absurd none
  path_work (compare most) files none = absurd none
  path_work (own request) files none = absurd none

  -- The request and its files lead to an exit reason with the status `status`.
  abbrev pub HasExitBefore : Request → Fetches → Status → Type 0
  HasExitBefore request files status =
      (exit : Exit) × (status_of exit ≡ status) × Finds language request files (Err exit)

  types_found :
      (request : Request) (files : Fetches) → RefusesTypes language request files
      → HasExitBefore request files Types
  types_found request files r =
      let s = refused_exit (files 0) r.name r.wants.type r.text r.read r.refused in
      (s.0, s.1, (Err s.0, type_work request files r.name r.wants s.0 s.2, refl))

  script_found :
      (request : Request) (files : Fetches) → RefusesScript language request files
      → HasExitBefore request files Script
  script_found request files r =
      let exit : Exit = script_line r.refusal.0 r.refusal.1 in (
        exit,
        refl,
        (
          Err exit,
          script_work request files r.name r.wants exit
              (Ok r.text, r.read, (r.refusal, r.refused, refl)),
          refl,
        ),
      )

  unread_found :
      (request : Request) (files : Fetches) (status : Status)
      → IsUnread language request files status → HasExitBefore request files status
  unread_found request files status u = (u.exit, u.is, (Err u.exit, by u.wants, refl)) where
    by : Wants language request files u.turn u.name
        → FindsWork language (by_turns files) request (Err u.exit)
    by (inl (now, w)) =
        type_work request files u.name w u.exit
        (Err u.exit, subst (λ t. ReadsFile u.name (files t u.name) (Err u.exit)) now u.fault, refl)
    by (inr (now, w)) =
        script_work request files u.name w u.exit
        (Err u.exit, subst (λ t. ReadsFile u.name (files t u.name) (Err u.exit)) now u.fault, refl)

  pub bad_path_found :
      (request : Request) (files : Fetches) → HasNoPath language request
      → Finds language request files (Err bad_path)
  bad_path_found request files none = (Err bad_path, path_work request files none, refl)

  pub bar_found :
      (request : Request) (files : Fetches) (status : Status) → Bar language request files status
      → HasExitBefore request files status
  bar_found request files Usage h = (bad_path, refl, bad_path_found request files h)
  bar_found request files Types h = types_found request files h
  bar_found request files Script h = script_found request files h
  bar_found request files ReadFault h = unread_found request files ReadFault h
  bar_found request files OpenFault h = unread_found request files OpenFault h
  bar_found request files TooLong h = unread_found request files TooLong h
  bar_found request files status h = absurd h

  pub have_bars : HaveBars (commands language) (values_tables language)
  have_bars request files status = (
    λ h. subst (Bar language request files) h.1 (bar_of request files h.0 h.2),
    bar_found request files status,
  )
