-- The commands on values are total: `dump` and `same` over each language, and the others over each
-- total language.
use Rattle.std.proofs.Common.{◌≡◌, ◌≢◌, ◌≤◌, ◌+◌, ℕ, Bool, true, false, List, [], ◌∷◌, ◌++◌, length, take, drop, Option, Result, Ok, Err, inl, inr, refl, sym, ap, ◌∙◌, subst, append-nil, append_assoc, length-append, arith}
use Rattle.std.proofs.lemmas.Bool.{cases_lt}
use Rattle.std.proofs.lemmas.List.{take-append-drop}
use Rattle.base_data.specs.model.Bytes.{AreBytes}
use Rattle.base_data.specs.declared.model.refusal.ReadRefusal.{ReadRefusal}
use Rattle.marshal_spec.specs.format.Judgement.{Judgement, Judges}
use Rattle.marshal_spec.specs.format.Judgement as j
use Rattle.marshal_spec.specs.format.Stream.{clean, cut}
use Rattle.marshal_spec.specs.format.Tree.{Tree}
use Rattle.marshal_spec.proofs.format.JudgementLaws.{one_judgement_lem}
use Rattle.cli_spec.specs.Outcome as outcome
use Rattle.cli_spec.specs.Outcome.{Output, nothing_output, outputs, exits, found_of, FetchResults, Request, own, report, get, edit, dump, compare, AskedType, asked_with, asked_type, Query, the_part, Language, ValueWork, reports, edits, dumps, compares, Task, task, Unedited, unedited_exit, line, line_past, ends_script, comparison, AreSame, Finishes, ReadsScriptOf, ReportsAt, EditsBy, FindsWork, limit_of}
use Rattle.cli_spec.specs.RefusalText.{refusal_text, truncated_text}
use Rattle.cli_spec.specs.declared.exit.Exit.{Exit}
use Rattle.cli_spec.specs.declared.exit.Exit.TheVariants.{Value as value, NotTwoValues as not_two_values}
use Rattle.run_spec.specs.runs.Commands.{Item, value as value_item, AllPrint, GoesOn}
use Rattle.run_spec.specs.value_commands.Tasks.{by_turns, items_of, MayCome, IsFirstValue, ExitsHere, commands}
use Rattle.run_spec.proofs.value_commands.ValueCommandGivenLemmas.{IsGivenWork, work_given}
use Rattle.run_spec.proofs.value_commands.ValueCommandItemLemmas.{items_once, items_more, first_prefix}
use Rattle.thm_outcome.specs.Total.{NotNone, AreTotalAt, AreTotal, HasAnswer}
use Rattle.thm_outcome.specs.TotalLanguage.{IsEncoded, IsScript, IsTotal, IsValueRequest, ReadsNoType}
use Rattle.thm_outcome.proofs.SomeOutcomeLemmas.{answer_some}
use Rattle.thm_outcome.proofs.TotalFindLemmas.{untyped_finds_some, value_finds_some}

module _ {D T E : Type 0} (language : Language D T E) where
  -- What a task requires of the language: an output line, or the bytes of an edit. `dump` and `same`
  -- require nothing.
  abbrev pub IsTotalWork : ValueWork T E → Type 0
  IsTotalWork (reports query type) =
      (tree : Tree) → IsEncoded tree
      → ((text : List ℕ) (ok : Bool) → language.LineOf query type tree text ok → ⊥) → ⊥
  IsTotalWork (edits type script compat) =
      (earlier : List Tree) (output : List Output)
      → outcome.AllPrint language (edits type script compat) [] earlier output
      → (tree : Tree) → IsEncoded tree → NotNone (language.BytesOf type script compat earlier tree)
  IsTotalWork dumps = Unit {0}
  IsTotalWork compares = Unit {0}

  -- If the task has a script, then the script was read.
  abbrev IsReadWork : ValueWork T E → Type 0
  IsReadWork (edits type script compat) = IsScript language script
  IsReadWork (reports query type) = Unit {0}
  IsReadWork dumps = Unit {0}
  IsReadWork compares = Unit {0}

  given_total : IsTotal language → (work : ValueWork T E) → IsGivenWork language work → IsReadWork work → IsTotalWork work
  given_total total (reports query type) given read = total.line_some query type given
  given_total total (edits type script compat) given read = total.bytes_some type given script read compat
  given_total total dumps given read = tt
  given_total total compares given read = tt

  module _ (files : FetchResults) where
    script_read :
        (lined decimal : Bool) (name : List ℕ) (script : List E)
        → ReadsScriptOf language lined decimal files.script name (Ok script) → IsScript language script
    script_read lined decimal name script (Err exit, h, other) = absurd (cc other)
    script_read lined decimal name script (Ok text, h, reads) = (lined, decimal, text, reads)

    reports_read :
        (typed : List ℕ × AskedType) (query : Query) (work : ValueWork T E)
        → ReportsAt language files.file typed query (Ok work) → IsReadWork work
    reports_read typed query work (Err exit, h, same) = absurd (cc same)
    reports_read typed query work (Ok type, h, same) =
        let is : work ≡ reports query type = cc same in subst IsReadWork (sym is) tt

    edits_read :
        (typed : List ℕ × AskedType) (name : List ℕ) (compat : Bool) (work : ValueWork T E)
        → EditsBy language files typed name compat (Ok work) → IsReadWork work
    edits_read typed name compat work (Err exit, h, same) = absurd (cc same)
    edits_read typed name compat work (Ok type, h, (Err exit, lines, same)) = absurd (cc same)
    edits_read typed name compat work (Ok type, h, (Ok script, lines, same)) =
        let is : work ≡ edits type script compat = cc same in
        subst IsReadWork (sym is) (script_read typed.1.lines typed.1.decimal name script lines)

    work_read :
        (request : Request) (work : ValueWork T E)
        → FindsWork language files request (Ok work) → IsReadWork work
    work_read (report query name type lined reading) work h = reports_read (name, asked_type type lined) query work h
    work_read (get name type text style lined reading) work (Err exit, reads, same) = absurd (cc same)
    work_read (get name type text style lined reading) work (Ok path, reads, h) =
        reports_read (name, asked_type type lined) (the_part path style) work h
    work_read (edit name type script compat lined decimal reading) work h =
        edits_read (name, asked_with type lined decimal) script compat work h
    work_read (dump reading) work h = let is : work ≡ dumps = cc h in subst IsReadWork (sym is) tt
    work_read (compare reading) work h = let is : work ≡ compares = cc h in subst IsReadWork (sym is) tt
    work_read (own request) work h = absurd h

  -- `same` accepts at most two values.
  abbrev Few : ValueWork T E → List Tree → Type 0
  Few compares trees = length trees ≤ 2
  Few (reports query type) trees = Unit {0}
  Few (edits type script compat) trees = Unit {0}
  Few dumps trees = Unit {0}

  few_more : (w : ValueWork T E) (earlier : List Tree) (tree : Tree) (output : Output)
      → outcome.Outputs language w earlier tree output → Few w (earlier ++ tree ∷ [])
  few_more compares earlier tree output h = omega (arith, h.0, length-append earlier (tree ∷ []))
  few_more (reports query type) earlier tree output h = tt
  few_more (edits type script compat) earlier tree output h = tt
  few_more dumps earlier tree output h = tt

  few_none : (w : ValueWork T E) → Few w []
  few_none compares = omega arith
  few_none (reports query type) = tt
  few_none (edits type script compat) = tt
  few_none dumps = tt

  module _ (work : ValueWork T E) (limit : ℕ) where
    abbrev a : Task T E
    a = task work limit

    -- Items with outputs are values with outputs.
    record AreValues (before : List Tree) (items : List Item) (output : List Output) : Type 0 where
      trees : List Tree
      are : items ≡ items_of trees
      print : outcome.AllPrint language work before trees output
      few : Few work (before ++ trees)

    are_values :
        (before : List Tree) (items : List Item) (output : List Output) → Few work before
        → AllPrint (commands language) a (items_of before) items output
        → AreValues before items output
    are_values before [] [] few h =
        record { trees = []; are = refl; print = tt; few = subst (Few work) (sym (append-nil before)) few }
    are_values before [] (s ∷ output) few h = absurd h
    are_values before (t ∷ items) [] few h = absurd h
    are_values before (t ∷ items) (s ∷ output) few (first, h) =
        let same : before ≡ first.earlier = items_once before first.earlier first.are in
        let here : outcome.Outputs language work before first.tree s =
        subst (λ e. outcome.Outputs language work e first.tree s) (sym same) first.outputs in
        let next : items_of before ++ t ∷ [] ≡ items_of (before ++ first.tree ∷ []) =
        ap (λ t. items_of before ++ t ∷ []) first.is ∙ sym (items_more before first.tree) in
        let rest = are_values (before ++ first.tree ∷ []) items output (few_more work before first.tree s here)
        (subst (λ b. AllPrint (commands language) a b items output) next h) in
        record {
          trees = first.tree ∷ rest.trees;
          are = ap (λ i. i ∷ items) first.is ∙ ap (λ i. value_item first.tree ∷ i) rest.are;
          print = (here, rest.print);
          few = subst (Few work) (append_assoc before (first.tree ∷ []) rest.trees) rest.few;
        }

  -- ---- an output

  outputs_here :
      (w : ValueWork T E) → IsTotalWork w → (limit : ℕ) (trees : List Tree) (output : List Output)
      → outcome.AllPrint language w [] trees output → Few w trees
      → (items : List Item) → items ≡ items_of trees
      → (bytes : List ℕ) (item : Item) (more : List ℕ) → IsFirstValue language limit bytes item more
      → ((exit : Exit) → ExitsHere language (task w limit) items bytes exit → ⊥)
      → NotNone ((commands language).Outputs (task w limit) items item)
  outputs_here (reports query type) total limit trees output print few items are bytes item more is no_exit none =
      let s = is.encoded in
      total is.tree (limit, s.0, s.3) (λ text ok h.
      none (record { text = line text; ok = ok })
      (record { earlier = trees; are = are; tree = is.tree; is = is.is; outputs = (text, h, refl) }))
  outputs_here (edits type script compat) total limit trees output print few items are bytes item more is no_exit none =
      let s = is.encoded in
      total trees output print is.tree (limit, s.0, s.3) by where
        by : (answer : Result (List ℕ) Unedited) → language.BytesOf type script compat trees is.tree answer → ⊥
        by (Ok text) h =
            none (record { text = text; ok = true })
            (record { earlier = trees; are = are; tree = is.tree; is = is.is; outputs = (h, refl) })
        by (Err why) h =
            no_exit (unedited_exit (length trees) why)
            (record {
              trees = trees;
              are = are;
              why = inl (record {
                tree = is.tree;
                more = more;
                encoded = is.encoded;
                why = why;
                refused = h;
                exits = refl;
              });
            })
  outputs_here dumps total limit trees output print few items are bytes item more is no_exit none =
      none (record { text = language.lines_of is.tree; ok = true })
      (record { earlier = trees; are = are; tree = is.tree; is = is.is; outputs = (refl, refl) })
  outputs_here compares total limit trees output print few items are bytes item more is no_exit none =
      elim (cases_lt (length trees) 2) [
        | inl less ↦
            none nothing_output (record { earlier = trees; are = are; tree = is.tree; is = is.is; outputs = (less, refl) })
        | inr two ↦
            no_exit not_two_values (record { trees = trees; are = are; why = inl (omega (arith, two, few), some, refl) })
      ] where
        some : bytes ≢ []
        some e =
            let f = first_prefix language limit bytes item more is in
            let size : length bytes ≡ length f.0 + length more = ap length f.1 ∙ length-append f.0 more in
            let zero : length bytes ≡ 0 = ap length e in
            let has = f.2 in
            absurd (omega (arith, size, zero, has))

  -- ---- the end of the input

  finishes_some : (w : ValueWork T E) (trees : List Tree) → NotNone (Finishes language w trees)
  finishes_some (reports query type) trees none = none (outputs nothing_output) refl
  finishes_some (edits type script compat) trees none = none (ends_script language (line_past language script (length trees))) refl
  finishes_some dumps trees none = none (outputs nothing_output) refl
  finishes_some compares [] none = none (exits not_two_values) refl
  finishes_some compares (one ∷ []) none = none (exits not_two_values) refl
  finishes_some compares (one ∷ two ∷ []) none =
      let no : AreSame one two → ⊥ = λ same. none (outputs (comparison true)) (true, ((λ yes. same), (λ same. refl)), refl) in
      none (outputs (comparison false)) (false, ((λ yes. absurd (cc yes)), (λ same. absurd (no same))), refl)
  finishes_some compares (one ∷ two ∷ three ∷ more) none = none (exits not_two_values) refl

  module _ (limit : ℕ) (trees : List Tree) (items : List Item) (are : items ≡ items_of trees) where
    -- If bytes are refused as the next value, then the run ends at the bytes.
    refused_exits :
        (w : ValueWork T E) → Few w trees → (b : ℕ) (bytes : List ℕ)
        → ((exit : Exit) → ExitsHere language (task w limit) items (b ∷ bytes) exit → ⊥)
        → (n : ℕ) (refusal : ReadRefusal) → Judges limit (b ∷ bytes) (j.refused n refusal) → ⊥
    refused_exits w few b bytes no_exit n refusal r = by w few no_exit where
      refuses : (w : ValueWork T E) → MayCome language w (length trees)
          → ((exit : Exit) → ExitsHere language (task w limit) items (b ∷ bytes) exit → ⊥) → ⊥
      refuses w may no_exit =
          no_exit (value (length trees) (refusal_text refusal))
          (record { trees = trees; are = are; why = inr (record { may = may; refusal = refusal; tail = (n, r.0, r.1); is = refl }) })

      by : (w : ValueWork T E) → Few w trees
          → ((exit : Exit) → ExitsHere language (task w limit) items (b ∷ bytes) exit → ⊥) → ⊥
      by (reports query type) few no_exit = refuses (reports query type) tt no_exit
      by (edits type script compat) few no_exit = refuses (edits type script compat) tt no_exit
      by dumps few no_exit = refuses dumps tt no_exit
      by compares few no_exit =
          elim (cases_lt (length trees) 2) [
            | inl less ↦ refuses compares less no_exit
            | inr two ↦
                let some : (b ∷ bytes) ≢ [] = λ e. cc e in
                no_exit not_two_values (record { trees = trees; are = are; why = inl (omega (arith, two, few), some, refl) })
          ]

    ends_here :
        (w : ValueWork T E) → Few w trees → (bytes : List ℕ) → AreBytes bytes
        → GoesOn (commands language) (task w limit) items bytes
        → NotNone ((commands language).Ends (task w limit) items bytes)
    ends_here w few [] are_bytes on none =
        finishes_some w trees (λ last h.
        none last (record { trees = trees; are = are; end = clean; tail = refl; ends = h }))
    ends_here w few (b ∷ bytes) are_bytes on none =
        let one = one_judgement_lem limit (b ∷ bytes) are_bytes in by one.0 one.1.holds where
          by : (judgement : Judgement) → Judges limit (b ∷ bytes) judgement → ⊥
          by j.prefix f =
              none (exits (value (length trees) (truncated_text (length (b ∷ bytes)))))
              (record { trees = trees; are = are; end = cut (length (b ∷ bytes)); tail = (omega arith, refl, f); ends = refl })
          by (j.refused n refusal) r = refused_exits w few b bytes on.no_exit n refusal r
          by (j.value n tree) v =
              on.no_item (value_item tree) (drop n (b ∷ bytes))
              (record { tree = tree; is = refl; encoded = (take n (b ∷ bytes), drop n (b ∷ bytes), sym (take-append-drop n (b ∷ bytes)), v.1, refl) })

  -- ---- total tasks

  total_at : (work : ValueWork T E) (limit : ℕ) → IsTotalWork work → AreTotalAt (commands language) (task work limit)
  total_at work limit total = record {
    outputs_some = λ items output print bytes are_bytes item more is no_exit.
        let v = are_values work limit [] items output (few_none work) print in
        outputs_here work total limit v.trees output v.print v.few items v.are bytes item more is no_exit;
    ends_some = λ reads items output print bytes are_bytes on.
        let v = are_values work limit [] items output (few_none work) print in
        ends_here limit v.trees items v.are work v.few bytes are_bytes on;
    alone_some = λ unread none. unread tt;
  }

  pub dump_answer : (limit : ℕ) → HasAnswer (commands language) (task dumps limit)
  dump_answer limit =
      answer_some (commands language) (task dumps limit) (λ items. first_prefix language limit)
      (total_at dumps limit tt)

  pub same_answer : (limit : ℕ) → HasAnswer (commands language) (task compares limit)
  same_answer limit =
      answer_some (commands language) (task compares limit) (λ items. first_prefix language limit)
      (total_at compares limit tt)

  -- ---- total commands

  work_total_at :
      (request : Request) (files : List ℕ → Option (List ℕ)) (a : Task T E)
      → ((work : ValueWork T E) → FindsWork language (by_turns (λ turn name. found_of (files name))) request (Ok work) → IsTotalWork work)
      → (commands language).Finds request (λ turn name. found_of (files name)) (Ok a)
      → AreTotalAt (commands language) a
  work_total_at request files a total (Err exit, h, same) = absurd (cc same)
  work_total_at request files a total (Ok work, h, same) =
      let is : a ≡ task work (limit_of request) = cc same in
      subst (AreTotalAt (commands language)) (sym is) (total_at work (limit_of request) (total work h))

  pub values_total : IsTotal language → AreTotal (commands language) IsValueRequest
  values_total total = record {
    finds_some = λ request of files. value_finds_some language files total request of;
    at = λ request of files a. work_total_at request files a (λ work h.
        let looked = by_turns (λ turn name. found_of (files name)) in
        given_total total work (work_given language looked request work h) (work_read looked request work h));
  }

  untyped_total_work :
      (request : Request) → ReadsNoType request → (files : FetchResults) (work : ValueWork T E)
      → FindsWork language files request (Ok work) → IsTotalWork work
  untyped_total_work (report query name type lined reading) of files work h = absurd of
  untyped_total_work (get name type text style lined reading) of files work h = absurd of
  untyped_total_work (edit name type script compat lined decimal reading) of files work h = absurd of
  untyped_total_work (dump reading) of files work h = let is : work ≡ dumps = cc h in subst IsTotalWork (sym is) tt
  untyped_total_work (compare reading) of files work h = let is : work ≡ compares = cc h in subst IsTotalWork (sym is) tt
  untyped_total_work (own request) of files work h = absurd of

  pub untyped_total : AreTotal (commands language) ReadsNoType
  untyped_total = record {
    finds_some = λ request of files. untyped_finds_some language files request of;
    at = λ request of files a. work_total_at request files a
        (untyped_total_work request of (by_turns (λ turn name. found_of (files name))));
  }
