-- Over a total language, each request of a command on values leads to a task or to an exit reason,
-- if the files are given as a map.
use Rattle.std.proofs.Common.{List, ℕ, Bool, Option, Some, None, Result, Ok, Err, refl}
use Rattle.cli_spec.specs.Outcome.{found_of, Request, own, report, get, edit, dump, compare, AskedType, asked_with, asked_type, Query, the_part, Language, reports, edits, dumps, compares, task, Then, OrRefusal, ReadsFile, ReadsTypeOf, ReadsPathOf, ReadsScriptOf, ReportsAt, EditsBy, FindsWork, limit_of}
use Rattle.cli_spec.specs.declared.exit.Exit.{Exit}
use Rattle.cli_spec.specs.declared.exit.Exit.TheVariants.{BadPath as bad_path, CannotOpen as cannot_open, Declarations as declarations, RequestedType as requested_type, Script as script_line}
use Rattle.run_spec.specs.runs.Commands.{Fetches}
use Rattle.run_spec.specs.value_commands.Tasks.{by_turns, commands}
use Rattle.thm_outcome.specs.Total.{NotNone}
use Rattle.thm_outcome.specs.TotalLanguage.{IsTotal, IsValueRequest, ReadsNoType}

-- ---- stages

-- If each of two stages has a result, then the two stages in sequence have a result.
pub then_some :
    {X Y : Type 0} (first : Result X Exit → Type 0) (next : X → Result Y Exit → Type 0)
    → NotNone first → ((x : X) → first (Ok x) → NotNone (next x)) → NotNone (Then first next)
then_some {X} {Y} first next one rest none = one by where
  by : (given : Result X Exit) → first given → ⊥
  by (Ok x) f = rest x f (λ r n. none r (Ok x, f, n))
  by (Err exit) f = none (Err exit) (Err exit, f, refl)

pub refusal_some :
    {X R : Type 0} (Reads : Result X R → Type 0) (exit : R → Exit) → NotNone Reads
    → NotNone (OrRefusal Reads exit)
refusal_some {X} {R} Reads exit one none = one by where
  by : (given : Result X R) → Reads given → ⊥
  by (Ok x) f = none (Ok x) f
  by (Err refusal) f = none (Err (exit refusal)) (refusal, f, refl)

file_some : (name : List ℕ) (o : Option (List ℕ)) → NotNone (ReadsFile name (found_of o))
file_some name None none = none (Err (cannot_open name)) refl
file_some name (Some bytes) none = none (Ok bytes) refl

module _ {D T E : Type 0} (language : Language D T E) (files : List ℕ → Option (List ℕ)) where
  abbrev looked : Fetches
  looked = λ turn name. found_of (files name)

  task_some : (request : Request) → NotNone (FindsWork language (by_turns looked) request) → NotNone ((commands language).Finds request looked)
  task_some request some =
      then_some (FindsWork language (by_turns looked) request) _ some
      (λ work found none. none (Ok (task work (limit_of request))) refl)

  -- The requests that read no type lead to a task, over each language.
  pub untyped_finds_some : (request : Request) → ReadsNoType request → NotNone ((commands language).Finds request looked)
  untyped_finds_some (report query name type lined reading) of = absurd of
  untyped_finds_some (get name type text style lined reading) of = absurd of
  untyped_finds_some (edit name type script compat lined decimal reading) of = absurd of
  untyped_finds_some (dump reading) of = task_some (dump reading) (λ none. none (Ok dumps) refl)
  untyped_finds_some (compare reading) of = task_some (compare reading) (λ none. none (Ok compares) refl)
  untyped_finds_some (own request) of = absurd of

  module _ (total : IsTotal language) where
    type_some : (typed : List ℕ × AskedType) → NotNone (ReadsTypeOf language (λ name. found_of (files name)) typed)
    type_some typed =
        then_some (ReadsFile typed.0 (found_of (files typed.0))) _ (file_some typed.0 (files typed.0)) (λ text f.
        then_some (OrRefusal (language.ReadsDeclarations typed.1.lines text) declarations) _
        (refusal_some (language.ReadsDeclarations typed.1.lines text) declarations (total.declarations_some typed.1.lines text)) (λ d reads.
        refusal_some (language.ReadsType d typed.1) requested_type (total.type_some typed.1.lines text d reads typed.1)))

    path_some : (text : List ℕ) → NotNone (ReadsPathOf language text)
    path_some text none = total.path_some text by where
      by : (o : Option (List ℕ)) → language.ReadsPath text o → ⊥
      by (Some path) h = none (Ok path) h
      by None h = none (Err bad_path) (h, refl)

    script_some : (lined decimal : Bool) (name : List ℕ) → NotNone (ReadsScriptOf language lined decimal (λ name. found_of (files name)) name)
    script_some lined decimal name =
        then_some (ReadsFile name (found_of (files name))) _ (file_some name (files name)) (λ text f.
        refusal_some (language.ReadsScript lined decimal text) (λ refusal. script_line refusal.0 refusal.1)
        (total.script_some lined decimal text))

    reports_some : (typed : List ℕ × AskedType) (query : Query) → NotNone (ReportsAt language (λ name. found_of (files name)) typed query)
    reports_some typed query =
        then_some (ReadsTypeOf language (λ name. found_of (files name)) typed) _ (type_some typed)
        (λ type reads none. none (Ok (reports query type)) refl)

    edits_some : (typed : List ℕ × AskedType) (script : List ℕ) (compat : Bool) → NotNone (EditsBy language (by_turns looked) typed script compat)
    edits_some typed script compat =
        then_some (ReadsTypeOf language (λ name. found_of (files name)) typed) _ (type_some typed) (λ type reads.
        then_some (ReadsScriptOf language typed.1.lines typed.1.decimal (λ name. found_of (files name)) script) _
        (script_some typed.1.lines typed.1.decimal script)
        (λ lines read none. none (Ok (edits type lines compat)) refl))

    work_some : (request : Request) → IsValueRequest request → NotNone (FindsWork language (by_turns looked) request)
    work_some (report query name type lined reading) of = reports_some (name, asked_type type lined) query
    work_some (get name type text style lined reading) of =
        then_some (ReadsPathOf language text) _ (path_some text) (λ path reads. reports_some (name, asked_type type lined) (the_part path style))
    work_some (edit name type script compat lined decimal reading) of = edits_some (name, asked_with type lined decimal) script compat
    work_some (dump reading) of = λ none. none (Ok dumps) refl
    work_some (compare reading) of = λ none. none (Ok compares) refl
    work_some (own request) of = absurd of

    pub value_finds_some : (request : Request) → IsValueRequest request → NotNone ((commands language).Finds request looked)
    value_finds_some request of = task_some request (work_some request of)
