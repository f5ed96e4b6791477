-- Outputs for values and for the end of the input, by the tables. Outputs determine properties of
-- the values, and the properties determine outputs.
use Rattle.std.proofs.Common.{◌≡◌, ◌+◌, ◌<◌, ◌≤◌, Bool, true, false, List, [], ◌∷◌, ◌++◌, length, Option, Some, None, inl, inr, refl, sym, ap, ◌∙◌, subst, length-append, arith}
use Rattle.std.specs.Prelude.{◌&&◌, ◌↔◌, IsTrue, if◌then◌else◌}
use Rattle.std.specs.List.{AllByRecursion}
use Rattle.std.proofs.lemmas.Bool.{and_parts}
use Rattle.marshal_spec.specs.format.Tree.{Tree}
use Rattle.cli_spec.specs.declared.status.Status.{Status}
use Rattle.cli_spec.specs.declared.status.Status.TheVariants.{AllOk, No, Usage, Script}
use Rattle.cli_spec.specs.Outcome.{status_of, ending_of, line, Output, nothing_output, Reply, outputs, exits, Replies, replies, all_ok, Outputs, Language, Query, ValueWork, reports, edits, dumps, compares, line_past, ends_script, comparison, AreSame, Finishes}
use Rattle.cli_spec.specs.declared.exit.Exit.{Exit}
use Rattle.cli_spec.specs.declared.exit.Exit.TheVariants.{NotTwoValues as not_two_values}
use Rattle.run_spec.proofs.runs.RunValueLemmas.{and_true, all_ok-snoc}
use Rattle.run_spec.specs.value_commands.Tasks.{MayCome}
use Rattle.run_spec.specs.exit_statuses.ValueStatuses.{HoldsOfSome, AreTwo, HasLine, HasSomeLine, AreEdited, Pass, Finish}
use Rattle.run_spec.proofs.exit_statuses.ExitStatusItemLemmas.{AreOutput}

-- ---- outputs without errors

pub and_false : (b : Bool) → b && false ≡ false
and_false true = refl
and_false false = refl

-- If the run ends with a final output, then the status is 0 or 1 by the flags of the outputs.
pub output_status :
    (output : List Output) (last : Reply) (final : Output) (ok : Bool) → last ≡ outputs final
    → all_ok output && final.ok ≡ ok
    → (ending_of (replies output last)).status ≡ (if ok then AllOk else No)
output_status output last final ok is e =
    ap (λ l. (ending_of (replies output l)).status) is
    ∙ ap (λ w. if w then AllOk else No) (all_ok-snoc output final ∙ e)

-- If an exit reason ends the run, then the status is that of the exit reason.
pub exit_status :
    (output : List Output) (last : Reply) (exit : Exit) → last ≡ exits exit
    → (ending_of (replies output last)).status ≡ status_of exit
exit_status output last exit is = ap (λ l. (ending_of (replies output l)).status) is

two_by :
    (P Q : Tree → Tree → Type 0) → ((first second : Tree) → P first second → Q first second)
    → (trees : List Tree) → AreTwo P trees → AreTwo Q trees
two_by P Q by [] h = absurd h
two_by P Q by (t ∷ []) h = absurd h
two_by P Q by (t ∷ u ∷ []) h = by t u h
two_by P Q by (t ∷ u ∷ v ∷ trees) h = absurd h

module _ {D T E : Type 0} (language : Language D T E) where
  -- ---- from outputs to values

  quiet :
      (work : ValueWork T E)
      → ((earlier : List Tree) (tree : Tree) (output : Output) → Outputs language work earlier tree output → output.ok ≡ true)
      → (earlier trees : List Tree) (output : List Output) → AreOutput language work earlier trees output
      → all_ok output ≡ true
  quiet work each earlier [] [] h = refl
  quiet work each earlier [] (s ∷ output) h = absurd h
  quiet work each earlier (t ∷ trees) [] h = absurd h
  quiet work each earlier (t ∷ trees) (s ∷ output) (is, more) =
      ap (λ w. w && all_ok output) (each earlier t s is) ∙ quiet work each (earlier ++ t ∷ []) trees output more

  -- At most two values to be compared have an output.
  few :
      (earlier trees : List Tree) (output : List Output) → length earlier ≤ 2
      → AreOutput language compares earlier trees output → length earlier + length trees ≤ 2
  few earlier [] output fits h = omega (arith, fits)
  few earlier (t ∷ trees) [] fits h = absurd h
  few earlier (t ∷ trees) (s ∷ output) fits (is, more) =
      let less = is.0 in
      let size : length (earlier ++ t ∷ []) ≡ length earlier + length (t ∷ []) =
      length-append earlier (t ∷ []) in
      let rest = few (earlier ++ t ∷ []) trees output (omega (arith, less, size)) more in
      omega (arith, rest, size)

  pub few_compared :
      (trees : List Tree) (output : List Output) → AreOutput language compares [] trees output
      → length trees ≤ 2
  few_compared trees output h = let all = few [] trees output (omega arith) h in omega (arith, all)

  some_lines :
      (query : Query) (type : T) (earlier trees : List Tree) (output : List Output)
      → AreOutput language (reports query type) earlier trees output
      → AllByRecursion (HasSomeLine language query type) trees
  some_lines query type earlier [] [] h = tt
  some_lines query type earlier [] (s ∷ output) h = absurd h
  some_lines query type earlier (t ∷ trees) [] h = absurd h
  some_lines query type earlier (t ∷ trees) (s ∷ output) (is, more) =
      ((s.ok, (is.0, is.1)), some_lines query type (earlier ++ t ∷ []) trees output more)

  ok_lines :
      (query : Query) (type : T) (earlier trees : List Tree) (output : List Output)
      → AreOutput language (reports query type) earlier trees output → all_ok output ≡ true
      → AllByRecursion (HasLine language query type true) trees
  ok_lines query type earlier [] [] h e = tt
  ok_lines query type earlier [] (s ∷ output) h e = absurd h
  ok_lines query type earlier (t ∷ trees) [] h e = absurd h
  ok_lines query type earlier (t ∷ trees) (s ∷ output) (is, more) e =
      let both = and_parts s.ok (all_ok output) e in (
        (is.0, subst (λ w. language.LineOf query type t is.0 w) both.0 is.1),
        ok_lines query type (earlier ++ t ∷ []) trees output more both.1,
      )

  wrong_line :
      (query : Query) (type : T) (earlier trees : List Tree) (output : List Output)
      → AreOutput language (reports query type) earlier trees output → all_ok output ≡ false
      → HoldsOfSome (HasLine language query type false) trees
  wrong_line query type earlier [] [] h e = absurd (cc e)
  wrong_line query type earlier [] (s ∷ output) h e = absurd h
  wrong_line query type earlier (t ∷ trees) [] h e = absurd h
  wrong_line query type earlier (t ∷ trees) (s ∷ output) (is, more) e =
      by (wrong_line query type (earlier ++ t ∷ []) trees output more) s.ok refl where
        by : (all_ok output ≡ false → HoldsOfSome (HasLine language query type false) trees)
            → (w : Bool) → s.ok ≡ w
            → HoldsOfSome (HasLine language query type false) (t ∷ trees)
        by later false at = inl (is.0, subst (λ w. language.LineOf query type t is.0 w) at is.1)
        by later true at = inr (later (ap (λ w. w && all_ok output) (sym at) ∙ e))

  are_edited :
      (type : T) (script : List E) (compat : Bool) (earlier trees : List Tree) (output : List Output)
      → AreOutput language (edits type script compat) earlier trees output
      → AreEdited language type script compat earlier trees
  are_edited type script compat earlier [] [] h = tt
  are_edited type script compat earlier [] (s ∷ output) h = absurd h
  are_edited type script compat earlier (t ∷ trees) [] h = absurd h
  are_edited type script compat earlier (t ∷ trees) (s ∷ output) (is, more) =
      ((s.text, is.0), are_edited type script compat (earlier ++ t ∷ []) trees output more)

  -- If values have an output and one more may follow, then the values satisfy `Pass`.
  pub pass_of :
      (work : ValueWork T E) (trees : List Tree) (output : List Output) → AreOutput language work [] trees output
      → MayCome language work (length trees) → Pass language work trees
  pass_of (reports query type) trees output h may = some_lines query type [] trees output h
  pass_of (edits type script compat) trees output h may =
      are_edited type script compat [] trees output h
  pass_of dumps trees output h may = tt
  pass_of compares trees output h may = may

  lines_finish :
      (query : Query) (type : T) (trees : List Tree) (output : List Output) (ok : Bool)
      → AreOutput language (reports query type) [] trees output → all_ok output ≡ ok
      → Finish language (reports query type) trees (if ok then AllOk else No)
  lines_finish query type trees output true h e = ok_lines query type [] trees output h e
  lines_finish query type trees output false h e =
      (some_lines query type [] trees output h, wrong_line query type [] trees output h e)

  -- If the input ends after values with an output, then the status is a row of the table.
  pub finish_of :
      (work : ValueWork T E) (trees : List Tree) (output : List Output) (last : Reply)
      → AreOutput language work [] trees output → Finishes language work trees last
      → Finish language work trees (ending_of (replies output last)).status
  finish_of (reports query type) trees output last h is =
      subst (Finish language (reports query type) trees)
      (sym (output_status output last nothing_output (all_ok output) is (and_true (all_ok output))))
      (lines_finish query type trees output (all_ok output) h refl)
  finish_of (edits type script compat) trees output last h is =
      by (line_past language script (length trees)) refl where
        quiet_all : all_ok output ≡ true
        quiet_all = quiet (edits type script compat) (λ k t s is. is.1) [] trees output h

        by : (past : Option E) → line_past language script (length trees) ≡ past
            → Finish language (edits type script compat) trees (ending_of (replies output last)).status
        by None at =
            subst (Finish language (edits type script compat) trees)
            (sym (output_status output last nothing_output true (is ∙ ap (ends_script language) at)
            (and_true (all_ok output) ∙ quiet_all)))
            (are_edited type script compat [] trees output h, at)
        by (Some past) at =
            subst (Finish language (edits type script compat) trees)
            (sym (ap (λ l. (ending_of (replies output l)).status)
            (is ∙ ap (ends_script language) at)))
            (are_edited type script compat [] trees output h, past, at)
  finish_of dumps trees output last h is =
      let all = quiet dumps (λ k t s is. is.1) [] trees output h in
      subst (Finish language dumps trees)
      (sym (output_status output last nothing_output true is (and_true (all_ok output) ∙ all))) tt
  finish_of compares [] output last h is =
      subst (Finish language compares []) (sym (exit_status output last not_two_values is))
      (omega arith)
  finish_of compares (t ∷ []) output last h is =
      subst (Finish language compares (t ∷ [])) (sym (exit_status output last not_two_values is))
      (omega arith)
  finish_of compares (t ∷ u ∷ v ∷ trees) output last h is =
      let most = few_compared (t ∷ u ∷ v ∷ trees) output h in absurd (omega (arith, most))
  finish_of compares (t ∷ u ∷ []) output last h (agree, decides, is) = by agree decides is where
    all : all_ok output ≡ true
    all = quiet compares (λ k t s is. ap (λ s. s.ok) is.1) [] (t ∷ u ∷ []) output h

    by : (agree : Bool) → (IsTrue agree ↔ AreSame t u) → last ≡ outputs (comparison agree)
        → Finish language compares (t ∷ u ∷ []) (ending_of (replies output last)).status
    by true decides is =
        subst (Finish language compares (t ∷ u ∷ []))
        (sym (output_status output last (comparison true) true is (and_true (all_ok output) ∙ all)))
        (decides.0 refl)
    by false decides is =
        subst (Finish language compares (t ∷ u ∷ []))
        (sym (output_status output last (comparison false) false is (and_false (all_ok output))))
        (λ same. let no = decides.1 same in cc no)

  -- ---- from values to outputs

  print_some :
      (query : Query) (type : T) (earlier trees : List Tree)
      → AllByRecursion (HasSomeLine language query type) trees
      → (output : List Output) × AreOutput language (reports query type) earlier trees output
  print_some query type earlier [] h = ([], tt)
  print_some query type earlier (t ∷ trees) ((ok, (text, is)), more) =
      let next = print_some query type (earlier ++ t ∷ []) trees more in
      (record { text = line text; ok = ok } ∷ next.0, ((text, is, refl), next.1))

  print_ok :
      (query : Query) (type : T) (earlier trees : List Tree)
      → AllByRecursion (HasLine language query type true) trees
      → (output : List Output) × AreOutput language (reports query type) earlier trees output
      × (all_ok output ≡ true)
  print_ok query type earlier [] h = ([], tt, refl)
  print_ok query type earlier (t ∷ trees) ((text, is), more) =
      let next = print_ok query type (earlier ++ t ∷ []) trees more in
      (record { text = line text; ok = true } ∷ next.0, ((text, is, refl), next.1), next.2)

  print_wrong :
      (query : Query) (type : T) (earlier trees : List Tree)
      → AllByRecursion (HasSomeLine language query type) trees
      → HoldsOfSome (HasLine language query type false) trees
      → (output : List Output) × AreOutput language (reports query type) earlier trees output
      × (all_ok output ≡ false)
  print_wrong query type earlier [] h wrong = absurd wrong
  print_wrong query type earlier (t ∷ trees) (first, more) (inl (text, is)) =
      let next = print_some query type (earlier ++ t ∷ []) trees more in
      (record { text = line text; ok = false } ∷ next.0, ((text, is, refl), next.1), refl)
  print_wrong query type earlier (t ∷ trees) ((ok, (text, is)), more) (inr wrong) =
      let next = print_wrong query type (earlier ++ t ∷ []) trees more wrong in (
        record { text = line text; ok = ok } ∷ next.0,
        ((text, is, refl), next.1),
        ap (λ w. ok && w) next.2 ∙ and_false ok,
      )

  print_edited :
      (type : T) (script : List E) (compat : Bool) (earlier trees : List Tree)
      → AreEdited language type script compat earlier trees
      → (output : List Output) × AreOutput language (edits type script compat) earlier trees output
  print_edited type script compat earlier [] h = ([], tt)
  print_edited type script compat earlier (t ∷ trees) ((bytes, is), more) =
      let next = print_edited type script compat (earlier ++ t ∷ []) trees more in
      (record { text = bytes; ok = true } ∷ next.0, ((is, refl), next.1))

  print_dumped :
      (earlier trees : List Tree) → (output : List Output) × AreOutput language dumps earlier trees output
  print_dumped earlier [] = ([], tt)
  print_dumped earlier (t ∷ trees) =
      let next = print_dumped (earlier ++ t ∷ []) trees in
      (record { text = language.lines_of t; ok = true } ∷ next.0, ((refl, refl), next.1))

  pub print_compared :
      (earlier trees : List Tree) → length earlier + length trees ≤ 2
      → (output : List Output) × AreOutput language compares earlier trees output
  print_compared earlier [] fits = ([], tt)
  print_compared earlier (t ∷ trees) fits =
      let size : length (earlier ++ t ∷ []) ≡ length earlier + length (t ∷ []) =
      length-append earlier (t ∷ []) in
      let next = print_compared (earlier ++ t ∷ []) trees (omega (arith, fits, size)) in
      (nothing_output ∷ next.0, ((omega (arith, fits), refl), next.1))

  -- If values satisfy `Pass`, then the values have an output.
  pub pass_output :
      (work : ValueWork T E) (trees : List Tree) → Pass language work trees
      → (output : List Output) × AreOutput language work [] trees output
  pass_output (reports query type) trees h = print_some query type [] trees h
  pass_output (edits type script compat) trees h = print_edited type script compat [] trees h
  pass_output dumps trees h = print_dumped [] trees
  pass_output compares trees h = print_compared [] trees (omega (arith, h))

  -- If values satisfy `Pass`, then one more value may follow.
  pub pass_more :
      (work : ValueWork T E) (trees : List Tree) → Pass language work trees
      → MayCome language work (length trees)
  pass_more (reports query type) trees h = tt
  pass_more (edits type script compat) trees h = tt
  pass_more dumps trees h = tt
  pass_more compares trees h = h

  -- Some replies to the values and to the end of the input have the status `status`.
  abbrev pub IsReplied : ValueWork T E → List Tree → Status → Type 0
  IsReplied work trees status =
      (all : Replies) × ((ending_of all).status ≡ status) × AreOutput language work [] trees all.output
      × Finishes language work trees all.last

  compared :
      (agree : Bool) (trees : List Tree)
      → AreTwo (λ first second. IsTrue agree ↔ AreSame first second) trees
      → IsReplied compares trees (if agree then AllOk else No)
  compared agree [] h = absurd h
  compared agree (t ∷ []) h = absurd h
  compared agree (t ∷ u ∷ v ∷ trees) h = absurd h
  compared true (t ∷ u ∷ []) h =
      let two = print_compared [] (t ∷ u ∷ []) (omega arith) in
      let all = quiet compares (λ k t s is. ap (λ s. s.ok) is.1) [] (t ∷ u ∷ []) two.0 two.1 in (
        replies two.0 (outputs (comparison true)),
        output_status two.0 (outputs (comparison true)) (comparison true) true refl
            (and_true (all_ok two.0) ∙ all),
        two.1,
        (true, h, refl),
      )
  compared false (t ∷ u ∷ []) h =
      let two = print_compared [] (t ∷ u ∷ []) (omega arith) in (
        replies two.0 (outputs (comparison false)),
        output_status two.0 (outputs (comparison false)) (comparison false) false refl
            (and_false (all_ok two.0)),
        two.1,
        (false, h, refl),
      )

  not_two :
      (trees : List Tree) → length trees < 2 → IsReplied compares trees Usage
  not_two [] less = (replies [] (exits not_two_values), refl, tt, refl)
  not_two (t ∷ []) less =
      let one = print_compared [] (t ∷ []) (omega arith) in
      (replies one.0 (exits not_two_values), refl, one.1, refl)
  not_two (t ∷ u ∷ trees) less = absurd (omega (arith, less))

  pub finish_output :
      (work : ValueWork T E) (trees : List Tree) (status : Status) → Finish language work trees status
      → IsReplied work trees status
  finish_output (reports query type) trees AllOk h =
      let s = print_ok query type [] trees h in (
        replies s.0 (outputs nothing_output),
        output_status s.0 (outputs nothing_output) nothing_output true refl
            (and_true (all_ok s.0) ∙ s.2),
        s.1,
        refl,
      )
  finish_output (reports query type) trees No (lines, wrong) =
      let s = print_wrong query type [] trees lines wrong in (
        replies s.0 (outputs nothing_output),
        output_status s.0 (outputs nothing_output) nothing_output false refl
            (and_true (all_ok s.0) ∙ s.2),
        s.1,
        refl,
      )
  finish_output (reports query type) trees status h = absurd h
  finish_output (edits type script compat) trees AllOk (edited, none) =
      let s = print_edited type script compat [] trees edited in
      let all = quiet (edits type script compat) (λ k t s is. is.1) [] trees s.0 s.1 in (
        replies s.0 (outputs nothing_output),
        output_status s.0 (outputs nothing_output) nothing_output true refl (and_true (all_ok s.0) ∙ all),
        s.1,
        sym (ap (ends_script language) none),
      )
  finish_output (edits type script compat) trees Script (edited, past, at) =
      let s = print_edited type script compat [] trees edited in
      (replies s.0 (ends_script language (Some past)), refl, s.1, sym (ap (ends_script language) at))
  finish_output (edits type script compat) trees status h = absurd h
  finish_output dumps trees AllOk h =
      let s = print_dumped [] trees in
      let all = quiet dumps (λ k t s is. is.1) [] trees s.0 s.1 in (
        replies s.0 (outputs nothing_output),
        output_status s.0 (outputs nothing_output) nothing_output true refl (and_true (all_ok s.0) ∙ all),
        s.1,
        refl,
      )
  finish_output dumps trees status h = absurd h
  finish_output compares trees AllOk h =
      compared true trees
      (two_by AreSame (λ first second. IsTrue true ↔ AreSame first second)
      (λ first second same. (λ t. same, λ s. refl)) trees h)
  finish_output compares trees No h =
      compared false trees
      (two_by (λ first second. AreSame first second → ⊥)
      (λ first second. IsTrue false ↔ AreSame first second)
      (λ first second not. (λ f. absurd (cc f), λ s. absurd (not s))) trees h)
  finish_output compares trees Usage h = not_two trees h
  finish_output compares trees status h = absurd h
