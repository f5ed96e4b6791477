-- Each text parses in one way, and a value has one line at a parsed type.
use Rattle.std.proofs.Common.{◌≡◌, ℕ, Bool, true, false, List, [], ◌∷◌, ◌++◌, length, Option, Some, None, Result, Ok, Err, inl, inr, sym, ap, ◌∙◌, subst}
use Rattle.base_data.specs.declared.model.value.Val.{Val}
use Rattle.base_data.specs.declared.model.value.Obj.{Obj}
use Rattle.types_spec.specs.declared.types.decl.Decl.{Decl}
use Rattle.types_spec.specs.types.Ty.{Ty}
use Rattle.types_spec.specs.types.WellFormed.{AreWellFormed, IsSoundType}
use Rattle.types_spec.specs.types.Equal.{declared_shapes}
use Rattle.types_spec.specs.types.TypeText.{type_text}
use Rattle.types_theory.proofs.typing.TypingOnceLemmas.{no_line_once}
use Rattle.types_theory.specs.table.TableDecides.{NeverBoth}
use Rattle.types_theory.proofs.table.TableFewLemmas.{few_not_many}
use Rattle.marshal_spec.specs.format.Tree.{Tree, root, objects_of}
use Rattle.types_parse.specs.parse.WrittenTrees.{declarations_of, type_of_texpr}
use Rattle.types_wellformed.specs.declarations.WellFormedLaws.{FilesAreWellFormed, TypesAreSound}
use Rattle.types_wellformed.specs.declarations.DeclarationAnswer.{DeclarationAnswer, accepted, no_lexemes, no_text, too_deep, broken, IsFileAnswer, IsTypeAnswer, HasOneAnswer}
use Rattle.types_wellformed.specs.declarations.Read.{IsDeclared, IsTypeOf}
use Rattle.types_wellformed.specs.declarations.DeclarationFaultText.{answer_text}
use Rattle.text_path.specs.ParserAnswer as paths
use Rattle.text_path.specs.ScriptAnswer as scripts
use Rattle.text_decimal.specs.scripts.Scripts.{plain_script, decimals_of, given_edits}
use Rattle.text_path.specs.declared.edits.Script.{Script}
use Rattle.text_path.specs.declared.edits.ScriptFault.{ScriptFault}
use Rattle.text_path.specs.declared.edits.ScriptLine.{ScriptLine}
use Rattle.marshal_spec.proofs.canonical.SameTree.{one_tree_only}
use Rattle.edit_values.specs.EditedValues.{Edited}
use Rattle.edit_values.specs.Grafts.{Other}
use Rattle.edit_values.specs.Laws.{EditsHaveOneAnswer}
use Rattle.marshal_spec.specs.format.Compat.{too_large_for_32}
use Rattle.text_path.specs.declared.path_fault.PathFault.{PathFault}
use Rattle.trees.specs.search_trees.Laws.{TreeVerdictsAreOne}
use Rattle.cli_spec.specs.Outcome.{AskedType, Output, Query, the_verdict, the_text, the_part, the_trees, Unedited, untyped}
use Rattle.run_types.proofs.RunTypesGivenLemmas.{given_sound}
use Rattle.run_types.specs.Language.{TypeOver, declared_types, ReadsPath, IsRefusal, ReachesWithinTable, IsTooMuch, IsAccepted, IsKnownOf, judged, IsTypeLine, IsBytesLine, lines_of_value, AreDone, AreBytesIn, AreBytesOf, AreBytesAfter, bytes_for, ReadsType, AreEditsOf, ReadsScript, script_refusal}
use Rattle.run_spec.specs.runs.LawfulLanguage.{IsGiven, IsLawful}

-- ---- parse results

tree_or : {Tree : Type 0} → Tree → DeclarationAnswer Tree → Tree
tree_or other (accepted tree) = tree
tree_or other (no_lexemes fault) = other
tree_or other (no_text position) = other
tree_or other (too_deep position) = other
tree_or other (broken rule position) = other

accepted_once : {Tree : Type 0} (one other : Tree) → ◌≡◌ {A = DeclarationAnswer Tree} (accepted one) (accepted other) → one ≡ other
unfolding tree_or
accepted_once one other same = ap (tree_or one) same

module _ {Tree : Type 0} (Is : List ℕ → DeclarationAnswer Tree → Type 0) (once : HasOneAnswer Is) (text : List ℕ) where
  trees_once : (tree other : Tree) → Is text (accepted tree) → Is text (accepted other) → tree ≡ other
  trees_once tree other one two = accepted_once tree other (once text (accepted tree) (accepted other) one two)

  module _ (lines : Bool) where
    never_refused : (tree : Tree) (refusal : List ℕ) → Is text (accepted tree) → IsRefusal lines text (Is text) refusal → ⊥
    never_refused tree refusal one r = r.refuses tree (once text r.answer (accepted tree) r.is one)

    refusals_once : (refusal other : List ℕ) → IsRefusal lines text (Is text) refusal → IsRefusal lines text (Is text) other → refusal ≡ other
    refusals_once refusal other r s = r.encoded ∙ (ap (answer_text lines text) (once text r.answer s.answer r.is s.is) ∙ sym s.encoded)

-- ---- paths

module _ (once : (text : List ℕ) → paths.HasOneAnswer text) (text path : List ℕ) (is : ReadsPath text (Some path)) where
  same_answer : (other : Result (List ℕ) PathFault) → paths.IsAnswer text other → other ≡ Ok path
  same_answer other its = (once text).2 other its ∙ sym ((once text).2 (Ok path) is)

  one_path : (other : List ℕ) → ReadsPath text (Some other) → path ≡ other
  one_path other its = let same : ◌≡◌ {A = Result (List ℕ) PathFault} (Ok other) (Ok path) = same_answer (Ok other) its in cc same

  no_fault : ReadsPath text None → ⊥
  no_fault none = let same : ◌≡◌ {A = Result (List ℕ) PathFault} (Err none.0) (Ok path) = same_answer (Err none.0) none.2 in cc same

-- ---- the language

-- ---- scripts

module _ (once : (text : List ℕ) → scripts.HasOneScriptAnswer text) (text : List ℕ) where
  abbrev script_of : Result (List ScriptLine) ScriptFault → Result Script ScriptFault
  script_of (Ok lines) = Ok (record { lines = lines })
  script_of (Err fault) = Err fault

  script_answers : (answer other : Result (List ScriptLine) ScriptFault) → scripts.AreEdits 1 text answer → scripts.AreEdits 1 text other → answer ≡ other
  script_answers answer other is its = back answer other ((once text).2 (script_of answer) (as_script answer is) ∙ sym ((once text).2 (script_of other) (as_script other its))) where
    as_script : (answer : Result (List ScriptLine) ScriptFault) → scripts.AreEdits 1 text answer → scripts.IsScriptAnswer text (script_of answer)
    as_script (Ok lines) is = is
    as_script (Err fault) is = is

    back : (answer other : Result (List ScriptLine) ScriptFault) → script_of answer ≡ script_of other → answer ≡ other
    back (Ok lines) (Ok others) e = let same : ◌≡◌ {A = Script} (record { lines = lines }) (record { lines = others }) = cc e in ap (λ (s : Script). Ok s.lines) same
    back (Ok lines) (Err fault) e = absurd (cc e)
    back (Err fault) (Ok lines) e = absurd (cc e)
    back (Err fault) (Err other) e = let same : fault ≡ other = cc e in ap (λ f. Err f) same

module _ (once : (text : List ℕ) → scripts.HasOneScriptAnswer text) (text : List ℕ) where
  -- A script parses in one way, with decimals or without.
  edits_answers : (decimal : Bool) (answer other : Result (List ScriptLine) ScriptFault) → AreEditsOf decimal text answer → AreEditsOf decimal text other → answer ≡ other
  edits_answers false answer other is its = script_answers once text answer other is its
  edits_answers true answer other (plain, is, given) (second, its, given') =
      given ∙ (ap (given_edits (decimals_of text)) (script_answers once (plain_script text) plain second is its) ∙ sym given')

  lines_or_refusal : (lined decimal : Bool) (lines : List ScriptLine) (refusal : ℕ × List ℕ) → ReadsScript lined decimal text (Ok lines) → ReadsScript lined decimal text (Err refusal) → ⊥
  lines_or_refusal lined decimal lines refusal is (fault, its, known) =
      let k : ◌≡◌ {A = Result (List ScriptLine) ScriptFault} (Ok lines) (Err fault) = edits_answers decimal (Ok lines) (Err fault) is its in cc k

  one_lines : (lined decimal : Bool) (lines other : List ScriptLine) → ReadsScript lined decimal text (Ok lines) → ReadsScript lined decimal text (Ok other) → lines ≡ other
  one_lines lined decimal lines other is its =
      let k : ◌≡◌ {A = Result (List ScriptLine) ScriptFault} (Ok lines) (Ok other) = edits_answers decimal (Ok lines) (Ok other) is its in cc k

  one_refusal : (lined decimal : Bool) (refusal other : ℕ × List ℕ) → ReadsScript lined decimal text (Err refusal) → ReadsScript lined decimal text (Err other) → refusal ≡ other
  one_refusal lined decimal refusal other (fault, is, known) (fault', its, known') =
      let k : ◌≡◌ {A = Result (List ScriptLine) ScriptFault} (Err fault) (Err fault') = edits_answers decimal (Err fault) (Err fault') is its in
      let same : fault ≡ fault' = cc k in
      let both : ◌≡◌ {A = Option (ℕ × List ℕ)} (Some refusal) (Some other) = sym known ∙ (ap (script_refusal lined) same ∙ known') in cc both

-- ---- bytes

-- A value has one tree, so two results of writing the value's bytes are equal.
one_bytes : (compat : Bool) (graph : List Obj) (v : Val) (answer other : Result (List ℕ) Unedited) → AreBytesOf compat graph v answer → AreBytesOf compat graph v other → answer ≡ other
one_bytes compat graph v answer other (tree, is, known) (tree', is', known') =
    known ∙ (ap (λ t. bytes_for compat t (too_large_for_32 t)) (one_tree_only graph v tree tree' is is') ∙ sym known')

bytes_after_once : (lined compat : Bool) (edited : Edited Ty) (answer other : Result (List ℕ) Unedited) → AreBytesAfter lined compat edited answer → AreBytesAfter lined compat edited other → answer ≡ other
bytes_after_once lined compat (Ok edited) answer other is its = one_bytes compat edited.0 edited.1 answer other is its
bytes_after_once lined compat (Err refused) answer other is its = is ∙ sym its

module _ (files_once : HasOneAnswer IsFileAnswer) (types_once : (decls : List Decl) → HasOneAnswer (IsTypeAnswer decls))
    (paths_once : (text : List ℕ) → paths.HasOneAnswer text) (scripts_once : (text : List ℕ) → scripts.HasOneScriptAnswer text) (edits_once : EditsHaveOneAnswer) (files_ok : FilesAreWellFormed) (types_sound : TypesAreSound) (never_both : NeverBoth) where
  same_decls : (text : List ℕ) (decls others : List Decl) → IsDeclared text decls → IsDeclared text others → decls ≡ others
  same_decls text decls others d e =
      d.stand ∙ (ap declarations_of (trees_once IsFileAnswer files_once text d.tree e.tree d.answer e.answer) ∙ sym e.stand)

  same_types : (decls : List Decl) (text : List ℕ) (t u : Ty) → IsTypeOf decls text t → IsTypeOf decls text u → t ≡ u
  same_types decls text t u one other =
      one.stands ∙ (ap type_of_texpr (trees_once (IsTypeAnswer decls) (types_once decls) text one.tree other.tree one.answer other.answer) ∙ sym other.stands)

  never_too_much : (decls : List Decl) (asked : AskedType) (refusal : List ℕ) (t : TypeOver) → IsAccepted decls asked t → IsTooMuch decls asked.text refusal → ⊥
  never_too_much decls asked refusal t a much =
      let same : t.type ≡ much.type = same_types decls asked.text t.type much.type a.written much.written in
      few_not_many decls much.type a.few.types (rw (← same) a.few.reached) a.few.few much.many

  type_or_refusal : (decls : List Decl) (asked : AskedType) (t : TypeOver) (refusal : List ℕ) → IsAccepted decls asked t → ReadsType decls asked (Err refusal) → ⊥
  type_or_refusal decls asked t refusal a (inl r) =
      never_refused (IsTypeAnswer decls) (types_once decls) asked.text asked.lines a.written.tree refusal a.written.answer r
  type_or_refusal decls asked t refusal a (inr much) = never_too_much decls asked refusal t a much

  type_refusals : (decls : List Decl) (asked : AskedType) (refusal other : List ℕ) → ReadsType decls asked (Err refusal) → ReadsType decls asked (Err other) → refusal ≡ other
  type_refusals decls asked refusal other (inl r) (inl s) =
      refusals_once (IsTypeAnswer decls) (types_once decls) asked.text asked.lines refusal other r s
  type_refusals decls asked refusal other (inl r) (inr s) =
      absurd (never_refused (IsTypeAnswer decls) (types_once decls) asked.text asked.lines s.written.tree refusal s.written.answer r)
  type_refusals decls asked refusal other (inr r) (inl s) =
      absurd (never_refused (IsTypeAnswer decls) (types_once decls) asked.text asked.lines r.written.tree other r.written.answer s)
  type_refusals decls asked refusal other (inr r) (inr s) = r.encoded ∙ sym s.encoded

  -- A value has the type or a fault, and not both.
  module _ (t : TypeOver) (ok : AreWellFormed t.decls) (sound : IsSoundType t.decls t.type) (few : ReachesWithinTable t.decls t.type) (graph : List Obj) (v : Val) where
    -- A value that has the type has one output.
    known_once : TreeVerdictsAreOne → (query : Query) (one other : Output) → IsKnownOf query t graph v one → IsKnownOf query t graph v other → one ≡ other
    known_once verdicts_once the_verdict one other is its = is ∙ sym its
    known_once verdicts_once (the_text style) one other is its = is ∙ sym its
    known_once verdicts_once (the_part path style) one other is its = is ∙ sym its
    known_once verdicts_once the_trees one other (verdict, of, is) (second, of_second, its) =
        is ∙ (ap judged (verdicts_once t.decls graph v t.type verdict second of of_second) ∙ sym its)

    lines_once : TreeVerdictsAreOne → (query : Query) (line other : List ℕ) (one two : Bool) → IsTypeLine query t graph v line one → IsTypeLine query t graph v other two → (line ≡ other) × (one ≡ two)
    lines_once verdicts_once query line other one two (inl has) (inl its) =
        let same = known_once verdicts_once query (record { text = line; ok = one }) (record { text = other; ok = two }) has.known its.known in
        (ap (λ (s : Output). s.text) same, ap (λ (s : Output). s.ok) same)
    lines_once verdicts_once query line other one two (inr is) (inr its) = (no_line_once (declared_shapes t.decls) graph v t.type type_text line other is.why its.why, is.is_all_ok ∙ sym its.is_all_ok)
    lines_once verdicts_once query line other one two (inl has) (inr is) = absurd (never_both t.decls t.type few.types ok sound few.reached graph v is.why.fault is.why.least.is_fault has.has)
    lines_once verdicts_once query line other one two (inr is) (inl has) = absurd (never_both t.decls t.type few.types ok sound few.reached graph v is.why.fault is.why.least.is_fault has.has)

    bytes_once : (others : List Other) (lines : List ScriptLine) (compat : Bool) (answer other : Result (List ℕ) Unedited) → IsBytesLine t others lines compat graph v answer → IsBytesLine t others lines compat graph v other → answer ≡ other
    bytes_once others lines compat answer other (inl is) (inl its) =
        let same : is.edited ≡ its.edited = edits_once.in_order t.decls t.type few.types ok sound few.reached others lines graph v is.edited its.edited is.made its.made in
        bytes_after_once t.lines compat its.edited answer other (subst (λ e. AreBytesAfter t.lines compat e answer) same is.bytes) its.bytes
    bytes_once others lines compat answer other (inr is) (inr its) =
        is.is ∙ (ap (λ text. Err (untyped text)) (no_line_once (declared_shapes t.decls) graph v t.type type_text is.text its.text is.why its.why) ∙ sym its.is)
    bytes_once others lines compat answer other (inl is) (inr its) = absurd (never_both t.decls t.type few.types ok sound few.reached graph v its.why.fault its.why.least.is_fault is.has)
    bytes_once others lines compat answer other (inr is) (inl its) = absurd (never_both t.decls t.type few.types ok sound few.reached graph v is.why.fault is.why.least.is_fault its.has)

  given_once : TreeVerdictsAreOne → (query : Query) (t : TypeOver) → IsGiven declared_types t → (tree : Tree) (line other : List ℕ) (one two : Bool)
      → IsTypeLine query t (objects_of tree 0) (root tree 0) line one → IsTypeLine query t (objects_of tree 0) (root tree 0) other two → (line ≡ other) × (one ≡ two)
  given_once verdicts_once query t given tree =
      let s = given_sound files_ok types_sound t given in lines_once t s.ok s.sound s.few (objects_of tree 0) (root tree 0) verdicts_once query

  -- Two results of the edits of the earlier values are equal.
  done_once : (t : TypeOver) → AreWellFormed t.decls → IsSoundType t.decls t.type → (few : ReachesWithinTable t.decls t.type)
      → (script : List ScriptLine) (done : List Other) (earlier : List Tree) (others second : List Other)
      → AreDone t script done earlier others → AreDone t script done earlier second → others ≡ second
  done_once t ok sound few script done [] others second is its = is ∙ sym its
  done_once t ok sound few script done (tree ∷ earlier) others second (v, made, more) (u, made', more') =
      let same : ◌≡◌ {A = Edited Ty} (Ok v) (Ok u) =
      edits_once.in_order t.decls t.type few.types ok sound few.reached done (lines_of_value (length done) script) (objects_of tree 0) (root tree 0) (Ok v) (Ok u) made made' in
      let one : u ≡ v = cc same in
      done_once t ok sound few script (done ++ v ∷ []) earlier others second more (subst (λ (w : Other). AreDone t script (done ++ w ∷ []) earlier second) one more')

  edited_once : (t : TypeOver) → IsGiven declared_types t → (script : List ScriptLine) (compat : Bool) (earlier : List Tree) (tree : Tree) (answer other : Result (List ℕ) Unedited)
      → AreBytesIn t script compat earlier tree answer → AreBytesIn t script compat earlier tree other → answer ≡ other
  edited_once t given script compat earlier tree answer other (others, done, is) (second, done', its) =
      let s = given_sound files_ok types_sound t given in
      let same = done_once t s.ok s.sound s.few script [] earlier second others done' done in
      bytes_once t s.ok s.sound s.few (objects_of tree 0) (root tree 0) others (lines_of_value (length earlier) script) compat answer other is
      (subst (λ os. IsBytesLine t os (lines_of_value (length earlier) script) compat (objects_of tree 0) (root tree 0) other) same its)

  pub declared_lawful : TreeVerdictsAreOne → IsLawful declared_types
  declared_lawful verdicts_once = record {
    declarations_once = λ lined text d refusal is refused. never_refused IsFileAnswer files_once text lined is.tree refusal is.answer refused;
    same_declarations = λ lined. same_decls;
    same_refusal = λ lined text refusal other. refusals_once IsFileAnswer files_once text lined refusal other;
    type_once = λ d asked t refusal is refused. type_or_refusal d asked t refusal is refused;
    same_type = λ d asked t u one other.
        let types = same_types d asked.text t.type u.type one.written other.written in
        ap (λ d. let t : TypeOver = record { decls = d; type = t.type; lines = t.lines; decimal = t.decimal } in t) (one.over ∙ sym other.over)
        ∙ (ap (λ x. let t : TypeOver = record { decls = u.decls; type = x; lines = t.lines; decimal = t.decimal } in t) types
        ∙ (ap (λ l. let t : TypeOver = record { decls = u.decls; type = u.type; lines = l; decimal = t.decimal } in t) (one.lined ∙ sym other.lined)
        ∙ ap (λ b. let t : TypeOver = record { decls = u.decls; type = u.type; lines = u.lines; decimal = b } in t) (one.decimaled ∙ sym other.decimaled)));
    same_type_refusal = type_refusals;
    script_once = λ lined decimal text lines refusal is refused. lines_or_refusal scripts_once text lined decimal lines refusal is refused;
    same_script = λ lined decimal text lines other is its. one_lines scripts_once text lined decimal lines other is its;
    same_script_refusal = λ lined decimal text refusal other is its. one_refusal scripts_once text lined decimal refusal other is its;
    bytes_once = edited_once;
    path_once = λ text path is none. no_fault paths_once text path is none;
    same_path = λ text path other is its. one_path paths_once text path is other its;
    line_once = given_once verdicts_once;
  }
