-- If the language is lawful and each line has at most one reading, then the command on texts is
-- lawful.
use Rattle.std.proofs.Common.{◌≡◌, ◌⊎◌, ◌+◌, ℕ, List, [], ◌∷◌, ◌++◌, Some, Result, Ok, Err, inl, inr, refl, sym, ap, ◌∙◌, subst}
use Rattle.cli_spec.specs.Outcome.{opened, whole, Request, AskedType, Output, outputs, exits, Language, ReadsFile, ReadsTypeOf}
use Rattle.cli_spec.specs.declared.exit.Exit.{Exit}
use Rattle.cli_spec.specs.declared.exit.Exit.TheVariants.{Untyped as untyped_value}
use Rattle.run_spec.specs.runs.Commands.{Item, value, text, Fetches}
use Rattle.run_spec.specs.runs.Lawful.{IsOnce, IsInner, FailsAtFile, AreLawfulAt, AreLawful, AreInTurns}
use Rattle.run_spec.specs.runs.LawfulLanguage.{IsGiven, IsLawful}
use Rattle.run_spec.proofs.runs.ExampleLemmas.{none_later}
use Rattle.run_spec.specs.value_commands.Tasks.{by_turns}
use Rattle.run_spec.proofs.value_commands.ValueCommandFindLemmas.{whole_or, type_once, type_by, type_read, ComesOf, type_inside}
use Rattle.run_spec.proofs.value_commands.ValueCommandGivenLemmas.{type_given}
use Rattle.cmd_build.specs.spec.InputTexts.{Built, blank, made, refused, untyped, counted, IsFirstLine, IsOutputOf, AreTexts, ExitsBy, OutputsLine, ExitsAtLine, IsReplyTo, EndsWithLine, built_by, Wants, Finds, building, IsReadOnce}
use Rattle.run_spec.proofs.runs.LengthLemmas.{some_line}
use Rattle.cmd_build.proofs.spec.BuildSpecLineLemmas.{line_once, line_prefix, line_stays, same_text}

-- ---- the output for a line

module _ {T : Type 0} (TextOf : T → List ℕ → Built → Type 0) (type : T)
    (once : (line : List ℕ) → IsOnce (TextOf type line)) where
  texts_once : (items : List Item) → IsOnce (AreTexts TextOf type items)
  texts_once [] n m h k = h ∙ sym k
  texts_once (value tree ∷ items) n m h k = absurd h
  texts_once (text line ∷ items) n m (built, is, more, texts, e) (other, is', rest, texts', e') =
      let same = once line built other is is' in
      let next = texts_once items more rest texts texts' in
      e ∙ (ap (λ b. counted b + more) same ∙ (ap (λ n. counted other + n) next ∙ sym e'))

  output_once : (built : Built) → IsOnce (IsOutputOf built)
  output_once blank output other h k = h ∙ sym k
  output_once (made bytes) output other h k = h ∙ sym k
  output_once (refused refusal) output other h k = absurd h
  output_once (untyped fault) output other h k = absurd h

  exit_once : (items : List Item) (built : Built) → IsOnce (ExitsBy TextOf type items built)
  exit_once items blank exit other h k = absurd h
  exit_once items (made bytes) exit other h k = absurd h
  exit_once items (refused refusal) exit other h k = h ∙ sym k
  exit_once items (untyped fault) exit other (n, texts, e) (m, texts', e') =
      e ∙ (ap (λ n. untyped_exit n) (texts_once items n m texts texts') ∙ sym e') where
        untyped_exit : ℕ → Exit
        untyped_exit n = untyped_value n fault

  -- If the run ends at a line, then the line has no output.
  pub output_or_stopped :
      (items : List Item) (built : Built) (output : Output) (exit : Exit)
      → IsOutputOf built output → ExitsBy TextOf type items built exit → ⊥
  output_or_stopped items blank output exit h k = k
  output_or_stopped items (made bytes) output exit h k = k
  output_or_stopped items (refused refusal) output exit h k = h
  output_or_stopped items (untyped fault) output exit h k = h

  reply_once : (items : List Item) (built : Built) → IsOnce (IsReplyTo TextOf type items built)
  reply_once items built (outputs output) (outputs other) h k = ap (λ s. outputs s) (output_once built output other h k)
  reply_once items built (outputs output) (exits exit) h k = absurd (output_or_stopped items built output exit h k)
  reply_once items built (exits exit) (outputs output) h k = absurd (output_or_stopped items built output exit k h)
  reply_once items built (exits exit) (exits other) h k =
      ap (λ s. exits s) (exit_once items built exit other h k)

  inner : (items : List Item) (built : Built) (exit : Exit) → ExitsBy TextOf type items built exit → IsInner exit
  inner items blank exit h = absurd h
  inner items (made bytes) exit h = absurd h
  inner items (refused refusal) exit h = subst IsInner (sym h) tt
  inner items (untyped fault) exit (n, texts, e) = subst IsInner (sym e) tt

  output_of_line :
      (items : List Item) (item : Item) → IsOnce (OutputsLine TextOf type item)
  output_of_line items item output other (line, is, built, of, h) (line', is', built', of', k) =
      let lines = same_text line line' item is is' in
      let same = once line' built built' (subst (λ l. TextOf type l built) lines of) of' in
      output_once built' output other (subst (λ b. IsOutputOf b output) same h) k

  exit_of_line :
      (items : List Item) (bytes : List ℕ) → IsOnce (ExitsAtLine TextOf type items bytes)
  exit_of_line items bytes exit other (line, more, is, built, of, h) (line', more', is', built', of', k) =
      let lines = line_once bytes line line' more more' is is' in
      let same = once line' built built' (subst (λ l. TextOf type l built) lines.0 of) of' in
      exit_once items built' exit other (subst (λ b. ExitsBy TextOf type items b exit) same h) k

  end_of_line :
      (items : List Item) (bytes : List ℕ) → IsOnce (EndsWithLine TextOf type items bytes)
  end_of_line items bytes last other (built, of, h) (built', of', k) =
      let same = once bytes built built' of of' in
      reply_once items built' last other (subst (λ b. IsReplyTo TextOf type items b last) same h) k

  -- A line does not both have an output and end the run.
  pub line_disjoint :
      (items : List Item) (bytes : List ℕ) (item : Item) (more : List ℕ) (output : Output) (exit : Exit)
      → IsFirstLine bytes item more → OutputsLine TextOf type item output
      → ExitsAtLine TextOf type items bytes exit → ⊥
  line_disjoint items bytes item more output exit (first, is_first, e) (line, is, built, of, h) (line', more', is', built', of', k) =
      let one = line_once bytes first line' more more' is_first is' in
      let lines = same_text line first item is e ∙ one.0 in
      let same = once line' built built' (subst (λ l. TextOf type l built) lines of) of' in
      output_or_stopped items built' output exit (subst (λ b. IsOutputOf b output) same h) k

module _ {D T E : Type 0} (language : Language D T E) (TextOf : T → List ℕ → Built → Type 0) where
  lawful_at :
      (type : T) → ((line : List ℕ) → IsOnce (TextOf type line))
      → AreLawfulAt (building language TextOf) type
  lawful_at type once = record {
    first_once = λ items bytes are_bytes item other more rest h k.
        let one = line_once bytes h.0 k.0 more rest h.1 k.1 in
        (h.2 ∙ (ap (λ line. text line) one.0 ∙ sym k.2), one.1);
    outputs_once = output_of_line TextOf type once;
    exits_once = λ items bytes are_bytes. exit_of_line TextOf type once items bytes;
    ends_once = λ items bytes are_bytes. end_of_line TextOf type once items bytes;
    prefix = λ items bytes item more h.
        (h.0 ++ 10 ∷ [], line_prefix bytes h.0 more h.1, some_line h.0);
    item_stays = λ items bytes item more later h. (h.0, line_stays bytes h.0 more later h.1, h.2);
    exit_stays = λ items bytes later exit h.
        (h.0, h.1 ++ later, line_stays bytes h.0 h.1 later h.2, h.3, h.4, h.5);
    exits_inside = λ items bytes exit h. inner TextOf type once items h.3 exit h.5;
    ends_inside = λ items bytes exit h. inner TextOf type once items h.0 exit h.2;
    disjoint = λ items bytes are_bytes. line_disjoint TextOf type once items bytes;
  }

  -- ---- the file

  module _ (lawful : IsLawful language) where
    same_typed : (x y : List ℕ × AskedType) → Some x ≡ Some y → x ≡ y
    same_typed x y e = cc e

    -- If the arguments have FILE and a file is requested, then FILE is the requested file.
    file_is :
        (request : Request) (typed : List ℕ × AskedType) (name : List ℕ) (type : AskedType)
        → built_by request ≡ Some typed → built_by request ≡ Some (name, type) → typed.0 ≡ name
    file_is request typed name type h k =
        ap (λ p. p.0) (same_typed typed (name, type) (sym h ∙ k))

    found_once :
        (request : Request) (files : Fetches) → IsOnce (Finds language TextOf request files)
    found_once request files result other (typed, is, reads) (typed', is', reads') =
        let same = same_typed typed typed' (sym is ∙ is') in
        type_once language lawful (files 0) typed' result other
        (subst (λ p. ReadsTypeOf language (files 0) p result) same reads) reads'

    wants_typed :
        (request : Request) (typed : List ℕ × AskedType) (files : Fetches)
        → built_by request ≡ Some typed → Wants language TextOf request files 0 typed.0
    wants_typed request typed files is = (refl, typed.1, is)

    by_wanted :
        (request : Request) (files others : Fetches) (result : Result T Exit)
        → ((turn : ℕ) (name : List ℕ) → Wants language TextOf request files turn name
        → files turn name ≡ others turn name)
        → Finds language TextOf request files result → Finds language TextOf request others result
    by_wanted request files others result same (typed, is, reads) = (
      typed,
      is,
      type_by language lawful (files 0) (others 0) typed result
          (same 0 typed.0 (wants_typed request typed files is)) reads,
    )

    -- The file is read, or the file ends the run.
    abbrev IsRead : Fetches → Result T Exit → ℕ → List ℕ → Type 0
    IsRead files result turn name = ((bytes : List ℕ) × (files turn name ≡ opened (whole bytes)))
        ⊎ ((exit : Exit) × ReadsFile name (files turn name) (Err exit) × (result ≡ Err exit))

    wanted_read :
        (request : Request) (files : Fetches) (result : Result T Exit)
        → Finds language TextOf request files result
        → (turn : ℕ) (name : List ℕ) → Wants language TextOf request files turn name
        → IsRead files result turn name
    wanted_read request files result (typed, is, reads) turn name (now, type, wanted) =
        subst (λ t. IsRead files result t name) (sym now)
        (subst (λ n. IsRead files result 0 n) (file_is request typed name type is wanted)
        (type_read language lawful (files 0) typed result reads))

    found_inside :
        (request : Request) (files : Fetches) (exit : Exit)
        → Finds language TextOf request files (Err exit)
        → IsInner exit ⊎ FailsAtFile (building language TextOf) request files (Err exit)
    found_inside request files exit (typed, is, reads) =
        by (type_inside language lawful (files 0) typed exit reads) where
          by : ComesOf language lawful typed.0 (files 0 typed.0) exit
              → IsInner exit ⊎ FailsAtFile (building language TextOf) request files (Err exit)
          by (inl inner) = inl inner
          by (inr fault) = inr (record {
            turn = 0;
            name = typed.0;
            wants = wants_typed request typed files is;
            exit = exit;
            fault = fault;
            is = refl;
          })

    -- If a type is found, then the type was read from texts.
    given :
        (request : Request) (files : Fetches) (type : T) → Finds language TextOf request files (Ok type)
        → IsGiven language type
    given request files type (typed, is, reads) =
        type_given language (by_turns files) typed.0 typed.1 type reads

    pub building_lawful :
        IsReadOnce language TextOf → AreLawful (building language TextOf)
    building_lawful once = record {
      wants_once = λ request files turn name other h k.
          ap (λ p. p.0) (same_typed (name, h.1) (other, k.1) (sym h.2 ∙ k.2));
      finds_once = found_once;
      by_wanted = by_wanted;
      reads_wanted = λ request files result finds turn name wants.
          whole_or (files turn name) (wanted_read request files result finds turn name wants);
      finds_inside = found_inside;
      at = λ type found. lawful_at type (once type (given found.0 found.1 type found.2));
    }

    pub building_turns : AreInTurns (building language TextOf)
    building_turns = record {
      by_earlier = λ request files others turn name same h. h;
      reads = wanted_read;
      after_read = λ request files turn later name other less h k.
          absurd (none_later turn later less k.0);
    }
