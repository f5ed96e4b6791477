-- The command on the texts of the input, in the general form: an item is a line with its line feed.
-- A line is blank, or is a text, which becomes bytes.
use Rattle.std.specs.Prelude.{ℕ, suc, ◌+◌, ◌≡◌, ◌≢◌, true, List, [], ◌∷◌, ◌++◌, length, Option}
use Rattle.std.specs.Prelude.{Some, None, Result}
use Rattle.std.specs.List.{AllByRecursion}
use Rattle.cli_spec.specs.Outcome.{Request, AskedType, asked_with, own, build, Output}
use Rattle.cli_spec.specs.Outcome.{nothing_output}
use Rattle.cli_spec.specs.Outcome.{Reply, outputs, exits, Language, ReadsTypeOf}
use Rattle.cli_spec.specs.declared.exit.Exit.{Exit}
use Rattle.cli_spec.specs.declared.exit.Exit.TheVariants.{Text as text_line}
use Rattle.cli_spec.specs.declared.exit.Exit.TheVariants.{Untyped as untyped_value}
use Rattle.run_spec.specs.runs.Commands.{Item, value, text, Fetches, Commands}
use Rattle.run_spec.specs.runs.Lawful.{IsOnce}
use Rattle.run_spec.specs.runs.LawfulLanguage.{IsGiven}

-- The result of reading a line at a type:
--
-- - a blank line,
-- - a text of a value that has the type, with its bytes,
-- - a text that is refused, with the reason, which depends on the line number,
-- - a text of a value that does not have the type, with the line that reports it.
pub data Built : Type 0 where
  blank : Built
  made : (bytes : List ℕ) → Built
  refused : (refusal : ℕ → List ℕ) → Built
  untyped : (fault : List ℕ) → Built

-- ---- lines

-- The bytes contain no line feed.
abbrev pub IsUnbroken : List ℕ → Type 0
IsUnbroken bytes = AllByRecursion (λ b. b ≢ 10) bytes

-- The bytes are a line, the line's line feed, and the bytes `more`.
pub record IsLine (bytes line more : List ℕ) : Type 0 where
  pub unbroken : IsUnbroken line
  pub bytes_are : bytes ≡ line ++ 10 ∷ more

abbrev pub IsFirstLine : List ℕ → Item → List ℕ → Type 0
IsFirstLine bytes item more = (line : List ℕ) × IsLine bytes line more × (item ≡ text line)

-- ---- the output for a line

-- The number of texts in a line: a blank line is no text.
abbrev pub counted : Built → ℕ
counted blank = 0
counted (made bytes) = 1
counted (refused refusal) = 1
counted (untyped fault) = 1

-- The output that consists of the given bytes and has no error.
abbrev pub write_bytes : List ℕ → Output
write_bytes bytes = record { text = bytes; ok = true }

-- A blank line has an empty output, and a text has its bytes as output.
abbrev pub IsOutputOf : Built → Output → Type 0
IsOutputOf blank output = output ≡ nothing_output
IsOutputOf (made bytes) output = output ≡ write_bytes bytes
IsOutputOf (refused refusal) output = ⊥
IsOutputOf (untyped fault) output = ⊥

module _ {T : Type 0} (TextOf : T → List ℕ → Built → Type 0) (type : T) where
  -- Exactly `n` of the lines are texts.
  abbrev pub AreTexts : List Item → ℕ → Type 0
  AreTexts [] n = n ≡ 0
  AreTexts (value tree ∷ items) n = ⊥
  AreTexts (text line ∷ items) n =
      (built : Built) × TextOf type line built × (more : ℕ) × AreTexts items more
      × (n ≡ counted built + more)

  -- After the lines `items`, the next line ends the run with the exit reason. Lines are counted
  -- from 1, and texts from 0.
  abbrev pub ExitsBy : List Item → Built → Exit → Type 0
  ExitsBy items blank exit = ⊥
  ExitsBy items (made bytes) exit = ⊥
  ExitsBy items (refused refusal) exit =
      exit ≡ text_line (suc (length items)) (refusal (suc (length items)))
  ExitsBy items (untyped fault) exit =
      (n : ℕ) × AreTexts items n × (exit ≡ untyped_value n fault)

  -- The output for the next line.
  abbrev pub OutputsLine : Item → Output → Type 0
  OutputsLine item output =
      (line : List ℕ) × (item ≡ text line) × (built : Built) × TextOf type line built
      × IsOutputOf built output

  -- The bytes begin with a line that ends the run, and the line's line feed.
  abbrev pub ExitsAtLine : List Item → List ℕ → Exit → Type 0
  ExitsAtLine items bytes exit =
      (line : List ℕ) × (more : List ℕ) × IsLine bytes line more
      × (built : Built) × TextOf type line built × ExitsBy items built exit

  -- The reply to a line.
  abbrev pub IsReplyTo : List Item → Built → Reply → Type 0
  IsReplyTo items built (outputs output) = IsOutputOf built output
  IsReplyTo items built (exits exit) = ExitsBy items built exit

  -- The last bytes of the input are a line without a line feed, to which `last` is the reply.
  abbrev pub EndsWithLine : List Item → List ℕ → Reply → Type 0
  EndsWithLine items bytes last =
      (built : Built) × TextOf type bytes built × IsReplyTo items built last

-- ---- the command

-- FILE and TYPE, if the request is to convert texts to bytes.
abbrev pub built_by : Request → Option (List ℕ × AskedType)
built_by (own (build file type lines decimal)) = Some (file, asked_with type lines decimal)
built_by request = None

module _ {D T E : Type 0} (language : Language D T E) (TextOf : T → List ℕ → Built → Type 0) where
  -- FILE is requested in the first turn.
  abbrev pub Wants : Request → Fetches → ℕ → List ℕ → Type 0
  Wants request files turn name =
      (turn ≡ 0) × (type : AskedType) × (built_by request ≡ Some (name, type))

  -- TYPE is found as for the commands on values.
  abbrev pub Finds : Request → Fetches → Result T Exit → Type 0
  Finds request files result =
      (typed : List ℕ × AskedType) × (built_by request ≡ Some typed)
      × ReadsTypeOf language (files 0) typed result

  abbrev pub building : Commands T
  building = record {
    Wants = Wants;
    Finds = Finds;
    Reads = λ type. Unit {0};
    IsFirst = λ type items. IsFirstLine;
    Outputs = λ type items. OutputsLine TextOf type;
    Exits = λ type. ExitsAtLine TextOf type;
    Ends = λ type. EndsWithLine TextOf type;
  }

  -- If a type is read from texts, then each line has at most one reading at the type.
  abbrev pub IsReadOnce : Type 0
  IsReadOnce = (type : T) → IsGiven language type → (line : List ℕ) → IsOnce (TextOf type line)
