-- A lawful language. A text has at most one reading. At a type that was read, a value has at most
-- one line and one result of edits.
use Rattle.std.specs.Prelude.{ℕ, ◌≡◌, Bool, List, Some, None, Result, Ok, Err}
use Rattle.marshal_spec.specs.format.Tree.{Tree}
use Rattle.cli_spec.specs.Outcome.{AskedType, Language, Query, Unedited}

-- Some text is read as the type `t`, over declarations that are read from some text.
abbrev pub IsGiven : {D T E : Type 0} → Language D T E → T → Type 0
IsGiven {D} language t =
    (text : List ℕ) × (type : AskedType) × (d : D)
    × language.ReadsDeclarations type.lines text (Ok d) × language.ReadsType d type (Ok t)

pub record IsLawful {D T E : Type 0} (language : Language D T E) : Type 0 where
  pub declarations_once : (lined : Bool) (text : List ℕ) (d : D) (refusal : List ℕ)
      → language.ReadsDeclarations lined text (Ok d)
      → language.ReadsDeclarations lined text (Err refusal) → ⊥
  pub same_declarations : (lined : Bool) (text : List ℕ) (d e : D)
      → language.ReadsDeclarations lined text (Ok d)
      → language.ReadsDeclarations lined text (Ok e) → d ≡ e
  pub same_refusal : (lined : Bool) (text refusal other : List ℕ)
      → language.ReadsDeclarations lined text (Err refusal)
      → language.ReadsDeclarations lined text (Err other) → refusal ≡ other
  pub type_once : (d : D) (type : AskedType) (t : T) (refusal : List ℕ)
      → language.ReadsType d type (Ok t) → language.ReadsType d type (Err refusal) → ⊥
  pub same_type : (d : D) (type : AskedType) (t u : T)
      → language.ReadsType d type (Ok t) → language.ReadsType d type (Ok u) → t ≡ u
  pub same_type_refusal : (d : D) (type : AskedType) (refusal other : List ℕ)
      → language.ReadsType d type (Err refusal) → language.ReadsType d type (Err other)
      → refusal ≡ other
  pub script_once : (lined decimal : Bool) (text : List ℕ) (lines : List E) (refusal : ℕ × List ℕ)
      → language.ReadsScript lined decimal text (Ok lines)
      → language.ReadsScript lined decimal text (Err refusal) → ⊥
  pub same_script : (lined decimal : Bool) (text : List ℕ) (lines other : List E)
      → language.ReadsScript lined decimal text (Ok lines)
      → language.ReadsScript lined decimal text (Ok other) → lines ≡ other
  pub same_script_refusal : (lined decimal : Bool) (text : List ℕ) (refusal other : ℕ × List ℕ)
      → language.ReadsScript lined decimal text (Err refusal)
      → language.ReadsScript lined decimal text (Err other) → refusal ≡ other
  pub bytes_once : (t : T) → IsGiven language t
      → (script : List E) (compat : Bool) (earlier : List Tree) (tree : Tree)
      (answer other : Result (List ℕ) Unedited)
      → language.BytesOf t script compat earlier tree answer
      → language.BytesOf t script compat earlier tree other → answer ≡ other
  pub path_once : (text path : List ℕ)
      → language.ReadsPath text (Some path) → language.ReadsPath text None → ⊥
  pub same_path : (text path other : List ℕ)
      → language.ReadsPath text (Some path) → language.ReadsPath text (Some other) → path ≡ other
  pub line_once : (query : Query) (t : T) → IsGiven language t
      → (tree : Tree) (line other : List ℕ) (one two : Bool)
      → language.LineOf query t tree line one → language.LineOf query t tree other two
      → (line ≡ other) × (one ≡ two)
