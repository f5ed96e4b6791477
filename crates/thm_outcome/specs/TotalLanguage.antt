-- A total language. Each text is read or refused. Each value has an output line and the bytes of an
-- edit, or a reason why the value is not edited.
use Rattle.std.specs.Prelude.{ℕ, Bool, List, [], Ok}
use Rattle.marshal_spec.specs.format.Encoded.{EncodedUnder}
use Rattle.marshal_spec.specs.format.Tree.{Tree}
use Rattle.cli_spec.specs.Outcome.{Request, dump, compare, own, AskedType, Query, Output, Language}
use Rattle.cli_spec.specs.Outcome.{edits, AllPrint}
use Rattle.run_spec.specs.runs.LawfulLanguage.{IsGiven}
use Rattle.thm_outcome.specs.Total.{NotNone}

-- Some bytes encode the value.
abbrev pub IsEncoded : Tree → Type 0
IsEncoded tree = (limit : ℕ) × (bytes : List ℕ) × EncodedUnder limit bytes tree

-- A value has an output line at each type that was read.
abbrev pub HasLines : {D T E : Type 0} → Language D T E → Type 0
HasLines {D} {T} {E} language = (query : Query) (t : T) → IsGiven language t
    → (tree : Tree) → IsEncoded tree
    → ((text : List ℕ) (ok : Bool) → language.LineOf query t tree text ok → ⊥) → ⊥

-- Some text is read as the script `script`.
abbrev pub IsScript : {D T E : Type 0} → Language D T E → List E → Type 0
IsScript language script =
    (lined decimal : Bool) × (text : List ℕ) × language.ReadsScript lined decimal text (Ok script)

-- If a script that was read edits the earlier values, then the next value is edited, or there is a
-- reason why the next value is not edited.
abbrev pub HasBytes : {D T E : Type 0} → Language D T E → Type 0
HasBytes {D} {T} {E} language = (t : T) → IsGiven language t
    → (script : List E) → IsScript language script
    → (compat : Bool) (earlier : List Tree) (output : List Output)
    → AllPrint language (edits t script compat) [] earlier output
    → (tree : Tree) → IsEncoded tree
    → NotNone (language.BytesOf t script compat earlier tree)

pub record IsTotal {D T E : Type 0} (language : Language D T E) : Type 0 where
  pub declarations_some : (lined : Bool) (text : List ℕ)
      → NotNone (language.ReadsDeclarations lined text)
  pub type_some : (lined : Bool) (text : List ℕ) (d : D)
      → language.ReadsDeclarations lined text (Ok d)
      → (asked : AskedType) → NotNone (language.ReadsType d asked)
  pub script_some : (lined decimal : Bool) (text : List ℕ)
      → NotNone (language.ReadsScript lined decimal text)
  pub path_some : (text : List ℕ) → NotNone (language.ReadsPath text)
  pub line_some : HasLines language
  pub bytes_some : HasBytes language

-- The request is a request of a command on values.
abbrev pub IsValueRequest : Request → Type 0
IsValueRequest (own request) = ⊥
IsValueRequest request = Unit {0}

-- The request is a request of `dump` or `same`, which read no type.
abbrev pub ReadsNoType : Request → Type 0
ReadsNoType (dump reading) = Unit {0}
ReadsNoType (compare reading) = Unit {0}
ReadsNoType request = ⊥
