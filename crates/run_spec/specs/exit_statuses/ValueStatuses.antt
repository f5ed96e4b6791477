-- The exit status specification for the values of the input, by task: tables with one row for each
-- status of a task. A command with another task adds its own rows.
use Rattle.std.specs.Prelude.{ℕ, ◌<◌, ◌≡◌, ◌≢◌, ◌⊎◌, Bool, true, false, List, [], ◌∷◌, ◌++◌, length}
use Rattle.std.specs.Prelude.{Some, None, Ok, Err}
use Rattle.std.specs.List.{AllByRecursion}
use Rattle.base_data.specs.declared.model.refusal.ReadRefusal.{ReadRefusal}
use Rattle.marshal_spec.specs.format.Stream.{EncodeAll, refused, cut, IsTail}
use Rattle.marshal_spec.specs.format.Tree.{Tree}
use Rattle.cli_spec.specs.declared.status.Status.{Status}
use Rattle.cli_spec.specs.declared.status.Status.TheVariants.{AllOk, No, Usage, Value, Script}
use Rattle.cli_spec.specs.declared.status.Status.TheVariants.{Compat}
use Rattle.cli_spec.specs.Outcome.{Language, Query, Unedited, untyped, refused_line, too_large}
use Rattle.cli_spec.specs.Outcome.{ValueWork, reports, edits, dumps, compares, Task, line_past}
use Rattle.cli_spec.specs.Outcome.{AreSame}

-- `Holds` is true of some value in the list.
abbrev pub HoldsOfSome : (Tree → Type 0) → List Tree → Type 0
HoldsOfSome Holds [] = ⊥
HoldsOfSome Holds (tree ∷ trees) = Holds tree ⊎ HoldsOfSome Holds trees

-- The list has exactly two values, and `Holds` is true of the two values.
abbrev pub AreTwo : (Tree → Tree → Type 0) → List Tree → Type 0
AreTwo Holds [] = ⊥
AreTwo Holds (first ∷ []) = ⊥
AreTwo Holds (first ∷ second ∷ []) = Holds first second
AreTwo Holds (first ∷ second ∷ third ∷ rest) = ⊥

module _ {D T E : Type 0} (language : Language D T E) where
  -- The value has an output line at the type, and `ok` states whether the line is without errors.
  abbrev pub HasLine : Query → T → Bool → Tree → Type 0
  HasLine query type ok tree = (line : List ℕ) × language.LineOf query type tree line ok

  abbrev pub HasSomeLine : Query → T → Tree → Type 0
  HasSomeLine query type tree = (ok : Bool) × HasLine query type ok tree

  -- The value that follows the values `earlier` is edited, and the bytes of the edited value are
  -- written.
  abbrev pub IsEdited : T → List E → Bool → (earlier : List Tree) → Tree → Type 0
  IsEdited type script compat earlier tree =
      (bytes : List ℕ) × language.BytesOf type script compat earlier tree (Ok bytes)

  -- Each value of `trees`, which follow the values `earlier`, is edited.
  abbrev pub AreEdited : T → List E → Bool → (earlier trees : List Tree) → Type 0
  AreEdited type script compat earlier [] = Unit {0}
  AreEdited type script compat earlier (tree ∷ trees) =
      IsEdited type script compat earlier tree
      × AreEdited type script compat (earlier ++ tree ∷ []) trees

  -- The values `trees` are edited, and the next value is not edited, for the reason `why`.
  abbrev pub IsNotEdited : T → List E → Bool → List Tree → Tree → Unedited → Type 0
  IsNotEdited type script compat trees tree why =
      AreEdited type script compat [] trees
      × language.BytesOf type script compat trees tree (Err why)

  -- ---- in terms of values

  -- Each of the values has an output, and one more value may follow.
  abbrev pub Pass : ValueWork T E → List Tree → Type 0
  Pass (reports query type) trees = AllByRecursion (HasSomeLine query type) trees
  Pass (edits type script compat) trees = AreEdited type script compat [] trees
  Pass dumps trees = Unit {0}
  Pass compares trees = length trees < 2

  -- If the input ends after the values `trees`, then the status is the given one.
  abbrev pub Finish : ValueWork T E → List Tree → Status → Type 0
  Finish (reports query type) trees AllOk = AllByRecursion (HasLine query type true) trees
  Finish (reports query type) trees No =
      AllByRecursion (HasSomeLine query type) trees × HoldsOfSome (HasLine query type false) trees
  Finish (edits type script compat) trees AllOk =
      AreEdited type script compat [] trees
      × (line_past language script (length trees) ≡ None)
  Finish (edits type script compat) trees Script =
      AreEdited type script compat [] trees
      × (line : E) × (line_past language script (length trees) ≡ Some line)
  Finish dumps trees AllOk = Unit {0}
  Finish compares trees AllOk = AreTwo AreSame trees
  Finish compares trees No = AreTwo (λ first second. AreSame first second → ⊥) trees
  Finish compares trees Usage = length trees < 2
  Finish work trees status = ⊥

  -- After the values `trees`, the value `tree` ends the run with the given status.
  abbrev pub Break : ValueWork T E → List Tree → Tree → Status → Type 0
  Break (edits type script compat) trees tree No =
      (fault : List ℕ) × IsNotEdited type script compat trees tree (untyped fault)
  Break (edits type script compat) trees tree Script =
      (number : ℕ) × (refusal : List ℕ)
      × IsNotEdited type script compat trees tree (refused_line number refusal)
  Break (edits type script compat) trees tree Compat =
      (refusal : List ℕ) × IsNotEdited type script compat trees tree (too_large refusal)
  Break work trees tree status = ⊥

  -- After the values `trees`, any further byte ends the run with the given status.
  abbrev pub Close : ValueWork T E → List Tree → Status → Type 0
  Close compares trees Usage = length trees ≡ 2
  Close work trees status = ⊥

  -- ---- in terms of bytes

  -- All bytes are values, and `status` is the status at the end of the values.
  pub record AreFinished (task : Task T E) (bytes : List ℕ) (status : Status) : Type 0 where
    pub trees : List Tree
    pub encoded : EncodeAll task.limit bytes trees []
    pub finishes : Finish task.work trees status

  -- After values that satisfy `Pass`, the bytes end inside the next value.
  pub record AreSplit (task : Task T E) (bytes : List ℕ) : Type 0 where
    pub trees : List Tree
    pub rest : List ℕ
    pub n : ℕ
    pub encoded : EncodeAll task.limit bytes trees rest
    pub pass : Pass task.work trees
    pub tail : IsTail task.limit rest (cut n)

  -- If the input is `bytes`, then `status` is the status at the end of the input. If a value is
  -- truncated, the status is 4.
  abbrev pub EndWith : Task T E → List ℕ → Status → Type 0
  EndWith task bytes status =
      AreFinished task bytes status ⊎ ((status ≡ Value) × AreSplit task bytes)

  -- The bytes begin with values, and the last of these values ends the run with the status
  -- `status`.
  pub record HoldBreak (task : Task T E) (bytes : List ℕ) (status : Status) : Type 0 where
    pub trees : List Tree
    pub tree : Tree
    pub rest : List ℕ
    pub encoded : EncodeAll task.limit bytes (trees ++ tree ∷ []) rest
    pub breaks : Break task.work trees tree status

  -- The bytes are values and at least one further byte, which ends the run with the status
  -- `status`.
  pub record HoldClose (task : Task T E) (bytes : List ℕ) (status : Status) : Type 0 where
    pub trees : List Tree
    pub rest : List ℕ
    pub encoded : EncodeAll task.limit bytes trees rest
    pub closes : Close task.work trees status
    pub more : rest ≢ []

  -- After values that satisfy `Pass`, the next bytes are refused.
  pub record HoldRefusal (task : Task T E) (bytes : List ℕ) : Type 0 where
    pub trees : List Tree
    pub rest : List ℕ
    pub refusal : ReadRefusal
    pub encoded : EncodeAll task.limit bytes trees rest
    pub pass : Pass task.work trees
    pub tail : IsTail task.limit rest (refused refusal)

  -- The bytes end the run with the status `status`, whatever bytes follow. If some bytes are
  -- refused, the status is 4.
  abbrev pub ExitWith : Task T E → List ℕ → Status → Type 0
  ExitWith task bytes status =
      HoldBreak task bytes status
      ⊎ (HoldClose task bytes status ⊎ ((status ≡ Value) × HoldRefusal task bytes))
