-- Lawful commands. Each relation of a lawful command has at most one answer. The items and exit
-- reasons of a prefix remain if more bytes follow.
use Rattle.std.specs.Prelude.{ℕ, ◌<◌, ◌≡◌, ◌⊎◌, List, ◌++◌, length, Result, Ok, Err}
use Rattle.base_data.specs.model.Bytes.{AreBytes}
use Rattle.cli_spec.specs.Outcome.{Found, opened, missing, whole, Request, ReadsFile, Output, exits}
use Rattle.cli_spec.specs.declared.exit.Exit.{Exit}
use Rattle.cli_spec.specs.declared.exit.Exit.TheVariants.{Usage as usage, BadPath as bad_path}
use Rattle.cli_spec.specs.declared.exit.Exit.TheVariants.{NotTwoValues as not_two_values}
use Rattle.cli_spec.specs.declared.exit.Exit.TheVariants.{CannotOpen as cannot_open}
use Rattle.cli_spec.specs.declared.exit.Exit.TheVariants.{Declarations as declarations}
use Rattle.cli_spec.specs.declared.exit.Exit.TheVariants.{RequestedType as requested_type}
use Rattle.cli_spec.specs.declared.exit.Exit.TheVariants.{Value as value, Script as script_line}
use Rattle.cli_spec.specs.declared.exit.Exit.TheVariants.{Text as text_line}
use Rattle.cli_spec.specs.declared.exit.Exit.TheVariants.{Untyped as untyped_value}
use Rattle.cli_spec.specs.declared.exit.Exit.TheVariants.{LargeValue as large_value}
use Rattle.cli_spec.specs.declared.exit.Exit.TheVariants.{Certificate as certificate_line}
use Rattle.cli_spec.specs.declared.exit.Exit.TheVariants.{Uncertified as uncertified_value}
use Rattle.cli_spec.specs.declared.exit.Exit.TheVariants.{SectionsLeft as sections_left}
use Rattle.cli_spec.specs.declared.exit.Exit.TheVariants.{Short as short_input}
use Rattle.cli_spec.specs.declared.exit.Exit.TheVariants.{Finished as finished}
use Rattle.cli_spec.specs.declared.exit.Exit.TheVariants.{ReadFault as read_fault}
use Rattle.cli_spec.specs.declared.exit.Exit.TheVariants.{TooLong as too_long}
use Rattle.cli_spec.specs.declared.exit.Exit.TheVariants.{Memory as out_of_memory}
use Rattle.run_spec.specs.runs.Commands.{Item, Fetches, Commands}

-- At most one element satisfies `P`.
abbrev pub IsOnce : {X : Type 0} → (X → Type 0) → Type 0
IsOnce {X} P = (x y : X) → P x → P y → x ≡ y

-- The environment did not cause the exit reason: no file failed to open, no operation failed,
-- nothing was too long, and memory sufficed.
abbrev pub IsInner : Exit → Type 0
IsInner usage = Unit {0}
IsInner bad_path = Unit {0}
IsInner not_two_values = Unit {0}
IsInner (cannot_open name) = ⊥
IsInner (declarations refusal) = Unit {0}
IsInner (requested_type refusal) = Unit {0}
IsInner (value number refusal) = Unit {0}
IsInner (script_line number refusal) = Unit {0}
IsInner (text_line number refusal) = Unit {0}
IsInner (untyped_value number fault) = Unit {0}
IsInner (large_value number refusal) = Unit {0}
IsInner (certificate_line number) = Unit {0}
IsInner (uncertified_value number reason) = Unit {0}
IsInner sections_left = Unit {0}
IsInner (short_input taken) = Unit {0}
IsInner (finished ok) = Unit {0}
IsInner read_fault = ⊥
IsInner too_long = ⊥
IsInner out_of_memory = ⊥

-- The file was read completely, or it does not exist.
abbrev pub IsWhole : Found → Type 0
IsWhole found = ((bytes : List ℕ) × (found ≡ opened (whole bytes))) ⊎ (found ≡ missing)

module _ {A : Type 0} (c : Commands A) where
  -- A requested file was not read completely, which ends the run.
  pub record FailsAtFile (request : Request) (files : Fetches) (result : Result A Exit)
      : Type 0 where
    pub turn : ℕ
    pub name : List ℕ
    pub wants : c.Wants request files turn name
    pub exit : Exit
    pub fault : ReadsFile name (files turn name) (Err exit)
    pub is : result ≡ Err exit

  -- Some request and some files lead to the task `a`.
  abbrev pub IsFound : A → Type 0
  IsFound a = (request : Request) × (files : Fetches) × c.Finds request files (Ok a)

  pub record AreLawfulAt (a : A) : Type 0 where
    -- The laws of uniqueness: each relation has at most one answer.
    pub first_once : (items : List Item) (bytes : List ℕ) → AreBytes bytes
        → (item other : Item) (more rest : List ℕ)
        → c.IsFirst a items bytes item more → c.IsFirst a items bytes other rest
        → (item ≡ other) × (more ≡ rest)
    pub outputs_once : (items : List Item) (item : Item) → IsOnce (c.Outputs a items item)
    pub exits_once : (items : List Item) (bytes : List ℕ) → AreBytes bytes
        → IsOnce (c.Exits a items bytes)
    pub ends_once : (items : List Item) (bytes : List ℕ) → AreBytes bytes
        → IsOnce (c.Ends a items bytes)
    -- The laws of prefixes: an item has at least one byte. Items and exit reasons remain if more
    -- bytes follow.
    pub prefix : (items : List Item) (bytes : List ℕ) (item : Item) (more : List ℕ)
        → c.IsFirst a items bytes item more
        → (first : List ℕ) × (bytes ≡ first ++ more) × (0 < length first)
    pub item_stays : (items : List Item) (bytes : List ℕ) (item : Item) (more later : List ℕ)
        → c.IsFirst a items bytes item more
        → c.IsFirst a items (bytes ++ later) item (more ++ later)
    pub exit_stays : (items : List Item) (bytes later : List ℕ) (exit : Exit)
        → c.Exits a items bytes exit → c.Exits a items (bytes ++ later) exit
    -- No reply to the input is an exit reason that the environment caused.
    pub exits_inside : (items : List Item) (bytes : List ℕ) (exit : Exit)
        → c.Exits a items bytes exit → IsInner exit
    pub ends_inside : (items : List Item) (bytes : List ℕ) (exit : Exit)
        → c.Ends a items bytes (exits exit) → IsInner exit
    -- The law of disjointness: if the run ends at the bytes of an item, then the item has no
    -- output.
    pub disjoint : (items : List Item) (bytes : List ℕ) → AreBytes bytes
        → (item : Item) (more : List ℕ) (output : Output) (exit : Exit)
        → c.IsFirst a items bytes item more → c.Outputs a items item output
        → c.Exits a items bytes exit → ⊥

  pub record AreLawful : Type 0 where
    -- In each turn at most one file is requested.
    pub wants_once : (request : Request) (files : Fetches) (turn : ℕ)
        → IsOnce (c.Wants request files turn)
    pub finds_once : (request : Request) (files : Fetches) → IsOnce (c.Finds request files)
    -- The task depends only on the requested files.
    pub by_wanted : (request : Request) (files others : Fetches) (result : Result A Exit)
        → ((turn : ℕ) (name : List ℕ) → c.Wants request files turn name
        → files turn name ≡ others turn name)
        → c.Finds request files result → c.Finds request others result
    -- Each requested file is read completely, does not exist, or ends the run.
    pub reads_wanted : (request : Request) (files : Fetches) (result : Result A Exit)
        → c.Finds request files result
        → (turn : ℕ) (name : List ℕ) → c.Wants request files turn name
        → IsWhole (files turn name)
        ⊎ ((exit : Exit) × ReadsFile name (files turn name) (Err exit) × (result ≡ Err exit))
    -- If the environment caused an exit reason, then one of the requested files led to it.
    pub finds_inside : (request : Request) (files : Fetches) (exit : Exit)
        → c.Finds request files (Err exit)
        → IsInner exit ⊎ FailsAtFile request files (Err exit)
    pub at : (a : A) → IsFound a → AreLawfulAt a

  -- Commands that request their files turn by turn. A request depends only on the earlier turns. A
  -- requested file is read or ends the run. After a file that was not read, nothing more is
  -- requested.
  pub record AreInTurns : Type 0 where
    pub by_earlier : (request : Request) (files others : Fetches) (turn : ℕ) (name : List ℕ)
        → ((earlier : ℕ) (other : List ℕ) → earlier < turn → c.Wants request files earlier other
        → files earlier other ≡ others earlier other)
        → c.Wants request files turn name → c.Wants request others turn name
    pub reads : (request : Request) (files : Fetches) (result : Result A Exit)
        → c.Finds request files result
        → (turn : ℕ) (name : List ℕ) → c.Wants request files turn name
        → ((bytes : List ℕ) × (files turn name ≡ opened (whole bytes)))
        ⊎ ((exit : Exit) × ReadsFile name (files turn name) (Err exit) × (result ≡ Err exit))
    pub after_read : (request : Request) (files : Fetches) (turn later : ℕ) (name other : List ℕ)
        → turn < later → c.Wants request files turn name → c.Wants request files later other
        → (bytes : List ℕ) × (files turn name ≡ opened (whole bytes))
