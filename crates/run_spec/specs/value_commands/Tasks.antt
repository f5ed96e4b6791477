-- The commands on the values of the input, in the general form: each item is a value.
use Rattle.std.specs.Prelude.{ℕ, ◌<◌, ◌≡◌, ◌⊎◌, List, [], ◌∷◌, length, Some, IfSome, Result, Ok}
use Rattle.base_data.specs.declared.model.refusal.ReadRefusal.{ReadRefusal}
use Rattle.marshal_spec.specs.format.Stream.{EncodeAll, StreamEnd, clean, refused, cut, IsTail}
use Rattle.marshal_spec.specs.format.Tree.{Tree}
use Rattle.cli_spec.specs.Outcome as outcome
use Rattle.cli_spec.specs.Outcome.{Request, AskedType, typed_by, path_of, script_of, limit_of}
use Rattle.cli_spec.specs.Outcome.{Output, Reply, exits, Language, ValueWork, reports, edits, dumps}
use Rattle.cli_spec.specs.Outcome.{compares, Task, task, Then, ReadsTypeOf, FindsWork}
use Rattle.cli_spec.specs.RefusalText.{refusal_text, truncated_text}
use Rattle.cli_spec.specs.declared.exit.Exit.{Exit}
use Rattle.cli_spec.specs.declared.exit.Exit.TheVariants.{Value as value}
use Rattle.run_spec.specs.runs.Commands.{Item, value as value_item, Fetches, Commands}

-- FILE is fetched in the first turn, and SCRIPT in the second.
abbrev pub by_turns : Fetches → outcome.FetchResults
by_turns files = record { file = files 0; script = files 1 }

-- The values, each as an item of the input.
abbrev pub items_of : List Tree → List Item
items_of [] = []
items_of (tree ∷ trees) = value_item tree ∷ items_of trees

module _ {D T E : Type 0} (language : Language D T E) where
  -- ---- the files

  -- If the arguments have a PATH, then the PATH is a valid path.
  abbrev pub HasPath : Request → Type 0
  HasPath request =
      IfSome (path_of request) (λ text. (path : List ℕ) × language.ReadsPath text (Some path))

  -- The request asks for FILE and has no invalid PATH.
  pub record WantsFile (request : Request) (name : List ℕ) : Type 0 where
    pub has_path : HasPath request
    pub type : AskedType
    pub typed : typed_by request ≡ Some (name, type)

  -- The request asks for SCRIPT, and FILE and TYPE are read without errors.
  pub record WantsScript (request : Request) (files : Fetches) (name : List ℕ) : Type 0 where
    pub scripted : script_of request ≡ Some name
    pub typed : List ℕ × AskedType
    pub is_typed : typed_by request ≡ Some typed
    pub type : T
    pub reads : ReadsTypeOf language (files 0) typed (Ok type)

  abbrev pub Wants : Request → Fetches → ℕ → List ℕ → Type 0
  Wants request files turn name =
      ((turn ≡ 0) × WantsFile request name) ⊎ ((turn ≡ 1) × WantsScript request files name)

  -- The task for the values of the input, with the limit on a value.
  abbrev pub Finds : Request → Fetches → Result (Task T E) Exit → Type 0
  Finds request files =
      Then (FindsWork language (by_turns files) request) (λ work found.
      found ≡ Ok (task work (limit_of request)))

  -- ---- the values

  -- The bytes are a value within the limit, followed by the bytes `more`.
  pub record IsFirstValue (limit : ℕ) (bytes : List ℕ) (item : Item) (more : List ℕ)
      : Type 0 where
    pub tree : Tree
    pub is : item ≡ value_item tree
    pub encoded : EncodeAll limit bytes (tree ∷ []) more

  -- After the values `earlier`, the next value has the output `output`.
  pub record OutputsOf (work : ValueWork T E) (items : List Item) (item : Item) (output : Output)
      : Type 0 where
    pub earlier : List Tree
    pub are : items ≡ items_of earlier
    pub tree : Tree
    pub is : item ≡ value_item tree
    pub outputs : outcome.Outputs language work earlier tree output

  -- After `n` values the command accepts one more value.
  abbrev pub MayCome : ValueWork T E → ℕ → Type 0
  MayCome (reports query type) n = Unit {0}
  MayCome (edits type script compat) n = Unit {0}
  MayCome dumps n = Unit {0}
  MayCome compares n = n < 2

  -- The command accepts one more value after `n` values, and the bytes `bytes` are refused.
  pub record IsRefused (a : Task T E) (n : ℕ) (bytes : List ℕ) (exit : Exit) : Type 0 where
    pub may : MayCome a.work n
    pub refusal : ReadRefusal
    pub tail : IsTail a.limit bytes (refused refusal)
    pub is : exit ≡ value n (refusal_text refusal)

  -- At the bytes `bytes`, the command ends the run, or the next value is refused.
  pub record ExitsHere (a : Task T E) (items : List Item) (bytes : List ℕ) (exit : Exit)
      : Type 0 where
    pub trees : List Tree
    pub are : items ≡ items_of trees
    pub why : outcome.ExitsAt language a.work a.limit trees bytes exit
        ⊎ IsRefused a (length trees) bytes exit

  -- The final reply if the bytes end after the values, or if one more value is truncated.
  abbrev pub EndsBy : ValueWork T E → List Tree → StreamEnd → Reply → Type 0
  EndsBy work trees clean last = outcome.Finishes language work trees last
  EndsBy work trees (refused refusal) last = ⊥
  EndsBy work trees (cut n) last = last ≡ exits (value (length trees) (truncated_text n))

  pub record EndsHere (a : Task T E) (items : List Item) (bytes : List ℕ) (last : Reply)
      : Type 0 where
    pub trees : List Tree
    pub are : items ≡ items_of trees
    pub end : StreamEnd
    pub tail : IsTail a.limit bytes end
    pub ends : EndsBy a.work trees end last

  abbrev pub commands : Commands (Task T E)
  commands = record {
    Wants = Wants;
    Finds = Finds;
    Reads = λ a. Unit {0};
    IsFirst = λ a items. IsFirstValue a.limit;
    Outputs = λ a. OutputsOf a.work;
    Exits = ExitsHere;
    Ends = EndsHere;
  }
