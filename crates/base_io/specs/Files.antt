-- The files as a finite map from names to bytes, and the effect of `fetch`.
use Rattle.std.specs.Prelude.{◌≡◌, ◌≢◌, ℕ, List, AllPairs, bytes_eq, find, Bool, true, false}
use Rattle.std.specs.Prelude.{Option, IsSome, option_map, Result, Ok, Err}
use Rattle.base_io.specs.declared.files.OpenError.{OpenError}
use Rattle.base_io.specs.declared.files.OpenError.TheVariants.{Failed, Missing, Memory}

-- A file is a pair of a name and the bytes of the file.
abbrev pub File : Type 0
File = List ℕ × List ℕ

-- The bytes of the first file with this name, or `None` if no file has this name.
abbrev pub contents_of : List File → List ℕ → Option (List ℕ)
contents_of files name = option_map (λ file. file.1) (find (λ file. bytes_eq file.0 name) files)

-- No two files have the same name.
abbrev pub HasNoNameTwice : List File → Type 0
HasNoNameTwice files = AllPairs (λ file other. file.0 ≢ other.0) files

-- A file has the name, and all bytes of the file remain to be read.
pub record OpensFile (files : List File) (name : List ℕ) (left : Option (List ℕ)) : Type 0 where
  pub found : IsSome (contents_of files name)
  pub whole : left ≡ contents_of files name

-- Returns true if the result is `Failed`.
abbrev pub has_failed : {T : Type 0} → Result T OpenError → Bool
has_failed (Ok x) = false
has_failed (Err Failed) = true
has_failed (Err Missing) = false
has_failed (Err Memory) = false
