-- The requests of the command `scan`.
use Rattle.std.specs.Prelude.{ℕ, ◌≡◌, Option, Some}
use Rattle.cli_spec.specs.Outcome.{Request}

-- The request is a search: the request has a limit.
abbrev pub IsSearch : (Request → Option ℕ) → Request → Type 0
IsSearch limit_by request = (limit : ℕ) × (limit_by request ≡ Some limit)
