-- Laws of the command line.
use Rattle.std.specs.Prelude.{ℕ, ◌≡◌, List, []}
use Rattle.clap.specs.Words.{fault_of}
use Rattle.cli_spec.specs.CommandLine.{command_set, Request, AreReadAs, Asks, ArePlain}

-- Arguments make at most one request.
abbrev pub HasOneRequest : Type 0
HasOneRequest =
    (command_line : List (List ℕ)) (request other : Request) → Asks command_line request
    → Asks command_line other
    → request ≡ other

-- A command line in plain form makes the request that the command line states.
abbrev pub PlainArgumentsAsk : Type 0
PlainArgumentsAsk =
    (command_line : List (List ℕ)) (request : Request) → ArePlain command_line request
    → Asks command_line request

-- If clap reports no error, then the arguments parse to some request. Unless the request is a
-- certificate of a single value, the arguments make the request.
abbrev pub AcceptedArgumentsAreRead : Type 0
AcceptedArgumentsAreRead =
    (command_line : List (List ℕ)) → fault_of command_set command_line ≡ []
    → (request : Request) × AreReadAs command_line request
