-- How the program ends.
use Rattle.std.specs.Prelude.{◌≡◌, ◌≢◌, ◌⊎◌, drop, IsSome, Result, Ok, Err, String}
use Rattle.std.specs.IoError.{error_kind}
use Rattle.std.specs.Vec.Iter.{into_iter_items}
use Rattle.std.specs.declared.alloc.Global.{Global}
use Rattle.std.specs.declared.io.Error.{Error}
use Rattle.std.specs.declared.io.ErrorKind.TheVariants as kinds
use Rattle.std.specs.declared.vec.IntoIter.{IntoIter}
use Rattle.cli_args.specs.Requests.{texts}
use Rattle.cli_spec.specs.declared.exit.Exit.{Exit}
use Rattle.cli_spec.specs.declared.exit.Exit.TheVariants.{Usage as usage, Memory as out_of_memory}
use Rattle.run_spec.specs.runs.Call.{Call}
use Rattle.session.specs.Run.{IsRun}
use Rattle.omarshal.specs.Ending.{Outputs}

-- Nothing was read, and nothing was written to standard output. The error line of the exit reason
-- was written to standard error, unless the write failed.
pub record HasNotBegun (exit : Exit) (call : Call) : Type 0 where
  pub input : call.input.after ≡ call.input.before
  pub files : call.files.after ≡ call.files.before
  pub out : call.out.after ≡ call.out.before
  pub err : Outputs exit call.err call.status
  pub err_known : IsSome call.err.before.bytes

-- The arguments could not be read: memory ran out, or an argument is no text.
pub record HasNoArguments (error : Error) (call : Call) : Type 0 where
  pub memory : error_kind error ≡ kinds.OutOfMemory → HasNotBegun out_of_memory call
  pub others : error_kind error ≢ kinds.OutOfMemory → HasNotBegun usage call

-- If the arguments could be read, the call is a run with the arguments after the program's name, or
-- memory ran out before the run began.
abbrev pub EndsProgram : Result (IntoIter (String Global) Global) Error → Call → Type 0
EndsProgram (Ok args) call =
    IsRun (texts (drop 1 (into_iter_items args))) call ⊎ HasNotBegun out_of_memory call
EndsProgram (Err error) call = HasNoArguments error call
