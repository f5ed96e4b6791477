-- The exit codes of the statuses.
use Rattle.std.specs.Prelude.{ℕ}
use Rattle.cli_spec.specs.declared.status.Status.{Status}
use Rattle.cli_spec.specs.declared.status.Status.TheVariants.{AllOk, No, Usage, Types, Value}
use Rattle.cli_spec.specs.declared.status.Status.TheVariants.{Script, ReadFault, WriteFault}
use Rattle.cli_spec.specs.declared.status.Status.TheVariants.{OpenFault, Memory, TooLong, Compat}
use Rattle.cli_spec.specs.declared.status.Status.TheVariants.{Certificate}

abbrev pub code_of : Status → ℕ
code_of AllOk = 0
code_of No = 1
code_of Usage = 2
code_of Types = 3
code_of Value = 4
code_of Script = 5
code_of ReadFault = 6
code_of WriteFault = 7
code_of OpenFault = 8
code_of Memory = 9
code_of TooLong = 10
code_of Compat = 11
code_of Certificate = 12
