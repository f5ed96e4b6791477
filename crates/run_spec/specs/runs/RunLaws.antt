-- The laws of lawful commands, each list of laws as one record.
use Rattle.run_spec.specs.runs.RunCauses.{AreAsKnown, AreMeant, IfAlone, IfArguments, IfFiles}
use Rattle.run_spec.specs.runs.RunCauses.{OnlyOpenFault, IfMissing, OnlyTooLong, IfFileTooLong}
use Rattle.run_spec.specs.runs.RunCauses.{IfInputTooLong, IfInputFails, IfMemory, IfWriteFault}
use Rattle.run_spec.specs.runs.RunCauses.{IsDecided, IsExact, IsComplete}
use Rattle.run_spec.specs.runs.CommandLaws.{HaveOneOutcome, HaveOneExit, ExitsStay, ExitsAreLast}
use Rattle.run_spec.specs.runs.CommandLaws.{ArePromised, Follow}
use Rattle.run_spec.specs.runs.Commands.{Commands}
use Rattle.run_spec.specs.runs.Environment.{OnlyReadFault, OnlyWriteFault}
use Rattle.run_spec.specs.runs.RunSpec.{Headline, HasStatus, IfExit, IfEnd, IfUsage}

module _ {A : Type 0} (c : Commands A) where
  -- Arguments, files and an input have at most one outcome. The input contains at most one exit
  -- reason. The exit reason remains if more bytes follow, and no item comes after the exit reason.
  pub record AnswerOnce : Type 0 where
    pub outcome : HaveOneOutcome c
    pub exit : HaveOneExit c
    pub stays : ExitsStay c
    pub last : ExitsAreLast c

  -- The specification of a run follows from its account, and the other properties of a run follow
  -- from the specification.
  pub record KeepRunSpec : Type 0 where
    pub account : ArePromised c
    pub headline : Follow c (Headline c)
    pub status : Follow c (HasStatus c)
    pub exit : Follow c (IfExit c)
    pub end : Follow c (IfEnd c)
    pub alone : Follow c (IfAlone c)
    pub usage : Follow c (IfUsage c)
    pub arguments : Follow c (IfArguments c)
    pub files : Follow c (IfFiles c)
    pub meant : Follow c (AreMeant c)
    pub as_known : Follow c (AreAsKnown c)
    pub read_fault : Follow c (λ arguments. OnlyReadFault)
    pub write_fault : Follow c (λ arguments. OnlyWriteFault)
    pub open_fault : Follow c (OnlyOpenFault c)
    pub missing : Follow c (IfMissing c)
    pub too_long : Follow c (OnlyTooLong c)
    pub file_too_long : Follow c (IfFileTooLong c)
    pub input_too_long : Follow c (IfInputTooLong c)
    pub input_fails : Follow c (IfInputFails c)
    pub memory : Follow c (IfMemory c)
    pub write_fault_by : Follow c (IfWriteFault c)
    pub decided : Follow c (IsDecided c)
    pub exact : Follow c (IsExact c)
    pub complete : Follow c (IsComplete c)
