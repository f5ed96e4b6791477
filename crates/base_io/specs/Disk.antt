-- The known state of the file system. The state contains whether a file is open and, if known, the
-- remaining bytes of the open file. It also contains the counts of faults, the name of the last
-- failed fetch, and the calls so far.
use Rattle.std.specs.Prelude.{ℕ, Bool, List, Option}
use Rattle.base_io.specs.History.{Event}

pub record DiskValue : Type 0 where
  pub is_open : Bool
  pub left : Option (List ℕ)
  pub open_faults : ℕ
  pub last_open_fault : Option (List ℕ)
  pub read_faults : ℕ
  pub calls : List Event
