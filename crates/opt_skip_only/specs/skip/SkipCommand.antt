-- The bytes skipped so far, and the bytes consumed after the skipped bytes.
use Rattle.std.specs.Prelude.{ℕ, ◌+◌, ◌<◌, ◌≡◌, List, [], ◌++◌, length}
use Rattle.cli_spec.specs.Outcome.{Output}
use Rattle.opt_skip_only.specs.skip_spec.Skipping.{SkippedBytes, bytes_output}
use Rattle.opt_skip_only.specs.declared.skip.skip_command.Over.{Over}
use Rattle.run_loop.specs.work.Works.{Has}

-- The number of bytes to skip, and whether the skipped bytes are written.
abbrev pub passed_of : Over → SkippedBytes
passed_of over = record { bytes = over.bytes; copied = over.copied }

-- `left` bytes remain to be skipped. While `left` is positive, no byte is consumed after the
-- skipped bytes.
pub record HasPassed (p : SkippedBytes) (has : Has) (left : ℕ) (bytes : List ℕ)
    (output : List Output)
    : Type 0 where
  pub passed : List ℕ
  pub rest : List ℕ
  pub known : List Output
  pub bytes_are : bytes ≡ passed ++ rest
  pub output_are : output ≡ bytes_output p.copied passed ++ known
  pub counted : length passed + left ≡ p.bytes
  pub untaken : 0 < left → (rest ≡ []) × (known ≡ [])
  pub there : has rest known
