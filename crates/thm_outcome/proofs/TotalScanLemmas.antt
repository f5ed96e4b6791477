-- The command `scan` is total. Each item is a stretch, whose parts have positions. The bytes after the
-- items are parts, as all bytes are.
use Rattle.std.proofs.Common.{ℕ, length, Option, Ok, refl, arith}
use Rattle.cli_spec.specs.Outcome.{Request, outputs, found_of}
use Rattle.run_spec.specs.runs.Commands.{Fetches}
use Rattle.cmd_scan.specs.found_positions.InputParts.{bytes_of}
use Rattle.cmd_scan.specs.spec.Searching.{searching}
use Rattle.cmd_scan.proofs.found_positions.FoundPositionWholeLemmas.{all_parts}
use Rattle.cmd_scan.proofs.spec.ScanSpecLawfulLemmas.{stretch_some}
use Rattle.cmd_scan.proofs.spec.ScanSpecOutputLemmas.{positions_output, output_of_stretch}
use Rattle.thm_outcome.specs.Total.{NotNone, AreTotalAt, AreTotal, HasAnswer}
use Rattle.thm_outcome.specs.TotalScan.{IsSearch}
use Rattle.thm_outcome.proofs.SomeOutcomeLemmas.{HasPrefix, answer_some}

module _ (limit_by : Request → Option ℕ) where
  search_total : (limit : ℕ) → AreTotalAt (searching limit_by) limit
  search_total limit = record {
    outputs_some = λ items output print bytes are_bytes item more is no_exit none.
        none (positions_output items is.parts) (output_of_stretch limit items bytes item more is);
    ends_some = λ reads items output print bytes are_bytes on none.
        let p = all_parts limit (length bytes) bytes are_bytes (omega arith) in
        none (outputs (positions_output items p.0))
        (record { parts = p.0; bytes_are = p.1; are = p.2; text_is = refl; ok = refl });
    alone_some = λ unread none. unread tt;
  }

  search_prefix : (limit : ℕ) → HasPrefix (searching limit_by) limit
  search_prefix limit items bytes item more is =
      (bytes_of is.parts, is.bytes_are, stretch_some limit is.parts is.pending is.stretch)

  pub search_answer : (limit : ℕ) → HasAnswer (searching limit_by) limit
  search_answer limit = answer_some (searching limit_by) limit (search_prefix limit) (search_total limit)

  search_found : (request : Request) → IsSearch limit_by request → (files : Fetches)
      → NotNone ((searching limit_by).Finds request files)
  search_found request (limit, is) files none = none (Ok limit) (limit, is, refl)

  pub searches_total : AreTotal (searching limit_by) (IsSearch limit_by)
  searches_total = record {
    finds_some = λ request of files. search_found request of (λ turn name. found_of (files name));
    at = λ request of files limit found. search_total limit;
  }
