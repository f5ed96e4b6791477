-- The tables are exact: each input ends without errors.
use Rattle.std.proofs.Common.{◌≡◌, ℕ, true, List, [], length, Option, refl, sym, ap, ◌∙◌, arith}
use Rattle.std.specs.Prelude.{◌&&◌, if◌then◌else◌}
use Rattle.base_data.specs.model.Bytes.{AreBytes}
use Rattle.cli_spec.specs.declared.status.Status.TheVariants.{AllOk, No}
use Rattle.cli_spec.specs.Outcome.{Request, ending_of, Output, Reply, outputs, exits, Replies, replies, all_ok}
use Rattle.cmd_scan.proofs.found_positions.FoundPositionWholeLemmas.{all_parts}
use Rattle.run_spec.specs.runs.RunSpec.{HoldEnd}
use Rattle.run_spec.proofs.runs.RunValueLemmas.{all_ok-snoc}
use Rattle.run_spec.specs.exit_causes.Causes.{HaveEnds, AreExact}
use Rattle.cmd_scan.specs.spec.ExitStatuses.{searching_tables}
use Rattle.cmd_scan.specs.spec.Searching.{EndsWithPositions, searching}
use Rattle.cmd_scan.proofs.spec.ScanSpecEndLemmas.{all_held}
use Rattle.cmd_scan.proofs.spec.ScanSpecLawfulLemmas.{goes_on, none_found}
use Rattle.cmd_scan.proofs.spec.ScanSpecOutputLemmas.{positions_output, all_fine}

-- If no output has an error, then the run ends without errors.
fine_ends :
    (output : List Output) (final : Output) → all_ok output ≡ true → final.ok ≡ true
    → (ending_of (replies output (outputs final))).status ≡ AllOk
fine_ends output final fine ok =
    ap (λ w. if w then AllOk else No)
    (all_ok-snoc output final ∙ (ap (λ w. w && final.ok) fine ∙ ok))

module _ (limit_by : Request → Option ℕ) where
  abbrev Ending : ℕ → List ℕ → Replies → Type 0
  Ending limit bytes all = HoldEnd (searching limit_by) limit bytes all.output all.last

  end_ok :
      (limit : ℕ) (bytes : List ℕ) (all : Replies) → Ending limit bytes all
      → (ending_of all).status ≡ AllOk
  end_ok limit bytes all h = by all.last h.ends where
    by : (last : Reply) → EndsWithPositions limit h.items h.rest last
        → (ending_of (replies all.output last)).status ≡ AllOk
    by (outputs final) p =
        fine_ends all.output final (all_fine limit limit_by [] h.items all.output h.first.all_print) p.ok
    by (exits exit) p = absurd p

  end_held :
      (limit : ℕ) (bytes : List ℕ) → AreBytes bytes
      → (all : Replies) × ((ending_of all).status ≡ AllOk) × Ending limit bytes all
  end_held limit bytes are =
      let h = all_held limit limit_by (length bytes) [] bytes are (omega arith) in
      let p = all_parts limit (length h.rest) h.rest h.are_bytes (omega arith) in
      let final = positions_output h.items p.0 in (
        replies h.output (outputs final),
        fine_ends h.output final (all_fine limit limit_by [] h.items h.output h.all_print) refl,
        record {
          items = h.items;
          rest = h.rest;
          first = record { split = h.split; all_print = h.all_print };
          goes_on = goes_on limit limit_by h.items h.rest h.is_prefix;
          ends = record {
            parts = p.0;
            bytes_are = p.1;
            are = p.2;
            text_is = refl;
            ok = refl;
          };
        },
      )

  have_ends : HaveEnds (searching limit_by) searching_tables
  have_ends limit bytes status are = (
    λ h. sym h.1 ∙ end_ok limit bytes h.0 h.2,
    λ ok. let held = end_held limit bytes are in (held.0, held.1 ∙ sym ok, held.2),
  )

  pub exact : AreExact (searching limit_by) searching_tables
  exact = record {
    read = λ limit. tt;
    exits = λ limit bytes status. (λ h. absurd h.2.at, λ never. absurd never);
    ends = have_ends;
    bars = λ request files status.
        (λ h. absurd (none_found limit_by request files h.0 h.2), λ never. absurd never);
    bad_arguments = λ request none files. absurd none;
  }
