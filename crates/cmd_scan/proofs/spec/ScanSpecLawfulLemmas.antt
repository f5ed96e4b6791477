-- The command is lawful: the input divides into stretches in one way, and each stretch has one list
-- of lines.
use Rattle.std.proofs.Common.{◌≡◌, ◌⊎◌, inl, inr, ◌<◌, ℕ, List, [], ◌∷◌, ◌++◌, length, Option, Some, None, Ok, Err, refl, sym, ap, ◌∙◌, subst, append_assoc, length-append, arith}
use Rattle.marshal_spec.specs.format.Prefix.{IsPrefix}
use Rattle.cli_spec.specs.Outcome.{Request, outputs, exits}
use Rattle.cli_spec.specs.declared.exit.Exit.{Exit}
use Rattle.run_spec.specs.command_sum.CommandSum.{IsIdleAt}
use Rattle.cmd_scan.specs.found_positions.InputParts.{InputPart, bytes_of, part_bytes, AreRefused, IsStretch}
use Rattle.cmd_scan.proofs.found_positions.FoundPositionPrefixLemmas.{part_some, stretch_no_prefix}
use Rattle.cmd_scan.proofs.found_positions.FoundPositionOnceLemmas as sightings
use Rattle.run_spec.specs.runs.Commands.{Item, text, Fetches, Commands, GoesOn}
use Rattle.run_spec.specs.runs.Lawful.{IsOnce, AreLawfulAt, AreLawful, AreInTurns}
use Rattle.cmd_scan.specs.spec.Laws.{StandsDisjointFrom}
use Rattle.cmd_scan.specs.spec.Searching.{IsFirstStretch, EndsWithPositions, Finds, searching}
use Rattle.cmd_scan.proofs.spec.ScanSpecOutputLemmas.{positions_once, stretch_once}

module _ (limit : ℕ) where
  -- The bytes are the first stretch and the bytes after the stretch's prefix of a value.
  whole_is :
      (bytes : List ℕ) (item : Item) (more : List ℕ) → (h : IsFirstStretch limit bytes item more)
      → bytes ≡ (bytes_of h.parts ++ h.pending) ++ h.later
  whole_is bytes item more h =
      h.bytes_are
      ∙ (ap (λ m. bytes_of h.parts ++ m) h.more_is
      ∙ sym (append_assoc (bytes_of h.parts) h.pending h.later))

  first_once :
      (bytes : List ℕ) (item other : Item) (more rest : List ℕ)
      → IsFirstStretch limit bytes item more → IsFirstStretch limit bytes other rest
      → (item ≡ other) × (more ≡ rest)
  first_once bytes item other more rest h k =
      let once = sightings.stretch_once limit h.parts k.parts h.pending k.pending h.later k.later
      h.stretch k.stretch (sym (whole_is bytes item more h) ∙ whole_is bytes other rest k) in (
        h.is ∙ (ap (λ p. text (bytes_of p)) once.0 ∙ sym k.is),
        h.more_is ∙ ((λ i. once.1 i ++ once.2 i) ∙ sym k.more_is),
      )

  -- A stretch has at least one part, so a stretch has at least one byte.
  pub stretch_some :
      (parts : List InputPart) (pending : List ℕ) → IsStretch limit parts pending
      → 0 < length (bytes_of parts)
  stretch_some [] pending s = absurd (s.none s.is_prefix)
  stretch_some (part ∷ parts) pending s =
      let some = part_some limit (AreRefused limit) part parts pending s.are in
      omega (arith, some, length-append (part_bytes part) (bytes_of parts))

  -- If an item is the first stretch of some bytes, then it is the first stretch of the bytes with
  -- more bytes after them.
  stretch_stays :
      (bytes : List ℕ) (item : Item) (more later : List ℕ) → IsFirstStretch limit bytes item more
      → IsFirstStretch limit (bytes ++ later) item (more ++ later)
  stretch_stays bytes item more later h = record {
    parts = h.parts;
    pending = h.pending;
    later = h.later ++ later;
    is = h.is;
    more_is = ap (λ m. m ++ later) h.more_is ∙ append_assoc h.pending h.later later;
    bytes_are = ap (λ b. b ++ later) h.bytes_are ∙ append_assoc (bytes_of h.parts) more later;
    stretch = h.stretch;
  }

  ends_once : (items : List Item) (bytes : List ℕ) → IsOnce (EndsWithPositions limit items bytes)
  ends_once items bytes (outputs output) (outputs other) h k =
      ap (λ s. outputs s) (positions_once limit items bytes output other h k)
  ends_once items bytes (outputs output) (exits exit) h k = absurd k
  ends_once items bytes (exits exit) other h k = absurd h

  module _ (limit_by : Request → Option ℕ) where
    -- If the remaining bytes are a prefix of a value, then the run continues.
    pub goes_on :
        (items : List Item) (rest : List ℕ) → IsPrefix limit rest
        → GoesOn (searching limit_by) limit items rest
    goes_on items rest prefix = record {
      no_exit = λ exit h. h;
      no_item = λ item more h.
          stretch_no_prefix limit h.parts h.pending h.later h.stretch
          (subst (IsPrefix limit) (whole_is rest item more h) prefix);
    }

    pub lawful_at : AreLawfulAt (searching limit_by) limit
    lawful_at = record {
      first_once = λ items bytes are_bytes. first_once bytes;
      outputs_once = stretch_once limit;
      exits_once = λ items bytes are_bytes exit other h k. absurd h;
      ends_once = λ items bytes are_bytes. ends_once items bytes;
      prefix = λ items bytes item more h.
          (bytes_of h.parts, h.bytes_are, stretch_some h.parts h.pending h.stretch);
      item_stays = λ items. stretch_stays;
      exit_stays = λ items bytes later exit h. h;
      exits_inside = λ items bytes exit h. absurd h;
      ends_inside = λ items bytes exit h. absurd h;
      disjoint = λ items bytes are_bytes item more output exit first h k. k;
    }

module _ (limit_by : Request → Option ℕ) where
  found_once : (request : Request) (files : Fetches) → IsOnce (Finds limit_by request files)
  found_once request files result other (limit, is, h) (limit', is', k) =
      let both : Some limit ≡ Some limit' = sym is ∙ is' in
      let same : limit ≡ limit' = cc both in
      h ∙ (ap (λ l. Ok l) same ∙ sym k)

  -- The run never ends before its input.
  pub none_found :
      (request : Request) (files : Fetches) (exit : Exit) → Finds limit_by request files (Err exit)
      → ⊥
  none_found request files exit (limit, is, h) = cc h

  pub searching_lawful : AreLawful (searching limit_by)
  searching_lawful = record {
    wants_once = λ request files turn name other h k. absurd h;
    finds_once = found_once;
    by_wanted = λ request files others result same h. h;
    reads_wanted = λ request files result finds turn name wants. absurd wants;
    finds_inside = λ request files exit h. absurd (none_found request files exit h);
    at = λ limit found. lawful_at limit limit_by;
  }

  -- The command fetches no file, so it fetches its files in turn.
  pub searching_turns : AreInTurns (searching limit_by)
  searching_turns = record {
    by_earlier = λ request files others turn name same h. h;
    reads = λ request files result finds turn name wants. absurd wants;
    after_read = λ request files turn later name other less h k. absurd h;
  }

  pub searching_idle :
      (request : Request) → limit_by request ≡ None → IsIdleAt (searching limit_by) request
  searching_idle request none = record {
    unwanted = λ files turn name h. h;
    unfound = λ files result h. differ h.0 h.1;
  } where
    differ : (limit : ℕ) → limit_by request ≡ Some limit → ⊥
    differ limit e = let never : None ≡ Some limit = sym none ∙ e in cc never

  pub stands_disjoint : {A : Type 0} (c : Commands A) → StandsDisjointFrom limit_by c
  stands_disjoint c idle request = by (limit_by request) refl where
    by : (asked : Option ℕ) → limit_by request ≡ asked
        → IsIdleAt c request ⊎ IsIdleAt (searching limit_by) request
    by None e = inr (searching_idle request e)
    by (Some limit) e = inl (idle request limit e)
