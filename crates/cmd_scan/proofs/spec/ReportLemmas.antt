-- The output for a whole input is the lines of the input's positions.
use Rattle.std.proofs.Common.{◌≡◌, ℕ, ◌+◌, List, [], ◌∷◌, ◌++◌, length, Option, inl, inr, refl, sym, ap, ◌∙◌, subst, append_assoc, append-nil}
use Rattle.cli_spec.specs.Outcome.{at_end, Request, ending_of, Output, Reply, outputs, exits, Replies, replies, texts_of}
use Rattle.cmd_scan.specs.found_positions.InputParts.{InputPart, bytes_of, BeginNoValue, AreParts}
use Rattle.cmd_scan.specs.found_positions.ValuePositions.{ValuePosition, positions_of, ArePositions, lines_of}
use Rattle.cmd_scan.proofs.found_positions.FoundPositionOnceLemmas.{parts_once}
use Rattle.cmd_scan.proofs.found_positions.FoundPositionLemmas.{lines_of_parts}
use Rattle.cmd_scan.proofs.found_positions.SomeLemmas.{bytes_of-append, parts-append, parts-before, parts-after, undecided}
use Rattle.run_spec.specs.runs.Commands.{Item, Split, AllPrint, IsLast}
use Rattle.run_spec.proofs.runs.RunValueLemmas.{texts_of-append, texts_of-one}
use Rattle.cmd_scan.specs.spec.Laws.{ReportsPositions}
use Rattle.cmd_scan.specs.spec.Searching.{bytes_in, IsFirstStretch, OutputsPositions, OutputsStretch, EndsWithPositions, searching}
use Rattle.cmd_scan.proofs.spec.ScanSpecOutputLemmas.{bytes_in-snoc, same_bytes}

module _ (limit : ℕ) where
  -- No value begins at a byte that a stretch skips, whatever bytes follow the stretch.
  stretch_parts :
      (bytes : List ℕ) (item : Item) (more : List ℕ) → (h : IsFirstStretch limit bytes item more)
      → AreParts limit (BeginNoValue limit) h.parts more
  stretch_parts bytes item more h =
      subst (AreParts limit (BeginNoValue limit) h.parts) (sym h.more_is)
      (undecided limit h.parts (h.pending ++ h.later)
      (parts-after limit h.parts h.pending h.later h.stretch.are))

  -- The output for an item is the lines of the item's stretch.
  stretch_text :
      (items : List Item) (bytes : List ℕ) (item : Item) (more : List ℕ) (output : Output)
      → (h : IsFirstStretch limit bytes item more) → OutputsStretch limit items item output
      → output.text ≡ lines_of (positions_of (bytes_in items) h.parts)
  stretch_text items bytes item more output h (own, is, s) =
      let same = same_bytes own (bytes_of h.parts) item is h.is in
      let parts = parts_once limit own s.parts h.parts s.bytes_are same s.are
      (parts-before limit h.parts more (stretch_parts bytes item more h)) in
      s.text_is ∙ ap (λ p. lines_of (positions_of (bytes_in items) p)) parts

  module _ (limit_by : Request → Option ℕ) (last : List InputPart)
      (last_are : AreParts limit (BeginNoValue limit) last []) where
    -- The bytes are valid parts, and `write` is the lines of the parts' positions.
    pub record HasAll (before : List Item) (bytes write : List ℕ) : Type 0 where
      pub parts : List InputPart
      pub bytes_are : bytes ≡ bytes_of parts
      pub are : AreParts limit (BeginNoValue limit) parts []
      pub write_is : write ≡ lines_of (positions_of (bytes_in before) parts)

    -- If all bytes after the first stretch have parts and lines, then all bytes have parts and
    -- lines.
    one_more :
        (before : List Item) (bytes : List ℕ) (item : Item) (more : List ℕ) (output : Output)
        (write : List ℕ)
        → IsFirstStretch limit bytes item more → OutputsStretch limit before item output
        → HasAll (before ++ item ∷ []) more write → HasAll before bytes (output.text ++ write)
    one_more before bytes item more output write h s next = record {
      parts = h.parts ++ next.parts;
      bytes_are =
          h.bytes_are
          ∙ (ap (λ m. bytes_of h.parts ++ m) next.bytes_are
          ∙ sym (bytes_of-append h.parts next.parts));
      are =
          parts-append limit (BeginNoValue limit) h.parts next.parts []
          (subst (AreParts limit (BeginNoValue limit) h.parts)
          (next.bytes_are ∙ sym (append-nil (bytes_of next.parts)))
          (stretch_parts bytes item more h)) next.are;
      write_is =
          (λ i.
          stretch_text before bytes item more output h s i
          ++ (next.write_is ∙ ap (λ k. lines_of (positions_of k next.parts)) after) i)
          ∙ sym (lines_of_parts (bytes_in before) h.parts next.parts);
    } where
      after : bytes_in (before ++ item ∷ []) ≡ bytes_in before + length (bytes_of h.parts)
      after =
          ap (λ k. bytes_in (before ++ k ∷ [])) h.is
          ∙ bytes_in-snoc before (bytes_of h.parts)

    pub has_all :
        (before items : List Item) (bytes : List ℕ) (output : List Output) (rest write : List ℕ)
        → Split (searching limit_by) limit before bytes items rest
        → AllPrint (searching limit_by) limit before items output → rest ≡ bytes_of last
        → write ≡ lines_of (positions_of (bytes_in (before ++ items)) last)
        → HasAll before bytes (texts_of output ++ write)
    has_all before [] bytes [] rest write split all is write_is = record {
      parts = last;
      bytes_are = split ∙ is;
      are = last_are;
      write_is =
          write_is ∙ ap (λ items. lines_of (positions_of (bytes_in items) last)) (append-nil before);
    }
    has_all before [] bytes (s ∷ output) rest write split all is write_is = absurd all
    has_all before (item ∷ items) bytes [] rest write split all is write_is = absurd all
    has_all before (item ∷ items) bytes (s ∷ output) rest write (more, h, split) (first, all) is write_is =
        subst (HasAll before bytes) (sym (append_assoc s.text (texts_of output) write))
        (one_more before bytes item more s (texts_of output ++ write) h first
        (has_all (before ++ item ∷ []) items more output rest write split all is
        (write_is
        ∙ ap (λ k. lines_of (positions_of (bytes_in k) last))
        (sym (append_assoc before (item ∷ []) items)))))

module _ (limit_by : Request → Option ℕ) where
  abbrev Reports : ℕ → List ℕ → Replies → Type 0
  Reports limit input all = (positions : List ValuePosition) × ArePositions limit input positions
      × ((ending_of all).out ≡ lines_of positions)

  known :
      (limit : ℕ) (input : List ℕ) (output : List Output) (final : Output) (items : List Item)
      (rest : List ℕ)
      → Split (searching limit_by) limit [] input items rest
      → AllPrint (searching limit_by) limit [] items output → OutputsPositions limit items rest final
      → Reports limit input (replies output (outputs final))
  known limit input output final items rest split all p =
      let h = has_all limit limit_by p.parts p.are [] items input output rest final.text split all
      p.bytes_are p.text_is in (
        positions_of 0 h.parts,
        (h.parts, h.bytes_are, h.are, refl),
        texts_of-append output (final ∷ [])
            ∙ (ap (λ write. texts_of output ++ write) (texts_of-one final) ∙ h.write_is),
      )

  pub reports_positions : ReportsPositions limit_by
  reports_positions limit input all are_bytes (inr alone) = absurd (alone.unread tt)
  reports_positions limit input all are_bytes (inl (reads, h)) = by h.last where
    closed : (last : Reply) → EndsWithPositions limit h.items h.rest last
        → Reports limit input (replies all.output last)
    closed (outputs final) p =
        known limit input all.output final h.items h.rest h.first.split h.first.all_print p
    closed (exits exit) p = absurd p

    by : IsLast (searching limit_by) limit h.items h.rest at_end all.last → Reports limit input all
    by (inl (exit, never, whole_is, e)) = absurd never
    by (inr (goes_on, closes)) = closed all.last closes
