-- The output for items: the lines of the positions in the items.
use Rattle.std.proofs.Common.{◌≡◌, ℕ, ◌+◌, Bool, true, List, [], ◌∷◌, ◌++◌, length, Option, refl, sym, ap, ◌∙◌, subst, arith}
use Rattle.std.specs.Prelude.{◌&&◌}
use Rattle.cli_spec.specs.Outcome.{Request, Output, all_ok}
use Rattle.cmd_scan.specs.found_positions.InputParts.{InputPart, bytes_of}
use Rattle.cmd_scan.specs.found_positions.ValuePositions.{positions_of, lines_of}
use Rattle.cmd_scan.proofs.found_positions.FoundPositionOnceLemmas.{parts_once}
use Rattle.cmd_scan.proofs.found_positions.SomeLemmas.{undecided, parts-before}
use Rattle.run_spec.specs.runs.Commands.{Item, value, text, AllPrint}
use Rattle.cmd_scan.specs.spec.Searching.{bytes_in, IsFirstStretch, OutputsPositions, OutputsStretch, searching}

pub bytes_in-snoc :
    (items : List Item) (bytes : List ℕ)
    → bytes_in (items ++ text bytes ∷ []) ≡ bytes_in items + length bytes
bytes_in-snoc [] bytes = omega arith
bytes_in-snoc (value tree ∷ items) bytes = bytes_in-snoc items bytes
bytes_in-snoc (text first ∷ items) bytes =
    let next = bytes_in-snoc items bytes in omega (arith, next)

pub same_bytes :
    (bytes other : List ℕ) (item : Item) → item ≡ text bytes → item ≡ text other → bytes ≡ other
same_bytes bytes other item h k = let same : text bytes ≡ text other = sym h ∙ k in cc same

abbrev output_of : List ℕ → Bool → Output
output_of write ok = record { text = write; ok = ok }

pub same_output :
    (output other : Output) → output.text ≡ other.text → output.ok ≡ other.ok → output ≡ other
same_output output other write ok =
    ap (λ t. output_of t output.ok) write ∙ ap (λ w. output_of other.text w) ok

-- The output of the lines of positions in these parts, which follow the items.
abbrev pub positions_output : List Item → List InputPart → Output
positions_output items parts = output_of (lines_of (positions_of (bytes_in items) parts)) true

module _ (limit : ℕ) where
  -- Bytes have one list of positions, so they have one output.
  pub positions_once :
      (items : List Item) (bytes : List ℕ) (output other : Output)
      → OutputsPositions limit items bytes output → OutputsPositions limit items bytes other → output ≡ other
  positions_once items bytes output other h k =
      let same = parts_once limit bytes h.parts k.parts h.bytes_are k.bytes_are h.are k.are in
      same_output output other
      (h.text_is ∙ (ap (λ p. lines_of (positions_of (bytes_in items) p)) same ∙ sym k.text_is))
      (h.ok ∙ sym k.ok)

  -- The output for a stretch.
  pub output_of_stretch :
      (items : List Item) (bytes : List ℕ) (item : Item) (more : List ℕ)
      → (h : IsFirstStretch limit bytes item more)
      → OutputsStretch limit items item (positions_output items h.parts)
  output_of_stretch items bytes item more h = (
    bytes_of h.parts,
    h.is,
    record {
      parts = h.parts;
      bytes_are = refl;
      are = parts-before limit h.parts h.pending (undecided limit h.parts h.pending h.stretch.are);
      text_is = refl;
      ok = refl;
    },
  )

  pub stretch_once :
      (items : List Item) (item : Item) (output other : Output) → OutputsStretch limit items item output
      → OutputsStretch limit items item other → output ≡ other
  stretch_once items item output other (bytes, is, h) (bytes', is', k) =
      let same = same_bytes bytes bytes' item is is' in
      positions_once items bytes' output other (subst (λ b. OutputsPositions limit items b output) same h) k

  -- No output has an error.
  pub all_fine :
      (limit_by : Request → Option ℕ) (before items : List Item) (output : List Output)
      → AllPrint (searching limit_by) limit before items output → all_ok output ≡ true
  all_fine limit_by before [] [] all = refl
  all_fine limit_by before [] (s ∷ output) all = absurd all
  all_fine limit_by before (item ∷ items) [] all = absurd all
  all_fine limit_by before (item ∷ items) (s ∷ output) ((bytes, is, h), all) =
      ap (λ w. w && all_ok output) h.ok ∙ all_fine limit_by (before ++ item ∷ []) items output all
