use Rattle.std.proofs.Common.{ℕ, List, ◌≡◌, ◌∙◌, ◌++◌, ap, subst, rules, arith, take, length}
use Rattle.std.specs.List.{flat_map}
use Rattle.std.proofs.lemmas.Grind.{common_steps}
use Rattle.text_print.specs.show.TextChunks.{chunk_text, text_of}
use Rattle.text_print.specs.show.ShownValues.{shown_text, chunks_of}
use Rattle.text_print.specs.show.TableShapes.{shape_in, names_in}
use Rattle.text_print.specs.print.FlatText.{WritesWhole}
use Rattle.text_print.specs.print.Write.{IsWritten, IsGrown}
use Rattle.text_print.proofs.print.PrintShownLemmas.{text_whole, take_prefix}
use Rattle.types_table.specs.type_table.Made.{table_of}
use Rattle.text_print.proofs.print.PrintTypedLemmas.{typed_at}
use Rattle.text_print.proofs.print.shown.write_shown_at.Goals as goal

pub write_flat-requires : goal.write_flat-requires
write_flat-requires c = record {
  typed = typed_at (table_of c.args.table.now) c.args.value.now.heap.now c.args.value.now.root c.args.at c.requires.number c.requires.typed;
}

pub returns-then-branch : goal.returns-then-branch
returns-then-branch c =
    subst (WritesWhole (shown_text (shape_in c.args.table.now) (names_in c.args.table.now) c.args.value.now.heap.now c.args.value.now.root c.args.at) c.args.text.now.items c.write_flat.new.text.items)
    c.if-branch.true c.in_ok-write_flat.ensures

pub write_without_labels-requires : goal.write_without_labels-requires
write_without_labels-requires c = record {
  typed = typed_at (table_of c.args.table.now) c.args.value.now.heap.now c.args.value.now.root c.args.at c.requires.number c.requires.typed;
}

pub write_with_labels-requires-clause-typed : goal.write_with_labels-requires-clause-typed
write_with_labels-requires-clause-typed c = typed_at (table_of c.args.table.now) c.args.value.now.heap.now c.args.value.now.root c.args.at c.requires.number c.requires.typed

-- If bytes were appended to a text, then truncation to the old length gives the old text.
no_more : (old text back : List ℕ) (n : ℕ) → n ≡ length old → IsGrown old text → back ≡ take n text → back ≡ old
no_more old text back n many grown is = is ∙ ap (λ k. take k text) many ∙ ap (take (length old)) grown.1 ∙ take_prefix old grown.0

pub returns-in_default : goal.returns-in_default
unfolding shown_text
returns-in_default c =
    let chunks = chunks_of (shape_in c.args.table.now) (names_in c.args.table.now) c.args.value.now.heap.now c.args.value.now.root c.args.at in
    let old = c.args.text.now.items in
    let before : c.len-before.result ≡ length old = first_of (search rules, grind (arith, common_steps)) in
    let grown = subst (WritesWhole (text_of chunks) old c.write_flat.new.text.items) c.if-branch.false c.in_ok-write_flat.ensures in
    let start = no_more old c.write_flat.new.text.items c.truncate.new.self.items c.len-before.result before grown c.truncate.ensures.items in
    subst (λ found. IsWritten found c.truncate.new.self.items c.write_without_labels.new.text.items chunks) c.in_default.is c.in_ok-objects.ensures.text ∙ ap (λ t. t ++ text_of chunks) start

pub returns : goal.returns
unfolding shown_text
returns c =
    let chunks = chunks_of (shape_in c.args.table.now) (names_in c.args.table.now) c.args.value.now.heap.now c.args.value.now.root c.args.at in
    let old = c.args.text.now.items in
    let before : c.len-before.result ≡ length old = first_of (search rules, grind (arith, common_steps)) in
    let grown = subst (WritesWhole (text_of chunks) old c.write_flat.new.text.items) c.if-branch.false c.in_ok-write_flat.ensures in
    let start = no_more old c.write_flat.new.text.items c.truncate.new.self.items c.len-before.result before grown c.truncate.ensures.items in
    let write = subst (λ found. IsWritten found c.truncate.new.self.items c.write_without_labels.new.text.items chunks) c.in-Some.is c.in_ok-objects.ensures.text in
    let again = no_more old c.write_without_labels.new.text.items c.truncate-2.new.self.items c.len-before.result before (write.1.0, write.1.1 ∙ ap (λ t. t ++ write.1.0) start) c.truncate-2.ensures.items in
    text_whole c.in_ok-labels.labels.objects.items chunks old c.write_with_labels.new.text.items (c.in_ok-labels.ensures.objects ∙ write.0)
    (c.in_ok-write_with_labels.ensures ∙ ap (λ t. t ++ flat_map (chunk_text c.in_ok-labels.labels.objects.items) chunks) again)
