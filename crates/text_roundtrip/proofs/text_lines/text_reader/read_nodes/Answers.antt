use Rattle.std.proofs.Common.{Err, sym, subst}
use Rattle.text_roundtrip.specs.declared.text_lines.text_reader.TextFault.{TextFault}
use Rattle.text_roundtrip.specs.text_lines.TextAnswers.{ReadsText}
use Rattle.text_literal.specs.literal_grammar.PlacedLiterals.{lexemes_at}
use Rattle.text_roundtrip.proofs.text_lines.TextLineLemmas.{placed_fault}
use Rattle.text_roundtrip.proofs.text_lines.text_reader.read_nodes.Goals as goal

pub returns-in-Err : goal.returns-in-Err
returns-in-Err c =
    subst (λ (f : TextFault). ReadsText c.args.table.now c.args.line.now c.read_placed.new.heap (Err f)) (sym c.text_fault.ensures)
    (placed_fault c.args.table.now c.args.line.now (lexemes_at c.args.line.now c.args.placed.now.positions.items) c.args.placed.now.tree c.args.heap.now c.read_placed.new.heap c.requires.empty
    c.requires.placed.0 c.requires.placed.1 c.in-Err.fault c.in-Err.ensures.answer)
