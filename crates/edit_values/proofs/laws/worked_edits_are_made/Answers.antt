use Rattle.std.proofs.Common.{refl, None}
use Rattle.std.specs.Prelude.{ℕ, pos, false, [], ◌∷◌, codes}
use Rattle.base_data.specs.declared.model.value.Val.TheVariants.{Int, Ref}
use Rattle.base_data.specs.declared.model.value.Obj.TheVariants.{Block, Bytes}
use Rattle.types_lex.specs.declared.lexeme.Suffix.TheVariants as suffixes
use Rattle.types_spec.specs.types.Declarations.{predeclared}
use Rattle.types_spec.specs.types.Predeclared.{sum_at, name_at}
use Rattle.types_spec.specs.types.Head.{head}
use Rattle.text_literal.specs.literal_grammar.Literal.{Literal, labelled, integer, string, constant, applied, cons_head, empty_head, no_parts, more_parts}
use Rattle.text_literal.specs.parser.LiteralReading.{mismatch_at, int_range_at}
use Rattle.edit_values.specs.WorkedEdits as rows
use Rattle.edit_values.proofs.laws.worked_edits_are_made.Goals as goal

abbrev number : ℕ → Literal
number n = labelled None (integer (record { minus = false; value = pos n; suffix = suffixes.Absent }))

abbrev item : Literal
item = labelled None (applied cons_head (more_parts no_parts (number 7)) (labelled None (constant empty_head)))

pub returns : goal.returns
unfolding head predeclared sum_at name_at
returns c = record {
  new_rest = (Block 0 (Int (pos 7) ∷ Int (pos 0) ∷ []) ∷ [], Ref 2, (item, refl, record { labels = []; read = refl }), refl);
  no_such_field = refl;
  no_such_step = refl;
  no_such_source = refl;
  left_first = refl;
  an_integer = refl;
  out_of_range = (number 4611686018427387904, int_range_at 0, refl, refl, refl);
  goes_round = refl;
  both_change = ([], Int (pos 5), (number 5, refl, record { labels = []; read = refl }), refl);
  parted = refl;
  root_alone = refl;
  new_root = (Bytes (codes "xyz!") ∷ [], Ref 1, (labelled None (string (codes "xyz!")), refl, record { labels = []; read = refl }), refl);
  no_string = (number 5, mismatch_at 0 rows.string, refl, refl, refl);
  string_copied = refl;
}
