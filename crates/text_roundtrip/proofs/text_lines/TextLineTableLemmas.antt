-- If a literal is read at a type, then the literal is read at the index of the type in a table.
-- Therefore the text of a value is read back at the index.
use Rattle.std.proofs.Common.{ℕ, ◌≡◌, ◌∙◌, List, [], Some, Result, Ok, Err, refl, ap}
use Rattle.std.specs.Prelude.{slice_get}
use Rattle.types_spec.specs.declared.types.decl.Decl.{Decl}
use Rattle.types_spec.specs.types.Names.{names_of}
use Rattle.types_spec.specs.types.Shape.{shape}
use Rattle.types_spec.specs.types.Ty.{Ty}
use Rattle.types_theory.proofs.table.TableDecideLemmas.{root_is_first}
use Rattle.types_table.specs.declared.type_table.tabled.Tabled.{Tabled}
use Rattle.types_table.specs.type_table.Made.{types_of, IsTypeTable}
use Rattle.marshal_spec.specs.format.Tree.{Tree, objects_of}
use Rattle.text_literal.specs.parser.LiteralReading.{LiteralReading, LiteralRefusal}
use Rattle.text_literal.specs.table_agreement.TableAgreement.{ReadAgree}
use Rattle.text_literal.proofs.table_agreement.LiteralTableLemmas.{tables_read_agree}
use Rattle.text_roundtrip.specs.readback.ReadBack.{IsReadBack}
use Rattle.text_roundtrip.proofs.readback.ReadbackDeclaredLemmas.{texts_are_read_back}
use Rattle.text_roundtrip.specs.text_lines.Laws.{ReadsAgain, TextsAreReadAgain}

module _ (decls : List Decl) (t : Ty) (table : Tabled) (is : IsTypeTable decls t table) where
  abbrev Is : ℕ → Ty → Type 0
  Is i u = slice_get (types_of table) i ≡ Some u

  -- If a literal has a value at the type, then the literal has the value at the index of the type.
  number_too : (a : Result LiteralReading (LiteralRefusal ℕ)) (b : Result LiteralReading (LiteralRefusal Ty)) (r : LiteralReading) → ReadAgree Is a b → b ≡ Ok r → a ≡ Ok r
  number_too (Ok s) (Ok s') r same is = ap Ok (same ∙ same_reading s' r is) where
    same_reading : (s r : LiteralReading) → ◌≡◌ {A = Result LiteralReading (LiteralRefusal Ty)} (Ok s) (Ok r) → s ≡ r
    same_reading s r is = cc
  number_too (Ok s) (Err s') r same is = absurd same
  number_too (Err s) (Ok s') r same is = absurd same
  number_too (Err s) (Err s') r same is = absurd (no_value s' r is) where
    no_value : (s : LiteralRefusal Ty) (r : LiteralReading) → ◌≡◌ {A = Result LiteralReading (LiteralRefusal Ty)} (Err s) (Ok r) → ⊥
    no_value s r is = cc

  pub reads_again : (tree : Tree) (text : List ℕ) → IsReadBack (shape decls) (names_of decls) tree t text → ReadsAgain table tree text
  reads_again tree text b = record {
    lexemes = b.lexemes;
    lexes = b.lexes;
    some = b.some;
    one_line = b.one_line;
    answer = λ end. record {
      literal = b.literal;
      objects = objects_of tree 0;
      encoded = b.encoded;
      read = record { labels = b.labels; read = number_too _ _ _ (tables_read_agree decls t table is 0 b.literal 0 [] 0 t (root_is_first decls t (types_of table) is.reached)) (b.reads 0) };
      behind = refl;
    };
  }

pub texts_are_read_again : TextsAreReadAgain
texts_are_read_again decls t table well sound is readable tree is_tree back few has =
    reads_again decls t table is tree _ (texts_are_read_back decls t (types_of table) well sound is.reached readable tree is_tree back few has)
