-- The names of types of accepted texts can be read back, and the texts of the types' values can be
-- read back.
use Rattle.types_table.specs.type_table.Made.{types_of}
use Rattle.text_roundtrip.proofs.readback.ReadbackDeclaredLemmas.{texts_are_read_back}
use Rattle.text_roundtrip.proofs.text_lines.TextLineTableLemmas.{texts_are_read_again}
use Rattle.text_roundtrip.specs.rebuild.Laws.{NamesAreReadBack, DeclaredTextsAreReadBack, LiteralsAreReadBack}
use Rattle.text_roundtrip.proofs.rebuild.SpokenTextLemmas.{declared_spoken, type_spoken}
use Rattle.text_roundtrip.proofs.rebuild.SpokenTypeLemmas.{reached_readable}

pub names_are_read_back : NamesAreReadBack
names_are_read_back file_text type_text decls t types declared written reached none =
    reached_readable decls (declared_spoken file_text decls declared) t (type_spoken decls type_text t written) types reached none

pub declared_texts_are_read_back : DeclaredTextsAreReadBack
declared_texts_are_read_back file_text type_text decls t types declared written well sound reached none =
    texts_are_read_back decls t types well sound reached (names_are_read_back file_text type_text decls t types declared written reached none)

pub literals_are_read_back : LiteralsAreReadBack
literals_are_read_back file_text type_text decls t table declared written well sound is none =
    texts_are_read_again decls t table well sound is (names_are_read_back file_text type_text decls t (types_of table) declared written is.reached none)
