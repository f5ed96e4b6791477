use Rattle.check_fault.proofs.TypeTexts.{text_is_of_types}
use Rattle.check_fault.proofs.laws.texts_are_of_types.Goals as goal

pub returns : goal.returns
returns c decls t table is graph v fault text encoded = text_is_of_types decls t table is graph v fault text encoded
