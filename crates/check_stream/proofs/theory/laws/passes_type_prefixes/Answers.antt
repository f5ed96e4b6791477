use Rattle.check_stream.proofs.theory.LawLemmas.{passes_type_prefixes, noted_passes_type_prefixes}
use Rattle.check_stream.proofs.theory.laws.passes_type_prefixes.Goals as goal

pub returns-clause-plain : goal.returns-clause-plain
returns-clause-plain c = passes_type_prefixes

pub returns-clause-noted : goal.returns-clause-noted
returns-clause-noted c = noted_passes_type_prefixes
