use Rattle.types_spec.specs.types.Table.{table_shapes}
use Rattle.cert_verify.proofs.certificate.EntryAcceptedLemmas.{accepted_too}
use Rattle.cert_verify.proofs.certificate.NormalLemmas.{normal_is_one}
use Rattle.cert_verify.proofs.certificate.laws.the_same_pairs_are_accepted.Goals as goal

pub returns-clause-accepted : goal.returns-clause-accepted
returns-clause-accepted c table lawful graph root t pairs others same accepted =
    accepted_too (table_shapes table) lawful graph pairs others same root t accepted

pub returns-clause-one : goal.returns-clause-one
returns-clause-one c table pairs others one two same = normal_is_one table pairs others one two same
