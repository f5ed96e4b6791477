use Rattle.std.proofs.Common.{subst, ap}
use Rattle.std.specs.Prelude.{IsSome}
use Rattle.base_data.specs.declared.model.value.Val.TheVariants as vals
use Rattle.types_table.specs.type_table.Made.{table_of}
use Rattle.types_spec.specs.types.Fitting.{fields_of}
use Rattle.types_spec.specs.types.Table.{node_or_none}
use Rattle.cert_verify.proofs.certificate.RightLemmas.{worded_there}
use Rattle.cert_verify.proofs.certificate.right.holds_needs.Goals as goal

pub known_needs-requires-clause-object : goal.known_needs-requires-clause-object
known_needs-requires-clause-object c = (worded_there (table_of c.args.stated.fitting.table.now) c.args.stated.heap.now c.args.stated.pairs.now c.args._i c.args.own c.args.stated.there c.requires.own).0

pub known_needs-requires-clause-fits : goal.known_needs-requires-clause-fits
known_needs-requires-clause-fits c =
    subst IsSome (ap (λ n. fields_of c.args.stated.heap.now (vals.Ref c.args.own.object) (node_or_none n)) c.requires.shape) c.requires.fits
