use Rattle.check_stream.proofs.mismatch_search.ComesLemmas.{unasked_fields, unasked_room}
use Rattle.check_stream.proofs.mismatch_search.mismatch.unasked.Goals as goal

pub returns : goal.returns
returns c = record {
  fields = unasked_fields c.args.summary c.fields_of.result c.fields_of.ensures;
  none = unasked_room c.args.summary c.fields_of.result c.fields_of.ensures;
  many = c.fields_of.ensures;
}
