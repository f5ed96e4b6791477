use Rattle.std.proofs.Common.{[], sym, subst}
use Rattle.marshal_read.specs.Reader.{LeadsReader}
use Rattle.session.proofs.SessionReadLemmas.{value_kept}
use Rattle.session.proofs.input_values.Values.keep_value.Goals as goal

pub returns : goal.returns
returns c = λ taken output v.
    let leads : LeadsReader c.args.limit v.whole c.replace-reader.result = subst (λ r. LeadsReader c.args.limit v.whole r) (sym c.replace-reader.ensures.value) v.leads in
    value_kept c.args.limit taken output c.args.self.now v c.finish.result (c.finish.ensures c.args.limit v.whole leads) c.keep.new.kept c.in_ok-keep.ensures
    c.replace-reader.new.dest (subst (λ r. LeadsReader c.args.limit [] r) (sym c.replace-reader.ensures.after) c.new.ensures.leads)
