use Rattle.std.proofs.Common.{sym, subst}
use Rattle.base_io.specs.StreamState.{change}
use Rattle.session.specs.InputValues.{AreValues, Compares, word_limit}
use Rattle.session.proofs.SessionReadLemmas.{holds, ends_split, ends_as_output, ends_as_edited, ends_as_compared, kept_as_values}
use Rattle.session.proofs.input_values.Values.finish.Goals as goal

pub compare-requires : goal.compare-requires
compare-requires g c = subst AreValues (sym c.as_slice.ensures.value) (kept_as_values c.args.value_task c.requires.0 c.requires.1 c.args.self.now c.requires.2 _ c.in-Compare.is)

pub returns-in-Print : goal.returns-in-Print
returns-in-Print g c = λ taken output h. (
  holds c.args.value_task taken output c.args.self.now h,
  ends_as_output c.args.value_task taken output c.args.self.now h _ _ c.in-Print.is (c.in-Ok.ensures (word_limit c.args.value_task) h.prefix h.leads) (g.K.Sink.state c.args.out.now),
)

pub returns-in-Edit : goal.returns-in-Edit
returns-in-Edit g c = λ taken output h. (
  holds c.args.value_task taken output c.args.self.now h,
  ends_as_edited c.args.value_task taken output c.args.self.now h _ _ c.in-Edit.is (c.in-Ok.ensures (word_limit c.args.value_task) h.prefix h.leads) (g.K.Sink.state c.args.out.now) c.finish_script.result c.finish_script.ensures,
)

pub returns-in-Compare : goal.returns-in-Compare
returns-in-Compare g c = λ taken output h.
    let out = change (g.K.Sink.state c.args.out.now) (g.K.Sink.state c.compare.new.out) in (
      holds c.args.value_task taken output c.args.self.now h,
      ends_as_compared c.args.value_task taken output c.args.self.now h _ c.in-Compare.is (c.in-Ok.ensures (word_limit c.args.value_task) h.prefix h.leads) out c.compare.result
          (subst (λ kept. Compares kept out c.compare.result) c.as_slice.ensures.value c.compare.ensures),
    )

pub returns-in-Err : goal.returns-in-Err
returns-in-Err g c = λ taken output h. (
  holds c.args.value_task taken output c.args.self.now h,
  ends_split c.args.value_task taken output c.args.self.now h c.in-Err.field-0 (c.in-Err.ensures (word_limit c.args.value_task) h.prefix h.leads) (g.K.Sink.state c.args.out.now)
      c.split_value.result c.split_value.ensures,
)
