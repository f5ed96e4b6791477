use Rattle.std.proofs.Common.{◌≡◌, ℕ, List, [], ◌++◌, sym, ap, ◌∙◌, subst}
use Rattle.std.proofs.lemmas.Result.{on_ok_weaker}
use Rattle.cli_spec.specs.Outcome.{Output}
use Rattle.types_table.specs.type_table.Made.{table_of}
use Rattle.check_stream.specs.declared.chunk_check.stream_check.StreamCheck.{StreamCheck}
use Rattle.check_stream.specs.chunk_check.StreamCheck.{IsStreamCheck}
use Rattle.session.specs.declared.input_values.ValueTask.{ValueTask}
use Rattle.session.specs.InputValues.{MayTake, HasRead}
use Rattle.session.proofs.ProgressLemmas.{all_read, kept_read, fresh_checked}
use Rattle.session.proofs.session_state.give_up.Goals as goal

pub returns-then-keeps_none : goal.returns-then-keeps_none
returns-then-keeps_none c = λ w taken output h.
    let none = c.if-keeps_none.ensures in (all_read w c.args.values.now c.args.stream_check.now taken output none h, h.checked, none)

pub take_prefix-requires : goal.take_prefix-requires
take_prefix-requires c = let r = c.requires in (r.0, r.3.before, r.2, r.3.read)

pub returns : goal.returns
returns c =
    let old = c.args.stream_check.now in
    let values = c.args.values.now in
    let new = c.take_prefix.new.self in
    let stream_check = c.replace-kept.new.dest in
    let same : c.kept.result.now ≡ old.kept.items = c.kept.ensures ∙ ap (λ (g : StreamCheck). g.kept.items) c.replace-kept.ensures.value in
    let fresh : stream_check ≡ c.new.result = c.replace-kept.ensures.after in
    let none : stream_check.kept.items ≡ [] = ap (λ (g : StreamCheck). g.kept.items) fresh ∙ c.new.ensures.none in
    on_ok_weaker c.take_prefix.result
    (λ (reads : (w : ValueTask) (taken : List ℕ) (output : List Output) → HasRead w values taken output → MayTake w values.count → HasRead w new (taken ++ c.kept.result.now) output) w taken output h. (
      kept_read w values old taken output h new (λ before read may. subst (λ kept. HasRead w new (before ++ kept) output) same (reads w before output read may)) c.if-keeps_none.ensures,
      fresh_checked w new stream_check none (λ r limit. subst (λ (g : StreamCheck). IsStreamCheck (table_of r.now.table) limit g) (sym fresh) (c.new.ensures.stream_check (table_of r.now.table) limit)),
      none,
    ))
    c.take_prefix.ensures
