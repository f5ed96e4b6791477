use Rattle.std.proofs.Common.{ℕ, List, ◌++◌, ◌∙◌, length, sym, ap}
use Rattle.std.proofs.lemmas.Bool.Decides.{Decides-eqb}
use Rattle.std.proofs.lemmas.List.{take_rest}
use Rattle.std.proofs.lemmas.Slice.Eq.{starts_is}
use Rattle.text_print.proofs.print.shown_text.after.Goals as goal

pub returns-then-starts_with : goal.returns-then-starts_with
returns-then-starts_with c =
    (starts_is Decides-eqb c.args.text.now c.args.prefix.now c.starts_with.result c.starts_with.ensures.value).0 c.if-starts_with.true
    ∙ ap (λ (z : List ℕ). c.args.prefix.now ++ z) (sym (take_rest c.args.text.now (length c.args.prefix.now)))
