use Rattle.std.proofs.Common.{◌≡◌, ◌<◌, ◌∙◌, true, false, Some, length, ap, sym, arith}
use Rattle.std.specs.Prelude.{slice_get}
use Rattle.std.proofs.lemmas.Option.{slice_get-get_or, slice_get_within}
use Rattle.check_stream.proofs.mismatch_search.reference_targets.Again.is_clear.Goals as goal

pub returns-then-object-len : goal.returns-then-object-len
returns-then-object-len c = λ at.
    let marks = c.args.self.now.marks.items in
    let within = slice_get_within marks c.args.object true at in
    let long = c.args.self.now.marks.ok.0 in
    let few = c.if-object-len.true in
    let many = c.len.ensures in
    absurd (omega (arith, within, long, few, many))

pub returns : goal.returns
returns c = λ at.
    let marks = c.args.self.now.marks.items in
    let short : c.args.object < length marks = let long = c.args.self.now.marks.ok.0 in let few = c.if-object-len.false in let many = c.len.ensures in omega (arith, long, few, many) in
    let clear : slice_get marks c.args.object ≡ Some false = slice_get-get_or marks c.args.object c.index.result.now short ∙ ap Some (sym c.index.ensures ∙ c.if-index.false) in
    let both : Some true ≡ Some false = sym at ∙ clear in
    absurd (cc)
