use Rattle.std.proofs.Common.{rules, ◌≡◌, ◌∙◌, ◌++◌, length, refl, ap}
use Rattle.check_stream.proofs.checker.Weaker.{if_true}
use Rattle.check_stream.specs.mismatch_search.SearchTrail.{trail_in, way_positions, opened_positions}
use Rattle.marshal_codec.proofs.token.SummaryLemmas.{measured}
use Rattle.check_stream.proofs.mismatch_search.ComesLemmas.{adds_none, adds_one}
use Rattle.check_stream.proofs.mismatch_search.mismatch.Finding.add.Goals as goal

pub returns-in_default : goal.returns-in_default
returns-in_default c = adds_none c.args.self.now c.args.ty c.args.summary c.args.left c.requires.room (measured c.args.summary _ c.in_default.ensures.measured)

pub returns : goal.returns
returns c =
    let old = c.args.self.now in
    let many : c.len-object.result ≡ length old.types.items = search rules in
    let opened = if_true c.in_ok-opened.opened c.if-not-opened.false c.in_ok-opened.ensures in
    adds_one old _ c.args.ty c.args.summary c.args.left c.in-Some.measure (measured c.args.summary _ c.in-Some.ensures.measured)
    (λ is. let both = opened is in (both.0, both.1 ∙ ap (λ n. opened_positions n (trail_in old.way) c.args.left ++ way_positions old.way) many))
    refl refl c.in_ok-push.ensures refl (if_true c.spend.result c.if-not-spend.false c.spend.ensures)
