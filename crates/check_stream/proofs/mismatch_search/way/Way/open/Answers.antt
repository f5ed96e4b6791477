use Rattle.std.proofs.Common.{rules, ◌≡◌, ◌∙◌, ◌^◌, ◌<◌, ◌++◌, length, refl, sym, ap}
use Rattle.check_stream.specs.mismatch_search.SearchTrail.{trail_in, left_values, way_positions}
use Rattle.check_stream.proofs.mismatch_search.MismatchSearchWayLemmas.{none_opened, opened}
use Rattle.check_stream.proofs.mismatch_search.way.Way.open.Goals as goal

pub returns-then-values-eq0 : goal.returns-then-values-eq0
returns-then-values-eq0 c =
    let old = c.args.self.now in
    let none : left_values c.args.left ≡ 0 = c.requires ∙ c.if-values-eq0.true in
    λ is. (is, sym (ap (λ ps. ps ++ way_positions old) (none_opened c.args.object (trail_in old) c.args.left none)))

pub returns : goal.returns
returns c =
    let deep : c.len.result ≡ length c.push.new.items.items = search rules in
    let small : left_values c.args.left < 2 ^ 32 = search rules in
    λ is. opened c.args.self.now c.keep.new.self _ c.args.object c.args.left is (c.in_ok-keep.ensures is) c.in_ok-push.ensures refl deep refl refl small
