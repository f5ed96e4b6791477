use Rattle.std.proofs.Common.{ℕ, suc, ◌-◌, ◌<◌, ◌≡◌, ◌∙◌, Some, length, refl, ap, arith}
use Rattle.std.specs.Prelude.{slice_get}
use Rattle.std.proofs.lemmas.List.{length-take-le}
use Rattle.std.proofs.lemmas.Option.{slice_get_read}
use Rattle.check_stream.specs.declared.mismatch_search.way.Link.{Link}
use Rattle.check_stream.proofs.mismatch_search.MismatchSearchWayLemmas.{points_root, points_at}
use Rattle.check_stream.proofs.mismatch_search.way.Way.point.Goals as goal

pub returns-then-depth-eq0 : goal.returns-then-depth-eq0
returns-then-depth-eq0 c = record {
  now = refl;
  waiting = refl;
  links = points_root c.args.self.now.links.items c.truncate.new.self.items c.args.self.now.now.depth c.args.field c.truncate.ensures.items c.if-depth-eq0.true;
}

pub returns : goal.returns
returns c =
    let old = c.args.self.now.links.items in
    let depth : ℕ = c.args.self.now.now.depth in
    let truncated = c.truncate.new.self.items in
    let one : Link = c.index_mut.result.now in
    let two : Link = record { object = c.index_mut.result.now.object; field = c.args.field } in
    let some : 0 < depth = omega (arith, c.if-depth-eq0.false) in
    let long : length truncated ≡ depth = ap length c.truncate.ensures.items ∙ length-take-le depth old c.requires.deep in
    let short : depth - 1 < length truncated = omega (arith, some, long) in
    let next : suc (depth - 1) ≡ depth = omega (arith, some) in
    let at : slice_get truncated (depth - 1) ≡ Some one = slice_get_read truncated (length truncated) (depth - 1) one refl short c.index_mut.ensures.value in
    record {
      now = refl;
      waiting = refl;
      links = points_at old truncated _ (depth - 1) depth c.args.field one two c.truncate.ensures.items next at refl refl refl;
    }
