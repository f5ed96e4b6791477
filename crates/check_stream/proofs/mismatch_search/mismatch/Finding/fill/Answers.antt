use Rattle.std.proofs.Common.{rules, ◌≡◌, ◌∙◌, refl, sym, ap}
use Rattle.types_spec.specs.types.Fitting.{fits_int}
use Rattle.check_stream.specs.declared.mismatch_search.way.Expectation.TheVariants as asks
use Rattle.check_stream.specs.mismatch_search.SearchTrail.{position_trail}
use Rattle.check_stream.proofs.mismatch_search.MismatchSearchWayLemmas.{passed_first}
use Rattle.check_stream.proofs.mismatch_search.mismatch.Finding.fill.Goals as goal

pub returns-clause-passed : goal.returns-clause-passed
returns-clause-passed c = λ _.
    let way = c.args.self.now.way in
    let taken = passed_first way (asks.Type c.args.ty) c.args.others c.args.values c.requires.is_way c.requires.first in
    let test : c.fits_int.result ≡ fits_int c.in-Some.shape.now c.in-Integer.z = search rules in
    record {
      z = c.in-Integer.z;
      its = c.in-Integer.is;
      type = c.args.ty;
      trail = position_trail way.links.items way.now.depth way.now.next;
      fits = ap (λ shape. fits_int shape c.in-Integer.z) (sym c.in-Some.ensures) ∙ sym test ∙ c.if-not-fits_int.false;
      is_way = taken.0;
      positions = taken.1;
      types = refl;
      again = refl;
      seconds = refl;
      words = refl;
      found = refl;
    }
