use Rattle.std.proofs.Common.{◌<◌, ◌∙◌, length, Some, sym, ap, subst, arith}
use Rattle.std.specs.Prelude.{slice_get, option_map}
use Rattle.std.proofs.lemmas.Option.{slice_get-map}
use Rattle.check_heap.specs.declared.check.visits.Visit.{Visit}
use Rattle.check_heap.specs.check.TypedObjects.{pairs_in}
use Rattle.check_heap.specs.check.Visits.{listed}
use Rattle.check_heap.proofs.check.ScannedLemmas.{length_numbered, numbered_there}
use Rattle.check_heap.proofs.check.typed_objects.pair_at.Goals as goal

pub get-requires : goal.get-requires
get-requires c =
    subst (λ n. c.args.k < n) (ap (λ pairs. length (pairs_in pairs)) c.in-Scanned.is ∙ length_numbered 0 c.in-Scanned.types) c.requires

pub returns-in-Searched : goal.returns-in-Searched
returns-in-Searched c =
    ap (λ pairs. slice_get (pairs_in pairs) c.args.k) c.in-Searched.is
    ∙ slice_get-map (λ (v : Visit). (v.object, v.ty)) (listed c.in-Searched.visits) c.args.k
    ∙ ap (option_map (λ (v : Visit). (v.object, v.ty))) c.get-visit.ensures

pub returns-in-Scanned : goal.returns-in-Scanned
returns-in-Scanned c =
    let inside = subst (λ n. c.args.k < n) (ap (λ pairs. length (pairs_in pairs)) c.in-Scanned.is ∙ length_numbered 0 c.in-Scanned.types) c.requires in
    ap (λ pairs. slice_get (pairs_in pairs) c.args.k) c.in-Scanned.is
    ∙ numbered_there 0 c.in-Scanned.types c.args.k c.args.k (omega arith) inside
    ∙ ap (λ t. Some (c.args.k, t)) (sym c.get.ensures)

pub returns-in-Settled : goal.returns-in-Settled
returns-in-Settled c = ap (λ pairs. slice_get (pairs_in pairs) c.args.k) c.in-Settled.is ∙ c.get-in-Settled.ensures

pub returns-in-Listed : goal.returns-in-Listed
returns-in-Listed c = ap (λ pairs. slice_get (pairs_in pairs) c.args.k) c.in-Listed.is ∙ c.listed_at.ensures

pub listed_at-requires : goal.listed_at-requires
listed_at-requires c = subst (λ n. c.args.k < n) (ap (λ pairs. length (pairs_in pairs)) c.in-Listed.is) c.requires
