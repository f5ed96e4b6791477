use Rattle.std.proofs.Common.{sym, arith}
use Rattle.std.proofs.lemmas.Option.{get_or_from_slice_get}
use Rattle.types_resolve.proofs.scope.ScopeSiteLemmas.{more_sites, all_sites}
use Rattle.types_resolve.proofs.scope.sites.least_in_sites.Goals as goal

pub loop-i-preserved : goal.loop-i-preserved
loop-i-preserved c =
    let decls = c.args.decls.now in
    let d = c.at.result.now in
    more_sites c.args.rule decls c.args.sites.now c.loop-i.i d c.index-sites-i.result
    c.loop-i.best c.in_ok-found.found c.earliest-best.result c.requires (omega arith)
    (sym (get_or_from_slice_get decls c.loop-i.i d d c.at.ensures)) c.index-sites-i.is
    c.loop-i.invariant c.in_ok-found.ensures c.earliest-best.ensures

pub returns : goal.returns
returns c = all_sites c.args.rule c.args.decls.now c.args.sites.now c.loop-i.i c.loop-i.best (omega arith) (omega arith) c.loop-i.invariant
