use Rattle.std.proofs.Common.{subst, sym, ◌⊎◌, ℕ}
use Rattle.std.specs.Prelude.{IfOk}
use Rattle.types_spec.specs.types.Scope.{BreaksInFile, NamesBreak, twice}
use Rattle.types_resolve.specs.scope.Breaks.{SitesBreak, NameBreaks, WantsDistinctNames, rule_of}
use Rattle.types_resolve.specs.scope.Least.{IsLeast, earliest}
use Rattle.types_resolve.proofs.scope.ScopeLeastLemmas.{least_same, least_of_either}
use Rattle.types_resolve.proofs.scope.ScopeFileLemmas.{file_breaks}
use Rattle.types_resolve.proofs.scope.sites.least_break.Goals as goal

pub least_cyclic-requires : goal.least_cyclic-requires
least_cyclic-requires g c =
    (c.requires.0, subst (λ rule. WantsDistinctNames rule → (k : ℕ) → ¬ NamesBreak g.all twice k) c.in-Cyclic.is c.requires.1 tt)

pub returns-in-Cyclic : goal.returns-in-Cyclic
returns-in-Cyclic g c =
    subst (λ rule. IfOk c.least_cyclic.result (IsLeast (BreaksInFile g.all (rule_of rule)))) (sym c.in-Cyclic.is) c.least_cyclic.ensures

pub returns-in_ok-in_sites-in_default : goal.returns-in_ok-in_sites-in_default
returns-in_ok-in_sites-in_default g c =
    let same = file_breaks c.args.decls.now c.args.names.now c.args.sites.now g.all c.args.rule c.in_default.not-Cyclic
    c.requires.1 c.requires.0 in
    subst (IsLeast (BreaksInFile g.all (rule_of c.args.rule))) (sym c.earliest.ensures)
    (least_same (λ k. NameBreaks c.args.rule c.args.names.now k ⊎ SitesBreak c.args.rule c.args.decls.now c.args.sites.now k)
    (BreaksInFile g.all (rule_of c.args.rule)) (earliest c.in_ok-in_names-in_default.in_names c.in_ok-in_sites-in_default.in_sites)
    (least_of_either (NameBreaks c.args.rule c.args.names.now) (SitesBreak c.args.rule c.args.decls.now c.args.sites.now)
    c.in_ok-in_names-in_default.in_names c.in_ok-in_sites-in_default.in_sites c.in_ok-in_names-in_default.ensures c.in_ok-in_sites-in_default.ensures)
    (λ k. (same k).0) (λ k. (same k).1))
