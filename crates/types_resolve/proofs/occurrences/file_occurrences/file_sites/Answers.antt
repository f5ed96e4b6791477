use Rattle.std.proofs.Common.{List, ℕ, ◌∙◌, ◌++◌, ◌∷◌, [], drop, ap}
use Rattle.types_spec.specs.types.Occurrence.{Placed}
use Rattle.types_resolve.specs.occurrences.CountedFile.{placed}
use Rattle.types_resolve.proofs.occurrences.OccurrenceFileLemmas.{FileFollows-step, FileFollows-end, BracketsFollow-step, BracketsFollow-end}
use Rattle.types_resolve.proofs.occurrences.file_occurrences.file_sites.Goals as goal

pub loop-decl-preserved : goal.loop-decl-preserved
loop-decl-preserved c =
    let d = c.decl-item.result in
    let rest = c.loop-decl.rest.now in
    record {
      sites = FileFollows-step c.args.marks.now c.args.decls.now c.loop-decl.names c.push.new.self c.loop-decl.sites
          c.push-in-loop-decl.new.self c.in_ok-found.found.site rest c.in_ok-found.left.now d c.loop-decl.decl-index
          c.loop-decl-test.true c.decl-item.is c.loop-decl.invariant.sites c.in_ok-found.ensures.site
          (c.in_ok-push.ensures.ok ∙ ap (λ (p : Placed). c.loop-decl.names ++ p ∷ []) (c.in_ok-placed.ensures
          ∙ ap (λ (ms : List ℕ). placed ms d.name) (c.skip-name.ensures ∙ ap (λ n. drop n rest) c.len.ensures)))
          c.in_ok-push-2.ensures.ok c.in_ok-found.ensures.rest;
      brackets = BracketsFollow-step c.args.marks.now c.args.decls.now c.loop-decl.brackets
          c.push-in-loop-decl-2.new.self c.in_ok-found.found.brackets rest c.in_ok-found.left.now d
          c.loop-decl.decl-index c.loop-decl-test.true c.decl-item.is c.loop-decl.invariant.brackets
          c.in_ok-found.ensures.brackets c.in_ok-push-3.ensures.ok c.in_ok-found.ensures.rest;
    }

pub returns-clause-sites : goal.returns-clause-sites
returns-clause-sites c =
    FileFollows-end c.args.marks.now c.args.decls.now c.loop-decl.names c.loop-decl.sites c.loop-decl.rest.now
    c.loop-decl.decl-index c.loop-decl-test.false c.loop-decl.invariant.sites

pub returns-clause-brackets : goal.returns-clause-brackets
returns-clause-brackets c =
    BracketsFollow-end c.args.marks.now c.args.decls.now c.loop-decl.brackets c.loop-decl.rest.now
    c.loop-decl.decl-index c.loop-decl-test.false c.loop-decl.invariant.brackets
