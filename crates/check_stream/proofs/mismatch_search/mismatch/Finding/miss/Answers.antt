use Rattle.std.proofs.Common.{◌∙◌, Some, refl, sym}
use Rattle.check_stream.proofs.checker.Weaker.{taken_weaker}
use Rattle.check_stream.specs.declared.mismatch_search.mismatch.FoundMismatch.{FoundMismatch}
use Rattle.check_stream.specs.declared.mismatch_search.mismatch.Finding.{Finding}
use Rattle.check_stream.proofs.mismatch_search.ComesLemmas.{comes_miss, none_found}
use Rattle.check_stream.proofs.mismatch_search.mismatch.Finding.miss.Goals as goal

pub returns : goal.returns
returns c =
    let old = c.args.self.now in
    let found : FoundMismatch = record { links = c.copy_to.new.copy; ty = c.args.ty; summary = c.args.summary } in
    let middle : Finding = record old { found = Some found; room = c.replace-links.new.dest } in
    taken_weaker c.add.result
    (λ adds table stated prefix misses. comes_miss table stated prefix old middle c.add.new.self c.args.ty c.args.summary c.unasked.result found misses (none_found old.found (sym c.if-is_some.ensures)) refl
    (c.in_ok-copy_to.ensures ∙ c.as_slice.ensures.value) refl refl refl refl refl refl refl c.unasked.ensures.fields adds)
    c.add.ensures
