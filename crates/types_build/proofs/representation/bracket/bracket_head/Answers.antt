use Rattle.std.proofs.Common.{◌∙◌, ℕ, List, [], reverse, refl, sym, subst}
use Rattle.types_spec.specs.declared.types.head.TagOf.{TagOf}
use Rattle.types_spec.specs.declared.types.head.HeadOf.TheVariants as heads
use Rattle.types_spec.specs.types.TypeNodes.{type_at}
use Rattle.types_spec.specs.types.Head.{head}
use Rattle.types_build.specs.representation.Tags.{items, with_items, tags_of_entries, IsHeadOf}
use Rattle.types_build.proofs.representation.RepresentationGatherLemmas.{none_gathered, nothing_gathered, all_gathered}
use Rattle.types_build.proofs.representation.bracket.bracket_head.Goals as goal

pub returns-then-not-has_bracket-clause-ok : goal.returns-then-not-has_bracket-clause-ok
returns-then-not-has_bracket-clause-ok c =
    nothing_gathered c.args.decls.now c.holds.ensures c.args.types.now (type_at c.args.types.now c.args.number) c.requires.bracketed
    (sym c.has_bracket.ensures ∙ c.if-not-has_bracket.true)

pub gather_all-requires : goal.gather_all-requires
gather_all-requires c =
    let decls = c.args.decls.now in
    let t = type_at c.args.types.now c.args.number in
    let all = with_items (head decls) [] (items t) in record {
      found = c.requires.found;
      gathered = (
        all,
        none_gathered decls c.args.types.now t c.new-tags.result.entries (reverse c.push_items.new.waiting.items)
            c.new-tags.ensures.empty (c.in_ok-push_items.ensures.left decls [] all (rw c.new-waiting.ensures.items refl)),
      );
    }

pub returns-clause-ok : goal.returns-clause-ok
returns-clause-ok c =
    let decls = c.args.decls.now in
    let t = type_at c.args.types.now c.args.number in
    let all = with_items (head decls) [] (items t) in
    let found = tags_of_entries c.gather_all.new.tags.entries in
    let gathered =
    c.in_ok-gather_all.ensures.gathered all
    (none_gathered decls c.args.types.now t c.new-tags.result.entries (reverse c.push_items.new.waiting.items)
    c.new-tags.ensures.empty (c.in_ok-push_items.ensures.left decls [] all (rw c.new-waiting.ensures.items refl))) in
    subst (λ (tags : List (TagOf ℕ)). IsHeadOf decls c.gather_all.new.types t (heads.Variants tags))
    (sym (c.of.ensures ∙ c.in_ok-listed.ensures))
    (all_gathered decls c.holds.ensures c.gather_all.new.types t c.requires.bracketed found
    (sym c.has_bracket.ensures ∙ c.if-not-has_bracket.false) gathered)
