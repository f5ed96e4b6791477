use Rattle.std.proofs.Common.{sym, ◌∙◌}
use Rattle.types_build.proofs.representation.EntryLemmas.{lookup-has_name, with_tag-there, entry_added}
use Rattle.types_build.proofs.representation.bracket.add_tag.Goals as goal

pub returns-then-contains_key : goal.returns-then-contains_key
returns-then-contains_key c =
    with_tag-there _ c.args.name.now c.args.argument
    (sym (lookup-has_name c.args.name.now c.args.tags.now.entries) ∙ sym c.contains_key.ensures ∙ c.if-contains_key.true)

pub returns : goal.returns
returns c =
    entry_added c.args.tags.now c.args.name.now c.in_ok-text.text c.args.argument _ c.in_ok-text.ensures.items
    (sym c.contains_key.ensures ∙ c.if-contains_key.false) c.in_ok-insert.ensures.entries
