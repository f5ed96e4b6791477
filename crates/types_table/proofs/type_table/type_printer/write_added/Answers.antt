use Rattle.std.proofs.Common.{◌++◌, ◌∙◌, [], ap, sym}
use Rattle.std.specs.Prelude.{codes}
use Rattle.std.proofs.lemmas.List.{append_assoc}
use Rattle.std.proofs.lemmas.Option.{get_or_from_slice_get}
use Rattle.std.proofs.lemmas.Result.{on_ok_weaker}
use Rattle.types_spec.specs.types.Ty.{tuple}
use Rattle.types_spec.specs.types.TypeNodes.{type_at}
use Rattle.types_spec.specs.types.TypeText.{type_text}
use Rattle.types_table.specs.type_table.PrintedTypes.{added_text}
use Rattle.types_table.proofs.type_table.TypeTableWriteLemmas.{write_first, write_nothing, write_is, added_text-none}
use Rattle.types_table.proofs.type_table.type_printer.write_added.Goals as goal

pub returns-in_ok-write-in-TagOf-clause-write : goal.returns-in_ok-write-in-TagOf-clause-write
returns-in_ok-write-in-TagOf-clause-write c =
    let types = c.args.types.now in
    let t = type_at types c.args.number in
    let name = c.in-TagOf.name.now in
    let argument = type_text (type_at types c.in-TagOf.argument) in
    let old = c.args.text.now.items in
    let mid = c.write.new.text.items in
    let new = c.write_type.new.text.items in
    let w0 = c.args.waiting.now.items in
    let w1 = c.write_type.new.waiting.items in
    let is = get_or_from_slice_get types c.args.number _ tuple c.in-TagOf.ensures.is in
    let before = codes "`" ++ name ++ codes " of " in
    let first = c.in_ok-write-in-TagOf.ensures ∙ ap (λ prefix. prefix ++ codes " of ") c.in_ok-write_tag-in-TagOf.ensures
    ∙ append_assoc old (codes "`" ++ name) (codes " of ") in
    on_ok_weaker c.write_type.result
    (λ write. write_is types old new w0 w1 (before ++ argument) (added_text c.args.asked t) (sym (ap (added_text c.args.asked) is))
    (write_first types old mid new w0 w1 before argument first write))
    c.write_type.ensures.write

pub returns-in_default-clause-write : goal.returns-in_default-clause-write
returns-in_default-clause-write c =
    let types = c.args.types.now in
    let is = get_or_from_slice_get types c.args.number _ tuple c.node.ensures.is in
    let none = added_text-none types c.args.asked c.node.result c.in_default.not-Part c.in_default.not-Tag c.in_default.not-TagOf
    c.in_default.not-Including in
    let old = c.args.text.now.items in
    let w = c.args.waiting.now.items in
    write_is types old old w w [] (added_text c.args.asked (type_at types c.args.number))
    (sym (ap (added_text c.args.asked) is ∙ none)) (write_nothing types old w)
