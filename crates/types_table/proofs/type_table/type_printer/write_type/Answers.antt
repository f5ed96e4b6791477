use Rattle.std.proofs.Common.{◌++◌, ◌∙◌, [], true, false, sym}
use Rattle.std.specs.Prelude.{codes}
use Rattle.std.proofs.lemmas.List.{append_assoc}
use Rattle.std.proofs.lemmas.Result.{on_ok_weaker}
use Rattle.types_spec.specs.types.Ty.{variable, named, tuple, bracket}
use Rattle.types_spec.specs.types.TypeNodes.{type_at}
use Rattle.types_spec.specs.types.TypeText.{type_text}
use Rattle.types_table.specs.type_table.PrintedTypes.{arguments_text, parts_text}
use Rattle.types_table.proofs.type_table.TypeTableTextLemmas.{name_text, tuple_text, bracket_text}
use Rattle.types_table.proofs.type_table.TypeTableWriteLemmas.{write_first, wait_first, only_wait, write_is, stem_is, no_other}
use Rattle.types_table.proofs.type_table.TypeTableWriteLemmas.{stem-variable, stem-named, stem-tuple, stem-bracket}
use Rattle.types_table.proofs.type_table.type_printer.write_type.Goals as goal

pub write_arguments-requires-clause-within : goal.write_arguments-requires-clause-within
write_arguments-requires-clause-within c =
    c.in_ok-wait-in-Variable-2.ensures.within c.args.types.now tt
    (c.in_ok-wait-in-Variable.ensures.within c.args.types.now tt c.requires.within)

pub write_arguments-requires-in-Named-clause-within : goal.write_arguments-requires-in-Named-clause-within
write_arguments-requires-in-Named-clause-within c =
    c.in_ok-wait-in-Named.ensures.within c.args.types.now tt c.requires.within

pub push_parts-requires-in-Bracket-clause-within : goal.push_parts-requires-in-Bracket-clause-within
push_parts-requires-in-Bracket-clause-within c =
    c.in_ok-wait-in-Bracket.ensures.within c.args.types.now tt c.requires.within

pub unreachable-requires : goal.unreachable-requires
unreachable-requires c =
    no_other c.args.types.now c.stem_of.result c.node.result c.node.ensures.is c.stem_of.ensures.first
    c.in_default.not-Variable c.in_default.not-Named c.in_default.not-Tuple c.in_default.not-Bracket

pub returns-in_ok-wait-in-Variable-2-clause-write : goal.returns-in_ok-wait-in-Variable-2-clause-write
returns-in_ok-wait-in-Variable-2-clause-write c =
    let types = c.args.types.now in
    let t = type_at types c.args.number in
    let name = c.in-Variable.name.now in
    let old = c.args.text.now.items in
    let new = c.write_arguments.new.text.items in
    let w0 = c.args.waiting.now.items in
    let w1 = c.wait.new.waiting.items in
    let w2 = c.wait-in-Variable.new.waiting.items in
    let w3 = c.write_arguments.new.waiting.items in
    let begins = stem_is types c.stem_of.result c.args.number (variable name) c.in-Variable.ensures.is c.stem_of.ensures.same
    ∙ stem-variable name in
    let same = append_assoc (arguments_text t) (codes "'") name ∙ sym (name_text (codes "'" ++ name) t begins) in
    on_ok_weaker c.write_arguments.result
    (λ write. write_is types old new w0 w3 (arguments_text t ++ codes "'" ++ name) (type_text t) same
    (wait_first types old new w0 w1 w3 (arguments_text t ++ codes "'") name (c.in_ok-wait-in-Variable.ensures.text types)
    (wait_first types old new w1 w2 w3 (arguments_text t) (codes "'") (c.in_ok-wait-in-Variable-2.ensures.text types) write)))
    c.write_arguments.ensures.write

pub returns-in_ok-wait-in-Named-clause-write : goal.returns-in_ok-wait-in-Named-clause-write
returns-in_ok-wait-in-Named-clause-write c =
    let types = c.args.types.now in
    let t = type_at types c.args.number in
    let name = c.in-Named.name.now in
    let old = c.args.text.now.items in
    let new = c.write_arguments-in-Named.new.text.items in
    let w0 = c.args.waiting.now.items in
    let w1 = c.wait-in-Named.new.waiting.items in
    let w2 = c.write_arguments-in-Named.new.waiting.items in
    let begins = stem_is types c.stem_of.result c.args.number (named name) c.in-Named.ensures.is c.stem_of.ensures.same
    ∙ stem-named name in
    on_ok_weaker c.write_arguments-in-Named.result
    (λ write. write_is types old new w0 w2 (arguments_text t ++ name) (type_text t) (sym (name_text name t begins))
    (wait_first types old new w0 w1 w2 (arguments_text t) name (c.in_ok-wait-in-Named.ensures.text types) write))
    c.write_arguments-in-Named.ensures.write

pub returns-in-Tuple-clause-write : goal.returns-in-Tuple-clause-write
returns-in-Tuple-clause-write c =
    let types = c.args.types.now in
    let t = type_at types c.args.number in
    let text = parts_text true (codes " * ") [] t in
    let old = c.args.text.now.items in
    let w0 = c.args.waiting.now.items in
    let w1 = c.push_parts.new.waiting.items in
    let begins = stem_is types c.stem_of.result c.args.number tuple c.in-Tuple.ensures.is c.stem_of.ensures.same ∙ stem-tuple in
    on_ok_weaker c.push_parts.result
    (λ waits. write_is types old old w0 w1 text (type_text t) (sym (tuple_text t begins)) (only_wait types old w0 w1 text waits))
    c.push_parts.ensures.parts

pub returns-in_ok-wait-in-Bracket-clause-write : goal.returns-in_ok-wait-in-Bracket-clause-write
returns-in_ok-wait-in-Bracket-clause-write c =
    let types = c.args.types.now in
    let t = type_at types c.args.number in
    let text = parts_text false (codes " | ") [] t in
    let old = c.args.text.now.items in
    let mid = c.write.new.text.items in
    let w0 = c.args.waiting.now.items in
    let w1 = c.wait-in-Bracket.new.waiting.items in
    let w2 = c.push_parts-in-Bracket.new.waiting.items in
    let begins = stem_is types c.stem_of.result c.args.number bracket c.in-Bracket.ensures.is c.stem_of.ensures.same
    ∙ stem-bracket in
    let same = sym (append_assoc (codes "[ ") text (codes " ]")) ∙ sym (bracket_text t begins) in
    on_ok_weaker c.push_parts-in-Bracket.result
    (λ waits. write_is types old mid w0 w2 (codes "[ " ++ (text ++ codes " ]")) (type_text t) same
    (write_first types old mid mid w0 w2 (codes "[ ") (text ++ codes " ]") c.in_ok-write-in-Bracket.ensures
    (wait_first types mid mid w0 w1 w2 text (codes " ]") (c.in_ok-wait-in-Bracket.ensures.text types)
    (only_wait types mid w1 w2 text waits))))
    c.push_parts-in-Bracket.ensures.parts
