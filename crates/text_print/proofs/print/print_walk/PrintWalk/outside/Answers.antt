use Rattle.std.proofs.Common.{◌≡◌, ◌-◌, ◌∙◌, [], ◌∷◌, ◌++◌, suc, length, take, sym, ap, arith, rules}
use Rattle.std.proofs.lemmas.Grind.{common_steps}
use Rattle.text_print.specs.declared.print.open_block.OpenBlock.{OpenBlock}
use Rattle.text_print.specs.print.PrintLevels.{last_outside}
use Rattle.text_print.proofs.print.PrintLevelLemmas.{outside_last}
use Rattle.text_print.proofs.print.PrintMarkLemmas.{last_split}
use Rattle.text_print.proofs.print.print_walk.PrintWalk.outside.Goals as goal

pub returns-then-is_empty : goal.returns-then-is_empty
returns-then-is_empty c =
    let nothing : c.args.self.now.stack.items ≡ [] = first_of (search rules, grind (arith, common_steps)) in
    sym (ap (last_outside 0) nothing)

pub returns : goal.returns
returns c =
    let items = c.args.self.now.stack.items in
    let last = c.len.result - 1 in
    let block = c.index.result.now in
    let many : length items ≡ suc last = first_of (omega arith, search rules, grind (arith, common_steps)) in
    let split : items ≡ take last items ++ block ∷ [] = last_split items last block many ∙ ap (λ (b : OpenBlock). take last items ++ b ∷ []) (sym c.index.ensures) in
    sym (ap (last_outside 0) split ∙ outside_last 0 (take last items) block)
