use Rattle.std.proofs.Common.{◌≡◌, ◌++◌, ◌∷◌, ◌-◌, ◌<◌, ◌∙◌, [], suc, length, take, refl, sym, ap, arith, rules}
use Rattle.std.proofs.lemmas.Grind.{common_steps}
use Rattle.std.proofs.lemmas.List.{nil_from_length}
use Rattle.text_print.specs.print.PrintLevels.{levels_of, last_outside}
use Rattle.text_print.proofs.print.PrintLeftLemmas.{none_left}
use Rattle.text_print.proofs.print.PrintLevelLemmas.{no_levels}
use Rattle.text_print.proofs.print.PrintMarkLemmas.{last_split}
use Rattle.text_print.proofs.print.PrintWalkLemmas.{end_goes}
use Rattle.text_print.proofs.print.print_walk.PrintWalk.go_on.Goals as goal

pub returns-then-has_end : goal.returns-then-has_end
returns-then-has_end c =
    let walk = c.args.self.now in
    let items = walk.ends.items in
    let last = c.len-last.result - 1 in
    let end = c.index-end.result.now in
    let many : length items ≡ suc last = first_of (omega arith, search rules, grind (arith, common_steps)) in
    let split : items ≡ take last items ++ end ∷ [] = last_split items last end many ∙ ap (λ e. take last items ++ e ∷ []) (sym c.index-end.ensures) in
    let within = c.has_end.ensures.some c.if-has_end.true in
    let some : last_outside 0 walk.stack.items < length items = first_of (omega (arith, within), grind (arith, common_steps, within)) in
    end_goes c.args.table.now c.args.heap.now walk _ end c.requires.walk some c.requires.none refl
    (split ∙ ap (λ es. es ++ end ∷ []) (sym c.truncate.ensures.items)) refl refl

pub returns-then-is_empty : goal.returns-then-is_empty
returns-then-is_empty c =
    let walk = c.args.self.now in
    let nothing : walk.stack.items ≡ [] = first_of (search rules, grind (arith, common_steps)) in
    let outside : last_outside 0 walk.stack.items ≡ 0 = ap (last_outside 0) nothing in
    let within = c.has_end.ensures.none c.if-has_end.false in
    let short : length walk.ends.items ≡ 0 = first_of (omega (arith, outside, within), grind (arith, common_steps, outside, within)) in
    (none_left c.args.table.now c.args.heap.now (levels_of walk) walk.order (no_levels walk nothing (nil_from_length walk.ends.items short)), refl)
