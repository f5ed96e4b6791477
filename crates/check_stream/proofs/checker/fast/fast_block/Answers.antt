use Rattle.std.proofs.Common.{rules, ◌≡◌, ◌+◌, ◌∙◌, ◌++◌, ap, sym, ◌-◌}
use Rattle.std.specs.Prelude.{option_map}
use Rattle.types_table.specs.type_table.Made.{table_of}
use Rattle.check_stream.specs.theory.AskedNeeds.{shape_asks}
use Rattle.check_stream.specs.checker.OpenPositions.{open_needs, waiting_needs}
use Rattle.check_stream.specs.checker.Fast.{held}
use Rattle.check_stream.proofs.checker.StateLemmas.{took_block}
use Rattle.check_stream.proofs.checker.fast.fast_block.Goals as goal

pub returns : goal.returns
returns c =
    let inside = c.in-Some-fast_positions.inside in
    let kept : waiting_needs c.keep_reserved.new.waiting.items ≡ open_needs c.args.others ++ waiting_needs c.args.waiting.now.items = search rules in
    let w32 : (c.args.words.now.w32 - (1 + c.args.size)) + (1 + c.args.size) ≡ c.args.words.now.w32 = search rules in
    let w64 : (c.args.words.now.w64 - (1 + c.args.size)) + (1 + c.args.size) ≡ c.args.words.now.w64 = search rules in
    took_block (table_of c.args.table.now) (held c.args.others c.args.waiting.now c.args.types.now c.args.words.now)
    (held inside c.keep_reserved.new.waiting c.push_reserved.new.self record { w32 = c.args.words.now.w32 - (1 + c.args.size); w64 = c.args.words.now.w64 - (1 + c.args.size) })
    c.args.ty c.args.tag c.args.size (open_needs inside)
    (ap (λ s. shape_asks s c.args.ty c.args.tag c.args.size) (sym c.in-Some.ensures) ∙ sym c.fast_positions.ensures ∙ ap (option_map open_needs) c.in-Some-fast_positions.is)
    c.push_reserved.ensures.items
    (ap (λ needs. open_needs inside ++ needs) kept)
    w32 w64
