use Rattle.std.proofs.Common.{ℕ, zero, suc, ◌≡◌, ◌/◌, ◌%◌, ◌<◌, ◌≤◌, arith, refl, sym, subst}
use Rattle.marshal_spec.specs.format.Token.{block, block_or_atom}
use Rattle.types_table.specs.type_table.Made.{table_of}
use Rattle.check_stream.specs.theory.AskedNeeds.{of_type}
use Rattle.check_stream.specs.checker.Fast.{held}
use Rattle.check_stream.specs.checker.CheckerState.{Took}
use Rattle.check_stream.proofs.checker.Weaker.{match_option_weaker}
use Rattle.check_stream.proofs.checker.fast.fast_word.Goals as goal

some_fields : (tag size : ℕ) → 0 < size → block_or_atom tag size ≡ block tag size
some_fields tag zero some = absurd (omega arith)
some_fields tag (suc n) some = refl

pub returns : goal.returns
returns c =
    let word = c.args.word in
    let low : word % 256 ≤ 243 = omega arith in
    let some : 0 < word / 1024 = omega arith in
    match_option_weaker c.fast_block.result (λ same. same)
    (λ now took. (low, subst (Took (table_of c.args.table.now) (held c.args.others c.args.waiting.now c.args.types.now c.args.words.now) (held now c.fast_block.new.waiting c.fast_block.new.types c.fast_block.new.words) (of_type c.args.ty)) (sym (some_fields (word % 256) (word / 1024) some)) took))
    c.fast_block.ensures
