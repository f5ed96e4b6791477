use Rattle.std.proofs.Common.{rules, ◌≡◌, ◌+◌, ◌-◌, ◌≤◌, length, subst, sym}
use Rattle.base_data.proofs.model.Numbers.{are_bytes}
use Rattle.marshal_write.specs.canonical_check.Canonicity.{BeginsCanonical}
use Rattle.marshal_write.proofs.canonical_check.CanonicalLemmas.{small_block_first, small_int_first, small_string_first}
use Rattle.marshal_write.proofs.canonical_check.canonical_tokens.small_len.Goals as goal

pub returns-then-code-ge128 : goal.returns-then-code-ge128
returns-then-code-ge128 c = small_block_first c.args.code c.args.bytes.now c.requires.some c.requires.code (search rules) (search rules)

pub returns-then-code-ge64 : goal.returns-then-code-ge64
returns-then-code-ge64 c = small_int_first c.args.code c.args.bytes.now c.requires.some c.requires.code (search rules) (search rules)

pub returns : goal.returns
returns c =
    let code = c.args.code in
    let bytes = c.args.bytes.now in
    let n : c.from-n.result ≡ code - 32 = search rules in
    let within : 1 + c.from-n.result ≤ length bytes = search rules in
    subst (λ k. BeginsCanonical (1 + k) bytes) (sym n)
    (small_string_first code bytes (are_bytes bytes c.type_inv.bytes) c.requires.some c.requires.code c.requires.small (search rules) (subst (λ k. 1 + k ≤ length bytes) n within))
