use Rattle.std.proofs.Common.{◌++◌, ◌∙◌, ap, ap₂, sym, arith}
use Rattle.marshal_heap.specs.heap.Heap.{object_at}
use Rattle.marshal_write.specs.write.WriteWalk.{left_of}
use Rattle.marshal_write.specs.declared.write.write_walk.RemainingFields.{RemainingFields}
use Rattle.marshal_write.specs.declared.write.write_walk.WriteWalk.{WriteWalk}
use Rattle.marshal_write.proofs.write.WriterFrameLemmas.{held_block, block_begun, block_token, header_block, header_leaf, object_is, next_position, next_small}
use Rattle.marshal_write.proofs.write.write_walk.WriteWalk.enter.Goals as goal

pub overflow_add-self-2 : goal.overflow_add-self-2
overflow_add-self-2 c =
    let g = c.args.heap.now in
    let k = c.args.k in
    omega (
      arith,
      next_position g k c.args.word c.header_at-header.result c.requires.heap c.requires.inside c.requires.word (c.header_at-header.ensures k c.requires.inside c.requires.word),
      next_small g k c.requires.heap c.requires.inside,
    )

pub fields_at-requires : goal.fields_at-requires
fields_at-requires c =
    let g = c.args.heap.now in
    let k = c.args.k in
    let kind = header_block _ _ (object_at g k) (object_is g k c.requires.heap c.requires.inside) (c.header_at-header.ensures k c.requires.inside c.requires.word) c.if-header-lt244.true in
    let held = held_block g k _ _ c.requires.heap c.requires.inside kind in
    (k, c.requires.inside, c.requires.word, omega (arith, held.some, kind.1))

pub returns-then-header-lt244-clause-left : goal.returns-then-header-lt244-clause-left
returns-then-header-lt244-clause-left c =
    let g = c.args.heap.now in
    let k = c.args.k in
    let b = block_begun g k c.open.new.self.last c.requires.heap c.requires.inside (ap (λ (f : RemainingFields). f.block) c.open.ensures.last)
    (ap (λ (f : RemainingFields). f.rest.now) c.open.ensures.last ∙ c.fields_at.ensures.words k c.requires.inside c.requires.word) in
    ap₂ ◌++◌ b.left c.open.ensures.left

pub returns-then-header-lt244-clause-last : goal.returns-then-header-lt244-clause-last
returns-then-header-lt244-clause-last c =
    let g = c.args.heap.now in
    let k = c.args.k in
    (block_begun g k c.open.new.self.last c.requires.heap c.requires.inside (ap (λ (f : RemainingFields). f.block) c.open.ensures.last)
    (ap (λ (f : RemainingFields). f.rest.now) c.open.ensures.last ∙ c.fields_at.ensures.words k c.requires.inside c.requires.word)).is_frame

pub returns-then-header-lt244-clause-token : goal.returns-then-header-lt244-clause-token
returns-then-header-lt244-clause-token c =
    let g = c.args.heap.now in
    let k = c.args.k in
    block_token g k _ _ (header_block _ _ (object_at g k) (object_is g k c.requires.heap c.requires.inside) (c.header_at-header.ensures k c.requires.inside c.requires.word) c.if-header-lt244.true)

pub returns-then-header-lt244-clause-held : goal.returns-then-header-lt244-clause-held
returns-then-header-lt244-clause-held c =
    let g = c.args.heap.now in
    let k = c.args.k in
    let kind = header_block _ _ (object_at g k) (object_is g k c.requires.heap c.requires.inside) (c.header_at-header.ensures k c.requires.inside c.requires.word) c.if-header-lt244.true in
    let held = held_block g k _ _ c.requires.heap c.requires.inside kind in
    (held.low, held.small)

pub returns-then-header-lt244-clause-next : goal.returns-then-header-lt244-clause-next
returns-then-header-lt244-clause-next c =
    let g = c.args.heap.now in
    let k = c.args.k in
    ap (λ (w : WriteWalk). w.next) c.open.ensures.frame
    ∙ next_position g k c.args.word c.header_at-header.result c.requires.heap c.requires.inside c.requires.word (c.header_at-header.ensures k c.requires.inside c.requires.word)

pub returns-else-header-lt244-clause-left : goal.returns-else-header-lt244-clause-left
returns-else-header-lt244-clause-left c =
    let g = c.args.heap.now in
    let k = c.args.k in
    let leaf = header_leaf _ _ (object_at g k) (object_is g k c.requires.heap c.requires.inside) (c.header_at-header.ensures k c.requires.inside c.requires.word) c.if-header-lt244.false in
    sym (ap (λ vs. vs ++ left_of g c.args.self.now) leaf.1)

pub returns-else-header-lt244-clause-token : goal.returns-else-header-lt244-clause-token
returns-else-header-lt244-clause-token c =
    let g = c.args.heap.now in
    let k = c.args.k in
    sym (header_leaf _ _ (object_at g k) (object_is g k c.requires.heap c.requires.inside) (c.header_at-header.ensures k c.requires.inside c.requires.word) c.if-header-lt244.false).0

pub returns-else-header-lt244-clause-next : goal.returns-else-header-lt244-clause-next
returns-else-header-lt244-clause-next c =
    let g = c.args.heap.now in
    let k = c.args.k in
    next_position g k c.args.word c.header_at-header.result c.requires.heap c.requires.inside c.requires.word (c.header_at-header.ensures k c.requires.inside c.requires.word)
