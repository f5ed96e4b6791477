use Rattle.std.proofs.Common.{◌≡◌, ◌≢◌, refl, subst}
use Rattle.std.specs.Prelude.{MatchBool}
use Rattle.marshal_heap.specs.heap.Heap.{object_at}
use Rattle.marshal_heap.specs.declared.heap.kind.Kind.TheVariants as kinds
use Rattle.marshal_heap.proofs.isomorphism.IsomorphismFieldLemmas.{other_kinds, blocks_meet, strings_meet, doubles_meet, arrays_meet, customs_meet, both_of_kind}
use Rattle.marshal_heap.proofs.isomorphism.compare.meet_contents.Goals as goal

pub returns-then-not-same_kind-clause-meets : goal.returns-then-not-same_kind-clause-meets
returns-then-not-same_kind-clause-meets c =
    other_kinds c.args.pairing.now.pairs (object_at c.args.left.now c.args.k) (object_at c.args.right.now c.args.l) c.kind-kind.result c.kind-other.result
    c.kind-kind.ensures.kind c.kind-other.ensures.kind (subst (λ b. MatchBool b (c.kind-kind.result ≡ c.kind-other.result) (c.kind-kind.result ≢ c.kind-other.result)) c.if-not-same_kind.true c.same_kind.ensures)

pub meet_fields-requires-clause-left : goal.meet_fields-requires-clause-left
meet_fields-requires-clause-left c = (both_of_kind c.kind-kind.result c.kind-other.result (kinds.Block c.in-Block.field-0 c.in-Block.n) (object_at c.args.left.now c.args.k) (object_at c.args.right.now c.args.l) c.same_kind.result c.kind-kind.ensures.object c.kind-other.ensures.object c.same_kind.ensures c.if-not-same_kind.false c.in-Block.is).0.1

pub meet_fields-requires-clause-right : goal.meet_fields-requires-clause-right
meet_fields-requires-clause-right c = (both_of_kind c.kind-kind.result c.kind-other.result (kinds.Block c.in-Block.field-0 c.in-Block.n) (object_at c.args.left.now c.args.k) (object_at c.args.right.now c.args.l) c.same_kind.result c.kind-kind.ensures.object c.kind-other.ensures.object c.same_kind.ensures c.if-not-same_kind.false c.in-Block.is).1.1

pub same_bytes-requires-clause-left : goal.same_bytes-requires-clause-left
same_bytes-requires-clause-left c = (both_of_kind c.kind-kind.result c.kind-other.result (kinds.Bytes c.in-Bytes.n) (object_at c.args.left.now c.args.k) (object_at c.args.right.now c.args.l) c.same_kind.result c.kind-kind.ensures.object c.kind-other.ensures.object c.same_kind.ensures c.if-not-same_kind.false c.in-Bytes.is).0.1

pub same_bytes-requires-clause-right : goal.same_bytes-requires-clause-right
same_bytes-requires-clause-right c = (both_of_kind c.kind-kind.result c.kind-other.result (kinds.Bytes c.in-Bytes.n) (object_at c.args.left.now c.args.k) (object_at c.args.right.now c.args.l) c.same_kind.result c.kind-kind.ensures.object c.kind-other.ensures.object c.same_kind.ensures c.if-not-same_kind.false c.in-Bytes.is).1.1

pub same_doubles-requires-clause-left : goal.same_doubles-requires-clause-left
same_doubles-requires-clause-left c = (let both = both_of_kind c.kind-kind.result c.kind-other.result kinds.Double (object_at c.args.left.now c.args.k) (object_at c.args.right.now c.args.l) c.same_kind.result c.kind-kind.ensures.object c.kind-other.ensures.object c.same_kind.ensures c.if-not-same_kind.false c.in-Double.is in rw both.0 refl)

pub same_doubles-requires-clause-right : goal.same_doubles-requires-clause-right
same_doubles-requires-clause-right c = (let both = both_of_kind c.kind-kind.result c.kind-other.result kinds.Double (object_at c.args.left.now c.args.k) (object_at c.args.right.now c.args.l) c.same_kind.result c.kind-kind.ensures.object c.kind-other.ensures.object c.same_kind.ensures c.if-not-same_kind.false c.in-Double.is in rw both.1 refl)

pub same_doubles-requires-in-Doubles-clause-left : goal.same_doubles-requires-in-Doubles-clause-left
same_doubles-requires-in-Doubles-clause-left c = (both_of_kind c.kind-kind.result c.kind-other.result (kinds.Doubles c.in-Doubles.n) (object_at c.args.left.now c.args.k) (object_at c.args.right.now c.args.l) c.same_kind.result c.kind-kind.ensures.object c.kind-other.ensures.object c.same_kind.ensures c.if-not-same_kind.false c.in-Doubles.is).0.1

pub same_doubles-requires-in-Doubles-clause-right : goal.same_doubles-requires-in-Doubles-clause-right
same_doubles-requires-in-Doubles-clause-right c = (both_of_kind c.kind-kind.result c.kind-other.result (kinds.Doubles c.in-Doubles.n) (object_at c.args.left.now c.args.k) (object_at c.args.right.now c.args.l) c.same_kind.result c.kind-kind.ensures.object c.kind-other.ensures.object c.same_kind.ensures c.if-not-same_kind.false c.in-Doubles.is).1.1

pub returns-in-Block-clause-meets : goal.returns-in-Block-clause-meets
returns-in-Block-clause-meets c =
    let both = both_of_kind c.kind-kind.result c.kind-other.result (kinds.Block c.in-Block.field-0 c.in-Block.n) (object_at c.args.left.now c.args.k) (object_at c.args.right.now c.args.l) c.same_kind.result c.kind-kind.ensures.object c.kind-other.ensures.object c.same_kind.ensures c.if-not-same_kind.false c.in-Block.is in
    blocks_meet _ _ _ _ c.in-Block.field-0 _ both.0.0 both.1.0 c.meet_fields.ensures.meets

pub returns-in-Bytes-clause-meets : goal.returns-in-Bytes-clause-meets
returns-in-Bytes-clause-meets c =
    let both = both_of_kind c.kind-kind.result c.kind-other.result (kinds.Bytes c.in-Bytes.n) (object_at c.args.left.now c.args.k) (object_at c.args.right.now c.args.l) c.same_kind.result c.kind-kind.ensures.object c.kind-other.ensures.object c.same_kind.ensures c.if-not-same_kind.false c.in-Bytes.is in
    strings_meet _ (object_at c.args.left.now c.args.k) (object_at c.args.right.now c.args.l) c.same_bytes.result both.0.0 both.1.0 c.same_bytes.ensures

pub returns-in-Double-clause-meets : goal.returns-in-Double-clause-meets
returns-in-Double-clause-meets c =
    let both = both_of_kind c.kind-kind.result c.kind-other.result kinds.Double (object_at c.args.left.now c.args.k) (object_at c.args.right.now c.args.l) c.same_kind.result c.kind-kind.ensures.object c.kind-other.ensures.object c.same_kind.ensures c.if-not-same_kind.false c.in-Double.is in
    doubles_meet _ (object_at c.args.left.now c.args.k) (object_at c.args.right.now c.args.l) _ _ c.same_doubles.result both.0 both.1 c.same_doubles.ensures

pub returns-in-Doubles-clause-meets : goal.returns-in-Doubles-clause-meets
returns-in-Doubles-clause-meets c =
    let both = both_of_kind c.kind-kind.result c.kind-other.result (kinds.Doubles c.in-Doubles.n) (object_at c.args.left.now c.args.k) (object_at c.args.right.now c.args.l) c.same_kind.result c.kind-kind.ensures.object c.kind-other.ensures.object c.same_kind.ensures c.if-not-same_kind.false c.in-Doubles.is in
    arrays_meet _ (object_at c.args.left.now c.args.k) (object_at c.args.right.now c.args.l) c.same_doubles-in-Doubles.result both.0.0 both.1.0 c.same_doubles-in-Doubles.ensures

pub returns-in-Custom-clause-meets : goal.returns-in-Custom-clause-meets
returns-in-Custom-clause-meets c =
    let both = both_of_kind c.kind-kind.result c.kind-other.result (kinds.Custom c.in-Custom.field-0) (object_at c.args.left.now c.args.k) (object_at c.args.right.now c.args.l) c.same_kind.result c.kind-kind.ensures.object c.kind-other.ensures.object c.same_kind.ensures c.if-not-same_kind.false c.in-Custom.is in
    customs_meet _ _ _ c.in-Custom.field-0 both.0 both.1
