use Rattle.std.proofs.Common.{ℕ, ◌<◌, ◌≡◌, ◌∙◌, length, sym, ap, subst, arith}
use Rattle.std.specs.Bool.{OnTrue}
use Rattle.std.specs.Prelude.{slice_get, IsSome}
use Rattle.std.proofs.lemmas.Bool.{false≢true}
use Rattle.std.proofs.lemmas.Option.{same_Some}
use Rattle.base_data.proofs.model.Options.{slice_get-Contains}
use Rattle.base_data.specs.declared.model.value.Val.TheVariants as vals
use Rattle.types_spec.specs.types.Fitting.{fields_of, is_mutable}
use Rattle.types_spec.specs.types.Table.{node_or_none}
use Rattle.types_table.specs.type_table.Made.{table_of}
use Rattle.check_heap.specs.scan.Seconds.{noted_in}
use Rattle.check_heap.specs.scan.TakenObjects.{size_of}
use Rattle.check_heap.specs.scan.Scanned.{object_typed}
use Rattle.check_heap.proofs.scan.ScanPositionLemmas.{read_at}
use Rattle.check_heap.proofs.scan.ScanNeedLemmas.{needs_are, needs_few}
use Rattle.check_heap.specs.check.Settled.{FindsNeeds}
use Rattle.check_heap.proofs.check.CheckSettleLemmas.{settling_more}
use Rattle.check_heap.proofs.check.settle.settle_pair.Goals as goal

pub word-word-requires : goal.word-word-requires
word-word-requires c =
    let pair : ℕ × ℕ = (c.get-object.result.0, c.get-object.result.1) in
    let own = c.requires.settling.over.scanned.noted c.get-object.result.0 c.get-object.result.1 (slice_get-Contains (noted_in c.args.seconds.now) c.args.n pair c.get-object.ensures) in
    own.inside

pub fits_type-requires-clause-word : goal.fits_type-requires-clause-word
fits_type-requires-clause-word c =
    let pair : ℕ × ℕ = (c.get-object.result.0, c.get-object.result.1) in
    let own = c.requires.settling.over.scanned.noted c.get-object.result.0 c.get-object.result.1 (slice_get-Contains (noted_in c.args.seconds.now) c.args.n pair c.get-object.ensures) in
    (vals.Ref c.get-object.result.0, own.inside, c.word-word.ensures)

pub fits_type-requires-clause-node : goal.fits_type-requires-clause-node
fits_type-requires-clause-node c =
    let pair : ℕ × ℕ = (c.get-object.result.0, c.get-object.result.1) in
    let own = c.requires.settling.over.scanned.noted c.get-object.result.0 c.get-object.result.1 (slice_get-Contains (noted_in c.args.seconds.now) c.args.n pair c.get-object.ensures) in
    own.within

pub shape-requires : goal.shape-requires
shape-requires c =
    let pair : ℕ × ℕ = (c.get-object.result.0, c.get-object.result.1) in
    let own = c.requires.settling.over.scanned.noted c.get-object.result.0 c.get-object.result.1 (slice_get-Contains (noted_in c.args.seconds.now) c.args.n pair c.get-object.ensures) in
    own.within

pub is_mutable-requires : goal.is_mutable-requires
is_mutable-requires c =
    let pair : ℕ × ℕ = (c.get-object.result.0, c.get-object.result.1) in
    let own = c.requires.settling.over.scanned.noted c.get-object.result.0 c.get-object.result.1 (slice_get-Contains (noted_in c.args.seconds.now) c.args.n pair c.get-object.ensures) in
    own.inside

pub get-first-requires : goal.get-first-requires
get-first-requires c =
    let pair : ℕ × ℕ = (c.get-object.result.0, c.get-object.result.1) in
    let own = c.requires.settling.over.scanned.noted c.get-object.result.0 c.get-object.result.1 (slice_get-Contains (noted_in c.args.seconds.now) c.args.n pair c.get-object.ensures) in
    let many = c.requires.settling.over.scanned.many in
    let within = own.inside in
    omega (arith, within, many)

pub shape-requires-2 : goal.shape-requires-2
shape-requires-2 c =
    let pair : ℕ × ℕ = (c.get-object.result.0, c.get-object.result.1) in
    let own = c.requires.settling.over.scanned.noted c.get-object.result.0 c.get-object.result.1 (slice_get-Contains (noted_in c.args.seconds.now) c.args.n pair c.get-object.ensures) in
    let many = c.requires.settling.over.scanned.many in
    let inside : c.get-object.result.0 < length c.args.types.now = let within = own.inside in omega (arith, within, many) in
    let at_first = read_at c.args.types.now c.get-object.result.0 c.get-first.result inside c.get-first.ensures in
    c.requires.settling.over.scanned.within c.get-object.result.0 c.get-first.result at_first

pub is_mutable-requires-2 : goal.is_mutable-requires-2
is_mutable-requires-2 c =
    let pair : ℕ × ℕ = (c.get-object.result.0, c.get-object.result.1) in
    let own = c.requires.settling.over.scanned.noted c.get-object.result.0 c.get-object.result.1 (slice_get-Contains (noted_in c.args.seconds.now) c.args.n pair c.get-object.ensures) in
    own.inside

pub shape-requires-3 : goal.shape-requires-3
shape-requires-3 c =
    let pair : ℕ × ℕ = (c.get-object.result.0, c.get-object.result.1) in
    let own = c.requires.settling.over.scanned.noted c.get-object.result.0 c.get-object.result.1 (slice_get-Contains (noted_in c.args.seconds.now) c.args.n pair c.get-object.ensures) in
    own.within

pub known_needs-requires-clause-object : goal.known_needs-requires-clause-object
known_needs-requires-clause-object c =
    let pair : ℕ × ℕ = (c.get-object.result.0, c.get-object.result.1) in
    let own = c.requires.settling.over.scanned.noted c.get-object.result.0 c.get-object.result.1 (slice_get-Contains (noted_in c.args.seconds.now) c.args.n pair c.get-object.ensures) in
    own.inside

pub known_needs-requires-clause-fits : goal.known_needs-requires-clause-fits
known_needs-requires-clause-fits c =
    let pair : ℕ × ℕ = (c.get-object.result.0, c.get-object.result.1) in
    let own = c.requires.settling.over.scanned.noted c.get-object.result.0 c.get-object.result.1 (slice_get-Contains (noted_in c.args.seconds.now) c.args.n pair c.get-object.ensures) in
    subst (λ n. IsSome (fields_of c.args.heap.now (vals.Ref c.get-object.result.0) (node_or_none n))) c.shape-3.ensures
    ((c.fits_type.ensures (vals.Ref c.get-object.result.0) own.inside c.word-word.ensures).0 c.if-not-fits_type.false)

pub settle_needs-requires-clause-object : goal.settle_needs-requires-clause-object
settle_needs-requires-clause-object c =
    let pair : ℕ × ℕ = (c.get-object.result.0, c.get-object.result.1) in
    let own = c.requires.settling.over.scanned.noted c.get-object.result.0 c.get-object.result.1 (slice_get-Contains (noted_in c.args.seconds.now) c.args.n pair c.get-object.ensures) in
    own.inside

pub settle_needs-requires-clause-node : goal.settle_needs-requires-clause-node
settle_needs-requires-clause-node c =
    let pair : ℕ × ℕ = (c.get-object.result.0, c.get-object.result.1) in
    let own = c.requires.settling.over.scanned.noted c.get-object.result.0 c.get-object.result.1 (slice_get-Contains (noted_in c.args.seconds.now) c.args.n pair c.get-object.ensures) in
    own.within

pub settle_needs-requires-clause-path : goal.settle_needs-requires-clause-path
settle_needs-requires-clause-path c =
    let pair : ℕ × ℕ = (c.get-object.result.0, c.get-object.result.1) in
    c.requires.settling.over.paths c.get-object.result.0 c.get-object.result.1 (slice_get-Contains (noted_in c.args.seconds.now) c.args.n pair c.get-object.ensures)

pub returns-clause-settles : goal.returns-clause-settles
returns-clause-settles c =
    let pair : ℕ × ℕ = (c.get-object.result.0, c.get-object.result.1) in
    let own = c.requires.settling.over.scanned.noted c.get-object.result.0 c.get-object.result.1 (slice_get-Contains (noted_in c.args.seconds.now) c.args.n pair c.get-object.ensures) in
    let many = c.requires.settling.over.scanned.many in
    let inside : c.get-object.result.0 < length c.args.types.now = let within = own.inside in omega (arith, within, many) in
    let at_first = read_at c.args.types.now c.get-object.result.0 c.get-first.result inside c.get-first.ensures in
    let t = table_of c.args.fitting.table.now in
    let graph = c.args.heap.now in
    let o = c.get-object.result.0 in
    let ty = c.get-object.result.1 in
    let finds = subst (λ test. OnTrue test (FindsNeeds t graph c.args.types.now c.args.seconds.now c.settle_needs.new.seconds o ty (length (object_typed t graph o ty)))) c.if-not-branch.false c.in_ok-settle_needs.ensures.finds in
    settling_more t graph c.args.types.now c.args.seconds.now c.settle_needs.new.seconds c.args.n o ty c.requires.settling c.get-object.ensures
    ((c.fits_type.ensures (vals.Ref o) own.inside c.word-word.ensures).0 c.if-not-fits_type.false) finds
    (λ mutable. false≢true (sym c.if-is_mutable.false ∙ c.is_mutable.ensures ∙ sym (ap (λ n. is_mutable (node_or_none n) (slice_get graph o)) c.shape.ensures) ∙ mutable.1))
    (λ u at_u mutable.
    let same : c.get-first.result ≡ u = same_Some c.get-first.result u (sym at_first ∙ at_u) in
    let own_node = ap (slice_get c.args.fitting.table.now.nodes) (sym same) ∙ c.shape-2.ensures in
    false≢true (sym c.if-is_mutable-2.false ∙ c.is_mutable-2.ensures ∙ sym (ap (λ n. is_mutable (node_or_none n) (slice_get graph o)) own_node) ∙ mutable.1))

pub returns-clause-steps : goal.returns-clause-steps
returns-clause-steps c =
    let pair : ℕ × ℕ = (c.get-object.result.0, c.get-object.result.1) in
    let own = c.requires.settling.over.scanned.noted c.get-object.result.0 c.get-object.result.1 (slice_get-Contains (noted_in c.args.seconds.now) c.args.n pair c.get-object.ensures) in
    λ o t at_n.
    let same = ap (λ (p : ℕ × ℕ). p.0) (same_Some pair (o, t) (sym c.get-object.ensures ∙ at_n)) in
    let size = ap (size_of c.args.heap.now) same in
    let are = ap length (needs_are (table_of c.args.fitting.table.now) c.args.heap.now c.get-object.result.0 c.get-object.result.1 c.shape-3.result.now c.known_needs.result c.in-Some.needs c.shape-3.ensures c.known_needs.ensures c.in-Some.is) in
    let few = needs_few (table_of c.args.fitting.table.now) c.args.heap.now c.get-object.result.0 c.get-object.result.1 own.inside in
    omega (arith, size, are, few, c.raise.ensures.more, c.raise_by.ensures.more, c.len.ensures)
