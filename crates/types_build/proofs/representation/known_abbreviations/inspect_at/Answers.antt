use Rattle.std.proofs.Common.{ℕ, ◌≡◌, ◌<◌, length, List, [], Some, sym, subst, All, arith}
use Rattle.std.proofs.lemmas.List.Elements.{All-nil, All-cons, All-push, All-pop}
use Rattle.indexmap.specs.IndexMap.{index_map_len}
use Rattle.types_table.proofs.store.StoreHeldLemmas.{Grows-none, Grows-then}
use Rattle.types_build.proofs.representation.RepresentationKnownLemmas.{some_at, more_at, known_few}
use Rattle.types_build.proofs.representation.known_abbreviations.inspect_at.Goals as goal

pub returns-in_default-clause-known : goal.returns-in_default-clause-known
returns-in_default-clause-known c =
    c.in_ok-first.ensures.known c.args.decls.now c.args.group c.requires.decl c.requires.known

pub loop-next-init : goal.loop-next-init
loop-next-init c =
    let Within : ℕ → Type 0 = λ j. j < length c.args.decls.now in
    let is = some_at (λ n. n ≡ c.args.decl) c.in_ok-first.field-0 c.in-Some.first c.in-Some.is c.in_ok-first.ensures.is in (
      subst (λ (xs : List ℕ). All Within xs) (sym c.in_ok-waiting.ensures.items)
          (All-cons Within c.in-Some.first [] (subst Within (sym is) c.requires.decl) (All-nil Within)),
      Grows-none c.args.types.now,
      c.in_ok-first.ensures.known c.args.decls.now c.args.group c.requires.decl c.requires.known,
    )

pub loop-next-smaller-in-Continue-branch-7 : goal.loop-next-smaller-in-Continue-branch-7
loop-next-smaller-in-Continue-branch-7 c =
    let few = known_few c.args.decls.now c.args.group c.inspect.new.known c.in_ok-first-2.ensures.known in
    let more = more_at (index_map_len c.loop-next.known) (index_map_len c.inspect.new.known) c.in_ok-first-2.field-0 c.in-Some-2.first
    c.in-Some-2.is c.in_ok-first-2.ensures.more in
    omega (arith, few, more, c.in_ok-push.ensures.len, c.in_ok-push-2.ensures.len, c.in-Some-pop.ensures.cases)

pub loop-next-preserved-in-Continue-branch-7 : goal.loop-next-preserved-in-Continue-branch-7
loop-next-preserved-in-Continue-branch-7 c =
    let Within : ℕ → Type 0 = λ j. j < length c.args.decls.now in
    let popped = All-pop Within c.loop-next.waiting.items c.pop.new.self.items (Some c.in-Some-pop.next) c.in-Some-pop.ensures.items
    c.loop-next.invariant.0 in
    let first = some_at Within c.in_ok-first-2.field-0 c.in-Some-2.first c.in-Some-2.is c.in_ok-first-2.ensures.below in (
      subst (λ (xs : List ℕ). All Within xs) (sym c.in_ok-push-2.ensures.items)
          (All-push Within c.push.new.self.items c.in-Some-2.first
          (subst (λ (xs : List ℕ). All Within xs) (sym c.in_ok-push.ensures.items)
          (All-push Within c.pop.new.self.items c.in-Some-pop.next popped.0 popped.1)) first),
      Grows-then c.args.types.now c.loop-next.types c.inspect.new.types c.loop-next.invariant.1 c.in_ok-first-2.ensures.grown,
      c.in_ok-first-2.ensures.known,
    )
