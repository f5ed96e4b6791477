use Rattle.std.proofs.Common.{◌∙◌, sym, arith, None}
use Rattle.std.proofs.lemmas.Result.{IfOk-weaker}
use Rattle.types_spec.specs.types.TypeNodes.{type_at}
use Rattle.types_build.specs.representation.Tags.{tags_at, tags_of_entries}
use Rattle.types_build.proofs.representation.RepresentationSettledLemmas.{settled_each, settled_among, each_led, led_work}
use Rattle.types_build.proofs.representation.settled_abbreviations.is_there.Goals as goal

pub returns-in-Some-clause-there : goal.returns-in-Some-clause-there
returns-in-Some-clause-there c = λ is settled are.
    let decls = c.args.decls.now in
    let types = c.args.t.now.types.now in
    let there = tags_at types (tags_of_entries c.args.tags.now.entries) in
    let end = type_at types c.in_ok-number.number in (
      are,
      each_led decls there c.holds.ensures (type_at types c.args.t.now.number) end (c.in_ok-number.ensures.leads None c.requires.known)
          (settled_each decls there end c.in-Some.decl c.in-Some.ensures
          (settled_among decls there c.args.settled.now.keys c.in-Some.decl settled (sym c.contains.ensures ∙ is))),
    )

pub returns-in-None-clause-there : goal.returns-in-None-clause-there
returns-in-None-clause-there c =
    let decls = c.args.decls.now in
    let types = c.args.t.now.types.now in
    let there = tags_at types (tags_of_entries c.args.tags.now.entries) in
    IfOk-weaker c.items_are_there.result _ _
    (λ are items is settled waits.
    let both = items is decls c.holds.ensures waits in (
      both.0,
      each_led decls there c.holds.ensures (type_at types c.args.t.now.number) (type_at types c.in_ok-number.number)
          (c.in_ok-number.ensures.leads None c.requires.known) both.1,
    ))
    c.items_are_there.ensures.there

pub returns-in-None-clause-less : goal.returns-in-None-clause-less
returns-in-None-clause-less c =
    let decls = c.args.decls.now in
    let types = c.args.t.now.types.now in
    let led = led_work decls c.holds.ensures (type_at types c.args.t.now.number) (type_at types c.in_ok-number.number)
    (c.in_ok-number.ensures.leads None c.requires.known) in
    IfOk-weaker c.items_are_there.result _ _
    (λ are less is.
    let more = less is decls c.holds.ensures in
    omega (arith, more, led))
    c.items_are_there.ensures.less
