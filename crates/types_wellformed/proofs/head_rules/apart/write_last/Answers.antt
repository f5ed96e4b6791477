use Rattle.std.proofs.Common.{◌<◌, length, arith}
use Rattle.types_wellformed.proofs.head_rules.HeadRuleApartLemmas.{known_true, tag_listed, tag_of_listed, other_listed}
use Rattle.types_wellformed.proofs.head_rules.apart.write_last.Goals as goal

pub returns-in_ok-write_item-in-Tag : goal.returns-in_ok-write_item-in-Tag
returns-in_ok-write_item-in-Tag c = λ _ each.
    tag_listed c.args.t.now.types.now c.args.items.now c.write_item.new.items c.args.t.now.number c.in-Tag.field-0 c.in-Tag.name.now
    c.in-Tag.ensures.is c.in-Tag.ensures.below c.in_ok-write_item-in-Tag.ensures each

pub returns-in_ok-write_item-in-TagOf : goal.returns-in_ok-write_item-in-TagOf
returns-in_ok-write_item-in-TagOf c = λ known each.
    let below : c.in-TagOf.argument < c.args.t.now.number = c.in-TagOf.ensures.below.1 in
    let inside : c.in-TagOf.argument < length c.args.t.now.types.now = omega arith in
    let within : c.in-TagOf.argument < length c.args.known.now = omega arith in
    tag_of_listed c.args.t.now.types.now c.args.items.now c.write_item-in-TagOf.new.items c.args.t.now.number c.in-TagOf.field-0
    c.in-TagOf.argument c.in-TagOf.name.now c.in-TagOf.ensures.is c.in-TagOf.ensures.below.0 inside
    c.in_ok-write_item-in-TagOf.ensures
    (known_true c.args.t.now.types.now c.args.known.now c.in-TagOf.argument c.requires.known within known) each

pub returns-in_default : goal.returns-in_default
returns-in_default c = λ _ each.
    other_listed c.args.t.now.types.now c.args.items.now c.args.t.now.number c.node.result c.node.ensures.is c.node.ensures.below
    c.in_default.not-Tag c.in_default.not-TagOf each
