use Rattle.std.proofs.Common.{◌∙◌, ap, List, ℕ, nat_eq}
use Rattle.indexmap.specs.IndexSet.{insert_key}
use Rattle.types_build.proofs.builder.ListingLemmas.{first_types}
use Rattle.types_build.proofs.builder.listing.started.Goals as goal

pub returns-clause-is : goal.returns-clause-is
returns-clause-is c decls =
    first_types decls c.args.ty.now c.add.new.self c.in_ok-number.number c.position.new.met.keys
    c.new.result.items c.new-2.result.items c.new-3.result.items
    c.in_ok-number.ensures.ok.there
    (c.in_ok-position.ensures.met ∙ ap (λ (ns : List ℕ). insert_key nat_eq ns c.in_ok-number.number) c.new-met.ensures.empty)
    c.new.ensures.items c.new-2.ensures.items c.new-3.ensures.items
