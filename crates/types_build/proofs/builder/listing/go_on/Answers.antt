use Rattle.std.proofs.Common.{ℕ, ◌≡◌, ◌∙◌, List, Some, length, get_or, ap, sym, subst, rules}
use Rattle.std.proofs.lemmas.Option.{slice_get-get_or}
use Rattle.types_spec.specs.types.Ty.{Ty}
use Rattle.types_spec.specs.types.TypeNodes.{type_at}
use Rattle.types_table.proofs.store.StoreHeldLemmas.{get-map}
use Rattle.types_build.specs.builder.Listed.{types_at, IsListing}
use Rattle.types_build.proofs.builder.ListingLemmas.{next_listed, listed_heads}
use Rattle.types_build.proofs.builder.listing.go_on.Goals as goal

pub returns-clause-is : goal.returns-clause-is
returns-clause-is c t was =
    let listing = c.args.listing.now in
    let k : ℕ = length listing.nodes.items in
    let number = get_or c.as_slice.result.now c.len.result 0 in
    let len : c.len.result ≡ k = search rules in
    let same : get_or listing.met.keys k 0 ≡ number =
    ap (λ (n : ℕ). get_or listing.met.keys n 0) (sym len) ∙ ap (λ (ns : List ℕ). get_or ns c.len.result 0) (sym c.as_slice.ensures.keys) in
    let new = c.write.new.listing in
    subst (λ (met : List Ty). IsListing c.args.decls.now t (length new.nodes.items) met new.nodes.items new.heads.items new.names.items)
    (sym (λ j. types_at (c.write.ensures.types j) (c.write.ensures.met j).keys))
    (next_listed c.args.decls.now t (types_at listing.types listing.met.keys) listing.nodes.items listing.heads.items listing.names.items
    was (type_at listing.types number)
    (get-map (type_at listing.types) listing.met.keys k number (slice_get-get_or listing.met.keys k 0 c.requires.more ∙ ap (λ (n : ℕ). Some n) same))
    (types_at c.entry_of.new.types c.entry_of.new.met.keys) c.in_ok-entry.entry c.in_ok-entry.ensures.ok
    new.nodes.items new.heads.items new.names.items c.in_ok-write.ensures.nodes c.in_ok-write.ensures.heads c.in_ok-write.ensures.names)

pub entry_of-requires-clause-found : goal.entry_of-requires-clause-found
entry_of-requires-clause-found c =
    let listing = c.args.listing.now in
    rw c.as_slice-2.ensures.value
    (listed_heads c.args.decls.now c.requires.listed.0 (length listing.nodes.items) listing.types listing.met.keys listing.nodes.items
    listing.heads.items listing.names.items c.requires.within c.requires.listed.1)
