use Rattle.std.proofs.Common.{◌≡◌, Some, None, ap, position, sym, ◌∙◌}
use Rattle.base_io.proofs.Lookup.{is_named, found_at, not_found}
use Rattle.base_io.proofs.memory.MemFilesOpener.fetch.Goals as goal

pub returns-in-Some-clause-opened : goal.returns-in-Some-clause-opened
returns-in-Some-clause-opened c =
    let pairs = c.self.inside.pairs.items in
    let name = c.args.name.now in
    let at : position (is_named name) pairs ≡ Some c.in-Some.field-0 =
    ap (position (is_named name)) (sym c.deref.ensures.value) ∙ sym c.index_of-self-inside.ensures ∙ c.in-Some.is in
    let found = found_at pairs name c.in-Some.field-0 at in
    rw (← c.self.view_is, c.in-Some.is) record { found = rw found.1; whole = sym found.1 }

pub returns-clause-missing : goal.returns-clause-missing
returns-clause-missing c = λ _.
    let pairs = c.self.inside.pairs.items in
    let name = c.args.name.now in
    let at : position (is_named name) pairs ≡ None =
    ap (position (is_named name)) (sym c.deref.ensures.value) ∙ sym c.index_of-self-inside.ensures ∙ c.in-None.is in
    rw (← c.self.view_is) (not_found pairs name at)
