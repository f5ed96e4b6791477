use Rattle.std.proofs.Common.{None}
use Rattle.std.proofs.lemmas.Option.{none-some}
use Rattle.types_build.proofs.representation.RepresentationKnownLemmas.{known_added}
use Rattle.types_build.proofs.representation.known_abbreviations.first_inspect.Goals as goal

pub returns-clause-known : goal.returns-clause-known
returns-clause-known c = λ decls group below known.
    known_added decls group c.args.known.now c.insert.new.self c.args.decl None known below c.insert.ensures.unique
    c.in_ok-insert.ensures.entries c.in_ok-insert.ensures.updates (λ i decl is there. absurd (none-some i is))
