use Rattle.std.specs.Prelude.{Contains}
use Rattle.types_spec.specs.types.Shape.{shape}
use Rattle.types_spec.specs.types.Names.{names_of}
use Rattle.types_spec.specs.types.Equal.{Equal}
use Rattle.types_theory.proofs.equality.EqualityLawfulLemmas.{reached_lawful}
use Rattle.types_theory.proofs.equality.EqualityReachedLemmas.{root_listed}
use Rattle.types_theory.proofs.equality.EqualitySoundLemmas.{known_by_hash}
use Rattle.trees.proofs.search_trees.SearchTreeAgreeLemmas.{tree_too}
use Rattle.trees.proofs.search_trees.SearchTreeSoundLemmas.{sound_is_ordered, ordered_is_sound}
use Rattle.trees.proofs.search_trees.laws.sound_trees_are_search_trees.Goals as goal

pub returns : goal.returns
returns c decls t types well sound reached graph root has =
    let known = known_by_hash decls well t sound types reached in
    let lawful = reached_lawful decls well.sound t types reached known in
    let agree = tree_too decls well.sound t types reached known in
    let listed = root_listed decls t types reached in (
      sound_is_ordered (shape decls) (names_of decls) (Equal decls) (λ u. Contains types u) lawful agree graph root t listed has,
      ordered_is_sound (shape decls) (names_of decls) (Equal decls) (λ u. Contains types u) lawful agree graph root t listed,
    )
