use Rattle.std.proofs.lemmas.Option.{slice_get_within}
use Rattle.types_spec.specs.types.Table.{head_at}
use Rattle.types_theory.proofs.equality.ClassLemmas.{stable_is_equal}
use Rattle.types_theory.proofs.equality.EqualityNumberLemmas.{types_equal, numbers_equal, parts_below}
use Rattle.types_theory.proofs.equality.classes.classes_are_of_equal_types.Goals as goal

pub returns-clause-parts : goal.returns-clause-parts
returns-clause-parts c decls types all are i k below part =
    parts_below decls types all are i k below part

pub returns-clause-numbers : goal.returns-clause-numbers
returns-clause-numbers c decls types all are i j t u is is' = (
  types_equal decls types all are i j t u is is',
  numbers_equal decls types all are i j t u is
      is',
)

pub returns-clause-classes : goal.returns-clause-classes
returns-clause-classes c decls types all class are stable keeps i j t u is is' =
    let below = slice_get_within types i t is in
    let below' = slice_get_within types j u is' in (
      λ same. types_equal decls types all are i j t u is is'
          (stable_is_equal _ (head_at all) class stable i j (record {
            first = below;
            second = below';
            same = same;
          })),
      λ equal. (keeps i j below below' (numbers_equal decls types all are i j t u is is'
          equal)).same,
    )
