use Rattle.std.proofs.Common.{refl}
use Rattle.types_spec.specs.types.Declarations.{predeclared}
use Rattle.types_spec.specs.types.Predeclared.{sum_at, name_at}
use Rattle.types_spec.specs.types.Head.{head}
use Rattle.text_literal.proofs.parser.laws.worked_literals_fit.Goals as goal

pub returns : goal.returns
unfolding head predeclared sum_at name_at
returns c = record {
  one_item = refl;
  cyclic = refl;
  shared = refl;
  wrong_number = refl;
  used_before = refl;
  labelled_integer = refl;
  labelled_mismatch = refl;
  greatest = refl;
  too_great = refl;
  too_small = refl;
  another_form = refl;
  first_part = refl;
  two_of_three = refl;
  int32 = refl;
  no_suffix = refl;
  int32_range = refl;
  int64 = refl;
  native = refl;
  float = refl;
  floats = refl;
  no_float = refl;
  labelled_float = refl;
  flat = refl;
  fields = refl;
  other_order = refl;
  constant = refl;
  two = refl;
  inline = refl;
  no_inline = refl;
  some = refl;
  bare = refl;
  carrying = refl;
  array = refl;
  empty = refl;
  labelled_atom = refl;
  variable = refl;
  two_objects = refl;
  nested = refl;
  two_labels = refl;
  shared_string = refl;
  another_type = refl;
  label_twice = refl;
  labelled_range = refl;
  number_before_form = refl;
  one_of_two = refl;
  too_many = refl;
  tag_with_two = refl;
  tag_alone = refl;
  tuple_for_record = refl;
  least = refl;
  least_int32 = refl;
  later_field = refl;
  used_in_floats = refl;
  labelled_flat = refl;
  items_of_variable = refl;
  none_of_variable = refl;
}
