use Rattle.std.proofs.Common.{refl}
use Rattle.text_pretty.proofs.laws.pretty_of_worked_texts.Goals as goal

pub returns : goal.returns
returns c = record {
  short_list = (refl, refl);
  empty_list = (refl, refl);
  long_list = (refl, refl);
  fields = (refl, refl);
  variants = (refl, refl);
  labels = (refl, refl);
  array = (refl, refl);
  room = (refl, refl);
  no_room = (refl, refl);
  word = (refl, refl);
}
