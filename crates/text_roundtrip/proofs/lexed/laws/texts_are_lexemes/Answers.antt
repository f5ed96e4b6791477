use Rattle.text_roundtrip.specs.lexed.Lexed.{Anything}
use Rattle.text_roundtrip.proofs.lexed.CharLemmas.{char_lexed, string_lexed}
use Rattle.text_roundtrip.proofs.lexed.LexedNumberLemmas.{lexed_bits, lexed_integer}
use Rattle.text_roundtrip.proofs.lexed.laws.texts_are_lexemes.Goals as goal

pub returns : goal.returns
returns c = record {
  strings = λ bytes are. string_lexed Anything bytes are;
  characters = λ b low. char_lexed Anything b low;
  doubles = λ bits low. lexed_bits bits low Anything;
  integers = λ z s range. lexed_integer z s range;
}
