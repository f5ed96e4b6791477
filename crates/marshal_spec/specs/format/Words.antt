-- The sizes of objects in words (`extern.c`). Divisions round down.
use Rattle.std.specs.Prelude.{ℕ, ◌+◌, ◌-◌, ◌*◌, ◌/◌, List, Option, Some, None, sum_by, length}
use Rattle.base_data.specs.declared.model.code.Measure.{Measure}
use Rattle.base_data.specs.declared.model.code.Measure.TheVariants.{Block, Bytes, Double, Doubles}
use Rattle.base_data.specs.declared.model.code.Measure.TheVariants.{Custom}

-- The number of words of an object on 32 bits, including the header word.
abbrev pub words32 : Measure → ℕ
words32 (Block n) = 1 + n
words32 (Bytes n) = 1 + (n + 4) / 4
words32 Double = 3
words32 (Doubles n) = 1 + 2 * n
words32 (Custom a b) = 2 + (a + 3) / 4

-- The number of words of an object on 64 bits, including the header word.
abbrev pub words64 : Measure → ℕ
words64 (Block n) = 1 + n
words64 (Bytes n) = 1 + (n + 8) / 8
words64 Double = 2
words64 (Doubles n) = 1 + n
words64 (Custom a b) = 2 + (b + 7) / 8

-- The number of values that follow the token of a block as its fields.
abbrev pub fields : Measure → ℕ
fields (Block n) = n
fields (Bytes n) = 0
fields Double = 0
fields (Doubles n) = 0
fields (Custom a b) = 0

-- The number `f` of the object that a token makes, or 0 if the token makes no object.
abbrev pub of_object : (Measure → ℕ) → Option Measure → ℕ
of_object f None = 0
of_object f (Some m) = f m

-- The number of objects that the tokens make, by the measures of the tokens.
abbrev pub objects : List (Option Measure) → ℕ
objects tokens = sum_by (of_object (λ _. 1)) tokens

abbrev pub all_words32 : List (Option Measure) → ℕ
all_words32 tokens = sum_by (of_object words32) tokens

abbrev pub all_words64 : List (Option Measure) → ℕ
all_words64 tokens = sum_by (of_object words64) tokens

-- The number of values still expected after the tokens. Before any token, one value is expected.
-- Each token is one expected value, and adds its fields.
abbrev pub pending : List (Option Measure) → ℕ
pending tokens = (1 + sum_by (of_object fields) tokens) - length tokens

-- The sums over tokens: the objects, the values still expected, and the words on 32 and on 64 bits.
pub record Sums : Type 0 where
  pub objects : ℕ
  pub pending : ℕ
  pub w32 : ℕ
  pub w64 : ℕ

abbrev pub sums_of : List (Option Measure) → Sums
sums_of tokens =
    record {
      objects = objects tokens;
      pending = pending tokens;
      w32 = all_words32 tokens;
      w64 = all_words64 tokens;
    }

-- The sums after one more token with the measure `m`, which is one of the expected values.
abbrev pub one_more : Sums → Option Measure → Sums
one_more sums m = record {
  objects = sums.objects + of_object (λ _. 1) m;
  pending = sums.pending - 1 + of_object fields m;
  w32 = sums.w32 + of_object words32 m;
  w64 = sums.w64 + of_object words64 m;
}
