-- The size of a token's object, by the token's bytes.
use Rattle.std.proofs.Common.{ℕ, zero, suc, ◌≡◌, ◌+◌, ◌*◌, ◌/◌, ◌^◌, ◌<◌, ◌≤◌, List, take, Option, Some, None, Result, Ok, Err, arith, get_or, subst, length, [], ◌∷◌}
use Rattle.std.specs.Option.{ForSome}
use Rattle.base_data.specs.declared.model.code.CodeKind.{CodeKind}
use Rattle.base_data.specs.declared.model.code.CodeKind.TheVariants as kinds
use Rattle.base_data.specs.declared.model.code.CodeFault.{CodeFault}
use Rattle.base_data.specs.declared.model.code.CustomKind.{CustomKind}
use Rattle.base_data.specs.declared.model.code.CustomKind.TheVariants as customs
use Rattle.base_data.specs.declared.model.code.Measure.{Measure}
use Rattle.base_data.specs.declared.model.code.Measure.TheVariants as measures
use Rattle.std.specs.Int.{w64, from_le_bytes, from_be_bytes}
use Rattle.base_data.specs.model.Bytes.{number, little_number}
use Rattle.marshal_spec.specs.format.Code.{kind_of, custom_of}
use Rattle.marshal_spec.specs.format.Raw.{fixed_bytes, variable_bytes, measure_after, block_measure, custom_measure, custom_bytes, length_after, measure_from, raw_length, raw_measure}
use Rattle.marshal_spec.specs.format.Words.{of_object, fields, words32, words64}
use Rattle.marshal_codec.specs.headers.Counting.{IsCountable}
use Rattle.marshal_read.specs.Totals.{AreFew}

-- ---- a small measure

AreSmall : Option Measure → Type 0
AreSmall None = Unit {0}
AreSmall (Some m) = IsCountable m

for_some : (measure : Option Measure) → AreSmall measure → ForSome measure IsCountable
unfolding AreSmall
for_some None h m e = cc
for_some (Some x) h m e = let same : x ≡ m = cc in subst IsCountable same h

small_block : (n : ℕ) → of_object fields (block_measure n) < 2 ^ 60 → AreSmall (block_measure n)
unfolding AreSmall
small_block zero h = tt
small_block (suc n) h = h

small_custom : (custom : Option CustomKind) → AreSmall (custom_measure custom)
unfolding AreSmall
small_custom None = tt
small_custom (Some customs.Int32) = (omega arith, omega arith)
small_custom (Some customs.Int64) = (omega arith, omega arith)
small_custom (Some customs.Native) = (omega arith, omega arith)

are_small : (kind : CodeKind) (rest : List ℕ) → variable_bytes kind rest < 2 ^ 60 → of_object fields (measure_after kind rest) < 2 ^ 60 → AreSmall (measure_after kind rest)
unfolding AreSmall
are_small (kinds.SmallBlock tag size) rest v f = small_block size f
are_small (kinds.SmallInt n) rest v f = tt
are_small (kinds.SmallString n) rest v f = v
are_small (kinds.Int width) rest v f = tt
are_small (kinds.Shared width) rest v f = tt
are_small (kinds.Block width) rest v f = small_block (number (take width rest) / 1024) f
are_small (kinds.Str width) rest v f = v
are_small (kinds.Double little) rest v f = tt
are_small (kinds.Doubles width little) rest v f = omega arith
are_small (kinds.Custom old) rest v f = small_custom (custom_of (take 3 rest))

-- If a token has few bytes and few fields, then the token's object is small.
pub measure_small : (kind : CodeKind) (rest : List ℕ) → variable_bytes kind rest < 2 ^ 60 → of_object fields (measure_after kind rest) < 2 ^ 60 → ForSome (measure_after kind rest) IsCountable
measure_small kind rest v f = for_some (measure_after kind rest) (are_small kind rest v f)

-- ---- words

-- An upper bound of an object's words on 32 and on 64 bits.
abbrev pub most_words : Measure → ℕ
most_words (measures.Block n) = 1 + n
most_words (measures.Bytes n) = 1 + (n + 4) / 4
most_words measures.Double = 3
most_words (measures.Doubles n) = 1 + 2 * n
most_words (measures.Custom a b) = 2 + (a + b + 7) / 4

-- The number of words is at most `most_words`, as on 32 bits and on 64 bits.
abbrev pub AreWords : (Measure → ℕ) → Type 0
AreWords words = (m : Measure) → words m ≤ most_words m

pub words32-within : AreWords words32
words32-within (measures.Block n) = omega arith
words32-within (measures.Bytes n) = omega arith
words32-within measures.Double = omega arith
words32-within (measures.Doubles n) = omega arith
words32-within (measures.Custom a b) = omega arith

pub words64-within : AreWords words64
words64-within (measures.Block n) = omega arith
words64-within (measures.Bytes n) = omega arith
words64-within measures.Double = omega arith
words64-within (measures.Doubles n) = omega arith
words64-within (measures.Custom a b) = omega arith

-- A small object has fewer than 2 ^ 62 words.
pub words-small : (m : Measure) → IsCountable m → most_words m < 2 ^ 62
words-small (measures.Block n) h = omega arith
words-small (measures.Bytes n) h = omega arith
words-small measures.Double h = omega arith
words-small (measures.Doubles n) h = omega arith
words-small (measures.Custom a b) h = omega arith

-- ---- words compared with bytes

few_block : (n k : ℕ) → AreFew most_words (block_measure n) (1 + k)
few_block zero k = omega arith
few_block (suc n) k = omega arith

few_custom : (custom : Option CustomKind) (kind : ℕ) → AreFew most_words (custom_measure custom) (1 + 3 + custom_bytes custom kind)
few_custom None kind = omega arith
few_custom (Some customs.Int32) kind = omega arith
few_custom (Some customs.Int64) kind = omega arith
few_custom (Some customs.Native) kind = omega arith

few_most : (kind : CodeKind) (rest : List ℕ) → AreFew most_words (measure_after kind rest) (1 + fixed_bytes kind + variable_bytes kind rest)
few_most (kinds.SmallBlock tag size) rest = few_block size 0
few_most (kinds.SmallInt n) rest = omega arith
few_most (kinds.SmallString n) rest = omega arith
few_most (kinds.Int width) rest = omega arith
few_most (kinds.Shared width) rest = omega arith
few_most (kinds.Block width) rest = let h = few_block (number (take width rest) / 1024) width in omega arith
few_most (kinds.Str width) rest = omega arith
few_most (kinds.Double little) rest = omega arith
few_most (kinds.Doubles width little) rest = omega arith
few_most (kinds.Custom old) rest = few_custom (custom_of (take 3 rest)) (get_or rest 3 0)

few_by : (words : Measure → ℕ) (measure : Option Measure) (n : ℕ) → AreWords words → AreFew most_words measure n → AreFew words measure n
few_by words None n w f = f
few_by words (Some m) n w f = omega (arith, w m)

pub few_words32 : (kind : CodeKind) (rest : List ℕ) → AreFew words32 (measure_after kind rest) (1 + fixed_bytes kind + variable_bytes kind rest)
few_words32 kind rest = few_by words32 (measure_after kind rest) _ words32-within (few_most kind rest)

pub few_words64 : (kind : CodeKind) (rest : List ℕ) → AreFew words64 (measure_after kind rest) (1 + fixed_bytes kind + variable_bytes kind rest)
few_words64 kind rest = few_by words64 (measure_after kind rest) _ words64-within (few_most kind rest)

-- ---- a token that bytes begin with

few_from : (words : Measure → ℕ) → ((kind : CodeKind) (rest : List ℕ) → AreFew words (measure_after kind rest) (1 + fixed_bytes kind + variable_bytes kind rest))
    → (r : Result CodeKind CodeFault) (rest : List ℕ) → AreFew words (measure_from r rest) (1 + length_after r rest)
few_from words each (Ok kind) rest = omega (arith, each kind rest)
few_from words each (Err fault) rest = omega arith

pub raw_few32 : (bytes : List ℕ) → AreFew words32 (raw_measure bytes) (raw_length bytes)
raw_few32 [] = omega arith
raw_few32 (code ∷ rest) = few_from words32 few_words32 (kind_of code) rest

pub raw_few64 : (bytes : List ℕ) → AreFew words64 (raw_measure bytes) (raw_length bytes)
raw_few64 [] = omega arith
raw_few64 (code ∷ rest) = few_from words64 few_words64 (kind_of code) rest

none_counts : ForSome None IsCountable
none_counts m e = cc

small_from : (r : Result CodeKind CodeFault) (rest : List ℕ) → 1 + length_after r rest < 2 ^ 60 → of_object fields (measure_from r rest) < 2 ^ 60 → ForSome (measure_from r rest) IsCountable
small_from (Ok kind) rest short few = measure_small kind rest (omega (arith, short)) few
small_from (Err fault) rest short few = none_counts

pub raw_small : (bytes : List ℕ) → raw_length bytes < 2 ^ 60 → of_object fields (raw_measure bytes) < 2 ^ 60 → ForSome (raw_measure bytes) IsCountable
raw_small [] short few = none_counts
raw_small (code ∷ rest) short few = small_from (kind_of code) rest short few

-- ---- eight bytes

-- The machine's number of eight bytes is the number of the model, in the given byte order.
pub little_eight : (bytes : List ℕ) → length bytes ≡ 8 → from_le_bytes w64 bytes ≡ little_number bytes
little_eight (a ∷ b ∷ c ∷ d ∷ e ∷ f ∷ g ∷ h ∷ []) e8 = omega arith
little_eight [] e8 = absurd (omega arith)
little_eight (a ∷ []) e8 = absurd (omega arith)
little_eight (a ∷ b ∷ []) e8 = absurd (omega arith)
little_eight (a ∷ b ∷ c ∷ []) e8 = absurd (omega arith)
little_eight (a ∷ b ∷ c ∷ d ∷ []) e8 = absurd (omega arith)
little_eight (a ∷ b ∷ c ∷ d ∷ e ∷ []) e8 = absurd (omega arith)
little_eight (a ∷ b ∷ c ∷ d ∷ e ∷ f ∷ []) e8 = absurd (omega arith)
little_eight (a ∷ b ∷ c ∷ d ∷ e ∷ f ∷ g ∷ []) e8 = absurd (omega arith)
little_eight (a ∷ b ∷ c ∷ d ∷ e ∷ f ∷ g ∷ h ∷ x ∷ xs) e8 = absurd (omega arith)

pub big_eight : (bytes : List ℕ) → length bytes ≡ 8 → from_be_bytes w64 bytes ≡ number bytes
big_eight (a ∷ b ∷ c ∷ d ∷ e ∷ f ∷ g ∷ h ∷ []) e8 = omega arith
big_eight [] e8 = absurd (omega arith)
big_eight (a ∷ []) e8 = absurd (omega arith)
big_eight (a ∷ b ∷ []) e8 = absurd (omega arith)
big_eight (a ∷ b ∷ c ∷ []) e8 = absurd (omega arith)
big_eight (a ∷ b ∷ c ∷ d ∷ []) e8 = absurd (omega arith)
big_eight (a ∷ b ∷ c ∷ d ∷ e ∷ []) e8 = absurd (omega arith)
big_eight (a ∷ b ∷ c ∷ d ∷ e ∷ f ∷ []) e8 = absurd (omega arith)
big_eight (a ∷ b ∷ c ∷ d ∷ e ∷ f ∷ g ∷ []) e8 = absurd (omega arith)
big_eight (a ∷ b ∷ c ∷ d ∷ e ∷ f ∷ g ∷ h ∷ x ∷ xs) e8 = absurd (omega arith)
