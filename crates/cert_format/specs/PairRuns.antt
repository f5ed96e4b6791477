-- Consecutive pair lines.
use Rattle.std.specs.Prelude.{ℕ, ◌+◌, ◌*◌, ◌^◌, ◌≡◌, ◌<◌, ◌≤◌, List, [], ◌∷◌, ◌++◌, length, map}
use Rattle.std.specs.Prelude.{drop}
use Rattle.std.specs.Prelude.{All, slice_index, codes, decimal}
use Rattle.std.specs.Int.{w64, from_le_bytes}
use Rattle.cert_format.specs.declared.certificate_reader.CertificateReading.{CertificateReading}
use Rattle.cert_format.specs.CertificateNumbers.{IsNumber}
use Rattle.cert_format.specs.Format.{pair_line, text_of}
use Rattle.cert_format.specs.CertificateReading.{AreNumbers, lines_read, IsReading}

-- The bytes begin with the line of the pair.
pub record IsFirstPair (text : List ℕ) (pair : ℕ × ℕ) (rest : List ℕ) : Type 0 where
  pub numbers : AreNumbers pair
  pub encoded : text ≡ pair_line pair ++ 10 ∷ rest

-- The bytes begin with the number of a type and the line feed that ends the pair line.
pub record IsPairEnd (text : List ℕ) (type : ℕ) (rest : List ℕ) : Type 0 where
  pub number : IsNumber type
  pub encoded : text ≡ decimal type ++ 10 ∷ rest

-- The bytes are a stem: each line of a pair whose object is `tens` plus a digit begins with these
-- bytes.
pub record IsStem (bytes : List ℕ) (tens : ℕ) : Type 0 where
  pub many : 8 ≤ length bytes
  pub few : length bytes ≤ 16
  pub number : ℕ
  pub some : 0 < number
  pub small : number < 10 ^ 17
  pub times : tens ≡ 10 * number
  pub encoded : bytes ≡ codes "pair " ++ decimal number

-- The eight bytes from position `position`.
abbrev pub eight_from : List ℕ → ℕ → List ℕ
eight_from bytes position =
    slice_index bytes position ∷ slice_index bytes (position + 1) ∷ slice_index bytes (position + 2)
    ∷ slice_index bytes (position + 3) ∷ slice_index bytes (position + 4)
    ∷ slice_index bytes (position + 5)
    ∷ slice_index bytes (position + 6) ∷ slice_index bytes (position + 7) ∷ []

-- The eight bytes from position `position` as a little-endian 64-bit word.
unfoldable pub word_of : List ℕ → ℕ → ℕ
word_of bytes position = from_le_bytes w64 (eight_from bytes position)

-- The text begins with these lines. `many` is their number, and `taken` is their length in bytes.
pub record BeginsWithLines (text : List ℕ) (lines : List (List ℕ)) (many taken : ℕ)
    : Type 0 where
  pub counted : many ≡ length lines
  pub within : taken ≤ length text
  pub few : many ≤ taken
  pub encoded : text ≡ text_of lines ++ drop taken text

-- `longer` is `pairs` with more pairs, whose lines are at the start of the text.
pub record HasMorePairs (pairs : List (ℕ × ℕ)) (text : List ℕ) (longer : List (ℕ × ℕ))
    (many taken : ℕ) : Type 0 where
  pub added : List (ℕ × ℕ)
  pub is : longer ≡ pairs ++ added
  pub numbers : All AreNumbers longer
  pub begins : BeginsWithLines text (map pair_line added) many taken

-- `next` is the state after some lines at the start of the text.
pub record HasReadMore (reading : CertificateReading) (text : List ℕ) (next : CertificateReading)
    (many taken : ℕ)
    : Type 0 where
  pub is : IsReading next
  pub lines : List (List ℕ)
  pub read : lines_read next ≡ lines_read reading ++ lines
  pub begins : BeginsWithLines text lines many taken
