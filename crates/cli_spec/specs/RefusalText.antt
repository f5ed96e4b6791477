-- The texts of refusals: a name, numbers in parentheses, and the position.
use Rattle.std.specs.Prelude.{ℕ, ◌/◌, ◌%◌, List, [], ◌∷◌, ◌++◌, length, flat_map, slice_index}
use Rattle.std.specs.Prelude.{codes, decimal}
use Rattle.std.specs.Fmt.{signed_decimal}
use Rattle.std.specs.Int.{w32, to_be_bytes}
use Rattle.base_data.specs.declared.model.value.Obj.TheVariants as objects
use Rattle.marshal_spec.specs.format.Compat.{TooLargeFor32, token, header}
use Rattle.marshal_spec.specs.format.Token.{integer, block, leaf}
use Rattle.base_data.specs.declared.model.refusal.ReadRefusal.{ReadRefusal}
use Rattle.base_data.specs.declared.model.refusal.ReadRefusal.TheVariants.{BadMagic, Compressed}
use Rattle.base_data.specs.declared.model.refusal.ReadRefusal.TheVariants.{TooLarge}
use Rattle.base_data.specs.declared.model.refusal.ReadRefusal.TheVariants.{BadCode, PointerCode}
use Rattle.base_data.specs.declared.model.refusal.ReadRefusal.TheVariants.{OtherCustom, BadTag}
use Rattle.base_data.specs.declared.model.refusal.ReadRefusal.TheVariants.{BadShared}
use Rattle.base_data.specs.declared.model.refusal.ReadRefusal.TheVariants.{NoTable, BadNative}
use Rattle.base_data.specs.declared.model.refusal.ReadRefusal.TheVariants.{IntRange}
use Rattle.base_data.specs.declared.model.refusal.ReadRefusal.TheVariants.{ZeroArray, Overlong}
use Rattle.base_data.specs.declared.model.refusal.ReadRefusal.TheVariants.{SizeMismatch}
use Rattle.base_data.specs.declared.model.refusal.ReadRefusal.TheVariants.{CountMismatch}
use Rattle.base_data.specs.declared.model.refusal.ReadRefusal.TheVariants.{LengthMismatch, Memory}
use Rattle.base_data.specs.declared.model.refusal.StatedNumber.{StatedNumber}
use Rattle.base_data.specs.declared.model.refusal.StatedNumber.TheVariants.{Words, Length}
use Rattle.base_data.specs.declared.model.refusal.WordSum.{WordSum}
use Rattle.base_data.specs.declared.model.refusal.WordSum.TheVariants.{W32, W64}

-- ---- hexadecimal numbers in lower case

abbrev pub hex_digit : ℕ → ℕ
hex_digit n = slice_index (codes "0123456789abcdef") n

-- The two hexadecimal digits of a byte.
abbrev pub hex_byte : ℕ → List ℕ
hex_byte n = hex_digit (n / 16) ∷ hex_digit (n % 16) ∷ []

-- The eight hexadecimal digits of a 32-bit word.
abbrev pub hex_word : ℕ → List ℕ
hex_word n = flat_map hex_byte (to_be_bytes w32 n)

-- ---- refusals

abbrev pub stated_text : StatedNumber → List ℕ
stated_text Words = codes "words"
stated_text Length = codes "length"

abbrev pub sum_text : WordSum → List ℕ
sum_text W32 = codes "w32"
sum_text W64 = codes "w64"

-- The text of a refusal. Out of memory has no text in this definition, because out of memory is not
-- a refusal of the bytes.
unfoldable pub refusal_text : ReadRefusal → List ℕ
refusal_text (BadMagic magic) = codes "BadMagic(" ++ hex_word magic ++ codes ")"
refusal_text Compressed = codes "Compressed"
refusal_text (TooLarge which stated limit) =
    codes "TooLarge(" ++ stated_text which ++ codes ", " ++ decimal stated ++ codes ", "
    ++ decimal limit ++ codes ")"
refusal_text (BadCode position code) =
    codes "BadCode(" ++ hex_byte code ++ codes ") at " ++ decimal position
refusal_text (PointerCode position code) =
    codes "PointerCode(" ++ hex_byte code ++ codes ") at " ++ decimal position
refusal_text (OtherCustom position code) =
    codes "OtherCustom(" ++ hex_byte code ++ codes ") at " ++ decimal position
refusal_text (BadTag position tag) =
    codes "BadTag(" ++ decimal tag ++ codes ") at " ++ decimal position
refusal_text (BadShared position offset have) =
    codes "BadShared(" ++ decimal offset ++ codes ", " ++ decimal have ++ codes ") at "
    ++ decimal position
refusal_text (NoTable position) = codes "NoTable at " ++ decimal position
refusal_text (BadNative position kind) =
    codes "BadNative(" ++ decimal kind ++ codes ") at " ++ decimal position
refusal_text (IntRange position value) =
    codes "IntRange(" ++ signed_decimal value ++ codes ") at " ++ decimal position
refusal_text (ZeroArray position) = codes "ZeroArray at " ++ decimal position
refusal_text (Overlong position need left) =
    codes "Overlong(" ++ decimal need ++ codes ", " ++ decimal left ++ codes ") at "
    ++ decimal position
refusal_text (SizeMismatch position which stated found) =
    codes "SizeMismatch(" ++ sum_text which ++ codes ", " ++ decimal stated ++ codes ", "
    ++ decimal found ++ codes ") at " ++ decimal position
refusal_text (CountMismatch position stated found) =
    codes "CountMismatch(" ++ decimal stated ++ codes ", " ++ decimal found ++ codes ") at "
    ++ decimal position
refusal_text (LengthMismatch position left) =
    codes "LengthMismatch(" ++ decimal left ++ codes ") at " ++ decimal position
refusal_text Memory = []

-- The text of an input that ended after `taken` bytes of a value.
abbrev pub truncated_text : ℕ → List ℕ
truncated_text taken = codes "Truncated(" ++ decimal taken ++ codes ")"

-- The text for an item that is too large for a 32-bit reader. Items of other kinds are never too
-- large.
abbrev pub compat_text : TooLargeFor32 → List ℕ
compat_text (token (integer z)) = codes "Compat(int, " ++ signed_decimal z ++ codes ")"
compat_text (token (block tag size)) = codes "Compat(block, " ++ decimal size ++ codes ")"
compat_text (token (leaf (objects.Bytes bytes))) =
    codes "Compat(string, " ++ decimal (length bytes) ++ codes ")"
compat_text (token (leaf (objects.Native z))) =
    codes "Compat(nativeint, " ++ signed_decimal z ++ codes ")"
compat_text (token (leaf (objects.Doubles all))) =
    codes "Compat(floats, " ++ decimal (length all) ++ codes ")"
compat_text (header n) = codes "Compat(header, " ++ decimal n ++ codes ")"
compat_text large = []
