-- The contributions of tokens to the numbers of a value's header.
use Rattle.std.specs.Prelude.{ℕ, ◌+◌, ◌<◌, ◌^◌, List, length, map}
use Rattle.base_data.specs.declared.model.code.Measure.{Measure}
use Rattle.base_data.specs.declared.model.code.Measure.TheVariants as measures
use Rattle.base_data.specs.declared.model.code.Custom.{Custom}
use Rattle.base_data.specs.declared.model.code.Custom.TheVariants as customs
use Rattle.base_data.specs.declared.model.header.Head.{Head}
use Rattle.marshal_spec.specs.format.Words.{of_object, words32, words64, objects, all_words32}
use Rattle.marshal_spec.specs.format.Words.{all_words64}
use Rattle.marshal_spec.specs.format.Token.{Token, measure_of}
use Rattle.marshal_spec.specs.format.Tree.{made_by}
use Rattle.marshal_spec.specs.format.Canonical.{encoding, data_encoding, is_big}
use Rattle.marshal_write.specs.declared.write.measure.WriteTotals.{WriteTotals}

-- The totals of one token: its bytes, its objects and their words.
abbrev pub token_totals : Token → WriteTotals
token_totals t = record {
  length = length (encoding t);
  objects = made_by t;
  w32 = of_object words32 (measure_of t);
  w64 = of_object words64 (measure_of t);
}

-- The totals of a list of tokens.
abbrev pub totals_of : List Token → WriteTotals
totals_of ts = record {
  length = length (data_encoding ts);
  objects = objects (map measure_of ts);
  w32 = all_words32 (map measure_of ts);
  w64 = all_words64 (map measure_of ts);
}

abbrev pub plus : WriteTotals → WriteTotals → WriteTotals
plus a b = record {
  length = a.length + b.length;
  objects = a.objects + b.objects;
  w32 = a.w32 + b.w32;
  w64 = a.w64 + b.w64;
}

-- Each number of the totals fits in 64 bits.
pub record FitTotals (all : WriteTotals) : Type 0 where
  pub length : all.length < 2 ^ 64
  pub objects : all.objects < 2 ^ 64
  pub w32 : all.w32 < 2 ^ 64
  pub w64 : all.w64 < 2 ^ 64

-- The totals of a token that creates one object and has `n` bytes.
abbrev pub object_totals : ℕ → Measure → WriteTotals
object_totals n measure =
    record { length = n; objects = 1; w32 = words32 measure; w64 = words64 measure }

abbrev pub head_of_totals : WriteTotals → Head
head_of_totals all = record {
  big = is_big all.length all.w32 all.w64;
  length = all.length;
  objects = all.objects;
  w32 = all.w32;
  w64 = all.w64;
}

abbrev pub measure_of_custom : Custom → Measure
measure_of_custom (customs.I32 z) = measures.Custom 4 4
measure_of_custom (customs.I64 z) = measures.Custom 8 8
measure_of_custom (customs.Native z) = measures.Custom 4 8
