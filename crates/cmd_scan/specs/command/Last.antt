-- The byte that decides what some bytes begin with.
use Rattle.std.specs.Prelude.{ℕ, ◌<◌, ◌≤◌, ◌≡◌, ◌≢◌, Bool, true, false, List, [], ◌∷◌, ◌++◌, length}
use Rattle.std.specs.Prelude.{take, Result, Ok, Err}
use Rattle.base_data.specs.declared.model.refusal.ReadRefusal.{ReadRefusal}
use Rattle.base_data.specs.declared.model.refusal.ReadRefusal.TheVariants as refusals
use Rattle.marshal_spec.specs.format.Prefix.{IsPrefix}
use Rattle.marshal_read.specs.declared.reader.Reader.{Reader}
use Rattle.marshal_read.specs.Reader.{IsReader, IsDone, LeadsReader}
use Rattle.cmd_scan.specs.declared.command.last.TakenBytes.{TakenBytes}

-- The last of the bytes decides what the bytes begin with.
pub record IsDecided (limit : ℕ) (bytes : List ℕ) : Type 0 where
  pub none : IsPrefix limit bytes → ⊥
  pub prefix : List ℕ
  pub last : ℕ
  pub bytes_are : bytes ≡ prefix ++ last ∷ []
  pub before : IsPrefix limit prefix

-- The refusal is not that memory ran out, so the bytes are decided and `goes_on` is false.
abbrev pub IsRefusal : ReadRefusal → Bool → Type 0
IsRefusal refusal goes_on = (goes_on ≡ false) × (refusal ≢ refusals.Memory)

-- The result of taking one byte. If it is true, the bytes are still a prefix of a value, and the
-- reader has taken them. If it is false, the byte decides what the bytes begin with. If it is an
-- error, memory ran out.
abbrev pub TakesByte : {E : Type 0} → ℕ → List ℕ → List ℕ → Reader → Result Bool E → Type 0
TakesByte limit taken byte new (Ok true) =
    IsReader new × LeadsReader limit (taken ++ byte) new × IsPrefix limit (taken ++ byte)
TakesByte limit taken byte new (Ok false) = IsDecided limit (taken ++ byte)
TakesByte limit taken byte new (Err e) = Unit {0}

-- The first `n` bytes of the chunk decide what the bytes begin with, or memory ran out.
abbrev pub FindsLast : {E : Type 0} → ℕ → List ℕ → List ℕ → Result ℕ E → Type 0
FindsLast limit held chunk (Ok n) =
    (0 < n) × (n ≤ length chunk) × IsDecided limit (held ++ take n chunk)
FindsLast limit held chunk (Err e) = Unit {0}

-- Some bytes of the chunk are taken after the held bytes. If `t.decided` is true, the last taken
-- byte decides what all bytes begin with. If `t.decided` is false, all bytes are still a prefix of
-- a value, and the reader has taken them.
pub record TakesBytes (limit : ℕ) (held chunk : List ℕ) (new : Reader)
    (t : TakenBytes) : Type 0 where
  pub some : 0 < t.bytes
  pub within : t.bytes ≤ length chunk
  pub more : t.decided ≡ false → IsPrefix limit (held ++ take t.bytes chunk)
      × LeadsReader limit (held ++ take t.bytes chunk) new
  pub last : t.decided ≡ true → IsDecided limit (held ++ take t.bytes chunk)

-- Some bytes of the chunk are taken, or memory ran out.
abbrev pub ReadsSome : {E : Type 0} → ℕ → List ℕ → List ℕ → Reader → Result TakenBytes E → Type 0
ReadsSome limit held chunk new (Ok t) = TakesBytes limit held chunk new t
ReadsSome limit held chunk new (Err e) = Unit {0}

-- The reader holds a complete value, which these bytes encode.
abbrev pub IsComplete : ℕ → List ℕ → Reader → Type 0
IsComplete limit bytes reader = IsReader reader × IsDone reader × LeadsReader limit bytes reader

-- If these bytes are one value, then the reader holds the value.
abbrev pub HasValue : ℕ → List ℕ → Reader → TakenBytes → Type 0
HasValue limit bytes reader t = t.whole ≡ true → IsComplete limit bytes reader
