-- What is known about objects that are referenced at a second type.
use Rattle.std.specs.Prelude.{ℕ, ◌≡◌, List, [], Contains}
use Rattle.types_spec.specs.types.Table.{Table}
use Rattle.marshal_spec.specs.format.Token.{Token}
use Rattle.check_stream.specs.mismatch_theory.PassedBut.{IsPlain}
use Rattle.check_stream.specs.checker.Again.{AreMarks}
use Rattle.check_stream.specs.checker.CheckerState.{IsMarked}
use Rattle.check_stream.specs.declared.mismatch_search.second.SecondReads.{SecondReads}

-- There are no marks and no notes.
pub record IsFresh (seconds : SecondReads) : Type 0 where
  pub marks : seconds.marks.items ≡ []
  pub notes : seconds.notes.items ≡ []

-- The tokens encode the bytes. Each mark is an offset of one of the tokens. By the tokens, each
-- recorded object has its recorded second type.
pub record Knows (table : Table) (prefix : List ℕ) (tokens : List Token) (seconds : SecondReads)
    : Type 0 where
  pub marks : AreMarks prefix seconds.marks.items tokens
  pub notes : (o t : ℕ) → Contains seconds.notes.items (o, t) → IsPlain table tokens o t

-- If the number of objects before the offset calls for a mark, the offset may be marked. The notes
-- do not change.
pub record MarksOffset (old : SecondReads) (at made : ℕ) (new : SecondReads) : Type 0 where
  pub marks : IsMarked old.marks.items at made new.marks.items
  pub notes : new.notes ≡ old.notes

-- If tokens agree with the old state, then by these tokens the object has the type. If tokens agree
-- with the old state, then the tokens agree with the new state.
abbrev pub Shows : Table → List ℕ → SecondReads → ℕ → ℕ → SecondReads → Type 0
Shows table prefix old object type new =
    (tokens : List Token) → Knows table prefix tokens old
    → IsPlain table tokens object type × Knows table prefix tokens new
