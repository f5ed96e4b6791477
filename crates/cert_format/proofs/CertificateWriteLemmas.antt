-- The texts of entries, one after another, are the text of all lines of the entries.
use Rattle.std.proofs.Common.{ℕ, suc, ◌≡◌, ◌∙◌, List, [], ◌∷◌, ◌++◌, refl, sym, ap}
use Rattle.std.proofs.lemmas.List.Concat.{flat_map-append}
use Rattle.cert_format.specs.declared.section.Section.{Section}
use Rattle.cert_format.specs.Format.{AreStated, section_lines, section_text, lines_from, text_of, IsCertificate}
use Rattle.cert_format.specs.Laws.{texts_from}

texts_are_lines : (k : ℕ) (all : List Section) → texts_from k all ≡ text_of (lines_from k all)
texts_are_lines k [] = refl
texts_are_lines k (section ∷ all) =
    ap (λ (z : List ℕ). section_text k section ++ z) (texts_are_lines (suc k) all)
    ∙ sym (flat_map-append (λ (l : List ℕ). l ++ 10 ∷ []) (section_lines k section) (lines_from (suc k) all))

pub written_sections : (all : List Section) → AreStated all → IsCertificate (texts_from 0 all) all
written_sections all stated = record { stated = stated; encoded = texts_are_lines 0 all }
