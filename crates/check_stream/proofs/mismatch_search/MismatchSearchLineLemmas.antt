-- The mismatch alone determines the output line of the value.
use Rattle.std.proofs.Common.{ℕ, ◌≡◌, ◌∙◌, List, [], ◌∷◌, ◌++◌, map, Some, refl, ap, subst}
use Rattle.std.specs.Prelude.{ℤ, codes, decimal}
use Rattle.base_data.specs.model.PathText.{path_text}
use Rattle.base_data.specs.declared.model.code.CustomKind.{CustomKind}
use Rattle.base_data.specs.declared.model.code.CustomKind.TheVariants as customs
use Rattle.types_spec.specs.types.Table.{table_shapes}
use Rattle.types_spec.specs.types.VerdictText.{object_text, IsNoLine}
use Rattle.marshal_spec.specs.format.Token.{Token}
use Rattle.marshal_spec.specs.format.Tree.{root, objects_of}
use Rattle.check_stream.specs.mismatch_theory.OnlyWay.{path_of}
use Rattle.check_stream.specs.mismatch_theory.PassedBut.{Missed}
use Rattle.check_stream.specs.mismatch_theory.MissedLine.{token_text, missed_text}
use Rattle.check_stream.proofs.mismatch_theory.MismatchLineLemmas.{missed_has_line}
use Rattle.marshal_codec.specs.token.Summary.{custom_leaf}
use Rattle.check_stream.specs.declared.mismatch_search.mismatch.FoundMismatch.{FoundMismatch}
use Rattle.marshal_codec.specs.declared.token.summary.Summary.{Summary}
use Rattle.marshal_codec.specs.declared.token.summary.Summary.TheVariants as summaries
use Rattle.check_stream.specs.declared.mismatch_search.way.Link.{Link}
use Rattle.check_stream.specs.mismatch_search.Judge.{summary_text}
use Rattle.marshal_codec.specs.token.Summary.{IsSummary}
use Rattle.check_stream.specs.mismatch_search.SearchTrail.{trail_of}
use Rattle.check_stream.specs.mismatch_search.Find.{IsMissedAt}
use Rattle.check_stream.specs.mismatch_search.MismatchLine.{path_in, found_text, FoundHasLine}

-- ---- the path

path_push : (trail : List (ℕ × ℕ)) (last : ℕ × ℕ) → path_of (trail ++ last ∷ []) ≡ last.1 ∷ path_of trail
path_push [] last = refl
path_push (link ∷ trail) last = ap (λ path. path ++ link.1 ∷ []) (path_push trail last)

path_summary : (links : List Link) → path_of (trail_of links) ≡ map (λ (link : Link). link.field) links
path_summary [] = refl
path_summary (link ∷ links) = path_push (trail_of links) (link.object, link.field) ∙ ap (λ path. link.field ∷ path) (path_summary links)

-- ---- the token

text_summary : (summary : Summary) (token : Token) → IsSummary summary token → token_text token ≡ summary_text summary
text_summary (summaries.Integer z) token its = ap token_text its
text_summary (summaries.Atom tag) token its = ap token_text its
text_summary (summaries.Shared offset) token its = ap token_text its
text_summary (summaries.Block tag size) token its = ap token_text its
text_summary (summaries.Bytes n) token its = ap token_text its.2
text_summary summaries.Double token its = ap token_text its.1
text_summary (summaries.Doubles n) token its = ap token_text its.2 ∙ ap (λ k. codes "float array of " ++ decimal k) its.1
text_summary (summaries.Custom kind) token its = ap token_text its.1 ∙ custom_summary kind its.0 where
  custom_summary : (kind : CustomKind) (z : ℤ) → object_text (Some (custom_leaf kind z)) ≡ summary_text (summaries.Custom kind)
  custom_summary customs.Int32 z = refl
  custom_summary customs.Int64 z = refl
  custom_summary customs.Native z = refl

text_found : (type_text : ℕ → List ℕ) (found : FoundMismatch) (missed : Missed) → IsMissedAt found missed → missed_text type_text missed ≡ found_text type_text found
text_found type_text found missed at =
    ap (λ trail. path_text (path_of trail) ++ codes ": expected " ++ type_text missed.type ++ codes ", found " ++ token_text missed.token) at.trail
    ∙ ap (λ path. path_text path ++ codes ": expected " ++ type_text missed.type ++ codes ", found " ++ token_text missed.token) (path_summary found.links.items)
    ∙ ap (λ t. path_text (path_in found) ++ codes ": expected " ++ type_text t ++ codes ", found " ++ token_text missed.token) at.type
    ∙ ap (λ text. path_text (path_in found) ++ codes ": expected " ++ type_text found.ty ++ codes ", found " ++ text) (text_summary found.summary missed.token at.summary)

pub found_line : FoundHasLine
found_line table limit n bytes found type_text f =
    subst (λ text. IsNoLine (table_shapes table) type_text (objects_of f.prefix.tree 0) (root f.prefix.tree 0) 0 (codes "no " ++ text))
    (text_found type_text found f.missed f.at)
    (missed_has_line table (objects_of f.prefix.tree 0) (root f.prefix.tree 0) f.missed type_text f.prefix.least)
