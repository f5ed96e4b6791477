-- Lemmas on the totals after one more token.
use Rattle.std.proofs.Common.{ℕ, ◌≡◌, List, [], ◌∷◌, ◌++◌, Bool, true, false, Option, Some, None, Result, Ok, Err, ap, subst, sym, ◌∙◌, refl, ltb}
use Rattle.base_data.specs.declared.model.refusal.ReadRefusal.{ReadRefusal}
use Rattle.marshal_spec.specs.format.Step.{Context, Step, or_else}
use Rattle.marshal_read.specs.declared.read_totals.ReadTotals.{ReadTotals}
use Rattle.marshal_read.specs.Totals.{AreTotals, IsNext, context_of, sums}
use Rattle.marshal_read.specs.declared.unread.Unread.{Unread}
use Rattle.marshal_read.specs.declared.unread.Unread.TheVariants.{NeedMore, Refused}
use Rattle.std.specs.Prelude.{IsErr}
use Rattle.marshal_read.specs.Progress.{Progress, passed, waiting, failed, and_then, once, of_refusal, answered, progress}

-- If three steps are decided and passed, then the progress is that of the remaining steps.
pub go_on : (b : Bool) (o w v : Option ReadRefusal) (p more : Progress) → b ≡ false → o ≡ None → or_else w v ≡ None → p ≡ more
    → p ≡ and_then (once b o) (and_then (once b w) (and_then (once b v) more))
go_on true o w v p more d e f g = cc
go_on false (Some r) w v p more d e f g = cc
go_on false None (Some r) v p more d e f g = cc
go_on false None None (Some r) p more d e f g = cc
go_on false None None None p more d e f g = g

-- If the first step passes and one of the next two steps fails, then the progress is that failure.
pub stops_at : (b : Bool) (o w v e : Option ReadRefusal) (p more : Progress) → b ≡ false → o ≡ None → e ≡ or_else w v → p ≡ of_refusal e → (p ≡ passed → ⊥)
    → p ≡ and_then (once b o) (and_then (once b w) (and_then (once b v) more))
stops_at true o w v e p more d n f g h = cc
stops_at false (Some r) w v e p more d n f g h = cc
stops_at false None (Some r) v e p more d n f g h = g ∙ ap of_refusal f
stops_at false None None (Some r) e p more d n f g h = g ∙ ap of_refusal f
stops_at false None None None e p more d n f g h = absurd (h (g ∙ ap of_refusal f))

-- If the first step is decided and passes, then the progress is that of the other steps.
pub once_passed : (b : Bool) (o : Option ReadRefusal) (p more : Progress) → b ≡ false → o ≡ None → p ≡ more → p ≡ and_then (once b o) more
once_passed true o p more d e f = cc
once_passed false (Some r) p more d e f = cc
once_passed false None p more d e f = f

-- If the first step is decided and fails, then the progress is the refusal of the first step.
pub once_failed : (b : Bool) (o e : Option ReadRefusal) (p more : Progress) → b ≡ false → e ≡ o → p ≡ of_refusal e → (p ≡ passed → ⊥) → p ≡ and_then (once b o) more
once_failed true o e p more d f g h = cc
once_failed false (Some r) e p more d f g h = g ∙ ap of_refusal f
once_failed false None e p more d f g h = absurd (h (g ∙ ap of_refusal f))

-- The progress of two concatenated lists of steps is that of the first list, and then that of the
-- second list.
pub progress-append : (n : ℕ) (xs ys : List Step) → progress n (xs ++ ys) ≡ and_then (progress n xs) (progress n ys)
progress-append n [] ys = refl
progress-append n (x ∷ xs) ys = ap (and_then (once (ltb n x.ends) x.refusal)) (progress-append n xs ys) ∙ regroup (once (ltb n x.ends) x.refusal) (progress n xs) (progress n ys)
  where
    regroup : (p q r : Progress) → and_then p (and_then q r) ≡ and_then (and_then p q) r
    regroup passed q r = refl
    regroup waiting q r = refl
    regroup (failed s) q r = refl

-- If totals have the sums of a context, then the context is the context that the totals describe.
pub totals_are : (position : ReadTotals) (c : Context) → AreTotals position c → c ≡ context_of position
totals_are position c h = λ i. record {
  head = h.head i;
  start = h.start i;
  taken = h.taken i;
  sums = sums (h.objects i) (h.pending i) (h.w32 i) (h.w64 i);
}

-- If totals describe a context, then the result of the next token at the totals is its result in
-- the context.
pub next_there : (position : ReadTotals) (c : Context) (bytes : List ℕ) (x : Result ReadTotals Unread) → AreTotals position c → IsNext (context_of position) bytes x → IsNext c bytes x
next_there position c bytes x h n = subst (λ (y : Context). IsNext y bytes x) (sym (totals_are position c h)) n

-- If the result is an error, then not all steps passed.
pub not_passed : {X : Type 0} (x : Result X Unread) → IsErr x → answered x ≡ passed → ⊥
not_passed (Ok x) e h = cc
not_passed (Err NeedMore) e h = cc
not_passed (Err (Refused r)) e h = cc
