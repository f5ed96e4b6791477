use Rattle.std.proofs.Common.{ℕ, ◌+◌, ◌<◌, ◌≡◌, ◌∙◌, ◌++◌, List, [], ◌∷◌, length, Some, take, sym, ap, arith}
use Rattle.std.specs.Prelude.{slice_get, map}
use Rattle.std.proofs.lemmas.List.{map_push, take_more}
use Rattle.std.proofs.lemmas.Option.{slice_get_within, get_or_from_slice_get}
use Rattle.base_data.proofs.model.Options.{slice_get-Contains}
use Rattle.cert_produce.specs.LeastFaults.{at_least}
use Rattle.cert_produce.proofs.normal.at_least_faults.Goals as goal

-- `map f` over the first `k + 1` elements of a list, split at the last of these elements.
one_more :
    (f : ℕ × ℕ → ℕ × ℕ) (xs : List (ℕ × ℕ)) (k : ℕ) (x : ℕ × ℕ) → slice_get xs k ≡ Some x
    → map f (take (k + 1) xs) ≡ map f (take k xs) ++ f x ∷ []
one_more f xs k x at_k =
    ap (map f) (take_more xs k x (slice_get_within xs k x at_k) ∙ ap (λ y. take k xs ++ y ∷ []) (get_or_from_slice_get xs k x x at_k))
    ∙ map_push f (take k xs) x

pub bounds-least_faults-ty : goal.bounds-least_faults-ty
bounds-least_faults-ty c =
    c.requires c.get-object.result.0 c.get-object.result.1 (slice_get-Contains c.args.typing.now c.loop-k.k (c.get-object.result.0, c.get-object.result.1) c.get-object.ensures)

pub offset_bounds-least_faults-ty : goal.offset_bounds-least_faults-ty
offset_bounds-least_faults-ty c =
    let inside : c.get-object.result.1 < length c.args.least_faults.now =
    c.requires c.get-object.result.0 c.get-object.result.1 (slice_get-Contains c.args.typing.now c.loop-k.k (c.get-object.result.0, c.get-object.result.1) c.get-object.ensures) in
    omega (arith, inside, c.type_inv.least_faults)

pub loop-k-preserved : goal.loop-k-preserved
loop-k-preserved c =
    let pair : ℕ × ℕ = (c.get-object.result.0, c.get-object.result.1) in
    c.in_ok-push.ensures.items ∙ ap (λ pairs. pairs ++ at_least c.args.least_faults.now pair ∷ []) c.loop-k.invariant
    ∙ sym (one_more (at_least c.args.least_faults.now) c.args.typing.now c.loop-k.k pair c.get-object.ensures)
