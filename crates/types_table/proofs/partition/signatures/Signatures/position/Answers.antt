use Rattle.std.proofs.Common.{ap, ◌∙◌, sym, nat_eq, refl, Some}
use Rattle.std.specs.Cmp.Lexicographic.{pointwise}
use Rattle.std.specs.Prelude.{slice_get}
use Rattle.types_table.proofs.store.StoreHeldLemmas.{AreDistinct-texts, agree_texts, text_found, text_added, adds_nothing}
use Rattle.types_table.proofs.partition.signatures.Signatures.position.Goals as goal

pub invariant_of-self-in-None : goal.invariant_of-self-in-None
invariant_of-self-in-None c =
    AreDistinct-texts _ agree_texts _ c.in_ok-position-in-None.ensures.unique

pub returns-in-Some-clause-ok : goal.returns-in-Some-clause-ok
returns-in-Some-clause-ok c =
    let there = text_found c.as_slice.result.now c.self.inside.signatures.keys c.in-Some.position (sym c.in-Some.ensures.index) c.in-Some.ensures.within in
    adds_nothing _ _ _ (ap (λ l. slice_get l c.in-Some.position) (sym c.self.view_is) ∙ there ∙ ap (λ n. Some n) c.as_slice.ensures.value)

pub returns-in_ok-position-in-None-clause-ok : goal.returns-in_ok-position-in-None-clause-ok
returns-in_ok-position-in-None-clause-ok c =
    let stored = c.in_ok-position-in-None.ensures.stored in
    rw (← c.self.view_is) (text_added (λ a b. pointwise nat_eq a.items b.items) c.self.inside.signatures.keys _ c.args.signature stored.0 _ _ c.in_ok-position-in-None.ensures.keys stored.1 stored.2 refl)

pub returns-in_ok-position-in-None-clause-distinct :
    goal.returns-in_ok-position-in-None-clause-distinct
returns-in_ok-position-in-None-clause-distinct c =
    AreDistinct-texts _ agree_texts _ c.in_ok-position-in-None.ensures.unique
