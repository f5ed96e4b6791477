use Rattle.std.proofs.Common.{ap, ◌∙◌, sym, nat_eq}
use Rattle.std.specs.Cmp.Lexicographic.{pointwise}
use Rattle.std.specs.Prelude.{slice_get}
use Rattle.types_table.proofs.store.StoreHeldLemmas.{AreDistinct-texts, agree_texts, text_found, text_added, adds_nothing}
use Rattle.types_table.proofs.store.name_set.NameSet.number.Goals as goal

pub invariant_of-self-in-None : goal.invariant_of-self-in-None
invariant_of-self-in-None c =
    AreDistinct-texts _ agree_texts _ c.in_ok-number-in-None.ensures.unique

pub returns-in-Some-clause-ok : goal.returns-in-Some-clause-ok
returns-in-Some-clause-ok c =
    let there = text_found c.args.name.now c.self.inside.texts.keys c.in-Some.number (sym c.in-Some.ensures.index) c.in-Some.ensures.within in
    adds_nothing _ _ _ (ap (λ l. slice_get l c.in-Some.number) (sym c.self.view_is) ∙ there)

pub returns-in_ok-number-in-None-clause-ok : goal.returns-in_ok-number-in-None-clause-ok
returns-in_ok-number-in-None-clause-ok c =
    let stored = c.in_ok-number-in-None.ensures.stored in
    rw (← c.self.view_is) (text_added (λ a b. pointwise nat_eq a.items b.items) c.self.inside.texts.keys _ c.in_ok-text-in-None.text stored.0 _ _ c.in_ok-number-in-None.ensures.keys stored.1 stored.2 c.in_ok-text-in-None.ensures.items)

pub returns-in_ok-number-in-None-clause-distinct :
    goal.returns-in_ok-number-in-None-clause-distinct
returns-in_ok-number-in-None-clause-distinct c =
    AreDistinct-texts _ agree_texts _ c.in_ok-number-in-None.ensures.unique
