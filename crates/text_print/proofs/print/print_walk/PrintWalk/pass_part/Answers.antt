use Rattle.std.proofs.Common.{ℕ, ◌≡◌, ◌∙◌, ◌++◌, ◌∷◌, [], List, Option, length, get_or, set, refl, sym, ap, subst, arith, append-nil}
use Rattle.std.proofs.lemmas.List.{length-append, set_at, get_or_at}
use Rattle.std.specs.Prelude.{option_to_list}
use Rattle.text_print.specs.declared.print.open_block.OpenBlock.{OpenBlock}
use Rattle.text_print.specs.print.PrintLevels.{with_next, blocks_after}
use Rattle.text_print.proofs.print.print_walk.PrintWalk.pass_part.Goals as goal

pub returns-in-None : goal.returns-in-None
returns-in-None c =
    let walk = c.args.self.now in
    let items = walk.stack.items in
    let last = c.args.last in
    let here = c.index_mut.result.now in
    record {
      value = refl;
      marks = refl;
      order = refl;
      ends = subst (λ (e : Option ℕ). walk.ends.items ≡ walk.ends.items ++ option_to_list e) (sym c.in-None.is) (sym (append-nil walk.ends.items));
      blocks = λ outer block is.
          let many : length outer ≡ last = omega (arith, c.requires, ap length is, length-append outer (block ∷ [])) in
          let same : here ≡ block = c.index_mut.ensures.value ∙ ap (λ (bs : List OpenBlock). get_or bs last here) is ∙ get_or_at outer block [] here last many in
          subst (λ (e : Option ℕ). set items last (with_next here c.args.next) ≡ blocks_after outer (with_next block c.args.next) e) (sym c.in-None.is)
          (ap (λ (bs : List OpenBlock). set bs last (with_next here c.args.next)) is
          ∙ set_at outer block [] (with_next here c.args.next) last many
          ∙ ap (λ (b : OpenBlock). outer ++ with_next b c.args.next ∷ []) same);
    }
