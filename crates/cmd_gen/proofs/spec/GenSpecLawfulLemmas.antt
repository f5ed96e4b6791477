-- If the language is lawful, then the command is lawful. A value has one tree, and the tree has one
-- line.
use Rattle.std.proofs.Common.{◌≡◌, ℕ, List, inl, sym, ap, ◌∙◌, subst}
use Rattle.marshal_spec.specs.format.Tree.{Tree}
use Rattle.marshal_spec.proofs.canonical.SameTree.{one_tree_only}
use Rattle.cli_spec.specs.Outcome.{outputs, exits, Language, the_verdict, line}
use Rattle.cmd_gen.specs.generator.Generated.{generated}
use Rattle.cmd_gen.specs.generator.ValueLine.{generated_text}
use Rattle.run_spec.specs.runs.Commands.{Item}
use Rattle.run_spec.specs.runs.Lawful.{IsOnce, AreLawfulAt, AreLawful, AreInTurns}
use Rattle.run_spec.specs.runs.LawfulLanguage.{IsGiven, IsLawful}
use Rattle.run_spec.proofs.value_commands.ValueCommandItemLemmas.{both_same}
use Rattle.cmd_gen.specs.spec.GenSpec.{Making, IsMadeLine, EndsWithLine, gen_spec}
use Rattle.cmd_gen.proofs.spec.GenSpecFindLemmas.{found_once, found_inside, found_given}

module _ {D T E : Type 0} (language : Language D T E) where
  module _ (lawful : IsLawful language) (a : Making T) (given : IsGiven language a.type) where
    made_line_once : IsOnce (IsMadeLine language a)
    made_line_once output other h k =
        let made = generated a.number a.count in
        let trees : h.tree ≡ k.tree =
        one_tree_only made.0 made.1 h.tree k.tree h.is_tree k.is_tree in
        let verdict =
        subst (λ (t : Tree). language.LineOf the_verdict a.type t h.verdict output.ok) trees
        h.is_verdict in
        let same =
        lawful.line_once the_verdict a.type given k.tree h.verdict k.verdict output.ok other.ok
        verdict k.is_verdict in
        let texts = ap (λ (t : Tree). line (generated_text t h.verdict)) trees
        ∙ ap (λ (v : List ℕ). line (generated_text k.tree v)) same.0 in
        both_same output other (h.text_is ∙ (texts ∙ sym k.text_is)) same.1

    ends_once : (items : List Item) (bytes : List ℕ) → IsOnce (EndsWithLine language a items bytes)
    ends_once items bytes (outputs output) (outputs other) h k =
        ap (λ s. outputs s) (made_line_once output other h.2 k.2)
    ends_once items bytes (outputs output) (exits exit) h k = absurd k
    ends_once items bytes (exits exit) last h k = absurd h

    lawful_at : AreLawfulAt (gen_spec language) a
    lawful_at = record {
      first_once = λ items bytes are_bytes item other more rest h k. absurd h;
      outputs_once = λ items item output other h k. absurd h;
      exits_once = λ items bytes are_bytes exit other h k. absurd h;
      ends_once = λ items bytes are_bytes. ends_once items bytes;
      prefix = λ items bytes item more h. absurd h;
      item_stays = λ items bytes item more later h. h;
      exit_stays = λ items bytes later exit h. h;
      exits_inside = λ items bytes exit h. absurd h;
      ends_inside = λ items bytes exit h. absurd h;
      disjoint = λ items bytes are_bytes item more output exit first h k. k;
    }

  pub gen_spec_lawful : IsLawful language → AreLawful (gen_spec language)
  gen_spec_lawful lawful = record {
    wants_once = λ request files turn name other h k. absurd h;
    finds_once = found_once language lawful;
    by_wanted = λ request files others result same h. h;
    reads_wanted = λ request files result finds turn name wants. absurd wants;
    finds_inside = λ request files exit h. inl (found_inside language lawful request files exit h);
    at = λ a found. lawful_at lawful a (found_given language found.0 found.1 a found.2);
  }

  -- The command fetches its files in turn, because the command requests no file.
  pub gen_spec_turns : AreInTurns (gen_spec language)
  gen_spec_turns = record {
    by_earlier = λ request files others turn name same h. h;
    reads = λ request files result finds turn name wants. absurd wants;
    after_read = λ request files turn later name other less h k. absurd h;
  }
