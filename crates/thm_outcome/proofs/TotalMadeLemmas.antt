-- The command `gen` is total over a language that reads each type and has a line for each value: each
-- generated value has a tree that some bytes encode.
use Rattle.std.proofs.Common.{◌≡◌, ◌≤◌, ℕ, false, List, [], Some, Ok, Err, refl, sym, ◌∙◌, subst}
use Rattle.cli_spec.specs.CommandLine.{greatest_count}
use Rattle.cli_spec.specs.Outcome.{Request, own, generate, Asks, asked_type, outputs, line, the_verdict, found_of, Language, OrRefusal}
use Rattle.cli_spec.specs.declared.exit.Exit.TheVariants.{Declarations as declarations, RequestedType as requested_type}
use Rattle.cmd_gen.specs.generator.Generated.{item_declarations}
use Rattle.cmd_gen.specs.generator.ValueLine.{generated_text}
use Rattle.cmd_gen.specs.spec.GenSpec.{GenArguments, generated_by, Making, making, ReadsItemType, gen_spec}
use Rattle.cmd_gen.proofs.command.AskLemmas.{asked_in_range}
use Rattle.run_spec.specs.runs.Commands.{Fetches}
use Rattle.run_spec.specs.runs.LawfulLanguage.{IsGiven}
use Rattle.thm_outcome.specs.Total.{NotNone, AreTotalAt, AreTotal, HaveAnOutcome}
use Rattle.thm_outcome.specs.TotalLanguage.{HasLines}
use Rattle.thm_outcome.specs.TotalMade.{ReadsEachType, IsMadeRequest, IsMadeInRange}
use Rattle.thm_outcome.proofs.MadeTreeLemmas.{made_tree}
use Rattle.thm_outcome.proofs.TotalFindLemmas.{then_some, refusal_some}

same_asked : (asked other : GenArguments) → Some asked ≡ Some other → asked ≡ other
same_asked asked other same = cc same

in_range : (arguments : List (List ℕ)) (request : Request) → Asks arguments request
    → (asked : GenArguments) → generated_by request ≡ Some asked → asked.count ≤ greatest_count
in_range arguments (own (generate number count type)) asks asked is =
    let same = same_asked (record { number = number; count = count; type = type }) asked is in
    subst (λ (x : GenArguments). x.count ≤ greatest_count) same (asked_in_range arguments number count type asks).1
in_range arguments request asks asked is = absurd (cc is)

module _ {D T E : Type 0} (language : Language D T E) (reads : ReadsEachType language) (lines : HasLines language) where
  type_some : (text : List ℕ) → NotNone (ReadsItemType language text)
  type_some text =
      then_some (OrRefusal (language.ReadsDeclarations false item_declarations) declarations) _
      (refusal_some (language.ReadsDeclarations false item_declarations) declarations (reads.declarations_some false item_declarations))
      (λ d h. refusal_some (language.ReadsType d (asked_type text false)) requested_type (reads.type_some d (asked_type text false)))

  found_some : (request : Request) → IsMadeInRange request → (files : Fetches)
      → NotNone ((gen_spec language).Finds request files)
  found_some request (asked, is, few) files none =
      then_some (ReadsItemType language asked.type) (λ type found. found ≡ Ok (making asked type)) (type_some asked.type)
      (λ type h no. no (Ok (making asked type)) refl)
      (λ found h. none found (asked, is, h))

  type_given : (text : List ℕ) (t : T) → ReadsItemType language text (Ok t) → IsGiven language t
  type_given text t (Err exit, h, same) = absurd (cc same)
  type_given text t (Ok d, h, r) = (item_declarations, asked_type text false, d, h, r)

  made_total : (a : Making T) → a.count ≤ greatest_count → IsGiven language a.type
      → AreTotalAt (gen_spec language) a
  made_total a few given = record {
    outputs_some = λ items output print bytes are_bytes item more is no_exit. absurd is;
    ends_some = λ reads. absurd reads;
    alone_some = λ unread. alone;
  } where
    alone : NotNone ((gen_spec language).Ends a [] [])
    alone none =
        let t = made_tree a.number a.count few in
        lines the_verdict a.type given t.0 t.2 (λ verdict ok h.
        none (outputs (record { text = line (generated_text t.0 verdict); ok = ok }))
        (refl, refl, record { tree = t.0; is_tree = t.1; verdict = verdict; is_verdict = h; text_is = refl }))

  made_at : (request : Request) → IsMadeInRange request → (files : Fetches) (a : Making T)
      → (gen_spec language).Finds request files (Ok a) → AreTotalAt (gen_spec language) a
  made_at request (asked, is, few) files a (other, same, (Err exit, h, found)) = absurd (cc found)
  made_at request (asked, is, few) files a (other, same, (Ok type, h, found)) =
      let a_is : a ≡ making other type = cc found in
      let asked_is = same_asked asked other (sym is ∙ same) in
      subst (AreTotalAt (gen_spec language)) (sym a_is)
      (made_total (making other type) (subst (λ (x : GenArguments). x.count ≤ greatest_count) asked_is few)
      (type_given other.type type h))

  pub gen_total : AreTotal (gen_spec language) IsMadeInRange
  gen_total = record {
    finds_some = λ request of files. found_some request of (λ turn name. found_of (files name));
    at = λ request of files. made_at request of (λ turn name. found_of (files name));
  }

-- The arguments never request more than the maximum COUNT.
pub outcomes_in_range :
    {D T E : Type 0} (language : Language D T E) → HaveAnOutcome (gen_spec language) IsMadeInRange
    → HaveAnOutcome (gen_spec language) IsMadeRequest
outcomes_in_range language some arguments only =
    some arguments (λ request asks.
    let o = only request asks in (o.0, o.1, in_range arguments request asks o.0 o.1))
