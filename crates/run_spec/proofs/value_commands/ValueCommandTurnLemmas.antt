-- The commands on values request their files turn by turn: FILE, and then SCRIPT.
use Rattle.std.proofs.Common.{◌≡◌, ◌<◌, ℕ, List, Option, Some, Ok, Err, inl, inr, refl, sym, ap, ◌∙◌, arith}
use Rattle.cli_spec.specs.Outcome.{Found, opened, whole, Request, AskedType, report, get, edit, dump, compare, own, script_of, Language, ReadsTypeOf}
use Rattle.run_spec.specs.runs.Commands.{Fetches}
use Rattle.run_spec.specs.runs.Lawful.{AreInTurns}
use Rattle.run_spec.specs.runs.LawfulLanguage.{IsLawful}
use Rattle.run_spec.proofs.runs.ExampleLemmas.{none_later}
use Rattle.run_spec.specs.value_commands.Tasks.{HasPath, WantsFile, WantsScript, Wants, commands}
use Rattle.run_spec.proofs.value_commands.ValueCommandFindLemmas.{type_by, wanted_read}

pub not_between : (turn later : ℕ) → turn < later → turn ≡ 1 → later ≡ 1 → ⊥
not_between turn later less e f = omega arith

pub is_before : (turn : ℕ) → turn ≡ 1 → 0 < turn
is_before turn e = omega arith

module _ {D T E : Type 0} (language : Language D T E) (lawful : IsLawful language) where
  -- If the request has a SCRIPT, then the request has no invalid PATH.
  script_path :
      (request : Request) (name : List ℕ) → script_of request ≡ Some name
      → HasPath language request
  script_path (report query f t lined most) name e = absurd (cc e)
  script_path (get f t text style lined most) name e = absurd (cc e)
  script_path (edit f t script compat lined decimal most) name e = tt
  script_path (dump most) name e = absurd (cc e)
  script_path (compare most) name e = absurd (cc e)
  script_path (own request) name e = absurd (cc e)

  -- If SCRIPT is requested, then FILE is requested.
  file_before :
      (request : Request) (files : Fetches) (name : List ℕ)
      → (w : WantsScript language request files name) → WantsFile language request w.typed.0
  file_before request files name w = record {
    has_path = script_path request name w.scripted;
    type = w.typed.1;
    typed = w.is_typed;
  }

  by_earlier :
      (request : Request) (files others : Fetches) (turn : ℕ) (name : List ℕ)
      → ((earlier : ℕ) (other : List ℕ) → earlier < turn
      → Wants language request files earlier other → files earlier other ≡ others earlier other)
      → Wants language request files turn name → Wants language request others turn name
  by_earlier request files others turn name same (inl file) = inl file
  by_earlier request files others turn name same (inr (now, w)) = inr (
    now,
    record {
      scripted = w.scripted;
      typed = w.typed;
      is_typed = w.is_typed;
      type = w.type;
      reads = type_by language lawful (files 0) (others 0) w.typed (Ok w.type)
          (same 0 w.typed.0 (is_before turn now)
          (inl (refl, file_before request files name w))) w.reads;
    },
  )

  -- If the type is read, then FILE was read completely.
  pub file_whole :
      (file : List ℕ → Found) (typed : List ℕ × AskedType) (type : T)
      → ReadsTypeOf language file typed (Ok type)
      → (bytes : List ℕ) × (file typed.0 ≡ opened (whole bytes))
  file_whole file typed type (Err s, reads, e) = absurd (cc e)
  file_whole file typed type (Ok bytes, reads, next) = (bytes, reads)

  after_read :
      (request : Request) (files : Fetches) (turn later : ℕ) (name other : List ℕ)
      → turn < later → Wants language request files turn name
      → Wants language request files later other
      → (bytes : List ℕ) × (files turn name ≡ opened (whole bytes))
  after_read request files turn later name other less wants (inl (now, w)) =
      absurd (none_later turn later less now)
  after_read request files turn later name other less (inr (then, v)) (inr (now, w)) =
      absurd (not_between turn later less then now)
  after_read request files turn later name other less (inl (then, v)) (inr (now, w)) =
      let read = file_whole (files 0) w.typed w.type w.reads in
      let both : ◌≡◌ {A = Option (List ℕ × AskedType)} (Some (name, v.type)) (Some w.typed) = sym v.typed ∙ w.is_typed in
      let same : ◌≡◌ {A = List ℕ × AskedType} (name, v.type) w.typed = cc both in
      let first : name ≡ w.typed.0 = ap (λ p. p.0) same in
      (read.0, ap (λ t. files t name) then ∙ (ap (λ n. files 0 n) first ∙ read.1))

  pub in_turns : AreInTurns (commands language)
  in_turns = record {
    by_earlier = by_earlier;
    reads = wanted_read language lawful;
    after_read = after_read;
  }
