-- How clap processes arguments in plain form.
use Rattle.std.proofs.Common.{◌≡◌, ◌∙◌, ◌==◌, ◌≤◌, ◌<◌, ◌^◌, ◌&&◌, ℕ, Bool, true, false, List, [], ◌∷◌, ◌++◌, append_assoc, drop, cond, Some, None, codes, refl, sym, ap, subst, arith}
use Rattle.std.specs.Prelude.{if◌then◌else◌, fold}
use Rattle.std.specs.Option.{option_map_or}
use Rattle.std.specs.Str.{bytes_eq}
use Rattle.std.specs.Str.Parse.{IsNumeral, digits_value, without_leading_plus}
use Rattle.std.proofs.lemmas.Bool.{ne_eqb}
use Rattle.std.proofs.lemmas.Str.Parse.{digit_from_value}
use Rattle.clap.specs.Lexer.{long_of, short_of}
use Rattle.clap.specs.Walk.{Held, Row, Rule, Text, Walk, after_flag, after_step, arg_by_id, arg_by_index, arg_by_long, has_row, idle, is_pending, long_met, option as waits_for, option_word, settled, started, to_positional, used, used_by_id, value, walked}
use Rattle.clap.specs.Simple.{Shape}
use Rattle.clap.specs.Faults.{long_fault, positional_fault, settle_fault, step_fault, stray_fault, turn_fault, use_fault, walk_fault}
use Rattle.clap.specs.Kinds.{or_else}
use Rattle.clap.specs.ValueTests.{accepts}
use Rattle.clap.specs.declared.builder.value_parser.ValueParser.TheVariants.{Unsigned}
use Rattle.clap.specs.declared.builder.value_parser.Reading.TheVariants.{AsWritten}
use Rattle.clap.specs.declared.parser.matches.ValueSource.TheVariants.{CommandLine}
use Rattle.clap.proofs.ValueTestLemmas.{Accepts-accepts}
use Rattle.cli_spec.specs.CommandLine.{flag, wanted, number, Use, alone, given, IsArgument}
use Rattle.cli_args.proofs.ArgumentsLevelLemmas.{set_adds}
use Rattle.cli_args.proofs.ArgumentsSetLemmas.{leaf}
use Rattle.cli_args.proofs.ArgumentsTableLemmas.{next_position, no_dashes, ruled, same_text, encoded, encodes, taking}

-- ---- clap's view of an argument

word_dashes : (word : List ℕ) → IsArgument word → bytes_eq word (45 ∷ 45 ∷ []) ≡ false
word_dashes [] is = absurd is
word_dashes (first ∷ rest) is = rw (ne_eqb first 45 is) refl

no_long : (word : List ℕ) → IsArgument word → long_of word ≡ None
no_long [] is = absurd is
no_long (first ∷ rest) is = rw (ne_eqb first 45 is) refl

no_short : (word : List ℕ) → IsArgument word → short_of word ≡ None
no_short [] is = absurd is
no_short (first ∷ rest) is = rw (ne_eqb first 45 is) refl

-- The state of processing among the arguments of a command.
abbrev pub standing : Held → ℕ → Walk
standing h n = record { held = h; waiting = idle; position = n; is_trailing = false; stopped = None }

-- If an argument stands alone, then clap assigns the argument to the next positional.
argument_walked : (c : List Rule) (h : Held) (n : ℕ) (word : List ℕ) → IsArgument word
    → walked c [] (standing h n) word ≡ to_positional c (arg_by_index c n) word (standing h n) h
unfolding walked
argument_walked c h n word is = rw (word_dashes word is, no_long word is, no_short word is) refl

argument_turn : (s : Shape) (h : Held) (n : ℕ) (word : List ℕ) → IsArgument word → turn_fault s [] (standing h n) word ≡ step_fault s n h value
argument_turn s h n word is = rw (word_dashes word is, no_long word is, no_short word is) refl

-- The state in which an option waits for its value.
abbrev waiting_for : Text → Held → ℕ → Walk
waiting_for id h n = record { held = h; waiting = waits_for id; position = n; is_trailing = false; stopped = None }

option_walked : (c : List Rule) (id : Text) (h : Held) (n : ℕ) (word : List ℕ) → IsArgument word
    → walked c [] (waiting_for id h n) word
    ≡ record { held = (option_word (arg_by_id c id) id word h).0; waiting = (option_word (arg_by_id c id) id word h).1; position = n; is_trailing = false; stopped = None }
unfolding walked
option_walked c id h n word is = rw (word_dashes word is, no_long word is, no_short word is) refl

option_turn : (s : Shape) (id : Text) (h : Held) (n : ℕ) (word : List ℕ) → IsArgument word → turn_fault s [] (waiting_for id h n) word ≡ []
option_turn s id h n word is = rw (word_dashes word is, no_long word is, no_short word is) refl

-- If the first argument and the remaining arguments give no error, then all arguments give no
-- error.
walk_no_fault : (s : Shape) (w next : Walk) (word : List ℕ) (rest : List (List ℕ)) → turn_fault s [] w word ≡ [] → walked s.rules [] w word ≡ next → walk_fault s [] next rest ≡ []
    → walk_fault s [] w (word ∷ rest) ≡ []
unfolding walk_fault
walk_no_fault s w next word rest turn step more = ap (λ k. or_else k (walk_fault s [] (walked s.rules [] w word) rest)) turn ∙ (ap (λ w. walk_fault s [] w rest) step ∙ more)

pub walk_no_arguments : (s : Shape) (w : Walk) → walk_fault s [] w [] ≡ []
unfolding walk_fault
walk_no_arguments s w = refl

-- If an argument is the long name of an option, then clap finds the option.
long_walked : (c : List Rule) (h : Held) (n : ℕ) (word name : Text) (a : Rule) → bytes_eq word (45 ∷ 45 ∷ []) ≡ false → long_of word ≡ Some (name, None) → arg_by_long c name ≡ Some a
    → walked c [] (standing h n) word
    ≡ after_step c word (standing h n) (after_flag c idle word (long_met c (Some a) None h).0 (long_met c (Some a) None h).1).0 (after_flag c idle word (long_met c (Some a) None h).0 (long_met c (Some a) None h).1).1
unfolding walked
long_walked c h n word name a dashes long found = rw (dashes, long, found) refl

long_turn : (s : Shape) (h : Held) (n : ℕ) (word name : Text) (a : Rule) → bytes_eq word (45 ∷ 45 ∷ []) ≡ false → long_of word ≡ Some (name, None) → arg_by_long s.rules name ≡ Some a
    → turn_fault s [] (standing h n) word
    ≡ or_else (long_fault s.rules s.args_override_self (Some a) None h)
    (step_fault s n (after_flag s.rules idle word (long_met s.rules (Some a) None h).0 (long_met s.rules (Some a) None h).1).0 (after_flag s.rules idle word (long_met s.rules (Some a) None h).0 (long_met s.rules (Some a) None h).1).1)
long_turn s h n word name a dashes long found = rw (dashes, long, found) refl

-- ---- numbers

pub no_plus : (ds : List ℕ) → IsNumeral 10 ds → without_leading_plus ds ≡ ds
no_plus [] h = refl
no_plus (d ∷ ds) h =
    let plus : (d == 43) ≡ false = ne_eqb _ _ (λ e. omega (arith, digit_from_value d h.1.0)) in
    ap (λ (b : Bool). drop (cond b 1 0) (d ∷ ds)) plus

pub digits_are_argument : (ds : List ℕ) → IsNumeral 10 ds → IsArgument ds
digits_are_argument [] h = let some = h.0 in omega (arith, some)
digits_are_argument (d ∷ ds) h = λ e. omega (arith, digit_from_value d h.1.0)

pub digits_accepted : (text : List ℕ) (greatest : ℕ) → IsNumeral 10 text → digits_value 10 text ≤ greatest → greatest < 2 ^ 64 → accepts false (Unsigned 0 greatest) text ≡ true
digits_accepted text greatest numeral least small =
    let same = no_plus text numeral in
    let value_is : digits_value 10 (without_leading_plus text) ≡ digits_value 10 text = ap (digits_value 10) same in
    Accepts-accepts false (Unsigned 0 greatest) text (subst (IsNumeral 10) (sym same) numeral, omega (arith, value_is, least, small), omega arith, omega (arith, value_is, least))

-- ---- one use of an argument

-- The row of an argument that is used.
abbrev pub row_at : Text → Text → Row
row_at name text = record { id = name; values = text ∷ []; count = None; source = Some CommandLine; reading = AsWritten }

abbrev pub use_row : Use → Row
use_row (alone name) = row_at name (codes "true")
use_row (given name text) = row_at name text

no_several : {X : Type 0} (b : Bool) (x y : X) → (if b && false then x else y) ≡ y
no_several true x y = refl
no_several false x y = refl

module _ (level : Text) (c : List Rule) where
  abbrev own : Shape
  own = leaf level c

  -- Processing the arguments leads from one state to a second state without an error.
  abbrev pub Passes : Held → ℕ → List Text → Held → ℕ → Type 0
  Passes h n command_line h' n' =
      (rest : List Text) → (fold (walked c []) (standing h n) (command_line ++ rest) ≡ fold (walked c []) (standing h' n') rest)
      × (walk_fault own [] (standing h' n') rest ≡ [] → walk_fault own [] (standing h n) (command_line ++ rest) ≡ [])

  -- The state has no error and gives the rows `rows`.
  abbrev pub Holds : Held → List Row → Type 0
  Holds h rows = (settle_fault c false h ≡ []) × ((settled c h).rows ≡ rows)

  -- Processing the arguments gives the rows `rows`.
  abbrev pub Comes : Held → ℕ → List Text → ℕ → List Row → Type 0
  Comes h n command_line n' rows = (h' : Held) × Passes h n command_line h' n' × Holds h' rows

  pub none_comes : (h : Held) (n : ℕ) (rows : List Row) → Holds h rows → Comes h n [] n rows
  none_comes h n rows holds = (h, (λ rest. (refl, λ pass. pass)), holds)

  pub then_comes : (h : Held) (n n' n'' : ℕ) (command_line more : List Text) (rows rows' : List Row) → Comes h n command_line n' rows → ((h' : Held) → Holds h' rows → Comes h' n' more n'' rows')
      → Comes h n (command_line ++ more) n'' rows'
  then_comes h n n' n'' command_line more rows rows' (h', pass, holds) later = go (later h' holds)
    where
      go : Comes h' n' more n'' rows' → Comes h n (command_line ++ more) n'' rows'
      go (h'', pass', holds') = (
        h'',
        (λ rest. (
          ap (λ ws. fold (walked c []) (standing h n) ws) (append_assoc command_line more rest) ∙ ((pass (more ++ rest)).0 ∙ (pass' rest).0),
          λ ok. subst (λ ws. walk_fault own [] (standing h n) ws ≡ []) (sym (append_assoc command_line more rest)) ((pass (more ++ rest)).1 ((pass' rest).1 ok)),
        )),
        holds',
      )

  -- If a pending argument has one value, then the state gives the rows with the argument's row.
  pending_holds : (id text : Text) (a : Rule) (k : ℕ) (before rows after : List Row) → arg_by_id c id ≡ Some a → before ≡ rows → use_fault false a (text ∷ []) rows ≡ [] → used a (text ∷ []) rows ≡ after
      → Holds (record { rows = before; pending = Some (id, text ∷ []); skip = k }) after
  pending_holds id text a k before rows after by_id same none adds = (
    ap (λ o. option_map_or (λ a. use_fault false a (text ∷ []) before) o []) by_id ∙ subst (λ rs. use_fault false a (text ∷ []) rs ≡ []) (sym same) none,
    ap (λ o. used_by_id o (text ∷ []) before) by_id ∙ (ap (used a (text ∷ [])) same ∙ adds),
  )

  module _ (h : Held) (n : ℕ) (rows : List Row) (holds : Holds h rows) where
    module _ (name : Text) (in_form : encodes name ≡ true) (by_id : arg_by_id c name ≡ Some (ruled 1 (flag name))) (by_long : arg_by_long c name ≡ Some (ruled 1 (flag name))) (absent : has_row name rows ≡ false) where
      abbrev flag_rule : Rule
      flag_rule = ruled 1 (flag name)

      abbrev flag_held : Held
      flag_held = record h { rows = used flag_rule [] (settled c h).rows; pending = None }

      flag_step : walked c [] (standing h n) (codes "--" ++ name) ≡ standing flag_held n
      flag_step = long_walked c h n (codes "--" ++ name) name flag_rule (no_dashes name in_form) (encoded name in_form) by_long

      flag_fine : use_fault false flag_rule [] rows ≡ []
      flag_fine = rw absent refl

      flag_turn : turn_fault own [] (standing h n) (codes "--" ++ name) ≡ []
      flag_turn =
          long_turn own h n (codes "--" ++ name) name flag_rule (no_dashes name in_form) (encoded name in_form) by_long
          ∙ (ap (λ k. or_else (or_else k (use_fault false flag_rule [] (settled c h).rows)) []) holds.0
          ∙ ap (λ k. or_else k []) (subst (λ rs. use_fault false flag_rule [] rs ≡ []) (sym holds.1) flag_fine))

      flag_rows : used flag_rule [] (settled c h).rows ≡ rows ++ row_at name (codes "true") ∷ []
      flag_rows = ap (used flag_rule []) holds.1 ∙ set_adds (codes "true" ∷ []) name AsWritten rows absent

      pub flag_comes : Comes h n ((codes "--" ++ name) ∷ []) n (rows ++ row_at name (codes "true") ∷ [])
      flag_comes = (
        flag_held,
        (λ rest. (ap (λ w. fold (walked c []) w rest) flag_step, walk_no_fault own (standing h n) (standing flag_held n) (codes "--" ++ name) rest flag_turn flag_step)),
        (refl, flag_rows),
      )

    module _ (name text : Text) (greatest : ℕ) (usual : List Text) (in_form : encodes name ≡ true) (by_id : arg_by_id c name ≡ Some (taking name greatest usual))
        (by_long : arg_by_long c name ≡ Some (taking name greatest usual)) (absent : has_row name rows ≡ false) (is : IsArgument text)
        (accepted : accepts false (Unsigned 0 greatest) text ≡ true) where
      abbrev option_rule : Rule
      option_rule = taking name greatest usual

      abbrev between : Held
      between = record (settled c h) { pending = Some (name, []) }

      abbrev option_held : Held
      option_held = record { rows = (settled c h).rows; pending = Some (name, text ∷ []); skip = h.skip }

      option_step : walked c [] (standing h n) (codes "--" ++ name) ≡ waiting_for name between n
      option_step = long_walked c h n (codes "--" ++ name) name option_rule (no_dashes name in_form) (encoded name in_form) by_long

      text_step : walked c [] (waiting_for name between n) text ≡ standing option_held n
      text_step = option_walked c name between n text is ∙ (rw (by_id, same_text name) refl)

      dashed_turn : turn_fault own [] (standing h n) (codes "--" ++ name) ≡ []
      dashed_turn = long_turn own h n (codes "--" ++ name) name option_rule (no_dashes name in_form) (encoded name in_form) by_long ∙ ap (λ k. or_else k []) holds.0

      option_fine : use_fault false option_rule (text ∷ []) rows ≡ []
      option_fine = rw (absent, accepted) refl

      pub option_comes : Comes h n ((codes "--" ++ name) ∷ text ∷ []) n (rows ++ row_at name text ∷ [])
      option_comes = (
        option_held,
        (λ rest. (
          ap (λ w. fold (walked c []) (walked c [] w text) rest) option_step ∙ ap (λ w. fold (walked c []) w rest) text_step,
          λ ok. walk_no_fault own (standing h n) (waiting_for name between n) (codes "--" ++ name) (text ∷ rest) dashed_turn option_step
              (walk_no_fault own (waiting_for name between n) (standing option_held n) text rest (option_turn own name between n text is) text_step ok),
        )),
        pending_holds name text option_rule h.skip (settled c h).rows rows (rows ++ row_at name text ∷ []) by_id holds.1 option_fine (set_adds (text ∷ []) name AsWritten rows absent),
      )

    -- If a positional argument is processed, then the rows grow by the argument's row.
    position_comes : (id text : Text) (a : Rule) (n' : ℕ) → arg_by_id c id ≡ Some a → arg_by_index c n ≡ Some a → IsArgument text
        → to_positional c (Some a) text (standing h n) h ≡ standing (record (settled c h) { pending = Some (id, text ∷ []) }) n'
        → positional_fault c false a h ≡ settle_fault c false h → use_fault false a (text ∷ []) rows ≡ [] → used a (text ∷ []) rows ≡ rows ++ row_at id text ∷ []
        → Comes h n (text ∷ []) n' (rows ++ row_at id text ∷ [])
    position_comes id text a n' by_id by_index is to same fine adds = (
      record (settled c h) { pending = Some (id, text ∷ []) },
      (λ rest. (ap (λ w. fold (walked c []) w rest) step, walk_no_fault own (standing h n) (standing (record (settled c h) { pending = Some (id, text ∷ []) }) n') text rest turn step)),
      pending_holds id text a h.skip (settled c h).rows rows (rows ++ row_at id text ∷ []) by_id holds.1 fine adds,
    )
      where
        step : walked c [] (standing h n) text ≡ standing (record (settled c h) { pending = Some (id, text ∷ []) }) n'
        step = argument_walked c h n text is ∙ (ap (λ o. to_positional c o text (standing h n) h) by_index ∙ to)

        turn : turn_fault own [] (standing h n) text ≡ []
        turn =
            argument_turn own h n text is
            ∙ (ap (λ o. option_map_or (λ a. positional_fault c false a h) o (stray_fault own)) by_index ∙ (same ∙ holds.0))

    pub wanted_comes : (name text : Text) → arg_by_id c name ≡ Some (ruled n (wanted name)) → arg_by_index c n ≡ Some (ruled n (wanted name)) → has_row name rows ≡ false → IsArgument text
        → Comes h n (text ∷ []) (next_position n (wanted name)) (rows ++ row_at name text ∷ [])
    wanted_comes name text by_id by_index absent is =
        position_comes name text (ruled n (wanted name)) (next_position n (wanted name)) by_id by_index is
        (ap (λ (k : Held). standing (record { rows = k.rows; pending = Some ((started name k.pending).0, (started name k.pending).1 ++ text ∷ []); skip = k.skip }) (next_position n (wanted name)))
        (no_several (is_pending (ruled n (wanted name)) h.pending) h (settled c h)))
        (no_several (is_pending (ruled n (wanted name)) h.pending) [] (settle_fault c false h)) (rw absent refl) (set_adds (text ∷ []) name AsWritten rows absent)

    pub number_comes : (name text : Text) (greatest : ℕ) → arg_by_id c name ≡ Some (ruled n (number name greatest)) → arg_by_index c n ≡ Some (ruled n (number name greatest)) → has_row name rows ≡ false
        → IsArgument text → accepts false (Unsigned 0 greatest) text ≡ true → Comes h n (text ∷ []) (next_position n (number name greatest)) (rows ++ row_at name text ∷ [])
    number_comes name text greatest by_id by_index absent is accepted =
        position_comes name text (ruled n (number name greatest)) (next_position n (number name greatest)) by_id by_index is
        (ap (λ (k : Held). standing (record { rows = k.rows; pending = Some ((started name k.pending).0, (started name k.pending).1 ++ text ∷ []); skip = k.skip }) (next_position n (number name greatest)))
        (no_several (is_pending (ruled n (number name greatest)) h.pending) h (settled c h)))
        (no_several (is_pending (ruled n (number name greatest)) h.pending) [] (settle_fault c false h)) (rw (absent, accepted) refl) (set_adds (text ∷ []) name AsWritten rows absent)
