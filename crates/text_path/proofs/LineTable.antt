-- The table of lines reads exactly the lines of scripts.
use Rattle.std.proofs.Common.{ℕ, ◌≡◌, ◌∙◌, ◌⊎◌, inl, inr, ⊎_elim, Bool, true, false, List, [], ◌∷◌, ◌++◌, Option, Some, None, refl, sym, ap, subst, arith, append_assoc, append-nil}
use Rattle.std.specs.Prelude.{IfSome, if◌then◌else◌, codes}
use Rattle.std.specs.Str.{bytes_eq}
use Rattle.std.proofs.lemmas.Slice.Eq.{bytes_eq-Decides}
use Rattle.types_lex.specs.declared.lexeme.LexemeKind.{LexemeKind}
use Rattle.types_lex.specs.declared.lexeme.LexemeKind.TheVariants as kinds
use Rattle.types_lex.specs.declared.lexeme.Symbol.TheVariants as symbols
use Rattle.types_parse.specs.grammar.Grammar.{Kinds}
use Rattle.types_parse.specs.grammar.Refusals.{open_after}
use Rattle.types_parse.specs.grammar.TypeMachine.{Leads, stop, go}
use Rattle.types_parse.proofs.grammar.MachineLemmas.{onward}
use Rattle.types_parse.proofs.grammar.TypeGrammarTableLemmas.{Adds, Completes, Reads}
use Rattle.text_path.specs.PathGrammar.{path_kinds}
use Rattle.types_parse.specs.grammar.LexemeKinds.{number_of, number}
use Rattle.text_path.specs.PathMachine.{PathState, at, step, prefix, accepted}
use Rattle.text_path.specs.LineGrammar.{LineTree, set_line, link_line, unshare_line, graft_line, equals, assigned, line_kinds}
use Rattle.text_path.specs.LineMachine.{LineState, reading, literal, line_start, valued, named_role, role_of, begun, is_equals, after_equals, with_other, along, state_of, line_step, role_kinds, line_prefix, ended, line_accepted, line_ends}
use Rattle.text_path.specs.declared.line_prefix.Role.{Role}
use Rattle.text_path.specs.declared.line_prefix.Role.TheVariants as roles
use Rattle.text_path.specs.declared.line_prefix.LinePrefix.TheVariants as prefixes
use Rattle.types_parse.proofs.grammar.LexemeLemmas.{number_is, open_more}
use Rattle.text_path.proofs.PathTable.{none, zeros, final, path_table, leads as path_leads}

-- The number of open brackets in a state. Only literals contain brackets.
abbrev pub brackets : LineState → ℕ
brackets (reading f) = 0
brackets (literal value path read) = open_after 0 read

abbrev pub flat : LineState → ℕ
flat s = 0

zeros_append : (xs ys : Kinds) → zeros (xs ++ ys) ≡ zeros xs ++ zeros ys
zeros_append [] ys = refl
zeros_append (x ∷ xs) ys = ap (λ rest. 0 ∷ rest) (zeros_append xs ys)

-- ---- a path inside a line

abbrev in_role : ℕ → Role → PathState → LineState
in_role value role (at path after_dot) = reading (prefixes.Steps value role path after_dot)

equals_stops : (s next : PathState) → step s equals ≡ Some next → ⊥
equals_stops (at path true) next h = cc
equals_stops (at path false) next h = cc

no_equals : (s next : PathState) (kind : LexemeKind) → step s kind ≡ Some next → is_equals kind ≡ false
no_equals s next (kinds.Symbol symbols.Equals) h = absurd (equals_stops s next h)
no_equals s next kind h = refl

module _ (value : ℕ) (role : Role) where
  along_is : (next : PathState) → state_of (along value role (Some next)) ≡ Some (in_role value role next)
  along_is (at path after_dot) = refl

  steps_on : (s next : PathState) (kind : LexemeKind) → step s kind ≡ Some next → line_step (in_role value role s) kind ≡ Some (in_role value role next)
  steps_on (at path after_dot) next kind h =
      ap (λ b. state_of (if b then after_equals value role (accepted (at path after_dot)) else along value role (step (at path after_dot) kind)))
      (no_equals (at path after_dot) next kind h)
      ∙ ap (λ o. state_of (along value role o)) h ∙ along_is next

  embedded : {s t : PathState} {xs : Kinds} {ds : List ℕ} → Leads step none s xs ds t → Leads line_step flat (in_role value role s) xs ds (in_role value role t)
  embedded stop = stop
  embedded (go {s = s} {next = n} {kind = k} h l p) = go (steps_on s n k h) l (embedded p)

  equals_next : (path : List ℕ) → line_step (in_role value role (final path)) equals ≡ state_of (after_equals value role (Some path))
  equals_next [] = refl
  equals_next (n ∷ ns) = refl

  role_accepts : (path : List ℕ) → line_accepted (in_role value role (final path)) ≡ ended value role (Some path)
  role_accepts [] = refl
  role_accepts (n ∷ ns) = refl

  assigned_leads : (path : List ℕ) (rest : Kinds) (next t : LineState) → line_step (in_role value role (final path)) equals ≡ Some next →
      Leads line_step flat next rest (zeros rest) t →
      Leads line_step flat (reading (prefixes.Steps value role [] false)) (assigned path rest) (zeros (assigned path rest)) t
  assigned_leads path rest next t h p =
      subst (λ ds. Leads line_step flat (reading (prefixes.Steps value role [] false)) (assigned path rest) ds t)
      (sym (zeros_append (path_kinds path) (equals ∷ rest)))
      (onward (embedded (path_leads path)) (go h (omega arith) p))

-- ---- the state after a line

pub literal_leads : (value : ℕ) (path : List ℕ) (read xs : Kinds) → Leads line_step flat (literal value path read) xs (zeros xs) (literal value path (read ++ xs))
literal_leads value path read [] =
    subst (λ r. Leads line_step flat (literal value path read) [] [] (literal value path r)) (sym (append-nil read)) stop
literal_leads value path read (x ∷ xs) =
    go refl (omega arith)
    (subst (λ r. Leads line_step flat (literal value path (read ++ x ∷ [])) xs (zeros xs) (literal value path r))
    (append_assoc read (x ∷ []) xs) (literal_leads value path (read ++ x ∷ []) xs))

abbrev pub line_final : LineTree → LineState
line_final (set_line value path all) = literal value path all
line_final (link_line value path source) = in_role value (roles.Source path) (final source)
line_final (unshare_line value path) = in_role value roles.Unshare (final path)
line_final (graft_line value path other source) = in_role value (roles.Part path other) (final source)

leads : (line : LineTree) → Leads line_step flat line_start (line_kinds line) (line_ends line) (line_final line)
leads (set_line value path all) =
    go refl (omega arith) (go refl (omega arith)
    (assigned_leads value roles.Set path all (literal value path []) (literal value path all) (equals_next value roles.Set path) (literal_leads value path [] all)))
leads (link_line value path source) =
    go refl (omega arith) (go refl (omega arith)
    (assigned_leads value roles.Link path (path_kinds source) (reading (prefixes.Steps value (roles.Source path) [] false)) (in_role value (roles.Source path) (final source))
    (equals_next value roles.Link path) (embedded value (roles.Source path) (path_leads source))))
leads (unshare_line value path) = go refl (omega arith) (go refl (omega arith) (embedded value roles.Unshare (path_leads path)))
leads (graft_line value path other source) =
    go refl (omega arith) (go refl (omega arith)
    (assigned_leads value roles.Graft path (number other ∷ path_kinds source) (reading (prefixes.Other value path)) (in_role value (roles.Part path other) (final source))
    (equals_next value roles.Graft path) (go refl (omega arith) (embedded value (roles.Part path other) (path_leads source)))))

accepts : (line : LineTree) → line_accepted (line_final line) ≡ Some line
accepts (set_line value path all) = refl
accepts (link_line value path source) = role_accepts value (roles.Source path) source
accepts (unshare_line value path) = role_accepts value roles.Unshare path
accepts (graft_line value path other source) = role_accepts value (roles.Part path other) source

-- ---- the lexemes that a state has read

ended_prefix : (value : ℕ) (role : Role) (s : PathState) (o : Option (List ℕ)) → accepted s ≡ o → (line : LineTree) → ended value role o ≡ Some line →
    line_kinds line ≡ number value ∷ (role_kinds role ++ prefix s)
ended_prefix value role s None e line h = absurd (cc)
ended_prefix value (roles.Source path) s (Some source) e line h =
    let is : link_line value path source ≡ line = cc in
    ap line_kinds (sym is)
    ∙ ap (λ rest. number value ∷ kinds.Lower (codes "link") ∷ (path_kinds path ++ equals ∷ rest)) (path_table.accepted_prefix s source e)
    ∙ ap (λ rest. number value ∷ kinds.Lower (codes "link") ∷ rest) (sym (append_assoc (path_kinds path) (equals ∷ []) (prefix s)))
ended_prefix value roles.Unshare s (Some path) e line h =
    let is : unshare_line value path ≡ line = cc in
    ap line_kinds (sym is) ∙ ap (λ rest. number value ∷ kinds.Lower (codes "unshare") ∷ rest) (path_table.accepted_prefix s path e)
ended_prefix value (roles.Part path other) s (Some source) e line h =
    let is : graft_line value path other source ≡ line = cc in
    ap line_kinds (sym is)
    ∙ ap (λ rest. number value ∷ kinds.Lower (codes "graft") ∷ (path_kinds path ++ equals ∷ number other ∷ rest)) (path_table.accepted_prefix s source e)
    ∙ ap (λ rest. number value ∷ kinds.Lower (codes "graft") ∷ rest) (sym (append_assoc (path_kinds path) (equals ∷ number other ∷ []) (prefix s)))
ended_prefix value role s (Some path) e line h = absurd (cc)

accepted_prefix : (s : LineState) (line : LineTree) → line_accepted s ≡ Some line → line_kinds line ≡ line_prefix s
accepted_prefix (reading prefixes.Start) line h = absurd (cc)
accepted_prefix (reading (prefixes.Value value)) line h = absurd (cc)
accepted_prefix (reading (prefixes.Other value path)) line h = absurd (cc)
accepted_prefix (reading (prefixes.Steps value role path after_dot)) line h = ended_prefix value role (at path after_dot) (accepted (at path after_dot)) refl line h
accepted_prefix (literal value path read) line h = let is : set_line value path read ≡ line = cc in ap line_kinds (sym is)

-- ---- one more lexeme

abbrev AddsTo : LineState → LexemeKind → Option LineState → Type 0
AddsTo s kind o = IfSome o (λ next. Adds line_prefix brackets (line_prefix s) (brackets s) kind next)

adds_value : (kind : LexemeKind) (o : Option ℕ) → number_of kind ≡ o → AddsTo line_start kind (state_of (valued o))
adds_value kind None h = tt
adds_value kind (Some n) h =
    subst (λ k. Adds line_prefix brackets [] 0 k (reading (prefixes.Value n))) (sym (number_is kind n h)) (record { prefixes = refl; opens = refl })

-- The lexeme `kind` is the word that names the role `role`.
record Names (kind : LexemeKind) (role : Role) : Type 0 where
  name : List ℕ
  is : kind ≡ kinds.Lower name
  kinds_is : role_kinds role ≡ kinds.Lower name ∷ []

one_role : (b : Bool) (r role : Role) (o : Option Role) → (if b then Some r else o) ≡ Some role → ((b ≡ true) × (r ≡ role)) ⊎ (o ≡ Some role)
one_role true r role o h = let e : r ≡ role = cc in inl (refl, e)
one_role false r role o h = inr h

is_word : (name text : List ℕ) (r role : Role) → role_kinds r ≡ kinds.Lower text ∷ [] → (bytes_eq name text ≡ true) × (r ≡ role) → Names (kinds.Lower name) role
is_word name text r role k h = record {
  name = name;
  is = refl;
  kinds_is = ap role_kinds (sym h.1) ∙ k ∙ ap (λ n. kinds.Lower n ∷ []) (sym ((bytes_eq-Decides name text).0 h.0));
}

abbrev last : List ℕ → Option Role
last name = if bytes_eq name (codes "graft") then Some roles.Graft else None

abbrev last_two : List ℕ → Option Role
last_two name = if bytes_eq name (codes "unshare") then Some roles.Unshare else last name

named_is : (name : List ℕ) (role : Role) → named_role name ≡ Some role → Names (kinds.Lower name) role
named_is name role h =
    ⊎_elim {C = Names (kinds.Lower name) role} (is_word name (codes "set") roles.Set role refl)
    (λ h. ⊎_elim {C = Names (kinds.Lower name) role} (is_word name (codes "link") roles.Link role refl)
    (λ h. ⊎_elim {C = Names (kinds.Lower name) role} (is_word name (codes "unshare") roles.Unshare role refl)
    (λ h. ⊎_elim {C = Names (kinds.Lower name) role} (is_word name (codes "graft") roles.Graft role refl)
    (λ h. absurd (cc))
    (one_role (bytes_eq name (codes "graft")) roles.Graft role None h))
    (one_role (bytes_eq name (codes "unshare")) roles.Unshare role (last name) h))
    (one_role (bytes_eq name (codes "link")) roles.Link role (last_two name) h))
    (one_role (bytes_eq name (codes "set")) roles.Set role (if bytes_eq name (codes "link") then Some roles.Link else last_two name) h)

role_is : (kind : LexemeKind) (role : Role) → role_of kind ≡ Some role → Names kind role
role_is (kinds.Lower name) role h = named_is name role h
role_is kind role h = absurd (cc)

adds_role : (value : ℕ) (kind : LexemeKind) (o : Option Role) → role_of kind ≡ o → AddsTo (reading (prefixes.Value value)) kind (state_of (begun value o))
adds_role value kind None h = tt
adds_role value kind (Some role) h =
    let w = role_is kind role h in
    subst (λ k. Adds line_prefix brackets (number value ∷ []) 0 k (reading (prefixes.Steps value role [] false))) (sym w.is)
    (record { prefixes = ap (λ xs. number value ∷ xs) (append-nil (role_kinds role) ∙ w.kinds_is); opens = refl })

equals_is : (kind : LexemeKind) → is_equals kind ≡ true → kind ≡ equals
equals_is (kinds.Symbol symbols.Equals) h = refl
equals_is kind h = absurd (cc)

module _ (value : ℕ) where
  abbrev AddsIn : Role → PathState → LexemeKind → Option LineState → Type 0
  AddsIn role s kind o = IfSome o (λ next. Adds line_prefix brackets (number value ∷ (role_kinds role ++ prefix s)) 0 kind next)

  adds_equals : (role : Role) (s : PathState) (o : Option (List ℕ)) → accepted s ≡ o → AddsIn role s equals (state_of (after_equals value role o))
  adds_equals role s None e = tt
  adds_equals roles.Set s (Some path) e = record {
    prefixes = ap (λ xs. number value ∷ kinds.Lower (codes "set") ∷ (xs ++ equals ∷ [])) (path_table.accepted_prefix s path e);
    opens = refl;
  }
  adds_equals roles.Link s (Some path) e = record {
    prefixes = ap (λ xs. number value ∷ kinds.Lower (codes "link") ∷ xs) (append-nil (assigned path []))
        ∙ ap (λ xs. number value ∷ kinds.Lower (codes "link") ∷ (xs ++ equals ∷ [])) (path_table.accepted_prefix s path e);
    opens = refl;
  }
  adds_equals roles.Graft s (Some path) e = record {
    prefixes = ap (λ xs. number value ∷ kinds.Lower (codes "graft") ∷ (xs ++ equals ∷ [])) (path_table.accepted_prefix s path e);
    opens = refl;
  }
  adds_equals role s (Some path) e = tt

  adds_other : (path : List ℕ) (kind : LexemeKind) (o : Option ℕ) → number_of kind ≡ o → AddsTo (reading (prefixes.Other value path)) kind (state_of (with_other value path o))
  adds_other path kind None h = tt
  adds_other path kind (Some other) h =
      subst (λ k. Adds line_prefix brackets (line_prefix (reading (prefixes.Other value path))) 0 k (reading (prefixes.Steps value (roles.Part path other) [] false)))
      (sym (number_is kind other h)) (record {
        prefixes = ap (λ xs. number value ∷ kinds.Lower (codes "graft") ∷ xs)
            (append-nil (assigned path (number other ∷ [])) ∙ sym (append_assoc (path_kinds path) (equals ∷ []) (number other ∷ [])));
        opens = refl;
      })

  adds_along : (role : Role) (s : PathState) (kind : LexemeKind) (o : Option PathState) → IfSome o (λ next. Adds prefix none (prefix s) 0 kind next) →
      AddsIn role s kind (state_of (along value role o))
  adds_along role s kind None a = tt
  adds_along role s kind (Some (at path after_dot)) a = record {
    prefixes = ap (λ f. number value ∷ (role_kinds role ++ f)) a.prefixes
        ∙ ap (λ xs. number value ∷ xs) (sym (append_assoc (role_kinds role) (prefix s) (kind ∷ [])));
    opens = a.opens;
  }

  adds_step : (role : Role) (s : PathState) (kind : LexemeKind) (b : Bool) → is_equals kind ≡ b →
      AddsIn role s kind (state_of (if b then after_equals value role (accepted s) else along value role (step s kind)))
  adds_step role s kind true h =
      subst (λ k. AddsIn role s k (state_of (after_equals value role (accepted s)))) (sym (equals_is kind h)) (adds_equals role s (accepted s) refl)
  adds_step role s kind false h = adds_along role s kind (step s kind) (path_table.adds s kind)

adds : (s : LineState) (kind : LexemeKind) → AddsTo s kind (line_step s kind)
adds (reading prefixes.Start) kind = adds_value kind (number_of kind) refl
adds (reading (prefixes.Value value)) kind = adds_role value kind (role_of kind) refl
adds (reading (prefixes.Other value path)) kind = adds_other value path kind (number_of kind) refl
adds (reading (prefixes.Steps value role path after_dot)) kind = adds_step value role (at path after_dot) kind (is_equals kind) refl
adds (literal value path read) kind = record {
  prefixes = ap (λ xs. number value ∷ kinds.Lower (codes "set") ∷ xs) (sym (append_assoc (path_kinds path) (equals ∷ read) (kind ∷ [])));
  opens = open_more 0 read kind;
}

-- ---- each prefix can be completed

longer : (xs before rest last : Kinds) → xs ≡ before ++ rest → xs ++ last ≡ before ++ (rest ++ last)
longer xs before rest last h = ap (λ ys. ys ++ last) h ∙ append_assoc before rest last

completes_steps : (value : ℕ) (role : Role) (s : PathState) → Completes path_kinds (λ p. zeros (path_kinds p)) prefix none s →
    (line : LineTree) × (rest : Kinds) × (line_kinds line ≡ (number value ∷ (role_kinds role ++ prefix s)) ++ rest)
completes_steps value roles.Set s c = (
  set_line value c.text [],
  c.rest ++ equals ∷ [],
  ap (λ xs. number value ∷ kinds.Lower (codes "set") ∷ xs) (longer (path_kinds c.text) (prefix s) c.rest (equals ∷ []) c.begins),
)
completes_steps value roles.Link s c = (
  link_line value c.text [],
  c.rest ++ equals ∷ path_kinds [],
  ap (λ xs. number value ∷ kinds.Lower (codes "link") ∷ xs) (longer (path_kinds c.text) (prefix s) c.rest (equals ∷ path_kinds []) c.begins),
)
completes_steps value (roles.Source path) s c = (
  link_line value path c.text,
  c.rest,
  ap (λ xs. number value ∷ kinds.Lower (codes "link") ∷ xs)
      (ap (λ xs. path_kinds path ++ equals ∷ xs) c.begins
      ∙ sym (append_assoc (path_kinds path) (equals ∷ []) (prefix s ++ c.rest))
      ∙ sym (append_assoc (assigned path []) (prefix s) c.rest)),
)
completes_steps value roles.Graft s c = (
  graft_line value c.text 0 [],
  c.rest ++ equals ∷ number 0 ∷ path_kinds [],
  ap (λ xs. number value ∷ kinds.Lower (codes "graft") ∷ xs) (longer (path_kinds c.text) (prefix s) c.rest (equals ∷ number 0 ∷ path_kinds []) c.begins),
)
completes_steps value (roles.Part path other) s c = (
  graft_line value path other c.text,
  c.rest,
  ap (λ xs. number value ∷ kinds.Lower (codes "graft") ∷ xs)
      (ap (λ xs. path_kinds path ++ equals ∷ number other ∷ xs) c.begins
      ∙ sym (append_assoc (path_kinds path) (equals ∷ number other ∷ []) (prefix s ++ c.rest))
      ∙ sym (append_assoc (assigned path (number other ∷ [])) (prefix s) c.rest)),
)
completes_steps value roles.Unshare s c = (
  unshare_line value c.text,
  c.rest,
  ap (λ xs. number value ∷ kinds.Lower (codes "unshare") ∷ xs) c.begins,
)

completes : (s : LineState) → Completes line_kinds line_ends line_prefix flat s
completes (reading prefixes.Start) = record { text = unshare_line 0 []; rest = line_kinds (unshare_line 0 []); begins = refl; deep = omega arith }
completes (reading (prefixes.Value value)) =
    record { text = unshare_line value []; rest = kinds.Lower (codes "unshare") ∷ path_kinds []; begins = refl; deep = omega arith }
completes (reading (prefixes.Other value path)) = record {
  text = graft_line value path 0 [];
  rest = number 0 ∷ path_kinds [];
  begins = ap (λ xs. number value ∷ kinds.Lower (codes "graft") ∷ xs) (sym (append_assoc (path_kinds path) (equals ∷ []) (number 0 ∷ path_kinds [])));
  deep = omega arith;
}
completes (reading (prefixes.Steps value role path after_dot)) =
    let c = completes_steps value role (at path after_dot) (path_table.completes (at path after_dot)) in
    record { text = c.0; rest = c.1; begins = c.2; deep = omega arith }
completes (literal value path read) = record {
  text = set_line value path read;
  rest = [];
  begins = sym (append-nil (line_kinds (set_line value path read)));
  deep = omega arith;
}

pub line_table : Reads line_kinds line_ends line_step line_start line_prefix brackets flat line_accepted
line_table = record {
  final = line_final;
  leads = leads;
  accepts = accepts;
  accepted_prefix = accepted_prefix;
  start_prefix = refl;
  start_open = refl;
  adds = adds;
  completes = completes;
}
