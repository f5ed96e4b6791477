-- The lexemes of a file of declarations lead the table to that file.
use Rattle.std.proofs.Common.{
  ℕ,
  ◌≡◌,
  ◌<◌,
  ◌∙◌,
  Bool,
  true,
  false,
  List,
  [],
  ◌∷◌,
  ◌++◌,
  length,
  Some,
  refl,
  sym,
  ap,
  subst,
  subst₂,
  arith,
  append_assoc,
  append-nil,
  length-append,
}
use Rattle.types_lex.specs.declared.lexeme.LexemeKind.{LexemeKind}
use Rattle.types_lex.specs.declared.lexeme.LexemeKind.TheVariants as kinds
use Rattle.types_lex.specs.declared.lexeme.Keyword.TheVariants as keywords
use Rattle.types_lex.specs.declared.lexeme.Symbol.TheVariants as symbols
use Rattle.types_parse.specs.grammar.Grammar.{
  Name,
  Kinds,
  Texpr,
  App,
  single,
  starred,
  mark,
  lower,
  texpr,
  app,
  Params,
  no_params,
  param,
  params,
  FieldTree,
  RecordTree,
  ArgumentsTree,
  no_arguments,
  inline,
  listed,
  ConstrTree,
  BodyTree,
  record_body,
  variant_body,
  type_body,
  DeclTree,
  GroupTree,
  FileTree,
  word,
  word_if,
  variable_kind,
  each_after,
  params_kinds,
  field_kinds,
  record_kinds,
  constr_kinds,
  body_kinds,
  decl_kinds,
  group_kinds,
  file_kinds,
}
use Rattle.types_parse.specs.grammar.Depths.{
  app_ends,
  silent,
  each_ends,
  field_ends,
  record_ends,
  constr_ends,
  body_ends,
  decl_ends,
  group_ends,
  file_ends,
}
use Rattle.types_parse.specs.grammar.TypeMachine.{Leads, stop, go}
use Rattle.types_parse.proofs.grammar.MachineLemmas.{onward, one_more}
use Rattle.types_parse.proofs.grammar.Stands.{app_some}
use Rattle.types_parse.specs.grammar.Holes.{due, read, outside, first_part, whole, alone, step, ended}
use Rattle.types_parse.specs.grammar.File.{
  Before,
  nothing,
  so_far,
  head_of,
  rest_of,
  with_one,
  GroupHole,
  BodyHole,
  ConstrHole,
  RecordHole,
  body_record,
  inline_record,
  body_type,
  field_type,
  listed_part,
  file_due,
  decl_due,
  param_due,
  param_read,
  params_read,
  name_read,
  body_due,
  constr_due,
  upper_read,
  of_read,
  field_due,
  record_read,
  FileState,
  decl_with,
  variant_with,
  constr_with,
  field_with,
  record_with,
  after_decl,
  after_constr,
  closed_decl,
  declarations,
  file_start,
  file_accepted,
}
use Rattle.types_parse.proofs.grammar.HolesLead.{type_read, texpr_leads, app_leads}

abbrev pub FileLed : FileState → Kinds → List ℕ → FileState → Type 0
FileLed = Leads (step declarations) ended

lead_as : {s t : FileState} {xs ys : Kinds} {ds es : List ℕ} → xs ≡ ys → ds ≡ es →
    FileLed s xs ds t → FileLed s ys es t
lead_as {s} {t} e f p = subst₂ (λ x d. FileLed s x d t) e f p

hushed : {s t : FileState} {xs : Kinds} {ds : List ℕ} → FileLed s xs ds t → FileLed s xs (silent xs)
    t
hushed stop = stop
hushed (go e l p) = go e (omega arith) (hushed p)

starts_like : (s : FileState) {s' t : FileState} {xs : Kinds} {ds : List ℕ} →
    ((kind : LexemeKind) (n : FileState) → step declarations s' kind ≡ Some n →
    step declarations s kind ≡ Some n) → 0 < length xs → FileLed s' xs ds t → FileLed s xs ds t
starts_like s f h stop = absurd (omega arith)
starts_like s f h (go e l p) = go (f _ _ e) l p

-- ---- lists

module _ {X : Type 0} (begun : Before X → FileState) (between : Kinds) (encoded : X → Kinds)
    (ends : X → List ℕ) (Done : X → List X → FileState → Type 0) where
  pub record ItemRead (b : Before X) (x : X) : Type 0 where
    pub state : FileState
    pub leads : FileLed (begun b) (encoded x) (ends x) state
    pub next : FileLed state between (silent between) (begun (with_one b x))
    pub done : Done (head_of b x) (rest_of b x) state

  pub record RowOn (b : Before X) (x : X) (ys : List X) : Type 0 where
    pub state : FileState
    pub leads : FileLed (begun b) (encoded x ++ each_after between encoded ys)
        (ends x ++ each_ends between ends ys) state
    pub done : Done (head_of b x) (rest_of b x ++ ys) state

  row_leads : ((b : Before X) (x : X) → ItemRead b x) → (ys : List X) (b : Before X) (x : X) →
      RowOn b x ys
  row_leads item [] b x =
      let i = item b x in
      record {
        state = i.state;
        leads = lead_as (sym (append-nil (encoded x)))
            (sym (append-nil (ends x))) i.leads;
        done = subst (λ m. Done (head_of b x) m i.state)
            (sym (append-nil (rest_of b x))) i.done;
      }
  row_leads item (y ∷ ys) b x =
      let i = item b x in
      let r = row_leads item ys (with_one b x) y in
      record {
        state = r.state;
        leads = lead_as (regroup (encoded x) between (encoded y) (each_after between encoded ys))
            (again (ends x) (silent between) (ends y) (each_ends between ends ys))
            (onward (onward i.leads i.next) r.leads);
        done = subst (λ m. Done (head_of b x) m r.state) (append_assoc (rest_of b x) (y ∷ []) ys)
            r.done;
      }
    where
      regroup : (s m y e : Kinds) → s ++ m ++ (y ++ e) ≡ s ++ (m ++ y ++ e)
      regroup s m y e = simp append_assoc

      again : (s m y e : List ℕ) → s ++ m ++ (y ++ e) ≡ s ++ (m ++ y ++ e)
      again s m y e = simp append_assoc

-- ---- parameters

pub record ParamsRead (g : GroupHole) (ps : Params) : Type 0 where
  pub state : FileState
  pub leads : FileLed (outside (decl_due g)) (params_kinds ps) (silent (params_kinds ps)) state
  pub next : (x : Name) → step declarations state (kinds.Lower x)
      ≡ Some (outside (name_read g ps x))

params_leads : (g : GroupHole) (ps : Params) → ParamsRead g ps
params_leads g no_params = record { state = outside (decl_due g); leads = stop; next = λ x. refl }
params_leads g (param x) = record {
  state = outside (params_read g (param x));
  leads =
      one_more refl;
  next = λ y. refl;
}
params_leads g (params x xs) =
    let r = row_leads (λ b. outside (param_due g b)) (mark symbols.Comma) variable_kind
    (λ x. 0 ∷ []) (λ f m s. step declarations s (kinds.Symbol symbols.CloseParen)
    ≡ Some (outside (params_read g (params f m))))
    (λ b y. record {
      state = outside (param_read g b y);
      leads = one_more refl;
      next =
          one_more refl;
      done = refl;
    }) xs nothing x in
    record {
      state = outside (params_read g (params x xs));
      leads =
          hushed (go {depth = 0} refl (omega arith) (onward r.leads (one_more r.done)));
      next =
          λ y. refl;
    }

-- ---- records

prefix_leads : (r : RecordHole) (b : Before FieldTree) (mutable : Bool) (x : Name) →
    FileLed (outside (field_due r b)) (word_if mutable keywords.Mutable ++ lower x
    ++ mark symbols.Colon) (silent (word_if mutable keywords.Mutable ++ lower x
    ++ mark symbols.Colon)) (due (first_part (whole (field_type r b mutable x))))
prefix_leads r b true x = go refl (omega arith) (go refl (omega arith) (one_more refl))
prefix_leads r b false x = go refl (omega arith) (one_more refl)

semicolon_next : (r : RecordHole) (b : Before FieldTree) (mutable : Bool) (x : Name) (t : Texpr) →
    step declarations (type_read (whole (field_type r b mutable x)) t)
    (kinds.Symbol symbols.Semicolon) ≡ Some
    (outside (field_due r (with_one b (field_with mutable x t))))
semicolon_next r b mutable x (single a) = refl
semicolon_next r b mutable x (starred t a) = refl

brace_next : (r : RecordHole) (b : Before FieldTree) (mutable : Bool) (x : Name) (t : Texpr) →
    step declarations (type_read (whole (field_type r b mutable x)) t)
    (kinds.Symbol symbols.CloseBrace) ≡ Some
    (outside (record_read r (record_with b (field_with mutable x t) false)))
brace_next r b mutable x (single a) = refl
brace_next r b mutable x (starred t a) = refl

pub record FieldsDone (r : RecordHole) (f : FieldTree) (m : List FieldTree) (s : FileState) : Type 0
  where
    pub semicolon : step declarations s (kinds.Symbol symbols.Semicolon)
        ≡ Some (outside (field_due r (so_far f m)))
    pub brace : step declarations s (kinds.Symbol symbols.CloseBrace)
        ≡ Some (outside (record_read r (record { first = f; more = m; closed = false })))

pub field_leads : (r : RecordHole) (b : Before FieldTree) (f : FieldTree) →
    ItemRead (λ b. outside (field_due r b)) (mark symbols.Semicolon) field_kinds field_ends
    (FieldsDone r) b f
field_leads r b f = record {
  state = type_read (whole (field_type r b f.mutable f.name)) f.type;
  leads = onward (prefix_leads r b f.mutable f.name)
      (texpr_leads declarations f.type (whole (field_type r b f.mutable f.name)));
  next = one_more (semicolon_next r b f.mutable f.name f.type);
  done = record {
    semicolon = semicolon_next r b f.mutable f.name f.type;
    brace =
        brace_next r b f.mutable f.name f.type;
  };
}

pub record_leads : (s : FileState) (r : RecordHole) (t : RecordTree) →
    step declarations s (kinds.Symbol symbols.OpenBrace) ≡ Some (outside (field_due r nothing)) →
    FileLed s (record_kinds t) (record_ends t) (outside (record_read r t))
record_leads s r t h = closes t.closed
  where
    closes : (closed : Bool) → FileLed s
        (record_kinds (record { first = t.first; more = t.more; closed = closed }))
        (record_ends (record { first = t.first; more = t.more; closed = closed }))
        (outside (record_read r (record { first = t.first; more = t.more; closed = closed })))
    closes true = let q = row_leads (λ b. outside (field_due r b)) (mark symbols.Semicolon)
        field_kinds field_ends (FieldsDone r) (field_leads r) t.more nothing t.first in
        onward (onward (go h (omega arith) q.leads) (one_more q.done.semicolon)) (one_more refl)
    closes false = let q = row_leads (λ b. outside (field_due r b)) (mark symbols.Semicolon)
        field_kinds field_ends (FieldsDone r) (field_leads r) t.more nothing t.first in
        onward (onward (go h (omega arith) q.leads) stop) (one_more q.done.brace)

-- ---- what may follow a declaration

pub record DeclDone (g : GroupHole) (d : DeclTree) (s : FileState) : Type 0 where
  pub and_next : step declarations s (kinds.Keyword keywords.And)
      ≡ after_decl g d (kinds.Keyword keywords.And)
  pub type_next : step declarations s (kinds.Keyword keywords.Type)
      ≡ after_decl g d (kinds.Keyword keywords.Type)
  pub end_next : step declarations s (kinds.Symbol symbols.DoubleSemicolon)
      ≡ after_decl g d (kinds.Symbol symbols.DoubleSemicolon)
  pub accepts : file_accepted s ≡ Some (closed_decl g d)

-- ---- constructors

pub record ConstrRead (c : ConstrHole) (k : ConstrTree) : Type 0 where
  pub state : FileState
  pub leads : FileLed (outside (constr_due c)) (constr_kinds k) (constr_ends k) state
  pub bar_next : step declarations state (kinds.Symbol symbols.Bar) ≡ after_constr c k
      (kinds.Symbol symbols.Bar)
  pub done : DeclDone c.body.group (variant_with c k) state

pub record ListedDone (c : ConstrHole) (x : Name) (a : App) (m : List App) (s : FileState) : Type 0
  where
    pub bar_next : step declarations s (kinds.Symbol symbols.Bar)
        ≡ after_constr c (constr_with x (listed a m)) (kinds.Symbol symbols.Bar)
    pub done : DeclDone c.body.group (variant_with c (constr_with x (listed a m))) s

like_arguments : (c : ConstrHole) (x : Name) (kind : LexemeKind) (n : FileState) →
    step declarations (due (alone (listed_part c x nothing))) kind ≡ Some n →
    step declarations (outside (of_read c x)) kind ≡ Some n
like_arguments c x (kinds.Symbol symbols.OpenBrace) n h = absurd (cc)
like_arguments c x kind n h = h

pub constr_leads : (c : ConstrHole) (x : Name) (arguments : ArgumentsTree) →
    ConstrRead c (constr_with x arguments)
constr_leads c x no_arguments = record {
  state = outside (upper_read c x);
  leads = one_more refl;
  bar_next = refl;
  done = record {
    and_next = refl;
    type_next = refl;
    end_next = refl;
    accepts =
        refl;
  };
}
constr_leads c x (inline r) = record {
  state = outside (record_read (inline_record c x) r);
  leads = go refl (omega arith) (go refl (omega arith) (record_leads (outside (of_read c x))
      (inline_record c x) r refl));
  bar_next = refl;
  done = record { and_next = refl; type_next = refl; end_next = refl; accepts = refl };
}
constr_leads c x (listed a others) =
    let q = row_leads (λ b. due (alone (listed_part c x b))) (mark symbols.Star) app app_ends
    (ListedDone c x)
    (λ b y. record {
      state = read (alone (listed_part c x b)) y;
      leads = app_leads declarations y
          (alone (listed_part c x b));
      next = one_more refl;
      done =
          record {
            bar_next = refl;
            done = record {
              and_next = refl;
              type_next = refl;
              end_next =
                  refl;
              accepts = refl;
            };
          };
    }) others nothing a in
    let some : 0 < length (app a ++ each_after (mark symbols.Star) app others) =
    omega (
      arith,
      length-append (app a) (each_after (mark symbols.Star) app others),
      app_some a,
    ) in
    record {
      state = q.state;
      leads = go refl (omega arith) (go refl (omega arith) (starts_like (outside (of_read c x))
          (like_arguments c x) some q.leads));
      bar_next = q.done.bar_next;
      done = q.done.done;
    }

-- ---- bodies

pub record BodyRead (b : BodyHole) (body : BodyTree) : Type 0 where
  pub state : FileState
  pub leads : FileLed (outside (body_due b)) (body_kinds body) (body_ends body) state
  pub done : DeclDone b.group (decl_with b body) state

like_type : (b : BodyHole) (kind : LexemeKind) (n : FileState) →
    step declarations (due (first_part (whole (body_type b)))) kind ≡ Some n →
    step declarations (outside (body_due b)) kind ≡ Some n
like_type b (kinds.Symbol symbols.OpenBrace) n h = absurd (cc)
like_type b (kinds.Symbol symbols.Bar) n h = absurd (cc)
like_type b (kinds.Upper x) n h = absurd (cc)
like_type b kind n h = h

like_constr : (b : BodyHole) (kind : LexemeKind) (n : FileState) →
    step declarations (outside (constr_due (record { body = b; bar = false; before = nothing })))
    kind ≡ Some n → step declarations (outside (body_due b)) kind ≡ Some n
like_constr b (kinds.Upper x) n h = h
like_constr b kind n h = absurd (cc)

texpr_some : (t : Texpr) → 0 < length (texpr t)
texpr_some (single a) = app_some a
texpr_some (starred t a) = omega (
  arith,
  length-append (texpr t ++ mark symbols.Star) (app a),
  app_some a,
)

type_done : (b : BodyHole) (t : Texpr) → DeclDone b.group (decl_with b (type_body t))
    (type_read (whole (body_type b)) t)
type_done b (single a) = record {
  and_next = refl;
  type_next = refl;
  end_next = refl;
  accepts =
      refl;
}
type_done b (starred t a) = record {
  and_next = refl;
  type_next = refl;
  end_next = refl;
  accepts =
      refl;
}

abbrev pub VariantDone : BodyHole → Bool → ConstrTree → List ConstrTree → FileState → Type 0
VariantDone b bar f m s = DeclDone b.group (decl_with b (variant_body bar f m)) s

abbrev pub constrs_due : BodyHole → Bool → Before ConstrTree → FileState
constrs_due b bar before = outside (constr_due (record { body = b; bar = bar; before = before }))

constrs_lead : (b : BodyHole) (bar : Bool) (k : ConstrTree) (ks : List ConstrTree) →
    RowOn (constrs_due b bar) (mark symbols.Bar) constr_kinds constr_ends (VariantDone b bar)
    nothing k ks
constrs_lead b bar k ks = row_leads (constrs_due b bar) (mark symbols.Bar) constr_kinds constr_ends
    (VariantDone b bar)
    (λ before y. let q = constr_leads (record { body = b; bar = bar; before = before }) y.name
    y.arguments in record {
      state = q.state;
      leads = q.leads;
      next = one_more q.bar_next;
      done =
          q.done;
    }) ks nothing k

pub body_leads : (b : BodyHole) (body : BodyTree) → BodyRead b body
body_leads b (record_body r) = record {
  state = outside (record_read (body_record b) r);
  leads =
      record_leads (outside (body_due b)) (body_record b) r refl;
  done =
      record { and_next = refl; type_next = refl; end_next = refl; accepts = refl };
}
body_leads b (variant_body true k ks) = let q = constrs_lead b true k ks in
    record { state = q.state; leads = go refl (omega arith) q.leads; done = q.done }
body_leads b (variant_body false k ks) = let q = constrs_lead b false k ks in
    record {
      state = q.state;
      leads = starts_like (outside (body_due b)) (like_constr b)
          (omega arith) q.leads;
      done = q.done;
    }
body_leads b (type_body t) = record {
  state = type_read (whole (body_type b)) t;
  leads =
      starts_like (outside (body_due b)) (like_type b) (texpr_some t)
      (texpr_leads declarations t (whole (body_type b)));
  done = type_done b t;
}

-- ---- declarations, groups, files

pub record DeclRead (g : GroupHole) (d : DeclTree) : Type 0 where
  pub state : FileState
  pub leads : FileLed (outside (decl_due g)) (decl_kinds d) (decl_ends d) state
  pub done : DeclDone g d state

pub decl_leads : (g : GroupHole) (d : DeclTree) → DeclRead g d
decl_leads g d =
    let p = params_leads g d.params in
    let q = body_leads (record { group = g; params = d.params; name = d.name }) d.body in
    record {
      state = q.state;
      leads = onward
          (hushed (onward (onward p.leads (one_more (p.next d.name))) (one_more refl))) q.leads;
      done = q.done;
    }

pub record FileDone (gs : List GroupTree) (s : FileState) : Type 0 where
  pub type_next : step declarations s (kinds.Keyword keywords.Type)
      ≡ Some (outside (decl_due (record { groups = gs; decls = nothing })))
  pub accepts : file_accepted s ≡ Some gs

pub record GroupDone (gs : List GroupTree) (d : DeclTree) (m : List DeclTree) (s : FileState) : Type
    0 where
  pub end_next : step declarations s (kinds.Symbol symbols.DoubleSemicolon)
      ≡ Some (outside (file_due (gs ++ record { first = d; more = m; ended = true } ∷ [])))
  pub done : FileDone (gs ++ record { first = d; more = m; ended = false } ∷ []) s

pub record GroupRead (s : FileState) (gs : List GroupTree) (g : GroupTree) : Type 0 where
  pub state : FileState
  pub leads : FileLed s (group_kinds g) (group_ends g) state
  pub done : FileDone (gs ++ g ∷ []) state

decls_lead : (gs : List GroupTree) (d : DeclTree) (ds : List DeclTree) →
    RowOn (λ b. outside (decl_due (record { groups = gs; decls = b }))) (word keywords.And)
    decl_kinds decl_ends (GroupDone gs) nothing d ds
decls_lead gs d ds = row_leads (λ b. outside (decl_due (record { groups = gs; decls = b })))
    (word keywords.And) decl_kinds decl_ends (GroupDone gs)
    (λ b e. let q = decl_leads (record { groups = gs; decls = b }) e in
    record {
      state = q.state;
      leads = q.leads;
      next = one_more q.done.and_next;
      done =
          record {
            end_next = q.done.end_next;
            done = record {
              type_next = q.done.type_next;
              accepts =
                  q.done.accepts;
            };
          };
    }) ds nothing d

pub group_leads : (s : FileState) (gs : List GroupTree) (d : DeclTree) (ds : List DeclTree)
    (ended : Bool) → FileDone gs s → GroupRead s gs (record { first = d; more = ds; ended = ended })
group_leads s gs d ds true h = let q = decls_lead gs d ds in
    record {
      state = outside (file_due (gs ++ record { first = d; more = ds; ended = true } ∷ []));
      leads = onward (go h.type_next (omega arith) q.leads) (one_more q.done.end_next);
      done =
          record { type_next = refl; accepts = refl };
    }
group_leads s gs d ds false h = let q = decls_lead gs d ds in
    record {
      state = q.state;
      leads = onward (go h.type_next (omega arith) q.leads) stop;
      done =
          q.done.done;
    }

pub record FileRead (s : FileState) (gs groups : List GroupTree) : Type 0 where
  pub state : FileState
  pub leads : FileLed s (file_kinds groups) (file_ends groups) state
  pub accepts : file_accepted state ≡ Some (gs ++ groups)

groups_lead : (groups : List GroupTree) (s : FileState) (gs : List GroupTree) → FileDone gs s →
    FileRead s gs groups
groups_lead [] s gs h = record {
  state = s;
  leads = stop;
  accepts = h.accepts ∙ ap (λ g. Some g)
      (sym (append-nil gs));
}
groups_lead (g ∷ rest) s gs h =
    let q = group_leads s gs g.first g.more g.ended h in
    let r = groups_lead rest q.state (gs ++ g ∷ []) q.done in
    record {
      state = r.state;
      leads = onward q.leads r.leads;
      accepts = r.accepts ∙ ap (λ g. Some g)
          (append_assoc gs (g ∷ []) rest);
    }

pub file_leads : (groups : FileTree) → FileRead file_start [] groups
file_leads groups = groups_lead groups file_start [] (record { type_next = refl; accepts = refl })
