-- The rules on names, stated over the occurrences that the code collects for a declaration.
use Rattle.std.specs.Prelude.{ℕ, ◌<◌, ◌⊎◌, ◌≡◌, ◌≢◌, IsTrue, List, Some, None, Option}
use Rattle.std.specs.Prelude.{slice_get, Contains, map, length, IsSome}
use Rattle.types_spec.specs.declared.types.decl.Decl.{Decl}
use Rattle.types_spec.specs.types.Declarations.{arity_of, declaration_of, predeclared}
use Rattle.types_spec.specs.types.Occurrence.{Placed}
use Rattle.types_spec.specs.types.Scope.{Rule, IsSecond, twice, unknown_name, arity}
use Rattle.types_spec.specs.types.Scope.{unbound_variable, cyclic, irregular, too_many_constructors}
use Rattle.types_resolve.specs.declared.scope.site.TypeUse.{TypeUse}
use Rattle.types_resolve.specs.declared.scope.site.Site.{Site}
use Rattle.types_resolve.specs.declared.scope.site.TypeSite.{TypeSite}
use Rattle.types_resolve.specs.declared.scope.rule.NameRule.{NameRule}
use Rattle.types_resolve.specs.declared.scope.rule.NameRule.TheVariants as names
use Rattle.types_resolve.specs.declared.scope.rule.UseRule.{UseRule}
use Rattle.types_resolve.specs.declared.scope.rule.UseRule.TheVariants as use_rules

abbrev pub names_of_decls : List Decl → List (List ℕ)
names_of_decls decls = map (λ (d : Decl). d.name) decls

-- The declaration does not exist, or belongs to a later group than `group`.
abbrev pub Later : Option Decl → Option ℕ → Type 0
Later None group = Unit {0}
Later (Some d) None = ⊥
Later (Some d) (Some group) = group < d.group

-- The declaration exists and belongs to the group `group`.
abbrev pub OfGroup : Option Decl → Option ℕ → Type 0
OfGroup None group = ⊥
OfGroup (Some d) None = ⊥
OfGroup (Some d) (Some group) = d.group ≡ group

-- The arity is known and differs from the number of arguments.
abbrev pub IsOther : Option ℕ → ℕ → Type 0
IsOther None arguments = ⊥
IsOther (Some n) arguments = n ≢ arguments

-- A use breaks a rule. If the use is in a declaration, `group` is the group of the declaration. If
-- the use is in the text of a type, `group` is `None`.
abbrev pub BreaksUse : UseRule → List Decl → Option ℕ → TypeUse → Type 0
BreaksUse use_rules.UnknownName decls group u =
    (predeclared u.name ≡ None) × Later (declaration_of decls u.name) group
BreaksUse use_rules.Arity decls group u = IsOther (arity_of decls u.name) u.arguments
BreaksUse use_rules.Irregular decls group u =
    IsTrue u.grows × OfGroup (declaration_of decls u.name) group

abbrev pub UsesBreak : UseRule → List Decl → Option ℕ → List TypeUse → ℕ → Type 0
UsesBreak rule decls group uses k =
    (u : TypeUse) × Contains uses u × ((u.position ≡ k) × BreaksUse rule decls group u)

-- The name at lexeme `k` is predeclared.
abbrev pub IsPredeclaredAt : List Placed → ℕ → Type 0
IsPredeclaredAt names k =
    (p : Placed) × Contains names p × ((p.0 ≡ k) × IsSome (predeclared p.1))

-- The name at lexeme `k` also occurs at an earlier position, or is predeclared.
abbrev pub NamesTwice : List Placed → ℕ → Type 0
NamesTwice names k = IsSecond names k ⊎ IsPredeclaredAt names k

-- The variable at lexeme `k` is not a parameter.
abbrev pub VariablesBreak : List (List ℕ) → List Placed → ℕ → Type 0
VariablesBreak parameters variables k =
    (v : Placed) × Contains variables v × ((v.0 ≡ k) × (¬ Contains parameters v.1))

-- The occurrences in a declaration break a rule at lexeme `k`. A single declaration never breaks
-- the rule against cycles.
abbrev pub SiteBreaks : NameRule → List Decl → Decl → Site → ℕ → Type 0
SiteBreaks names.Twice decls d site k =
    (row : List Placed) × Contains site.rows row × IsSecond row k
SiteBreaks names.UnknownName decls d site k =
    UsesBreak use_rules.UnknownName decls (Some d.group) site.uses k
SiteBreaks names.Arity decls d site k = UsesBreak use_rules.Arity decls (Some d.group) site.uses k
SiteBreaks names.UnboundVariable decls d site k =
    VariablesBreak d.parameters site.variables k
SiteBreaks names.Irregular decls d site k =
    UsesBreak use_rules.Irregular decls (Some d.group) site.uses k
SiteBreaks names.Cyclic decls d site k = ⊥
SiteBreaks names.TooManyConstructors decls d site k = slice_get site.carrying 244 ≡ Some k

-- The scope rule (`Rule`) that corresponds to a `NameRule` of the code.
abbrev pub rule_of : NameRule → Rule
rule_of names.Twice = twice
rule_of names.UnknownName = unknown_name
rule_of names.Arity = arity
rule_of names.UnboundVariable = unbound_variable
rule_of names.Cyclic = cyclic
rule_of names.Irregular = irregular
rule_of names.TooManyConstructors = too_many_constructors

-- The check of the rules `Cyclic` and `Irregular` presupposes that no name is declared twice.
abbrev pub WantsDistinctNames : NameRule → Type 0
WantsDistinctNames names.Cyclic = Unit {0}
WantsDistinctNames names.Irregular = Unit {0}
WantsDistinctNames rule = ⊥

-- The occurrences in declaration `i` break a rule at lexeme `k`.
abbrev pub BreaksAt : NameRule → List Decl → List Site → ℕ → ℕ → Type 0
BreaksAt rule decls sites i k =
    (d : Decl) × (site : Site) × (slice_get decls i ≡ Some d) × (slice_get sites i ≡ Some site)
    × SiteBreaks rule decls d site k

-- The occurrences in some declaration break a rule at lexeme `k`.
abbrev pub SitesBreak : NameRule → List Decl → List Site → ℕ → Type 0
SitesBreak rule decls sites k =
    (i : ℕ) × (i < length decls) × BreaksAt rule decls sites i k

-- The declared name at lexeme `k` breaks a rule.
abbrev pub NameBreaks : NameRule → List Placed → ℕ → Type 0
NameBreaks names.Twice declared k = NamesTwice declared k
NameBreaks rule declared k = ⊥

-- The occurrences in the text of a type break a rule at lexeme `k`.
abbrev pub TypeBreaks : NameRule → List Decl → TypeSite → ℕ → Type 0
TypeBreaks names.Twice decls site k =
    (row : List Placed) × Contains site.rows row × IsSecond row k
TypeBreaks names.UnknownName decls site k =
    UsesBreak use_rules.UnknownName decls None site.uses k
TypeBreaks names.Arity decls site k = UsesBreak use_rules.Arity decls None site.uses k
TypeBreaks rule decls site k = ⊥
