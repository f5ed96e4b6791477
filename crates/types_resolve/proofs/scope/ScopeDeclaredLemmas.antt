-- The declaration of a name is the first declaration with the name.
use Rattle.std.proofs.Common.{ℕ, zero, suc, ◌<◌, ◌≡◌, ◌≢◌, Option, Some, None, List, [], ◌∷◌, Bool}
use Rattle.std.proofs.Common.{true, false, cond, length, get_or, refl, sym, ap, subst, arith, ◌∙◌}
use Rattle.std.specs.Prelude.{slice_get, option_map, is_some, IsSome, IsTrue, ◌↔◌}
use Rattle.std.specs.Str.{bytes_eq}
use Rattle.std.proofs.lemmas.Slice.Eq.{bytes_eq-Decides}
use Rattle.std.proofs.lemmas.Option.{slice_get-map, same_Some, none-some}
use Rattle.std.proofs.lemmas.Option.{slice_get_read}
use Rattle.types_spec.specs.declared.types.decl.Decl.{Decl}
use Rattle.types_spec.specs.declared.types.decl.Predeclared.{Predeclared}
use Rattle.types_spec.specs.declared.types.decl.Predeclared.{Predeclared}
use Rattle.types_spec.specs.types.Declarations.{declaration_of, predeclared_arity}
use Rattle.types_resolve.specs.scope.NamePositions.{IsFirstPosition, IsPosition}
use Rattle.types_resolve.specs.scope.Breaks.{names_of_decls}

same_bytes : (xs ys : List ℕ) → xs ≡ ys → bytes_eq xs ys ≡ true
same_bytes xs ys e = (bytes_eq-Decides xs ys).1 e

by_value : (b : Bool) → (b ≡ true → ⊥) → b ≡ false
by_value true never = absurd (never refl)
by_value false never = refl

other_bytes : (xs ys : List ℕ) → xs ≢ ys → bytes_eq xs ys ≡ false
other_bytes xs ys apart = by_value (bytes_eq xs ys) (λ yes. apart ((bytes_eq-Decides xs ys).0 yes))

pub find_first :
    (decls : List Decl) (name : List ℕ) (j : ℕ) (d : Decl) → slice_get decls j ≡ Some d
    → d.name ≡ name → ((i : ℕ) → i < j → slice_get (names_of_decls decls) i ≢ Some name)
    → declaration_of decls name ≡ Some d
find_first [] name j d at same first = absurd (none-some d at)
find_first (e ∷ es) name zero d at same first =
    ap (λ b. cond b (Some e) (declaration_of es name))
    (same_bytes e.name name (ap (λ (x : Decl). x.name) (same_Some e d at) ∙ same)) ∙ at
find_first (e ∷ es) name (suc j) d at same first =
    ap (λ b. cond b (Some e) (declaration_of es name))
    (other_bytes e.name name (λ is. first 0 (omega arith) (ap Some is)))
    ∙ find_first es name j d at same (λ i below. first (suc i) (omega arith))

pub find_none :
    (decls : List Decl) (name : List ℕ)
    → ((i : ℕ) → i < length decls → slice_get (names_of_decls decls) i ≢ Some name)
    → declaration_of decls name ≡ None
find_none [] name none = refl
find_none (e ∷ es) name none =
    ap (λ b. cond b (Some e) (declaration_of es name))
    (other_bytes e.name name (λ is. none 0 (omega arith) (ap Some is)))
    ∙ find_none es name (λ i below. none (suc i) (omega arith))

-- The number of a name is the index of its declaration.
pub found_at :
    (decls : List Decl) (name : List ℕ) (j : ℕ)
    → IsFirstPosition (names_of_decls decls) (length decls) name j
    → (d : Decl) → d ≡ get_or decls j d → Some d ≡ declaration_of decls name
found_at decls name j position d read =
    let at : slice_get decls j ≡ Some d = slice_get_read decls (length decls) j d refl position.below read in
    let named : Some d.name ≡ Some name = sym (ap (option_map (λ (x : Decl). x.name)) at)
    ∙ sym (slice_get-map (λ (x : Decl). x.name) decls j) ∙ position.is in
    sym (find_first decls name j d at (same_Some d.name name named) position.first)

pub position_of :
    (names : List (List ℕ)) (n : ℕ) (name : List ℕ) (found : Option ℕ) (j : ℕ) → found ≡ Some j
    → IsPosition names n name found
    → IsFirstPosition names n name j
position_of names n name None j is at = absurd (none-some j is)
position_of names n name (Some i) j is at = subst (IsFirstPosition names n name) (same_Some i j is) at

pub nowhere :
    (names : List (List ℕ)) (n : ℕ) (name : List ℕ) (found : Option ℕ) → found ≡ None
    → IsPosition names n name found
    → (i : ℕ) → i < n → slice_get names i ≢ Some name
nowhere names n name None is at = at
nowhere names n name (Some i) is at = absurd (none-some i (sym is))

-- The name at index `j` of the declared names is the name of declaration `j`.
pub decl_named :
    (decls : List Decl) (j : ℕ) (d : Decl) → j < length decls → d ≡ get_or decls j d
    → slice_get (names_of_decls decls) j ≡ Some d.name
decl_named decls j d below read = slice_get-map (λ (x : Decl). x.name) decls j
    ∙ ap (option_map (λ (x : Decl). x.name)) (slice_get_read decls (length decls) j d refl below read)

-- A name is predeclared if and only if the name has a predeclared arity.
pub known :
    (base : Option Predeclared) (test : Bool)
    → test ≡ is_some (option_map predeclared_arity base) → IsTrue test ↔ IsSome base
known None test is = (λ yes. sym is ∙ yes, λ never. is ∙ never)
known (Some b) test is = (λ yes. refl, λ some. is)
