-- The table reads every type that stands alone.
use Rattle.std.proofs.Common.{◌≡◌, Some, refl, sym, ap}
use Rattle.types_parse.specs.grammar.Grammar.{Texpr, single, starred, texpr}
use Rattle.types_parse.specs.grammar.Depths.{texpr_ends}
use Rattle.types_parse.proofs.grammar.Stands.{alone as here_alone, texpr_even}
use Rattle.types_parse.proofs.grammar.TypeGrammarTableLemmas.{Reads}
use Rattle.types_parse.specs.grammar.Holes.{
  read,
  first_part,
  next_part,
  whole,
  step,
  prefix,
  still_open,
  ended,
}
use Rattle.types_parse.specs.grammar.Alone.{end, TypeState, types, type_start, type_accepted}
use Rattle.types_parse.proofs.grammar.HolesPrefixes.{step_adds}
use Rattle.types_parse.proofs.grammar.HolesLead.{type_read, texpr_leads}
use Rattle.types_parse.proofs.grammar.HolesStand.{completes}

pub accepts : (t : Texpr) → type_accepted (type_read (whole end) t) ≡ Some t
accepts (single a) = refl
accepts (starred t a) = refl

accepted_prefix : (s : TypeState) (t : Texpr) → type_accepted s ≡ Some t → texpr t ≡ prefix types s
accepted_prefix (read (first_part (whole end)) a) t h = let e : single a ≡ t = cc in ap texpr (sym e)
accepted_prefix (read (next_part (whole end) u) a) t h = let e : starred u a ≡ t = cc in
    ap texpr (sym e)
accepted_prefix s t h = absurd (cc)

pub type_table : Reads texpr texpr_ends (step types) type_start (prefix types) (still_open types)
    ended type_accepted
type_table = record {
  final = type_read (whole end);
  leads = λ t. texpr_leads types t (whole end);
  accepts = accepts;
  accepted_prefix = accepted_prefix;
  start_prefix = refl;
  start_open = refl;
  adds = step_adds types (λ w t kind. tt) (λ q a kind. tt) (λ q kind. tt);
  completes = completes types texpr texpr_ends (λ w t. here_alone (texpr t) (texpr_ends t)
      (texpr_even t)) (λ q a. elim q [ ]) (λ q. elim q [ ]);
}
