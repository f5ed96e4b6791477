use Rattle.std.proofs.Common.{sym, subst, subst₂}
use Rattle.types_table.specs.type_table.Made.{table_of}
use Rattle.check_stream.proofs.checker.Weaker.{taken_weaker, on_true_weaker}
use Rattle.check_stream.specs.mismatch_search.SearchTrail.{IsAfterHash, OnHash}
use Rattle.check_stream.specs.mismatch_search.Find.{Comes}
use Rattle.check_stream.proofs.mismatch_search.mismatch.Finding.come.Goals as goal

pub hash-requires : goal.hash-requires
hash-requires c = subst (λ asked. OnHash asked (IsAfterHash c.args.self.now.way)) c.in-Hash.is c.requires.hash

pub returns-in-Block : goal.returns-in-Block
returns-in-Block c =
    taken_weaker c.typed.result
    (λ comes. subst₂ (λ asked summary. Comes (table_of c.args.table.now) c.args.stated c.args.prefix.now c.args.self.now asked summary c.typed.new.self) (sym c.in-Type.is) (sym c.in-Block.is) comes)
    c.typed.ensures

pub returns-in_default : goal.returns-in_default
returns-in_default c =
    taken_weaker c.typed-in_default.result
    (λ comes. subst (λ asked. Comes (table_of c.args.table.now) c.args.stated c.args.prefix.now c.args.self.now asked c.args.summary c.typed-in_default.new.self) (sym c.in-Type.is) comes)
    c.typed-in_default.ensures

pub returns-in-Hash : goal.returns-in-Hash
returns-in-Hash c =
    on_true_weaker c.hash.result
    (λ comes. subst (λ asked. Comes (table_of c.args.table.now) c.args.stated c.args.prefix.now c.args.self.now asked c.args.summary c.hash.new.self) (sym c.in-Hash.is) (comes (table_of c.args.table.now) c.args.stated c.args.prefix.now))
    c.hash.ensures

pub returns-in-Nothing : goal.returns-in-Nothing
returns-in-Nothing c =
    taken_weaker c.below.result
    (λ comes. subst (λ asked. Comes (table_of c.args.table.now) c.args.stated c.args.prefix.now c.args.self.now asked c.args.summary c.below.new.self) (sym c.in-Nothing.is) (comes (table_of c.args.table.now) c.args.prefix.now))
    c.below.ensures
