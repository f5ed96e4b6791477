-- The grammar of a type expression by itself, with nothing around it.
use Rattle.std.specs.Prelude.{Option, Some, None, []}
use Rattle.types_parse.specs.grammar.Grammar.{Texpr, single, starred}
use Rattle.types_parse.specs.grammar.Holes.{Outer, HoleState, due, read, first_part, next_part}
use Rattle.types_parse.specs.grammar.Holes.{whole}

pub data End : Type 0 where
  end : End

pub data Nowhere : Type 0 where

abbrev pub TypeState : Type 0
TypeState = HoleState End Nowhere Nowhere

abbrev pub nowhere : {X : Type 0} → Nowhere → X
nowhere q = elim q [ ]

abbrev pub types : Outer End Nowhere Nowhere Texpr
types = record {
  type_step = λ w t kind. None;
  part_step = λ q a kind. None;
  outside_step = λ q kind. None;
  prefix_of_type = λ w. [];
  prefix_of_part = λ q. [];
  prefix_of_outside = λ q. [];
  open_of_type = λ w. 0;
  open_of_part = λ q. 0;
  open_of_outside = λ q. 0;
  closed_round_type = λ w t. t;
  closed_round_part = λ q a. single a;
}

abbrev pub type_start : TypeState
type_start = due (first_part (whole end))

abbrev pub type_accepted : TypeState → Option Texpr
type_accepted (read (first_part (whole end)) a) = Some (single a)
type_accepted (read (next_part (whole end) t) a) = Some (starred t a)
type_accepted s = None
