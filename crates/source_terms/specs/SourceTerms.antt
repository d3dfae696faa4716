-- The terms of a source: the rounds of its meaning with terms in place of words; and its core.
use Rattle.std.specs.Prelude.{ℕ, zero, suc, List, [], ◌∷◌, map, reverse, Option, option_map}
use Rattle.std.specs.List.{range_with_len}
use Rattle.usuba_trees.specs.declared.BitOp.{BitOp}
use Rattle.usuba_trees.specs.declared.BitOp.TheVariants as bits
use Rattle.usuba_trees.specs.declared.Def.{Def}
use Rattle.usuba_trees.specs.declared.File.{File}
use Rattle.usuba_trees.specs.declared.ShiftKind.{ShiftKind}
use Rattle.usuba_trees.specs.declared.ShiftKind.TheVariants as kind
use Rattle.usuba0.specs.declared.builder.Turn.{Turn}
use Rattle.usuba0.specs.declared.builder.Turn.TheVariants as turn
use Rattle.usuba0.specs.Circuit.{Circuit}
use Rattle.usuba0.specs.CoreOfTerms.{core_of_terms}
use Rattle.usuba0.specs.Term.{Term, Input, Const, xor_term, and_term, or_term, not_term, shift_term, refresh_term}
use Rattle.usuba_model.specs.Judging.{name_at}
use Rattle.usuba_model.specs.Rounds.{Operators, outcomes}
use Rattle.usuba_model.specs.Walk.{signature}
use Rattle.table_anf.specs.TableTerms.{table_term}

-- what `&`, `^` and `|` make of terms, at width w
abbrev pub term_operation : ℕ → BitOp → Term → Term → Term
term_operation w bits.And a b = and_term a b
term_operation w bits.Xor a b = xor_term a b
term_operation w bits.Or a b = or_term w a b

-- the shift or rotation of terms that a source's shift stands for
abbrev pub turn_of : ShiftKind → Turn
turn_of kind.Left = turn.Left
turn_of kind.Right = turn.Right
turn_of kind.RotLeft = turn.RotLeft
turn_of kind.RotRight = turn.RotRight

-- operators that make terms by the rules of terms, at width w
abbrev pub term_operators : ℕ → Operators Term
term_operators w = record {
  number_of = Const;
  complement_of = not_term w;
  operation_of = term_operation w;
  shift_of = λ way amount a. shift_term w (turn_of way) amount a;
  refresh_of = refresh_term;
  look_up = table_term w;
}

-- how many input elements the definition at a number has
abbrev pub inputs_of : List Def → ℕ → ℕ
inputs_of [] k = 0
inputs_of (d ∷ rest) zero = (signature d).inputs
inputs_of (d ∷ rest) (suc k) = inputs_of rest k

-- the terms of the entry's outputs at width w, where input i of n inputs is `Input(i)`
abbrev pub source_terms : ℕ → File → ℕ → Option (List Term)
source_terms w file entry =
    outcomes (term_operators w) (reverse file.defs) (name_at file.defs entry) (map Input (range_with_len 0 (inputs_of file.defs entry)))

-- the core of a source is that of its terms
abbrev pub core_of_source : ℕ → File → ℕ → Option Circuit
core_of_source w file entry = option_map (core_of_terms w (inputs_of file.defs entry)) (source_terms w file entry)
