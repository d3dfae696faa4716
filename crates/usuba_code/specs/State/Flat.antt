-- The flat lists of a table, cut at running ends.
use Rattle.std.specs.Prelude.{ℕ, ◌≤◌, List, [], ◌∷◌, length, drop, slice_range}
use Rattle.usuba_code.specs.declared.operation.Operation.{Operation}
use Rattle.usuba_code.specs.declared.table.Ends.{Ends}
use Rattle.usuba_code.specs.declared.table.Left.{Left}
use Rattle.usuba_code.specs.Code.{Assigned, Coded, Built}

-- where the cells of the last of some left sides end
abbrev pub last_cell : ℕ → List Left → ℕ
last_cell from [] = from
last_cell from (left ∷ rest) = last_cell left.end rest

-- where the parts of the last of some instances end
abbrev pub last_ends : Ends → List Ends → Ends
last_ends from [] = from
last_ends from (ends ∷ rest) = last_ends ends rest

-- where nothing ends yet
abbrev pub no_ends : Ends
no_ends = record { lefts = 0; code = 0 }

-- left sides with their cells, from a place in the list of cells on
abbrev pub cut_lefts : ℕ → List Left → List ℕ → List Assigned
cut_lefts from [] cells = []
cut_lefts from (left ∷ rest) cells =
    record { place = left.place; cells = slice_range cells from left.end } ∷ cut_lefts left.end rest cells

-- instances with their left sides and their code, from a place in each list on
abbrev pub cut_instances : Ends → List Ends → List Assigned → List Operation → List Coded
cut_instances from [] targets code = []
cut_instances from (ends ∷ rest) targets code =
    record { targets = slice_range targets from.lefts ends.lefts; code = slice_range code from.code ends.code }
    ∷ cut_instances ends rest targets code

-- what the flat lists stand for: what is past the last ends belongs to the next instance
abbrev pub built : List Left → List ℕ → List Operation → List Ends → Built
built lefts cells code instances =
    let targets = cut_lefts 0 lefts cells in
    record {
      done = cut_instances no_ends instances targets code;
      targets = drop (last_ends no_ends instances).lefts targets;
      cells = drop (last_cell 0 lefts) cells;
      code = drop (last_ends no_ends instances).code code;
    }

-- ends of left sides rise from a place, up to a bound
abbrev pub LeftsRise : ℕ → List Left → ℕ → Type 0
LeftsRise from [] bound = from ≤ bound
LeftsRise from (left ∷ rest) bound = (from ≤ left.end) × LeftsRise left.end rest bound

-- ends of instances rise from a place, up to a bound
abbrev pub EndsRise : Ends → List Ends → Ends → Type 0
EndsRise from [] bound = (from.lefts ≤ bound.lefts) × (from.code ≤ bound.code)
EndsRise from (ends ∷ rest) bound = (from.lefts ≤ ends.lefts) × (from.code ≤ ends.code) × EndsRise ends rest bound

-- what holds of the flat lists of every table: ends rise, up to the lengths of the lists
pub record IsFlat (lefts : List Left) (cells : List ℕ) (code : List Operation) (instances : List Ends) : Type 0 where
  pub lefts_rise : LeftsRise 0 lefts (length cells)
  pub ends_rise : EndsRise no_ends instances (record { lefts = length lefts; code = length code })
