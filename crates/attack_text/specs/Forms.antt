-- The forms of the lines of an attack text, by their words, and what a line of its form says. Numbers may be of any size here.
use Rattle.std.specs.Prelude.{ℕ, ◌==◌, Bool, true, false, ◌&&◌, if◌then◌else◌, List, [], ◌∷◌, map, codes, Option, None, Some}
use Rattle.std.specs.List.{list_all}
use Rattle.std.specs.Str.{bytes_eq}
use Rattle.attack_model.specs.declared.attack.Probe.{Probe}
use Rattle.linear_view.specs.declared.operand.Side.{Side}
use Rattle.linear_view.specs.declared.operand.Side.TheVariants.{Left, Right}
use Rattle.attack_model.specs.declared.attack.Step.{Step}
use Rattle.column_lists.specs.Names.{are_columns}
use Rattle.text_lines.specs.Numbers.{is_number, value_of}

-- the side that a word names
abbrev pub side_of : List ℕ → Option Side
side_of word = if bytes_eq word (codes "left") then Some Left else (if bytes_eq word (codes "right") then Some Right else None)

-- the first line: whether it is that of version 2, `attack 2`, and not that of version 1, `attack`
abbrev pub version_form : List (List ℕ) → Option Bool
version_form (attack ∷ []) = if bytes_eq attack (codes "attack") then Some false else None
version_form (attack ∷ two ∷ []) = if bytes_eq attack (codes "attack") && bytes_eq two (codes "2") then Some true else None
version_form _ = None

-- what the line `core` says
pub record Counts : Type 0 where
  pub columns : ℕ
  pub products : ℕ

-- `core columns C products P`
abbrev pub core_form : List (List ℕ) → Option Counts
core_form (core ∷ columns ∷ c ∷ products ∷ p ∷ []) =
    if bytes_eq core (codes "core") && bytes_eq columns (codes "columns") && is_number c && bytes_eq products (codes "products") && is_number p
    then Some (record { columns = value_of c; products = value_of p }) else None
core_form _ = None

-- `leak COLUMN COLUMN ..`: the words of the columns
abbrev pub leak_form : List (List ℕ) → Option (List (List ℕ))
leak_form (leak ∷ columns) =
    if bytes_eq leak (codes "leak") && are_columns columns then Some columns else None
leak_form _ = None

-- `steps N`: the number
abbrev pub steps_form : List (List ℕ) → Option ℕ
steps_form (steps ∷ n ∷ []) = if bytes_eq steps (codes "steps") && is_number n then Some (value_of n) else None
steps_form _ = None

-- a step of this product with these uses, on the side that a word names
abbrev pub step_on : ℕ → List ℕ → Option Side → Option Step
step_on product uses None = None
step_on product uses (Some side) = Some (record { product = product; side = side; uses = uses })

-- `step I product P SIDE uses U U ..`, where the I that is due is given
abbrev pub step_form : ℕ → List (List ℕ) → Option Step
step_form i (step ∷ index ∷ product ∷ p ∷ side ∷ uses ∷ us) =
    if bytes_eq step (codes "step") && is_number index && value_of index == i && bytes_eq product (codes "product") && is_number p
    && bytes_eq uses (codes "uses") && list_all is_number us
    then step_on (value_of p) (map value_of us) (side_of side) else None
step_form i _ = None

-- `root uses U U ..`: the uses
abbrev pub root_form : List (List ℕ) → Option (List ℕ)
root_form (root ∷ uses ∷ us) =
    if bytes_eq root (codes "root") && bytes_eq uses (codes "uses") && list_all is_number us then Some (map value_of us) else None
root_form _ = None

-- `probes large`, or `probes T` with its number
abbrev pub listing_form : List (List ℕ) → Option (Option ℕ)
listing_form (probes ∷ t ∷ []) =
    if bytes_eq probes (codes "probes")
    then (if bytes_eq t (codes "large") then Some None else (if is_number t then Some (Some (value_of t)) else None))
    else None
listing_form _ = None

-- `probe P L R`
abbrev pub probe_form : List (List ℕ) → Option Probe
probe_form (probe ∷ p ∷ l ∷ r ∷ []) =
    if bytes_eq probe (codes "probe") && is_number p && is_number l && is_number r
    then Some (record { product = value_of p; left_share = value_of l; right_share = value_of r }) else None
probe_form _ = None
