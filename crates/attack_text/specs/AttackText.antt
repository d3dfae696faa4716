-- How an attack is written: lines of words.
use Rattle.std.specs.Prelude.{ℕ, suc, List, [], ◌∷◌, ◌++◌, Bool, codes, decimal, flat_map, map, length}
use Rattle.column_lists.specs.Rows.{column_words}
use Rattle.linear_view.specs.View.{LinearView}
use Rattle.linear_view.specs.declared.column.Column.{Column}
use Rattle.attack_model.specs.declared.attack.Attack.{Attack}
use Rattle.attack_model.specs.declared.attack.Listing.{Listing}
use Rattle.attack_model.specs.declared.attack.Listing.TheVariants.{Probes, Large}
use Rattle.attack_model.specs.declared.attack.Probe.{Probe}
use Rattle.linear_view.specs.declared.operand.Side.{Side}
use Rattle.linear_view.specs.declared.operand.Side.TheVariants.{Left, Right}
use Rattle.attack_model.specs.declared.attack.Step.{Step}
use Rattle.text_lines.specs.Words.{line_text}

-- a side
abbrev pub side_word : Side → List ℕ
side_word Left = codes "left"
side_word Right = codes "right"

-- `core columns C products P`
abbrev pub core_words : (columns products : ℕ) → List (List ℕ)
core_words columns products = codes "core" ∷ codes "columns" ∷ decimal columns ∷ codes "products" ∷ decimal products ∷ []

-- `step I product P SIDE uses U U ..`
abbrev pub step_words : ℕ → Step → List (List ℕ)
step_words i step =
    codes "step" ∷ decimal i ∷ codes "product" ∷ decimal step.product ∷ side_word step.side ∷ codes "uses" ∷ map decimal step.uses

-- one line for each step, where the first has number i
abbrev pub steps_text : ℕ → List Step → List ℕ
steps_text i [] = []
steps_text i (step ∷ steps) = line_text (step_words i step) ++ steps_text (suc i) steps

-- `probe P L R`
abbrev pub probe_words : Probe → List (List ℕ)
probe_words probe = codes "probe" ∷ decimal probe.product ∷ decimal probe.left_share ∷ decimal probe.right_share ∷ []

-- one line for each probe
abbrev pub probes_text : List Probe → List ℕ
probes_text probes = flat_map (λ probe. line_text (probe_words probe)) probes

-- `probes T`
abbrev pub probes_count_text : ℕ → List ℕ
probes_count_text t = line_text (codes "probes" ∷ decimal t ∷ [])

-- the probes: how many they are and a line for each, or that they are too many to be listed
abbrev pub listing_text : Listing → List ℕ
listing_text (Probes probes) = probes_count_text (length probes) ++ probes_text probes
listing_text Large = line_text (codes "probes" ∷ codes "large" ∷ [])

-- `leak COLUMN COLUMN ..`
abbrev pub leak_text : List Column → List Bool → List ℕ
leak_text columns leak = line_text (codes "leak" ∷ column_words columns leak)

-- `steps N`
abbrev pub steps_count_text : ℕ → List ℕ
steps_count_text n = line_text (codes "steps" ∷ decimal n ∷ [])

-- how many steps there are, and a line for each
abbrev pub counted_steps_text : List Step → List ℕ
counted_steps_text steps = steps_count_text (length steps) ++ steps_text 0 steps

-- `root uses U U ..`
abbrev pub root_text : List ℕ → List ℕ
root_text uses = line_text (codes "root" ∷ codes "uses" ∷ map decimal uses)

-- the lines from the leak on, which both versions of the text have
abbrev pub body_text : LinearView → Attack → List ℕ
body_text view attack =
    leak_text view.columns attack.derivation.leak
    ++ (counted_steps_text attack.derivation.steps ++ (root_text attack.derivation.root ++ listing_text attack.listing))

-- the first two lines of version 2
abbrev pub head_text : (columns products : ℕ) → List ℕ
head_text columns products = line_text (codes "attack" ∷ codes "2" ∷ []) ++ line_text (core_words columns products)

-- the text of an attack on a circuit that has so many columns, of which the view may have only some, in version 2
abbrev pub attack_text_among : ℕ → LinearView → Attack → List ℕ
attack_text_among columns view attack = head_text columns (length view.products) ++ body_text view attack

-- the text of an attack on the circuit of a view that has all its columns, in version 2
abbrev pub attack_text : LinearView → Attack → List ℕ
attack_text view attack = attack_text_among (length view.columns) view attack

-- the text of the same attack in version 1: one line stands for the first two
abbrev pub first_version_text : LinearView → Attack → List ℕ
first_version_text view attack = line_text (codes "attack" ∷ []) ++ body_text view attack
