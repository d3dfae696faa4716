-- How a core is written.
use Rattle.std.specs.Prelude.{ℕ, suc, List, [], ◌∷◌, ◌++◌, codes, decimal, flat_map}
use Rattle.usuba0.specs.declared.circuit.Gate.{Gate}
use Rattle.usuba0.specs.declared.circuit.Gate.TheVariants as gate
use Rattle.usuba0.specs.declared.circuit.Reg.{Reg}
use Rattle.usuba0.specs.Circuit.{Circuit}

-- a register: `r` and its number
abbrev pub register_text : ℕ → List ℕ
register_text k = codes "r" ++ decimal k

-- a word, a blank and a register
abbrev pub one_text : List ℕ → Reg → List ℕ
one_text name a = name ++ codes " " ++ register_text a.0

-- the same with a second register
abbrev pub two_text : List ℕ → Reg → Reg → List ℕ
two_text name a b = one_text name a ++ codes " " ++ register_text b.0

-- a word, a blank and a number
abbrev pub number_text : List ℕ → ℕ → List ℕ
number_text name k = name ++ codes " " ++ decimal k

-- the right side of an equation
abbrev pub gate_text : Gate → List ℕ
gate_text (gate.Const c) = number_text (codes "const") c
gate_text (gate.Xor a b) = two_text (codes "xor") a b
gate_text (gate.Not a) = one_text (codes "not") a
gate_text (gate.Mask c a) = one_text (number_text (codes "mask") c) a
gate_text (gate.And a b) = two_text (codes "and") a b
gate_text (gate.Shl k a) = one_text (number_text (codes "shl") k) a
gate_text (gate.Shr k a) = one_text (number_text (codes "shr") k) a
gate_text (gate.Rotl k a) = one_text (number_text (codes "rotl") k) a
gate_text (gate.Refresh a) = one_text (codes "refresh") a

-- the line of the equation that makes register k
abbrev pub equation_text : ℕ → Gate → List ℕ
equation_text k g = register_text k ++ codes " = " ++ gate_text g ++ codes "\n"

-- one line for each equation, where the first makes register k
abbrev pub equations_text : ℕ → List Gate → List ℕ
equations_text k [] = []
equations_text k (g ∷ gs) = equation_text k g ++ equations_text (suc k) gs

-- an output register after a blank
abbrev pub output_text : Reg → List ℕ
output_text r = codes " " ++ register_text r.0

-- the output registers
abbrev pub outputs_text : List Reg → List ℕ
outputs_text rs = flat_map output_text rs

-- the first two lines
abbrev pub head_text : ℕ → ℕ → List ℕ
head_text w n = number_text (codes "width") w ++ codes "\n" ++ number_text (codes "inputs") n ++ codes "\n"

-- the text of a core: lines that end in LF, words parted by one blank, numbers in decimal
abbrev pub core_text : Circuit → List ℕ
core_text core =
    head_text core.width core.inputs ++ equations_text core.inputs core.equations ++ codes "outputs" ++ outputs_text core.outputs ++ codes "\n"
