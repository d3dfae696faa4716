-- The masked run of a core: equation by equation on sharings of d words of B bits.
use Rattle.std.specs.Prelude.{ℕ, ◌+◌, ◌*◌, ◌%◌, ◌^◌, List, [], ◌∷◌, ◌++◌, map, slice_index, slice_index_or}
use Rattle.usuba0.specs.declared.circuit.Gate.{Gate}
use Rattle.usuba0.specs.declared.circuit.Gate.TheVariants as gate
use Rattle.usuba0.specs.declared.circuit.Reg.{Reg}
use Rattle.usuba0.specs.Circuit.{Circuit, products_of, refreshes_of}
use Rattle.usuba0.specs.Term.{ones, word_of_constant, shifted_left, shifted_right, rotated_left}
use Rattle.share_gadgets.specs.Gadgets.{xor_shares, not_shares, mask_shares, constant_shares, pairs, product_shares, refreshed_shares}

-- 1 for an equation that draws random words, a product or a refresh, else 0
abbrev pub draws : Gate → ℕ
draws (gate.Const c) = 0
draws (gate.Xor a b) = 0
draws (gate.Not a) = 0
draws (gate.Mask c a) = 0
draws (gate.And a b) = 1
draws (gate.Shl k a) = 0
draws (gate.Shr k a) = 0
draws (gate.Rotl k a) = 0
draws (gate.Refresh a) = 1

-- the random word of the pair with this number in the drawing equation q: the word at this place, cut to B bits
abbrev pub drawn_word : ℕ → ℕ → List ℕ → ℕ → ℕ → ℕ
drawn_word B d words q number = slice_index words (q * pairs d + number) % 2 ^ B

-- the sharing of a register among the sharings of all registers so far
abbrev pub sharing_at : List (List ℕ) → Reg → List ℕ
sharing_at sharings r = slice_index_or sharings r.0 []

-- the sharing that an equation makes at width w, given the random word of each pair and the sharings of the earlier registers
abbrev pub sharing_of_equation : ℕ → ℕ → ℕ → (ℕ → ℕ) → List (List ℕ) → Gate → List ℕ
sharing_of_equation w B d random sharings (gate.Const c) = constant_shares d (word_of_constant w B c)
sharing_of_equation w B d random sharings (gate.Xor a b) = xor_shares d (sharing_at sharings a) (sharing_at sharings b)
sharing_of_equation w B d random sharings (gate.Not a) = not_shares (ones B) (sharing_at sharings a)
sharing_of_equation w B d random sharings (gate.Mask c a) = mask_shares (word_of_constant w B c) (sharing_at sharings a)
sharing_of_equation w B d random sharings (gate.And a b) = product_shares d (sharing_at sharings a) (sharing_at sharings b) random
sharing_of_equation w B d random sharings (gate.Shl k a) = map (shifted_left B k) (sharing_at sharings a)
sharing_of_equation w B d random sharings (gate.Shr k a) = map (shifted_right k) (sharing_at sharings a)
sharing_of_equation w B d random sharings (gate.Rotl k a) = map (rotated_left B k) (sharing_at sharings a)
sharing_of_equation w B d random sharings (gate.Refresh a) = refreshed_shares d (sharing_at sharings a) random

-- the sharings of all registers after the equations, before which q equations drew
abbrev pub run_shared : ℕ → ℕ → ℕ → List ℕ → ℕ → List (List ℕ) → List Gate → List (List ℕ)
run_shared w B d words q sharings [] = sharings
run_shared w B d words q sharings (g ∷ gs) =
    run_shared w B d words (q + draws g) (sharings ++ sharing_of_equation w B d (drawn_word B d words q) sharings g ∷ []) gs

-- the sharings of the outputs, for given sharings of the inputs and a list of random words
abbrev pub masked_run : ℕ → ℕ → Circuit → List (List ℕ) → List ℕ → List (List ℕ)
masked_run B d core inputs words = map (sharing_at (run_shared core.width B d words 0 inputs core.equations)) core.outputs

-- how many random words a run draws
abbrev pub words_drawn : ℕ → Circuit → ℕ
words_drawn d core = (products_of core.equations + refreshes_of core.equations) * pairs d
