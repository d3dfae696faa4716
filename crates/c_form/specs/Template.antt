-- The gadgets of the C that is printed, as trees. A word has so many bits, and the mask is the word of as many ones.
use Rattle.std.specs.Prelude.{ℕ, List, [], ◌∷◌, ◌++◌, codes}
use Rattle.c_tree.specs.declared.CExpr.{CExpr}
use Rattle.c_tree.specs.declared.CExpr.TheVariants as e
use Rattle.c_tree.specs.declared.CFun.{CFun}
use Rattle.c_tree.specs.declared.CIndex.TheVariants as index
use Rattle.c_tree.specs.declared.CLow.TheVariants as low
use Rattle.c_tree.specs.declared.COp.{COp}
use Rattle.c_tree.specs.declared.COp.TheVariants as op
use Rattle.c_tree.specs.declared.CParam.{CParam}
use Rattle.c_tree.specs.declared.CParam.TheVariants as parameter
use Rattle.c_tree.specs.declared.CStmt.{CStmt}
use Rattle.c_tree.specs.declared.CStmt.TheVariants as s

-- `(uint64_t)ARRAY[COUNTER]`
abbrev pub cell : List ℕ → List ℕ → CExpr
cell array counter = e.Cell array (index.Counter counter)

-- `(VALUE & UINT64_C(MASK))`
abbrev pub masked : ℕ → CExpr → CExpr
masked mask value = e.Two op.And value (e.Number mask)

-- `ARRAY[COUNTER] = (reg)VALUE;`
abbrev pub assign : List ℕ → List ℕ → CExpr → CStmt
assign array counter value = s.Assign array (index.Counter counter) value

-- `ARRAY[0] = (reg)VALUE;`
abbrev pub assign_first : List ℕ → CExpr → CStmt
assign_first array value = s.Assign array (index.Number 0) value

-- a loop over the shares from this number on, with the counter `i`
abbrev pub shares_from : ℕ → List CStmt → CStmt
shares_from start body = s.For (codes "i") (low.Number start) body

-- a loop over the pairs of shares, with the counters `i` and `j`
abbrev pub share_pairs : List CStmt → CStmt
share_pairs body = shares_from 0 (s.For (codes "j") (low.After (codes "i")) body ∷ [])

-- a loop that assigns each share of `c` from this number on
abbrev pub assign_from : ℕ → CExpr → CStmt
assign_from start value = shares_from start (assign (codes "c") (codes "i") value ∷ [])

-- `uint64_t NAME = (tornado_random() & UINT64_C(MASK));`
abbrev pub draw : ℕ → List ℕ → CStmt
draw mask name = s.Let name (masked mask e.Random)

-- `c[COUNTER] = (reg)((uint64_t)c[COUNTER] ^ NAME);`
abbrev pub add_to : List ℕ → List ℕ → CStmt
add_to counter name = assign (codes "c") counter (e.Two op.Xor (cell (codes "c") counter) (e.Word name))

-- `r` added to share `i`, and a word to share `j`
abbrev pub additions : List ℕ → List CStmt
additions name = add_to (codes "i") (codes "r") ∷ add_to (codes "j") name ∷ []

-- `((uint64_t)a[I] & (uint64_t)b[J])`
abbrev pub share_product : List ℕ → List ℕ → CExpr
share_product i j = e.Two op.And (cell (codes "a") i) (cell (codes "b") j)

-- `((uint64_t)a[i] OP k)`
abbrev pub share_with_k : COp → CExpr
share_with_k operator = e.Two operator (cell (codes "a") (codes "i")) (e.Word (codes "k"))

-- `reg NAME[D]`
abbrev pub array_parameter : List ℕ → CParam
array_parameter name = parameter.Array name

-- `reg c[D], reg a[D]`
abbrev pub unary_parameters : List CParam
unary_parameters = array_parameter (codes "c") ∷ array_parameter (codes "a") ∷ []

-- `reg c[D], reg a[D], reg b[D]`
abbrev pub binary_parameters : List CParam
binary_parameters = array_parameter (codes "c") ∷ array_parameter (codes "a") ∷ array_parameter (codes "b") ∷ []

-- `reg c[D], reg a[D], uint64_t k`
abbrev pub constant_parameters : List CParam
constant_parameters = array_parameter (codes "c") ∷ array_parameter (codes "a") ∷ parameter.Word (codes "k") ∷ []

-- a gadget whose only statement assigns a value to each share of `c`
abbrev pub sharewise : List ℕ → List CParam → CExpr → CFun
sharewise name parameters value = record { name = name; params = parameters; body = assign_from 0 value ∷ [] }

-- share 0 is the constant, the others are 0
abbrev pub const_gadget : CFun
const_gadget = record {
  name = codes "g_const";
  params = array_parameter (codes "c") ∷ parameter.Word (codes "k") ∷ [];
  body = assign_first (codes "c") (e.Word (codes "k")) ∷ assign_from 1 (e.Number 0) ∷ [];
}

-- each share of the one with that of the other
abbrev pub xor_gadget : CFun
xor_gadget =
    sharewise (codes "g_xor") binary_parameters
    (e.Two op.Xor (cell (codes "a") (codes "i")) (cell (codes "b") (codes "i")))

-- `c[0] = (reg)((uint64_t)a[0] ^ UINT64_C(MASK));`
abbrev pub complement_first : ℕ → CStmt
complement_first mask = assign_first (codes "c") (e.Two op.Xor (e.Cell (codes "a") (index.Number 0)) (e.Number mask))

-- share 0 is complemented, the others are kept
abbrev pub not_gadget : ℕ → CFun
not_gadget mask = record {
  name = codes "g_not";
  params = unary_parameters;
  body = complement_first mask ∷ assign_from 1 (cell (codes "a") (codes "i")) ∷ [];
}

-- each share with the constant
abbrev pub mask_gadget : CFun
mask_gadget = sharewise (codes "g_mask") constant_parameters (share_with_k op.And)

-- each share shifted to the left, within the bits of a word
abbrev pub shl_gadget : ℕ → CFun
shl_gadget mask = sharewise (codes "g_shl") constant_parameters (masked mask (share_with_k op.Shl))

-- each share shifted to the right
abbrev pub shr_gadget : CFun
shr_gadget = sharewise (codes "g_shr") constant_parameters (share_with_k op.Shr)

-- `((uint64_t)a[i] >> (UINT64_C(BITS) - k))`
abbrev pub round_share : ℕ → CExpr
round_share bits =
    e.Two op.Shr (cell (codes "a") (codes "i")) (e.Two op.Sub (e.Number bits) (e.Word (codes "k")))

-- `(((uint64_t)a[i] << k) | ((uint64_t)a[i] >> (UINT64_C(BITS) - k)))`
abbrev pub rotated_share : ℕ → CExpr
rotated_share bits = e.Two op.Or (share_with_k op.Shl) (round_share bits)

-- each share rotated to the left
abbrev pub rotl_gadget : ℕ → ℕ → CFun
rotl_gadget mask bits = sharewise (codes "g_rotl") constant_parameters (masked mask (rotated_share bits))

-- `(r ^ ((uint64_t)a[i] & (uint64_t)b[j]))`
abbrev pub first_across : CExpr
first_across = e.Two op.Xor (e.Word (codes "r")) (share_product (codes "i") (codes "j"))

-- `uint64_t s = ((r ^ ((uint64_t)a[i] & (uint64_t)b[j])) ^ ((uint64_t)a[j] & (uint64_t)b[i]));`
abbrev pub draw_across : CStmt
draw_across = s.Let (codes "s") (e.Two op.Xor first_across (share_product (codes "j") (codes "i")))

-- for each pair of shares a word is drawn and added to the one, and with the two products across to the other
abbrev pub and_pairs : ℕ → CStmt
and_pairs mask = share_pairs (draw mask (codes "r") ∷ draw_across ∷ additions (codes "s"))

-- the gadget `g_and` with these statements
abbrev pub and_of : List CStmt → CFun
and_of body = record { name = codes "g_and"; params = binary_parameters; body = body }

-- the products of shares with the same number, then the pairs
abbrev pub and_gadget : ℕ → CFun
and_gadget mask = and_of (assign_from 0 (share_product (codes "i") (codes "i")) ∷ and_pairs mask ∷ [])

-- for each pair of shares a word is drawn and added to both
abbrev pub refresh_pairs : ℕ → CStmt
refresh_pairs mask = share_pairs (draw mask (codes "r") ∷ additions (codes "r"))

-- the gadget `g_refresh` with these statements
abbrev pub refresh_of : List CStmt → CFun
refresh_of body = record { name = codes "g_refresh"; params = unary_parameters; body = body }

-- the shares, then the pairs
abbrev pub refresh_gadget : ℕ → CFun
refresh_gadget mask = refresh_of (assign_from 0 (cell (codes "a") (codes "i")) ∷ refresh_pairs mask ∷ [])

-- the shares as they are
abbrev pub copy_gadget : CFun
copy_gadget = sharewise (codes "g_copy") unary_parameters (cell (codes "a") (codes "i"))

-- complements and masks
abbrev pub complement_and_mask : ℕ → List CFun
complement_and_mask mask = not_gadget mask ∷ mask_gadget ∷ []

-- constants, sums, complements and masks
abbrev pub bitwise_gadgets : ℕ → List CFun
bitwise_gadgets mask = const_gadget ∷ xor_gadget ∷ complement_and_mask mask

-- shifts and rotations
abbrev pub shift_gadgets : ℕ → ℕ → List CFun
shift_gadgets mask bits = shl_gadget mask ∷ shr_gadget ∷ rotl_gadget mask bits ∷ []

-- products and refreshes, and last the copy
abbrev pub drawing_gadgets : ℕ → List CFun
drawing_gadgets mask = and_gadget mask ∷ refresh_gadget mask ∷ copy_gadget ∷ []

-- the gadgets in text order
abbrev pub template : ℕ → ℕ → List CFun
template mask bits = bitwise_gadgets mask ++ shift_gadgets mask bits ++ drawing_gadgets mask
