-- The tokens of the template's gadgets.
use Rattle.std.proofs.Common.{ℕ, suc, ◌<◌, ◌^◌, List, [], ◌∷◌, codes, refl, arith}
use Rattle.c_tree.specs.declared.CExpr.{CExpr}
use Rattle.c_tree.specs.declared.CExpr.TheVariants as e
use Rattle.c_tree.specs.declared.CIndex.TheVariants as index
use Rattle.c_tree.specs.declared.CLow.TheVariants as low
use Rattle.c_tree.specs.declared.COp.{COp}
use Rattle.c_tree.specs.declared.COp.TheVariants as op
use Rattle.c_tree.specs.declared.CStmt.{CStmt}
use Rattle.c_tokens.specs.declared.token.Sign.{Sign}
use Rattle.c_tokens.specs.declared.token.TokenKind.TheVariants as kind
use Rattle.c_form.specs.Template as form
use Rattle.c_text_law.proofs.Reading.{IsName}
use Rattle.c_text_law.proofs.Expressions.{ReadsEx, name_index, number_index, cell_reads, word_reads, number_reads, random_reads, two_reads, ReadsOp}
use Rattle.c_text_law.proofs.Expressions.{xor_sign, and_sign, or_sign, shl_sign, shr_sign, sub_sign}
use Rattle.c_text_law.proofs.Statements.{ReadsStmt, ReadsStmts, no_stmt_reads, next_stmt_reads, let_reads, assign_reads, for_reads, number_start, after_start}
use Rattle.c_text_law.proofs.Gadgets.{ReadsGadgets, ReadsGadget, gadget_reads, no_gadget_reads, next_gadget_reads, ReadParams, one_param, another_param, array_name, word_name}

name_a : IsName (codes "a")
name_a = record { some = omega arith; no_blank = refl; begins = refl; goes_on = refl; is_name = refl }

name_b : IsName (codes "b")
name_b = record { some = omega arith; no_blank = refl; begins = refl; goes_on = refl; is_name = refl }

name_c : IsName (codes "c")
name_c = record { some = omega arith; no_blank = refl; begins = refl; goes_on = refl; is_name = refl }

name_i : IsName (codes "i")
name_i = record { some = omega arith; no_blank = refl; begins = refl; goes_on = refl; is_name = refl }

name_j : IsName (codes "j")
name_j = record { some = omega arith; no_blank = refl; begins = refl; goes_on = refl; is_name = refl }

name_k : IsName (codes "k")
name_k = record { some = omega arith; no_blank = refl; begins = refl; goes_on = refl; is_name = refl }

name_r : IsName (codes "r")
name_r = record { some = omega arith; no_blank = refl; begins = refl; goes_on = refl; is_name = refl }

name_s : IsName (codes "s")
name_s = record { some = omega arith; no_blank = refl; begins = refl; goes_on = refl; is_name = refl }

-- the names of the gadgets
pub name_const : IsName (codes "g_const")
name_const = record { some = omega arith; no_blank = refl; begins = refl; goes_on = refl; is_name = refl }

pub name_xor : IsName (codes "g_xor")
name_xor = record { some = omega arith; no_blank = refl; begins = refl; goes_on = refl; is_name = refl }

pub name_not : IsName (codes "g_not")
name_not = record { some = omega arith; no_blank = refl; begins = refl; goes_on = refl; is_name = refl }

pub name_mask : IsName (codes "g_mask")
name_mask = record { some = omega arith; no_blank = refl; begins = refl; goes_on = refl; is_name = refl }

pub name_shl : IsName (codes "g_shl")
name_shl = record { some = omega arith; no_blank = refl; begins = refl; goes_on = refl; is_name = refl }

pub name_shr : IsName (codes "g_shr")
name_shr = record { some = omega arith; no_blank = refl; begins = refl; goes_on = refl; is_name = refl }

pub name_rotl : IsName (codes "g_rotl")
name_rotl = record { some = omega arith; no_blank = refl; begins = refl; goes_on = refl; is_name = refl }

pub name_and : IsName (codes "g_and")
name_and = record { some = omega arith; no_blank = refl; begins = refl; goes_on = refl; is_name = refl }

pub name_refresh : IsName (codes "g_refresh")
name_refresh = record { some = omega arith; no_blank = refl; begins = refl; goes_on = refl; is_name = refl }

pub name_copy : IsName (codes "g_copy")
name_copy = record { some = omega arith; no_blank = refl; begins = refl; goes_on = refl; is_name = refl }

-- an element whose index is a counter
cell_at : (room : ℕ) (array counter : List ℕ) → IsName array → IsName counter → ReadsEx room (form.cell array counter)
cell_at room array counter is_array is_counter =
    cell_reads room array (index.Counter counter) (kind.Name counter) is_array (name_index is_counter)

-- `VALUE & MASK`
masked_reads : (room mask : ℕ) (value : CExpr) → mask < 2 ^ 64 → ReadsEx room value
    → ReadsEx (suc room) (form.masked mask value)
masked_reads room mask value fits reads =
    two_reads room op.And _ value (e.Number mask) and_sign reads (number_reads room mask fits)

share_with_k_reads : (room : ℕ) (o : COp) (sign : Sign) → ReadsOp o sign → ReadsEx (suc room) (form.share_with_k o)
share_with_k_reads room o sign is =
    two_reads room o sign _ _ is (cell_at room (codes "a") (codes "i") name_a name_i) (word_reads room (codes "k") name_k)

product_reads : (room : ℕ) (i j : List ℕ) → IsName i → IsName j → ReadsEx (suc room) (form.share_product i j)
product_reads room i j is_i is_j =
    two_reads room op.And _ _ _ and_sign (cell_at room (codes "a") i name_a is_i) (cell_at room (codes "b") j name_b is_j)

assign_at : (loops depth : ℕ) (counter : List ℕ) (value : CExpr) → IsName counter → ReadsEx 128 value
    → ReadsStmt loops depth (form.assign (codes "c") counter value)
assign_at loops depth counter value is reads =
    assign_reads loops depth (codes "c") (index.Counter counter) (kind.Name counter) value name_c (name_index is) reads

assign_first_reads : (loops depth : ℕ) (value : CExpr) → ReadsEx 128 value
    → ReadsStmt loops depth (form.assign_first (codes "c") value)
assign_first_reads loops depth value reads =
    assign_reads loops depth (codes "c") (index.Number 0) (kind.Number 0) value name_c (number_index (omega arith)) reads

assign_from_reads : (start : ℕ) (value : CExpr) → start < 2 ^ 64 → ReadsEx 128 value
    → ReadsStmt 2 1 (form.assign_from start value)
assign_from_reads start value fits reads =
    for_reads 1 1 (codes "i") (low.Number start) _ _ name_i (number_start fits)
    (next_stmt_reads 1 2 _ [] (assign_at 1 2 (codes "i") value name_i reads) (no_stmt_reads 1 2))

share_pairs_reads : (body : List CStmt) → ReadsStmts 0 3 body → ReadsStmt 2 1 (form.share_pairs body)
share_pairs_reads body reads =
    for_reads 1 1 (codes "i") (low.Number 0) _ _ name_i (number_start (omega arith))
    (next_stmt_reads 1 2 _ [] (for_reads 0 2 (codes "j") (low.After (codes "i")) _ body name_j (after_start name_i) reads)
    (no_stmt_reads 1 2))

add_to_reads : (counter name : List ℕ) → IsName counter → IsName name → ReadsStmt 0 3 (form.add_to counter name)
add_to_reads counter name is_counter is_name =
    assign_at 0 3 counter _ is_counter
    (two_reads 127 op.Xor _ _ _ xor_sign (cell_at 127 (codes "c") counter name_c is_counter) (word_reads 127 name is_name))

draw_reads : (mask : ℕ) → mask < 2 ^ 64 → ReadsStmt 0 3 (form.draw mask (codes "r"))
draw_reads mask fits = let_reads 0 3 (codes "r") _ name_r (masked_reads 127 mask e.Random fits (random_reads 127))

additions_read : (name : List ℕ) → IsName name → ReadsStmts 0 3 (form.additions name)
additions_read name is =
    next_stmt_reads 0 3 _ _ (add_to_reads (codes "i") (codes "r") name_i name_r)
    (next_stmt_reads 0 3 _ [] (add_to_reads (codes "j") name name_j is) (no_stmt_reads 0 3))

draw_across_reads : ReadsStmt 0 3 form.draw_across
draw_across_reads =
    let_reads 0 3 (codes "s") _ name_s
    (two_reads 127 op.Xor _ _ _ xor_sign
    (two_reads 126 op.Xor _ _ _ xor_sign (word_reads 126 (codes "r") name_r)
    (product_reads 125 (codes "i") (codes "j") name_i name_j))
    (product_reads 126 (codes "j") (codes "i") name_j name_i))

unary : ReadParams form.unary_parameters
unary = another_param (array_name name_c) (one_param (array_name name_a))

binary : ReadParams form.binary_parameters
binary = another_param (array_name name_c) (another_param (array_name name_a) (one_param (array_name name_b)))

constant : ReadParams form.constant_parameters
constant = another_param (array_name name_c) (another_param (array_name name_a) (one_param (word_name name_k)))

one_statement : (t : CStmt) → ReadsStmt 2 1 t → ReadsStmts 2 1 (t ∷ [])
one_statement t reads = next_stmt_reads 2 1 t [] reads (no_stmt_reads 2 1)

two_statements : (t u : CStmt) → ReadsStmt 2 1 t → ReadsStmt 2 1 u → ReadsStmts 2 1 (t ∷ u ∷ [])
two_statements t u first second = next_stmt_reads 2 1 t (u ∷ []) first (one_statement u second)

const_reads : ReadsGadget form.const_gadget
const_reads =
    gadget_reads form.const_gadget name_const (another_param (array_name name_c) (one_param (word_name name_k)))
    (two_statements _ _ (assign_first_reads 2 1 _ (word_reads 128 (codes "k") name_k))
    (assign_from_reads 1 _ (omega arith) (number_reads 128 0 (omega arith))))

xor_reads : ReadsGadget form.xor_gadget
xor_reads =
    gadget_reads form.xor_gadget name_xor binary
    (one_statement _ (assign_from_reads 0 _ (omega arith)
    (two_reads 127 op.Xor _ _ _ xor_sign (cell_at 127 (codes "a") (codes "i") name_a name_i)
    (cell_at 127 (codes "b") (codes "i") name_b name_i))))

not_reads : (mask : ℕ) → mask < 2 ^ 64 → ReadsGadget (form.not_gadget mask)
not_reads mask fits =
    gadget_reads (form.not_gadget mask) name_not unary
    (two_statements _ _
    (assign_first_reads 2 1 _
    (two_reads 127 op.Xor _ _ _ xor_sign
    (cell_reads 127 (codes "a") (index.Number 0) (kind.Number 0) name_a (number_index (omega arith)))
    (number_reads 127 mask fits)))
    (assign_from_reads 1 _ (omega arith) (cell_at 128 (codes "a") (codes "i") name_a name_i)))

mask_reads : ReadsGadget form.mask_gadget
mask_reads =
    gadget_reads form.mask_gadget name_mask constant
    (one_statement _ (assign_from_reads 0 _ (omega arith) (share_with_k_reads 127 op.And _ and_sign)))

shl_reads : (mask : ℕ) → mask < 2 ^ 64 → ReadsGadget (form.shl_gadget mask)
shl_reads mask fits =
    gadget_reads (form.shl_gadget mask) name_shl constant
    (one_statement _ (assign_from_reads 0 _ (omega arith)
    (masked_reads 127 mask _ fits (share_with_k_reads 126 op.Shl _ shl_sign))))

shr_reads : ReadsGadget form.shr_gadget
shr_reads =
    gadget_reads form.shr_gadget name_shr constant
    (one_statement _ (assign_from_reads 0 _ (omega arith) (share_with_k_reads 127 op.Shr _ shr_sign)))

rotl_reads : (mask bits : ℕ) → mask < 2 ^ 64 → bits < 2 ^ 64 → ReadsGadget (form.rotl_gadget mask bits)
rotl_reads mask bits fits few =
    gadget_reads (form.rotl_gadget mask bits) name_rotl constant
    (one_statement _ (assign_from_reads 0 _ (omega arith)
    (masked_reads 127 mask _ fits
    (two_reads 126 op.Or _ _ _ or_sign (share_with_k_reads 125 op.Shl _ shl_sign)
    (two_reads 125 op.Shr _ _ _ shr_sign (cell_at 125 (codes "a") (codes "i") name_a name_i)
    (two_reads 124 op.Sub _ _ _ sub_sign (number_reads 124 bits few) (word_reads 124 (codes "k") name_k)))))))

and_reads : (mask : ℕ) → mask < 2 ^ 64 → ReadsGadget (form.and_gadget mask)
and_reads mask fits =
    gadget_reads (form.and_gadget mask) name_and binary
    (two_statements _ _ (assign_from_reads 0 _ (omega arith) (product_reads 127 (codes "i") (codes "i") name_i name_i))
    (share_pairs_reads _
    (next_stmt_reads 0 3 _ _ (draw_reads mask fits)
    (next_stmt_reads 0 3 _ _ draw_across_reads (additions_read (codes "s") name_s)))))

refresh_reads : (mask : ℕ) → mask < 2 ^ 64 → ReadsGadget (form.refresh_gadget mask)
refresh_reads mask fits =
    gadget_reads (form.refresh_gadget mask) name_refresh unary
    (two_statements _ _ (assign_from_reads 0 _ (omega arith) (cell_at 128 (codes "a") (codes "i") name_a name_i))
    (share_pairs_reads _ (next_stmt_reads 0 3 _ _ (draw_reads mask fits) (additions_read (codes "r") name_r))))

copy_reads : ReadsGadget form.copy_gadget
copy_reads =
    gadget_reads form.copy_gadget name_copy unary
    (one_statement _ (assign_from_reads 0 _ (omega arith) (cell_at 128 (codes "a") (codes "i") name_a name_i)))

-- the gadgets of the template are read as they are
pub template_reads : (mask bits : ℕ) → mask < 2 ^ 64 → bits < 2 ^ 64 → ReadsGadgets (form.template mask bits)
template_reads mask bits fits few =
    next_gadget_reads _ _ const_reads (next_gadget_reads _ _ xor_reads (next_gadget_reads _ _ (not_reads mask fits)
    (next_gadget_reads _ _ mask_reads (next_gadget_reads _ _ (shl_reads mask fits) (next_gadget_reads _ _ shr_reads
    (next_gadget_reads _ _ (rotl_reads mask bits fits few) (next_gadget_reads _ _ (and_reads mask fits)
    (next_gadget_reads _ _ (refresh_reads mask fits) (next_gadget_reads _ _ copy_reads no_gadget_reads)))))))))
