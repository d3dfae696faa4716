-- The names of the template's gadgets are right.
use Rattle.std.proofs.Common.{◌≡◌, ℕ, true, List, [], ◌∷◌, refl, take, length}
use Rattle.std.specs.Prelude.{codes}
use Rattle.c_tree.specs.declared.CExpr.{CExpr}
use Rattle.c_tree.specs.declared.CIndex.TheVariants as index
use Rattle.c_tree.specs.declared.CLow.TheVariants as low
use Rattle.c_tree.specs.declared.COp.{COp}
use Rattle.c_tree.specs.declared.COp.TheVariants as op
use Rattle.c_tree.specs.declared.CParam.{CParam}
use Rattle.c_tree.specs.declared.CStmt.{CStmt}
use Rattle.c_names.specs.Names.{index_names, with_name}
use Rattle.c_names.specs.Scope.{InScope, role_of, is_array, is_new, is_word}
use Rattle.c_names.specs.declared.scope.Role.TheVariants.{Counter, Word}
use Rattle.c_form.specs.Template as form
use Rattle.c_text_law.proofs.NameRules.{AreRight, ExRight, cell_right, word_right, number_right, random_right}
use Rattle.c_text_law.proofs.NameRules.{two_right}
use Rattle.c_text_law.proofs.NameRules.{StmtRight, StmtsRight, assign_right, let_right, for_right, no_stmt_right}
use Rattle.c_text_law.proofs.NameRules.{next_stmt_right, entered, GadgetRight, GadgetsRight, gadget_right}
use Rattle.c_text_law.proofs.NameRules.{no_gadget_right, next_gadget_right}

-- the scope of a gadget's body
abbrev known : List CParam → List InScope
known parameters = (entered parameters).scope

-- that of a loop over the shares
abbrev in_loop : List CParam → List InScope
in_loop parameters = with_name (known parameters) (codes "i") Counter

-- that of a loop over the pairs of shares
abbrev in_pairs : List CParam → List InScope
in_pairs parameters = with_name (in_loop parameters) (codes "j") Counter

-- parameters in whose scope the counter `i` is new and `c` is an array, before it and behind it
record Usual (parameters : List CParam) : Type 0 where
  entered : AreRight (entered parameters).names
  new : is_new (role_of (known parameters) (codes "i")) ≡ true
  array : is_array (role_of (in_loop parameters) (codes "c")) ≡ true
  counter : AreRight (index_names (in_loop parameters) (index.Counter (codes "i")))
  first : is_array (role_of (known parameters) (codes "c")) ≡ true
  back : take (length (known parameters)) (in_loop parameters) ≡ known parameters

usual_unary : Usual form.unary_parameters
usual_unary = record { entered = refl; new = refl; array = refl; counter = refl; first = refl; back = refl }

usual_binary : Usual form.binary_parameters
usual_binary = record { entered = refl; new = refl; array = refl; counter = refl; first = refl; back = refl }

usual_constant : Usual form.constant_parameters
usual_constant = record { entered = refl; new = refl; array = refl; counter = refl; first = refl; back = refl }

usual_const : Usual form.const_gadget.params
usual_const = record { entered = refl; new = refl; array = refl; counter = refl; first = refl; back = refl }

one_stmt_right : (first : CStmt) (scope after : List InScope) → StmtRight first scope after
    → StmtsRight (first ∷ []) scope after
one_stmt_right first scope after x = next_stmt_right first [] scope after after x (no_stmt_right after)

module _ (parameters : List CParam) (usual : Usual parameters) where
  -- a loop that assigns each share of `c`
  assign_from_right : (start : ℕ) (value : CExpr) → ExRight value (in_loop parameters)
      → StmtRight (form.assign_from start value) (known parameters) (known parameters)
  assign_from_right start value right =
      for_right (codes "i") (low.Number start) _ (known parameters) (in_loop parameters) usual.new refl
      (one_stmt_right _ (in_loop parameters) (in_loop parameters)
      (assign_right (codes "c") (index.Counter (codes "i")) value (in_loop parameters) usual.array usual.counter right))
      usual.back

  sharewise_right : (name : List ℕ) (value : CExpr) → ExRight value (in_loop parameters)
      → GadgetRight (form.sharewise name parameters value)
  sharewise_right name value right =
      gadget_right name parameters _ (known parameters) usual.entered
      (one_stmt_right _ (known parameters) (known parameters) (assign_from_right 0 value right))

  -- an assignment of share 0 of `c`, and a loop over the others
  first_and_others : (name : List ℕ) (value others : CExpr) → ExRight value (known parameters)
      → ExRight others (in_loop parameters)
      → GadgetRight (record {
        name = name;
        params = parameters;
        body = form.assign_first (codes "c") value ∷ form.assign_from 1 others ∷ [];
      })
  first_and_others name value others right more =
      gadget_right name parameters _ (known parameters) usual.entered
      (next_stmt_right _ _ (known parameters) (known parameters) (known parameters)
      (assign_right (codes "c") (index.Number 0) value (known parameters) usual.first refl right)
      (one_stmt_right _ (known parameters) (known parameters) (assign_from_right 1 others more)))

  -- a loop over the shares from 0 on, and one over the pairs of shares that ends with these words in scope
  shares_and_pairs : (name : List ℕ) (value : CExpr) (body : List CStmt) (after : List InScope)
      → ExRight value (in_loop parameters) → is_new (role_of (in_loop parameters) (codes "j")) ≡ true
      → StmtsRight body (in_pairs parameters) after
      → take (length (in_loop parameters)) after ≡ in_loop parameters
      → GadgetRight (record {
        name = name;
        params = parameters;
        body = form.assign_from 0 value ∷ form.share_pairs body ∷ [];
      })
  shares_and_pairs name value body after right new inner back =
      gadget_right name parameters _ (known parameters) usual.entered
      (next_stmt_right _ _ (known parameters) (known parameters) (known parameters) (assign_from_right 0 value right)
      (one_stmt_right _ (known parameters) (known parameters)
      (for_right (codes "i") (low.Number 0) _ (known parameters) (in_loop parameters) usual.new refl
      (one_stmt_right _ (in_loop parameters) (in_loop parameters)
      (for_right (codes "j") (low.After (codes "i")) body (in_loop parameters) after new usual.counter inner back))
      usual.back)))

share_with_k_right : (operator : COp) → ExRight (form.share_with_k operator) (in_loop form.constant_parameters)
share_with_k_right operator =
    two_right operator _ _ _ (cell_right (codes "a") (index.Counter (codes "i")) _ refl refl)
    (word_right (codes "k") _ refl)

masked_right : (mask : ℕ) (value : CExpr) (scope : List InScope) → ExRight value scope
    → ExRight (form.masked mask value) scope
masked_right mask value scope right = two_right op.And value _ scope right (number_right mask scope)

const_right : GadgetRight form.const_gadget
const_right =
    first_and_others form.const_gadget.params usual_const (codes "g_const") _ _ (word_right (codes "k") _ refl)
    (number_right 0 _)

xor_right : GadgetRight form.xor_gadget
xor_right =
    sharewise_right form.binary_parameters usual_binary (codes "g_xor") _
    (two_right op.Xor _ _ _ (cell_right (codes "a") (index.Counter (codes "i")) _ refl refl)
    (cell_right (codes "b") (index.Counter (codes "i")) _ refl refl))

share_right : ExRight (form.cell (codes "a") (codes "i")) (in_loop form.unary_parameters)
share_right = cell_right (codes "a") (index.Counter (codes "i")) _ refl refl

not_right : (mask : ℕ) → GadgetRight (form.not_gadget mask)
not_right mask =
    first_and_others form.unary_parameters usual_unary (codes "g_not") _ _
    (two_right op.Xor _ _ _ (cell_right (codes "a") (index.Number 0) _ refl refl) (number_right mask _)) share_right

mask_right : GadgetRight form.mask_gadget
mask_right =
    sharewise_right form.constant_parameters usual_constant (codes "g_mask") _ (share_with_k_right op.And)

shl_right : (mask : ℕ) → GadgetRight (form.shl_gadget mask)
shl_right mask =
    sharewise_right form.constant_parameters usual_constant (codes "g_shl") _
    (masked_right mask _ _ (share_with_k_right op.Shl))

shr_right : GadgetRight form.shr_gadget
shr_right =
    sharewise_right form.constant_parameters usual_constant (codes "g_shr") _ (share_with_k_right op.Shr)

round_right : (bits : ℕ) → ExRight (form.round_share bits) (in_loop form.constant_parameters)
round_right bits =
    two_right op.Shr _ _ _ (cell_right (codes "a") (index.Counter (codes "i")) _ refl refl)
    (two_right op.Sub _ _ _ (number_right bits _) (word_right (codes "k") _ refl))

rotl_right : (mask bits : ℕ) → GadgetRight (form.rotl_gadget mask bits)
rotl_right mask bits =
    sharewise_right form.constant_parameters usual_constant (codes "g_rotl") _
    (masked_right mask _ _ (two_right op.Or _ _ _ (share_with_k_right op.Shl) (round_right bits)))

draw_right : (mask : ℕ) (scope : List InScope) → is_new (role_of scope (codes "r")) ≡ true
    → StmtRight (form.draw mask (codes "r")) scope (with_name scope (codes "r") Word)
draw_right mask scope new = let_right (codes "r") _ scope new (masked_right mask _ scope (random_right scope))

add_right : (counter name : List ℕ) (scope : List InScope) → is_array (role_of scope (codes "c")) ≡ true
    → AreRight (index_names scope (index.Counter counter)) → is_word (role_of scope name) ≡ true
    → StmtRight (form.add_to counter name) scope scope
add_right counter name scope array at word =
    assign_right (codes "c") (index.Counter counter) _ scope array at
    (two_right op.Xor _ _ scope (cell_right (codes "c") (index.Counter counter) scope array at)
    (word_right name scope word))

additions_right : (name : List ℕ) (scope : List InScope) → is_array (role_of scope (codes "c")) ≡ true
    → AreRight (index_names scope (index.Counter (codes "i")))
    → AreRight (index_names scope (index.Counter (codes "j"))) → is_word (role_of scope (codes "r")) ≡ true
    → is_word (role_of scope name) ≡ true
    → StmtsRight (form.additions name) scope scope
additions_right name scope array i j r word =
    next_stmt_right _ _ scope scope scope (add_right (codes "i") (codes "r") scope array i r)
    (one_stmt_right _ scope scope (add_right (codes "j") name scope array j word))

product_right : (i j : List ℕ) (scope : List InScope) → is_array (role_of scope (codes "a")) ≡ true
    → is_array (role_of scope (codes "b")) ≡ true → AreRight (index_names scope (index.Counter i))
    → AreRight (index_names scope (index.Counter j)) → ExRight (form.share_product i j) scope
product_right i j scope a b first second =
    two_right op.And _ _ scope (cell_right (codes "a") (index.Counter i) scope a first)
    (cell_right (codes "b") (index.Counter j) scope b second)

-- the scope behind a drawn word, and behind the word made of it
abbrev drawn : List CParam → List InScope
drawn parameters = with_name (in_pairs parameters) (codes "r") Word

abbrev across : List InScope
across = with_name (drawn form.binary_parameters) (codes "s") Word

draw_across_right : StmtRight form.draw_across (drawn form.binary_parameters) across
draw_across_right =
    let_right (codes "s") _ (drawn form.binary_parameters) refl
    (two_right op.Xor _ _ _
    (two_right op.Xor _ _ _ (word_right (codes "r") _ refl)
    (product_right (codes "i") (codes "j") _ refl refl refl refl))
    (product_right (codes "j") (codes "i") _ refl refl refl refl))

and_right : (mask : ℕ) → GadgetRight (form.and_gadget mask)
and_right mask =
    shares_and_pairs form.binary_parameters usual_binary (codes "g_and") _ _ across
    (product_right (codes "i") (codes "i") _ refl refl refl refl) refl
    (next_stmt_right _ _ _ (drawn form.binary_parameters) across (draw_right mask _ refl)
    (next_stmt_right _ _ _ across across draw_across_right
    (additions_right (codes "s") across refl refl refl refl refl)))
    refl

refresh_right : (mask : ℕ) → GadgetRight (form.refresh_gadget mask)
refresh_right mask =
    shares_and_pairs form.unary_parameters usual_unary (codes "g_refresh") _ _ (drawn form.unary_parameters) share_right
    refl
    (next_stmt_right _ _ _ (drawn form.unary_parameters) (drawn form.unary_parameters) (draw_right mask _ refl)
    (additions_right (codes "r") (drawn form.unary_parameters) refl refl refl refl refl))
    refl

copy_right : GadgetRight form.copy_gadget
copy_right = sharewise_right form.unary_parameters usual_unary (codes "g_copy") _ share_right

-- the names of the template, whatever the mask and the bits are: these are numbers in it
pub gadgets_right : (mask bits : ℕ) → GadgetsRight [] (form.template mask bits)
gadgets_right mask bits =
    next_gadget_right _ form.const_gadget _ refl const_right
    (next_gadget_right _ form.xor_gadget _ refl xor_right
    (next_gadget_right _ (form.not_gadget mask) _ refl (not_right mask)
    (next_gadget_right _ form.mask_gadget _ refl mask_right
    (next_gadget_right _ (form.shl_gadget mask) _ refl (shl_right mask)
    (next_gadget_right _ form.shr_gadget _ refl shr_right
    (next_gadget_right _ (form.rotl_gadget mask bits) _ refl (rotl_right mask bits)
    (next_gadget_right _ (form.and_gadget mask) _ refl (and_right mask)
    (next_gadget_right _ (form.refresh_gadget mask) _ refl (refresh_right mask)
    (next_gadget_right _ form.copy_gadget [] refl copy_right (no_gadget_right _))))))))))
