-- What is made by the first token.
use Rattle.std.proofs.Common.{◌≡◌, ℕ, zero, suc, ◌-◌, ◌<◌, true, false, not, List, [], length, drop, refl, sym, ap, ◌∙◌, arith}
use Rattle.c_tokens.specs.declared.token.Token.{Token}
use Rattle.c_tree.specs.declared.CStmt.{CStmt}
use Rattle.c_trees.specs.State.Making.{first_of, bracket_of, ex_by, ex_of, assign_of, let_of, for_of, stmt_by, stmt_of, stmts_of, closes, items_of, is_close, is_void, is_comma, ends_gadgets, ends_list}
use Rattle.c_trees.specs.declared.first.First.{First}
use Rattle.c_trees.specs.declared.first.First.TheVariants as first

-- an expression that begins with a bracket
pub by_bracket : (room : ℕ) (text : List Token) → 0 < room → first_of text ≡ first.Bracket
    → bracket_of (ex_of (room - 1)) (first_of (drop 1 text)) text ≡ ex_of room text
by_bracket zero text some is = absurd (omega (arith, some))
by_bracket (suc room) text some is =
    let less : suc room - 1 ≡ room = omega arith in
    ap (λ n. bracket_of (ex_of n) (first_of (drop 1 text)) text) less ∙ ap (λ f. ex_by (ex_of room) f text) (sym is)

-- a declaration
pub by_word : (loops : ℕ) (text : List Token) → first_of text ≡ first.Word → let_of text ≡ stmt_of loops text
by_word zero text is = ap (λ f. stmt_by (λ rest. ([], rest)) f text) (sym is)
by_word (suc loops) text is = ap (λ f. stmt_by (λ rest. items_of closes (stmt_of loops) (length rest) rest) f text) (sym is)

-- a loop inside which others may stand
pub by_for : (loops : ℕ) (text : List Token) → 0 < loops → first_of text ≡ first.For → for_of (stmts_of (loops - 1)) text ≡ stmt_of loops text
by_for zero text some is = absurd (omega (arith, some))
by_for (suc loops) text some is =
    let less : suc loops - 1 ≡ loops = omega arith in
    ap (λ n. for_of (stmts_of n) text) less
    ∙ ap (λ f. stmt_by (λ rest. items_of closes (stmt_of loops) (length rest) rest) f text) (sym is)

assigned : (next : List Token → List CStmt × List Token) (text : List Token) (f : First) → (f ≡ first.Word → ⊥) → (f ≡ first.For → ⊥)
    → assign_of text ≡ stmt_by next f text
assigned next text first.Bracket word loop = refl
assigned next text first.Name word loop = refl
assigned next text first.Number word loop = refl
assigned next text first.Constant word loop = refl
assigned next text first.Random word loop = refl
assigned next text first.Word word loop = absurd (word refl)
assigned next text first.For word loop = absurd (loop refl)
assigned next text first.Reg word loop = refl
assigned next text first.Void word loop = refl
assigned next text first.Out word loop = refl
assigned next text first.In word loop = refl
assigned next text first.Slots word loop = refl
assigned next text first.Comma word loop = refl
assigned next text first.Close word loop = refl
assigned next text first.Other word loop = refl

-- an assignment
pub by_other : (loops : ℕ) (text : List Token) (f : First) → f ≡ first_of text → (f ≡ first.Word → ⊥) → (f ≡ first.For → ⊥)
    → assign_of text ≡ stmt_of loops text
by_other zero text f is word loop = assigned (λ rest. ([], rest)) text f word loop ∙ ap (λ x. stmt_by (λ rest. ([], rest)) x text) is
by_other (suc loops) text f is word loop =
    assigned (λ rest. items_of closes (stmt_of loops) (length rest) rest) text f word loop
    ∙ ap (λ x. stmt_by (λ rest. items_of closes (stmt_of loops) (length rest) rest) x text) is

-- no brace
not_close : (f : First) → (f ≡ first.Close → ⊥) → is_close f ≡ false
not_close first.Bracket other = refl
not_close first.Name other = refl
not_close first.Number other = refl
not_close first.Constant other = refl
not_close first.Random other = refl
not_close first.Word other = refl
not_close first.For other = refl
not_close first.Reg other = refl
not_close first.Void other = refl
not_close first.Out other = refl
not_close first.In other = refl
not_close first.Slots other = refl
not_close first.Comma other = refl
not_close first.Close other = absurd (other refl)
not_close first.Other other = refl

pub goes_on : (text : List Token) (f : First) → f ≡ first_of text → (f ≡ first.Close → ⊥) → closes text ≡ false
goes_on text f is other = ap is_close (sym is) ∙ not_close f other

pub is_closed : (text : List Token) (f : First) → f ≡ first_of text → f ≡ first.Close → closes text ≡ true
is_closed text f is here = ap is_close (sym is ∙ here)

not_void : (f : First) → (f ≡ first.Void → ⊥) → is_void f ≡ false
not_void first.Bracket other = refl
not_void first.Name other = refl
not_void first.Number other = refl
not_void first.Constant other = refl
not_void first.Random other = refl
not_void first.Word other = refl
not_void first.For other = refl
not_void first.Reg other = refl
not_void first.Void other = absurd (other refl)
not_void first.Out other = refl
not_void first.In other = refl
not_void first.Slots other = refl
not_void first.Comma other = refl
not_void first.Close other = refl
not_void first.Other other = refl

pub before_void : (text : List Token) (f : First) → f ≡ first_of text → (f ≡ first.Void → ⊥) → ends_gadgets text ≡ false
before_void text f is other = ap is_void (sym is) ∙ not_void f other

pub at_void : (text : List Token) (f : First) → f ≡ first_of text → f ≡ first.Void → ends_gadgets text ≡ true
at_void text f is here = ap is_void (sym is ∙ here)

not_comma : (f : First) → (f ≡ first.Comma → ⊥) → not (is_comma f) ≡ true
not_comma first.Bracket other = refl
not_comma first.Name other = refl
not_comma first.Number other = refl
not_comma first.Constant other = refl
not_comma first.Random other = refl
not_comma first.Word other = refl
not_comma first.For other = refl
not_comma first.Reg other = refl
not_comma first.Void other = refl
not_comma first.Out other = refl
not_comma first.In other = refl
not_comma first.Slots other = refl
not_comma first.Comma other = absurd (other refl)
not_comma first.Close other = refl
not_comma first.Other other = refl

pub at_comma : (text : List Token) (f : First) → f ≡ first_of text → f ≡ first.Comma → ends_list text ≡ false
at_comma text f is here = ap (λ x. not (is_comma x)) (sym is ∙ here)

pub past_comma : (text : List Token) (f : First) → f ≡ first_of text → (f ≡ first.Comma → ⊥) → ends_list text ≡ true
past_comma text f is other = ap (λ x. not (is_comma x)) (sym is) ∙ not_comma f other
