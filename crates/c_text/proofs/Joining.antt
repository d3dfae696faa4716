-- The parts of a text, joined in the order in which they are written.
use Rattle.std.proofs.Common.{◌≡◌, ℕ, suc, ◌-◌, ◌<◌, List, [], ◌∷◌, ◌++◌, length, get_or, take, drop, flat_map, sym}
use Rattle.std.proofs.Common.{ap, ◌∙◌, append_assoc, append-nil, codes, arith}
use Rattle.std.proofs.lemmas.List.{take_all}
use Rattle.c_tree.specs.declared.CArg.{CArg}
use Rattle.c_tree.specs.declared.CCall.{CCall}
use Rattle.c_tree.specs.declared.CExpr.{CExpr}
use Rattle.c_tree.specs.declared.CFile.{CFile}
use Rattle.c_tree.specs.declared.CFun.{CFun}
use Rattle.c_tree.specs.declared.CIndex.{CIndex}
use Rattle.c_tree.specs.declared.CLow.{CLow}
use Rattle.c_tree.specs.declared.CParam.{CParam}
use Rattle.c_tree.specs.declared.CStmt.{CStmt}
use Rattle.c_text.specs.CText.{c_text, head_text, masked_text, slots_text, gadget_text, call_text, further_text, listed}
use Rattle.c_text.specs.CText.{argument_text, parameter_text, statements_text, indentation, cell_text}
use Rattle.c_text.specs.CText.{expression_text, loop_text, low_text}

-- three parts
pub three : (a b c : List ℕ) → a ++ (b ++ c) ≡ (a ++ b) ++ c
three a b c = sym (append_assoc a b c)

-- four parts
pub four : (a b c d : List ℕ) → a ++ (b ++ (c ++ d)) ≡ ((a ++ b) ++ c) ++ d
four a b c d = sym (simp append_assoc)

-- five parts
pub five : (a b c d e : List ℕ) → a ++ (b ++ (c ++ (d ++ e))) ≡ (((a ++ b) ++ c) ++ d) ++ e
five a b c d e = sym (simp append_assoc)

-- three parts put at one go, and two more
pub three_and_two : (a b c d e : List ℕ) → (a ++ (b ++ (c ++ []))) ++ (d ++ e) ≡ (((a ++ b) ++ c) ++ d) ++ e
three_and_two a b c d e = simp (append_assoc, append-nil)

-- three parts put at one go, and four more
pub three_and_four : (a b c d e f g : List ℕ)
    → (a ++ (b ++ (c ++ []))) ++ (d ++ (e ++ (f ++ g))) ≡ (((((a ++ b) ++ c) ++ d) ++ e) ++ f) ++ g
three_and_four a b c d e f g = simp (append_assoc, append-nil)

-- the text of a file
pub c_text_parts : (file : CFile) (gadgets : List CFun) (calls : List CCall) → gadgets ≡ file.gadgets
    → calls ≡ file.calls
    → head_text file.reg_bits ++ (flat_map gadget_text gadgets ++ ((masked_text file.outputs file.inputs
    ++ slots_text file.slots) ++ (flat_map call_text calls ++ codes "}\n")))
    ≡ c_text file
c_text_parts file gadgets calls same_gadgets same_calls =
    ap (λ (g : List CFun). head_text file.reg_bits ++ (flat_map gadget_text g ++ ((masked_text file.outputs file.inputs
    ++ slots_text file.slots) ++ (flat_map call_text calls ++ codes "}\n")))) same_gadgets
    ∙ ap (λ (k : List CCall). head_text file.reg_bits ++ (flat_map gadget_text file.gadgets ++
    ((masked_text file.outputs
    file.inputs ++ slots_text file.slots) ++ (flat_map call_text k ++ codes "}\n")))) same_calls
    ∙ file_parts (head_text file.reg_bits) (flat_map gadget_text file.gadgets) (masked_text file.outputs file.inputs)
    (slots_text file.slots) (flat_map call_text file.calls) (codes "}\n")
  where
    file_parts : (a b c d e f : List ℕ) → a ++ (b ++ ((c ++ d) ++ (e ++ f))) ≡ ((((a ++ b) ++ c) ++ d) ++ e) ++ f
    file_parts a b c d e f = simp append_assoc

-- the line of a call
pub call_is : (call : CCall) (name : List ℕ) (arguments : List CArg) → name ≡ call.gadget → arguments ≡ call.args
    → (codes "  " ++ (name ++ (codes "(" ++ []))) ++ (listed argument_text arguments ++ codes ");\n") ≡ call_text call
call_is call name arguments same_name same_arguments =
    three_and_two (codes "  ") name (codes "(") (listed argument_text arguments) (codes ");\n")
    ∙ ap (λ (n : List ℕ). codes "  " ++ n ++ codes "(" ++ listed argument_text arguments ++ codes ");\n") same_name
    ∙ ap (λ (a : List CArg). codes "  " ++ call.gadget ++ codes "(" ++ listed argument_text a
    ++ codes ");\n") same_arguments

-- a gadget
pub gadget_is : (gadget : CFun) (name : List ℕ) (parameters : List CParam) (body : List CStmt) → name ≡ gadget.name
    → parameters ≡ gadget.params → body ≡ gadget.body
    → (codes "static void " ++ (name ++ (codes "(" ++ []))) ++ (listed parameter_text parameters ++ (codes ") {\n"
    ++ (statements_text 1 body ++ codes "}\n")))
    ≡ gadget_text gadget
gadget_is gadget name parameters body same_name same_parameters same_body =
    three_and_four (codes "static void ") name (codes "(") (listed parameter_text parameters) (codes ") {\n")
    (statements_text 1 body) (codes "}\n")
    ∙ ap (λ (n : List ℕ). codes "static void " ++ n ++ codes "(" ++ listed parameter_text parameters ++ codes ") {\n"
    ++ statements_text 1 body ++ codes "}\n") same_name
    ∙ ap (λ (p : List CParam). codes "static void " ++ gadget.name ++ codes "(" ++ listed parameter_text p
    ++ codes ") {\n"
    ++ statements_text 1 body ++ codes "}\n") same_parameters
    ∙ ap (λ (b : List CStmt). codes "static void " ++ gadget.name ++ codes "(" ++ listed parameter_text gadget.params
    ++ codes ") {\n" ++ statements_text 1 b ++ codes "}\n") same_body

-- an assignment
pub assignment_is : (depth : ℕ) (blanks array : List ℕ) (index : CIndex) (value : CExpr) → blanks ≡ indentation depth
    → (blanks ++ cell_text array index ++ codes " = (reg)") ++ (expression_text value ++ codes ";\n")
    ≡ indentation depth ++ cell_text array index ++ codes " = (reg)" ++ expression_text value ++ codes ";\n"
assignment_is depth blanks array index value same =
    three (blanks ++ cell_text array index ++ codes " = (reg)") (expression_text value) (codes ";\n")
    ∙ ap (λ (b : List ℕ). b ++ cell_text array index ++ codes " = (reg)" ++ expression_text value ++ codes ";\n") same

-- a declaration
pub declaration_is : (depth : ℕ) (name : List ℕ) (value : CExpr)
    → (indentation depth ++ codes "uint64_t " ++ name ++ codes " = ") ++ (expression_text value ++ codes ";\n")
    ≡ indentation depth ++ codes "uint64_t " ++ name ++ codes " = " ++ expression_text value ++ codes ";\n"
declaration_is depth name value =
    three (indentation depth ++ codes "uint64_t " ++ name ++ codes " = ") (expression_text value) (codes ";\n")

-- two operands in brackets
pub two_is : (left op right : List ℕ)
    → codes "(" ++ (left ++ ((codes " " ++ op ++ codes " ") ++ (right ++ codes ")")))
    ≡ codes "(" ++ left ++ codes " " ++ op ++ codes " " ++ right ++ codes ")"
two_is left op right = five_inside (codes "(") left (codes " ") op (codes " ") right (codes ")")
  where
    five_inside : (a b c d e f g : List ℕ) → a ++ (b ++ ((c ++ d ++ e) ++ (f ++ g))) ≡ a ++ b ++ c ++ d ++ e ++ f ++ g
    five_inside a b c d e f g = simp append_assoc

-- a loop
pub loop_is : (depth : ℕ) (start body : List ℕ)
    → (indentation depth ++ start) ++ (body ++ (indentation depth ++ codes "}\n"))
    ≡ indentation depth ++ start ++ body ++ indentation depth ++ codes "}\n"
loop_is depth start body =
    four (indentation depth ++ start) body (indentation depth) (codes "}\n")

-- the first line of a loop
pub loop_start_is : (depth : ℕ) (blanks counter first second : List ℕ) (low : CLow) → blanks ≡ indentation depth
    → first ++ second ≡ low_text low
    → blanks ++ (codes "for (unsigned " ++ (counter ++ (codes " = " ++ (first ++ (second ++ (codes "; " ++ (counter
    ++ (codes " < D; " ++ (counter ++ (codes "++) {\n" ++ []))))))))))
    ≡ indentation depth ++ loop_text counter low
loop_start_is depth blanks counter first second low same_blanks same_low =
    parts blanks (codes "for (unsigned ") counter (codes " = ") first second (codes "; ") counter
    (codes " < D; ") counter
    (codes "++) {\n")
    ∙ ap (λ (b : List ℕ). b ++ (codes "for (unsigned " ++ counter ++ codes " = " ++ (first ++ second) ++ codes "; "
    ++ counter ++ codes " < D; " ++ counter ++ codes "++) {\n")) same_blanks
    ∙ ap (λ (l : List ℕ). indentation depth ++ (codes "for (unsigned " ++ counter ++ codes " = " ++ l ++ codes "; "
    ++ counter ++ codes " < D; " ++ counter ++ codes "++) {\n")) same_low
  where
    parts : (a b c d e f g h i j k : List ℕ)
        → a ++ (b ++ (c ++ (d ++ (e ++ (f ++ (g ++ (h ++ (i ++ (j ++ (k ++ []))))))))))
        ≡ a ++ (b ++ c ++ d ++ (e ++ f) ++ g ++ h ++ i ++ j ++ k)
    parts a b c d e f g h i j k = simp (append_assoc, append-nil)

-- the first of a list of items, and the further ones
pub listed_first : {A : Type 0} (text : A → List ℕ) (items : List A) (d : A) → 0 < length items
    → text (get_or items 0 d) ++ flat_map (further_text text) (take (length items - 1) (drop 1 items))
    ≡ listed text items
listed_first text [] d some = absurd (omega arith)
listed_first text (item ∷ items) d some =
    let rest : suc (length items) - 1 ≡ length items = omega arith in
    ap (λ (n : ℕ). text item ++ flat_map (further_text text) (take n items)) rest
    ∙ ap (λ (l : List _). text item ++ flat_map (further_text text) l) (take_all (length items) items (omega arith))
