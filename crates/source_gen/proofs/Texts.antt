-- The pieces of a line and of a report are its text.
use Rattle.std.proofs.Common.{◌≡◌, ℕ, ◌-◌, Bool, true, false, List, [], ◌∷◌, ◌++◌, sym, ap, ◌∙◌, append_assoc, append-nil, codes, decimal}
use Rattle.std.specs.Prelude.{nat_lt, if◌then◌else◌}
use Rattle.source_gen.specs.Source.{operand_text, line_text}
use Rattle.source_gen.specs.declared.operands.Operands.{Operands}

-- the pieces of an operand, and what stands behind them
operand_pieces : (j : ℕ) (variable : List ℕ) (element : ℕ) (rest : List ℕ)
    → variable ≡ (if nat_lt j 8 then codes "x[" else codes "z[")
    → element ≡ (if nat_lt j 8 then j else j - 8) → variable ++ (decimal element ++ 93 ∷ rest) ≡ operand_text j ++ rest
operand_pieces j variable element rest v e =
    ap (λ (t : List ℕ). t ++ (decimal element ++ 93 ∷ rest)) v
    ∙ ap (λ (n : ℕ). (if nat_lt j 8 then codes "x[" else codes "z[") ++ (decimal n ++ 93 ∷ rest)) e
    ∙ by_test (nat_lt j 8)
  where
    by_test : (b : Bool) → (if b then codes "x[" else codes "z[") ++ (decimal (if b then j else j - 8) ++ 93 ∷ rest)
        ≡ (if b then codes "x[" ++ decimal j ++ codes "]" else codes "z[" ++ decimal (j - 8) ++ codes "]") ++ rest
    by_test true = sym (append_assoc (codes "x[" ++ decimal j) (codes "]") rest)
    by_test false = sym (append_assoc (codes "z[" ++ decimal (j - 8)) (codes "]") rest)

regrouped : (a b c d e f g h i : List ℕ) → a ++ (b ++ (c ++ (d ++ (e ++ (f ++ (g ++ (h ++ i))))))) ≡ a ++ b ++ c ++ d
    ++ e ++ f ++ g ++ h ++ i
regrouped a b c d e f g h i = simp append_assoc

-- a variable and an element are those of an operand
pub record IsOperand (j : ℕ) (name : List ℕ) (number : ℕ) : Type 0 where
  pub variable : name ≡ (if nat_lt j 8 then codes "x[" else codes "z[")
  pub element : number ≡ (if nat_lt j 8 then j else j - 8)

-- the pieces of a line
pub line_pieces : (k : ℕ) (operands : Operands) (v w u : List ℕ) (l m n : ℕ) → IsOperand operands.first v l
    → IsOperand operands.second w m
    → IsOperand operands.third u n
    → codes "  z[" ++ (decimal k ++ (codes "] = (" ++ (v
    ++ (decimal l ++ (codes "] ^ " ++ (w ++ (decimal m ++ (codes "]) & "
    ++ (u ++ (decimal n ++ (codes "];\n" ++ []))))))))))) ≡ line_text k operands
line_pieces k operands v w u l m n first second third =
    let c = operand_pieces operands.third u n (codes ";\n") third.variable third.element in
    let b = operand_pieces operands.second w m (codes ") & " ++ (operand_text operands.third ++ codes ";\n"))
    second.variable second.element in
    let a = operand_pieces operands.first v l (codes " ^ "
    ++ (operand_text operands.second ++ (codes ") & " ++ (operand_text operands.third ++ codes ";\n"))))
    first.variable first.element in
    ap (λ (t : List ℕ). codes "  z[" ++ (decimal k ++ (codes "] = ("
    ++ (v ++ (decimal l ++ (codes "] ^ " ++ (w ++ (decimal m ++ (codes "]) & " ++ t))))))))) c
    ∙ ap (λ (t : List ℕ). codes "  z[" ++ (decimal k ++ (codes "] = (" ++ (v ++ (decimal l ++ (codes "] ^ " ++ t)))))) b
    ∙ ap (λ (t : List ℕ). codes "  z[" ++ (decimal k ++ (codes "] = (" ++ t))) a
    ∙ regrouped (codes "  z[") (decimal k) (codes "] = (") (operand_text operands.first) (codes " ^ ")
    (operand_text operands.second) (codes ") & ")
    (operand_text operands.third) (codes ";\n")

-- the pieces of a report
pub report_pieces : (a b c d e f g h i j k : List ℕ)
    → a ++ (b ++ (c ++ (d ++ (e ++ (f ++ (g ++ (h ++ (i ++ (j ++ (k ++ [])))))))))) ≡ a ++ b ++ c ++ d ++ e ++ f ++ g
    ++ h ++ i ++ j ++ k
report_pieces a b c d e f g h i j k = simp (append_assoc, append-nil)
