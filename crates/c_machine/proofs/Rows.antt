-- Rows of memory, one after another.
use Rattle.std.proofs.Common.{◌≡◌, ℕ, suc, ◌+◌, ◌-◌, ◌*◌, ◌<◌, List, [], ◌∷◌, ◌++◌, take, drop, length, replicate, sym, ap, ◌∙◌, arith}
use Rattle.std.proofs.lemmas.List.{append_assoc, length-drop}
use Rattle.c_machine.specs.Run.{zero_rows, rows_of}

-- one row of zeros more
pub zero_rows-next : (d count k : ℕ) (rows : List (List ℕ)) → k < count
    → (rows ++ replicate d 0 ∷ []) ++ zero_rows d (count - (k + 1)) ≡ rows ++ zero_rows d (count - k)
zero_rows-next d count k rows below =
    let left : count - k ≡ suc (count - (k + 1)) = omega (arith, below) in
    append_assoc rows (replicate d 0 ∷ []) (zero_rows d (count - (k + 1))) ∙ ap (λ n. rows ++ zero_rows d n) (sym left)

-- one row of words more
pub rows_of-next : (d count k : ℕ) (rows : List (List ℕ)) (rest : List ℕ) → k < count
    → (rows ++ take d rest ∷ []) ++ rows_of d (count - (k + 1)) (drop d rest) ≡ rows ++ rows_of d (count - k) rest
rows_of-next d count k rows rest below =
    let left : count - k ≡ suc (count - (k + 1)) = omega (arith, below) in
    append_assoc rows (take d rest ∷ []) (rows_of d (count - (k + 1)) (drop d rest)) ∙ ap (λ n. rows ++ rows_of d n rest) (sym left)

row_less : (n d total : ℕ) → total ≡ suc n * d → total - d ≡ n * d
row_less n d total is = omega (arith, is)

-- the words that are left after one row more
pub words_left : (d count k : ℕ) (rest : List ℕ) → k < count → length rest ≡ (count - k) * d
    → length (drop d rest) ≡ (count - (k + 1)) * d
words_left d count k rest below is =
    let left : count - k ≡ suc (count - (k + 1)) = omega (arith, below) in
    length-drop d rest ∙ row_less (count - (k + 1)) d (length rest) (is ∙ ap (λ n. n * d) left)
