-- The text of the shares of outputs, line by line.
use Rattle.std.proofs.Common.{◌≡◌, ℕ, suc, ◌+◌, ◌*◌, min, List, ◌++◌, take, drop, length, flat_map, codes, decimal, sym, ap, ◌∙◌, arith, append_assoc}
use Rattle.std.proofs.Math.Nat.{suc-mul, zero-mul}
use Rattle.std.proofs.lemmas.List.{take_min, drop_min, drop-drop}
use Rattle.tornado_main.specs.commands.Run.{share_text, output_text, line_text}

-- the parts of a line
pub line_parts : (k : ℕ) (shares : List ℕ) → (codes "o" ++ decimal k) ++ (flat_map share_text shares ++ codes "\n") ≡ output_text k shares
line_parts k shares = sym (append_assoc (codes "o" ++ decimal k) (flat_map share_text shares) (codes "\n"))

-- before the first line all is left
pub all_left : (d : ℕ) (words : List ℕ) → words ≡ drop (0 * d) words
all_left d words = ap (λ (n : ℕ). drop n words) (sym (zero-mul d))

-- the line of the first shares that are left
pub first_line : (d k number : ℕ) (words rest row : List ℕ) → rest ≡ drop (k * d) words → row ≡ take (min d (length rest)) rest → number ≡ k
    → output_text number row ≡ line_text d words k
first_line d k number words rest row left is same =
    let cut : row ≡ take d (drop (k * d) words) = is ∙ take_min d rest ∙ ap (take d) left in
    ap (λ (m : ℕ). output_text m row) same ∙ ap (output_text k) cut

-- what is left after it
pub left_after : (d k : ℕ) (words rest further : List ℕ) → rest ≡ drop (k * d) words → further ≡ drop (min d (length rest)) rest
    → further ≡ drop ((k + 1) * d) words
left_after d k words rest further left is =
    let next : suc k ≡ k + 1 = omega arith in
    let times : k * d + d ≡ (k + 1) * d = sym (suc-mul k d) ∙ ap (λ (n : ℕ). n * d) next in
    is ∙ drop_min d rest ∙ ap (drop d) left ∙ drop-drop d (k * d) words ∙ ap (λ (n : ℕ). drop n words) times
