-- The cells of the first left sides, one more at a time.
use Rattle.std.proofs.Common.{◌≡◌, ℕ, ◌+◌, ◌<◌, List, [], ◌∷◌, ◌++◌, length, take, refl, sym, ap, ◌∙◌, append_assoc}
use Rattle.std.proofs.lemmas.List.{append-nil, take_more}
use Rattle.usuba_code.specs.Code.{Assigned, assigned_at}
use Rattle.ready_order.specs.Numbered.{target_numbers}

target_append : (a b : List Assigned) → target_numbers (a ++ b) ≡ target_numbers a ++ target_numbers b
target_append [] b = refl
target_append (t ∷ a) b = ap (λ (ns : List ℕ). t.cells ++ ns) (target_append a b) ∙ sym (append_assoc t.cells (target_numbers a) (target_numbers b))

pub targets_more : (targets : List Assigned) (j : ℕ) → j < length targets
    → target_numbers (take (j + 1) targets) ≡ target_numbers (take j targets) ++ (assigned_at targets j).cells
targets_more targets j less =
    ap target_numbers (take_more targets j (record { place = record { line = 0; column = 0 }; cells = [] }) less)
    ∙ target_append (take j targets) (assigned_at targets j ∷ [])
    ∙ ap (λ (ns : List ℕ). target_numbers (take j targets) ++ ns) (append-nil (assigned_at targets j).cells)
