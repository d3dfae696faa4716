-- Where registers are read, and at which equations they are live.
use Rattle.std.proofs.Common.{◌≡◌, ℕ, zero, suc, ◌+◌, ◌-◌, ◌<◌, ◌≤◌, Bool, true, List, [], ◌∷◌, ◌++◌, length, get_or}
use Rattle.std.proofs.Common.{drop, map, slice_get, Some, sym, ap, ◌∙◌, subst, zero-add, append-nil, arith}
use Rattle.std.specs.Prelude.{nat_eq, nat_lt, ◌||◌, IsTrue}
use Rattle.std.specs.List.{concat, list_any}
use Rattle.std.proofs.lemmas.Bool.{and_parts, and_from, or_right, ltb-true, lt-ltb}
use Rattle.std.proofs.lemmas.List.{drop-append-le, drop-map, drop_more, drop_all, length-map}
use Rattle.std.proofs.lemmas.List.Folds.{list_any-append}
use Rattle.std.proofs.lemmas.Option.{slice_get_within, get_or_from_slice_get}
use Rattle.usuba0.specs.declared.circuit.Gate.{Gate}
use Rattle.usuba0.specs.Circuit.{Circuit}
use Rattle.c_form.specs.Slots.{operands, copied, reads, is_read, is_live}

any_later_one : (p : ℕ → Bool) (groups : List (List ℕ)) (k : ℕ) → list_any p (concat (drop (suc k) groups)) ≡ true
    → list_any p (concat (drop k groups)) ≡ true
any_later_one p [] zero found = found
any_later_one p [] (suc k) found = found
any_later_one p (group ∷ groups) zero found =
    list_any-append p group (concat groups) ∙ or_right (list_any p group) (list_any p (concat groups)) found
any_later_one p (group ∷ groups) (suc k) found = any_later_one p groups k found

any_later : (p : ℕ → Bool) (groups : List (List ℕ)) (k d : ℕ) → list_any p (concat (drop (d + k) groups)) ≡ true
    → list_any p (concat (drop k groups)) ≡ true
any_later p groups k zero found =
    subst (λ (n : ℕ). list_any p (concat (drop n groups)) ≡ true) (zero-add k) found
any_later p groups k (suc d) found =
    let place : suc d + k ≡ suc (d + k) = omega arith in
    any_later p groups k d
    (any_later_one p groups (d + k) (subst (λ (n : ℕ). list_any p (concat (drop n groups)) ≡ true) place found))

-- what is read at a place or later is read at each earlier place or later
pub is_read-earlier : (core : Circuit) (i k j : ℕ) → i ≤ k → is_read core k j ≡ true → is_read core i j ≡ true
is_read-earlier core i k j earlier read =
    let place : k ≡ k - i + i = omega arith in
    any_later (nat_eq (core.inputs + j)) (reads core) i (k - i)
    (subst (λ (n : ℕ). list_any (nat_eq (core.inputs + j)) (concat (drop n (reads core))) ≡ true) place read)

-- a live register was made before and is read there or later
pub is_live-parts : (core : Circuit) (k j : ℕ) → IsTrue (is_live core k j) → (j < k) × (is_read core k j ≡ true)
is_live-parts core k j live =
    let parts = and_parts (nat_lt j k) (is_read core k j) live in
    (ltb-true j k parts.0, parts.1)

-- and each such register is live
pub is_live-from : (core : Circuit) (k j : ℕ) → j < k → is_read core k j ≡ true → IsTrue (is_live core k j)
is_live-from core k j made read = and_from (nat_lt j k) (is_read core k j) (lt-ltb j k made) read

-- a live register was live at each earlier equation since it was made
pub is_live-earlier : (core : Circuit) (i k j : ℕ) → i ≤ k → j < i → IsTrue (is_live core k j)
    → IsTrue (is_live core i j)
is_live-earlier core i k j earlier made live =
    is_live-from core i j made (is_read-earlier core i k j earlier (is_live-parts core k j live).1)

-- the groups that are read from an equation on
pub drop-reads : (core : Circuit) (n : ℕ) → n ≤ length core.equations
    → drop n (reads core) ≡ map operands (drop n core.equations) ++ copied core ∷ []
drop-reads core n within =
    let long : n ≤ length (map operands core.equations) = omega (arith, length-map core.equations operands) in
    drop-append-le n (map operands core.equations) (copied core ∷ []) long
    ∙ ap (λ (groups : List (List ℕ)). groups ++ copied core ∷ []) (drop-map operands n core.equations)

-- what is read from an equation on: its operands, and what is read behind it
pub concat-reads : (core : Circuit) (k : ℕ) (g : Gate) → slice_get core.equations k ≡ Some g
    → concat (drop k (reads core)) ≡ operands g ++ concat (drop (k + 1) (reads core))
concat-reads core k g here =
    let within : k < length core.equations = slice_get_within core.equations k g here in
    let same : get_or core.equations k g ≡ g = get_or_from_slice_get core.equations k g g here in
    ap concat
    (drop-reads core k (omega arith)
    ∙ ap (λ (rest : List Gate). map operands rest ++ copied core ∷ [])
    (drop_more core.equations k g within ∙ ap (λ (h : Gate). h ∷ drop (k + 1) core.equations) same)
    ∙ ap (λ (groups : List (List ℕ)). operands g ∷ groups) (sym (drop-reads core (k + 1) (omega arith))))

-- a register is read from an equation on where the equation reads it, or where it is read behind it
pub is_read-here : (core : Circuit) (k : ℕ) (g : Gate) (j : ℕ) → slice_get core.equations k ≡ Some g
    → is_read core k j ≡ (list_any (nat_eq (core.inputs + j)) (operands g) || is_read core (k + 1) j)
is_read-here core k g j here =
    ap (list_any (nat_eq (core.inputs + j))) (concat-reads core k g here)
    ∙ list_any-append (nat_eq (core.inputs + j)) (operands g) (concat (drop (k + 1) (reads core)))

-- behind the last equation those registers are read that are copied
pub is_read-copied : (core : Circuit) (j : ℕ)
    → is_read core (length core.equations) j ≡ list_any (nat_eq (core.inputs + j)) (copied core)
is_read-copied core j =
    ap (λ (groups : List (List ℕ)). list_any (nat_eq (core.inputs + j)) (concat groups))
    (drop-reads core (length core.equations) (omega arith)
    ∙ ap (λ (rest : List Gate). map operands rest ++ copied core ∷ [])
    (drop_all (length core.equations) core.equations (omega arith)))
    ∙ ap (list_any (nat_eq (core.inputs + j))) (append-nil (copied core))
