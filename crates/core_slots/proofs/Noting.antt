-- The ends of registers, while one group of registers after another is noted.
use Rattle.std.proofs.Common.{◌≡◌, ℕ, ◌+◌, ◌<◌, ◌≤◌, Bool, true, false, cond, List, [], ◌∷◌, ◌++◌, length}
use Rattle.std.proofs.Common.{get_or, take, drop, map, Option, Some, None, All, refl, sym, ap, ◌∙◌, subst, inl, inr}
use Rattle.std.proofs.Common.{append_assoc, append-nil, arith}
use Rattle.std.specs.Prelude.{nat_eq, nat_lt, ◌==◌, ◌||◌}
use Rattle.std.specs.List.{concat, list_any}
use Rattle.std.proofs.lemmas.Bool.{le-ltb, lt-ltb, or_right, cases_lt}
use Rattle.std.proofs.lemmas.List.{drop-append-le, drop_all, drop_at, take_at, take_more, length-append, length-map}
use Rattle.std.proofs.lemmas.List.{length-take-le, map-append}
use Rattle.std.proofs.lemmas.List.Elements.{All-same, All-take, All-drop, All-weaker, All-from_get_or}
use Rattle.std.proofs.lemmas.List.Folds.{list_any-append, concat-append}
use Rattle.usuba0.specs.declared.circuit.Gate.{Gate}
use Rattle.usuba0.specs.declared.circuit.Gate.TheVariants as gate
use Rattle.usuba0.specs.declared.circuit.Reg.{Reg}
use Rattle.usuba0.specs.Circuit.{Circuit, IsCore}
use Rattle.usuba0.proofs.CircuitLemmas.{equation_at}
use Rattle.c_form.specs.Slots.{operands, reads}
use Rattle.c_form.proofs.Last.{operands-below}
use Rattle.core_slots.specs.State.Ends.{AreEnds, AreNoted, numbers}

-- where nothing is read each end is 0
pub AreEnds-none : (inputs : ℕ) (ends : List ℕ) → ((j : ℕ) → j < length ends → get_or ends j 0 ≡ 0)
    → AreEnds inputs [] ends
AreEnds-none inputs ends zeros j k within =
    ap (λ (groups : List (List ℕ)). list_any (nat_eq (inputs + j)) (concat groups)) (drop_all k [] (omega arith))
    ∙ sym (ap (nat_lt k) (zeros j within) ∙ le-ltb k 0 (omega arith))

rest_same : (groups : List (List ℕ)) (k : ℕ) → concat (drop k (groups ++ [] ∷ [])) ≡ concat (drop k groups)
rest_same groups k =
    elim (cases_lt (length groups) k) as (λ v. concat (drop k (groups ++ [] ∷ [])) ≡ concat (drop k groups)) [
      | inl past ↦
          (let long : length (groups ++ [] ∷ []) ≤ k = omega (arith, length-append groups ([] ∷ [])) in
          ap concat (drop_all k (groups ++ [] ∷ []) long) ∙ sym (ap concat (drop_all k groups (omega arith))))
      | inr within ↦
          ap concat (drop-append-le k groups ([] ∷ []) within) ∙ concat-append (drop k groups) ([] ∷ [])
          ∙ append-nil (concat (drop k groups))
    ]

-- a group that reads nothing changes no end
pub AreEnds-next : (inputs : ℕ) (groups : List (List ℕ)) (ends : List ℕ) → AreEnds inputs groups ends
    → AreEnds inputs (groups ++ [] ∷ []) ends
AreEnds-next inputs groups ends are j k within =
    ap (list_any (nat_eq (inputs + j))) (rest_same groups k) ∙ are j k within

rest_parts : (a part : List ℕ) (r : ℕ) → a ++ ((part ++ r ∷ []) ++ []) ≡ (a ++ (part ++ [])) ++ r ∷ []
rest_parts a part r = simp (append_assoc, append-nil)

rest_more : (groups : List (List ℕ)) (part : List ℕ) (r k : ℕ) → k ≤ length groups
    → concat (drop k (groups ++ (part ++ r ∷ []) ∷ [])) ≡ concat (drop k (groups ++ part ∷ [])) ++ r ∷ []
rest_more groups part r k within =
    ap concat (drop-append-le k groups ((part ++ r ∷ []) ∷ []) within)
    ∙ concat-append (drop k groups) ((part ++ r ∷ []) ∷ [])
    ∙ rest_parts (concat (drop k groups)) part r
    ∙ ap (λ (t : List ℕ). t ++ r ∷ [])
    (sym (ap concat (drop-append-le k groups (part ∷ []) within) ∙ concat-append (drop k groups) (part ∷ [])))

rest_none : (groups : List (List ℕ)) (part : List ℕ) (k : ℕ) → length groups < k
    → concat (drop k (groups ++ part ∷ [])) ≡ []
rest_none groups part k past =
    let long : length (groups ++ part ∷ []) ≤ k = omega (arith, length-append groups (part ∷ [])) in
    ap concat (drop_all k (groups ++ part ∷ []) long)

or_none : (b : Bool) → (b || false) ≡ b
or_none true = refl
or_none false = refl

-- one more register is read in the last group
pub AreEnds-noted : (inputs place r : ℕ) (groups : List (List ℕ)) (part ends now : List ℕ) → length groups ≡ place
    → AreEnds inputs (groups ++ part ∷ []) ends → AreNoted inputs place r ends now → length now ≡ length ends
    → AreEnds inputs (groups ++ (part ++ r ∷ []) ∷ []) now
AreEnds-noted inputs place r groups part ends now last are noted same j k within =
    let before = are j k (omega arith) in
    let value = noted j (omega arith) in
    let p = nat_eq (inputs + j) in
    elim (cases_lt place k) as (λ v. list_any p (concat (drop k (groups ++ (part ++ r ∷ []) ∷ []))) ≡ nat_lt k
    (get_or now j 0)) [
      | inl past ↦
          (let none : list_any p (concat (drop k (groups ++ (part ++ r ∷ []) ∷ []))) ≡ false
          = ap (list_any p) (rest_none groups (part ++ r ∷ []) k (omega arith)) in
          let none_before : nat_lt k (get_or ends j 0) ≡ false
          = sym before ∙ ap (list_any p) (rest_none groups part k (omega arith)) in
          none ∙ sym
          (ap (nat_lt k) value
          ∙ (elim (inputs + j == r) as (λ v. nat_lt k (cond v (place + 1) (get_or ends j 0)) ≡ false) [
            | true ↦ le-ltb k (place + 1) (omega arith)
            | false ↦ none_before
          ])))
      | inr within_place ↦
          (let more : list_any p (concat (drop k (groups ++ (part ++ r ∷ []) ∷ [])))
          ≡ (list_any p (concat (drop k (groups ++ part ∷ []))) || (p r || false))
          = ap (list_any p) (rest_more groups part r k (omega arith))
          ∙ list_any-append p (concat (drop k (groups ++ part ∷ []))) (r ∷ []) in
          more
          ∙ (elim (inputs + j == r) as (λ v. (list_any p (concat (drop k (groups ++ part ∷ []))) || (v || false))
          ≡ nat_lt k (cond v (place + 1) (get_or ends j 0))) [
            | true ↦ or_right (list_any p (concat (drop k (groups ++ part ∷ [])))) true refl ∙ sym (lt-ltb k (place + 1)
                (omega arith))
            | false ↦ or_none (list_any p (concat (drop k (groups ++ part ∷ [])))) ∙ before
          ])
          ∙ sym (ap (nat_lt k) value))
    ]

-- the register of an operand, if there is one, is read in the last group
pub AreEnds-operand : (inputs place : ℕ) (operand : Option Reg) (register : Reg) (groups : List (List ℕ))
    (part ends now : List ℕ)
    → operand ≡ Some register → length groups ≡ place → AreEnds inputs (groups ++ part ∷ []) ends
    → AreNoted inputs place register.0 ends now → length now ≡ length ends
    → AreEnds inputs (groups ++ (part ++ numbers operand) ∷ []) now
AreEnds-operand inputs place operand register groups part ends now is last are noted same =
    let P : Option Reg → Type 0 = λ o. AreEnds inputs (groups ++ (part ++ numbers o) ∷ []) now in
    subst P (sym is) (AreEnds-noted inputs place register.0 groups part ends now last are noted same)

pub AreEnds-no_operand : (inputs : ℕ) (operand : Option Reg) (groups : List (List ℕ)) (part ends : List ℕ)
    → operand ≡ None → AreEnds inputs (groups ++ part ∷ []) ends
    → AreEnds inputs (groups ++ (part ++ numbers operand) ∷ []) ends
AreEnds-no_operand inputs operand groups part ends is are =
    let P : List ℕ → Type 0 = λ p. AreEnds inputs (groups ++ p ∷ []) ends in
    subst P (sym (ap (λ (o : Option Reg). part ++ numbers o) is ∙ append-nil part)) are

-- the groups of the equations before one are as many as these
pub length-groups : (gates : List Gate) (i : ℕ) → i < length gates → length (map operands (take i gates)) ≡ i
length-groups gates i within =
    length-map (take i gates) operands ∙ length-take-le i gates (let le : i ≤ length gates = omega arith in le)

-- one more equation is read
pub AreEnds-equation : (inputs : ℕ) (gates : List Gate) (i : ℕ) (d : Gate) (listed ends : List ℕ) → i < length gates
    → listed ≡ operands (get_or gates i d) → AreEnds inputs (map operands (take i gates) ++ listed ∷ []) ends
    → AreEnds inputs (map operands (take (i + 1) gates)) ends
AreEnds-equation inputs gates i d listed ends within is are =
    let P : List (List ℕ) → Type 0 = λ groups. AreEnds inputs groups ends in
    subst P
    (ap (λ (l : List ℕ). map operands (take i gates) ++ l ∷ []) is
    ∙ sym (ap (map operands) (take_more gates i d within) ∙ map-append operands (take i gates) (get_or gates i d ∷ [])))
    are

-- one more register is copied
pub AreEnds-copy : (inputs place : ℕ) (registers : List Reg) (i : ℕ) (d : Reg) (groups : List (List ℕ))
    (ends now : List ℕ) → i < length registers → length groups ≡ place
    → AreEnds inputs (groups ++ map (λ (o : Reg). o.0) (take i registers) ∷ []) ends
    → AreNoted inputs place (get_or registers i d).0 ends now → length now ≡ length ends
    → AreEnds inputs (groups ++ map (λ (o : Reg). o.0) (take (i + 1) registers) ∷ []) now
AreEnds-copy inputs place registers i d groups ends now within last are noted same =
    let r = get_or registers i d in
    let P : List ℕ → Type 0 = λ part. AreEnds inputs (groups ++ part ∷ []) now in
    subst P
    (sym (ap (map (λ (o : Reg). o.0)) (take_more registers i d within)
    ∙ map-append (λ (o : Reg). o.0) (take i registers) (r ∷ [])))
    (AreEnds-noted inputs place r.0 groups (map (λ (o : Reg). o.0) (take i registers)) ends now last are noted same)

-- what holds of each element of joined lists holds of those of each
pub All-front : (P : ℕ → Type 0) (xs ys : List ℕ) → All P (xs ++ ys) → All P xs
All-front P xs ys all =
    All-same P xs (take (length xs) (xs ++ ys)) (sym (take_at xs ys (length xs) refl)) (All-take P (length xs) (xs
    ++ ys) all)

pub All-back : (P : ℕ → Type 0) (xs ys : List ℕ) → All P (xs ++ ys) → All P ys
All-back P xs ys all =
    All-same P ys (drop (length xs) (xs ++ ys)) (sym (drop_at xs ys (length xs) refl)) (All-drop P (length xs) (xs
    ++ ys) all)

-- the equations of a core read registers that it has
pub core_registers : (core : Circuit) (inputs many : ℕ) (gates : List Gate) → IsCore core → inputs ≡ core.inputs
    → gates ≡ core.equations → many ≡ length core.equations
    → All (λ g. All (λ r. r < inputs + many) (operands g)) gates
core_registers core inputs many gates is same_inputs same_gates same_many =
    let P : Gate → Type 0 = λ g. All (λ r. r < inputs + many) (operands g) in
    subst (λ (gs : List Gate). All P gs) (sym same_gates)
    (All-from_get_or P core.equations (gate.Const 0)
    (λ k within.
    All-weaker (λ r. r < core.inputs + k) (λ r. r < inputs + many) (λ r below. omega arith)
    (operands (get_or core.equations k (gate.Const 0)))
    (operands-below core.width (core.inputs + k) (get_or core.equations k (gate.Const 0))
    (equation_at core.width core.inputs core.equations k (gate.Const 0) is.equations within))))

-- what an equation of a core reads was made before it
pub registers-before : (core : Circuit) (gates : List Gate) (i n : ℕ) (d : Gate) → IsCore core → gates ≡ core.equations
    → n ≡ i → i < length gates → All (λ r. r < core.inputs + n) (operands (get_or gates i d))
registers-before core gates i n d is same_gates same within =
    let P : List Gate → Type 0 = λ gs. All (λ r. r < core.inputs + n) (operands (get_or gs i d)) in
    let long : i < length core.equations = subst (λ (gs : List Gate). i < length gs) same_gates within in
    subst P (sym same_gates)
    (All-weaker (λ r. r < core.inputs + i) (λ r. r < core.inputs + n) (λ r below. omega arith)
    (operands (get_or core.equations i d))
    (operands-below core.width (core.inputs + i) (get_or core.equations i d)
    (equation_at core.width core.inputs core.equations i d is.equations long)))

-- the ends of a core, from its parts
pub AreEnds-core : (core : Circuit) (inputs : ℕ) (gates : List Gate) (registers : List Reg) (ends : List ℕ)
    → inputs ≡ core.inputs → gates ≡ core.equations → registers ≡ core.outputs
    → AreEnds inputs (map operands gates ++ map (λ (o : Reg). o.0) registers ∷ []) ends
    → AreEnds core.inputs (reads core) ends
AreEnds-core core inputs gates registers ends same_inputs same_gates same_registers are =
    subst (λ (n : ℕ). AreEnds n (reads core) ends) same_inputs
    (subst (λ (groups : List (List ℕ)). AreEnds inputs groups ends)
    (ap (λ (gs : List Gate). map operands gs ++ map (λ (o : Reg). o.0) registers ∷ []) same_gates
    ∙ ap (λ (rs : List Reg). map operands core.equations ++ map (λ (o : Reg). o.0) rs ∷ []) same_registers)
    are)
