-- Names passed over in loops.
use Rattle.std.proofs.Common.{◌≡◌, ℕ, ◌+◌, ◌<◌, Bool, List, [], ◌∷◌, ◌++◌, length, map, take, drop, get_or, Result, Ok, Err, sym, ap, subst, ◌∙◌}
use Rattle.std.specs.Result.{IsErrAnd}
use Rattle.std.proofs.lemmas.List.{drop_more, take_more}
use Rattle.c_tree.specs.declared.CFun.{CFun}
use Rattle.c_names.proofs.Passing.{not_passed, passed_on}
use Rattle.c_names.specs.Names.{Checked, gadget_names, gadgets_names, all_checked}
use Rattle.c_names.specs.Scope.{InScope}
use Rattle.c_names.specs.State.Answers.{IsPassed, passed}
use Rattle.c_names.specs.declared.fault.NameFault.{NameFault}
use Rattle.tor_edge.specs.declared.place.Place.{Place}

item_first : {X : Type 0} (xs : List X) (i : ℕ) (x : X) → i < length xs → x ≡ get_or xs i x → drop i xs ≡ x ∷ drop (i + 1) xs
item_first xs i x within is = drop_more xs i x within ∙ ap (λ y. y ∷ drop (i + 1) xs) (sym is)

-- one of several in turn, and then the others
module _ {X : Type 0} (f : X → List InScope → Checked) where
  turn_at : (xs : List X) (i : ℕ) (x : X) (scope : List InScope) → i < length xs → x ≡ get_or xs i x
      → all_checked (map f (drop i xs)) scope ≡ all_checked (f x ∷ map f (drop (i + 1) xs)) scope
  turn_at xs i x scope within is = ap (λ l. all_checked (map f l) scope) (item_first xs i x within is)

  pub turn_names : (xs : List X) (i : ℕ) (x : X) (scope after : List InScope) (places left : List Place) → i < length xs → x ≡ get_or xs i x
      → passed (f x scope).names places ≡ Ok left → after ≡ (f x scope).scope
      → passed (all_checked (map f (drop (i + 1) xs)) after).names left ≡ passed (all_checked (map f (drop i xs)) scope).names places
  turn_names xs i x scope after places left within is right e =
      ap (λ s. passed (all_checked (map f (drop (i + 1) xs)) s).names left) e
      ∙ sym (passed_on (f x scope).names (all_checked (map f (drop (i + 1) xs)) (f x scope).scope).names places left right)
      ∙ sym (ap (λ (j : Checked). passed j.names places) (turn_at xs i x scope within is))

  pub turn_scope : (xs : List X) (i : ℕ) (x : X) (scope after : List InScope) → i < length xs → x ≡ get_or xs i x → after ≡ (f x scope).scope
      → (all_checked (map f (drop (i + 1) xs)) after).scope ≡ (all_checked (map f (drop i xs)) scope).scope
  turn_scope xs i x scope after within is e =
      ap (λ s. (all_checked (map f (drop (i + 1) xs)) s).scope) e ∙ sym (ap (λ (j : Checked). j.scope) (turn_at xs i x scope within is))

  pub turn_not : (xs : List X) (i : ℕ) (x : X) (scope : List InScope) (places left other : List Place) (wanted : Result (List Place) Place) (said : Result Unit NameFault) (wrong : NameFault)
      → i < length xs → x ≡ get_or xs i x → passed (all_checked (map f (drop i xs)) scope).names places ≡ wanted → IsErrAnd said (λ y. y ≡ wrong)
      → IsPassed (passed (f x scope).names places) (Err wrong) other → IsPassed wanted said left
  turn_not xs i x scope places left other wanted said wrong within is so_far hands h =
      let more : List Bool = (all_checked (map f (drop (i + 1) xs)) (f x scope).scope).names in
      subst (λ r. IsPassed r said left) (sym (ap (λ (j : Checked). passed j.names places) (turn_at xs i x scope within is)) ∙ so_far)
      (not_passed (f x scope).names more places left other said wrong hands h)

-- a gadget, and then the ones behind it
gadgets_at : (gs : List CFun) (k : ℕ) (g : CFun) → k < length gs → g ≡ get_or gs k g
    → gadgets_names (take k gs) (drop k gs) ≡ gadget_names (take k gs) g ++ gadgets_names (take (k + 1) gs) (drop (k + 1) gs)
gadgets_at gs k g within is =
    ap (gadgets_names (take k gs)) (item_first gs k g within is)
    ∙ ap (λ earlier. gadget_names (take k gs) g ++ gadgets_names earlier (drop (k + 1) gs)) (ap (λ y. take k gs ++ y ∷ []) is ∙ sym (take_more gs k g within))

pub next_gadget : (gs earlier : List CFun) (k : ℕ) (g : CFun) (places left : List Place) → earlier ≡ take k gs → k < length gs → g ≡ get_or gs k g
    → passed (gadget_names earlier g) places ≡ Ok left → passed (gadgets_names (take (k + 1) gs) (drop (k + 1) gs)) left ≡ passed (gadgets_names (take k gs) (drop k gs)) places
next_gadget gs earlier k g places left e within is right =
    sym (passed_on (gadget_names (take k gs) g) (gadgets_names (take (k + 1) gs) (drop (k + 1) gs)) places left
    (ap (λ (ts : List CFun). passed (gadget_names ts g) places) (sym e) ∙ right))
    ∙ sym (ap (λ ns. passed ns places) (gadgets_at gs k g within is))

pub wrong_gadget : (gs earlier : List CFun) (k : ℕ) (g : CFun) (places left other : List Place) (wanted : Result (List Place) Place) (said : Result Unit NameFault) (wrong : NameFault)
    → earlier ≡ take k gs → k < length gs → g ≡ get_or gs k g → passed (gadgets_names (take k gs) (drop k gs)) places ≡ wanted → IsErrAnd said (λ y. y ≡ wrong)
    → IsPassed (passed (gadget_names earlier g) places) (Err wrong) other → IsPassed wanted said left
wrong_gadget gs earlier k g places left other wanted said wrong e within is so_far hands h =
    subst (λ r. IsPassed r said left) (sym (ap (λ ns. passed ns places) (gadgets_at gs k g within is)) ∙ so_far)
    (not_passed (gadget_names (take k gs) g) (gadgets_names (take (k + 1) gs) (drop (k + 1) gs)) places left other said wrong hands
    (subst (λ (ts : List CFun). IsPassed (passed (gadget_names ts g) places) (Err wrong) other) e h))

-- a name of its own, and then those of the items behind it
pub next_right : {X : Type 0} (test : X → Bool) (xs : List X) (i : ℕ) (x : X) (is_right : Bool) (places left : List Place) → i < length xs → x ≡ get_or xs i x → is_right ≡ test x
    → passed (is_right ∷ []) places ≡ Ok left → passed (map test (drop (i + 1) xs)) left ≡ passed (map test (drop i xs)) places
next_right test xs i x is_right places left within is e right =
    sym (passed_on (is_right ∷ []) (map test (drop (i + 1) xs)) places left right)
    ∙ ap (λ b. passed (b ∷ map test (drop (i + 1) xs)) places) e
    ∙ sym (ap (λ l. passed (map test l) places) (item_first xs i x within is))

pub wrong_right : {X : Type 0} (test : X → Bool) (xs : List X) (i : ℕ) (x : X) (is_right : Bool) (places left other : List Place) (wanted : Result (List Place) Place) (said : Result Unit NameFault)
    (wrong : NameFault) → i < length xs → x ≡ get_or xs i x → is_right ≡ test x → passed (map test (drop i xs)) places ≡ wanted → IsErrAnd said (λ y. y ≡ wrong)
    → IsPassed (passed (is_right ∷ []) places) (Err wrong) other → IsPassed wanted said left
wrong_right test xs i x is_right places left other wanted said wrong within is e so_far hands h =
    subst (λ r. IsPassed r said left)
    (ap (λ b. passed (b ∷ map test (drop (i + 1) xs)) places) e ∙ sym (ap (λ l. passed (map test l) places) (item_first xs i x within is)) ∙ so_far)
    (not_passed (is_right ∷ []) (map test (drop (i + 1) xs)) places left other said wrong hands h)
