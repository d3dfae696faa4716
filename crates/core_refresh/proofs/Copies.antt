-- The loop that copies the equations of a core.
use Rattle.std.proofs.Common.{◌≡◌, ℕ, suc, ◌+◌, ◌*◌, ◌<◌, ◌≤◌, Bool, cond, List, [], ◌∷◌, ◌++◌, length, get_or, take, drop, map, All, sym, ap, ◌∙◌, arith, subst, refl, inl, inr, length-append, append_assoc}
use Rattle.std.proofs.lemmas.List.{get_or_push, get_or_append_left, length_push, append-nil, drop_more, drop_all, take_more, take-append-drop}
use Rattle.usuba0.specs.declared.circuit.Gate.{Gate}
use Rattle.usuba0.specs.declared.circuit.Gate.TheVariants as gate
use Rattle.usuba0.specs.declared.circuit.Reg.{Reg}
use Rattle.usuba0.specs.Circuit.{Circuit, IsCore, IsEquation, registers, products_of}
use Rattle.usuba0.proofs.CircuitLemmas.{equation_at}
use Rattle.core_refresh.specs.RefreshedCore.{takes_refresh, new_register, refreshed_product, refreshed_gate, refreshed_equations, refreshed_core}
use Rattle.core_refresh.specs.State.Copying.{Copying, number_in, next_register, ReadsBelow, AreNumbers, IsNumbering, IsCopied}
use Rattle.core_refresh.proofs.Numbering.{one_if, cases_lt_eq, numbering_more, numbering_start, new_of_input}
use Rattle.core_refresh.proofs.Sizes.{gate_many, products-append}

-- an equation of a core reads earlier registers only
pub reads_of : (w n : ℕ) (g : Gate) → IsEquation w n g → ReadsBelow n g
reads_of w n (gate.Const c) is = tt
reads_of w n (gate.Xor a b) is = is
reads_of w n (gate.Not a) is = is
reads_of w n (gate.Mask c a) is = is.1
reads_of w n (gate.And a b) is = is
reads_of w n (gate.Shl m a) is = is.2
reads_of w n (gate.Shr m a) is = is.2
reads_of w n (gate.Rotl m a) is = is.2
reads_of w n (gate.Refresh a) is = is

-- only the numbers of the registers that an equation reads decide what stands for it
pub same_gate : (n : ℕ) (f h : Reg → Reg) (set : ℕ → Bool) (k next : ℕ) (g : Gate) → ReadsBelow n g
    → ((r : Reg) → r.0 < n → f r ≡ h r) → refreshed_gate f set k next g ≡ refreshed_gate h set k next g
same_gate n f h set k next (gate.Const c) is e = refl
same_gate n f h set k next (gate.Xor a b) is e =
    ap (λ (x : Reg). gate.Xor x (f b) ∷ []) (e a is.0) ∙ ap (λ (x : Reg). gate.Xor (h a) x ∷ []) (e b is.1)
same_gate n f h set k next (gate.Not a) is e = ap (λ (x : Reg). gate.Not x ∷ []) (e a is)
same_gate n f h set k next (gate.Mask c a) is e = ap (λ (x : Reg). gate.Mask c x ∷ []) (e a is)
same_gate n f h set k next (gate.And a b) is e =
    ap (λ (x : Reg). cond (set k) (refreshed_product next x (f b)) (gate.And x (f b) ∷ [])) (e a is.0)
    ∙ ap (λ (x : Reg). cond (set k) (refreshed_product next (h a) x) (gate.And (h a) x ∷ [])) (e b is.1)
same_gate n f h set k next (gate.Shl m a) is e = ap (λ (x : Reg). gate.Shl m x ∷ []) (e a is)
same_gate n f h set k next (gate.Shr m a) is e = ap (λ (x : Reg). gate.Shr m x ∷ []) (e a is)
same_gate n f h set k next (gate.Rotl m a) is e = ap (λ (x : Reg). gate.Rotl m x ∷ []) (e a is)
same_gate n f h set k next (gate.Refresh a) is e = ap (λ (x : Reg). gate.Refresh x ∷ []) (e a is)

-- the number of one more register
pub numbers_more : (new : Reg → Reg) (n : ℕ) (numbers : List Reg) (r : Reg) → AreNumbers new n numbers → new (record { 0 = n }) ≡ r
    → AreNumbers new (n + 1) (numbers ++ r ∷ [])
numbers_more new n numbers r is e =
    let many = is.count in
    record {
      count = length_push numbers r ∙ ap (λ (x : ℕ). x + 1) is.count;
      same = λ s h.
          let wide : s.0 < suc n = omega arith in
          elim (cases_lt_eq s.0 n wide) [
            | inl below ↦
                let inside : s.0 < length numbers = omega arith in
                get_or_append_left numbers (r ∷ []) s s.0 inside ∙ is.same s below
            | inr at ↦
                let there : length numbers ≡ s.0 = omega arith in
                let here : n ≡ s.0 = omega arith in
                get_or_push numbers r s s.0 there ∙ sym e ∙ ap (λ (x : ℕ). new (record { 0 = x })) here
          ];
    }

-- nothing is copied yet
pub start_copied : (core : Circuit) (set : ℕ → Bool) (copying : Copying) → copying.inputs ≡ core.inputs
    → AreNumbers (λ r. r) core.inputs copying.numbers → copying.equations ≡ [] → copying.products ≡ 0 → IsCopied core set 0 copying
start_copied core set copying inputs numbers equations products =
    let new = new_register core set in
    let start = numbering_start core set in
    let none : length copying.equations ≡ 0 = ap length equations in
    let wide : core.inputs ≡ core.inputs + 0 = omega arith in
    let next : core.inputs ≡ next_register copying = omega arith in
    record {
      inputs = inputs;
      numbers = record {
        count = numbers.count ∙ wide;
        same = λ r h.
            let inside : r.0 < core.inputs = omega arith in
            numbers.same r inside ∙ sym (ap (λ (x : ℕ). let s : Reg = record { 0 = x } in s) (new_of_input core set r inside));
      };
      few = omega arith;
      products = products;
      numbering = subst (λ (k : ℕ). IsNumbering new set k (core.inputs + 0) (next_register copying) core.equations) (sym products)
          (subst (λ (x : ℕ). IsNumbering new set 0 x (next_register copying) core.equations) wide
          (subst (λ (x : ℕ). IsNumbering new set 0 core.inputs x core.equations) next start));
      rest = ap (λ (l : List Gate). l ++ refreshed_equations new set copying.products (next_register copying) core.equations) equations
          ∙ ap (λ (k : ℕ). refreshed_equations new set k (next_register copying) core.equations) products
          ∙ ap (λ (x : ℕ). refreshed_equations new set 0 x core.equations) (sym next);
    }

-- what is left of the equations, from one on
left_more : (gs : List Gate) (i : ℕ) → i < length gs → drop i gs ≡ get_or gs i (gate.Const 0) ∷ drop (i + 1) gs
left_more gs i h = drop_more gs i (gate.Const 0) h

-- how many products there are among one equation more
pub products_next : (gs : List Gate) (i : ℕ) → i < length gs
    → products_of (take (i + 1) gs) ≡ products_of (take i gs) + products_of (get_or gs i (gate.Const 0) ∷ [])
products_next gs i h =
    ap products_of (take_more gs i (gate.Const 0) h) ∙ products-append (take i gs) (get_or gs i (gate.Const 0) ∷ [])

-- an equation that is a product has a number below the count of products
pub product_below : (gs : List Gate) (i many : ℕ) → i < length gs → many ≡ products_of gs
    → products_of (get_or gs i (gate.Const 0) ∷ []) ≡ 1 → products_of (take i gs) < many
product_below gs i many h e one =
    let next = products_next gs i h in
    let whole : products_of gs ≡ products_of (take (i + 1) gs) + products_of (drop (i + 1) gs) =
    ap products_of (sym (take-append-drop (i + 1) gs)) ∙ products-append (take (i + 1) gs) (drop (i + 1) gs) in
    omega (arith, next, whole)

-- an equation is at most one product
pub one_product : (g : Gate) → products_of (g ∷ []) ≤ 1
one_product (gate.Const c) = omega arith
one_product (gate.Xor a b) = omega arith
one_product (gate.Not a) = omega arith
one_product (gate.Mask c a) = omega arith
one_product (gate.And a b) = omega arith
one_product (gate.Shl m a) = omega arith
one_product (gate.Shr m a) = omega arith
one_product (gate.Rotl m a) = omega arith
one_product (gate.Refresh a) = omega arith

number_at : (new : Reg → Reg) (n next m : ℕ) → (new (record { 0 = n + 0 })).0 ≡ next + 0 + (m + 0) → new (record { 0 = n }) ≡ record { 0 = next + m }
number_at new n next m own =
    let wide : n ≡ n + 0 = omega arith in
    let e : (new (record { 0 = n })).0 ≡ next + m = ap (λ (x : ℕ). (new (record { 0 = x })).0) wide ∙ own ∙ omega arith in
    ap (λ (x : ℕ). let s : Reg = record { 0 = x } in s) e

grown_by : (inputs : ℕ) (xs ys : List Gate) → inputs + length (xs ++ ys) ≡ inputs + length xs + length ys
grown_by inputs xs ys = let e = length-append xs ys in omega arith

few_more : (xs ys zs : List Gate) (i many : ℕ) → zs ≡ xs ++ ys → length xs ≤ 2 * i → length ys ≤ 1 + many → many ≤ 1 → length zs ≤ 2 * (i + 1)
few_more xs ys zs i many e h few one = let sum = length-append xs ys in let same = ap length e in omega arith

numbering_at : (new : Reg → Reg) (set : ℕ → Bool) (inputs i k many products next more after : ℕ) (gs : List Gate)
    → products ≡ k + many → after ≡ next + more
    → IsNumbering new set (k + many) (suc (inputs + i)) (next + more) gs → IsNumbering new set products (inputs + (i + 1)) after gs
numbering_at new set inputs i k many products next more after gs counted grown is =
    let wide : suc (inputs + i) ≡ inputs + (i + 1) = omega arith in
    subst (λ (x : ℕ). IsNumbering new set x (inputs + (i + 1)) after gs) (sym counted)
    (subst (λ (x : ℕ). IsNumbering new set (k + many) (inputs + (i + 1)) x gs) (sym grown)
    (subst (λ (x : ℕ). IsNumbering new set (k + many) x (next + more) gs) wide is))

-- one equation more is copied
pub copied_more : (core : Circuit) (set : ℕ → Bool) (i : ℕ) (copying new_copying : Copying) → IsCore core → IsCopied core set i copying
    → i < length core.equations
    → new_copying ≡ record {
      inputs = copying.inputs;
      numbers = copying.numbers ++ record { 0 = next_register copying + cond (takes_refresh set copying.products (get_or core.equations i (gate.Const 0))) 1 0 } ∷ [];
      equations = copying.equations ++ refreshed_gate (number_in copying.numbers) set copying.products (next_register copying) (get_or core.equations i (gate.Const 0));
      products = copying.products + products_of (get_or core.equations i (gate.Const 0) ∷ []);
    }
    → IsCopied core set (i + 1) new_copying
copied_more core set i copying new_copying is copied h e =
    let g = get_or core.equations i (gate.Const 0) in
    let new = new_register core set in
    let k = copying.products in
    let next = next_register copying in
    let at = equation_at core.width core.inputs core.equations i (gate.Const 0) is.equations h in
    let reads = reads_of core.width (core.inputs + i) g at in
    let same : refreshed_gate (number_in copying.numbers) set k next g ≡ refreshed_gate new set k next g =
    same_gate (core.inputs + i) (number_in copying.numbers) new set k next g reads copied.numbers.same in
    let numbering : IsNumbering new set k (core.inputs + i) next (g ∷ drop (i + 1) core.equations) =
    subst (λ (l : List Gate). IsNumbering new set k (core.inputs + i) next l) (left_more core.equations i h) copied.numbering in
    let own : (new (record { 0 = core.inputs + i + 0 })).0 ≡ next + 0 + (one_if (takes_refresh set k g) + 0) = numbering.later 0 (omega arith) in
    let number : new (record { 0 = core.inputs + i }) ≡ record { 0 = next + one_if (takes_refresh set k g) } = number_at new (core.inputs + i) next (one_if (takes_refresh set k g)) own in
    let wide : core.inputs + i + 1 ≡ core.inputs + (i + 1) = omega arith in
    let grown : next_register new_copying ≡ next + length (refreshed_gate new set k next g) =
    ap next_register e ∙ ap (λ (l : List Gate). copying.inputs + length (copying.equations ++ l)) same
    ∙ grown_by copying.inputs copying.equations (refreshed_gate new set k next g) in
    let made : new_copying.equations ≡ copying.equations ++ refreshed_gate new set k next g =
    ap (λ (x : Copying). x.equations) e ∙ ap (λ (l : List Gate). copying.equations ++ l) same in
    let counted : new_copying.products ≡ k + products_of (g ∷ []) = ap (λ (x : Copying). x.products) e in
    record {
      inputs = ap (λ (x : Copying). x.inputs) e ∙ copied.inputs;
      numbers = subst (λ (x : ℕ). AreNumbers new x new_copying.numbers) wide
          (subst (λ (x : Copying). AreNumbers new (core.inputs + i + 1) x.numbers) (sym e)
          (numbers_more new (core.inputs + i) copying.numbers _ copied.numbers number));
      few = few_more copying.equations (refreshed_gate new set k next g) new_copying.equations i (products_of (g ∷ [])) made copied.few
          (gate_many new set k next g) (one_product g);
      products = counted ∙ ap (λ (x : ℕ). x + products_of (g ∷ [])) copied.products ∙ sym (products_next core.equations i h);
      numbering = numbering_at new set core.inputs i k (products_of (g ∷ [])) new_copying.products next (length (refreshed_gate new set k next g)) (next_register new_copying)
          (drop (i + 1) core.equations) counted grown
          (numbering_more new set k (core.inputs + i) next g (drop (i + 1) core.equations) numbering);
      rest =
          ap (λ (l : List Gate). l ++ refreshed_equations new set new_copying.products (next_register new_copying) (drop (i + 1) core.equations)) made
          ∙ ap (λ (x : ℕ). copying.equations ++ refreshed_gate new set k next g ++ refreshed_equations new set x (next_register new_copying) (drop (i + 1) core.equations)) counted
          ∙ ap (λ (x : ℕ). copying.equations ++ refreshed_gate new set k next g ++ refreshed_equations new set (k + products_of (g ∷ [])) x (drop (i + 1) core.equations)) grown
          ∙ append_assoc copying.equations (refreshed_gate new set k next g) _
          ∙ ap (λ (l : List Gate). copying.equations ++ refreshed_equations new set k next l) (sym (left_more core.equations i h))
          ∙ copied.rest;
    }

-- the equations are all copied
pub copied_all : (core : Circuit) (set : ℕ → Bool) (i : ℕ) (copying : Copying) → IsCopied core set i copying → i ≡ length core.equations
    → IsCopied core set (length core.equations) copying
copied_all core set i copying copied e = subst (λ (x : ℕ). IsCopied core set x copying) e copied

-- all copied equations are those of the refreshed core
pub equations_are : (core : Circuit) (set : ℕ → Bool) (copying : Copying) → IsCopied core set (length core.equations) copying
    → copying.equations ≡ (refreshed_core core set).equations
equations_are core set copying copied =
    sym (append-nil copying.equations)
    ∙ ap (λ (l : List Gate). copying.equations ++ refreshed_equations (new_register core set) set copying.products (next_register copying) l)
    (sym (drop_all (length core.equations) core.equations (omega arith)))
    ∙ copied.rest

-- the numbers of all outputs
pub outputs_are : (new f : Reg → Reg) (n : ℕ) (rs : List Reg) → All (λ r. r.0 < n) rs → ((r : Reg) → r.0 < n → f r ≡ new r) → map f rs ≡ map new rs
outputs_are new f n [] all h = refl
outputs_are new f n (r ∷ rs) all h =
    ap (λ (x : Reg). x ∷ map f rs) (h r (all 0 r (omega arith)))
    ∙ ap (λ (l : List Reg). new r ∷ l) (outputs_are new f n rs (λ k d below. all (suc k) d (omega arith)) h)

-- the number of a product that is due is below the count of products
pub product_at : (core : Circuit) (set : ℕ → Bool) (i : ℕ) (copying : Copying) (gs : List Gate) (many : ℕ) → gs ≡ core.equations
    → IsCopied core set i copying → i < length gs → many ≡ products_of core.equations → products_of (get_or gs i (gate.Const 0) ∷ []) ≡ 1
    → copying.products < many
product_at core set i copying gs many e copied h counted one =
    let inside : i < length core.equations = subst (λ (l : List Gate). i < length l) e h in
    let below = product_below core.equations i many inside counted (subst (λ (l : List Gate). products_of (get_or l i (gate.Const 0) ∷ []) ≡ 1) e one) in
    let same = copied.products in
    omega arith

-- an equation that is due reads registers that have their numbers
pub reads_at : (core : Circuit) (set : ℕ → Bool) (i : ℕ) (copying : Copying) (gs : List Gate) → IsCore core → gs ≡ core.equations
    → IsCopied core set i copying → i < length gs → ReadsBelow (length copying.numbers) (get_or gs i (gate.Const 0))
reads_at core set i copying gs is e copied h =
    let inside : i < length core.equations = subst (λ (l : List Gate). i < length l) e h in
    subst (λ (n : ℕ). ReadsBelow n (get_or gs i (gate.Const 0))) (sym copied.numbers.count)
    (subst (λ (l : List Gate). ReadsBelow (core.inputs + i) (get_or l i (gate.Const 0))) (sym e)
    (reads_of core.width (core.inputs + i) (get_or core.equations i (gate.Const 0)) (equation_at core.width core.inputs core.equations i (gate.Const 0) is.equations inside)))

-- one equation more is copied, of a list that is the core's
pub copied_at : (core : Circuit) (set : ℕ → Bool) (i : ℕ) (copying new_copying : Copying) (gs : List Gate) → IsCore core → gs ≡ core.equations
    → IsCopied core set i copying → i < length gs
    → new_copying ≡ record {
      inputs = copying.inputs;
      numbers = copying.numbers ++ record { 0 = next_register copying + cond (takes_refresh set copying.products (get_or gs i (gate.Const 0))) 1 0 } ∷ [];
      equations = copying.equations ++ refreshed_gate (number_in copying.numbers) set copying.products (next_register copying) (get_or gs i (gate.Const 0));
      products = copying.products + products_of (get_or gs i (gate.Const 0) ∷ []);
    }
    → IsCopied core set (i + 1) new_copying
copied_at core set i copying new_copying gs is e copied h made =
    copied_more core set i copying new_copying is copied (subst (λ (l : List Gate). i < length l) e h)
    (subst (λ (l : List Gate). new_copying ≡ record {
      inputs = copying.inputs;
      numbers = copying.numbers ++ record { 0 = next_register copying + cond (takes_refresh set copying.products (get_or l i (gate.Const 0))) 1 0 } ∷ [];
      equations = copying.equations ++ refreshed_gate (number_in copying.numbers) set copying.products (next_register copying) (get_or l i (gate.Const 0));
      products = copying.products + products_of (get_or l i (gate.Const 0) ∷ []);
    }) e made)

-- the parts that are copied make the refreshed core
pub core_made : (core : Circuit) (set : ℕ → Bool) (copying : Copying) (w n : ℕ) (gs : List Gate) (outputs : List Reg) → IsCore core
    → IsCopied core set (length core.equations) copying → w ≡ core.width → n ≡ core.inputs → gs ≡ copying.equations
    → outputs ≡ map (number_in copying.numbers) core.outputs
    → record { width = w; inputs = n; equations = gs; outputs = outputs } ≡ refreshed_core core set
core_made core set copying w n gs outputs is copied same_width same_inputs e numbers =
    let new = new_register core set in
    let equal : gs ≡ (refreshed_core core set).equations = e ∙ equations_are core set copying copied in
    let named : outputs ≡ map new core.outputs =
    numbers ∙ outputs_are new (number_in copying.numbers) (registers core) core.outputs is.outputs copied.numbers.same in
    ap (λ (x : ℕ). let k : Circuit = record { width = x; inputs = n; equations = gs; outputs = outputs } in k) same_width
    ∙ ap (λ (x : ℕ). let k : Circuit = record { width = core.width; inputs = x; equations = gs; outputs = outputs } in k) same_inputs
    ∙ ap (λ (l : List Gate). let k : Circuit = record { width = core.width; inputs = core.inputs; equations = l; outputs = outputs } in k) equal
    ∙ ap (λ (l : List Reg). let k : Circuit = record { width = core.width; inputs = core.inputs; equations = (refreshed_core core set).equations; outputs = l } in k) named
