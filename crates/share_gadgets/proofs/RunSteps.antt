-- The steps of the loop over the equations of a core.
use Rattle.std.proofs.Common.{◌≡◌, ℕ, ◌+◌, ◌*◌, ◌%◌, ◌^◌, ◌<◌, ◌≤◌, List, [], ◌∷◌, ◌++◌, length, get_or, take, drop, map, All, sym, ap, ◌∙◌, ⊎_elim, arith, subst, length-take, mul-le-mul_right, mod-lt}
use Rattle.std.proofs.lemmas.Bool.{cond-true, cond-false, eq-eqb, ne_eqb, cases_eq, cases_lt}
use Rattle.std.proofs.lemmas.List.{length-map, get_or-map, get_or-drop, drop_more, get_or-take, get_or_default}
use Rattle.std.proofs.lemmas.Nat.{pow_pos}
use Rattle.usuba0.specs.declared.circuit.Gate.{Gate}
use Rattle.usuba0.specs.declared.circuit.Gate.TheVariants as gate
use Rattle.usuba0.specs.Circuit.{IsEquation, products_of, refreshes_of}
use Rattle.usuba0.specs.Term.{bits_of_width}
use Rattle.share_gadgets.specs.Sharing.{IsSharing}
use Rattle.share_gadgets.specs.Gadgets.{pairs}
use Rattle.share_gadgets.specs.MaskedRun.{draws, drawn_word, sharing_of_equation, run_shared}
use Rattle.share_gadgets.specs.Private.Cut.{cut_word}
use Rattle.share_gadgets.proofs.RunLemmas.{follows, all_push}

-- the words that are left are those of the equation
pub drawn_rest : (B d : ℕ) (words : List ℕ) (q : ℕ) → cut_word B (drop (q * pairs d) words) ≡ drawn_word B d words q
drawn_rest B d words q = λ i n. get_or-drop (q * pairs d) words n 0 i % 2 ^ B

-- what word bits are
pub bits_are : (w B : ℕ) → B ≡ bits_of_width w → 0 < w → w ≤ 64 → (0 < B) × (B ≤ 64) × (w ≤ B)
bits_are w B e h l =
    ⊎_elim (λ (one : w ≡ 1). let f : bits_of_width w ≡ 32 = cond-true _ _ _ (eq-eqb w 1 one) in (omega arith, omega arith, omega arith))
    (λ (more : w ≡ 1 → ⊥). let f : bits_of_width w ≡ w = cond-false _ _ _ (ne_eqb w 1 more) in (omega arith, omega arith, omega arith))
    (cases_eq w 1)

-- one more equation is one more that draws, where it does
count_step : (g : Gate) (gs : List Gate) → products_of (g ∷ gs) + refreshes_of (g ∷ gs) ≡ draws g + (products_of gs + refreshes_of gs)
count_step (gate.Const c) gs = omega arith
count_step (gate.Xor a b) gs = omega arith
count_step (gate.Not a) gs = omega arith
count_step (gate.Mask c a) gs = omega arith
count_step (gate.And a b) gs = omega arith
count_step (gate.Shl k a) gs = omega arith
count_step (gate.Shr k a) gs = omega arith
count_step (gate.Rotl k a) gs = omega arith
count_step (gate.Refresh a) gs = omega arith

pub due_step : (gs : List Gate) (k : ℕ) (g : Gate) → k < length gs → g ≡ get_or gs k g
    → products_of (drop k gs) + refreshes_of (drop k gs) ≡ draws g + (products_of (drop (k + 1) gs) + refreshes_of (drop (k + 1) gs))
due_step gs k g h e =
    ap (λ (rest : List Gate). products_of rest + refreshes_of rest) (drop_more gs k g h ∙ ap (λ (x : Gate). x ∷ drop (k + 1) gs) (sym e))
    ∙ count_step g (drop (k + 1) gs)

-- the words of this equation are there
pub enough_here : (d q n m total many : ℕ) → q + (n + m) ≡ total → total * pairs d ≤ many → (q + n) * pairs d ≤ many
enough_here d q n m total many e h =
    let l : q + n ≤ total = omega arith in
    let k : (q + n) * pairs d ≤ total * pairs d = mul-le-mul_right (pairs d) l in
    omega arith

-- a run goes on behind an equation
pub run_on : (w B d : ℕ) (words : List ℕ) (q : ℕ) (rows next : List (List ℕ)) (gs : List Gate) (k : ℕ) (g : Gate) (row : List ℕ) → k < length gs → g ≡ get_or gs k g
    → next ≡ rows ++ row ∷ [] → row ≡ sharing_of_equation w B d (drawn_word B d words q) rows g
    → run_shared w B d words (q + draws g) next (drop (k + 1) gs) ≡ run_shared w B d words q rows (drop k gs)
run_on w B d words q rows next gs k g row h e p r =
    ap (λ (xs : List (List ℕ)). run_shared w B d words (q + draws g) xs (drop (k + 1) gs)) (p ∙ ap (λ (x : List ℕ). rows ++ x ∷ []) r)
    ∙ sym (ap (run_shared w B d words q rows) (drop_more gs k g h ∙ ap (λ (x : Gate). x ∷ drop (k + 1) gs) (sym e)))

-- and its sharings stay sharings
pub shared_on : (w B d : ℕ) (words : List ℕ) (q : ℕ) (rows next : List (List ℕ)) (g : Gate) (row : List ℕ) → w ≤ B → 0 < d → All (IsSharing B d) rows → IsEquation w (length rows) g
    → next ≡ rows ++ row ∷ [] → row ≡ sharing_of_equation w B d (drawn_word B d words q) rows g → All (IsSharing B d) next
shared_on w B d words q rows next g row fits some all h p r =
    let here = follows w B d fits some (drawn_word B d words q) rows (λ n. mod-lt _ (pow_pos B)) all g h in
    subst (All (IsSharing B d)) (sym (p ∙ ap (λ (x : List ℕ). rows ++ x ∷ []) r)) (all_push w B d fits some rows _ all here.shared)

-- sharings of d words below 2 ^ B
pub inputs_shared : {X : Type 0} (word : X → ℕ) (B d : ℕ) (xss : List (List X)) → All (λ xs. length xs ≡ d) xss → All (λ ns. All (λ n. n < 2 ^ B) ns) (map (map word) xss)
    → All (IsSharing B d) (map (map word) xss)
inputs_shared word B d xss many words k e h =
    let within : k < length xss = omega (arith, length-map xss (map word)) in
    let x = get_or xss k [] in
    let at : get_or (map (map word) xss) k e ≡ map word x = get_or-map (map word) xss k [] e within in
    subst (IsSharing B d) (sym at) (record {
      count = length-map x word ∙ many k [] within;
      words = subst (λ (ns : List ℕ). All (λ n. n < 2 ^ B) ns) at (words k e h);
    })

-- one more element that P holds of
pub all_take_more : {X : Type 0} (P : X → Type 0) (xs : List X) (i : ℕ) (x : X) → i < length xs → x ≡ get_or xs i x → All P (take i xs) → P x → All P (take (i + 1) xs)
all_take_more P xs i x h e all p k d l =
    let within : k < i + 1 = omega (arith, length-take (i + 1) xs) in
    ⊎_elim (λ (m : k < i).
    let many : k < length (take i xs) = omega (arith, length-take i xs) in
    subst P (get_or-take i xs k d m ∙ sym (get_or-take (i + 1) xs k d within)) (all k d many))
    (λ (m : i ≤ k). let same : k ≡ i = omega arith in
    subst P (e ∙ get_or_default xs i x d h ∙ ap (λ (n : ℕ). get_or xs n d) (sym same) ∙ sym (get_or-take (i + 1) xs k d within)) p)
    (cases_lt k i)
