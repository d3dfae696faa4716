-- The words of a line of a form, from what the line says.
use Rattle.std.proofs.Common.{◌≡◌, ◌⊎◌, ℕ, ◌^◌, ◌<◌, ◌≤◌, Bool, true, false, eqb, ltb, ◌&&◌, if◌then◌else◌, List, [], ◌∷◌, length, map, Option, None, Some, refl, sym, ap, ◌∙◌, subst, inl, inr, arith, codes, decimal}
use Rattle.std.specs.List.{All, list_all}
use Rattle.std.specs.Str.{bytes_eq}
use Rattle.std.proofs.lemmas.Bool.{false≢true, cases_Bool, and_parts, ltb-true, eqb-true}
use Rattle.std.proofs.lemmas.List.Elements.{All-cons}
use Rattle.std.proofs.lemmas.Slice.Eq.{bytes_eq-Decides}
use Rattle.core_text.specs.Forms.{is_register, register_of, number_form, single_gate, constant_gate, pair_gate, shift_gate, numbered_gate, one_form, two_form, gate_form, Equation, with_gate, equation_form, outputs_form}
use Rattle.core_text.specs.Ranges.{is_earlier, is_constant, is_amount, is_gate, is_next, are_outputs}
use Rattle.text_lines.specs.Numbers.{is_number, value_of}
use Rattle.text_lines.proofs.SpelledLemmas.{number_word}
use Rattle.usuba0.specs.declared.circuit.Gate.{Gate}
use Rattle.usuba0.specs.declared.circuit.Gate.TheVariants as gate
use Rattle.usuba0.specs.declared.circuit.Reg.{Reg}
use Rattle.usuba0.specs.Circuit.{IsEquation}
use Rattle.usuba0.specs.CoreText.{register_text}

-- the words of a right side
abbrev pub gate_words : Gate → List (List ℕ)
gate_words (gate.Const c) = codes "const" ∷ decimal c ∷ []
gate_words (gate.Xor a b) = codes "xor" ∷ register_text a.0 ∷ register_text b.0 ∷ []
gate_words (gate.Not a) = codes "not" ∷ register_text a.0 ∷ []
gate_words (gate.Mask c a) = codes "mask" ∷ decimal c ∷ register_text a.0 ∷ []
gate_words (gate.And a b) = codes "and" ∷ register_text a.0 ∷ register_text b.0 ∷ []
gate_words (gate.Shl k a) = codes "shl" ∷ decimal k ∷ register_text a.0 ∷ []
gate_words (gate.Shr k a) = codes "shr" ∷ decimal k ∷ register_text a.0 ∷ []
gate_words (gate.Rotl k a) = codes "rotl" ∷ decimal k ∷ register_text a.0 ∷ []
gate_words (gate.Refresh a) = codes "refresh" ∷ register_text a.0 ∷ []

-- the words of an equation
abbrev pub equation_words : ℕ → Gate → List (List ℕ)
equation_words n g = register_text n ∷ codes "=" ∷ gate_words g

-- a register at its place, with what its bound makes of it
abbrev pub register_words : List Reg → List (List ℕ)
register_words rs = map (λ r. register_text r.0) rs

none_some : {X : Type 0} (x : X) → None ≡ Some x → ⊥
none_some x e = cc

some_is : {X : Type 0} (x y : X) → Some x ≡ Some y → x ≡ y
some_is x y e = cc

word_is : (word form : List ℕ) → bytes_eq word form ≡ true → word ≡ form
word_is word form h = (bytes_eq-Decides word form).0 h

-- a choice
either_way : {X : Type 0} (b : Bool) (x y : Option X) (said : X) → (if b then x else y) ≡ Some said → ((b ≡ true) × (x ≡ Some said)) ⊎ (y ≡ Some said)
either_way true x y said e = inl (refl, e)
either_way false x y said e = inr e

pick_from : {X : Type 0} (b : Bool) (x : Option X) (said : X) → (if b then x else None) ≡ Some said → (b ≡ true) × (x ≡ Some said)
pick_from true x said e = (refl, e)
pick_from false x said e = absurd (none_some said e)

pub register_word : (word : List ℕ) → is_register word ≡ true → (register_of word).0 < 2 ^ 64 → word ≡ register_text (register_of word).0
register_word [] h small = absurd (false≢true h)
register_word (letter ∷ digits) h small =
    let w = and_parts (eqb letter 114) (is_number digits) h in
    ap (λ (l : ℕ). l ∷ digits) (eqb-true letter 114 w.0) ∙ ap (λ (ds : List ℕ). 114 ∷ ds) (number_word digits (value_of digits) w.1 refl small)

-- a word that names an earlier register
earlier_word : (n : ℕ) (word : List ℕ) → n ≤ 2 ^ 64 → is_register word ≡ true → is_earlier n (register_of word) ≡ true
    → (word ≡ register_text (register_of word).0) × ((register_of word).0 < n)
earlier_word n word small h e =
    let below : (register_of word).0 < n = ltb-true (register_of word).0 n e in
    (register_word word h (omega arith), below)

-- what is told of a right side that was read: its words, and that it is an equation
abbrev Told : ℕ → ℕ → List (List ℕ) → Gate → Type 0
Told w n words g = is_gate w n g ≡ true → (words ≡ gate_words g) × IsEquation w n g

one_word : (name form a b : List ℕ) → name ≡ form → a ≡ b → name ∷ a ∷ [] ≡ form ∷ b ∷ []
one_word name form a b e f = ap (λ (x : List ℕ). x ∷ a ∷ []) e ∙ ap (λ (x : List ℕ). form ∷ x ∷ []) f

two_words : (name form a b x y : List ℕ) → name ≡ form → a ≡ x → b ≡ y → name ∷ a ∷ b ∷ [] ≡ form ∷ x ∷ y ∷ []
two_words name form a b x y e f g = ap (λ (z : List ℕ). z ∷ a ∷ b ∷ []) e ∙ ap (λ (z : List ℕ). form ∷ z ∷ b ∷ []) f ∙ ap (λ (z : List ℕ). form ∷ x ∷ z ∷ []) g

single_told : (w n : ℕ) (name a : List ℕ) (g : Gate) → n ≤ 2 ^ 64 → is_register a ≡ true → single_gate name (register_of a) ≡ Some g → Told w n (name ∷ a ∷ []) g
single_told w n name a g small h e =
    let r : Reg = register_of a in
    elim (either_way (bytes_eq name (codes "not")) (Some (gate.Not r)) (if bytes_eq name (codes "refresh") then Some (gate.Refresh r) else None) g e) [
      | inl p ↦
          subst (Told w n (name ∷ a ∷ [])) (some_is (gate.Not r) g p.1)
          (λ t. let k = earlier_word n a small h t in (one_word name (codes "not") a (register_text r.0) (word_is name (codes "not") p.0) k.0, k.1))
      | inr q ↦
          (let p = pick_from (bytes_eq name (codes "refresh")) (Some (gate.Refresh r)) g q in
          subst (Told w n (name ∷ a ∷ [])) (some_is (gate.Refresh r) g p.1)
          (λ t. let k = earlier_word n a small h t in (one_word name (codes "refresh") a (register_text r.0) (word_is name (codes "refresh") p.0) k.0, k.1)))
    ]

-- a constant, and an amount
constant_word : (w : ℕ) (word : List ℕ) → 2 ^ w ≤ 2 ^ 64 → is_number word ≡ true → is_constant w (value_of word) ≡ true → (word ≡ decimal (value_of word)) × (value_of word < 2 ^ w)
constant_word w word small h e =
    let below : value_of word < 2 ^ w = ltb-true (value_of word) (2 ^ w) e in
    (number_word word (value_of word) h refl (omega arith), below)

amount_word : (w : ℕ) (word : List ℕ) → w ≤ 64 → is_number word ≡ true → is_amount w (value_of word) ≡ true
    → (word ≡ decimal (value_of word)) × (0 < value_of word) × (value_of word < w)
amount_word w word small h e =
    let p = and_parts (ltb 0 (value_of word)) (ltb (value_of word) w) e in
    let below : value_of word < w = ltb-true (value_of word) w p.1 in
    (number_word word (value_of word) h refl (omega arith), ltb-true 0 (value_of word) p.0, below)

constant_told : (w n : ℕ) (name a : List ℕ) (g : Gate) → 2 ^ w ≤ 2 ^ 64 → is_number a ≡ true → constant_gate name (value_of a) ≡ Some g → Told w n (name ∷ a ∷ []) g
constant_told w n name a g small h e =
    let p = pick_from (bytes_eq name (codes "const")) (Some (gate.Const (value_of a))) g e in
    subst (Told w n (name ∷ a ∷ [])) (some_is (gate.Const (value_of a)) g p.1)
    (λ t. let k = constant_word w a small h t in (one_word name (codes "const") a (decimal (value_of a)) (word_is name (codes "const") p.0) k.0, k.1))

one_told : (w n : ℕ) (name a : List ℕ) (g : Gate) → 2 ^ w ≤ 2 ^ 64 → n ≤ 2 ^ 64 → one_form name a ≡ Some g → Told w n (name ∷ a ∷ []) g
one_told w n name a g width small e =
    elim (cases_Bool (is_register a)) [
      | inl register ↦
          (let f : single_gate name (register_of a) ≡ Some g = sym (rw register refl) ∙ e in
          single_told w n name a g small register f)
      | inr other ↦
          (let f : (if is_number a then constant_gate name (value_of a) else None) ≡ Some g = sym (rw other refl) ∙ e in
          let p = pick_from (is_number a) (constant_gate name (value_of a)) g f in
          constant_told w n name a g width p.0 p.1)
    ]

pair_told : (w n : ℕ) (name a b : List ℕ) (g : Gate) → n ≤ 2 ^ 64 → is_register a ≡ true → is_register b ≡ true → pair_gate name (register_of a) (register_of b) ≡ Some g
    → Told w n (name ∷ a ∷ b ∷ []) g
pair_told w n name a b g small ha hb e =
    let r : Reg = register_of a in
    let s : Reg = register_of b in
    elim (either_way (bytes_eq name (codes "xor")) (Some (gate.Xor r s)) (if bytes_eq name (codes "and") then Some (gate.And r s) else None) g e) [
      | inl p ↦
          subst (Told w n (name ∷ a ∷ b ∷ [])) (some_is (gate.Xor r s) g p.1)
          (λ t.
          let both = and_parts (is_earlier n r) (is_earlier n s) t in
          let k = earlier_word n a small ha both.0 in
          let l = earlier_word n b small hb both.1 in
          (two_words name (codes "xor") a b (register_text r.0) (register_text s.0) (word_is name (codes "xor") p.0) k.0 l.0, (k.1, l.1)))
      | inr q ↦
          (let p = pick_from (bytes_eq name (codes "and")) (Some (gate.And r s)) g q in
          subst (Told w n (name ∷ a ∷ b ∷ [])) (some_is (gate.And r s) g p.1)
          (λ t.
          let both = and_parts (is_earlier n r) (is_earlier n s) t in
          let k = earlier_word n a small ha both.0 in
          let l = earlier_word n b small hb both.1 in
          (two_words name (codes "and") a b (register_text r.0) (register_text s.0) (word_is name (codes "and") p.0) k.0 l.0, (k.1, l.1))))
    ]

-- the words of a shift, by its name
shift_parts : (w n : ℕ) (name form a b : List ℕ) → w ≤ 64 → n ≤ 2 ^ 64 → is_number a ≡ true → is_register b ≡ true → bytes_eq name form ≡ true
    → is_amount w (value_of a) && is_earlier n (register_of b) ≡ true
    → (name ∷ a ∷ b ∷ [] ≡ form ∷ decimal (value_of a) ∷ register_text (register_of b).0 ∷ []) × ((0 < value_of a) × (value_of a < w) × ((register_of b).0 < n))
shift_parts w n name form a b width small ha hb named t =
    let both = and_parts (is_amount w (value_of a)) (is_earlier n (register_of b)) t in
    let k = amount_word w a width ha both.0 in
    let l = earlier_word n b small hb both.1 in
    (two_words name form a b (decimal (value_of a)) (register_text (register_of b).0) (word_is name form named) k.0 l.0, (k.1, k.2, l.1))

shift_told : (w n : ℕ) (name a b : List ℕ) (g : Gate) → w ≤ 64 → n ≤ 2 ^ 64 → is_number a ≡ true → is_register b ≡ true → shift_gate name (value_of a) (register_of b) ≡ Some g
    → Told w n (name ∷ a ∷ b ∷ []) g
shift_told w n name a b g width small ha hb e =
    let k : ℕ = value_of a in
    let s : Reg = register_of b in
    elim (either_way (bytes_eq name (codes "shl")) (Some (gate.Shl k s))
    (if bytes_eq name (codes "shr") then Some (gate.Shr k s) else (if bytes_eq name (codes "rotl") then Some (gate.Rotl k s) else None)) g e) [
      | inl p ↦ subst (Told w n (name ∷ a ∷ b ∷ [])) (some_is (gate.Shl k s) g p.1) (λ t. shift_parts w n name (codes "shl") a b width small ha hb p.0 t)
      | inr q ↦
          elim (either_way (bytes_eq name (codes "shr")) (Some (gate.Shr k s)) (if bytes_eq name (codes "rotl") then Some (gate.Rotl k s) else None) g q) [
            | inl p ↦ subst (Told w n (name ∷ a ∷ b ∷ [])) (some_is (gate.Shr k s) g p.1) (λ t. shift_parts w n name (codes "shr") a b width small ha hb p.0 t)
            | inr o ↦
                (let p = pick_from (bytes_eq name (codes "rotl")) (Some (gate.Rotl k s)) g o in
                subst (Told w n (name ∷ a ∷ b ∷ [])) (some_is (gate.Rotl k s) g p.1) (λ t. shift_parts w n name (codes "rotl") a b width small ha hb p.0 t))
          ]
    ]

numbered_told : (w n : ℕ) (name a b : List ℕ) (g : Gate) → w ≤ 64 → 2 ^ w ≤ 2 ^ 64 → n ≤ 2 ^ 64 → is_number a ≡ true → is_register b ≡ true
    → numbered_gate name (value_of a) (register_of b) ≡ Some g → Told w n (name ∷ a ∷ b ∷ []) g
numbered_told w n name a b g width bits small ha hb e =
    let c : ℕ = value_of a in
    let s : Reg = register_of b in
    elim (either_way (bytes_eq name (codes "mask")) (Some (gate.Mask c s)) (shift_gate name c s) g e) [
      | inl p ↦
          subst (Told w n (name ∷ a ∷ b ∷ [])) (some_is (gate.Mask c s) g p.1)
          (λ t.
          let both = and_parts (is_constant w c) (is_earlier n s) t in
          let k = constant_word w a bits ha both.0 in
          let l = earlier_word n b small hb both.1 in
          (two_words name (codes "mask") a b (decimal c) (register_text s.0) (word_is name (codes "mask") p.0) k.0 l.0, (k.1, l.1)))
      | inr q ↦ shift_told w n name a b g width small ha hb q
    ]

two_told : (w n : ℕ) (name a b : List ℕ) (g : Gate) → w ≤ 64 → 2 ^ w ≤ 2 ^ 64 → n ≤ 2 ^ 64 → two_form name a b ≡ Some g → Told w n (name ∷ a ∷ b ∷ []) g
two_told w n name a b g width bits small e =
    let p = pick_from (is_register b)
    (if is_register a then pair_gate name (register_of a) (register_of b) else (if is_number a then numbered_gate name (value_of a) (register_of b) else None)) g e in
    elim (cases_Bool (is_register a)) [
      | inl register ↦
          (let f : pair_gate name (register_of a) (register_of b) ≡ Some g = sym (rw register refl) ∙ p.1 in
          pair_told w n name a b g small register p.0 f)
      | inr other ↦
          (let f : (if is_number a then numbered_gate name (value_of a) (register_of b) else None) ≡ Some g = sym (rw other refl) ∙ p.1 in
          let q = pick_from (is_number a) (numbered_gate name (value_of a) (register_of b)) g f in
          numbered_told w n name a b g width bits small q.0 p.0 q.1)
    ]

-- a right side that was read and is in range
pub gate_told : (w n : ℕ) (words : List (List ℕ)) (g : Gate) → w ≤ 64 → 2 ^ w ≤ 2 ^ 64 → n ≤ 2 ^ 64 → gate_form words ≡ Some g → is_gate w n g ≡ true
    → (words ≡ gate_words g) × IsEquation w n g
gate_told w n [] g width bits small e = absurd (none_some g e)
gate_told w n (name ∷ []) g width bits small e = absurd (none_some g e)
gate_told w n (name ∷ a ∷ []) g width bits small e = one_told w n name a g bits small e
gate_told w n (name ∷ a ∷ b ∷ []) g width bits small e = two_told w n name a b g width bits small e
gate_told w n (name ∷ a ∷ b ∷ c ∷ more) g width bits small e = absurd (none_some g e)

-- a keyword and a number
pub number_told : (keyword : List ℕ) (words : List (List ℕ)) (n : ℕ) → n < 2 ^ 64 → number_form keyword words ≡ Some n → words ≡ keyword ∷ decimal n ∷ []
number_told keyword [] n small e = absurd (none_some n e)
number_told keyword (a ∷ []) n small e = absurd (none_some n e)
number_told keyword (a ∷ b ∷ c ∷ more) n small e = absurd (none_some n e)
number_told keyword (a ∷ b ∷ []) n small e =
    let p = pick_from (bytes_eq a keyword && is_number b) (Some (value_of b)) n e in
    let q = and_parts (bytes_eq a keyword) (is_number b) p.0 in
    one_word a keyword b (decimal n) (word_is a keyword q.0) (number_word b n q.1 (some_is (value_of b) n p.1) small)

with_gate_told : (r : Reg) (o : Option Gate) (equation : Equation) → with_gate r o ≡ Some equation → (o ≡ Some equation.gate) × (r ≡ equation.register)
with_gate_told r None equation e = absurd (none_some equation e)
with_gate_told r (Some g) equation e =
    let made : Equation = record { register = r; gate = g } in
    let same : made ≡ equation = some_is made equation e in
    (ap (λ (q : Equation). Some q.gate) same, ap (λ (q : Equation). q.register) same)

-- an equation that was read and is in range
pub equation_told : (w n : ℕ) (words : List (List ℕ)) (equation : Equation) → w ≤ 64 → 2 ^ w ≤ 2 ^ 64 → n < 2 ^ 64 → equation_form words ≡ Some equation → is_next w n equation ≡ true
    → (words ≡ equation_words n equation.gate) × IsEquation w n equation.gate
equation_told w n [] equation width bits small e t = absurd (none_some equation e)
equation_told w n (left ∷ []) equation width bits small e t = absurd (none_some equation e)
equation_told w n (left ∷ equals ∷ right) equation width bits small e t =
    let p = pick_from (is_register left && bytes_eq equals (codes "=")) (with_gate (register_of left) (gate_form right)) equation e in
    let q = and_parts (is_register left) (bytes_eq equals (codes "=")) p.0 in
    let v = with_gate_told (register_of left) (gate_form right) equation p.1 in
    let u = and_parts (eqb equation.register.0 n) (is_gate w n equation.gate) t in
    let number : (register_of left).0 ≡ n = ap (λ (r : Reg). r.0) v.1 ∙ eqb-true equation.register.0 n u.0 in
    let g = gate_told w n right equation.gate width bits (omega arith) v.0 u.1 in
    let first : left ≡ register_text n = register_word left q.0 (omega arith) ∙ ap register_text number in (
      ap (λ (x : List ℕ). x ∷ equals ∷ right) first
          ∙ ap (λ (x : List ℕ). register_text n ∷ x ∷ right) (word_is equals (codes "=") q.1)
          ∙ ap (λ (xs : List (List ℕ)). register_text n ∷ codes "=" ∷ xs) g.0,
      g.1,
    )

registers_told : (n : ℕ) (words : List (List ℕ)) → n ≤ 2 ^ 64 → list_all is_register words ≡ true → are_outputs n (map register_of words) ≡ true
    → (words ≡ register_words (map register_of words)) × All (λ r. r.0 < n) (map register_of words)
registers_told n [] small h e = (refl, λ k d within. absurd (omega arith))
registers_told n (word ∷ words) small h e =
    let p = and_parts (is_register word) (list_all is_register words) h in
    let q = and_parts (is_earlier n (register_of word)) (are_outputs n (map register_of words)) e in
    let k = earlier_word n word small p.0 q.0 in
    let others = registers_told n words small p.1 q.1 in (
      ap (λ (x : List ℕ). x ∷ words) k.0 ∙ ap (λ (xs : List (List ℕ)). register_text (register_of word).0 ∷ xs) others.0,
      All-cons (λ r. r.0 < n) (register_of word) (map register_of words) k.1 others.1,
    )

-- the outputs that were read and are in range
pub outputs_told : (n : ℕ) (words : List (List ℕ)) (rs : List Reg) → n ≤ 2 ^ 64 → outputs_form words ≡ Some rs → are_outputs n rs ≡ true
    → (words ≡ codes "outputs" ∷ register_words rs) × All (λ r. r.0 < n) rs × (0 < length rs)
outputs_told n [] rs small e t = absurd (none_some rs e)
outputs_told n (name ∷ []) rs small e t = absurd (none_some rs e)
outputs_told n (name ∷ first ∷ more) rs small e t =
    let found : List Reg = map register_of (first ∷ more) in
    let p = pick_from (bytes_eq name (codes "outputs") && list_all is_register (first ∷ more)) (Some found) rs e in
    let q = and_parts (bytes_eq name (codes "outputs")) (list_all is_register (first ∷ more)) p.0 in
    let same : found ≡ rs = some_is found rs p.1 in
    let told = registers_told n (first ∷ more) small q.1 (ap (are_outputs n) same ∙ t) in
    let some : 0 < length found = omega arith in
    let whole : (name ∷ first ∷ more ≡ codes "outputs" ∷ register_words found) × All (λ r. r.0 < n) found × (0 < length found) =
    (ap (λ (x : List ℕ). x ∷ first ∷ more) (word_is name (codes "outputs") q.0) ∙ ap (λ (xs : List (List ℕ)). codes "outputs" ∷ xs) told.0, told.1, some) in
    subst (λ (l : List Reg). (name ∷ first ∷ more ≡ codes "outputs" ∷ register_words l) × All (λ r. r.0 < n) l × (0 < length l)) same whole
