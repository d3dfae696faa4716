-- The words of a line of a form, from what the line says.
use Rattle.std.proofs.Common.{◌≡◌, ℕ, suc, ◌^◌, ◌<◌, Bool, true, false, eqb, ltb, leb, ◌&&◌, if◌then◌else◌, List, [], ◌∷◌, map, Option, None, Some, refl, sym, ap, ◌∙◌, inl, inr, arith, codes, decimal}
use Rattle.std.specs.List.{list_all}
use Rattle.std.specs.Str.{bytes_eq}
use Rattle.std.proofs.lemmas.Bool.{true≢false, false≢true, cases_Bool, and_parts, ltb-true, eqb-true}
use Rattle.std.proofs.lemmas.Slice.Eq.{bytes_eq-Decides}
use Rattle.attack_text.specs.AttackText.{side_word, core_words, step_words, probe_words}
use Rattle.attack_text.specs.Forms.{Counts, side_of, version_form, core_form, leak_form, steps_form, step_on, step_form, root_form, listing_form, probe_form}
use Rattle.attack_model.specs.Derivations.{are_uses}
use Rattle.column_lists.specs.Names.{are_columns}
use Rattle.column_lists.proofs.WrittenLemmas.{none_some, some_is, pick_some}
use Rattle.attack_model.specs.declared.attack.Probe.{Probe}
use Rattle.linear_view.specs.declared.operand.Side.{Side}
use Rattle.linear_view.specs.declared.operand.Side.TheVariants.{Left, Right}
use Rattle.attack_model.specs.declared.attack.Step.{Step}
use Rattle.text_lines.specs.Numbers.{is_number, value_of}
use Rattle.text_lines.proofs.SpelledLemmas.{number_word}

word_is : (word form : List ℕ) → bytes_eq word form ≡ true → word ≡ form
word_is word form h = (bytes_eq-Decides word form).0 h

-- numbers
uses_words : (least n : ℕ) (us : List (List ℕ)) → n < 2 ^ 64 → list_all is_number us ≡ true → are_uses least n (map value_of us) ≡ true → us ≡ map decimal (map value_of us)
uses_words least n [] small h k = refl
uses_words least n (u ∷ us) small h k =
    let w = and_parts (is_number u) (list_all is_number us) h in
    let v = and_parts (leb least (value_of u) && ltb (value_of u) n) (are_uses (suc (value_of u)) n (map value_of us)) k in
    let below : value_of u < n = ltb-true (value_of u) n (and_parts (leb least (value_of u)) (ltb (value_of u) n) v.0).1 in
    ap (λ (x : List ℕ). x ∷ us) (number_word u (value_of u) w.0 refl (omega arith))
    ∙ ap (λ (xs : List (List ℕ)). decimal (value_of u) ∷ xs) (uses_words (suc (value_of u)) n us small w.1 v.1)

-- the first line
pub second_version_words : (words : List (List ℕ)) → version_form words ≡ Some true → words ≡ codes "attack" ∷ codes "2" ∷ []
second_version_words [] e = absurd (none_some true e)
second_version_words (a ∷ []) e = absurd (false≢true (pick_some (bytes_eq a (codes "attack")) false true e).1)
second_version_words (a ∷ b ∷ []) e =
    let w = pick_some (bytes_eq a (codes "attack") && bytes_eq b (codes "2")) true true e in
    let v = and_parts (bytes_eq a (codes "attack")) (bytes_eq b (codes "2")) w.0 in
    ap (λ (x : List ℕ). x ∷ b ∷ []) (word_is a (codes "attack") v.0) ∙ ap (λ (x : List ℕ). codes "attack" ∷ x ∷ []) (word_is b (codes "2") v.1)
second_version_words (a ∷ b ∷ c ∷ more) e = absurd (none_some true e)

pub first_version_words : (words : List (List ℕ)) → version_form words ≡ Some false → words ≡ codes "attack" ∷ []
first_version_words [] e = absurd (none_some false e)
first_version_words (a ∷ []) e =
    ap (λ (x : List ℕ). x ∷ []) (word_is a (codes "attack") (pick_some (bytes_eq a (codes "attack")) false false e).0)
first_version_words (a ∷ b ∷ []) e = absurd (true≢false (pick_some (bytes_eq a (codes "attack") && bytes_eq b (codes "2")) true false e).1)
first_version_words (a ∷ b ∷ c ∷ more) e = absurd (none_some false e)

-- the line `core`
pub core_words_are : (words : List (List ℕ)) (counts : Counts) → core_form words ≡ Some counts → counts.columns < 2 ^ 64 → counts.products < 2 ^ 64
    → words ≡ core_words counts.columns counts.products
core_words_are [] counts e hc hp = absurd (none_some counts e)
core_words_are (a ∷ []) counts e hc hp = absurd (none_some counts e)
core_words_are (a ∷ b ∷ []) counts e hc hp = absurd (none_some counts e)
core_words_are (a ∷ b ∷ c ∷ []) counts e hc hp = absurd (none_some counts e)
core_words_are (a ∷ b ∷ c ∷ d ∷ []) counts e hc hp = absurd (none_some counts e)
core_words_are (a ∷ b ∷ c ∷ d ∷ p ∷ q ∷ more) counts e hc hp = absurd (none_some counts e)
core_words_are (a ∷ b ∷ c ∷ d ∷ p ∷ []) counts e hc hp =
    let made : Counts = record { columns = value_of c; products = value_of p } in
    let w = pick_some (bytes_eq a (codes "core") && bytes_eq b (codes "columns") && is_number c && bytes_eq d (codes "products") && is_number p) made counts e in
    let w4 = and_parts (bytes_eq a (codes "core") && bytes_eq b (codes "columns") && is_number c && bytes_eq d (codes "products")) (is_number p) w.0 in
    let w3 = and_parts (bytes_eq a (codes "core") && bytes_eq b (codes "columns") && is_number c) (bytes_eq d (codes "products")) w4.0 in
    let w2 = and_parts (bytes_eq a (codes "core") && bytes_eq b (codes "columns")) (is_number c) w3.0 in
    let w1 = and_parts (bytes_eq a (codes "core")) (bytes_eq b (codes "columns")) w2.0 in
    ap (λ (x : List ℕ). x ∷ b ∷ c ∷ d ∷ p ∷ []) (word_is a (codes "core") w1.0)
    ∙ ap (λ (x : List ℕ). codes "core" ∷ x ∷ c ∷ d ∷ p ∷ []) (word_is b (codes "columns") w1.1)
    ∙ ap (λ (x : List ℕ). codes "core" ∷ codes "columns" ∷ x ∷ d ∷ p ∷ []) (number_word c counts.columns w2.1 (ap (λ (n : Counts). n.columns) w.1) hc)
    ∙ ap (λ (x : List ℕ). codes "core" ∷ codes "columns" ∷ decimal counts.columns ∷ x ∷ p ∷ []) (word_is d (codes "products") w3.1)
    ∙ ap (λ (x : List ℕ). codes "core" ∷ codes "columns" ∷ decimal counts.columns ∷ codes "products" ∷ x ∷ []) (number_word p counts.products w4.1 (ap (λ (n : Counts). n.products) w.1) hp)

-- the line `leak`
pub leak_line_words : (words columns : List (List ℕ)) → leak_form words ≡ Some columns → words ≡ codes "leak" ∷ columns
leak_line_words [] columns e = absurd (none_some columns e)
leak_line_words (a ∷ more) columns e =
    let w = pick_some (bytes_eq a (codes "leak") && are_columns more) more columns e in
    let v = and_parts (bytes_eq a (codes "leak")) (are_columns more) w.0 in
    ap (λ (x : List ℕ). x ∷ more) (word_is a (codes "leak") v.0) ∙ ap (λ (xs : List (List ℕ)). codes "leak" ∷ xs) w.1

-- the line `steps N`
pub steps_words_are : (words : List (List ℕ)) (n : ℕ) → steps_form words ≡ Some n → n < 2 ^ 64 → words ≡ codes "steps" ∷ decimal n ∷ []
steps_words_are [] n e h = absurd (none_some n e)
steps_words_are (a ∷ []) n e h = absurd (none_some n e)
steps_words_are (a ∷ b ∷ c ∷ more) n e h = absurd (none_some n e)
steps_words_are (a ∷ b ∷ []) n e h =
    let w = pick_some (bytes_eq a (codes "steps") && is_number b) (value_of b) n e in
    let v = and_parts (bytes_eq a (codes "steps")) (is_number b) w.0 in
    ap (λ (x : List ℕ). x ∷ b ∷ []) (word_is a (codes "steps") v.0) ∙ ap (λ (x : List ℕ). codes "steps" ∷ x ∷ []) (number_word b n v.1 w.1 h)

-- the line of a step
side_is : (word : List ℕ) (side : Side) → side_of word ≡ Some side → word ≡ side_word side
side_is word side e =
    elim (cases_Bool (bytes_eq word (codes "left"))) [
      | inl left ↦
          (let f : Some Left ≡ Some side = sym (rw left refl) ∙ e in
          word_is word (codes "left") left ∙ ap side_word (some_is Left side f))
      | inr no_left ↦
          (let f : (if bytes_eq word (codes "right") then Some Right else None) ≡ Some side = sym (rw no_left refl) ∙ e in
          let w = pick_some (bytes_eq word (codes "right")) Right side f in
          word_is word (codes "right") w.0 ∙ ap side_word w.1)
    ]

on_side : (product : ℕ) (uses : List ℕ) (side : Option Side) (step : Step) → step_on product uses side ≡ Some step
    → (side ≡ Some step.side) × (product ≡ step.product) × (uses ≡ step.uses)
on_side product uses None step e = absurd (none_some step e)
on_side product uses (Some side) step e =
    let made : Step = record { product = product; side = side; uses = uses } in
    let same : made ≡ step = some_is made step e in
    (ap (λ (s : Step). Some s.side) same, ap (λ (s : Step). s.product) same, ap (λ (s : Step). s.uses) same)

pick_from : {X : Type 0} (b : Bool) (said : Option X) (x : X) → (if b then said else None) ≡ Some x → (b ≡ true) × (said ≡ Some x)
pick_from true said x e = (refl, e)
pick_from false said x e = absurd (none_some x e)

pub step_words_are : (i : ℕ) (words : List (List ℕ)) (step : Step) → step_form i words ≡ Some step → i < 2 ^ 64 → step.product < 2 ^ 64 → are_uses 0 i step.uses ≡ true
    → words ≡ step_words i step
step_words_are i [] step e hi hp hu = absurd (none_some step e)
step_words_are i (a ∷ []) step e hi hp hu = absurd (none_some step e)
step_words_are i (a ∷ b ∷ []) step e hi hp hu = absurd (none_some step e)
step_words_are i (a ∷ b ∷ c ∷ []) step e hi hp hu = absurd (none_some step e)
step_words_are i (a ∷ b ∷ c ∷ p ∷ []) step e hi hp hu = absurd (none_some step e)
step_words_are i (a ∷ b ∷ c ∷ p ∷ s ∷ []) step e hi hp hu = absurd (none_some step e)
step_words_are i (a ∷ b ∷ c ∷ p ∷ s ∷ d ∷ us) step e hi hp hu =
    let w = pick_from (bytes_eq a (codes "step") && is_number b && eqb (value_of b) i && bytes_eq c (codes "product") && is_number p && bytes_eq d (codes "uses") && list_all is_number us)
    (step_on (value_of p) (map value_of us) (side_of s)) step e in
    let w6 = and_parts (bytes_eq a (codes "step") && is_number b && eqb (value_of b) i && bytes_eq c (codes "product") && is_number p && bytes_eq d (codes "uses")) (list_all is_number us) w.0 in
    let w5 = and_parts (bytes_eq a (codes "step") && is_number b && eqb (value_of b) i && bytes_eq c (codes "product") && is_number p) (bytes_eq d (codes "uses")) w6.0 in
    let w4 = and_parts (bytes_eq a (codes "step") && is_number b && eqb (value_of b) i && bytes_eq c (codes "product")) (is_number p) w5.0 in
    let w3 = and_parts (bytes_eq a (codes "step") && is_number b && eqb (value_of b) i) (bytes_eq c (codes "product")) w4.0 in
    let w2 = and_parts (bytes_eq a (codes "step") && is_number b) (eqb (value_of b) i) w3.0 in
    let w1 = and_parts (bytes_eq a (codes "step")) (is_number b) w2.0 in
    let v = on_side (value_of p) (map value_of us) (side_of s) step w.1 in
    let uses : us ≡ map decimal step.uses =
    uses_words 0 i us hi w6.1 (ap (are_uses 0 i) v.2 ∙ hu) ∙ ap (map decimal) v.2 in
    ap (λ (x : List ℕ). x ∷ b ∷ c ∷ p ∷ s ∷ d ∷ us) (word_is a (codes "step") w1.0)
    ∙ ap (λ (x : List ℕ). codes "step" ∷ x ∷ c ∷ p ∷ s ∷ d ∷ us) (number_word b i w1.1 (eqb-true (value_of b) i w2.1) hi)
    ∙ ap (λ (x : List ℕ). codes "step" ∷ decimal i ∷ x ∷ p ∷ s ∷ d ∷ us) (word_is c (codes "product") w3.1)
    ∙ ap (λ (x : List ℕ). codes "step" ∷ decimal i ∷ codes "product" ∷ x ∷ s ∷ d ∷ us) (number_word p step.product w4.1 v.1 hp)
    ∙ ap (λ (x : List ℕ). codes "step" ∷ decimal i ∷ codes "product" ∷ decimal step.product ∷ x ∷ d ∷ us) (side_is s step.side v.0)
    ∙ ap (λ (x : List ℕ). codes "step" ∷ decimal i ∷ codes "product" ∷ decimal step.product ∷ side_word step.side ∷ x ∷ us) (word_is d (codes "uses") w5.1)
    ∙ ap (λ (xs : List (List ℕ)). codes "step" ∷ decimal i ∷ codes "product" ∷ decimal step.product ∷ side_word step.side ∷ codes "uses" ∷ xs) uses

-- the line `root`
pub root_words_are : (n : ℕ) (words : List (List ℕ)) (root : List ℕ) → root_form words ≡ Some root → n < 2 ^ 64 → are_uses 0 n root ≡ true
    → words ≡ codes "root" ∷ codes "uses" ∷ map decimal root
root_words_are n [] root e h hu = absurd (none_some root e)
root_words_are n (a ∷ []) root e h hu = absurd (none_some root e)
root_words_are n (a ∷ b ∷ us) root e h hu =
    let w = pick_some (bytes_eq a (codes "root") && bytes_eq b (codes "uses") && list_all is_number us) (map value_of us) root e in
    let w2 = and_parts (bytes_eq a (codes "root") && bytes_eq b (codes "uses")) (list_all is_number us) w.0 in
    let w1 = and_parts (bytes_eq a (codes "root")) (bytes_eq b (codes "uses")) w2.0 in
    let uses : us ≡ map decimal root = uses_words 0 n us h w2.1 (ap (are_uses 0 n) w.1 ∙ hu) ∙ ap (map decimal) w.1 in
    ap (λ (x : List ℕ). x ∷ b ∷ us) (word_is a (codes "root") w1.0)
    ∙ ap (λ (x : List ℕ). codes "root" ∷ x ∷ us) (word_is b (codes "uses") w1.1)
    ∙ ap (λ (xs : List (List ℕ)). codes "root" ∷ codes "uses" ∷ xs) uses

-- the line `probes`

number_form : (b : List ℕ) (t : ℕ) → (if is_number b then Some (Some (value_of b)) else None) ≡ Some (Some t) → t < 2 ^ 64 → b ≡ decimal t
number_form b t e h =
    let w = pick_some (is_number b) (Some (value_of b)) (Some t) e in
    number_word b t w.0 (some_is (value_of b) t w.1) h

number_is_some : (b : List ℕ) → (if is_number b then Some (Some (value_of b)) else None) ≡ Some None → ⊥
number_is_some b e =
    let w = pick_some (is_number b) (Some (value_of b)) None e in
    none_some (value_of b) (sym w.1)

no_count : (t : ℕ) → Some None ≡ Some (Some t) → ⊥
no_count t e = none_some t (some_is None (Some t) e)

pub large_words : (words : List (List ℕ)) → listing_form words ≡ Some None → words ≡ codes "probes" ∷ codes "large" ∷ []
large_words [] e = absurd (none_some None e)
large_words (a ∷ []) e = absurd (none_some None e)
large_words (a ∷ b ∷ c ∷ more) e = absurd (none_some None e)
large_words (a ∷ b ∷ []) e =
    let w = pick_from (bytes_eq a (codes "probes")) (if bytes_eq b (codes "large") then Some None else (if is_number b then Some (Some (value_of b)) else None)) None e in
    elim (cases_Bool (bytes_eq b (codes "large"))) [
      | inl large ↦
          (ap (λ (x : List ℕ). x ∷ b ∷ []) (word_is a (codes "probes") w.0) ∙ ap (λ (x : List ℕ). codes "probes" ∷ x ∷ []) (word_is b (codes "large") large))
      | inr other ↦
          (let f : (if is_number b then Some (Some (value_of b)) else None) ≡ Some None = sym (rw other refl) ∙ w.1 in
          absurd (number_is_some b f))
    ]

pub listed_words : (words : List (List ℕ)) (t : ℕ) → listing_form words ≡ Some (Some t) → t < 2 ^ 64 → words ≡ codes "probes" ∷ decimal t ∷ []
listed_words [] t e h = absurd (none_some (Some t) e)
listed_words (a ∷ []) t e h = absurd (none_some (Some t) e)
listed_words (a ∷ b ∷ c ∷ more) t e h = absurd (none_some (Some t) e)
listed_words (a ∷ b ∷ []) t e h =
    let w = pick_from (bytes_eq a (codes "probes")) (if bytes_eq b (codes "large") then Some None else (if is_number b then Some (Some (value_of b)) else None)) (Some t) e in
    elim (cases_Bool (bytes_eq b (codes "large"))) [
      | inl large ↦ (let f : Some None ≡ Some (Some t) = sym (rw large refl) ∙ w.1 in absurd (no_count t f))
      | inr other ↦
          (let f : (if is_number b then Some (Some (value_of b)) else None) ≡ Some (Some t) = sym (rw other refl) ∙ w.1 in
          ap (λ (x : List ℕ). x ∷ b ∷ []) (word_is a (codes "probes") w.0) ∙ ap (λ (x : List ℕ). codes "probes" ∷ x ∷ []) (number_form b t f h))
    ]

-- the line of a probe
pub probe_words_are : (words : List (List ℕ)) (probe : Probe) → probe_form words ≡ Some probe → probe.product < 2 ^ 64 → probe.left_share < 2 ^ 64 → probe.right_share < 2 ^ 64
    → words ≡ probe_words probe
probe_words_are [] probe e hp hl hr = absurd (none_some probe e)
probe_words_are (a ∷ []) probe e hp hl hr = absurd (none_some probe e)
probe_words_are (a ∷ p ∷ []) probe e hp hl hr = absurd (none_some probe e)
probe_words_are (a ∷ p ∷ l ∷ []) probe e hp hl hr = absurd (none_some probe e)
probe_words_are (a ∷ p ∷ l ∷ r ∷ b ∷ more) probe e hp hl hr = absurd (none_some probe e)
probe_words_are (a ∷ p ∷ l ∷ r ∷ []) probe e hp hl hr =
    let made : Probe = record { product = value_of p; left_share = value_of l; right_share = value_of r } in
    let w = pick_some (bytes_eq a (codes "probe") && is_number p && is_number l && is_number r) made probe e in
    let w3 = and_parts (bytes_eq a (codes "probe") && is_number p && is_number l) (is_number r) w.0 in
    let w2 = and_parts (bytes_eq a (codes "probe") && is_number p) (is_number l) w3.0 in
    let w1 = and_parts (bytes_eq a (codes "probe")) (is_number p) w2.0 in
    ap (λ (x : List ℕ). x ∷ p ∷ l ∷ r ∷ []) (word_is a (codes "probe") w1.0)
    ∙ ap (λ (x : List ℕ). codes "probe" ∷ x ∷ l ∷ r ∷ []) (number_word p probe.product w1.1 (ap (λ (b : Probe). b.product) w.1) hp)
    ∙ ap (λ (x : List ℕ). codes "probe" ∷ decimal probe.product ∷ x ∷ r ∷ []) (number_word l probe.left_share w2.1 (ap (λ (b : Probe). b.left_share) w.1) hl)
    ∙ ap (λ (x : List ℕ). codes "probe" ∷ decimal probe.product ∷ decimal probe.left_share ∷ x ∷ []) (number_word r probe.right_share w3.1 (ap (λ (b : Probe). b.right_share) w.1) hr)
