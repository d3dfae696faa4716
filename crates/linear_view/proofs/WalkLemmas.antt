-- What the equations of a circuit read, and when.
use Rattle.std.proofs.Common.{◌≡◌, ℕ, Bool, true, false, ltb, ◌+◌, ◌<◌, ◌≤◌, List, [], ◌∷◌, ◌++◌, length, take, get_or, Option, None, Some, IfSome, ◌⊎◌, sym, ap, ◌∙◌, subst, arith, inl, inr, true≢false, if◌then◌else◌, nat_lt}
use Rattle.std.proofs.lemmas.List.{take_more, length_push, get_or_append_left, get_or_push, get_or_past}
use Rattle.std.proofs.lemmas.Bool.{cases_lt, cases_eq}
use Rattle.std.proofs.lemmas.Option.{slice_get_within, get_or_from_slice_get, slice_get_cases, none-some, IfSome_then}
use Rattle.std.specs.Bool.{OnTrue}
use Rattle.std.specs.List.{slice_get, AllByRecursion}
use Rattle.std.specs.Option.{option_to_list}
use Rattle.usuba0.specs.declared.circuit.Gate.{Gate}
use Rattle.usuba0.specs.declared.circuit.Gate.TheVariants as gate
use Rattle.usuba0.specs.declared.circuit.Reg.{Reg}
use Rattle.usuba0.specs.Circuit.{IsEquation}
use Rattle.linear_view.specs.Walk.{reads, needs, operands, takes, AreTakenLate, KeepsLater}
use Rattle.linear_view.proofs.ListLemmas.{each_append}

pub take-push : {X : Type 0} (xs : List X) (k : ℕ) (x : X) → slice_get xs k ≡ Some x → take (k + 1) xs ≡ take k xs ++ x ∷ []
take-push xs k x e =
    take_more xs k x (slice_get_within xs k x e) ∙ ap (λ y. take k xs ++ y ∷ []) (get_or_from_slice_get xs k x x e)

pub reads_earlier : (w n : ℕ) (g : Gate) → IsEquation w n g → AllByRecursion (λ (a : Reg). a.0 < n) (reads g)
reads_earlier w n (gate.Const c) h = tt
reads_earlier w n (gate.Xor a b) h = (h.0, (h.1, tt))
reads_earlier w n (gate.Not a) h = (h, tt)
reads_earlier w n (gate.Mask c a) h = (h.1, tt)
reads_earlier w n (gate.And a b) h = (h.0, (h.1, tt))
reads_earlier w n (gate.Shl k a) h = (h.2, tt)
reads_earlier w n (gate.Shr k a) h = (h.2, tt)
reads_earlier w n (gate.Rotl k a) h = (h.2, tt)
reads_earlier w n (gate.Refresh a) h = (h, tt)

pub takes_earlier : (w n : ℕ) (is_read : Bool) (g : Gate) → IsEquation w n g
    → AllByRecursion (λ (a : Reg). a.0 < n) (takes is_read g)
takes_earlier w n is_read (gate.And a b) h = each_append (λ (a : Reg). a.0 < n) (a ∷ b ∷ []) (if is_read then [] else [])
    (h.0, (h.1, tt)) (none is_read)
  where
    none : (c : Bool) → AllByRecursion (λ (a : Reg). a.0 < n) (if c then [] else [])
    none true = tt
    none false = tt
takes_earlier w n true (gate.Const c) h = tt
takes_earlier w n true (gate.Xor a b) h = (h.0, (h.1, tt))
takes_earlier w n true (gate.Not a) h = (h, tt)
takes_earlier w n true (gate.Mask c a) h = (h.1, tt)
takes_earlier w n true (gate.Shl k a) h = (h.2, tt)
takes_earlier w n true (gate.Shr k a) h = (h.2, tt)
takes_earlier w n true (gate.Rotl k a) h = (h.2, tt)
takes_earlier w n true (gate.Refresh a) h = tt
takes_earlier w n false (gate.Const c) h = tt
takes_earlier w n false (gate.Xor a b) h = tt
takes_earlier w n false (gate.Not a) h = tt
takes_earlier w n false (gate.Mask c a) h = tt
takes_earlier w n false (gate.Shl k a) h = tt
takes_earlier w n false (gate.Shr k a) h = tt
takes_earlier w n false (gate.Rotl k a) h = tt
takes_earlier w n false (gate.Refresh a) h = tt

first_of_both : {X : Type 0} (P : X → Type 0) (xs ys : List X) → AllByRecursion P (xs ++ ys) → AllByRecursion P xs
first_of_both P [] ys h = tt
first_of_both P (x ∷ xs) ys h = (h.0, first_of_both P xs ys h.1)

second_of_both : {X : Type 0} (P : X → Type 0) (xs ys : List X) → AllByRecursion P (xs ++ ys) → AllByRecursion P ys
second_of_both P [] ys h = h
second_of_both P (x ∷ xs) ys h = second_of_both P xs ys h.1

-- what holds of each register that an equation takes holds of its operands
pub takes_operands : (P : Reg → Type 0) (is_read : Bool) (g : Gate) → AllByRecursion P (takes is_read g)
    → AllByRecursion P (operands g)
takes_operands P is_read g h = first_of_both P (operands g) (if is_read then needs g else []) h

-- and where its own register is read, of those that it needs
pub takes_needs : (P : Reg → Type 0) (is_read : Bool) (g : Gate) → is_read ≡ true → AllByRecursion P (takes is_read g)
    → AllByRecursion P (needs g)
takes_needs P true g e h = second_of_both P (operands g) (needs g) h
takes_needs P false g e h = absurd (true≢false (sym e))

pub all_weaker : {X : Type 0} (P Q : X → Type 0) (xs : List X) → ((x : X) → P x → Q x) → AllByRecursion P xs → AllByRecursion Q xs
all_weaker P Q [] f h = tt
all_weaker P Q (x ∷ xs) f h = (f x h.0, all_weaker P Q xs f h.1)

-- what holds of each register of two options holds of each of their list, and back
pub all_of_two : {X : Type 0} (P : X → Type 0) (first second : Option X) → IfSome first P → IfSome second P → AllByRecursion P (option_to_list first ++ option_to_list second)
all_of_two P None None p q = tt
all_of_two P None (Some b) p q = (q, tt)
all_of_two P (Some a) None p q = (p, tt)
all_of_two P (Some a) (Some b) p q = (p, (q, tt))

pub first_of_all : {X : Type 0} (P : X → Type 0) (first second : Option X) → AllByRecursion P (option_to_list first ++ option_to_list second) → IfSome first P
first_of_all P None second h = tt
first_of_all P (Some a) second h = h.0

pub second_of_all : {X : Type 0} (P : X → Type 0) (first second : Option X) → AllByRecursion P (option_to_list first ++ option_to_list second) → IfSome second P
second_of_all P first None h = tt
second_of_all P None (Some b) h = h.0
second_of_all P (Some a) (Some b) h = h.1.0

-- numbers that rise, where that of the equation's own register stays
pub late_rises : (old new : List ℕ) (r k : ℕ) (g : Gate) → ((i : ℕ) → get_or old i 0 ≤ get_or new i 0)
    → get_or new r 0 ≡ get_or old r 0 → AreTakenLate old r k g → AreTakenLate new r k g
late_rises old new r k g rises same late =
    subst (λ (m : ℕ). AllByRecursion (λ (a : Reg). k ≤ get_or new a.0 0) (takes (nat_lt k m) g)) (sym same)
    (all_weaker (λ (a : Reg). k ≤ get_or old a.0 0) (λ (a : Reg). k ≤ get_or new a.0 0) (takes (nat_lt k (get_or old r 0)) g)
    (λ a h. omega (arith, rises a.0, h)) late)

pub keeps_then : {last : List ℕ} {k : ℕ} {old mid new : List (List (List Bool))} → KeepsLater last k old mid → KeepsLater last k mid new → KeepsLater last k old new
keeps_then a b = record { count = b.count ∙ a.count; later = λ r h. b.later r h ∙ a.later r h }

pub keeps_is : {last : List ℕ} {k : ℕ} {old other new : List (List (List Bool))} → old ≡ other → KeepsLater last k old new → KeepsLater last k other new
keeps_is {last} {k} {old} {other} {new} e h = subst (λ (l : List (List (List Bool))). KeepsLater last k l new) e h

pub past_none : {X : Type 0} (xs : List X) (i : ℕ) → None ≡ slice_get xs i → length xs ≤ i
past_none xs i e = elim (slice_get_cases xs i).1 as (λ _. length xs ≤ i) [ inl there ↦ absurd (none-some there.0 (e ∙ there.2)) | inr past ↦ past.0 ]

-- the last reads after the equation before those that were seen
pub late_more : (gs : List Gate) (n k : ℕ) (d : Gate) (old mid new : List ℕ) (first second : Option Reg)
    → ((j : ℕ) (g : Gate) → k + 1 ≤ j → slice_get gs j ≡ Some g → AreTakenLate old (n + j) j g)
    → ((r : ℕ) → get_or old r 0 ≤ get_or mid r 0) → ((r : ℕ) → get_or mid r 0 ≤ get_or new r 0)
    → ((r : ℕ) → IfSome first (λ (a : Reg). a.0 < r) → get_or mid r 0 ≡ get_or old r 0)
    → ((r : ℕ) → IfSome second (λ (a : Reg). a.0 < r) → get_or new r 0 ≡ get_or mid r 0)
    → AllByRecursion (λ (a : Reg). a.0 < n + k) (option_to_list first ++ option_to_list second)
    → option_to_list first ++ option_to_list second ≡ takes (nat_lt k (get_or old (n + k) 0)) (get_or gs k d)
    → IfSome first (λ (a : Reg). k ≤ get_or mid a.0 0) → IfSome second (λ (a : Reg). k ≤ get_or new a.0 0)
    → (j : ℕ) (g : Gate) → k ≤ j → slice_get gs j ≡ Some g → AreTakenLate new (n + j) j g
late_more gs n k d old mid new first second late rise more one other earlier both p q j g from there =
    elim (cases j k from) as (λ _. AreTakenLate new (n + j) j g) [
      | inl h ↦
          late_rises old new (n + j) j g (λ r. omega (arith, rise r, more r)) (same (n + j) (omega (arith, h))) (late j g h there)
      | inr here ↦
          let read : get_or gs k d ≡ g = get_or_from_slice_get gs k g d (ap (slice_get gs) (sym here) ∙ there) in
          let marked : AllByRecursion (λ (a : Reg). k ≤ get_or new a.0 0) (option_to_list first ++ option_to_list second) =
          all_of_two (λ (a : Reg). k ≤ get_or new a.0 0) first second (IfSome_then first p (λ a h. omega (arith, h, more a.0))) q in
          let taken : AllByRecursion (λ (a : Reg). k ≤ get_or new a.0 0) (takes (nat_lt k (get_or old (n + k) 0)) (get_or gs k d)) =
          subst (λ (rs : List Reg). AllByRecursion (λ (a : Reg). k ≤ get_or new a.0 0) rs) both marked in
          let at_k : AreTakenLate new (n + k) k (get_or gs k d) =
          subst (λ (m : ℕ). AllByRecursion (λ (a : Reg). k ≤ get_or new a.0 0) (takes (nat_lt k m) (get_or gs k d)))
          (sym (same (n + k) (omega arith))) taken in
          subst (λ (m : ℕ). AreTakenLate new (n + m) m g) (sym here) (subst (λ (gate : Gate). AreTakenLate new (n + k) k gate) read at_k)
    ]
  where
    cases : (j k : ℕ) → k ≤ j → (k + 1 ≤ j) ⊎ (j ≡ k)
    cases j k h = grind arith

    same : (r : ℕ) → n + k ≤ r → get_or new r 0 ≡ get_or old r 0
    same r h =
        other r (IfSome_then second (second_of_all (λ (a : Reg). a.0 < n + k) first second earlier) (λ a below. omega (arith, h, below)))
        ∙ one r (IfSome_then first (first_of_all (λ (a : Reg). a.0 < n + k) first second earlier) (λ a below. omega (arith, h, below)))

-- an answer that holds where a number is below another
pub if_below : (a b : ℕ) (P : Type 0) → OnTrue (ltb a b) P → a < b → P
if_below a b P answer h = at (ltb a b) (below a b h) answer
  where
    below : (a b : ℕ) → a < b → ltb a b ≡ true
    below a b h = grind arith

    at : (r : Bool) → r ≡ true → OnTrue r P → P
    at true e p = p
    at false e p = cc e

-- rows that are put behind others: those of the new register count only where a later equation reads it
pub keeps_made : (last : List ℕ) (k : ℕ) (old : List (List (List Bool))) (made rows : List (List Bool)) → (k < get_or last (length old) 0 → rows ≡ made)
    → KeepsLater last k (old ++ made ∷ []) (old ++ rows ∷ [])
keeps_made last k old made rows same = record {
  count = length_push old rows ∙ sym (length_push old made);
  later = λ r h. elim (cases_lt r (length old)) [
    | inl before ↦ get_or_append_left old (rows ∷ []) [] r before ∙ sym (get_or_append_left old (made ∷ []) [] r before)
    | inr other ↦ elim (cases_eq r (length old)) [
      | inl here ↦ at here h
      | inr past ↦
          get_or_past (old ++ rows ∷ []) r [] (omega (arith, length_push old rows))
          ∙ sym (get_or_past (old ++ made ∷ []) r [] (omega (arith, length_push old made)))
    ]
  ];
}
  where
    at : {r : ℕ} → r ≡ length old → k < get_or last r 0 → get_or (old ++ rows ∷ []) r [] ≡ get_or (old ++ made ∷ []) r []
    at {r} here h =
        let read : k < get_or last (length old) 0 = subst (λ (n : ℕ). k < get_or last n 0) here h in
        get_or_push old rows [] r (sym here) ∙ same read ∙ sym (get_or_push old made [] r (sym here))

-- and what is kept of old rows is kept where rows are put behind
pub keeps_push : {last : List ℕ} {k : ℕ} {old new : List (List (List Bool))} (rows : List (List Bool)) → KeepsLater last k old new
    → KeepsLater last k (old ++ rows ∷ []) (new ++ rows ∷ [])
keeps_push {last} {k} {old} {new} rows keeps = record {
  count = length_push new rows ∙ ap (λ (n : ℕ). n + 1) keeps.count ∙ sym (length_push old rows);
  later = λ r h. elim (cases_lt r (length old)) [
    | inl before ↦
        get_or_append_left new (rows ∷ []) [] r (omega (arith, keeps.count, before)) ∙ keeps.later r h ∙ sym (get_or_append_left old (rows ∷ []) [] r before)
    | inr other ↦ elim (cases_eq r (length old)) [
      | inl here ↦ get_or_push new rows [] r (keeps.count ∙ sym here) ∙ sym (get_or_push old rows [] r (sym here))
      | inr past ↦
          get_or_past (new ++ rows ∷ []) r [] (omega (arith, length_push new rows, keeps.count))
          ∙ sym (get_or_past (old ++ rows ∷ []) r [] (omega (arith, length_push old rows)))
    ]
  ];
}
