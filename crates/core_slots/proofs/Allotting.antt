-- One more equation gets its slot.
use Rattle.std.proofs.Common.{◌≡◌, ◌≢◌, ◌⊎◌, ℕ, ◌+◌, ◌-◌, ◌<◌, ◌≤◌, Bool, true, false, not, List, [], ◌∷◌}
use Rattle.std.proofs.Common.{◌++◌, length, get_or, slice_get, Some, All, refl, sym, ap, ◌∙◌, subst, max, inl, inr}
use Rattle.std.proofs.Common.{arith}
use Rattle.std.specs.Prelude.{nat_eq, nat_le, nat_lt, ◌==◌, ◌&&◌, ◌||◌, IsTrue}
use Rattle.std.specs.List.{list_any}
use Rattle.std.proofs.lemmas.Bool.{and_parts, and_from, and_cases, or_cases, or_parts, or_left, or_right, not-true}
use Rattle.std.proofs.lemmas.Bool.{eqb-true, eq-eqb, leb-true, le-leb, ltb-true, ltb-false, le-ltb, lt-ltb, not-false}
use Rattle.std.proofs.lemmas.Bool.{cases_lt, cases_eq, cases_order, cases_Bool, both_ways}
use Rattle.std.proofs.lemmas.List.{get_or_at, length-append}
use Rattle.std.proofs.lemmas.List.Elements.{All-head, All-tail}
use Rattle.usuba0.specs.declared.circuit.Gate.{Gate}
use Rattle.usuba0.specs.Circuit.{Circuit}
use Rattle.c_form.specs.Slots.{operands, reads, is_read, is_live, IsHeld, IsLeastFree, AreLeastSlots, slot_count}
use Rattle.c_form.proofs.Reading.{is_read-earlier, is_live-parts, is_live-from, is_live-earlier, is_read-here}
use Rattle.c_form.proofs.Last.{slots-apart, below-slot_count}
use Rattle.c_form.proofs.Existing.{get_or-front, IsLeastFree-longer}
use Rattle.core_slots.specs.State.Ends.{AreEnds}
use Rattle.core_slots.specs.State.Free.{is_released, IsTaken, AreAllotted}

slot_count-push : (slots : List ℕ) (slot : ℕ) → max (slot_count slots) (slot + 1) ≡ slot_count (slots ++ slot ∷ [])
slot_count-push [] slot = omega arith
slot_count-push (s ∷ slots) slot = let rest = slot_count-push slots slot in omega arith

-- an element that passes a test, with what holds of it
found-in : (p : ℕ → Bool) (P : ℕ → Type 0) (xs : List ℕ) → All P xs → list_any p xs ≡ true
    → (x : ℕ) × (P x × (p x ≡ true))
found-in p P [] all found = absurd (cc)
found-in p P (x ∷ xs) all found =
    elim (or_cases (p x) (list_any p xs) found) as (λ v. (x : ℕ) × (P x × (p x ≡ true))) [
      | inl here ↦ (x, (All-head P x xs all, here))
      | inr later ↦ found-in p P xs (All-tail P x xs all) later
    ]

-- where one test passes another does
passes-also : (p q : ℕ → Bool) (xs : List ℕ) → ((x : ℕ) → p x ≡ true → q x ≡ true) → list_any p xs ≡ true
    → list_any q xs ≡ true
passes-also p q [] also found = found
passes-also p q (x ∷ xs) also found =
    elim (or_cases (p x) (list_any p xs) found) as (λ v. list_any q (x ∷ xs) ≡ true) [
      | inl here ↦ or_left (q x) (list_any q xs) (also x here)
      | inr later ↦ or_right (q x) (list_any q xs) (passes-also p q xs also later)
    ]

-- what is known when an equation gets its slot, and after its operands' slots and its own were looked at
pub record IsNext (core : Circuit) (places ends : List ℕ) (count slot : ℕ) (free taken released now : ℕ → Bool)
    (gate : Gate) : Type 0 where
  pub before : AreAllotted core places count free
  pub took : IsTaken free taken count slot
  pub ends_are : AreEnds core.inputs (reads core) ends
  pub within : length places < length ends
  pub here : slice_get core.equations (length places) ≡ Some gate
  pub registers : All (λ r. r < core.inputs + length places) (operands gate)
  pub operands_freed : (s : ℕ) → released s
      ≡ (taken s || list_any (is_released core.inputs (places ++ slot ∷ []) ends (length places) s) (operands gate))
  pub own_freed : (s : ℕ) → now s
      ≡ (released s || (nat_le (get_or ends (length places) 0) (length places + 1) && s == slot))

module _ (core : Circuit) (places ends : List ℕ) (count slot : ℕ) (free taken released now : ℕ → Bool) (gate : Gate)
    (next : IsNext core places ends count slot free taken released now gate) where
  abbrev n : ℕ
  n = length places

  abbrev more : List ℕ
  more = places ++ slot ∷ []

  at_end : get_or more n 0 ≡ slot
  at_end = get_or_at places slot [] 0 n refl

  long : length more ≡ n + 1
  long = length-append places (slot ∷ [])

  front : (i : ℕ) → i < n → get_or more i 0 ≡ get_or places i 0
  front i below = get_or-front places (slot ∷ []) i below

  counted : max count (slot + 1) ≡ slot_count more
  counted = ap (λ (c : ℕ). max c (slot + 1)) next.before.counted ∙ slot_count-push places slot

  place_below : (i : ℕ) → i < n → get_or places i 0 < count
  place_below i below =
      let known = below-slot_count places i below in
      let same : count ≡ slot_count places = next.before.counted in
      omega arith

  slot_le : slot ≤ count
  slot_le =
      elim next.took.found as (λ v. slot ≤ count) [
        | inl there ↦ (let below = next.before.below slot there in omega arith)
        | inr new ↦ omega arith
      ]

  own_least : IsLeastFree core places n slot
  own_least = record {
    free = λ j live same.
        let made = (is_live-parts core n j live).0 in
        elim next.took.found as (λ v. ⊥) [
          | inl there ↦ next.before.unheld slot there j live same
          | inr new ↦ (let below = place_below j made in absurd (omega arith))
        ];
    least = λ less below.
        elim (cases_Bool (free less)) as (λ v. IsHeld core places n less) [
          | inl there ↦ (let least = next.took.least less there in absurd (omega arith))
          | inr held ↦ next.before.held less (let le = slot_le in omega arith) held
        ];
  }

  all_least : (k : ℕ) → k < n + 1 → IsLeastFree core more k (get_or more k 0)
  all_least k below =
      elim (cases_lt k n) as (λ v. IsLeastFree core more k (get_or more k 0)) [
        | inl earlier ↦
            subst (λ (s : ℕ). IsLeastFree core more k s) (sym (front k earlier))
            (IsLeastFree-longer core places (slot ∷ []) k (get_or places k 0) (omega arith)
            (next.before.least k earlier))
        | inr at ↦
            (let same : n ≡ k = omega arith in
            subst (λ (i : ℕ). IsLeastFree core more i (get_or more i 0)) same
            (subst (λ (s : ℕ). IsLeastFree core more n s) (sym at_end)
            (IsLeastFree-longer core places (slot ∷ []) n slot (omega arith) own_least)))
      ]

  -- a register that nothing reads behind the equation, and that it reads or makes, with its slot
  abbrev Freed : ℕ → Type 0
  Freed s = (j : ℕ) × ((j < n + 1) × ((is_read core (n + 1) j ≡ false) × (((is_read core n j ≡ true) ⊎ (j ≡ n))
      × (get_or more j 0 ≡ s))))

  released_freed : (s : ℕ) → list_any (is_released core.inputs more ends n s) (operands gate) ≡ true → Freed s
  released_freed s found =
      let read = found-in (is_released core.inputs more ends n s) (λ r. r < core.inputs + n) (operands gate)
      next.registers found in
      let r = read.0 in
      let parts = and_parts (nat_le core.inputs r && (get_or ends (r - core.inputs) 0 == n + 1))
      (s == get_or more (r - core.inputs) 0) read.1.1 in
      let tests = and_parts (nat_le core.inputs r) (get_or ends (r - core.inputs) 0 == n + 1) parts.0 in
      let past : core.inputs ≤ r = leb-true core.inputs r tests.0 in
      let end : get_or ends (r - core.inputs) 0 ≡ n + 1 = eqb-true (get_or ends (r - core.inputs) 0) (n + 1) tests.1 in
      let own : s ≡ get_or more (r - core.inputs) 0 = eqb-true s (get_or more (r - core.inputs) 0) parts.1 in
      let below : r < core.inputs + n = read.1.0 in
      let within : n < length ends = next.within in (
        r - core.inputs,
        (
          omega arith,
          (
            next.ends_are (r - core.inputs) (n + 1) (omega arith) ∙ ap (nat_lt (n + 1)) end ∙ le-ltb (n + 1) (n + 1)
                (omega arith),
            (
              inl
                  (next.ends_are (r - core.inputs) n (omega arith) ∙ ap (nat_lt n) end
                  ∙ lt-ltb n (n + 1) (omega arith)),
              sym own,
            ),
          ),
        ),
      )

  own_is_freed : (s : ℕ) → (nat_le (get_or ends n 0) (n + 1) && s == slot) ≡ true → Freed s
  own_is_freed s found =
      let parts = and_parts (nat_le (get_or ends n 0) (n + 1)) (s == slot) found in
      let end : get_or ends n 0 ≤ n + 1 = leb-true (get_or ends n 0) (n + 1) parts.0 in
      let same : s ≡ slot = eqb-true s slot parts.1 in (
        n,
        (
          omega arith,
          (
            next.ends_are n (n + 1) next.within ∙ le-ltb (n + 1) (get_or ends n 0) end,
            (inr refl, at_end ∙ sym same),
          ),
        ),
      )

  -- a slot that is free now was free and not taken, or its register was freed
  free_cases : (s : ℕ) → now s ≡ true → ((free s ≡ true) × (s ≢ slot)) ⊎ Freed s
  free_cases s there =
      elim (or_cases (released s) (nat_le (get_or ends n 0) (n + 1) && s == slot) (sym (next.own_freed s) ∙ there))
      as (λ v. ((free s ≡ true) × (s ≢ slot)) ⊎ Freed s) [
        | inl earlier ↦
            (elim (or_cases (taken s) (list_any (is_released core.inputs more ends n s) (operands gate))
            (sym (next.operands_freed s) ∙ earlier)) as (λ v. ((free s ≡ true) × (s ≢ slot)) ⊎ Freed s) [
              | inl kept ↦
                  (let parts = and_parts (free s) (not (s == slot)) (sym (next.took.rest s) ∙ kept) in
                  inl (parts.0, λ same. both_ways (s == slot) (not-true (s == slot) parts.1) (eq-eqb s slot same)))
              | inr read ↦ inr (released_freed s read)
            ])
        | inr own ↦ inr (own_is_freed s own)
      ]

  free_below : (s : ℕ) → now s ≡ true → s < max count (slot + 1)
  free_below s there =
      elim (free_cases s there) as (λ v. s < max count (slot + 1)) [
        | inl kept ↦ (let below = next.before.below s kept.0 in omega arith)
        | inr freed ↦
            (let made : freed.0 < n + 1 = freed.1.0 in
            let held : get_or more freed.0 0 ≡ s = freed.1.1.1.1 in
            let size = long in
            let below = below-slot_count more freed.0 (omega arith) in
            let same = counted in
            omega arith)
      ]

  -- a register that is live behind the equation has no slot of a freed one
  apart_from_freed : (s i : ℕ) → Freed s → IsTrue (is_live core (n + 1) i) → get_or more i 0 ≡ s → ⊥
  apart_from_freed s i freed live same =
      let j = freed.0 in
      let parts = is_live-parts core (n + 1) i live in
      let held : get_or more i 0 ≡ get_or more j 0 = same ∙ sym freed.1.1.1.1 in
      elim (cases_order i j) as (λ v. ⊥) [
        | inl equal ↦
            both_ways (is_read core (n + 1) j) freed.1.1.0
            (subst (λ (k : ℕ). is_read core (n + 1) k ≡ true) equal parts.1)
        | inr other ↦
            elim other as (λ v. ⊥) [
              | inl before ↦
                  slots-apart core more (n + 1) (n + 1) i j all_least before freed.1.0
                  (let made = freed.1.0 in omega arith) live held
              | inr after ↦
                  elim freed.1.1.1.0 as (λ v. ⊥) [
                    | inl read ↦
                        (let made : i < n + 1 = parts.0 in
                        slots-apart core more (n + 1) i j i all_least after made (omega arith)
                        (is_live-from core i j after (is_read-earlier core i n j (omega arith) read)) (sym held))
                    | inr last ↦ (let made : i < n + 1 = parts.0 in let end : j ≡ n = last in absurd (omega arith))
                  ]
            ]
      ]

  free_unheld : (s : ℕ) → now s ≡ true → (i : ℕ) → IsTrue (is_live core (n + 1) i) → get_or more i 0 ≢ s
  free_unheld s there i live same =
      elim (free_cases s there) as (λ v. ⊥) [
        | inl kept ↦
            (let made : i < n + 1 = (is_live-parts core (n + 1) i live).0 in
            elim (cases_lt i n) as (λ v. ⊥) [
              | inl before ↦
                  next.before.unheld s kept.0 i (is_live-earlier core n (n + 1) i (omega arith) before live)
                  (sym (front i before) ∙ same)
              | inr at ↦
                  (let last : i ≡ n = omega arith in
                  kept.1 (sym same ∙ ap (λ (k : ℕ). get_or more k 0) last ∙ at_end))
            ])
        | inr freed ↦ apart_from_freed s i freed live same
      ]

  -- its own slot, where the equation's register is not freed
  own_held : (s : ℕ) → s ≡ slot → now s ≡ false → IsHeld core more (n + 1) s
  own_held s same absent =
      let own = (or_parts (released s) (nat_le (get_or ends n 0) (n + 1) && s == slot)
      (sym (next.own_freed s) ∙ absent)).1 in
      elim (cases_Bool (is_read core (n + 1) n)) as (λ v. IsHeld core more (n + 1) s) [
        | inl read ↦ (n, (is_live-from core (n + 1) n (omega arith) read, at_end ∙ sym same))
        | inr unread ↦
            (let end : get_or ends n 0 ≤ n + 1
            = ltb-false (n + 1) (get_or ends n 0) (sym (next.ends_are n (n + 1) next.within) ∙ unread) in
            absurd (both_ways (nat_le (get_or ends n 0) (n + 1) && s == slot) own
            (and_from (nat_le (get_or ends n 0) (n + 1)) (s == slot) (le-leb (get_or ends n 0) (n + 1) end)
            (eq-eqb s slot same))))
      ]

  -- a register that is read last at the equation is among those whose slots are freed
  read_last : (s j : ℕ) → j < n → get_or places j 0 ≡ s → is_read core n j ≡ true → is_read core (n + 1) j ≡ false
      → list_any (is_released core.inputs more ends n s) (operands gate) ≡ true
  read_last s j made held read unread =
      let within : n < length ends = next.within in
      let after : n < get_or ends j 0
      = ltb-true n (get_or ends j 0) (sym (next.ends_are j n (omega arith)) ∙ read) in
      let up_to : get_or ends j 0 ≤ n + 1
      = ltb-false (n + 1) (get_or ends j 0) (sym (next.ends_are j (n + 1) (omega arith)) ∙ unread) in
      let end : get_or ends j 0 ≡ n + 1 = omega arith in
      let here : list_any (nat_eq (core.inputs + j)) (operands gate) ≡ true
      = first_part (list_any (nat_eq (core.inputs + j)) (operands gate)) (is_read core (n + 1) j)
      (sym (is_read-here core n gate j next.here) ∙ read) unread in
      passes-also (nat_eq (core.inputs + j)) (is_released core.inputs more ends n s) (operands gate)
      (λ r is.
      let register : core.inputs + j ≡ r = eqb-true (core.inputs + j) r is in
      let number : j ≡ r - core.inputs = omega arith in
      and_from (nat_le core.inputs r && (get_or ends (r - core.inputs) 0 == n + 1)) (s == get_or more
      (r - core.inputs) 0)
      (and_from (nat_le core.inputs r) (get_or ends (r - core.inputs) 0 == n + 1) (le-leb core.inputs r (omega arith))
      (eq-eqb (get_or ends (r - core.inputs) 0) (n + 1) (ap (λ (k : ℕ). get_or ends k 0) (sym number) ∙ end)))
      (eq-eqb s (get_or more (r - core.inputs) 0)
      (sym held ∙ sym (front j made) ∙ ap (λ (k : ℕ). get_or more k 0) number)))
      here
    where
      first_part : (x y : Bool) → (x || y) ≡ true → y ≡ false → x ≡ true
      first_part true y found none = refl
      first_part false y found none = absurd (both_ways y none found)

  -- another slot, where it was held before
  other_held : (s : ℕ) → s ≢ slot → s < count → now s ≡ false → IsHeld core more (n + 1) s
  other_held s apart below absent =
      let outer = or_parts (released s) (nat_le (get_or ends n 0) (n + 1) && s == slot) (sym (next.own_freed s)
      ∙ absent) in
      let inner = or_parts (taken s) (list_any (is_released core.inputs more ends n s) (operands gate))
      (sym (next.operands_freed s) ∙ outer.0) in
      let was_held : free s ≡ false
      = elim (and_cases (free s) (not (s == slot)) (sym (next.took.rest s) ∙ inner.0)) as (λ v. free s ≡ false) [
        | inl held ↦ held
        | inr taken_now ↦ absurd (apart (eqb-true s slot (not-false (s == slot) taken_now)))
      ] in
      let held = next.before.held s below was_held in
      let j = held.0 in
      let parts = is_live-parts core n j held.1.0 in
      elim (cases_Bool (is_read core (n + 1) j)) as (λ v. IsHeld core more (n + 1) s) [
        | inl read ↦
            (let made : j < n = parts.0 in
            (j, (is_live-from core (n + 1) j (omega arith) read, front j made ∙ held.1.1)))
        | inr unread ↦
            absurd (both_ways (list_any (is_released core.inputs more ends n s) (operands gate)) inner.1
            (read_last s j parts.0 held.1.1 parts.1 unread))
      ]

  -- the equations up to this one have their slots
  pub AreAllotted-next : AreAllotted core more (max count (slot + 1)) now
  AreAllotted-next = record {
    counted = counted;
    least = λ k within. all_least k (let size = long in omega arith);
    below = free_below;
    unheld = λ s there j live.
        free_unheld s there j (subst (λ (m : ℕ). IsTrue (is_live core m j)) long live);
    held = λ s below absent.
        subst (λ (m : ℕ). IsHeld core more m s) (sym long)
        (elim (cases_eq s slot) as (λ v. IsHeld core more (n + 1) s) [
          | inl same ↦ own_held s same absent
          | inr apart ↦ other_held s apart (let le = slot_le in omega arith) absent
        ]);
  }

-- the slot that is taken is at most the number of slots
pub taken-le : (core : Circuit) (places : List ℕ) (count slot : ℕ) (free taken : ℕ → Bool)
    → AreAllotted core places count free → IsTaken free taken count slot → slot ≤ count
taken-le core places count slot free taken are took =
    elim took.found as (λ v. slot ≤ count) [
      | inl there ↦ (let below = are.below slot there in omega arith)
      | inr new ↦ omega arith
    ]

-- the same, as the code finds it
pub AreAllotted-step : (core : Circuit) (places ends more final listed : List ℕ) (count slot place inputs now_count : ℕ)
    (free taken released now : ℕ → Bool) (gate : Gate)
    → place ≡ length places → inputs ≡ core.inputs → listed ≡ operands gate → more ≡ places ++ slot ∷ []
    → final ≡ places ++ slot ∷ [] → now_count ≡ max count (slot + 1)
    → AreAllotted core places count free → IsTaken free taken count slot → AreEnds core.inputs (reads core) ends
    → length places < length ends → slice_get core.equations (length places) ≡ Some gate
    → All (λ r. r < core.inputs + length places) (operands gate)
    → ((s : ℕ) → released s ≡ (taken s || list_any (is_released inputs more ends place s) listed))
    → ((s : ℕ) → now s ≡ (released s || (nat_le (get_or ends place 0) (place + 1) && s == slot)))
    → AreAllotted core final now_count now
AreAllotted-step core places ends more final listed count slot place inputs now_count free taken released now gate
    same_place same_inputs same_listed same_more same_final same_count before took ends_are within here registers
    operands_freed own_freed =
    subst (λ (l : List ℕ). AreAllotted core l now_count now) (sym same_final)
    (subst (λ (c : ℕ). AreAllotted core (places ++ slot ∷ []) c now) (sym same_count)
    (AreAllotted-next core places ends count slot free taken released now gate (record {
      before = before;
      took = took;
      ends_are = ends_are;
      within = within;
      here = here;
      registers = registers;
      operands_freed = λ s.
          operands_freed s
          ∙ ap (λ (i : ℕ). taken s || list_any (is_released i more ends place s) listed) same_inputs
          ∙ ap (λ (m : List ℕ). taken s || list_any (is_released core.inputs m ends place s) listed) same_more
          ∙ ap (λ (p : ℕ). taken s || list_any (is_released core.inputs (places
          ++ slot ∷ []) ends p s) listed) same_place
          ∙ ap (λ (l : List ℕ). taken s
          || list_any (is_released core.inputs (places ++ slot ∷ []) ends (length places) s) l) same_listed;
      own_freed = λ s.
          own_freed s
          ∙ ap (λ (p : ℕ). released s || (nat_le (get_or ends p 0) (p + 1) && s == slot)) same_place;
    })))

-- no equation has a slot yet
pub AreAllotted-none : (core : Circuit) (free : ℕ → Bool) → ((s : ℕ) → free s ≡ false) → AreAllotted core [] 0 free
AreAllotted-none core free none = record {
  counted = refl;
  least = λ k within. absurd (omega arith);
  below = λ s there. absurd (both_ways (free s) (none s) there);
  unheld = λ s there. absurd (both_ways (free s) (none s) there);
  held = λ s below. absurd (omega arith);
}

-- all have
pub AreLeastSlots-all : (core : Circuit) (places : List ℕ) (count : ℕ) (free : ℕ → Bool)
    → length places ≡ length core.equations → AreAllotted core places count free → AreLeastSlots core places
AreLeastSlots-all core places count free all are = record { count = all; least = λ k within. are.least k (omega arith) }
