-- How the classes are gathered.
use Rattle.std.proofs.Common.{◌≡◌, ◌⊎◌, inl, inr, ℕ, ◌+◌, ◌*◌, ◌-◌, ◌<◌, ◌≤◌, suc, Bool, true, false, not, cond, List, [], ◌∷◌, ◌++◌, length, get_or, set, take, refl, sym, ap, ◌∙◌, subst, arith, Option, Some, None, MatchOption}
use Rattle.std.specs.Prelude.{◌↔◌}
use Rattle.std.specs.List.{Contains, All, slice_get, count_by, sum_by}
use Rattle.std.specs.Prelude.{replicate, IfSome}
use Rattle.std.specs.Bool.{OnTrue}
use Rattle.std.proofs.lemmas.List.Sums.{sum_by-set}
use Rattle.std.proofs.lemmas.List.Folds.{sum_by-replicate}
use Rattle.std.proofs.lemmas.List.{length-append, get_or_default, get_or_append_left, get_or-append_right, get_or-set_same, get_or-set_other, get_or_past, length-set, length-map, get_or-map, take_all, take_more, length-replicate, get_or-replicate}
use Rattle.std.proofs.lemmas.List.Elements.{Contains-append_left, Contains-push, Contains-push_cases}
use Rattle.std.proofs.lemmas.Option.{slice_get-get_or, get_or_from_slice_get}
use Rattle.std.proofs.lemmas.Bool.{cases_lt, cases_eq}
use mathlib.Core.Path.{fun_ext}
use Rattle.span_model.specs.Columns.{Columns, empty, set_of, sets_of}
use Rattle.span_model.specs.Span.{SameSpan}
use Rattle.span_model.specs.Attack.{Product, product_at}
use Rattle.span_model.specs.Closure.{Step, Side, on_left, on_right, operand, co_operand}
use Rattle.gf2_span.specs.Rows.{IsLast, HaveOwnLeads}
use Rattle.linear_view.specs.View.{HasRows}
use Rattle.tightprove.specs.Classes.{class_at, class_rows, IsPartner, StepBetween, AreStepsOf, AreClasses, AreByLead, HasClassesOf, HasPartnersAnd, HasInLanes, AreListed}
use Rattle.tightprove.specs.declared.class.Class.{Class}
use Rattle.tightprove.proofs.Closures.{partner_of}

-- ---- rows

-- rows that each have so many columns all have
pub all_wide : (columns : ℕ) (rows : List (List Bool)) → ((k : ℕ) → k < length rows → length (get_or rows k []) ≡ columns)
    → All (λ row. length row ≡ columns) rows
all_wide columns rows wide k d lt = ap length (get_or_default rows k d [] lt) ∙ wide k lt

-- ---- greatest columns

pub last_same : (v : Columns ℕ) (c d : ℕ) → IsLast v c → IsLast v d → c ≡ d
last_same v c d at_c at_d = elim (cases_lt c d) [
  | inl less ↦ absurd (cc (at_c.none_after d less, at_d.there))
  | inr other ↦ elim (cases_lt d c) [
    | inl less ↦ absurd (cc (at_d.none_after c less, at_c.there))
    | inr more ↦ omega arith
  ]
]

pub last_some : (v : Columns ℕ) (c : ℕ) → IsLast v c → v ≡ empty → ⊥
last_some v c last e = let f : v c ≡ false = ap (λ (w : Columns ℕ). w c) e in cc (f, last.there)

-- a set that is not other than the empty set is the empty set
pub not_other : (v : Columns ℕ) → ((v ≡ empty → ⊥) → ⊥) → v ≡ empty
not_other v h = fun_ext λ c. at c (v c) refl
  where
    at : (c : ℕ) (b : Bool) → v c ≡ b → b ≡ false
    at c true e = absurd (h (λ none. let f : v c ≡ false = ap (λ (w : Columns ℕ). w c) none in cc (f, e)))
    at c false e = refl

-- ---- lanes

lane_kept : (now : List (List ℕ)) (lead n c j : ℕ) → lead < length now → Contains (get_or now c []) j → Contains (get_or (set now lead (get_or now lead [] ++ n ∷ [])) c []) j
lane_kept now lead n c j lt found = elim (cases_eq c lead) [
  | inl same ↦
      let P : ℕ → Type 0 = λ x. Contains (get_or now x []) j → Contains (get_or (set now lead (get_or now lead [] ++ n ∷ [])) x []) j in
      let at_lead : Contains (get_or now lead []) j → Contains (get_or (set now lead (get_or now lead [] ++ n ∷ [])) lead []) j =
      λ h. (let Q : List ℕ → Type 0 = λ l. Contains l j in subst Q (sym (get_or-set_same now lead (get_or now lead [] ++ n ∷ []) [] lt)) (Contains-append_left (get_or now lead []) (n ∷ []) j h)) in
      subst P (sym same) at_lead found
  | inr other ↦ (let Q : List ℕ → Type 0 = λ l. Contains l j in subst Q (sym (get_or-set_other now lead c (get_or now lead [] ++ n ∷ []) [] other)) found)
]

lane_only : (now : List (List ℕ)) (lead n c j : ℕ) → lead < length now → Contains (get_or (set now lead (get_or now lead [] ++ n ∷ [])) c []) j
    → Contains (get_or now c []) j ⊎ (n ≡ j)
lane_only now lead n c j lt found = elim (cases_eq c lead) [
  | inl same ↦
      let P : ℕ → Type 0 = λ x. Contains (get_or (set now lead (get_or now lead [] ++ n ∷ [])) x []) j → Contains (get_or now x []) j ⊎ (n ≡ j) in
      let at_lead : Contains (get_or (set now lead (get_or now lead [] ++ n ∷ [])) lead []) j → Contains (get_or now lead []) j ⊎ (n ≡ j) =
      λ h. (let Q : List ℕ → Type 0 = λ l. Contains l j in Contains-push_cases (get_or now lead []) n j (subst Q (get_or-set_same now lead (get_or now lead [] ++ n ∷ []) [] lt) h)) in
      subst P (sym same) at_lead found
  | inr other ↦ (let Q : List ℕ → Type 0 = λ l. Contains l j in inl (subst Q (get_or-set_other now lead c (get_or now lead [] ++ n ∷ []) [] other) found))
]

lane_there : (now : List (List ℕ)) (lead n : ℕ) → lead < length now → Contains (get_or (set now lead (get_or now lead [] ++ n ∷ [])) lead []) n
lane_there now lead n lt =
    let Q : List ℕ → Type 0 = λ l. Contains l n in
    subst Q (sym (get_or-set_same now lead (get_or now lead [] ++ n ∷ []) [] lt)) (Contains-push (get_or now lead []) n)

pub lanes_start : (n : ℕ) (table : List (List ℕ)) → HasInLanes [] n table table
lanes_start n table = record {
  there = λ c h. absurd (omega (arith, h.1));
  kept = λ c j h. h;
  no_other = λ c j h. inl h;
}

pub lanes_more : (leads : List ℕ) (k lead n : ℕ) (old now : List (List ℕ)) → k < length leads → lead ≡ get_or leads k lead → lead < length now
    → HasInLanes (take k leads) n old now → HasInLanes (take (k + 1) leads) n old (set now lead (get_or now lead [] ++ n ∷ []))
lanes_more leads k lead n old now lt is within has =
    let next : take (k + 1) leads ≡ take k leads ++ lead ∷ [] = take_more leads k lead lt ∙ ap (λ c. take k leads ++ c ∷ []) (sym is) in
    record {
      there = λ c h. (
          let P : List ℕ → Type 0 = λ cs. Contains cs c in
          elim (Contains-push_cases (take k leads) lead c (subst P next h)) [
            | inl old_c ↦ lane_kept now lead n c n within (has.there c old_c)
            | inr new_c ↦ (let Q : ℕ → Type 0 = λ x. Contains (get_or (set now lead (get_or now lead [] ++ n ∷ [])) x []) n in subst Q new_c (lane_there now lead n within))
          ]
          );
      kept = λ c j h. lane_kept now lead n c j within (has.kept c j h);
      no_other = λ c j h. elim (lane_only now lead n c j within h) [ inl x ↦ has.no_other c j x | inr e ↦ inr e ];
    }

-- ---- one more class

zero_off : (n i : ℕ) → n ≡ i → i - n ≡ 0
zero_off n i e = omega arith

pushed_at : (old : List Class) (one : Class) (i : ℕ)
    → (class_at (old ++ one ∷ []) i ≡ class_at old i) ⊎ ((length old ≡ i) × (class_at (old ++ one ∷ []) i ≡ one))
pushed_at old one i = elim (cases_lt i (length old)) [
  | inl before ↦ inl (get_or_append_left old (one ∷ []) (record { rows = []; partners = [] }) i before)
  | inr other ↦ elim (cases_eq (length old) i) [
    | inl same ↦ inr (same, get_or-append_right old (one ∷ []) (length old) i (record { rows = []; partners = [] }) refl other ∙ ap (λ k. get_or (one ∷ []) k (record { rows = []; partners = [] })) (zero_off (length old) i same))
    | inr apart ↦ inl (get_or_past (old ++ one ∷ []) i (record { rows = []; partners = [] }) (omega (arith, length-append old (one ∷ []))) ∙ sym (get_or_past old i (record { rows = []; partners = [] }) other))
  ]
]

pub class_added : (columns : ℕ) (old : List Class) (rows : List (List Bool)) → AreClasses columns old
    → ((k : ℕ) → k < length rows → length (get_or rows k []) ≡ columns) → HaveOwnLeads (sets_of rows)
    → AreClasses columns (old ++ record { rows = rows; partners = [] } ∷ [])
class_added columns old rows are wide own =
    let one : Class = record { rows = rows; partners = [] } in
    let W : Class → Type 0 = λ c. (k : ℕ) → k < length c.rows → length (get_or c.rows k []) ≡ columns in
    let L : Class → Type 0 = λ c. HaveOwnLeads (sets_of c.rows) in
    record {
      wide = λ i. elim (pushed_at old one i) [ inl e ↦ subst W (sym e) (are.wide i) | inr e ↦ subst W (sym e.1) wide ];
      leads = λ i. elim (pushed_at old one i) [ inl e ↦ subst L (sym e) (are.leads i) | inr e ↦ subst L (sym e.1) own ];
      partners = λ i j p. (
          let P : Class → Type 0 = λ c. Contains c.partners j in
          elim (pushed_at old one i) [
            | inl e ↦ (let h : j < length old = are.partners i j (subst P e p) in omega (arith, h, length-append old (one ∷ [])))
            | inr e ↦ (let h : Contains [] j = subst P e.1 p in absurd (omega (arith, h.1)))
          ]
          );
    }

pub lanes_added : (old : List Class) (rows : List (List Bool)) (leads : List ℕ) (table new : List (List ℕ)) → AreByLead old table
    → HasInLanes leads (length old) table new → ((k c : ℕ) → k < length rows → IsLast (set_of (get_or rows k [])) c → Contains leads c)
    → AreByLead (old ++ record { rows = rows; partners = [] } ∷ []) new
lanes_added old rows leads table new are has all =
    let one : Class = record { rows = rows; partners = [] } in
    record {
      listed = λ i k c lt last. (
          let P : Class → Type 0 = λ x. (k < length (sets_of x.rows)) × IsLast (get_or (sets_of x.rows) k empty) c in
          elim (pushed_at old one i) [
            | inl e ↦ (let h : (k < length (class_rows old i)) × IsLast (get_or (class_rows old i) k empty) c = subst P e (lt, last) in has.kept c i (are.listed i k c h.0 h.1))
            | inr e ↦
                let h : (k < length (sets_of rows)) × IsLast (get_or (sets_of rows) k empty) c = subst P e.1 (lt, last) in
                let within : k < length rows = omega (arith, h.0, length-map rows set_of) in
                let L : Columns ℕ → Type 0 = λ v. IsLast v c in
                let Q : ℕ → Type 0 = λ n. Contains (get_or new c []) n in
                subst Q e.0 (has.there c (all k c within (subst L (get_or-map set_of rows k [] empty within) h.1)))
          ]
          );
      numbers = λ c i h. elim (has.no_other c i h) [
        | inl x ↦ (let lt : i < length old = are.numbers c i x in omega (arith, lt, length-append old (one ∷ [])))
        | inr e ↦ omega (arith, e, length-append old (one ∷ []))
      ];
    }

pub classes_kept : (old : List Class) (rows : List (List Bool)) → HasClassesOf old (old ++ record { rows = rows; partners = [] } ∷ [])
classes_kept old rows =
    let one : Class = record { rows = rows; partners = [] } in
    record {
      count = omega (arith, length-append old (one ∷ []));
      kept = λ i h. get_or_append_left old (one ∷ []) (record { rows = []; partners = [] }) i h;
      fresh = λ i h. elim (pushed_at old one i) [
        | inl e ↦ ap (λ (c : Class). c.partners) e ∙ ap (λ (c : Class). c.partners) (get_or_past old i (record { rows = []; partners = [] }) h)
        | inr e ↦ ap (λ (c : Class). c.partners) e.1
      ];
    }

pub classes_same : (classes : List Class) → HasClassesOf classes classes
classes_same classes = record {
  count = omega arith;
  kept = λ i h. refl;
  fresh = λ i h. ap (λ (c : Class). c.partners) (get_or_past classes i (record { rows = []; partners = [] }) h);
}

pub added_rows : (old : List Class) (rows : List (List Bool)) → class_rows (old ++ record { rows = rows; partners = [] } ∷ []) (length old) ≡ sets_of rows
added_rows old rows =
    let one : Class = record { rows = rows; partners = [] } in
    ap (λ (c : Class). sets_of c.rows) (get_or-append_right old (one ∷ []) (length old) (length old) (record { rows = []; partners = [] }) refl (omega arith) ∙ ap (λ k. get_or (one ∷ []) k (record { rows = []; partners = [] })) (zero_off (length old) (length old) refl))

-- ---- one more partner

pub partner_added : (old : List Class) (i j : ℕ) (one : Class) → i < length old → one.partners ≡ (class_at old i).partners ++ j ∷ []
    → HasPartnersAnd old i j (set old i one)
partner_added old i j one lt is a b = elim (cases_eq a i) [
  | inl same ↦
      let P : ℕ → Type 0 = λ x. IsPartner (set old i one) x b ↔ (IsPartner old x b ⊎ ((x ≡ i) × (b ≡ j))) in
      let e : (class_at (set old i one) i).partners ≡ (class_at old i).partners ++ j ∷ [] = ap (λ (c : Class). c.partners) (get_or-set_same old i one (record { rows = []; partners = [] }) lt) ∙ is in
      let Q : List ℕ → Type 0 = λ js. Contains js b in
      let at : IsPartner (set old i one) i b ↔ (IsPartner old i b ⊎ ((i ≡ i) × (b ≡ j))) = (
        (λ h. elim (Contains-push_cases (class_at old i).partners j b (subst Q e h)) [ inl x ↦ inl x | inr y ↦ inr (refl, sym y) ]),
        (λ h. subst Q (sym e) (elim h [
          | inl x ↦ Contains-append_left (class_at old i).partners (j ∷ []) b x
          | inr y ↦ (let R : ℕ → Type 0 = λ k. Contains ((class_at old i).partners ++ j ∷ []) k in subst R (sym y.1) (Contains-push (class_at old i).partners j))
        ])),
      ) in
      subst P (sym same) at
  | inr other ↦
      let e : class_at (set old i one) a ≡ class_at old a = get_or-set_other old i a one (record { rows = []; partners = [] }) other in
      let P : Class → Type 0 = λ c. Contains c.partners b in
      ((λ h. inl (subst P e h)), (λ h. elim h [ inl x ↦ subst P (sym e) x | inr y ↦ absurd (other y.0) ]))
]

pub rows_stay : (old : List Class) (i : ℕ) (one : Class) → i < length old → one.rows ≡ (class_at old i).rows
    → (k : ℕ) → (class_at (set old i one) k).rows ≡ (class_at old k).rows
rows_stay old i one lt is k = elim (cases_eq k i) [
  | inl same ↦
      let P : ℕ → Type 0 = λ x. (class_at (set old i one) x).rows ≡ (class_at old x).rows in
      subst P (sym same) (ap (λ (c : Class). c.rows) (get_or-set_same old i one (record { rows = []; partners = [] }) lt) ∙ is)
  | inr other ↦ ap (λ (c : Class). c.rows) (get_or-set_other old i k one (record { rows = []; partners = [] }) other)
]

pub classes_paired : (columns : ℕ) (old new : List Class) (i j : ℕ) → AreClasses columns old → HasPartnersAnd old i j new → j < length old
    → length new ≡ length old → ((k : ℕ) → (class_at new k).rows ≡ (class_at old k).rows) → AreClasses columns new
classes_paired columns old new i j are has lt same rows =
    let W : List (List Bool) → Type 0 = λ r. (k : ℕ) → k < length r → length (get_or r k []) ≡ columns in
    let L : List (List Bool) → Type 0 = λ r. HaveOwnLeads (sets_of r) in
    record {
      wide = λ a. subst W (sym (rows a)) (are.wide a);
      leads = λ a. subst L (sym (rows a)) (are.leads a);
      partners = λ a b p. elim ((has a b).0 p) [
        | inl x ↦ (let h : b < length old = are.partners a b x in omega (arith, h, same))
        | inr y ↦ omega (arith, y.1, same, lt)
      ];
    }

pub lanes_paired : (old new : List Class) (table : List (List ℕ)) → AreByLead old table → length new ≡ length old
    → ((k : ℕ) → (class_at new k).rows ≡ (class_at old k).rows) → AreByLead new table
lanes_paired old new table are same rows = record {
  listed = λ i k c lt last. (
      let P : List (List Bool) → Type 0 = λ r. (k < length (sets_of r)) × IsLast (get_or (sets_of r) k empty) c in
      let h : (k < length (class_rows old i)) × IsLast (get_or (class_rows old i) k empty) c = subst P (rows i) (lt, last) in
      are.listed i k c h.0 h.1
      );
  numbers = λ c i h. (let lt : i < length old = are.numbers c i h in omega (arith, lt, same));
}

-- ---- the steps

between_as : (n m : ℕ) (products : List (Product ℕ)) (old new : List Class) (i j : ℕ) (step : Step) → n ≤ m → class_rows old i ≡ class_rows new i → class_rows old j ≡ class_rows new j
    → StepBetween n products old i j step → StepBetween m products new i j step
between_as n m products old new i j step le e f s =
    let P : List (Columns ℕ) → Type 0 = λ r. SameSpan r (operand products step) in
    let Q : List (Columns ℕ) → Type 0 = λ r. SameSpan r (co_operand products step) in
    record { product = omega (arith, s.product); operand_rows = subst P e s.operand_rows; co_operand_rows = subst Q f s.co_operand_rows }

-- more classes have the same steps
pub steps_kept : (n columns : ℕ) (products : List (Product ℕ)) (old new : List Class) → AreClasses columns old → HasClassesOf old new
    → AreStepsOf n products old → AreStepsOf n products new
steps_kept n columns products old new are has steps =
    let rows : (i : ℕ) → i < length old → class_rows old i ≡ class_rows new i = λ i h. ap (λ (c : Class). sets_of c.rows) (sym (has.kept i h)) in
    record {
      covered = λ step lt. (
          let c = steps.covered step lt in
          let at : c.0 < length old = partner_of old c.0 c.1 c.2 in
          let P : Class → Type 0 = λ x. Contains x.partners c.1 in
          (c.0, c.1, subst P (sym (has.kept c.0 at)) c.2, between_as n n products old new c.0 c.1 step (omega arith) (rows c.0 at) (rows c.1 (are.partners c.0 c.1 c.2)) c.3)
          );
      genuine = λ i j p. elim (cases_lt i (length old)) [
        | inl at ↦
            let P : Class → Type 0 = λ x. Contains x.partners j in
            let q : IsPartner old i j = subst P (has.kept i at) p in
            let s = steps.genuine i j q in
            (s.0, between_as n n products old new i j s.0 (omega arith) (rows i at) (rows j (are.partners i j q)) s.1)
        | inr past ↦
            let Q : List ℕ → Type 0 = λ js. Contains js j in
            let none : Contains [] j = subst Q (has.fresh i past) p in
            absurd (omega (arith, none.1))
      ];
    }

-- a product between the classes i and j
pub steps_more : (n : ℕ) (products : List (Product ℕ)) (old mid new : List Class) (i j : ℕ) → AreStepsOf n products old
    → HasPartnersAnd old i j mid → HasPartnersAnd mid j i new
    → ((k : ℕ) → (class_at mid k).rows ≡ (class_at old k).rows) → ((k : ℕ) → (class_at new k).rows ≡ (class_at mid k).rows)
    → SameSpan (class_rows old i) (product_at products n).left → SameSpan (class_rows old j) (product_at products n).right
    → AreStepsOf (suc n) products new
steps_more n products old mid new i j steps first second mid_rows new_rows left right =
    let rows : (k : ℕ) → class_rows old k ≡ class_rows new k = λ k. ap sets_of (sym (mid_rows k) ∙ sym (new_rows k)) in
    let L : List (Columns ℕ) → Type 0 = λ r. SameSpan r (product_at products n).left in
    let R : List (Columns ℕ) → Type 0 = λ r. SameSpan r (product_at products n).right in
    let on_l : StepBetween (suc n) products new i j (record { product = n; side = on_left }) =
    record { product = omega arith; operand_rows = subst L (rows i) left; co_operand_rows = subst R (rows j) right } in
    let on_r : StepBetween (suc n) products new j i (record { product = n; side = on_right }) =
    record { product = omega arith; operand_rows = subst R (rows j) right; co_operand_rows = subst L (rows i) left } in
    let there : IsPartner new i j = (second i j).1 (inl ((first i j).1 (inr (refl, refl)))) in
    let back : IsPartner new j i = (second j i).1 (inr (refl, refl)) in
    record {
      covered = λ step lt. covers step lt on_l on_r there back;
      genuine = λ a b p. elim ((second a b).0 p) [
        | inl x ↦ elim ((first a b).0 x) [
          | inl y ↦ (let s = steps.genuine a b y in (s.0, between_as n (suc n) products old new a b s.0 (omega arith) (rows a) (rows b) s.1))
          | inr y ↦ (record { product = n; side = on_left }, between_at i j a b (record { product = n; side = on_left }) y.0 y.1 on_l)
        ]
        | inr x ↦ (record { product = n; side = on_right }, between_at j i a b (record { product = n; side = on_right }) x.0 x.1 on_r)
      ];
    }
  where
    between_at : (i j a b : ℕ) (step : Step) → a ≡ i → b ≡ j → StepBetween (suc n) products new i j step → StepBetween (suc n) products new a b step
    between_at i j a b step e f s =
        let P : ℕ → Type 0 = λ x. StepBetween (suc n) products new x j step in
        let Q : ℕ → Type 0 = λ x. StepBetween (suc n) products new a x step in
        subst Q (sym f) (subst P (sym e) s)

    at_side : (k : ℕ) (side : Side) → k ≡ n → StepBetween (suc n) products new i j (record { product = n; side = on_left })
        → StepBetween (suc n) products new j i (record { product = n; side = on_right }) → IsPartner new i j → IsPartner new j i
        → (a : ℕ) × (b : ℕ) × IsPartner new a b × StepBetween (suc n) products new a b (record { product = k; side = side })
    at_side k on_left e on_l on_r there back =
        let P : ℕ → Type 0 = λ x. StepBetween (suc n) products new i j (record { product = x; side = on_left }) in (i, j, there, subst P (sym e) on_l)
    at_side k on_right e on_l on_r there back =
        let P : ℕ → Type 0 = λ x. StepBetween (suc n) products new j i (record { product = x; side = on_right }) in (j, i, back, subst P (sym e) on_r)

    covers : (step : Step) → step.product < suc n → StepBetween (suc n) products new i j (record { product = n; side = on_left })
        → StepBetween (suc n) products new j i (record { product = n; side = on_right }) → IsPartner new i j → IsPartner new j i
        → (a : ℕ) × (b : ℕ) × IsPartner new a b × StepBetween (suc n) products new a b step
    covers step lt on_l on_r there back = elim (cases_lt step.product n) [
      | inl before ↦
          let c = steps.covered step before in
          let same : (k : ℕ) → class_rows old k ≡ class_rows new k = λ k. ap sets_of (sym (mid_rows k) ∙ sym (new_rows k)) in
          (c.0, c.1, (second c.0 c.1).1 (inl ((first c.0 c.1).1 (inl c.2))), between_as n (suc n) products old new c.0 c.1 step (omega arith) (same c.0) (same c.1) c.3)
      | inr last ↦ at_side step.product step.side (omega arith) on_l on_r there back
    ]

pub steps_none : (products : List (Product ℕ)) → AreStepsOf 0 products []
steps_none products = record {
  covered = λ step h. absurd (omega arith);
  genuine = λ i j p. absurd (let h : i < 0 = partner_of [] i j p in omega arith);
}

-- ---- the answers of calls

pub lead_is : (rows : List (List Bool)) (k : ℕ) (row : List Bool) (found : Option ℕ) → slice_get rows k ≡ Some row
    → MatchOption found (set_of row ≡ empty) (λ c. (c < length row) × IsLast (set_of row) c)
    → (c : ℕ) → k < length rows → IsLast (set_of (get_or rows k [])) c → found ≡ Some c
lead_is rows k row found at answer c lt last =
    let e : get_or rows k [] ≡ row = get_or_from_slice_get rows k row [] at in
    let P : List Bool → Type 0 = λ r. IsLast (set_of r) c in
    of_row found answer (subst P e last)
  where
    of_row : (found : Option ℕ) → MatchOption found (set_of row ≡ empty) (λ c. (c < length row) × IsLast (set_of row) c) → IsLast (set_of row) c → found ≡ Some c
    of_row None answer last = absurd (last_some (set_of row) c last answer)
    of_row (Some d) answer last = ap (λ x. Some x) (last_same (set_of row) d c answer.1 last)

pub none_past : {X : Type 0} (xs : List X) (k : ℕ) (d : X) → None ≡ slice_get xs k → k < length xs → ⊥
none_past xs k d e lt = let f : slice_get xs k ≡ Some (get_or xs k d) = slice_get-get_or xs k d lt in cc (e, f)

-- one more greatest column
pub leads_more : (rows : List (List Bool)) (leads more : List ℕ) (k : ℕ)
    → ((j c : ℕ) → j < k → IsLast (set_of (get_or rows j [])) c → Contains leads c)
    → ((c : ℕ) → Contains leads c → Contains more c)
    → ((c : ℕ) → IsLast (set_of (get_or rows k [])) c → Contains more c)
    → (j c : ℕ) → j < k + 1 → IsLast (set_of (get_or rows j [])) c → Contains more c
leads_more rows leads more k before kept here j c lt last = elim (cases_lt j k) [
  | inl old ↦ kept c (before j c old last)
  | inr now ↦ (let e : k ≡ j = omega arith in let P : ℕ → Type 0 = λ i. IsLast (set_of (get_or rows i [])) c in here c (subst P (sym e) last))
]

pub all_push : (bound : ℕ) (xs : List ℕ) (x : ℕ) → All (λ c. c < bound) xs → x < bound → All (λ c. c < bound) (xs ++ x ∷ [])
all_push bound xs x all lt k d h = elim (cases_lt k (length xs)) [
  | inl old ↦ (let P : ℕ → Type 0 = λ y. y < bound in subst P (sym (get_or_append_left xs (x ∷ []) d k old)) (all k d old))
  | inr here ↦
      let at : k ≡ length xs = omega (arith, h, length-append xs (x ∷ [])) in
      let e : get_or (xs ++ x ∷ []) k d ≡ x = get_or-append_right xs (x ∷ []) (length xs) k d refl here ∙ ap (λ i. get_or (x ∷ []) i d) (zero_off (length xs) k (sym at)) in
      let P : ℕ → Type 0 = λ y. y < bound in subst P (sym e) lt
]

pub contains_more : (xs : List ℕ) (x c : ℕ) → Contains xs c → Contains (xs ++ x ∷ []) c
contains_more xs x c h = Contains-append_left xs (x ∷ []) c h

pub contains_new : (xs : List ℕ) (x c : ℕ) → x ≡ c → Contains (xs ++ x ∷ []) c
contains_new xs x c e = let P : ℕ → Type 0 = λ y. Contains (xs ++ x ∷ []) y in subst P e (Contains-push xs x)

pub taken_cases : (xs : List ℕ) (i : ℕ) (c : ℕ) → i < length xs → Contains (take (i + 1) xs) c → Contains (take i xs) c ⊎ (get_or xs i 0 ≡ c)
taken_cases xs i c lt h =
    let P : List ℕ → Type 0 = λ ys. Contains ys c in
    Contains-push_cases (take i xs) (get_or xs i 0) c (subst P (take_more xs i 0 lt) h)

pub taken_whole : (xs : List ℕ) (i : ℕ) (c : ℕ) → length xs ≤ i → Contains xs c → Contains (take i xs) c
taken_whole xs i c past h = let P : List ℕ → Type 0 = λ ys. Contains ys c in subst P (sym (take_all i xs past)) h

-- ---- lists of classes near a span

pub flag_kept : (flags : List Bool) (i k : ℕ) → get_or flags k false ≡ true → get_or (set flags i true) k false ≡ true
flag_kept flags i k on = elim (cases_eq k i) [
  | inl same ↦ elim (cases_lt i (length flags)) [
    | inl lt ↦ (let P : ℕ → Type 0 = λ x. get_or (set flags i true) x false ≡ true in subst P (sym same) (get_or-set_same flags i true false lt))
    | inr past ↦ absurd (let e : get_or flags k false ≡ false = get_or_past flags k false (omega arith) in cc (e, on))
  ]
  | inr other ↦ get_or-set_other flags i k true false other ∙ on
]

-- one flag less that is off
pub one_off : (flags : List Bool) (i : ℕ) → i < length flags → get_or flags i false ≡ false → count_by not (set flags i true) + 1 ≡ count_by not flags
one_off flags i lt off =
    let f : Bool → ℕ = λ b. cond (not b) 1 0 in
    let moved : sum_by f (set flags i true) + f (get_or flags i false) ≡ sum_by f flags + f true = sum_by-set f flags i true false lt in
    let one : f (get_or flags i false) ≡ 1 = ap f off in
    let less : sum_by f (set flags i true) + 1 ≡ sum_by f flags = omega arith in less

pub all_off : (n : ℕ) → count_by not (replicate n false) ≡ n
all_off n =
    let e : sum_by (λ (b : Bool). cond (not b) 1 0) (replicate n false) ≡ n * 1 = sum_by-replicate (λ (b : Bool). cond (not b) 1 0) n false in
    let f : sum_by (λ (b : Bool). cond (not b) 1 0) (replicate n false) ≡ n = omega (arith, e) in f

-- nothing is listed yet
pub listed_none : (n : ℕ) → AreListed n (replicate n false) []
listed_none n = record {
  flag_count = length-replicate n false;
  once = omega (arith, all_off n);
  numbers = λ k d h. absurd (omega arith);
  listed = λ i on. absurd (cc (off n i, on));
}
  where
    off : (n i : ℕ) → get_or (replicate n false) i false ≡ false
    off n i = elim (cases_lt i n) [
      | inl lt ↦ get_or-replicate n i false false lt
      | inr past ↦ get_or_past (replicate n false) i false (omega (arith, length-replicate n false))
    ]

pub listed_more : (count : ℕ) (flags : List Bool) (near : List ℕ) (i : ℕ) → AreListed count flags near → i < count → get_or flags i false ≡ false
    → AreListed count (set flags i true) (near ++ i ∷ [])
listed_more count flags near i are lt off = record {
  flag_count = length-set flags i true ∙ are.flag_count;
  once = (let e : count_by not (set flags i true) + 1 ≡ count_by not flags = one_off flags i (omega (arith, are.flag_count)) off in omega (arith, e, are.once, length-append near (i ∷ [])));
  numbers = all_push count near i are.numbers lt;
  listed = λ k on. elim (cases_eq k i) [
    | inl same ↦ contains_new near i k (sym same)
    | inr other ↦ contains_more near i k (are.listed k (sym (get_or-set_other flags i k true false other) ∙ on))
  ];
}

pub lane_more : (lane : List ℕ) (flags more : List Bool) (n : ℕ) → n < length lane
    → ((i : ℕ) → Contains (take n lane) i → get_or flags i false ≡ true) → ((i : ℕ) → get_or flags i false ≡ true → get_or more i false ≡ true)
    → get_or more (get_or lane n 0) false ≡ true → (i : ℕ) → Contains (take (n + 1) lane) i → get_or more i false ≡ true
lane_more lane flags more n lt before kept here i h = elim (taken_cases lane n i lt h) [
  | inl old ↦ kept i (before i old)
  | inr e ↦ (let P : ℕ → Type 0 = λ x. get_or more x false ≡ true in subst P e here)
]

pub lanes_done : (table : List (List ℕ)) (leads : List ℕ) (flags more : List Bool) (low n : ℕ) → n < length leads
    → ((c i : ℕ) → Contains (take n leads) c → low ≤ c → Contains (get_or table c []) i → get_or flags i false ≡ true)
    → ((i : ℕ) → get_or flags i false ≡ true → get_or more i false ≡ true)
    → (low ≤ get_or leads n 0 → (i : ℕ) → Contains (get_or table (get_or leads n 0) []) i → get_or more i false ≡ true)
    → (c i : ℕ) → Contains (take (n + 1) leads) c → low ≤ c → Contains (get_or table c []) i → get_or more i false ≡ true
lanes_done table leads flags more low n lt before kept here c i h high lane = elim (taken_cases leads n c lt h) [
  | inl old ↦ kept i (before c i old high lane)
  | inr e ↦ (let P : ℕ → Type 0 = λ x. low ≤ x → (k : ℕ) → Contains (get_or table x []) k → get_or more k false ≡ true in subst P e here high i lane)
]

-- one more row whose greatest column is taken into the least one
pub lower_more : (rows : List (List Bool)) (n low lower : ℕ) (lead : Option ℕ) → n < length rows
    → ((j c : ℕ) → j < n → IsLast (set_of (get_or rows j [])) c → low ≤ c)
    → ((c : ℕ) → n < length rows → IsLast (set_of (get_or rows n [])) c → lead ≡ Some c)
    → lower ≤ low → IfSome lead (λ c. lower ≤ c)
    → (j c : ℕ) → j < n + 1 → IsLast (set_of (get_or rows j [])) c → lower ≤ c
lower_more rows n low lower lead within before value less at j c h last = elim (cases_lt j n) [
  | inl old ↦ omega (arith, before j c old last)
  | inr here ↦
      let e : j ≡ n = omega arith in
      let P : ℕ → Type 0 = λ k. IsLast (set_of (get_or rows k [])) c in
      let Q : Option ℕ → Type 0 = λ o. IfSome o (λ x. lower ≤ x) in
      subst Q (value c within (subst P e last)) at
]

-- ---- products of a view

-- the sides of a product that are given as sets are its operands
pub product_is : (product : Product ℕ) (left right : List (Columns ℕ)) → left ≡ product.left → right ≡ product.right → product ≡ record { left = left; right = right }
product_is product left right of_left of_right =
    ap (λ (r : List (Columns ℕ)). record { left = r; right = product.right }) (sym of_left) ∙ ap (λ (r : List (Columns ℕ)). record { left = left; right = r }) (sym of_right)

pub rows_wide : (columns : ℕ) (rows : List (List Bool)) → HasRows columns rows → (k : ℕ) → k < length rows → length (get_or rows k []) ≡ columns
rows_wide columns rows has k lt = has.same_columns k [] lt

-- one more product
pub product_added : (n columns : ℕ) (products : List (Product ℕ)) (old one two three four : List Class) (i j : ℕ) (left right : List (Columns ℕ))
    → AreClasses columns old → HasClassesOf old one → AreClasses columns one → HasClassesOf one two → i < length one
    → SameSpan (class_rows one i) left → SameSpan (class_rows two j) right
    → HasPartnersAnd two i j three → HasPartnersAnd three j i four
    → ((k : ℕ) → (class_at three k).rows ≡ (class_at two k).rows) → ((k : ℕ) → (class_at four k).rows ≡ (class_at three k).rows)
    → product_at products n ≡ record { left = left; right = right } → AreStepsOf n products old → AreStepsOf (suc n) products four
product_added n columns products old one two three four i j left right are first one_are second at left_same right_same third fourth third_rows fourth_rows is steps =
    let L : List (Columns ℕ) → Type 0 = λ r. SameSpan (class_rows two i) r in
    let R : List (Columns ℕ) → Type 0 = λ r. SameSpan (class_rows two j) r in
    let K : Class → Type 0 = λ c. SameSpan (sets_of c.rows) left in
    let kept : SameSpan (class_rows two i) left = subst K (sym (second.kept i at)) left_same in
    let two_steps : AreStepsOf n products two = steps_kept n columns products one two one_are second (steps_kept n columns products old one are first steps) in
    steps_more n products two three four i j two_steps third fourth third_rows fourth_rows
    (subst L (sym (ap (λ (p : Product ℕ). p.left) is)) kept) (subst R (sym (ap (λ (p : Product ℕ). p.right) is)) right_same)

-- a class of these rows and partners
abbrev pub class_of : List (List Bool) → List ℕ → Class
class_of rows partners = record { rows = rows; partners = partners }

pub on_true : (b : Bool) (P : Type 0) → b ≡ true → OnTrue b P → P
on_true true P e p = p
on_true false P e p = cc e

pub same_follow : {C : Type 0} → (a b c : List (Columns C)) → SameSpan a b → SameSpan b c → SameSpan a c
same_follow a b c h k v = ((λ m. (k v).0 ((h v).0 m)), (λ m. (h v).1 ((k v).1 m)))

-- the new class is the last one
pub placed : (old new : List Class) (rows : List (List Bool)) (n : ℕ) (others : List (Columns ℕ)) → new ≡ old ++ class_of rows [] ∷ [] → n ≡ length old
    → SameSpan (sets_of rows) others → (n < length new) × SameSpan (class_rows new n) others
placed old new rows n others is at same =
    let P : List Class → Type 0 = λ l. (length old < length l) × SameSpan (class_rows l (length old)) others in
    let Q : ℕ → Type 0 = λ k. (k < length new) × SameSpan (class_rows new k) others in
    let R : List (Columns ℕ) → Type 0 = λ r. SameSpan r others in
    subst Q (sym at) (subst P (sym is) (omega (arith, length-append old (class_of rows [] ∷ [])), subst R (sym (added_rows old rows)) same))
