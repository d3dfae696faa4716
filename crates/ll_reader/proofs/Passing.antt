-- A table passes the test with some facts: then these facts meet it.
use Rattle.std.proofs.Common.{◌≡◌, ℕ, ◌+◌, ◌^◌, ◌<◌, ◌≤◌, zero, suc, max, min, Bool, true, false, not, ◌||◌, eqb, List, [], ◌∷◌, length, get_or, Some, sym, refl, ap, ◌∙◌, subst, inl, inr, ◌⊎◌, arith, slice_get}
use Rattle.std.specs.Int.{bit_at}
use Rattle.std.specs.Prelude.{bit_and, bit_or}
use Rattle.std.specs.List.{list_all, list_any}
use Rattle.std.proofs.lemmas.Bool.{and_parts, or_cases, eqb-true, ltb-true, leb-true, not-true, both_ways, cases_order, eq-eqb}
use Rattle.std.proofs.lemmas.Nat.Bits.{bit_at_and, bit_at_or, bit_at-zero, bit_at-pow_same, bit_at-lt}
use Rattle.std.proofs.lemmas.Option.{same_Some, none-some}
use Rattle.ll_reader.specs.declared.grammar.Frame.{Frame}
use Rattle.ll_reader.specs.declared.grammar.Item.{Item}
use Rattle.ll_reader.specs.declared.grammar.Item.TheVariants.{Token, Rule}
use Rattle.ll_reader.specs.declared.grammar.Production.{Production}
use Rattle.ll_reader.specs.Derivation.{items}
use Rattle.ll_reader.specs.Predictive.{In, IsWithin, Facts, no_facts, facts_of, lead_of, can_all_be_empty, weight_of, height_of, AreLinked, Fits, HasEnding, Meet, IsPredictive}
use Rattle.ll_reader.proofs.Search.{is_within, is_linked, fits, is_apart, are_apart, ends, all_end, passes, may_pass, passes_within, learn_all, follow_all, first_facts, finds}

one_of_max : (x y : ℕ) → max x y ≡ y → y < 2 → x ≡ 1 → y ≡ 1
one_of_max x y h low one = omega arith

within_in : (p q : ℕ) → is_within p q ≡ true → IsWithin p q
within_in p q h c one =
    one_of_max (bit_at p c) (bit_at q c) (sym (bit_at_or p q c) ∙ ap (λ n. bit_at n c) (eqb-true (bit_or p q) q h)) (bit_at-lt q c) one

not_both_ones : (x y : ℕ) → min x y ≡ 0 → x ≡ 1 → y ≡ 1 → ⊥
not_both_ones x y h one other = absurd (omega arith)

apart_not : (p q c : ℕ) → bit_and p q ≡ 0 → In c p → In c q → ⊥
apart_not p q c h one other =
    not_both_ones (bit_at p c) (bit_at q c) (sym (bit_at_and p q c) ∙ ap (λ n. bit_at n c) h ∙ bit_at-zero c) one other

-- a class is in the set of itself
pub pow_in : (c : ℕ) → In c (2 ^ c)
pow_in c = bit_at-pow_same c

or_not : (x y : Bool) → (x || not y) ≡ true → (x ≡ true) ⊎ (y ≡ false)
or_not true y h = inl refl
or_not false true h = cc
or_not false false h = inr refl

are_linked : (facts : List Facts) (end behind : ℕ) (xs : List Item) → is_linked facts end behind xs ≡ true → AreLinked facts end behind xs
are_linked facts end behind [] h = tt
are_linked facts end behind (Token c ∷ xs) h =
    let a = and_parts _ _ h in
    ((λ same. both_ways (eqb c end) (not-true (eqb c end) a.0) (eq-eqb c end same)), are_linked facts end behind xs a.1)
are_linked facts end behind (Rule r ∷ xs) h =
    let a = and_parts _ _ h in
    let b = and_parts _ _ a.0 in
    (ltb-true r (length facts) b.0, within_in (lead_of facts behind xs) (facts_of facts r).follow b.1, are_linked facts end behind xs a.1)

fits_Fits : (facts : List Facts) (end : ℕ) (p : Production) → fits facts end p ≡ true → Fits facts end p
fits_Fits facts end p h =
    let a = and_parts _ _ h in
    let b = and_parts _ _ a.0 in
    let c = and_parts _ _ b.0 in
    let d = and_parts _ _ c.0 in
    let e = and_parts _ _ d.0 in
    let f = and_parts _ _ e.0 in
    record {
      known = ltb-true p.rule (length facts) f.0;
      room = leb-true p.length 12 f.1;
      lead = within_in (lead_of facts (facts_of facts p.rule).follow (items p)) p.first e.1;
      own = within_in p.first (facts_of facts p.rule).lead d.1;
      linked = are_linked facts end (facts_of facts p.rule).follow (items p) c.1;
      lighter = ltb-true (weight_of facts (items p)) (facts_of facts p.rule).weight b.1;
      empty = or_not (facts_of facts p.rule).can_be_empty (can_all_be_empty facts (items p)) a.1;
    }

all_get : {X : Type 0} (test : X → Bool) (xs : List X) (k : ℕ) (x : X) → list_all test xs ≡ true → slice_get xs k ≡ Some x → test x ≡ true
all_get test [] k x all at = absurd (none-some x at)
all_get test (y ∷ ys) zero x all at = ap test (sym (same_Some y x at)) ∙ (and_parts (test y) (list_all test ys) all).0
all_get test (y ∷ ys) (suc k) x all at = all_get test ys k x (and_parts (test y) (list_all test ys) all).1 at

any_get : {X : Type 0} (test : X → Bool) (xs : List X) → list_any test xs ≡ true → (k : ℕ) × (x : X) × (slice_get xs k ≡ Some x) × (test x ≡ true)
any_get test [] h = absurd (cc)
any_get test (y ∷ ys) h = elim (or_cases (test y) (list_any test ys) h) [
  | inl here ↦ (0, y, refl, here)
  | inr later ↦ let r = any_get test ys later in (suc r.0, r.1, r.2, r.3)
]

apart_at : (ps : List Production) (j k : ℕ) (p q : Production) → are_apart ps ≡ true → slice_get ps j ≡ Some p → slice_get ps k ≡ Some q → j < k → is_apart p q ≡ true
apart_at [] j k p q h at other below = absurd (none-some p at)
apart_at (x ∷ ps) j zero p q h at other below = absurd (omega arith)
apart_at (x ∷ ps) zero (suc k) p q h at other below =
    subst (λ y. is_apart y q ≡ true) (same_Some x p at) (all_get (is_apart x) ps k q (and_parts (list_all (is_apart x) ps) (are_apart ps) h).0 other)
apart_at (x ∷ ps) (suc j) (suc k) p q h at other below =
    let less : j < k = omega arith in
    apart_at ps j k p q (and_parts (list_all (is_apart x) ps) (are_apart ps) h).1 at other less

apart_choice : (p q : Production) (c : ℕ) → is_apart p q ≡ true → p.rule ≡ q.rule → In c p.first → In c q.first → ⊥
apart_choice p q c h same one other =
    elim (or_cases (not (eqb p.rule q.rule)) (eqb (bit_and p.first q.first) 0) h) [
      | inl differ ↦ both_ways (eqb p.rule q.rule) (not-true (eqb p.rule q.rule) differ) (eq-eqb p.rule q.rule same)
      | inr none ↦ apart_not p.first q.first c (eqb-true (bit_and p.first q.first) 0 none) one other
    ]

and_then : (b c : Bool) → (elim b [ true ↦ c | false ↦ false ]) ≡ true → (b ≡ true) × (c ≡ true)
and_then true c h = (refl, h)
and_then false c h = absurd (cc)

plus_none : (n : ℕ) → n + 0 ≡ n
plus_none n = omega arith

has_ending : (table : List Production) (facts : List Facts) (fs : List Facts) (from i : ℕ) → all_end table facts from fs ≡ true → i < length fs → get_or fs i no_facts ≡ facts_of facts (from + i) → HasEnding table facts (from + i)
has_ending table facts [] from i h inside same = absurd (omega arith)
has_ending table facts (f ∷ fs) from zero h inside same =
    let a = and_parts _ _ h in
    let e = any_get (ends facts from f.height) table a.0 in
    let is = and_then (eqb e.1.rule from) _ e.3 in
    record {
      number = e.0;
      production = e.1;
      at = e.2;
      of = eqb-true e.1.rule from is.0 ∙ sym (plus_none from);
      low = subst (λ (g : Facts). height_of facts (items e.1) ≤ g.height) same (leb-true (height_of facts (items e.1)) f.height is.1);
    }
has_ending table facts (f ∷ fs) from (suc i) h inside same =
    let e : (from + 1) + i ≡ from + suc i = omega arith in
    let less : i < length fs = omega arith in
    subst (HasEnding table facts) e (has_ending table facts fs (from + 1) i (and_parts _ _ h).1 less (same ∙ ap (facts_of facts) (sym e)))

passed : (facts : List Facts) (start end : ℕ) (table : List Production) → are_apart table ≡ true → passes facts start end table ≡ true → Meet facts start end table
passed facts start end table apart h =
    let a = and_parts _ _ h in
    let b = and_parts _ _ a.0 in
    let c = and_parts _ _ b.0 in
    let d = and_parts _ _ c.0 in
    record {
      few = ltb-true (length table) 65536 d.0;
      start_known = ltb-true start (length facts) d.1;
      end_follows = within_in (2 ^ end) (facts_of facts start).follow c.1 end (pow_in end);
      each = λ k p at. fits_Fits facts end p (all_get (fits facts end) table k p b.1 at);
      choice = λ j k p q c at other same one both. elim (cases_order j k) [
        | inl equal ↦ equal
        | inr (inl below) ↦ absurd (apart_choice p q c (apart_at table j k p q apart at other below) same one both)
        | inr (inr above) ↦ absurd (apart_choice q p c (apart_at table k j q p apart other at above) (sym same) both one)
      ];
      ending = λ i inside. let e : 0 + i ≡ i = omega arith in subst (HasEnding table facts) e (has_ending table facts facts 0 i a.1 inside (ap (facts_of facts) (sym e)));
    }

-- the facts with which a table passes
settled : ℕ → List Facts → ℕ → ℕ → List Production → List Facts
settled zero facts start end table = facts
settled (suc n) facts start end table =
    elim (passes facts start end table) [ true ↦ facts | false ↦ settled n (follow_all (learn_all facts table) table) start end table ]

of_more : (b rest : Bool) → (elim b [ true ↦ rest | false ↦ false ]) ≡ true → rest ≡ true
of_more true rest h = h
of_more false rest h = cc

settles : (n : ℕ) (facts : List Facts) (start end : ℕ) (table : List Production) → passes_within n facts start end table ≡ true → passes (settled n facts start end table) start end table ≡ true
unfolding settled
settles zero facts start end table h = cc
settles (suc n) facts start end table h =
    let next = follow_all (learn_all facts table) table in
    let more : Bool = elim (may_pass facts table) [ true ↦ passes_within n next start end table | false ↦ false ] in
    let Goal : Bool → Type 0 = λ b. passes facts start end table ≡ b → (elim b [ true ↦ true | false ↦ more ]) ≡ true → passes (elim b [ true ↦ facts | false ↦ settled n next start end table ]) start end table ≡ true in
    (elim (passes facts start end table) as Goal [
      | true ↦ λ is _. is
      | false ↦ λ _ rest. settles n next start end table (of_more (may_pass facts table) (passes_within n next start end table) rest)
    ]) refl h

-- the facts that the search finds for a table
pub found : List Production → Frame → List Facts
found table frame = settled (length table) (first_facts frame.start frame.end table) frame.start frame.end table

-- they meet it where it passes the test
pub found_meet : (table : List Production) (frame : Frame) → finds table frame ≡ true → Meet (found table frame) frame.start frame.end table
unfolding found finds
found_meet table frame h =
    let facts = first_facts frame.start frame.end table in
    let Goal : Bool → Type 0 = λ b. are_apart table ≡ b
    → (elim b [ true ↦ passes_within (length table) facts frame.start frame.end table | false ↦ false ]) ≡ true
    → Meet (found table frame) frame.start frame.end table in
    (elim (are_apart table) as Goal [
      | true ↦ λ apart passes. passed (found table frame) frame.start frame.end table apart (settles (length table) facts frame.start frame.end table passes)
      | false ↦ λ _ never. cc
    ]) refl h

-- such a table is predictive
pub is_predictive : (table : List Production) (frame : Frame) → finds table frame ≡ true → IsPredictive table frame
is_predictive table frame h = (found table frame, found_meet table frame h)
