-- A growing span that takes the partners of a class.
use Rattle.std.proofs.Common.{◌≡◌, inl, inr, ℕ, ◌+◌, ◌<◌, ◌≤◌, suc, zero, Bool, true, false, not, List, [], ◌∷◌, ◌++◌, length, get_or, set, take, sym, ap, ◌∙◌, subst, arith, MatchBool}
use native.Mathlib.Nat.{le_of_suc-le-suc}
use Rattle.std.specs.List.{Contains}
use Rattle.std.proofs.lemmas.List.{append_assoc, append-nil, get_or_default, get_or-set_other, length-set, take_all, take_more}
use Rattle.std.proofs.lemmas.Bool.{cases_eq}
use Rattle.std.proofs.lemmas.List.Elements.{Contains-get_or}
use Rattle.span_model.specs.Columns.{Columns, sets_of}
use Rattle.span_model.specs.Span.{Spans, SameSpan}
use Rattle.span_model.proofs.Members.{in_behind, in_front, spans_both, spans_follow}
use Rattle.gf2_span.specs.Basis.{Basis, row_sets}
use Rattle.gf2_span.specs.Rows.{HaveOwnLeads}
use Rattle.tightprove.specs.Classes.{class_at, class_rows, IsPartner, AreClasses, LeadsApart}
use Rattle.tightprove.specs.Growth.{rows_of_all, IsGrowth, IsGrown}
use Rattle.tightprove.specs.declared.class.Class.{Class}
use Rattle.tightprove.specs.declared.growth.Growth.{Growth}
use Rattle.tightprove.proofs.Closures.{spans_self, spans_beside, grown_all, grown_less}

-- ---- a class that is read

pub class_is : (classes : List Class) (i : ℕ) (one : Class) → i < length classes → one ≡ get_or classes i one → class_at classes i ≡ one
class_is classes i one lt is = get_or_default classes i (record { rows = []; partners = [] }) one lt ∙ sym is

pub wide_at : (columns : ℕ) (classes : List Class) (i : ℕ) (one : Class) (rows : List (List Bool)) → AreClasses columns classes → i < length classes
    → one ≡ get_or classes i one → rows ≡ one.rows → (k : ℕ) → k < length rows → length (get_or rows k []) ≡ columns
wide_at columns classes i one rows are lt is e =
    let P : List (List Bool) → Type 0 = λ r. (k : ℕ) → k < length r → length (get_or r k []) ≡ columns in
    subst P (ap (λ (c : Class). c.rows) (class_is classes i one lt is) ∙ sym e) (are.wide i)

pub rows_at : (classes : List Class) (i : ℕ) (one : Class) (rows : List (List Bool)) → i < length classes → one ≡ get_or classes i one → rows ≡ one.rows
    → sets_of rows ≡ class_rows classes i
rows_at classes i one rows lt is e = ap sets_of (e ∙ ap (λ (c : Class). c.rows) (sym (class_is classes i one lt is)))

pub own_at : (columns : ℕ) (classes : List Class) (i : ℕ) (one : Class) (rows : List (List Bool)) → AreClasses columns classes → i < length classes
    → one ≡ get_or classes i one → rows ≡ one.rows → HaveOwnLeads (sets_of rows)
own_at columns classes i one rows are lt is e =
    let P : List (Columns ℕ) → Type 0 = λ r. HaveOwnLeads r in
    subst P (sym (rows_at classes i one rows lt is e)) (are.leads i)

pub partners_at : (classes : List Class) (i : ℕ) (one : Class) (js : List ℕ) → i < length classes → one ≡ get_or classes i one → js ≡ one.partners
    → js ≡ (class_at classes i).partners
partners_at classes i one js lt is e = e ∙ ap (λ (c : Class). c.partners) (sym (class_is classes i one lt is))

pub partner_lt : (columns : ℕ) (classes : List Class) (i n : ℕ) (js : List ℕ) → AreClasses columns classes → js ≡ (class_at classes i).partners → n < length js
    → get_or js n 0 < length classes
partner_lt columns classes i n js are e lt =
    let P : List ℕ → Type 0 = λ xs. Contains xs (get_or js n 0) in
    are.partners i (get_or js n 0) (subst P e (Contains-get_or js n 0 lt))

-- ---- the rows of partners

all_push : (classes : List Class) (js : List ℕ) (j : ℕ) → rows_of_all classes (js ++ j ∷ []) ≡ rows_of_all classes js ++ class_rows classes j
all_push classes [] j = append-nil (class_rows classes j)
all_push classes (i ∷ js) j = ap (λ (r : List (Columns ℕ)). class_rows classes i ++ r) (all_push classes js j) ∙ sym (append_assoc (class_rows classes i) (rows_of_all classes js) (class_rows classes j))

all_hold : (classes : List Class) (js : List ℕ) (j : ℕ) → Contains js j → Spans (rows_of_all classes js) (class_rows classes j)
all_hold classes [] j found = absurd (omega (arith, found.1))
all_hold classes (i ∷ js) j (zero, lt, e) =
    let P : ℕ → Type 0 = λ k. Spans (class_rows classes i ++ rows_of_all classes js) (class_rows classes k) in
    subst P e (in_behind (class_rows classes i) (rows_of_all classes js))
all_hold classes (i ∷ js) j (suc k, lt, e) =
    spans_follow (class_rows classes i ++ rows_of_all classes js) (rows_of_all classes js) (class_rows classes j)
    (in_front (class_rows classes i) (rows_of_all classes js)) (all_hold classes js j (k, le_of_suc-le-suc lt, e))

pub all_more : (classes : List Class) (base old new : List (Columns ℕ)) (js : List ℕ) (n : ℕ) (rows : List (Columns ℕ)) → n < length js
    → SameSpan old (base ++ rows_of_all classes (take n js)) → rows ≡ class_rows classes (get_or js n 0) → SameSpan new (old ++ rows)
    → SameSpan new (base ++ rows_of_all classes (take (n + 1) js))
all_more classes base old new js n rows lt before is grown =
    let j : ℕ = get_or js n 0 in
    let r : List (Columns ℕ) = class_rows classes j in
    let some : List (Columns ℕ) = rows_of_all classes (take n js) in
    let next : base ++ rows_of_all classes (take (n + 1) js) ≡ (base ++ some) ++ r =
    ap (λ (xs : List ℕ). base ++ rows_of_all classes xs) (take_more js n 0 lt) ∙ ap (λ (x : List (Columns ℕ)). base ++ x) (all_push classes (take n js) j) ∙ sym (append_assoc base some r) in
    let P : List (Columns ℕ) → Type 0 = λ x. SameSpan new (old ++ x) in
    let g : SameSpan new (old ++ r) = subst P is grown in
    let Q : List (Columns ℕ) → Type 0 = λ x. SameSpan new x in
    subst Q (sym next) (λ v. (
      (λ m. spans_beside old (base ++ some) r r (λ u k. (before u).0 k) (spans_self r) v ((g v).0 m)),
      (λ m. (g v).1 (spans_beside (base ++ some) old r r (λ u k. (before u).1 k) (spans_self r) v m)),
    ))

pub all_none : (classes : List Class) (base : List (Columns ℕ)) → SameSpan base (base ++ rows_of_all classes [])
all_none classes base = let P : List (Columns ℕ) → Type 0 = λ x. SameSpan base x in subst P (sym (append-nil base)) (λ v. ((λ m. m), (λ m. m)))

pub all_end : (classes : List Class) (base sum : List (Columns ℕ)) (js partners : List ℕ) (n : ℕ) → length js ≤ n → js ≡ partners
    → SameSpan sum (base ++ rows_of_all classes (take n js)) → SameSpan sum (base ++ rows_of_all classes partners)
all_end classes base sum js partners n past e same =
    let P : List ℕ → Type 0 = λ xs. SameSpan sum (base ++ rows_of_all classes xs) in
    subst P (take_all n js past ∙ e) same

-- a flag that was off is flipped
pub flag_set : (flags same flipped : List Bool) (i : ℕ) → same ≡ flags → get_or flags i false ≡ false → flipped ≡ set same i (not (get_or same i false))
    → flipped ≡ set flags i true
flag_set flags same flipped i e off is = is ∙ ap (λ (x : List Bool). set x i (not (get_or x i false))) e ∙ ap (λ (b : Bool). set flags i (not b)) off

pub growth_taken : (classes : List Class) (candidates : Basis) (before after : Growth) (i : ℕ) → IsGrowth classes candidates before
    → after.span.columns ≡ before.span.columns → after.rest.columns ≡ before.rest.columns → after.taken ≡ set before.taken i true
    → SameSpan (row_sets after.span) (row_sets before.span ++ rows_of_all classes (class_at classes i).partners)
    → LeadsApart (row_sets after.rest) (row_sets after.span) → Spans (row_sets after.rest ++ row_sets after.span) (row_sets before.rest)
    → IsGrowth classes candidates after
growth_taken classes candidates before after i is columns rest_columns taken span apart members =
    let all : List (Columns ℕ) = rows_of_all classes (class_at classes i).partners in
    record {
      columns = columns ∙ is.columns;
      rest_columns = rest_columns ∙ is.rest_columns;
      flags = ap length taken ∙ length-set before.taken i true ∙ is.flags;
      candidates_in = λ v m. spans_both (row_sets after.rest ++ row_sets after.span) (row_sets before.rest) (row_sets before.span) members
          (λ u k. in_front (row_sets after.rest) (row_sets after.span) u ((span u).1 (in_behind (row_sets before.span) all u k))) v (is.candidates_in v m);
      apart = apart;
      taken = λ a j on partner. elim (cases_eq a i) [
        | inl same ↦
            let P : ℕ → Type 0 = λ k. IsPartner classes k j in
            λ v m. (span v).1 (in_front (row_sets before.span) all v (all_hold classes (class_at classes i).partners j (subst P same partner) v m))
        | inr other ↦
            let was : get_or before.taken a false ≡ true = sym (get_or-set_other before.taken i a true false other) ∙ sym (ap (λ (x : List Bool). get_or x a false) taken) ∙ on in
            λ v m. (span v).1 (in_behind (row_sets before.span) all v (is.taken a j was partner v m))
      ];
    }

pub when_true : (b : Bool) (P Q : Type 0) → b ≡ true → MatchBool b P Q → P
when_true true P Q e p = p
when_true false P Q e q = cc e

pub when_false : (b : Bool) (P Q : Type 0) → b ≡ false → MatchBool b P Q → Q
when_false true P Q e p = cc e
when_false false P Q e q = q

-- a class that holds all candidates is taken: the span is still grown for them
pub grown_taken : (classes : List Class) (candidates before after : List (Columns ℕ)) (i : ℕ) (rows : List (Columns ℕ)) → rows ≡ class_rows classes i
    → Spans (rows ++ before) candidates → IsGrown classes candidates before
    → SameSpan after (before ++ rows_of_all classes (class_at classes i).partners) → IsGrown classes candidates after
grown_taken classes candidates before after i rows is holds grown same =
    let all : List (Columns ℕ) = rows_of_all classes (class_at classes i).partners in
    let P : List (Columns ℕ) → Type 0 = λ r. Spans (r ++ before) candidates in
    grown_less classes candidates (all ++ before) after
    (λ v m. spans_both (all ++ before) before all (in_front all before) (in_behind all before) v ((same v).0 m))
    (grown_all classes candidates before i (class_at classes i).partners (λ j c. c) (subst P is holds) grown)
