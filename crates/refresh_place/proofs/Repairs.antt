-- The answer of `repair`.
use Rattle.std.proofs.Common.{◌≡◌, ℕ, ◌<◌, ◌==◌, ◌&&◌, Bool, true, false, not, List, length, refl, sym, ap, ◌∙◌, subst, arith, inl, inr, ◌⊎◌, true≢false}
use Rattle.std.proofs.lemmas.Bool.{cases_eq, cases_lt, ne_eqb}
use Rattle.std.proofs.lemmas.List.{get_or_past, length-map}
use mathlib.Core.Path.{fun_ext}
use Rattle.span_model.specs.Refresh.{IsWithin, without}
use Rattle.usuba0.specs.Circuit.{Circuit, IsCore, products_of}
use Rattle.linear_view.specs.Names.{core_columns}
use Rattle.linear_view.specs.Rows.{core_products, operands_over}
use Rattle.linear_view.specs.NarrowView.{IsNarrowView}
use Rattle.linear_view.specs.View as view
use Rattle.linear_view.specs.CoreViewLaw.{CoreViewSize}
use Rattle.tightprove.specs.LeavingOut.{IsLeastLeftOut}
use Rattle.core_refresh.specs.RefreshedCore.{marked, refreshed_core}
use Rattle.refresh_place.specs.RepairSet.{IsAttackedWith, IsRepairSetOf, IsRepairOf}
use Rattle.refresh_place.specs.RefreshedAttacks.{AttacksOnRefreshedCores, LeftOutOfView}

-- how many products a narrow view has
pub narrow_count : CoreViewSize → (core : Circuit) (seen : view.LinearView) → IsNarrowView core seen
    → length seen.products ≡ products_of core.equations
narrow_count size core seen narrow =
    ap length narrow.products
    ∙ length-map (core_products core) (operands_over seen.columns)
    ∙ sym (length-map (core_products core) (operands_over (core_columns core)))
    ∙ size.products core

-- products that are left out of a narrow view are a repair set
pub least_repairs : LeftOutOfView → CoreViewSize → (core : Circuit) (seen : view.LinearView) (set : ℕ → Bool) → IsCore core
    → IsNarrowView core seen → IsLeastLeftOut (view.products_of seen) set → IsRepairSetOf core set
least_repairs law size core seen set is narrow least =
    let count = narrow_count size core seen narrow in
    let many = length-map seen.products view.product_of in
    record {
      secure = λ has. least.secure ((law.narrow core set is seen narrow).0 has);
      needed = λ k below there. (law.narrow core (without k set) is seen narrow).1 (least.needed k (omega arith) there);
    }

within_without : (k : ℕ) (less more : ℕ → Bool) → IsWithin less more → less k ≡ false → IsWithin less (without k more)
within_without k less more within out j h = at (cases_eq j k)
  where
    at : (j ≡ k) ⊎ (j ≡ k → ⊥) → without k more j ≡ true
    at (inl same) = absurd (true≢false (sym h ∙ ap less same ∙ out))
    at (inr other) = ap (λ (b : Bool). b && not (j == k)) (within j h) ∙ ap not (ne_eqb j k other)

-- a set mark is that of a product
mark_below : (marks : List Bool) (k : ℕ) → marked marks k ≡ true → k < length marks
mark_below marks k e = elim (cases_lt k (length marks)) [
  | inl below ↦ below
  | inr past ↦ absurd (true≢false (sym e ∙ get_or_past marks k false past))
]

-- a repair set with its refreshed core
pub is_repair : AttacksOnRefreshedCores → (core repaired : Circuit) (marks : List Bool) → IsCore core → length marks ≡ products_of core.equations
    → repaired ≡ refreshed_core core (marked marks) → IsRepairSetOf core (marked marks) → IsRepairOf core repaired marks
is_repair laws core repaired marks is count e repairs =
    let below : (k : ℕ) → marked marks k ≡ true → k < products_of core.equations = λ k there. let h = mark_below marks k there in omega arith in
    record {
      marks = count;
      refreshed = e;
      repairs = repairs;
      least = λ less within k there out.
          laws.fewer core less (without k (marked marks)) is (within_without k less (marked marks) within out) (repairs.needed k (below k there) there);
      empty = (
        λ none has.
            let same : marked marks ≡ (λ _. false) = fun_ext none in
            repairs.secure (subst (λ (s : ℕ → Bool). IsAttackedWith core s) (sym same) ((laws.none_refreshed core is).1 has)),
        λ secure k. never (marked marks k) (λ there.
            secure ((laws.none_refreshed core is).0
            (laws.fewer core (λ _. false) (without k (marked marks)) is (λ j e. absurd (true≢false (sym e))) (repairs.needed k (below k there) there)))),
      );
    }
  where
    never : (b : Bool) → (b ≡ true → ⊥) → b ≡ false
    never true f = absurd (f refl)
    never false f = refl

-- the same where the marks are handed on
pub is_repair_as : AttacksOnRefreshedCores → (core repaired : Circuit) (marks listed first second : List Bool) → IsCore core
    → length marks ≡ products_of core.equations → first ≡ marks → second ≡ marks → repaired ≡ refreshed_core core (marked first) → listed ≡ second
    → IsRepairSetOf core (marked marks) → IsRepairOf core repaired listed
is_repair_as laws core repaired marks listed first second is count e f made same repairs =
    subst (λ (l : List Bool). IsRepairOf core repaired l) (sym (same ∙ f))
    (is_repair laws core repaired marks is count (made ∙ ap (λ (l : List Bool). refreshed_core core (marked l)) e) repairs)
