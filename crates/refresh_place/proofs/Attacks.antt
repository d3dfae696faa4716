-- The attacks on refreshed cores, by the laws of refreshed products.
use Rattle.std.proofs.Common.{◌≡◌, ℕ, Bool, false, length, sym, ◌∙◌, arith}
use Rattle.std.proofs.lemmas.List.{length-map}
use Rattle.span_model.specs.Attack.{HasAttack}
use Rattle.span_model.specs.Refresh.{refreshed}
use Rattle.span_model.specs.RefreshLaws.{RefreshedUnderNames, AllRefreshedIsSecure, AttackStaysWithFewer, NoneRefreshedIsSame}
use Rattle.usuba0.specs.Circuit.{Circuit, IsCore, products_of}
use Rattle.linear_view.specs.declared.column.Column.{Column}
use Rattle.linear_view.specs.Names.{core_columns}
use Rattle.linear_view.specs.Rows.{core_products, operands_over}
use Rattle.linear_view.specs.CoreViewLaw.{CoreViewSize}
use Rattle.core_refresh.specs.RefreshedCore.{refreshed_core}
use Rattle.refresh_place.specs.RepairSet.{IsAttackedWith}
use Rattle.refresh_place.specs.RefreshedAttacks.{RefreshedCoresAreRefreshed, AttacksOnRefreshedCores}

pub attacks_on_refreshed_cores : RefreshedCoresAreRefreshed → RefreshedUnderNames Column Column → AllRefreshedIsSecure Column
    → AttackStaysWithFewer Column → NoneRefreshedIsSame Column → CoreViewSize → AttacksOnRefreshedCores
attacks_on_refreshed_cores named under all fewer none size =
    let there : (core : Circuit) (set : ℕ → Bool) → IsCore core → IsAttackedWith core set → HasAttack (refreshed set (core_products core)) =
    λ core set is has. (under.attack (core_products core) set (core_products (refreshed_core core set)) (named core set is)).1 has in
    let back : (core : Circuit) (set : ℕ → Bool) → IsCore core → HasAttack (refreshed set (core_products core)) → IsAttackedWith core set =
    λ core set is has. (under.attack (core_products core) set (core_products (refreshed_core core set)) (named core set is)).0 has in
    let count : (core : Circuit) → length (core_products core) ≡ products_of core.equations =
    λ core. sym (length-map (core_products core) (operands_over (core_columns core))) ∙ size.products core in
    record {
      all_refreshed = λ core set is h has.
          all (core_products core) set (λ k below. h k (let e = count core in omega arith)) (there core set is has);
      fewer = λ core less set is within has.
          let x = there core set is has in
          back core less is (x.0, (x.1.0, x.1.1, fewer (core_products core) less set within x.1.0 x.0 x.1.1 x.1.2));
      none_refreshed = λ core is. (
        λ has. (none (core_products core)).0 (there core (λ _. false) is has),
        λ has. back core (λ _. false) is ((none (core_products core)).1 has),
      );
    }
