use Rattle.span_model.specs.Refresh.{refreshed}
use Rattle.span_model.proofs.Carrying.{renamed_attacks, renamed_have}
use Rattle.span_model.proofs.refreshes.refreshed_under_names.Goals as goal

pub returns : goal.returns
returns g c =
    record {
      attack = λ products set others names. renamed_have (refreshed set products) others names;
      probes = λ products set others names. renamed_attacks names.name names.back
          (refreshed set products) others names.there names.again;
      again = λ products set others names. renamed_attacks names.back names.name others
          (refreshed set products) names.again names.there;
    }
