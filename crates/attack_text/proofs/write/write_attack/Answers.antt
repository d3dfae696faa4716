use Rattle.std.proofs.Common.{ℕ, ap}
use Rattle.tor_edge.proofs.Writing.{Wrote-is}
use Rattle.attack_text.specs.AttackText.{attack_text_among}
use Rattle.attack_text.proofs.write.write_attack.Goals as goal

pub returns : goal.returns
returns g c =
    Wrote-is (ap (λ (columns : ℕ). attack_text_among columns c.args.view.now c.args.attack.now) c.columns.ensures.value)
    c.write_attack_among.ensures
