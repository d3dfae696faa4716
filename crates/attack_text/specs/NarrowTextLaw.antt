-- The law of how an attack over a narrow view of a core is written.
use Rattle.std.specs.Prelude.{◌≡◌, length}
use Rattle.usuba0.specs.Circuit.{Circuit, IsCore}
use Rattle.linear_view.specs.Names.{core_columns}
use Rattle.linear_view.specs.Rows.{core_view}
use Rattle.linear_view.specs.View.{LinearView}
use Rattle.linear_view.specs.NarrowView.{IsNarrowView}
use Rattle.linear_view.specs.NarrowLaw.{widened}
use Rattle.attack_model.specs.declared.attack.Attack.{Attack}
use Rattle.attack_text.specs.AttackText.{attack_text, attack_text_among}

-- an attack over a narrow view, with its leak over all columns of the core
abbrev pub widened_attack : Circuit → LinearView → Attack → Attack
widened_attack core view attack = record {
  derivation = record {
    leak = widened core view attack.derivation.leak;
    steps = attack.derivation.steps;
    root = attack.derivation.root;
  };
  listing = attack.listing;
}

-- an attack over a narrow view is written as the same attack over the core's view is
abbrev pub NarrowTextsAreWhole : Type 0
NarrowTextsAreWhole =
    (core : Circuit) → IsCore core → (view : LinearView) → IsNarrowView core view
    → (attack : Attack) → length attack.derivation.leak ≡ length view.columns
    → attack_text (core_view core) (widened_attack core view attack)
    ≡ attack_text_among (length (core_columns core)) view attack
