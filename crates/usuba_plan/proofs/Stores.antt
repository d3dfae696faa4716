-- What a store keeps, step by step.
use Rattle.std.proofs.Common.{◌≡◌, ℕ, ◌+◌, ◌≤◌, List, [], ◌∷◌, Option, Some, None, refl, sym, ap, ◌∙◌, arith}
use Rattle.std.specs.Prelude.{option_map}
use mathlib.Core.Path.{fun_ext}
use Rattle.usuba_code.specs.CodeLaw.{Each}
use Rattle.usuba_plan.specs.Store.{Store, Gives, Keeps, meanings}
use Rattle.usuba_plan.specs.State.Handles.{handle_at, environment_of, CellsHeld}

module _ {H V : Type 0} where
  pub kept_itself : (s : Store H V) → Keeps 0 s s
  kept_itself s = record { width = refl; inputs = refl; operators = refl; held = λ h k. k; means = λ h k. refl; room = omega arith }

  pub kept_within : (m k : ℕ) (a b : Store H V) → Keeps m a b → m ≤ k → Keeps k a b
  kept_within m k a b f le = record {
    width = f.width;
    inputs = f.inputs;
    operators = f.operators;
    held = f.held;
    means = f.means;
    room = let r = f.room in omega (arith, r, le);
  }

  pub kept_on : (m n : ℕ) (a b c : Store H V) → Keeps m a b → Keeps n b c → Keeps (m + n) a c
  kept_on m n a b c f g = record {
    width = g.width ∙ f.width;
    inputs = g.inputs ∙ f.inputs;
    operators = g.operators ∙ f.operators;
    held = λ h d. g.held h (f.held h d);
    means = λ h d. g.means h (f.held h d) ∙ f.means h d;
    room = let r = f.room in let q = g.room in omega (arith, r, q);
  }

  module _ (m : ℕ) (a b : Store H V) (kept : Keeps m a b) where
    pub held_on : (hs : List H) → Each a.holds hs → Each b.holds hs
    held_on [] d = tt
    held_on (h ∷ hs) d = (kept.held h d.0, held_on hs d.1)

    pub same_meanings : (hs : List H) → Each a.holds hs → meanings b hs ≡ meanings a hs
    same_meanings [] d = refl
    same_meanings (h ∷ hs) d =
        ap (λ (v : V). v ∷ meanings b hs) (kept.means h d.0) ∙ ap (λ (vs : List V). a.meaning h ∷ vs) (same_meanings hs d.1)

    pub cells_held_on : (cells : List (Option H)) → CellsHeld a cells → CellsHeld b cells
    cells_held_on cells d cell h is = kept.held h (d cell h is)

    pub same_environment : (cells : List (Option H)) → CellsHeld a cells → environment_of b cells ≡ environment_of a cells
    same_environment cells d = fun_ext (λ cell. at_cell cell (handle_at cells cell) refl)
      where
        at_cell : (cell : ℕ) (o : Option H) → handle_at cells cell ≡ o → option_map b.meaning (handle_at cells cell) ≡ option_map a.meaning (handle_at cells cell)
        at_cell cell (Some h) is =
            ap (option_map b.meaning) is ∙ ap (λ (v : V). Some v) (kept.means h (d cell h is)) ∙ ap (option_map a.meaning) (sym is)
        at_cell cell None is = ap (option_map b.meaning) is ∙ ap (option_map a.meaning) (sym is)

    -- handles that a list of handles is extended by keep what they stand for
    pub still_gives : (hs : List H) (o : Option (List V)) → Gives a hs o → Gives b hs o
    still_gives hs o g = record {
      held = held_on hs g.held;
      means = g.means ∙ ap (λ (vs : List V). Some vs) (sym (same_meanings hs g.held));
    }
