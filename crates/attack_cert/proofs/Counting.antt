-- How many steps levels have.
use Rattle.std.proofs.Common.{◌≡◌, ◌≤◌, ◌+◌, ◌*◌, List, [], ◌∷◌, length, arith}
use Rattle.std.specs.List.{Contains}
use Rattle.std.proofs.lemmas.List.{length-append}
use Rattle.span_model.specs.Columns.{Columns}
use Rattle.span_model.specs.Attack.{Product}
use Rattle.span_model.specs.Closure.{Step}
use Rattle.attack_cert.specs.Levels.{steps_of, AreThose, none, taken, left_out, listed, HasNextLevel, AreLevels}
use Rattle.attack_cert.proofs.Those.{not_in_none, those_hold, all_those, rest_of_those, split_length, length-steps_of}

-- those of which a narrower fact holds, among those of a wider one
those_among : (P Q : Step → Type 0) → ((step : Step) → Q step → P step)
    → {all some few : List Step} → AreThose P all some → AreThose Q all few → AreThose Q some few
those_among P Q wider none none = none
those_among P Q wider (taken p d) (taken q e) = taken q (those_among P Q wider d e)
those_among P Q wider (taken p d) (left_out q e) = left_out q (those_among P Q wider d e)
those_among P Q wider (left_out p d) (taken q e) = absurd (p (wider _ q))
those_among P Q wider (left_out p d) (left_out q e) = those_among P Q wider d e

-- those of which a fact does not hold
the_others : (Q : Step → Type 0) {all those : List Step} → AreThose Q all those → (rest : List Step) × AreThose (λ step. ¬ Q step) all rest
the_others Q none = ([], none)
the_others Q (taken q d) = let r = the_others Q d in (r.0, left_out (λ n. n q) r.1)
the_others Q (left_out {step = x} q d) = let r = the_others Q d in (x ∷ r.0, taken q r.1)

module _ {C : Type 0} (products : List (Product C)) (leak : Columns C) where
  -- the steps that have none of the levels
  record Remain (levels : List (List Step)) : Type 0 where
    rest : List Step
    others : AreThose (λ step. ¬ Contains (listed levels) step) (steps_of (length products)) rest
    count : length (listed levels) + length rest ≡ 2 * length products

  remaining : (levels : List (List Step)) → AreLevels products leak levels → Remain levels
  remaining [] h = record {
    rest = steps_of (length products);
    others = all_those (λ step. ¬ Contains [] step) (λ step. not_in_none step) (steps_of (length products));
    count = let n = length-steps_of (length products) in omega (arith, n);
  }
  remaining (level ∷ lower) h =
      let before = remaining lower h.1 in
      let next : Step → Type 0 = HasNextLevel products leak lower in
      let part : AreThose next before.rest level = those_among (λ step. ¬ Contains (listed lower) step) next (λ step q. q.not_lower) before.others h.0 in
      let r = the_others next part in
      record {
        rest = r.0;
        others = rest_of_those next (listed lower) level (those_hold next h.0) before.others part (λ step m. m) r.1;
        count = let split = split_length next part r.1 in let count = before.count in omega (arith, split, count, length-append (listed lower) level);
      }

  -- each product has two steps, and none has two levels
  pub levels_few : (levels : List (List Step)) → AreLevels products leak levels → length (listed levels) ≤ 2 * length products
  levels_few levels h = let count = (remaining levels h).count in omega (arith, count)
