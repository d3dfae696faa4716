-- The last handles of a stack, and what they stand for.
use Rattle.std.proofs.Common.{◌≡◌, ℕ, ◌+◌, ◌-◌, ◌≤◌, Bool, true, false, List, ◌++◌, length, take, drop, Option, Some, None, refl, sym, ap, ◌∙◌, subst, arith}
use Rattle.std.specs.Prelude.{option_map, option_and_then, IsSome, nat_le, if◌then◌else◌}
use Rattle.std.proofs.lemmas.Bool.{leb-true, le-leb}
use Rattle.std.proofs.lemmas.List.{take-map, drop-map, length-map, length-take-le, map-append}
use Rattle.usuba_code.specs.CodeLaw.{Each}
use Rattle.usuba_code.specs.Machine.{Split, split_last, with_last, with_last_two, with_answer}
use Rattle.usuba_plan.specs.Store.{Store, Gives, Keeps, meanings}
use Rattle.usuba_plan.proofs.Eaches.{each_append}
use Rattle.usuba_plan.proofs.Picking.{false_true, map_there}
use Rattle.usuba_plan.proofs.Stores.{held_on, same_meanings}

pub then_there : {B C : Type 0} (f : B → Option C) (o : Option B) → IsSome (option_and_then f o) → IsSome o
then_there f (Some b) e = refl
then_there f None e = e

module _ {A : Type 0} where
  -- a stack, split before its last n elements
  abbrev split_at : ℕ → List A → Split A
  split_at n xs = record { below = take (length xs - n) xs; last = drop (length xs - n) xs }

  split_enough : (n : ℕ) (xs : List A) → IsSome (split_last n xs) → n ≤ length xs
  split_enough n xs e = of_test (nat_le n (length xs)) refl e
    where
      of_test : (b : Bool) → nat_le n (length xs) ≡ b
          → IsSome (if b then Some (split_at n xs) else None) → n ≤ length xs
      of_test true is e = leb-true n (length xs) is
      of_test false is e = false_true e

  split_is : (n : ℕ) (xs : List A) → n ≤ length xs
      → split_last n xs ≡ Some (record { below = take (length xs - n) xs; last = drop (length xs - n) xs })
  split_is n xs le =
      ap (λ (b : Bool). if b then Some (split_at n xs) else None)
      (le-leb n (length xs) le)

  pub last_enough : (n : ℕ) (f : List A → List A) (xs : List A) → IsSome (with_last n f xs) → n ≤ length xs
  last_enough n f xs e = split_enough n xs (map_there (λ split. split.below ++ f split.last) (split_last n xs) e)

  pub answer_enough : (n : ℕ) (f : List A → Option (List A)) (xs : List A) → IsSome (with_answer n f xs) → n ≤ length xs
  answer_enough n f xs e =
      split_enough n xs (then_there (λ split. option_map (λ made. split.below ++ made) (f split.last)) (split_last n xs) e)

  pub two_enough : (n : ℕ) (f : List A → List A → List A) (xs : List A) → IsSome (with_last_two n f xs) → n + n ≤ length xs
  two_enough n f xs e =
      let g : Split A → Option (List A) = λ split. with_last n (λ earlier. f earlier split.last) split.below in
      let first : n ≤ length xs = split_enough n xs (then_there g (split_last n xs) e) in
      let second : IsSome (g (split_at n xs))
      = subst (λ (o : Option (Split A)). IsSome (option_and_then g o)) (split_is n xs first) e in
      let more : n ≤ length (take (length xs - n) xs)
      = last_enough n (λ earlier. f earlier (drop (length xs - n) xs)) (take (length xs - n) xs) second in
      let within : length xs - n ≤ length xs = omega arith in
      let len : length (take (length xs - n) xs) ≡ length xs - n = length-take-le (length xs - n) xs within in
      omega (arith, first, more, len)

module _ {H V : Type 0} (s : Store H V) where
  pub split_handles : (n : ℕ) (hs : List H) → n ≤ length hs
      → split_last n (meanings s hs)
      ≡ Some (record { below = meanings s (take (length hs - n) hs); last = meanings s (drop (length hs - n) hs) })
  split_handles n hs le =
      let len : length (meanings s hs) ≡ length hs = length-map hs s.meaning in
      split_is n (meanings s hs) (subst (λ m. n ≤ m) (sym len) le)
      ∙ ap (λ (m : ℕ). Some (record { below = take (m - n) (meanings s hs); last = drop (m - n) (meanings s hs) })) len
      ∙ ap (λ (vs : List V). Some (record { below = vs; last = drop (length hs - n) (meanings s hs) })) (take-map s.meaning (length hs - n) hs)
      ∙ ap (λ (vs : List V). Some (record { below = meanings s (take (length hs - n) hs); last = vs })) (drop-map s.meaning (length hs - n) hs)

  pub last_handles : (n : ℕ) (f : List V → List V) (hs : List H) → n ≤ length hs
      → with_last n f (meanings s hs) ≡ Some (meanings s (take (length hs - n) hs) ++ f (meanings s (drop (length hs - n) hs)))
  last_handles n f hs le = ap (option_map (λ split. split.below ++ f split.last)) (split_handles n hs le)

  pub two_handles : (n : ℕ) (f : List V → List V → List V) (hs below : List H) → n + n ≤ length hs → below ≡ take (length hs - n) hs
      → with_last_two n f (meanings s hs)
      ≡ Some (meanings s (take (length below - n) below) ++ f (meanings s (drop (length below - n) below)) (meanings s (drop (length hs - n) hs)))
  two_handles n f hs below le is =
      let within : length hs - n ≤ length hs = omega arith in
      let len : length below ≡ length hs - n = ap (λ (xs : List H). length xs) is ∙ length-take-le (length hs - n) hs within in
      ap (option_and_then (λ split. with_last n (λ earlier. f earlier split.last) split.below)) (split_handles n hs (omega (arith, le)))
      ∙ ap (λ (xs : List H). with_last n (λ earlier. f earlier (meanings s (drop (length hs - n) hs))) (meanings s xs)) (sym is)
      ∙ last_handles n (λ earlier. f earlier (meanings s (drop (length hs - n) hs))) below (omega (arith, le, len))

  pub answer_handles : (n : ℕ) (f : List V → Option (List V)) (hs : List H) → n ≤ length hs
      → with_answer n f (meanings s hs)
      ≡ option_map (λ made. meanings s (take (length hs - n) hs) ++ made) (f (meanings s (drop (length hs - n) hs)))
  answer_handles n f hs le =
      ap (option_and_then (λ split. option_map (λ made. split.below ++ made) (f split.last))) (split_handles n hs le)

module _ {H V : Type 0} where
  pub gives_as : (s : Store H V) (hs : List H) (o p : Option (List V)) → o ≡ p → Gives s hs p → Gives s hs o
  gives_as s hs o p e g = record { held = g.held; means = e ∙ g.means }

  -- handles that are put on handles that were held before
  pub put_on : (m : ℕ) (old new : Store H V) (below made : List H) (o : Option (List V)) → Keeps m old new → Each old.holds below
      → Gives new made o → Gives new (below ++ made) (option_map (λ vs. meanings old below ++ vs) o)
  put_on m old new below made o kept held g = record {
    held = each_append new.holds below made (held_on m old new kept below held) g.held;
    means =
        ap (option_map (λ vs. meanings old below ++ vs)) g.means
        ∙ ap (λ (vs : List V). Some (vs ++ meanings new made)) (sym (same_meanings m old new kept below held))
        ∙ ap (λ (vs : List V). Some vs) (sym (map-append new.meaning below made));
  }

  -- what was pushed in place of the last handles
  pub applied : (s new : Store H V) (n : ℕ) (f : List V → List V) (stack below last after : List H) → n ≤ length stack
      → below ≡ take (length stack - n) stack → last ≡ drop (length stack - n) stack
      → Gives new after (Some (meanings s below ++ f (meanings s last)))
      → Gives new after (with_last n f (meanings s stack))
  applied s new n f stack below last after le is is' gives =
      gives_as new after (with_last n f (meanings s stack)) (Some (meanings s below ++ f (meanings s last)))
      (last_handles s n f stack le
      ∙ ap (λ (hs : List H). Some (meanings s hs ++ f (meanings s (drop (length stack - n) stack)))) (sym is)
      ∙ ap (λ (hs : List H). Some (meanings s below ++ f (meanings s hs))) (sym is'))
      gives

  -- what was pushed in place of the last handles and as many before them
  pub applied_two : (s new : Store H V) (n : ℕ) (f : List V → List V → List V) (stack middle right below left after : List H) → n + n ≤ length stack
      → middle ≡ take (length stack - n) stack → right ≡ drop (length stack - n) stack
      → below ≡ take (length middle - n) middle → left ≡ drop (length middle - n) middle
      → Gives new after (Some (meanings s below ++ f (meanings s left) (meanings s right)))
      → Gives new after (with_last_two n f (meanings s stack))
  applied_two s new n f stack middle right below left after le is_middle is_right is_below is_left gives =
      gives_as new after (with_last_two n f (meanings s stack)) (Some (meanings s below ++ f (meanings s left) (meanings s right)))
      (two_handles s n f stack middle le is_middle
      ∙ ap (λ (hs : List H). Some (meanings s hs ++ f (meanings s (drop (length middle - n) middle)) (meanings s (drop (length stack - n) stack)))) (sym is_below)
      ∙ ap (λ (hs : List H). Some (meanings s below ++ f (meanings s hs) (meanings s (drop (length stack - n) stack)))) (sym is_left)
      ∙ ap (λ (hs : List H). Some (meanings s below ++ f (meanings s left) (meanings s hs))) (sym is_right))
      gives
