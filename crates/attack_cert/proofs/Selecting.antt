-- Least selections of co-operands.
use Rattle.std.proofs.Common.{◌≡◌, ◌<◌, ◌≤◌, ℕ, List, [], ◌∷◌, ◌++◌, length, map, take, refl, sym, ap, ◌∙◌, subst, arith, All, Option, Some, None}
use Rattle.std.specs.Option.{MatchOption, IsSome}
use Rattle.std.proofs.lemmas.List.{take-map}
use Rattle.span_model.specs.Columns.{Columns}
use Rattle.span_model.specs.Attack.{Product}
use Rattle.span_model.specs.Closure.{Step, co_operand, co_operands}
use Rattle.span_select.specs.Selection.{rows_of, AreLeastNumbers}
use Rattle.attack_cert.proofs.Picks.{numbers_within}

pub some_found : {T : Type 0} (found : Option T) (A : Type 0) (B : T → Type 0) → MatchOption found (¬ A) B → A → IsSome found
some_found None A B told a = absurd (told a)
some_found (Some x) A B told a = refl

pub found_is : {T : Type 0} (found : Option T) (x : T) (A : Type 0) (B : T → Type 0) → found ≡ Some x → MatchOption found A B → B x
found_is {T} found x A B e told = subst (λ (o : Option T). MatchOption o A B) e told

pub none_is : {T : Type 0} (found : Option T) (A : Type 0) (B : T → Type 0) → found ≡ None → MatchOption found A B → A
none_is {T} found A B e told = subst (λ (o : Option T). MatchOption o A B) e told

module _ {C : Type 0} where
  pub least_as : (own others : List (Columns C)) (groups same : List (List (Columns C))) (leak : Columns C) (numbers uses : List ℕ)
      → own ≡ others → groups ≡ same → numbers ≡ uses → AreLeastNumbers own groups leak numbers → AreLeastNumbers others same leak uses
  least_as own others groups same leak numbers uses e f g least =
      subst (λ (o : List (Columns C)). AreLeastNumbers o same leak uses) e
      (subst (λ (gs : List (List (Columns C))). AreLeastNumbers own gs leak uses) f
      (subst (λ (ns : List ℕ). AreLeastNumbers own groups leak ns) g least))

  -- the numbers are those of groups
  pub least_within : (own : List (Columns C)) (groups : List (List (Columns C))) (leak : Columns C) (numbers : List ℕ) (n : ℕ)
      → AreLeastNumbers own groups leak numbers → length groups ≤ n → All (λ k. k < n) numbers
  least_within own groups leak numbers n (picks, least, is) le =
      subst (λ (ns : List ℕ). All (λ k. k < n) ns) (sym is) (λ k d h. let w = numbers_within picks k d h in let count = least.count in omega arith)

module _ {C : Type 0} (products : List (Product C)) where
  rows_are : (steps : List Step) → rows_of (map (co_operand products) steps) ≡ co_operands products steps
  rows_are [] = refl
  rows_are (step ∷ steps) = ap (λ (rows : List (Columns C)). co_operand products step ++ rows) (rows_are steps)

  pub groups_upto : (groups : List (List (Columns C))) (steps : List Step) (n : ℕ) → groups ≡ map (co_operand products) steps
      → take n groups ≡ map (co_operand products) (take n steps)
  groups_upto groups steps n e = ap (take n) e ∙ take-map (co_operand products) n steps

  pub rows_upto : (groups : List (List (Columns C))) (steps : List Step) (n : ℕ) → groups ≡ map (co_operand products) steps
      → rows_of (take n groups) ≡ co_operands products (take n steps)
  rows_upto groups steps n e = ap rows_of (groups_upto groups steps n e) ∙ rows_are (take n steps)
