-- A derivation stays where columns only get other names.
use Rattle.std.proofs.Common.{◌≡◌, ◌≢◌, ℕ, Bool, true, false, Option, List, [], ◌∷◌, ◌++◌, length, map, refl, sym, ap, ◌∙◌, subst}
use Rattle.std.proofs.lemmas.List.{length-map, map-append}
use Rattle.span_model.specs.Columns.{Columns, empty, ◌△◌}
use Rattle.span_model.specs.Span.{difference, InSpan}
use Rattle.span_model.specs.Attack.{Product, product_at}
use Rattle.span_model.specs.Closure.{Side, on_left, on_right, side_of, other_side, Step as ProductStep, operand, co_operand, co_operands}
use Rattle.span_model.specs.Renaming.{named_in, renamed_product, renamed}
use Rattle.span_model.proofs.Carrying.{Keeps, named_keeps, renamed_at}
use Rattle.span_select.specs.Selection.{chosen_rows, IsLeastSelection, AreLeastNumbers}
use Rattle.attack_model.specs.declared.attack.Step.{Step}
use Rattle.attack_cert.specs.Levels.{steps_of, AreThose, listed, HasNextLevel, AreLevels}
use Rattle.attack_cert.specs.Derivation.{IsDerivation}
use Rattle.attack_cert.proofs.Those.{those_same}

module _ {C D : Type 0} (f : Columns C → Columns D) (keeps : Keeps f) where
  -- a map that keeps sums takes the sum of picked rows to that of the mapped rows
  difference-map : (picks : List Bool) (rows : List (Columns C))
      → difference picks (map f rows) ≡ f (difference picks rows)
  difference-map [] rows = sym keeps.at_empty
  difference-map (pick ∷ picks) [] = sym keeps.at_empty
  difference-map (true ∷ picks) (row ∷ rows) =
      ap (λ (v : Columns D). f row △ v) (difference-map picks rows) ∙ sym (keeps.at_sum row (difference picks rows))
  difference-map (false ∷ picks) (row ∷ rows) = difference-map picks rows

  span_there : (rows : List (Columns C)) (v : Columns C) → InSpan rows v → InSpan (map f rows) (f v)
  span_there rows v (picks, e) = (picks, difference-map picks rows ∙ ap f e)

  -- the chosen rows of mapped groups are those of the groups, mapped
  chosen-map : (picks : List Bool) (groups : List (List (Columns C)))
      → chosen_rows picks (map (map f) groups) ≡ map f (chosen_rows picks groups)
  chosen-map [] groups = refl
  chosen-map (pick ∷ picks) [] = refl
  chosen-map (true ∷ picks) (group ∷ groups) =
      ap (λ (rows : List (Columns D)). map f group ++ rows) (chosen-map picks groups)
      ∙ sym (map-append f group (chosen_rows picks groups))
  chosen-map (false ∷ picks) (group ∷ groups) = chosen-map picks groups

-- what is in the span of rows that stay as they are there and back stays so too
span_stays : {C D : Type 0} (f : Columns C → Columns D) (g : Columns D → Columns C) → Keeps f → Keeps g
    → (rows : List (Columns C)) → map g (map f rows) ≡ rows → (v : Columns C) → InSpan rows v → g (f v) ≡ v
span_stays f g f_keeps g_keeps rows back v (picks, e) =
    ap (λ w. g (f w)) (sym e) ∙ ap g (sym (difference-map f f_keeps picks rows))
    ∙ sym (difference-map g g_keeps picks (map f rows))
    ∙ ap (difference picks) back ∙ e

side_of-renamed : {C D : Type 0} (name : D → Option C) (product : Product C) (side : Side)
    → side_of (renamed_product name product) side ≡ map (named_in name) (side_of product side)
side_of-renamed name product on_left = refl
side_of-renamed name product on_right = refl

-- the rows of the others are those of the products by the names
module _ {C D : Type 0} (name : D → Option C) (products : List (Product C)) (others : List (Product D))
    (there : renamed name products ≡ others) where
  side-there : (k : ℕ) (side : Side)
      → side_of (product_at others k) side ≡ map (named_in name) (side_of (product_at products k) side)
  side-there k side =
      ap (λ (xs : List (Product D)). side_of (product_at xs k) side) (sym there)
      ∙ ap (λ (p : Product D). side_of p side) (renamed_at name products k)
      ∙ side_of-renamed name (product_at products k) side

  operand-there : (step : ProductStep) → operand others step ≡ map (named_in name) (operand products step)
  operand-there step = side-there step.product step.side

  co_operand-there : (step : ProductStep) → co_operand others step ≡ map (named_in name) (co_operand products step)
  co_operand-there step = side-there step.product (other_side step.side)

  co_operands-there : (steps : List ProductStep)
      → co_operands others steps ≡ map (named_in name) (co_operands products steps)
  co_operands-there [] = refl
  co_operands-there (step ∷ steps) =
      ap (λ (rows : List (Columns D)). rows ++ co_operands others steps) (co_operand-there step)
      ∙ ap (λ (rows : List (Columns D)). map (named_in name) (co_operand products step) ++ rows) (co_operands-there steps)
      ∙ sym (map-append (named_in name) (co_operand products step) (co_operands products steps))

  groups-there : (steps : List ProductStep)
      → map (co_operand others) steps ≡ map (map (named_in name)) (map (co_operand products) steps)
  groups-there [] = refl
  groups-there (step ∷ steps) =
      ap (λ (group : List (Columns D)). group ∷ map (co_operand others) steps) (co_operand-there step)
      ∙ ap (λ (groups : List (List (Columns D))). map (named_in name) (co_operand products step) ∷ groups) (groups-there steps)

  -- a set in a span of the products has its names in that of the others
  whole_there : (steps : List ProductStep) (v : Columns C) → InSpan (co_operands products steps) v
      → InSpan (co_operands others steps) (named_in name v)
  whole_there steps v h =
      subst (λ (rows : List (Columns D)). InSpan rows (named_in name v)) (sym (co_operands-there steps))
      (span_there (named_in name) (named_keeps name) (co_operands products steps) v h)

  -- likewise where the rows are two lists
  both_there : (own rows : List (Columns C)) (other_own other_rows : List (Columns D))
      → other_own ≡ map (named_in name) own → other_rows ≡ map (named_in name) rows
      → (v : Columns C) → InSpan (own ++ rows) v → InSpan (other_own ++ other_rows) (named_in name v)
  both_there own rows other_own other_rows own_is rows_is v h =
      subst (λ (all : List (Columns D)). InSpan all (named_in name v))
      (map-append (named_in name) own rows
      ∙ ap (λ (xs : List (Columns D)). xs ++ map (named_in name) rows) (sym own_is)
      ∙ ap (λ (xs : List (Columns D)). other_own ++ xs) (sym rows_is))
      (span_there (named_in name) (named_keeps name) (own ++ rows) v h)

  level_there : (lower : List ProductStep) (step : ProductStep) (v : Columns C)
      → InSpan (operand products step ++ co_operands products lower) v
      → InSpan (operand others step ++ co_operands others lower) (named_in name v)
  level_there lower step =
      both_there (operand products step) (co_operands products lower) (operand others step) (co_operands others lower)
      (operand-there step) (co_operands-there lower)

  chosen_there : (own : List (Columns C)) (other_own : List (Columns D)) → other_own ≡ map (named_in name) own
      → (steps : List ProductStep) (picks : List Bool) (v : Columns C)
      → InSpan (own ++ chosen_rows picks (map (co_operand products) steps)) v
      → InSpan (other_own ++ chosen_rows picks (map (co_operand others) steps)) (named_in name v)
  chosen_there own other_own own_is steps picks =
      both_there own (chosen_rows picks (map (co_operand products) steps))
      other_own (chosen_rows picks (map (co_operand others) steps)) own_is
      (ap (chosen_rows picks) (groups-there steps)
      ∙ chosen-map (named_in name) (named_keeps name) picks (map (co_operand products) steps))

  same_length : length others ≡ length products
  same_length = ap (λ (xs : List (Product D)). length xs) (sym there) ∙ length-map products (renamed_product name)

module _ {C D : Type 0} (name : D → Option C) (back : C → Option D) (products : List (Product C)) (others : List (Product D))
    (there : renamed name products ≡ others) (again : renamed back others ≡ products) where
  -- what the co-operands span stays as it is by the names there and back
  named_back : (steps : List ProductStep) (v : Columns C) → InSpan (co_operands products steps) v
      → named_in back (named_in name v) ≡ v
  named_back steps =
      span_stays (named_in name) (named_in back) (named_keeps name) (named_keeps back) (co_operands products steps)
      (ap (map (named_in back)) (sym (co_operands-there name products others there steps))
      ∙ sym (co_operands-there back others products again steps))

  module _ (leak : Columns C) (same : named_in back (named_in name leak) ≡ leak) where
    abbrev other_leak : Columns D
    other_leak = named_in name leak

    leak_nonempty : leak ≢ empty → other_leak ≢ empty
    leak_nonempty nonempty vanishes = nonempty (sym same ∙ ap (named_in back) vanishes ∙ (named_keeps back).at_empty)

    -- and what spans the names of the leak spans the leak
    whole_back : (steps : List ProductStep) → InSpan (co_operands others steps) other_leak
        → InSpan (co_operands products steps) leak
    whole_back steps h =
        subst (InSpan (co_operands products steps)) same (whole_there back others products again steps other_leak h)

    level_back : (lower : List ProductStep) (step : ProductStep)
        → InSpan (operand others step ++ co_operands others lower) other_leak
        → InSpan (operand products step ++ co_operands products lower) leak
    level_back lower step h =
        subst (InSpan (operand products step ++ co_operands products lower)) same
        (level_there back others products again lower step other_leak h)

    next_there : (lower : List (List ProductStep)) (step : ProductStep) → HasNextLevel products leak lower step
        → HasNextLevel others other_leak lower step
    next_there lower step next = record {
      not_lower = next.not_lower;
      spanned = level_there name products others there (listed lower) step leak next.spanned;
    }

    next_back : (lower : List (List ProductStep)) (step : ProductStep) → HasNextLevel others other_leak lower step
        → HasNextLevel products leak lower step
    next_back lower step next = record {
      not_lower = next.not_lower;
      spanned = level_back (listed lower) step next.spanned;
    }

    levels_there : (levels : List (List ProductStep)) → AreLevels products leak levels
        → AreLevels others other_leak levels
    levels_there [] levels = tt
    levels_there (level ∷ lower) (those, rest) = (
      subst (λ (n : ℕ). AreThose (HasNextLevel others other_leak lower) (steps_of n) level)
          (sym (same_length name products others there))
          (those_same (HasNextLevel products leak lower) (HasNextLevel others other_leak lower)
          (next_there lower) (next_back lower) those),
      levels_there lower rest,
    )

    module _ (own : List (Columns C)) (other_own : List (Columns D)) (own_is : other_own ≡ map (named_in name) own)
        (own_was : own ≡ map (named_in back) other_own) (steps : List ProductStep) where
      chosen_back : (picks : List Bool)
          → InSpan (other_own ++ chosen_rows picks (map (co_operand others) steps)) other_leak
          → InSpan (own ++ chosen_rows picks (map (co_operand products) steps)) leak
      chosen_back picks h =
          subst (InSpan (own ++ chosen_rows picks (map (co_operand products) steps))) same
          (chosen_there back others products again other_own own own_was steps picks other_leak h)

      as_many : length (map (co_operand products) steps) ≡ length (map (co_operand others) steps)
      as_many = length-map steps (co_operand products) ∙ sym (length-map steps (co_operand others))

      -- a least selection stays the least, as each other one spans the leak just where it spans the leak's names
      least_there : (picks : List Bool) → IsLeastSelection own (map (co_operand products) steps) leak picks
          → IsLeastSelection other_own (map (co_operand others) steps) other_leak picks
      least_there picks least = record {
        count = least.count ∙ as_many;
        spans = chosen_there name products others there own other_own own_is steps picks leak least.spans;
        least = λ selection many spans. least.least selection (many ∙ sym as_many) (chosen_back selection spans);
      }

      numbers_there : (numbers : List ℕ) → AreLeastNumbers own (map (co_operand products) steps) leak numbers
          → AreLeastNumbers other_own (map (co_operand others) steps) other_leak numbers
      numbers_there numbers (picks, least, is) = (picks, least_there picks least, is)

  -- the same steps and root are the derivation of the names of the leak
  pub derivation_renamed : (leak : Columns C) (steps : List Step) (root : List ℕ)
      → IsDerivation products leak steps root → IsDerivation others (named_in name leak) steps root
  derivation_renamed leak steps root d =
      let same : named_in back (named_in name leak) ≡ leak = named_back (listed (d.last ∷ d.lower)) leak d.spanned in
      record {
        nonempty = leak_nonempty leak same d.nonempty;
        last = d.last;
        lower = d.lower;
        levels = levels_there leak same (d.last ∷ d.lower) d.levels;
        spanned = whole_there name products others there (listed (d.last ∷ d.lower)) leak d.spanned;
        least = λ spans. d.least (whole_back leak same (listed d.lower) spans);
        places = d.places;
        rise = d.rise;
        below = d.below;
        kept = d.kept;
        root_numbers = d.root_numbers;
        root_uses = numbers_there leak same [] [] refl refl _ _ d.root_uses;
        numbers = d.numbers;
        uses = λ number lt. numbers_there leak same _ _
            (operand-there name products others there _) (operand-there back others products again _)
            _ _ (d.uses number lt);
        reached = d.reached;
      }
