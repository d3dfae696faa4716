-- The elements that brackets pick of a variable.
use Rattle.std.proofs.Common.{◌≡◌, refl, sym, ap, ◌∙◌, subst, ℕ, zero, suc, ◌+◌, ◌*◌, ◌<◌, ◌≤◌, false, List, [], ◌∷◌, ◌++◌, length, take, drop, arith, mul-le-mul_right, zero-mul, add-mul, suc-mul, one-mul, mul-zero, length-append}
use Rattle.std.specs.List.{range_with_len}
use Rattle.std.proofs.lemmas.Bool.{true≢false, or_parts}
use Rattle.std.proofs.lemmas.List.{take_at, drop_at, drop_all}
use Rattle.usuba_model.specs.Shapes.{product}
use Rattle.usuba_model.specs.Cells.{Picked, picked_elements, parts_between, picks_outside, pick_outside, is_outside}
use Rattle.usuba_cells.specs.State.Sums.{AllBelow}
use Rattle.usuba_cells.specs.State.Copies.{raised, copies}
use Rattle.usuba_cells.proofs.Numbered.{below-append, below-raised, below-range, none-below, copies-raised, copies-range, raised-range}
use Rattle.usuba_cells.proofs.PartLemmas.{parts-below}

-- copies of elements below the stride, for parts below the size
copies-below : (size stride : ℕ) (elements parts : List ℕ) → AllBelow stride elements → AllBelow size parts → AllBelow (size * stride) (copies stride elements parts)
copies-below size stride elements [] small inside = tt
copies-below size stride elements (part ∷ parts) small inside =
    let fits : part * stride + stride ≤ size * stride =
    omega (arith, add-mul part 1 stride, one-mul stride, mul-le-mul_right {m = part + 1} {n = size} stride (omega (arith, inside.0))) in
    below-append (size * stride) (raised (part * stride) elements) (copies stride elements parts)
    (below-raised (part * stride) stride (size * stride) elements fits small)
    (copies-below size stride elements parts small inside.1)

-- without brackets all elements are picked
pub elements-all : (sizes : List ℕ) → picked_elements sizes [] ≡ range_with_len 0 (product sizes)
elements-all [] = refl
elements-all (size ∷ sizes) =
    ap (λ l. copies (product sizes) l (range_with_len 0 size)) (elements-all sizes)
    ∙ copies-range (product sizes) 0 size
    ∙ ap (λ n. range_with_len n (size * product sizes)) (zero-mul (product sizes))

-- elements are below the number of all
pub elements-below : (sizes : List ℕ) (brackets : List Picked) → pick_outside sizes brackets ≡ false → AllBelow (product sizes) (picked_elements sizes brackets)
elements-below [] brackets inside = (omega arith, tt)
elements-below (size ∷ sizes) [] inside =
    subst (AllBelow (product (size ∷ sizes))) (sym (elements-all (size ∷ sizes)))
    (below-range 0 (product (size ∷ sizes)) (product (size ∷ sizes)) (omega arith))
elements-below (size ∷ sizes) (bracket ∷ brackets) inside =
    let halves = or_parts (picks_outside size bracket) (pick_outside sizes brackets) inside in
    let ends = or_parts (is_outside size bracket.first.value) (is_outside size bracket.last.value) halves.0 in
    copies-below size (product sizes) (picked_elements sizes brackets) (parts_between bracket.first.value bracket.last.value)
    (elements-below sizes brackets halves.1) (parts-below size bracket.first.value bracket.last.value ends.0 ends.1)

-- a variable without elements has none to pick
pub elements-none : (sizes : List ℕ) (brackets : List Picked) → product sizes ≡ 0 → pick_outside sizes brackets ≡ false → picked_elements sizes brackets ≡ []
elements-none sizes brackets none inside =
    none-below (picked_elements sizes brackets) (subst (λ n. AllBelow n (picked_elements sizes brackets)) none (elements-below sizes brackets inside))

-- brackets that are not outside are at most as many as the sizes
pub inside-few : (sizes : List ℕ) (brackets : List Picked) → pick_outside sizes brackets ≡ false → length brackets ≤ length sizes
inside-few sizes [] inside = omega arith
inside-few [] (bracket ∷ brackets) inside = absurd (true≢false inside)
inside-few (size ∷ sizes) (bracket ∷ brackets) inside =
    omega (arith, inside-few sizes brackets (or_parts (picks_outside size bracket) (pick_outside sizes brackets) inside).1)

-- the brackets from a level on are not outside either
pub inside-drop : (level : ℕ) (sizes : List ℕ) (brackets : List Picked) → pick_outside sizes brackets ≡ false
    → pick_outside (drop level sizes) (drop level brackets) ≡ false
inside-drop zero sizes brackets inside = inside
inside-drop (suc level) [] [] inside = refl
inside-drop (suc level) [] (bracket ∷ brackets) inside = absurd (true≢false inside)
inside-drop (suc level) (size ∷ sizes) [] inside = no_bracket (drop level sizes)
  where
    no_bracket : (sizes : List ℕ) → pick_outside sizes [] ≡ false
    no_bracket [] = refl
    no_bracket (size ∷ sizes) = refl
inside-drop (suc level) (size ∷ sizes) (bracket ∷ brackets) inside =
    inside-drop level sizes brackets (or_parts (picks_outside size bracket) (pick_outside sizes brackets) inside).1

positive-factor : (a b : ℕ) → 0 < a * b → (0 < b) × (b ≤ a * b)
positive-factor zero b some = absurd (omega (arith, some, zero-mul b))
positive-factor (suc a) zero some = absurd (omega (arith, some, mul-zero (suc a)))
positive-factor (suc a) (suc b) some = (omega arith, omega (arith, suc-mul a (suc b)))

-- the sizes from a level on give some elements, and not more than all sizes
pub product-drop : (level : ℕ) (sizes : List ℕ) → 0 < product sizes → (0 < product (drop level sizes)) × (product (drop level sizes) ≤ product sizes)
product-drop zero sizes some = (some, omega arith)
product-drop (suc level) [] some = (omega arith, omega arith)
product-drop (suc level) (size ∷ sizes) some =
    let here = positive-factor size (product sizes) some in
    let there = product-drop level sizes here.0 in
    (there.0, omega (arith, here.1, there.1))

-- the elements that the brackets from a level on pick are appended
pub record Reached (first : ℕ) (sizes : List ℕ) (brackets : List Picked) (old : List ℕ) (level stride : ℕ) (numbers : List ℕ) : Type 0 where
  pub numbers_are : numbers ≡ old ++ raised first (picked_elements (drop level sizes) (drop level brackets))
  pub stride_is : stride ≡ product (drop level sizes)
  pub within : level ≤ length brackets

-- before the last bracket
pub reached-start : (first : ℕ) (sizes : List ℕ) (brackets : List Picked) (old : List ℕ) (level stride : ℕ) (numbers : List ℕ)
    → level ≡ length brackets → stride ≡ product (drop level sizes) → numbers ≡ old ++ range_with_len first stride
    → Reached first sizes brackets old level stride numbers
reached-start first sizes brackets old level stride numbers last stride_is numbers_are = record {
  numbers_are =
      numbers_are
      ∙ ap (λ l. old ++ l)
      (ap (range_with_len first) stride_is
      ∙ ap (λ n. range_with_len n (product (drop level sizes))) (omega arith)
      ∙ sym (raised-range first 0 (product (drop level sizes)))
      ∙ ap (raised first) (sym (elements-all (drop level sizes)))
      ∙ ap (λ bs. raised first (picked_elements (drop level sizes) bs)) (sym (drop_all level brackets (omega (arith, last)))));
  stride_is = stride_is;
  within = omega (arith, last);
}

-- one bracket before
pub reached-step : (first : ℕ) (sizes : List ℕ) (brackets : List Picked) (old : List ℕ) (level stride start : ℕ) (numbers : List ℕ)
    (size : ℕ) (bracket : Picked) (further : ℕ) (outer : ℕ) (after : List ℕ)
    → further ≡ level + 1
    → drop level sizes ≡ size ∷ drop (level + 1) sizes → drop level brackets ≡ bracket ∷ drop (level + 1) brackets
    → start ≡ length old
    → after ≡ take start numbers ++ copies stride (drop start numbers) (parts_between bracket.first.value bracket.last.value)
    → outer ≡ size * stride
    → Reached first sizes brackets old further stride numbers
    → Reached first sizes brackets old level outer after
reached-step first sizes brackets old level stride start numbers size bracket further outer after next size_is bracket_is start_is after_is outer_is so =
    let rest : List ℕ = picked_elements (drop (level + 1) sizes) (drop (level + 1) brackets) in
    let parts : List ℕ = parts_between bracket.first.value bracket.last.value in
    let numbers_are : numbers ≡ old ++ raised first rest =
    so.numbers_are ∙ ap (λ n. old ++ raised first (picked_elements (drop n sizes) (drop n brackets))) next in
    let stride_is : stride ≡ product (drop (level + 1) sizes) = so.stride_is ∙ ap (λ n. product (drop n sizes)) next in
    let front : take start numbers ≡ old =
    ap (take start) numbers_are ∙ take_at old (raised first rest) start (sym start_is) in
    let back : drop start numbers ≡ raised first rest =
    ap (drop start) numbers_are ∙ drop_at old (raised first rest) start (sym start_is) in
    record {
      numbers_are =
          after_is
          ∙ ap (λ l. l ++ copies stride (drop start numbers) parts) front
          ∙ ap (λ l. old ++ l)
          (ap (λ l. copies stride l parts) back
          ∙ copies-raised stride first rest parts
          ∙ ap (λ n. raised first (copies n rest parts)) stride_is)
          ∙ ap (λ l. old ++ raised first (picked_elements l (bracket ∷ drop (level + 1) brackets))) (sym size_is)
          ∙ ap (λ l. old ++ raised first (picked_elements (drop level sizes) l)) (sym bracket_is);
      stride_is = outer_is ∙ ap (λ n. size * n) stride_is ∙ ap product (sym size_is);
      within = omega (arith, so.within, next);
    }

-- before the first bracket all are told
pub reached-end : (first : ℕ) (sizes : List ℕ) (brackets : List Picked) (old : List ℕ) (level stride : ℕ) (numbers : List ℕ)
    → level ≡ 0 → Reached first sizes brackets old level stride numbers → numbers ≡ old ++ raised first (picked_elements sizes brackets)
reached-end first sizes brackets old level stride numbers none so =
    so.numbers_are ∙ ap (λ n. old ++ raised first (picked_elements (drop n sizes) (drop n brackets))) none

-- what is appended so far is small
pub reached-small : (first : ℕ) (sizes : List ℕ) (brackets : List Picked) (old : List ℕ) (level stride start : ℕ) (numbers : List ℕ) (bound : ℕ)
    → 0 < product sizes → first + product sizes ≤ bound → pick_outside sizes brackets ≡ false → start ≡ length old
    → Reached first sizes brackets old level stride numbers → AllBelow bound (drop start numbers)
reached-small first sizes brackets old level stride start numbers bound some few inside start_is so =
    let rest : List ℕ = picked_elements (drop level sizes) (drop level brackets) in
    let back : drop start numbers ≡ raised first rest =
    ap (drop start) so.numbers_are ∙ drop_at old (raised first rest) start (sym start_is) in
    subst (AllBelow bound) (sym back)
    (below-raised first (product (drop level sizes)) bound rest (omega (arith, few, (product-drop level sizes some).1))
    (elements-below (drop level sizes) (drop level brackets) (inside-drop level sizes brackets inside)))

-- what was there stays
pub reached-start_within : (first : ℕ) (sizes : List ℕ) (brackets : List Picked) (old : List ℕ) (level stride start : ℕ) (numbers : List ℕ)
    → start ≡ length old → Reached first sizes brackets old level stride numbers → start ≤ length numbers
reached-start_within first sizes brackets old level stride start numbers start_is so =
    omega (arith, start_is, ap length so.numbers_are, length-append old (raised first (picked_elements (drop level sizes) (drop level brackets))))

-- the bracket of a level is not outside its size, and its elements are few
pub level-inside : (sizes : List ℕ) (brackets : List Picked) (level size : ℕ) (bracket : Picked) → pick_outside sizes brackets ≡ false
    → drop level sizes ≡ size ∷ drop (level + 1) sizes → drop level brackets ≡ bracket ∷ drop (level + 1) brackets
    → picks_outside size bracket ≡ false
level-inside sizes brackets level size bracket inside size_is bracket_is =
    (or_parts (picks_outside size bracket) (pick_outside (drop (level + 1) sizes) (drop (level + 1) brackets))
    (ap (λ l. pick_outside l (bracket ∷ drop (level + 1) brackets)) (sym size_is) ∙ ap (pick_outside (drop level sizes)) (sym bracket_is)
    ∙ inside-drop level sizes brackets inside)).0

pub level-few : (sizes : List ℕ) (level size stride further bound : ℕ) → 0 < product sizes → product sizes ≤ bound
    → further ≡ level + 1 → stride ≡ product (drop further sizes) → drop level sizes ≡ size ∷ drop (level + 1) sizes
    → (0 < stride) × (size * stride ≤ bound)
level-few sizes level size stride further bound some few next stride_is size_is =
    let stride_at : stride ≡ product (drop (level + 1) sizes) = stride_is ∙ ap (λ n. product (drop n sizes)) next in
    let same : size * stride ≡ product (drop level sizes) = ap (λ n. size * n) stride_at ∙ ap product (sym size_is) in
    (omega (arith, stride_at, (product-drop (level + 1) sizes some).0), omega (arith, same, (product-drop level sizes some).1, few))
