-- A view with the columns of another one and operands that are given in two lists.
use Rattle.std.proofs.Common.{◌≡◌, ◌≤◌, Bool, List, [], ◌∷◌, ◌++◌, length, reverse, All, refl, sym, ap, ◌∙◌, subst, arith, append_assoc}
use Rattle.std.proofs.lemmas.List.{length_push, reverse-append}
use Rattle.linear_view.specs.declared.column.Column.{Column}
use Rattle.linear_view.specs.View.{Operands, LinearView, AreOperands, IsView, operands_of}

operands_of-push : (xs ys : List (List (List Bool))) (x y : List (List Bool)) → length xs ≡ length ys
    → operands_of (xs ++ x ∷ []) (ys ++ y ∷ []) ≡ operands_of xs ys ++ record { left = x; right = y } ∷ []
operands_of-push [] [] x y e = refl
operands_of-push [] (b ∷ ys) x y e = absurd (omega arith)
operands_of-push (a ∷ xs) [] x y e = absurd (omega arith)
operands_of-push (a ∷ xs) (b ∷ ys) x y e = ap (λ (l : List Operands). record { left = a; right = b } ∷ l) (operands_of-push xs ys x y (omega arith))

length-operands_of : (xs ys : List (List (List Bool))) → length (operands_of xs ys) ≤ length xs
length-operands_of [] ys = omega arith
length-operands_of (a ∷ xs) [] = omega arith
length-operands_of (a ∷ xs) (b ∷ ys) = let h = length-operands_of xs ys in omega arith

-- the last rows of both lists were taken, and put behind the pairs
pub pairs_next : (left left' right right' : List (List (List Bool))) (rows others : List (List Bool)) (pairs new whole : List Operands)
    → length left ≡ length right → left ≡ left' ++ rows ∷ [] → right ≡ right' ++ others ∷ []
    → new ≡ pairs ++ record { left = rows; right = others } ∷ [] → operands_of left right ++ reverse pairs ≡ whole
    → (length left' ≡ length right') × (operands_of left' right' ++ reverse new ≡ whole)
pairs_next left left' right right' rows others pairs new whole long el er en e =
    let one : List Operands = record { left = rows; right = others } ∷ [] in
    let count : length left' ≡ length right' = omega (arith, long, ap length el, ap length er, length_push left' rows, length_push right' others) in (
      count,
      ap (λ (l : List Operands). operands_of left' right' ++ reverse l) en
          ∙ ap (λ (l : List Operands). operands_of left' right' ++ l) (reverse-append pairs one)
          ∙ sym (append_assoc (operands_of left' right') one (reverse pairs))
          ∙ ap (λ (l : List Operands). l ++ reverse pairs) (sym (operands_of-push left' right' rows others count))
          ∙ ap (λ (l : List (List (List Bool))). operands_of l (right' ++ others ∷ []) ++ reverse pairs) (sym el)
          ∙ ap (λ (l : List (List (List Bool))). operands_of left l ++ reverse pairs) (sym er)
          ∙ e,
    )

pub with_is : (like : LinearView) (columns : List Column) (left right : List (List (List Bool))) (products : List Operands) → IsView like
    → columns ≡ like.columns → length left ≤ 32768 → All (AreOperands (length like.columns)) (operands_of left right) → products ≡ operands_of left right
    → IsView (record { columns = columns; products = products })
with_is like columns left right products is ec few are ep =
    subst (λ (c : List Column). IsView (record { columns = c; products = products })) (sym ec)
    (subst (λ (p : List Operands). IsView (record { columns = like.columns; products = p })) (sym ep)
    (record {
      some_column = is.some_column;
      columns_fit = is.columns_fit;
      products_fit = omega (arith, length-operands_of left right, few);
      small_names = is.small_names;
      names_differ = is.names_differ;
      operands = are;
    }))

pub with_value : (like view : LinearView) (columns : List Column) (left right : List (List (List Bool))) (products : List Operands)
    → view ≡ record { columns = columns; products = products } → columns ≡ like.columns → products ≡ operands_of left right
    → view ≡ record { columns = like.columns; products = operands_of left right }
with_value like view columns left right products e ec ep =
    e ∙ ap (λ (c : List Column). let v : LinearView = record { columns = c; products = products } in v) ec
    ∙ ap (λ (p : List Operands). let v : LinearView = record { columns = like.columns; products = p } in v) ep
