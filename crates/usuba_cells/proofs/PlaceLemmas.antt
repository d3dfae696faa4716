-- Where declared variables begin among the numbered cells.
use Rattle.std.proofs.Common.{◌≡◌, refl, sym, ap, ◌∙◌, subst, ℕ, ◌+◌, ◌≤◌, Bool, true, false, ◌||◌, List, [], ◌∷◌, ◌++◌, map, Option, Some, None, inl, inr, arith, append-nil}
use Rattle.std.specs.Prelude.{bytes_eq, if◌then◌else◌}
use Rattle.std.specs.List.{list_any}
use Rattle.std.specs.Option.{option_or}
use Rattle.std.proofs.lemmas.Bool.{cases_Bool, or_right, or_parts}
use Rattle.usuba_trees.specs.declared.Decl.{Decl}
use Rattle.usuba_trees.specs.declared.Node.{Node}
use Rattle.usuba_cells.specs.declared.places.Variable.{Variable}
use Rattle.usuba_model.specs.Shapes.{sizes, elements, product, all_elements}
use Rattle.usuba_model.specs.Cells.{Picked, cells_of, sizes_of, read_of, divides_by_zero, meets_too_big, pick_outside, picked_elements}
use Rattle.usuba_model.specs.Unrolled.{declarations}
use Rattle.usuba_model.specs.Numbers.{cell_number}
use Rattle.usuba_cells.specs.State.Brackets.{picked_numbers}
use Rattle.usuba_cells.specs.State.Copies.{raised}
use Rattle.usuba_cells.specs.State.Places.{place_of, place_in}
use Rattle.usuba_cells.proofs.Elements.{elements-none}

or-assoc : {A : Type 0} (a b c : Option A) → option_or (option_or a b) c ≡ option_or a (option_or b c)
or-assoc None b c = refl
or-assoc (Some x) b c = refl

all_elements-append : (xs ys : List Decl) → all_elements (xs ++ ys) ≡ all_elements xs + all_elements ys
all_elements-append [] ys = omega arith
all_elements-append (x ∷ xs) ys = omega (arith, all_elements-append xs ys)

place_in-append : (first : ℕ) (xs ys : List Decl) (name : List ℕ)
    → place_in first (xs ++ ys) name ≡ option_or (place_in first xs name) (place_in (first + all_elements xs) ys name)
place_in-append first [] ys name = ap (λ n. place_in n ys name) (omega arith)
place_in-append first (x ∷ xs) ys name =
    ap (option_or (place_of first x name)) (place_in-append (first + elements x) xs ys name)
    ∙ sym (or-assoc (place_of first x name) (place_in (first + elements x) xs name) (place_in (first + elements x + all_elements xs) ys name))
    ∙ ap (λ n. option_or (place_in first (x ∷ xs) name) (place_in n ys name)) (omega arith)

-- the declarations of a node have as many elements as its inputs, outputs and locals
pub elements-of_node : (node : Node) → all_elements (declarations node) ≡ all_elements node.inputs + all_elements node.outputs + all_elements node.locals
elements-of_node node =
    all_elements-append (node.inputs ++ node.outputs) node.locals
    ∙ ap (λ n. n + all_elements node.locals) (all_elements-append node.inputs node.outputs)

-- the variables of a node: inputs, then outputs, then locals
pub places-of_node : (node : Node) (name : List ℕ) (outputs locals : ℕ) (before first second third : Option Variable)
    → outputs ≡ 0 + all_elements node.inputs → locals ≡ outputs + all_elements node.outputs
    → before ≡ None
    → first ≡ option_or before (place_in 0 node.inputs name)
    → second ≡ option_or first (place_in outputs node.outputs name)
    → third ≡ option_or second (place_in locals node.locals name)
    → third ≡ place_in 0 (declarations node) name
places-of_node node name outputs locals before first second third outputs_is locals_is before_is first_is second_is third_is =
    let inputs_at : first ≡ place_in 0 node.inputs name = first_is ∙ ap (λ o. option_or o (place_in 0 node.inputs name)) before_is in
    let outputs_at : second ≡ place_in 0 (node.inputs ++ node.outputs) name =
    second_is
    ∙ ap (λ o. option_or o (place_in outputs node.outputs name)) inputs_at
    ∙ ap (λ n. option_or (place_in 0 node.inputs name) (place_in n node.outputs name)) outputs_is
    ∙ sym (place_in-append 0 node.inputs node.outputs name) in
    third_is
    ∙ ap (λ o. option_or o (place_in locals node.locals name)) outputs_at
    ∙ ap (λ n. option_or (place_in 0 (node.inputs ++ node.outputs) name) (place_in n node.locals name))
    (omega (arith, outputs_is, locals_is, all_elements-append node.inputs node.outputs))
    ∙ sym (place_in-append 0 (node.inputs ++ node.outputs) node.locals name)

-- what is known of a variable that is found
pub record IsFound (declared : List Decl) (first : ℕ) (name : List ℕ) (variable : Variable) : Type 0 where
  pub sizes_are : sizes_of declared name ≡ Some variable.sizes
  pub numbers : (element : ℕ) → first + cell_number declared (record { name = name; element = element }) ≡ variable.first + element
  pub within : variable.first + product variable.sizes ≤ first + all_elements declared

pub place-found : (first : ℕ) (declared : List Decl) (name : List ℕ) (variable : Variable) → place_in first declared name ≡ Some variable
    → IsFound declared first name variable
place-found first [] name variable found = absurd (cc found)
place-found first (declaration ∷ rest) name variable found =
    elim (cases_Bool (bytes_eq declaration.name.text name)) [
      | inl same ↦
          (let here : place_of first declaration name ≡ Some (record { first = first; sizes = sizes declaration.shape }) =
          ap (λ b. if b then Some (record { first = first; sizes = sizes declaration.shape }) else None) same in
          let is : Some (record { first = first; sizes = sizes declaration.shape }) ≡ Some variable =
          sym (ap (λ o. option_or o (place_in (first + elements declaration) rest name)) here) ∙ found in
          let variable_is : record { first = first; sizes = sizes declaration.shape } ≡ variable = cc is in
          subst (IsFound (declaration ∷ rest) first name) variable_is (record {
            sizes_are = ap (λ b. if b then Some (sizes declaration.shape) else sizes_of rest name) same;
            numbers = λ element.
                ap (λ b. first + (if b then element else elements declaration + cell_number rest (record { name = name; element = element }))) same;
            within = omega arith;
          }))
      | inr other ↦
          (let there : place_in (first + elements declaration) rest name ≡ Some variable =
          sym (ap (λ b. option_or (if b then Some (record { first = first; sizes = sizes declaration.shape }) else None) (place_in (first + elements declaration) rest name)) other)
          ∙ found in
          let later = place-found (first + elements declaration) rest name variable there in
          record {
            sizes_are = ap (λ b. if b then Some (sizes declaration.shape) else sizes_of rest name) other ∙ later.sizes_are;
            numbers = λ element.
                ap (λ b. first + (if b then element else elements declaration + cell_number rest (record { name = name; element = element }))) other
                ∙ omega (arith, later.numbers element);
            within = omega (arith, later.within);
          })
    ]

-- a name that is not found is not declared
pub place-missing : (first : ℕ) (declared : List Decl) (name : List ℕ) → place_in first declared name ≡ None → sizes_of declared name ≡ None
place-missing first [] name missing = refl
place-missing first (declaration ∷ rest) name missing =
    elim (cases_Bool (bytes_eq declaration.name.text name)) [
      | inl same ↦
          (let is : Some (record { first = first; sizes = sizes declaration.shape }) ≡ None =
          sym (ap (λ b. option_or (if b then Some (record { first = first; sizes = sizes declaration.shape }) else None) (place_in (first + elements declaration) rest name)) same)
          ∙ missing in absurd (cc is))
      | inr other ↦
          ap (λ b. if b then Some (sizes declaration.shape) else sizes_of rest name) other
          ∙ place-missing (first + elements declaration) rest name
          (sym (ap (λ b. option_or (if b then Some (record { first = first; sizes = sizes declaration.shape }) else None) (place_in (first + elements declaration) rest name)) other)
          ∙ missing)
    ]

numbers-of : (declared : List Decl) (name : List ℕ) (first : ℕ) → ((element : ℕ) → cell_number declared (record { name = name; element = element }) ≡ first + element)
    → (picked : List ℕ) → map (cell_number declared) (cells_of name picked) ≡ raised first picked
numbers-of declared name first each [] = refl
numbers-of declared name first each (element ∷ picked) =
    ap (λ n. n ∷ map (cell_number declared) (cells_of name picked)) (each element) ∙ ap (λ l. (first + element) ∷ l) (numbers-of declared name first each picked)

either : (declared : List Decl) (name : List ℕ) (first : ℕ) → ((element : ℕ) → cell_number declared (record { name = name; element = element }) ≡ first + element)
    → (at_fault : Bool) (picked : List ℕ)
    → raised first (if at_fault then [] else picked) ≡ map (cell_number declared) (if at_fault then [] else cells_of name picked)
either declared name first each true picked = refl
either declared name first each false picked = sym (numbers-of declared name first each picked)

-- the cells that a spot of a declared variable picks, by their numbers
pub cells-found : (declared : List Decl) (name : List ℕ) (variable : Variable) (brackets : List Picked) → IsFound declared 0 name variable
    → raised variable.first (picked_numbers variable.sizes brackets)
    ≡ map (cell_number declared) (read_of name brackets (sizes_of declared name)).cells
cells-found declared name variable brackets found =
    either declared name variable.first (λ element. omega (arith, found.numbers element))
    (list_any divides_by_zero brackets || (list_any meets_too_big brackets || pick_outside variable.sizes brackets))
    (picked_elements variable.sizes brackets)
    ∙ ap (λ o. map (cell_number declared) (read_of name brackets o).cells) (sym found.sizes_are)

-- the same of a name that is not declared: none
pub cells-missing : (declared : List Decl) (name : List ℕ) (brackets : List Picked) (numbers : List ℕ) → sizes_of declared name ≡ None
    → numbers ≡ numbers ++ map (cell_number declared) (read_of name brackets (sizes_of declared name)).cells
cells-missing declared name brackets numbers missing =
    sym (append-nil numbers) ∙ ap (λ o. numbers ++ map (cell_number declared) (read_of name brackets o).cells) (sym missing)

-- where something is divided by zero no cells are picked
pub none-divided : (sizes : List ℕ) (brackets : List Picked) → list_any divides_by_zero brackets ≡ true → picked_numbers sizes brackets ≡ []
none-divided sizes brackets divided =
    ap (λ b. if b || (list_any meets_too_big brackets || pick_outside sizes brackets) then [] else picked_elements sizes brackets) divided

-- nor where an index is out
pub none-out : (sizes : List ℕ) (brackets : List Picked) → (list_any meets_too_big brackets || pick_outside sizes brackets) ≡ true
    → picked_numbers sizes brackets ≡ []
none-out sizes brackets out =
    ap (λ b. if b then [] else picked_elements sizes brackets)
    (or_right (list_any divides_by_zero brackets) (list_any meets_too_big brackets || pick_outside sizes brackets) out)

-- nor where there are no elements
pub none-empty : (sizes : List ℕ) (brackets : List Picked) → product sizes ≡ 0 → (list_any meets_too_big brackets || pick_outside sizes brackets) ≡ false
    → picked_numbers sizes brackets ≡ []
none-empty sizes brackets empty inside =
    either_way (list_any divides_by_zero brackets || (list_any meets_too_big brackets || pick_outside sizes brackets)) (picked_elements sizes brackets)
    (elements-none sizes brackets empty (or_parts (list_any meets_too_big brackets) (pick_outside sizes brackets) inside).1)
  where
    either_way : (b : Bool) (picked : List ℕ) → picked ≡ [] → (if b then [] else picked) ≡ []
    either_way true picked none = refl
    either_way false picked none = none

-- nothing is appended
pub none-appended : (first : ℕ) (picked numbers : List ℕ) → picked ≡ [] → numbers ≡ numbers ++ raised first picked
none-appended first picked numbers none = sym (append-nil numbers) ∙ ap (λ l. numbers ++ raised first l) (sym none)
