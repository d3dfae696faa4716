-- The numbers of code and of cells: what code reads and assigns, and membership.
use Rattle.std.proofs.Common.{◌≡◌, ◌<◌, ◌+◌, ℕ, Bool, true, false, ◌||◌, List, [], ◌∷◌, ◌++◌, map, refl, sym, ap, ◌∙◌, subst, arith, append_assoc, append-nil}
use Rattle.std.specs.Prelude.{nat_eq, nat_lt, bytes_eq, if◌then◌else◌}
use Rattle.std.specs.List.{list_all}
use Rattle.std.proofs.lemmas.Bool.{eqb-true, lt-ltb, and_parts}
use Rattle.std.proofs.lemmas.List.{map-append}
use Rattle.std.proofs.lemmas.Slice.Eq.{bytes_eq-Decides}
use Rattle.usuba_trees.specs.declared.Decl.{Decl}
use Rattle.usuba_model.specs.Assignments.{cells_read, assigned_cells, read_cells}
use Rattle.usuba_model.specs.Cells.{Cell, same_cell, is_among}
use Rattle.usuba_model.specs.Names.{is_name_among, names_of}
use Rattle.usuba_model.specs.Numbers.{cell_number, callee_number, is_declared, AreDistinct}
use Rattle.usuba_model.specs.Shapes.{elements, all_elements}
use Rattle.usuba_model.specs.Unrolled.{Expression, cells, number, nothing, joined, call, complement, operation, shift, refresh, Target, Instance, target_cells, left_cells}
use Rattle.usuba_model.specs.Walk.{Signature, size_of}
use Rattle.usuba_code.specs.declared.operation.Operation.{Operation}
use Rattle.usuba_code.specs.declared.operation.Operation.TheVariants as make
use Rattle.usuba_code.proofs.Numbering.{same_number, number_below}
use Rattle.usuba_code.specs.Code.{read_cell, code_of, assigned, coded}
use Rattle.ready_order.specs.Numbered.{is_one_of, target_numbers, left_numbers, number_read, numbers_read, assigned_numbers, read_numbers, AreBelow}
use Rattle.ready_order.proofs.Among.{false_true}

-- the cells that instances assign and read are elements of declared variables
pub record AreDeclared (declared : List Decl) (instances : List Instance) : Type 0 where
  pub assigned : list_all (is_declared declared) (assigned_cells instances) ≡ true
  pub read : list_all (is_declared declared) (read_cells instances) ≡ true

-- membership of numbers is membership of cells
pub among_numbers : (declared : List Decl) (some : List Cell) (c : Cell) → list_all (is_declared declared) some ≡ true
    → is_declared declared c ≡ true → is_one_of (map (cell_number declared) some) (cell_number declared c) ≡ is_among some c
among_numbers declared [] c all p = refl
among_numbers declared (x ∷ some) c all p =
    let parts = and_parts (is_declared declared x) (list_all (is_declared declared) some) all in
    ap (λ (b : Bool). b || is_one_of (map (cell_number declared) some) (cell_number declared c)) (sym (same_number declared c x p parts.0))
    ∙ ap (λ (b : Bool). same_cell c x || b) (among_numbers declared some c parts.1 p)

-- a number of one of some elements of declared variables is below the count of all elements
pub among_below : (declared : List Decl) (some : List Cell) → list_all (is_declared declared) some ≡ true → (n : ℕ)
    → is_one_of (map (cell_number declared) some) n ≡ true → n < all_elements declared
among_below declared [] all n m = false_true m
among_below declared (x ∷ some) all n m =
    at_first (nat_eq n (cell_number declared x)) refl m (among_below declared some parts.1 n)
  where
    parts : (is_declared declared x ≡ true) × (list_all (is_declared declared) some ≡ true)
    parts = and_parts (is_declared declared x) (list_all (is_declared declared) some) all

    at_first : (b : Bool) → nat_eq n (cell_number declared x) ≡ b → (b || is_one_of (map (cell_number declared) some) n) ≡ true
        → (is_one_of (map (cell_number declared) some) n ≡ true → n < all_elements declared) → n < all_elements declared
    at_first true e m later =
        subst (λ (k : ℕ). k < all_elements declared) (sym (eqb-true n (cell_number declared x) e)) (number_below declared x parts.0)
    at_first false e m later = later m

numbers_read-append : (a b : List Operation) → numbers_read (a ++ b) ≡ numbers_read a ++ numbers_read b
numbers_read-append [] b = refl
numbers_read-append (o ∷ a) b =
    ap (λ ns. number_read o ++ ns) (numbers_read-append a b) ∙ sym (append_assoc (number_read o) (numbers_read a) (numbers_read b))

module _ (signatures : List Signature) (declared : List Decl) where
  read_cells_numbers : (read : List Cell) → numbers_read (map (read_cell declared) read) ≡ map (cell_number declared) read
  read_cells_numbers [] = refl
  read_cells_numbers (c ∷ read) = ap (λ ns. cell_number declared c ∷ ns) (read_cells_numbers read)

  -- an operation that reads nothing at the end of code
  no_more : (a : List Operation) (o : Operation) → number_read o ≡ [] → numbers_read (a ++ o ∷ []) ≡ numbers_read a
  no_more a o none =
      numbers_read-append a (o ∷ []) ∙ ap (λ ns. numbers_read a ++ (ns ++ [])) none ∙ append-nil (numbers_read a)

  two_parts : (a b : List Operation) (xs ys : List Cell) → numbers_read a ≡ map (cell_number declared) xs → numbers_read b ≡ map (cell_number declared) ys
      → numbers_read (a ++ b) ≡ map (cell_number declared) (xs ++ ys)
  two_parts a b xs ys e f =
      numbers_read-append a b ∙ ap (λ ns. ns ++ numbers_read b) e ∙ ap (λ ns. map (cell_number declared) xs ++ ns) f
      ∙ sym (map-append (cell_number declared) xs ys)

  -- the numbers that the code of an expression reads are those of the cells that it reads
  pub code_numbers : (e : Expression) → numbers_read (code_of signatures declared e) ≡ map (cell_number declared) (cells_read e)
  code_numbers (number value) = refl
  code_numbers (cells read) = read_cells_numbers read
  code_numbers nothing = refl
  code_numbers (joined a b) =
      two_parts (code_of signatures declared a) (code_of signatures declared b) (cells_read a) (cells_read b) (code_numbers a) (code_numbers b)
  code_numbers (call name args) = no_more (code_of signatures declared args) (make.Call (callee_number signatures name) (size_of signatures args)) refl ∙ code_numbers args
  code_numbers (complement a) = no_more (code_of signatures declared a) (make.Complement (size_of signatures a)) refl ∙ code_numbers a
  code_numbers (operation op a b) =
      no_more (code_of signatures declared a ++ code_of signatures declared b) (make.Combine op (size_of signatures a)) refl
      ∙ two_parts (code_of signatures declared a) (code_of signatures declared b) (cells_read a) (cells_read b) (code_numbers a) (code_numbers b)
  code_numbers (shift kind amount a) = no_more (code_of signatures declared a) (make.Shift kind amount) refl ∙ code_numbers a
  code_numbers (refresh k a) = no_more (code_of signatures declared a) (make.Refresh k (size_of signatures a)) refl ∙ code_numbers a

  pub target_cells_numbers : (targets : List Target)
      → target_numbers (map (assigned declared) targets) ≡ map (cell_number declared) (target_cells targets)
  target_cells_numbers [] = refl
  target_cells_numbers (t ∷ targets) =
      ap (λ ns. map (cell_number declared) t.cells ++ ns) (target_cells_numbers targets)
      ∙ sym (map-append (cell_number declared) t.cells (target_cells targets))

  -- the numbers that an instance assigns are those of its left cells
  pub left_cells_numbers : (i : Instance) → left_numbers (coded signatures declared i) ≡ map (cell_number declared) (left_cells i)
  left_cells_numbers i = target_cells_numbers i.targets

  pub assigned_cells_numbers : (instances : List Instance)
      → assigned_numbers (map (coded signatures declared) instances) ≡ map (cell_number declared) (assigned_cells instances)
  assigned_cells_numbers [] = refl
  assigned_cells_numbers (i ∷ instances) =
      ap (λ ns. ns ++ assigned_numbers (map (coded signatures declared) instances)) (left_cells_numbers i)
      ∙ ap (λ ns. map (cell_number declared) (left_cells i) ++ ns) (assigned_cells_numbers instances)
      ∙ sym (map-append (cell_number declared) (left_cells i) (assigned_cells instances))

  pub read_cells_all_numbers : (instances : List Instance)
      → read_numbers (map (coded signatures declared) instances) ≡ map (cell_number declared) (read_cells instances)
  read_cells_all_numbers [] = refl
  read_cells_all_numbers (i ∷ instances) =
      ap (λ ns. ns ++ read_numbers (map (coded signatures declared) instances)) (code_numbers i.right)
      ∙ ap (λ ns. map (cell_number declared) (cells_read i.right) ++ ns) (read_cells_all_numbers instances)
      ∙ sym (map-append (cell_number declared) (cells_read i.right) (read_cells instances))

  -- so all numbers are below the count of all elements
  pub all_below : (instances : List Instance) → AreDeclared declared instances
      → AreBelow (all_elements declared) (map (coded signatures declared) instances)
  all_below instances all = record {
    assigned = λ c m. among_below declared (assigned_cells instances) all.assigned c
        (ap (λ ns. is_one_of ns c) (sym (assigned_cells_numbers instances)) ∙ m);
    read = λ c m. among_below declared (read_cells instances) all.read c
        (ap (λ ns. is_one_of ns c) (sym (read_cells_all_numbers instances)) ∙ m);
  }

-- a name that is none of some names is not that of one of them
other_name : (name : List ℕ) (before : List Decl) (d : Decl) (after : List Decl) → is_name_among (names_of (before ++ d ∷ after)) name ≡ false
    → bytes_eq name d.name.text ≡ false
other_name name [] d after e = first_false (bytes_eq name d.name.text) (is_name_among (names_of after) name) e
  where
    first_false : (a b : Bool) → (a || b) ≡ false → a ≡ false
    first_false true b e = false_true (sym e)
    first_false false b e = refl
other_name name (x ∷ before) d after e = other_name name before d after (second_false (bytes_eq name x.name.text) _ e)
  where
    second_false : (a b : Bool) → (a || b) ≡ false → b ≡ false
    second_false true b e = false_true (sym e)
    second_false false b e = e

-- the own cells of a declared variable, among distinct names
pub own_number : (before : List Decl) (d : Decl) (after : List Decl) → AreDistinct (before ++ d ∷ after) → (e : ℕ)
    → cell_number (before ++ d ∷ after) (record { name = d.name.text; element = e }) ≡ all_elements before + e
own_number [] d after distinct e =
    ap (λ (b : Bool). if b then e else elements d + cell_number after (record { name = d.name.text; element = e }))
    ((bytes_eq-Decides d.name.text d.name.text).1 refl)
    ∙ omega arith
own_number (x ∷ before) d after distinct e =
    let more = own_number before d after distinct.1 e in
    ap (λ (b : Bool). if b then e else elements x + cell_number (before ++ d ∷ after) (record { name = d.name.text; element = e }))
    (other_name x.name.text before d after distinct.0)
    ∙ omega (arith, more)

pub own_declared : (before : List Decl) (d : Decl) (after : List Decl) → AreDistinct (before ++ d ∷ after) → (e : ℕ) → e < elements d
    → is_declared (before ++ d ∷ after) (record { name = d.name.text; element = e }) ≡ true
own_declared [] d after distinct e h =
    ap (λ (b : Bool). if b then nat_lt e (elements d) else is_declared after (record { name = d.name.text; element = e }))
    ((bytes_eq-Decides d.name.text d.name.text).1 refl)
    ∙ lt-ltb e (elements d) h
own_declared (x ∷ before) d after distinct e h =
    ap (λ (b : Bool). if b then nat_lt e (elements x) else is_declared (before ++ d ∷ after) (record { name = d.name.text; element = e }))
    (other_name x.name.text before d after distinct.0)
    ∙ own_declared before d after distinct.1 e h
