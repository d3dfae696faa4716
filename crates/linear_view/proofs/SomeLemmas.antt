-- Some of the columns of a circuit: what holds of all holds of them, and how they are gathered.
use Rattle.std.proofs.Common.{◌≡◌, ℕ, ◌+◌, ◌<◌, ◌≤◌, ◌⊎◌, inl, inr, Bool, true, false, ◌||◌, List, [], ◌∷◌, ◌++◌, length, take, get_or, Some, refl, sym, ap, ◌∙◌, subst, arith, if◌then◌else◌}
use Rattle.std.specs.List.{slice_get, list_any, AllByRecursion}
use Rattle.std.proofs.lemmas.List.{append-nil, take_all, length-take-le}
use Rattle.std.proofs.lemmas.Option.{get_or_from_slice_get, slice_get_within}
use Rattle.usuba0.specs.declared.circuit.Gate.{Gate}
use Rattle.usuba0.specs.Circuit.{products_of, refreshes_of}
use Rattle.usuba0.proofs.CircuitLemmas.{counts_le}
use Rattle.linear_view.specs.declared.column.Column.{Column}
use Rattle.linear_view.specs.declared.column.ColumnKind.TheVariants.{Product, Refresh}
use Rattle.linear_view.specs.declared.walk.Stage.{Stage}
use Rattle.linear_view.specs.Names.{same_column, input_columns, gate_columns, equation_columns}
use Rattle.linear_view.specs.NarrowView.{AreSomeOf, none, taken, left_out}
use Rattle.linear_view.specs.Walk.{IsNewName, IsReadAfter, AreAmong, HoldsNeeded}
use Rattle.linear_view.proofs.ColumnLemmas.{IsAbsent, absent-append, no_input, new_product, new_refresh, columns_step, products_of-more, refreshes_of-more}
use Rattle.linear_view.proofs.ApartLemmas.{AreApart, present_left, present_right}

pub some_itself : (all : List Column) → AreSomeOf all all
some_itself [] = none
some_itself (x ∷ xs) = taken (some_itself xs)

pub some_nothing : (all : List Column) → AreSomeOf [] all
some_nothing [] = none
some_nothing (x ∷ xs) = left_out (some_nothing xs)

pub some_append : {some all more_some more : List Column} → AreSomeOf some all → AreSomeOf more_some more
    → AreSomeOf (some ++ more_some) (all ++ more)
some_append none q = q
some_append (taken p) q = taken (some_append p q)
some_append (left_out p) q = left_out (some_append p q)

none_of_two : (x y : Bool) → (x || y) ≡ false → (x ≡ false) × (y ≡ false)
none_of_two true y e = absurd (cc)
none_of_two false y e = (refl, e)

pub some_absent : (name : Column) {some all : List Column} → AreSomeOf some all → IsAbsent name all → IsAbsent name some
some_absent name none absent = absent
some_absent name (taken {column} {some} {all} p) absent =
    let both = none_of_two (same_column name column) (list_any (same_column name) all) absent in
    ap (λ (b : Bool). b || list_any (same_column name) some) both.0 ∙ some_absent name p both.1
some_absent name (left_out {column} {some} {all} p) absent =
    some_absent name p (none_of_two (same_column name column) (list_any (same_column name) all) absent).1

pub some_apart : {some all : List Column} → AreSomeOf some all → AreApart all → AreApart some
some_apart none apart = tt
some_apart (taken {column} p) apart = (some_absent column p apart.0, some_apart p apart.1)
some_apart (left_out p) apart = some_apart p apart.1

pub some_each : (P : Column → Type 0) {some all : List Column} → AreSomeOf some all → AllByRecursion P all → AllByRecursion P some
some_each P none h = tt
some_each P (taken p) h = (h.0, some_each P p h.1)
some_each P (left_out p) h = some_each P p h.1

pub some_length : {some all : List Column} → AreSomeOf some all → length some ≤ length all
some_length none = omega arith
some_length (taken p) = let h = some_length p in omega arith
some_length (left_out p) = let h = some_length p in omega arith

-- ---- the columns that were gathered before equation i

pub record HoldsSoFar (w n : ℕ) (gs : List Gate) (last : List ℕ) (i : ℕ) (stage : Stage) (keys : List Column) : Type 0 where
  pub some : AreSomeOf keys (input_columns w n ++ equation_columns w 0 0 (take i gs))
  pub all_inputs : AreAmong (input_columns w n) keys
  pub own : (k : ℕ) (g : Gate) → k < i → slice_get gs k ≡ Some g → IsReadAfter last (n + k) k
      → AreAmong (gate_columns w (products_of (take k gs)) (refreshes_of (take k gs)) g) keys
  pub width : stage.width ≡ w
  pub equations : stage.equations ≡ i
  pub products : stage.products ≡ products_of (take i gs)
  pub refreshes : stage.refreshes ≡ refreshes_of (take i gs)

pub so_far_first : (w n : ℕ) (gs : List Gate) (last : List ℕ) (stage : Stage) (keys : List Column) → keys ≡ input_columns w n
    → stage ≡ record { width = w; equations = 0; products = 0; refreshes = 0 } → HoldsSoFar w n gs last 0 stage keys
so_far_first w n gs last stage keys e es =
    record {
      some =
          subst (λ (l : List Column). AreSomeOf l (input_columns w n ++ [])) (sym (e ∙ sym (append-nil (input_columns w n))))
          (some_itself (input_columns w n ++ []));
      all_inputs = λ name there. subst (λ (l : List Column). list_any (same_column name) l ≡ true) (sym e) there;
      own = λ k g h there read. absurd (omega arith);
      width = ap (λ (s : Stage). s.width) es;
      equations = ap (λ (s : Stage). s.equations) es;
      products = ap (λ (s : Stage). s.products) es;
      refreshes = ap (λ (s : Stage). s.refreshes) es;
    }

pub so_far_product : (w n : ℕ) (gs : List Gate) (last : List ℕ) (i : ℕ) (stage : Stage) (keys : List Column)
    → HoldsSoFar w n gs last i stage keys → IsNewName Product stage.products keys
so_far_product w n gs last i stage keys far bit =
    let name : Column = record { kind = Product; number = stage.products; bit = bit } in
    some_absent name far.some
    (absent-append name (input_columns w n) (equation_columns w 0 0 (take i gs)) (no_input name w n refl)
    (new_product w 0 0 stage.products bit (take i gs) (omega (arith, far.products))))

pub so_far_refresh : (w n : ℕ) (gs : List Gate) (last : List ℕ) (i : ℕ) (stage : Stage) (keys : List Column)
    → HoldsSoFar w n gs last i stage keys → IsNewName Refresh stage.refreshes keys
so_far_refresh w n gs last i stage keys far bit =
    let name : Column = record { kind = Refresh; number = stage.refreshes; bit = bit } in
    some_absent name far.some
    (absent-append name (input_columns w n) (equation_columns w 0 0 (take i gs)) (no_input name w n refl)
    (new_refresh w 0 0 stage.refreshes bit (take i gs) (omega (arith, far.refreshes))))

pub so_far_counts : (w n : ℕ) (gs : List Gate) (last : List ℕ) (i : ℕ) (stage : Stage) (keys : List Column) → i < length gs
    → HoldsSoFar w n gs last i stage keys → (stage.products ≤ i) × (stage.refreshes ≤ i)
so_far_counts w n gs last i stage keys h far =
    let few = counts_le (take i gs) in
    let long = length-take-le i gs (omega arith) in
    (omega (arith, far.products, few, long), omega (arith, far.refreshes, few, long))

some_if : (b : Bool) (own : List Column) → AreSomeOf (if b then own else []) own
some_if true own = some_itself own
some_if false own = some_nothing own

pub so_far_next : (w n : ℕ) (gs : List Gate) (last : List ℕ) (i : ℕ) (d : Gate) (stage next : Stage) (keys new : List Column) (is_read : Bool)
    → i < length gs → (i < get_or last (n + i) 0 → is_read ≡ true)
    → HoldsSoFar w n gs last i stage keys
    → new ≡ keys ++ (if is_read then gate_columns stage.width stage.products stage.refreshes (get_or gs i d) else [])
    → next ≡ record { width = stage.width; equations = stage.equations + 1; products = stage.products + products_of (get_or gs i d ∷ []); refreshes = stage.refreshes + refreshes_of (get_or gs i d ∷ []) }
    → HoldsSoFar w n gs last (i + 1) next new
so_far_next w n gs last i d stage next keys new is_read h reads far added en =
    let g = get_or gs i d in
    let before = input_columns w n ++ equation_columns w 0 0 (take i gs) in
    let own = gate_columns stage.width stage.products stage.refreshes g in
    let own_now = gate_columns w (products_of (take i gs)) (refreshes_of (take i gs)) g in
    let same : own ≡ own_now =
    ap (λ (m : ℕ). gate_columns m stage.products stage.refreshes g) far.width
    ∙ ap (λ (m : ℕ). gate_columns w m stage.refreshes g) far.products
    ∙ ap (λ (m : ℕ). gate_columns w (products_of (take i gs)) m g) far.refreshes in
    let all : before ++ own ≡ input_columns w n ++ equation_columns w 0 0 (take (i + 1) gs) =
    columns_step w n gs i d before (before ++ own) stage.width stage.products stage.refreshes h refl far.width far.products far.refreshes refl in
    let kept : AreAmong keys new =
    λ name there. subst (λ (l : List Column). list_any (same_column name) l ≡ true) (sym added)
    (present_left name keys (if is_read then own else []) there) in
    record {
      some =
          subst (λ (l : List Column). AreSomeOf new l) all
          (subst (λ (l : List Column). AreSomeOf l (before ++ own)) (sym added) (some_append far.some (some_if is_read own)));
      all_inputs = λ name there. kept name (far.all_inputs name there);
      own =
          λ k f below there read name present.
          elim (cases k i below) as (λ _. list_any (same_column name) new ≡ true) [
            | inl old ↦ kept name (far.own k f old there read name present)
            | inr here ↦
                let is : g ≡ f = get_or_from_slice_get gs i f d (ap (slice_get gs) (sym here) ∙ there) in
                let at_own : list_any (same_column name) own ≡ true =
                subst (λ (l : List Column). list_any (same_column name) l ≡ true) (sym same)
                (subst (λ (x : Gate). list_any (same_column name) (gate_columns w (products_of (take i gs)) (refreshes_of (take i gs)) x) ≡ true) (sym is)
                (subst (λ (m : ℕ). list_any (same_column name) (gate_columns w (products_of (take m gs)) (refreshes_of (take m gs)) f) ≡ true) here present)) in
                let taken_here : is_read ≡ true = reads (subst (λ (m : ℕ). m < get_or last (n + m) 0) here read) in
                subst (λ (l : List Column). list_any (same_column name) l ≡ true)
                (sym (added ∙ ap (λ (b : Bool). keys ++ (if b then own else [])) taken_here))
                (present_right name keys own at_own)
          ];
      width = ap (λ (s : Stage). s.width) en ∙ far.width;
      equations = ap (λ (s : Stage). s.equations) en ∙ ap (λ (m : ℕ). m + 1) far.equations;
      products = ap (λ (s : Stage). s.products) en ∙ ap (λ (m : ℕ). m + products_of (g ∷ [])) far.products ∙ sym (products_of-more gs i d h);
      refreshes = ap (λ (s : Stage). s.refreshes) en ∙ ap (λ (m : ℕ). m + refreshes_of (g ∷ [])) far.refreshes ∙ sym (refreshes_of-more gs i d h);
    }
  where
    cases : (k i : ℕ) → k < i + 1 → (k < i) ⊎ (k ≡ i)
    cases k i h = grind arith

pub so_far_ends : (w n : ℕ) (gs : List Gate) (last : List ℕ) (i : ℕ) (stage : Stage) (keys : List Column) → length gs ≤ i
    → HoldsSoFar w n gs last i stage keys → HoldsNeeded w n gs last keys
so_far_ends w n gs last i stage keys h far =
    record {
      some = subst (λ (l : List Gate). AreSomeOf keys (input_columns w n ++ equation_columns w 0 0 l)) (take_all i gs h) far.some;
      all_inputs = far.all_inputs;
      own = λ k g there read. far.own k g (omega (arith, slice_get_within gs k g there, h)) there read;
    }
