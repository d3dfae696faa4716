-- The terms of a generated source: two for each line, so that its core is within the limits.
use Rattle.std.proofs.Common.{◌≡◌, ◌⊎◌, inl, inr, ℕ, zero, suc, ◌+◌, ◌-◌, ◌*◌, ◌<◌, ◌≤◌, ◌∙◌, Bool, true, false, ◌||◌, List, [], ◌∷◌, ◌++◌, length, map, append-nil, Option, Some, None, refl, sym, ap, subst, arith, length-append, if◌then◌else◌}
use Rattle.std.specs.Prelude.{nat_lt, option_and_then, option_map, bit_xor}
use Rattle.std.specs.List.{range_with_len}
use Rattle.std.specs.Option.{option_or}
use Rattle.std.proofs.lemmas.Bool.Decides.{nat_tests}
use Rattle.source_gen.specs.declared.operands.Operands.{Operands}
use Rattle.usuba_trees.specs.declared.BitOp.TheVariants as op
use Rattle.usuba0.specs.Circuit.{Circuit, IsSmall, HasFewColumns}
use Rattle.usuba0.specs.CoreOfTerms.{postorder, walk, same_term, is_among, subterms, register_of, equations_of, core_of_terms}
use Rattle.usuba0.specs.State.Walk.{AllAmong}
use Rattle.usuba0.specs.Term.{Term, Input, Xor, And, constant, folded_two, xor_term, and_by, and_term}
use Rattle.usuba0.proofs.CircuitLemmas.{counts_le}
use Rattle.usuba0.proofs.WalkLemmas.{same_term-itself, AllAmong-append, AllAmong-more}
use Rattle.usuba_model.specs.Cells as model
use Rattle.usuba_model.specs.Cells.{Cell, same_cell, cells_of, declared_cells}
use Rattle.usuba_model.specs.Rounds.{Environment, Callees, both, whole, element_by_element, value_of, given, outcome, outcomes}
use Rattle.usuba_model.specs.Unrolled.{Instance}
use Rattle.usuba_model.proofs.CellLemmas.{same_cells, same_cell_itself}
use Rattle.usuba_model.proofs.Ordering.{AreIn, AreFresh, extended, in_order, outcome_in_order}
use Rattle.source_terms.specs.SourceTerms.{term_operators, source_terms, core_of_source}
use Rattle.generated_files.proofs.Lines.{LinePlaces}
use Rattle.generated_files.proofs.Spelling.{AllBelow, output_of, node_of, file_of}
use Rattle.generated_files.proofs.Readings.{cell, operand_cell}
use Rattle.generated_files.proofs.Instances.{right_read, instances_from}
use Rattle.generated_files.proofs.Assigning.{AreFreshFrom, fresh_next, other_element, input_cells, inputs_fresh}
use Rattle.generated_files.proofs.Judged.{unrolled_is}
use Rattle.generated_files.proofs.Counting.{subterms_at_most, equations_at_most}

-- an operand has a term that is no constant, and whose subterms are among those made
abbrev HasTerm : Environment Term → List Term → ℕ → Type 0
HasTerm e made j = (t : Term) × (e (operand_cell j) ≡ Some t) × (constant t ≡ None) × AllAmong (postorder t) made

-- where the lines before k were taken: each operand has such a term, and no other output is defined
record Stands (k : ℕ) (e : Environment Term) (made : List Term) : Type 0 where
  defined : (j : ℕ) → j < 8 + k → HasTerm e made j
  undefined : (i : ℕ) → k ≤ i → e (cell 122 i) ≡ None

or_if : (b : Bool) {c : Bool} → c ≡ true → (if b then true else c) ≡ true
or_if true e = refl
or_if false e = e

among_right : (t : Term) (us vs : List Term) → is_among t vs ≡ true → is_among t (us ++ vs) ≡ true
among_right t [] vs there = there
among_right t (u ∷ us) vs there = or_if (same_term t u) (among_right t us vs there)

among_first : (t : Term) (us : List Term) → is_among t (t ∷ us) ≡ true
among_first t us = ap (λ (b : Bool). if b then true else is_among t us) (same_term-itself t)

-- the two terms of a line
abbrev sum_term : Term → Term → Term
sum_term a b = Xor a b

abbrev line_term : Term → Term → Term → Term
line_term a b c = And (Xor a b) c

line_among : (a b c : Term) (made : List Term) → AllAmong (postorder a) made → AllAmong (postorder b) made
    → AllAmong (postorder c) made
    → AllAmong (postorder (line_term a b c)) (made ++ sum_term a b ∷ line_term a b c ∷ [])
line_among a b c made p q r =
    let more : List Term = sum_term a b ∷ line_term a b c ∷ [] in
    let s : is_among (sum_term a b) (made ++ more) ≡ true
    = among_right (sum_term a b) made more (among_first (sum_term a b) (line_term a b c ∷ [])) in
    let t : is_among (line_term a b c) (made ++ more) ≡ true
    = among_right (line_term a b c) made more (or_if (same_term (line_term a b c) (sum_term a b))
    (among_first (line_term a b c) [])) in
    AllAmong-append (postorder (sum_term a b) ++ postorder c) (line_term a b c ∷ []) (made ++ more)
    (AllAmong-append (postorder (sum_term a b)) (postorder c) (made ++ more)
    (AllAmong-append (postorder a ++ postorder b) (sum_term a b ∷ []) (made ++ more)
    (AllAmong-append (postorder a) (postorder b) (made ++ more) (AllAmong-more (postorder a) made more p)
    (AllAmong-more (postorder b) made more q)) (s, tt))
    (AllAmong-more (postorder c) made more r))
    (t, tt)

-- terms that are no constants are put together as they stand
line_made : (a b c : Term) → constant a ≡ None → constant c ≡ None → and_term (xor_term a b) c ≡ line_term a b c
line_made a b c p q =
    ap (λ (o : Option ℕ). and_term (folded_two bit_xor o (constant b) (Xor a b)) c) p
    ∙ ap (λ (o : Option ℕ). and_by None o (Xor a b) c) q

-- the cell of the operand that line k makes
line_cell : (k : ℕ) → operand_cell (8 + k) ≡ cell 122 k
line_cell k =
    let high : nat_lt (8 + k) 8 ≡ false = grind (arith, nat_tests) in
    let same : 8 + k - 8 ≡ k = omega arith in
    ap (λ (b : Bool). cell (if b then 120 else 122) (if b then 8 + k else 8 + k - 8)) high ∙ ap (cell 122) same

module _ (callees : Callees Term) where
  abbrev valued : Option Term → Option Term → Option Term → Option (List Term)
  valued x y z =
      both (element_by_element ((term_operators 1).operation_of op.And))
      (both (element_by_element ((term_operators 1).operation_of op.Xor)) (whole (x ∷ [])) (whole (y ∷ [])))
      (whole (z ∷ []))

  -- the value of a line's right side
  line_value : (o : Operands) (e : Environment Term) (a b c : Term) → e (operand_cell o.first) ≡ Some a
      → e (operand_cell o.second) ≡ Some b
      → e (operand_cell o.third) ≡ Some c → constant a ≡ None → constant c ≡ None
      → value_of (term_operators 1) callees e (right_read o) ≡ Some (line_term a b c ∷ [])
  line_value o e a b c p q r no_a no_c =
      let opened : value_of (term_operators 1) callees e (right_read o) ≡ valued (e (operand_cell o.first))
      (e (operand_cell o.second)) (e (operand_cell o.third))
      = refl in
      opened ∙ ap (λ (x : Option Term). valued x (e (operand_cell o.second)) (e (operand_cell o.third))) p
      ∙ ap (λ (y : Option Term). valued (Some a) y (e (operand_cell o.third))) q ∙ ap (valued (Some a) (Some b)) r
      ∙ ap (λ (t : Term). Some (t ∷ [])) (line_made a b c no_a no_c)

  abbrev next_environment : Environment Term → ℕ → Term → Environment Term
  next_environment e k t = extended e (cell 122 k ∷ []) (t ∷ [])

  -- what stands before line k + 1
  stands_next : (k : ℕ) (e : Environment Term) (made : List Term) (s t : Term) → Stands k e made → constant t ≡ None
      → AllAmong (postorder t) (made ++ s ∷ t ∷ []) → Stands (k + 1) (next_environment e k t) (made ++ s ∷ t ∷ [])
  stands_next k e made s t stands no_constant among = record {
    defined = λ j below. of_case j (below_or_last j below);
    undefined = later;
  }
    where
      below_or_last : (j : ℕ) → j < 8 + (k + 1) → (j < 8 + k) ⊎ (j ≡ 8 + k)
      below_or_last j below = by_test (nat_lt j (8 + k)) refl
        where
          by_test : (b : Bool) → nat_lt j (8 + k) ≡ b → (j < 8 + k) ⊎ (j ≡ 8 + k)
          by_test true is = inl (grind (arith, nat_tests))
          by_test false is = let high : 8 + k ≤ j = grind (arith, nat_tests) in inr (omega (arith, high, below))

      last : next_environment e k t (cell 122 k) ≡ Some t
      last =
          ap (λ (o : Option Term). option_or o (given (cell 122 k ∷ []) (t ∷ []) (cell 122 k)))
          (stands.undefined k (omega arith))
          ∙ ap (λ (b : Bool). if b then Some t else None) (same_cell_itself (cell 122 k))

      of_case : (j : ℕ) → (j < 8 + k) ⊎ (j ≡ 8 + k) → HasTerm (next_environment e k t) (made ++ s ∷ t ∷ []) j
      of_case j (inl below) =
          let there = stands.defined j below in (
            there.0,
            ap (λ (o : Option Term). option_or o (given (cell 122 k ∷ []) (t ∷ []) (operand_cell j))) there.1,
            there.2,
            AllAmong-more (postorder there.0) made (s ∷ t ∷ []) there.3,
          )
      of_case j (inr same) = (
        t,
        ap (next_environment e k t) (ap operand_cell same ∙ line_cell k)
            ∙ last,
        no_constant,
        among,
      )

      later : (i : ℕ) → k + 1 ≤ i → next_environment e k t (cell 122 i) ≡ None
      later i high =
          ap (λ (o : Option Term). option_or o (given (cell 122 k ∷ []) (t ∷ []) (cell 122 i)))
          (stands.undefined i (omega (arith, high)))
          ∙ ap (λ (b : Bool). if b then Some t else None)
          (other_element i k (λ (same : i ≡ k). omega (arith, same, high)))

  -- what the lines from k on make
  abbrev Taken : (ℕ → Operands) → ℕ → List LinePlaces → Environment Term → List Term → Type 0
  Taken operands k places e made =
      (e' : Environment Term) × (made' : List Term)
      × (in_order (term_operators 1) callees (instances_from operands k places) e ≡ Some e')
      × Stands (k + length places) e' made' × (length made' ≡ length made + 2 * length places)

  lines_taken : (operands : ℕ → Operands) → AllBelow operands
      → (places : List LinePlaces) (k : ℕ) (e : Environment Term) (made : List Term)
      → Stands k e made → Taken operands k places e made
  lines_taken operands below [] k e made stands =
      let same : k ≡ k + 0 = omega arith in
      (e, made, refl, subst (λ (n : ℕ). Stands n e made) same stands, omega arith)
  lines_taken operands below (at ∷ places) k e made stands =
      let o = operands k in
      let a = stands.defined o.first (below k).first in
      let b = stands.defined o.second (below k).second in
      let c = stands.defined o.third (below k).third in
      let t = line_term a.0 b.0 c.0 in
      let s = sum_term a.0 b.0 in
      let value = line_value o e a.0 b.0 c.0 a.1 b.1 c.1 a.2 c.2 in
      let next = stands_next k e made s t stands refl (line_among a.0 b.0 c.0 made a.3 b.3 c.3) in
      let rest = lines_taken operands below places (k + 1) (next_environment e k t) (made ++ s ∷ t ∷ []) next in
      let taken : in_order (term_operators 1) callees (instances_from operands k (at ∷ places)) e ≡ Some rest.0
      = ap (option_and_then (λ (vs : List Term). in_order (term_operators 1) callees
      (instances_from operands (k + 1) places) (extended e (cell 122 k ∷ []) vs))) value
      ∙ rest.2 in
      let same : k + 1 + length places ≡ k + suc (length places) = omega arith in
      let longer : length (made ++ s ∷ t ∷ []) ≡ length made + 2 = length-append made (s ∷ t ∷ []) in
      let total = rest.4 in
      (rest.0, rest.1, taken, subst (λ (n : ℕ). Stands n rest.0 rest.1) same rest.3, omega (arith, longer, total))

-- the elements that the inputs are given
abbrev inputs : List Term
inputs = Input 0 ∷ Input 1 ∷ Input 2 ∷ Input 3 ∷ Input 4 ∷ Input 5 ∷ Input 6 ∷ Input 7 ∷ []

-- before the first line
stands_first : Stands 0 (given input_cells inputs) []
stands_first = record { defined = input; undefined = λ i high. refl }
  where
    input : (j : ℕ) → j < 8 + 0 → HasTerm (given input_cells inputs) [] j
    input zero low = (Input 0, refl, refl, tt)
    input (suc zero) low = (Input 1, refl, refl, tt)
    input (suc (suc zero)) low = (Input 2, refl, refl, tt)
    input (suc (suc (suc zero))) low = (Input 3, refl, refl, tt)
    input (suc (suc (suc (suc zero)))) low = (Input 4, refl, refl, tt)
    input (suc (suc (suc (suc (suc zero))))) low = (Input 5, refl, refl, tt)
    input (suc (suc (suc (suc (suc (suc zero)))))) low = (Input 6, refl, refl, tt)
    input (suc (suc (suc (suc (suc (suc (suc zero))))))) low = (Input 7, refl, refl, tt)
    input (suc (suc (suc (suc (suc (suc (suc (suc j)))))))) low = absurd (omega (arith, low))

-- the terms of the outputs from i on
outputs_made : (size : ℕ) (e : Environment Term) (made : List Term) → Stands size e made → (n i : ℕ) → i + n ≤ size
    → (terms : List Term) × (whole (map e (cells_of (122 ∷ []) (range_with_len i n))) ≡ Some terms)
    × AllAmong (walk terms) made
outputs_made size e made stands zero i within = ([], refl, tt)
outputs_made size e made stands (suc n) i within =
    let first = stands.defined (8 + i) (omega (arith, within)) in
    let is : e (cell 122 i) ≡ Some first.0 = ap e (sym (line_cell i)) ∙ first.1 in
    let rest = outputs_made size e made stands n (i + 1) (omega (arith, within)) in
    let cons : Term → List Term → List Term = λ v vs. v ∷ vs in (
      first.0 ∷ rest.0,
      ap (λ (o : Option Term). both cons o (whole (map e (cells_of (122 ∷ []) (range_with_len (i + 1) n))))) is
          ∙ ap (both cons (Some first.0)) rest.1,
      AllAmong-append (postorder first.0) (walk rest.0) made first.3 rest.2,
    )

-- instances are among themselves
in_more : (some all : List Instance) (i : Instance) → AreIn some all → AreIn some (i ∷ all)
in_more [] all i there = tt
in_more (j ∷ some) all i there = (inr there.0, in_more some all i there.1)

in_itself : (all : List Instance) → AreIn all all
in_itself [] = tt
in_itself (i ∷ all) = (inl refl, in_more all all i (in_itself all))

-- no line assigns what is known before it
lines_fresh : (operands : ℕ → Operands) (places : List LinePlaces) (k : ℕ) (known : List Cell) → AreFreshFrom known k
    → AreFresh known (instances_from operands k places)
lines_fresh operands [] k known fresh = tt
lines_fresh operands (at ∷ places) k known fresh = (
  λ c there. ap (model.is_among known) (same_cells c (cell 122 k) (first_only (same_cell c (cell 122 k)) there))
      ∙ fresh k (omega arith),
  lines_fresh operands places (k + 1) (cell 122 k ∷ known) (fresh_next known k fresh),
)
  where
    first_only : (b : Bool) → (b || false) ≡ true → b ≡ true
    first_only true e = refl
    first_only false e = e

-- the core of so many terms, two for each line
core_small : (terms made : List Term) (size : ℕ) → AllAmong (walk terms) made → length made ≤ 2 * size → size ≤ 4096
    → IsSmall (core_of_terms 1 8 terms) × HasFewColumns (core_of_terms 1 8 terms)
core_small terms made size all many few =
    let reg = register_of 8 (subterms terms) in
    let gates = equations_of reg (subterms terms) in
    let distinct = subterms_at_most terms made all in
    let made_of_terms = equations_at_most reg (subterms terms) in
    let counts = counts_le gates in (
      omega (arith, distinct, made_of_terms, counts, many, few),
      omega
          (arith, distinct, made_of_terms, counts, many, few),
    )

-- the core of a generated source is within the limits
pub small_core : (operands : ℕ → Operands) (below : AllBelow operands) (size : ℕ) (few : size ≤ 4096)
    (places : List LinePlaces) (count : length places ≡ size)
    → (core : Circuit) × (core_of_source 1 (file_of operands size places) 0 ≡ Some core) × IsSmall core
    × HasFewColumns core
small_core operands below size few places count =
    let node = node_of operands size places in
    let callees = outcomes (term_operators 1) [] in
    let instances = instances_from operands 0 places in
    let taken = lines_taken callees operands below places 0 (given input_cells inputs) [] stands_first in
    let end = taken.0 in
    let outputs = declared_cells (output_of size ∷ []) in
    let outputs_are : outputs ≡ cells_of (122 ∷ []) (range_with_len 0 size)
    = append-nil (cells_of (122 ∷ []) (range_with_len 0 (size * 1)))
    ∙ ap (λ (n : ℕ). cells_of (122 ∷ []) (range_with_len 0 n)) (one_each size) in
    let made = outputs_made (0 + length places) end taken.1 taken.3 size 0 (omega (arith, count)) in
    let in_turn = outcome_in_order (term_operators 1) callees instances instances input_cells inputs end outputs refl
    (in_itself instances)
    (in_itself instances) (lines_fresh operands places 0 input_cells inputs_fresh) taken.2 in
    let terms_are : source_terms 1 (file_of operands size places) 0 ≡ Some made.0
    = ap (λ (is : List Instance). outcome (term_operators 1) callees is input_cells inputs outputs)
    (unrolled_is operands below size few places count)
    ∙ in_turn ∙ ap (λ (cs : List Cell). whole (map end cs)) outputs_are ∙ made.1 in
    let total = taken.4 in
    let small = core_small made.0 taken.1 size made.2 (omega (arith, total, count)) few in
    (core_of_terms 1 8 made.0, ap (option_map (core_of_terms 1 8)) terms_are, small.0, small.1)
  where
    one_each : (n : ℕ) → n * 1 ≡ n
    one_each n = omega arith
