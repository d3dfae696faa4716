-- An expression that is walked without a fault is well sized, and its numbers are in their ranges.
use Rattle.std.proofs.Common.{◌≡◌, ◌<◌, ◌^◌, ℕ, Bool, true, false, not, ◌==◌, List, [], ◌∷◌, ◌++◌, map, Option, Some, None, refl, sym, subst, arith}
use Rattle.std.specs.Prelude.{ℤ, pos, negsuc}
use Rattle.std.proofs.lemmas.Option.{none-some}
use Rattle.std.proofs.lemmas.Bool.{leb-false, eqb-true}
use Rattle.tor_edge.specs.declared.place.Place.{Place}
use Rattle.usuba_trees.specs.declared.BitOp.{BitOp}
use Rattle.usuba_trees.specs.declared.Decl.{Decl}
use Rattle.usuba_trees.specs.declared.Expr.{Expr}
use Rattle.usuba_trees.specs.declared.Expr.TheOpen.{Expr-F}
use Rattle.usuba_trees.specs.declared.Expr.{map-Expr}
use Rattle.usuba_trees.specs.declared.ShiftLink.{ShiftLink}
use Rattle.usuba_model.specs.declared.fault.FaultKind.{FaultKind}
use Rattle.usuba_model.specs.declared.fault.FaultKind.TheVariants.{IndexOut, ConstTooBig, ShiftTooFar, SizeMismatch}
use Rattle.usuba_model.specs.Faults.{first_kind, when}
use Rattle.usuba_model.specs.Indexes.{Counter, computed}
use Rattle.usuba_model.specs.Unrolled.{Expression, cells, number, nothing, joined, call, complement, operation, shift, refresh, natural}
use Rattle.usuba_model.specs.Walk.{Step, Signature, signature_of, size_of, computing_fault, is_beyond, call_step, operator_step, shift_step, refresh_step, Walked, Walk, WalkedLink, walked_at, walked_parts, walked_operation, walked_chain, walked_shift, walked_shifts, walk_level, walk_of}
use Rattle.usuba_model.proofs.Folds.{expr_holds}

-- no step has a fault of its own
abbrev pub AreClean : List Step → Type 0
AreClean [] = Unit {0}
AreClean (step ∷ steps) = (step.fault ≡ None) × AreClean steps

-- operands of operators are equally many, arguments fit, and numbers are in their ranges at width w
abbrev pub IsSized : ℕ → List Signature → Expression → Type 0
IsSized w signatures (number value) = value < 2 ^ w
IsSized w signatures (cells read) = Unit {0}
IsSized w signatures nothing = Unit {0}
IsSized w signatures (joined a b) = IsSized w signatures a × IsSized w signatures b
IsSized w signatures (call name args) = IsSized w signatures args × ((signature_of signatures name).inputs ≡ size_of signatures args)
IsSized w signatures (complement a) = IsSized w signatures a
IsSized w signatures (operation op a b) = IsSized w signatures a × IsSized w signatures b × (size_of signatures a ≡ size_of signatures b)
IsSized w signatures (shift kind k a) = IsSized w signatures a × (size_of signatures a ≡ 1) × (k < w)
IsSized w signatures (refresh k a) = IsSized w signatures a × (k < 65536)

pub clean_first : (a b : List Step) → AreClean (a ++ b) → AreClean a
clean_first [] b clean = tt
clean_first (step ∷ a) b clean = (clean.0, clean_first a b clean.1)

pub clean_second : (a b : List Step) → AreClean (a ++ b) → AreClean b
clean_second [] b clean = clean
clean_second (step ∷ a) b clean = clean_second a b clean.1

-- a condition that is no fault does not hold
pub no_fault : (holds : Bool) (kind : FaultKind) → when holds kind ≡ None → holds ≡ false
no_fault true kind e = absurd (none-some kind (sym e))
no_fault false kind e = refl

first_no : (a b : Option FaultKind) → first_kind a b ≡ None → a ≡ None
first_no (Some kind) b e = absurd (none-some kind (sym e))
first_no None b e = refl

second_no : (a b : Option FaultKind) → first_kind a b ≡ None → b ≡ None
second_no (Some kind) b e = absurd (none-some kind (sym e))
second_no None b e = e

-- what is not different is the same
pub same : (a b : ℕ) → not (a == b) ≡ false → a ≡ b
same a b e = eqb-true a b (doubled (a == b) e)
  where
    doubled : (c : Bool) → not c ≡ false → c ≡ true
    doubled true e = refl
    doubled false e = absurd (subst (λ (b : Bool). elim b as (λ _. Type 0) [ true ↦ Unit {0} | false ↦ ⊥ ]) e tt)

-- an amount that is not beyond a bound is below it
below_bound : (bound : ℕ) → 0 < bound → (value : Option ℤ) → is_beyond bound value ≡ false → natural value < bound
below_bound bound some (Some (pos n)) e = leb-false bound n e
below_bound bound some (Some (negsuc n)) e = absurd (subst (λ (b : Bool). elim b as (λ _. Type 0) [ true ↦ Unit {0} | false ↦ ⊥ ]) e tt)
below_bound bound some None e = some

module _ (w : ℕ) (some_width : 0 < w) (signatures : List Signature) where
  -- where its steps are clean, what is walked is well sized
  abbrev pub IsGood : Walked → Type 0
  IsGood walked = AreClean walked.steps → IsSized w signatures walked.is

  abbrev pub IsGoodWalk : Walk → Type 0
  IsGoodWalk walk = (counters : List Counter) → IsGood (walk counters)

  abbrev pub IsGoodLink : WalkedLink → Type 0
  IsGoodLink link = IsGoodWalk link.operand

  abbrev GoodPart : Type 0
  GoodPart = (walk : Walk) × IsGoodWalk walk

  abbrev GoodLink : Type 0
  GoodLink = (link : WalkedLink) × IsGoodLink link

  good_parts : (counters : List Counter) (parts : List GoodPart) → IsGood (walked_parts (walked_at counters (map (λ h. h.0) parts)))
  good_parts counters [] clean = tt
  good_parts counters (part ∷ []) clean = part.1 counters (clean_first (part.0 counters).steps [] clean)
  good_parts counters (part ∷ second ∷ rest) clean =
      let others = walked_parts (walked_at counters (map (λ h. h.0) (second ∷ rest))) in (
        part.1 counters (clean_first (part.0 counters).steps others.steps clean),
        good_parts counters (second ∷ rest) (clean_second (part.0 counters).steps others.steps clean),
      )

  good_operation : (op : BitOp) (left : Walked) (place : Place) (right : Walked) → IsGood left → IsGood right
      → IsGood (walked_operation signatures op left place right)
  good_operation op left place right good good' clean =
      let sizes = operator_step op place (size_of signatures left.is) (size_of signatures right.is) in
      let both = clean_first (left.steps ++ right.steps) (sizes ∷ []) clean in
      let last = clean_second (left.steps ++ right.steps) (sizes ∷ []) clean in (
        good (clean_first left.steps right.steps both),
        good' (clean_second left.steps right.steps both),
        same (size_of signatures left.is) (size_of signatures right.is) (no_fault _ SizeMismatch last.0),
      )

  good_chain : (counters : List Counter) (op : BitOp) (first : Walked) → IsGood first → (rest : List GoodLink)
      → IsGood (walked_chain signatures counters op first (map (λ h. h.0) rest))
  good_chain counters op first good [] = good
  good_chain counters op first good (next ∷ rest) =
      good_chain counters op (walked_operation signatures op first next.0.place (next.0.operand counters))
      (good_operation op first next.0.place (next.0.operand counters) good (next.1 counters)) rest

  good_shift : (counters : List Counter) (operand : Walked) → IsGood operand → (move : ShiftLink)
      → IsGood (walked_shift w signatures counters operand move)
  good_shift counters operand good move clean =
      let amount = computed move.amount counters in
      let step = shift_step w move.place (size_of signatures operand.is) amount in
      let last = (clean_second operand.steps (step ∷ []) clean).0 in
      let far = second_no (computing_fault amount) _ (second_no _ _ last) in (
        good (clean_first operand.steps (step ∷ []) clean),
        same (size_of signatures operand.is) 1 (no_fault _ SizeMismatch (first_no _ _ last)),
        below_bound w some_width amount.value (no_fault _ ShiftTooFar far),
      )

  good_shifts : (counters : List Counter) (first : Walked) → IsGood first → (moves : List ShiftLink)
      → IsGood (walked_shifts w signatures counters first moves)
  good_shifts counters first good [] = good
  good_shifts counters first good (move ∷ moves) =
      good_shifts counters (walked_shift w signatures counters first move) (good_shift counters first good move) moves

  good_level : (declared : List Decl) (y : Expr-F GoodPart GoodLink)
      → IsGoodWalk (walk_level w signatures declared (map-Expr GoodPart GoodLink Walk WalkedLink (λ h. h.0) (λ h. h.0) y))
  good_level declared (Expr-F.Number place value) counters clean = leb-false (2 ^ w) value (no_fault _ ConstTooBig clean.0)
  good_level declared (Expr-F.Spot spot) counters clean = tt
  good_level declared (Expr-F.Tuple parts) counters clean = good_parts counters parts clean
  good_level declared (Expr-F.Call name args) counters clean =
      let walked = walked_parts (walked_at counters (map (λ h. h.0) args)) in
      let step = call_step name.place (signature_of signatures name.text) (size_of signatures walked.is) in (
        good_parts counters args (clean_first walked.steps (step ∷ []) clean),
        same (signature_of signatures name.text).inputs (size_of signatures walked.is)
            (no_fault _ SizeMismatch (clean_second walked.steps (step ∷ []) clean).0),
      )
  good_level declared (Expr-F.Not place inner) counters clean =
      inner.1 counters (clean_first (inner.0 counters).steps _ clean)
  good_level declared (Expr-F.Chain op first rest) counters clean =
      good_chain counters op (first.0 counters) (first.1 counters) rest clean
  good_level declared (Expr-F.Shift first moves) counters clean =
      good_shifts counters (first.0 counters) (first.1 counters) moves clean
  good_level declared (Expr-F.Refresh place inner k) counters clean =
      let amount = computed k counters in
      let step = refresh_step place (size_of signatures (inner.0 counters).is) amount in
      let last = (clean_second (inner.0 counters).steps (step ∷ []) clean).0 in
      let few : 0 < 65536 = omega arith in (
        inner.1 counters (clean_first (inner.0 counters).steps (step ∷ []) clean),
        below_bound 65536 few amount.value (no_fault _ IndexOut (second_no (computing_fault amount) _ last)),
      )

  -- an expression whose steps are clean is well sized
  pub walked_sized : (declared : List Decl) (e : Expr) → IsGoodWalk (walk_of w signatures declared e)
  walked_sized declared =
      expr_holds (walk_level w signatures declared) (λ link. record { place = link.place; operand = link.operand })
      IsGoodWalk IsGoodLink (good_level declared) (λ y. y.operand.1)
