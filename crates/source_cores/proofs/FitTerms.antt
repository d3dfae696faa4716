-- The constants and the amounts of a source's terms fit the width: the operators of terms keep this.
use Rattle.std.proofs.Common.{◌≡◌, ℕ, ◌-◌, ◌^◌, ◌<◌, Bool, true, false, List, [], ◌∷◌, length, map, Option, Some, None, IfSome, bit_xor, refl, arith, pow_pos}
use Rattle.std.specs.Prelude.{fold, if◌then◌else◌, ◌==◌}
use Rattle.std.specs.Int.{bit_at}
use Rattle.std.proofs.lemmas.Nat.{shr_le}
use lib.Bits.{xor_lt, and_lt}
use Rattle.usuba_trees.specs.declared.BitOp.{BitOp}
use Rattle.usuba_trees.specs.declared.BitOp.TheVariants as bits
use Rattle.usuba_trees.specs.declared.ShiftKind.{ShiftKind}
use Rattle.usuba_trees.specs.declared.ShiftKind.TheVariants as kind
use Rattle.usuba0.specs.Term.{Term, Input, Const, Xor, Not, Mask, And, Shl, Shr, Rotl, Refresh, constant, ones, folded_one, folded_two, shifted_left, shifted_right, rotated_left, and_by, and_term, xor_term, not_term, turned}
use Rattle.usuba0.proofs.KeepLemmas.{rotated_lt, shifted_left_lt, xor_ones_lt}
use Rattle.usuba_model.proofs.Relating.{Preserve, AllRelated}
use Rattle.table_anf.specs.TableTerms.{factors, left_fold, monomial, monomials_of, is_present, table_term}
use Rattle.source_terms.specs.SourceTerms.{term_operation, turn_of, term_operators}
use Rattle.source_terms.proofs.Fitting.{width_bounds}
use Rattle.source_terms.proofs.Reading.{no_operators}

module _ (w : ℕ) where
  -- a term whose constants are below 2^w and whose amounts are 1 to w - 1
  abbrev pub IsFit : Term → Type 0
  IsFit (Input i) = Unit {0}
  IsFit (Const c) = c < 2 ^ w
  IsFit (Xor a b) = IsFit a × IsFit b
  IsFit (Not a) = IsFit a
  IsFit (Mask c a) = (c < 2 ^ w) × IsFit a
  IsFit (And a b) = IsFit a × IsFit b
  IsFit (Shl k a) = (0 < k) × (k < w) × IsFit a
  IsFit (Shr k a) = (0 < k) × (k < w) × IsFit a
  IsFit (Rotl k a) = (0 < k) × (k < w) × IsFit a
  IsFit (Refresh k a) = IsFit a

  -- each of some terms fits
  abbrev pub AreFit : List Term → Type 0
  AreFit [] = Unit {0}
  AreFit (t ∷ ts) = IsFit t × AreFit ts

  -- a term that fits, beside nothing
  abbrev pub Fits : Term → Unit {0} → Type 0
  Fits t u = IsFit t

  pub related_fit : (ts : List Term) (us : List (Unit {0})) → AllRelated Fits ts us → AreFit ts
  related_fit [] us related = tt
  related_fit (t ∷ ts) [] related = absurd related
  related_fit (t ∷ ts) (u ∷ us) related = (related.0, related_fit ts us related.1)

  -- a number below 2^w
  abbrev IsNumber : ℕ → Type 0
  IsNumber c = c < 2 ^ w

  -- the constant of a term that fits
  constant_of : (t : Term) → IsFit t → IfSome (constant t) IsNumber
  constant_of (Input i) fit = tt
  constant_of (Const c) fit = fit
  constant_of (Xor a b) fit = tt
  constant_of (Not a) fit = tt
  constant_of (Mask c a) fit = tt
  constant_of (And a b) fit = tt
  constant_of (Shl k a) fit = tt
  constant_of (Shr k a) fit = tt
  constant_of (Rotl k a) fit = tt
  constant_of (Refresh k a) fit = tt

  -- ---- the rules of terms

  folded_one_fits : (f : ℕ → ℕ) → ((c : ℕ) → c < 2 ^ w → f c < 2 ^ w) → (o : Option ℕ) (t : Term) → IfSome o IsNumber → IsFit t
      → IsFit (folded_one f o t)
  folded_one_fits f keeps (Some c) t number fit = keeps c number
  folded_one_fits f keeps None t number fit = fit

  folded_two_fits : (f : ℕ → ℕ → ℕ) → ((c d : ℕ) → c < 2 ^ w → d < 2 ^ w → f c d < 2 ^ w) → (o p : Option ℕ) (t : Term)
      → IfSome o IsNumber → IfSome p IsNumber → IsFit t → IsFit (folded_two f o p t)
  folded_two_fits f keeps (Some c) (Some d) t first second fit = keeps c d first second
  folded_two_fits f keeps (Some c) None t first second fit = fit
  folded_two_fits f keeps None p t first second fit = fit

  and_by_fits : (o p : Option ℕ) (a b : Term) → IfSome o IsNumber → IfSome p IsNumber → IsFit a → IsFit b → IsFit (and_by o p a b)
  and_by_fits (Some c) (Some d) a b first second fa fb = and_lt w c d first second
  and_by_fits (Some c) None a b first second fa fb = (first, fb)
  and_by_fits None (Some d) a b first second fa fb = (second, fa)
  and_by_fits None None a b first second fa fb = (fa, fb)

  and_fits : (a b : Term) → IsFit a → IsFit b → IsFit (and_term a b)
  and_fits a b fa fb = and_by_fits (constant a) (constant b) a b (constant_of a fa) (constant_of b fb) fa fb

  xor_fits : (a b : Term) → IsFit a → IsFit b → IsFit (xor_term a b)
  xor_fits a b fa fb =
      folded_two_fits bit_xor (λ c d h k. xor_lt w c d h k) (constant a) (constant b) (Xor a b) (constant_of a fa) (constant_of b fb) (fa, fb)

  not_fits : (a : Term) → IsFit a → IsFit (not_term w a)
  not_fits a fa =
      folded_one_fits (λ c. bit_xor c (ones w)) (λ c h. xor_ones_lt w c (ones w) h refl) (constant a) (Not a) (constant_of a fa) fa

  operation_fits : (op : BitOp) (a b : Term) → IsFit a → IsFit b → IsFit (term_operation w op a b)
  operation_fits bits.And a b fa fb = and_fits a b fa fb
  operation_fits bits.Xor a b fa fb = xor_fits a b fa fb
  operation_fits bits.Or a b fa fb =
      not_fits (and_term (not_term w a) (not_term w b)) (and_fits (not_term w a) (not_term w b) (not_fits a fa) (not_fits b fb))

  turned_fits : (way : ShiftKind) (k : ℕ) (a : Term) → 0 < k → k < w → IsFit a → IsFit (turned w (turn_of way) k a)
  turned_fits kind.Left k a some less fa =
      folded_one_fits (shifted_left w k) (λ c h. shifted_left_lt w k c (shifted_left w k c) refl) (constant a) (Shl k a) (constant_of a fa)
      (some, less, fa)
  turned_fits kind.Right k a some less fa =
      folded_one_fits (shifted_right k) (λ c h. let l = shr_le c k in omega (arith, l, h)) (constant a) (Shr k a) (constant_of a fa)
      (some, less, fa)
  turned_fits kind.RotLeft k a some less fa =
      folded_one_fits (rotated_left w k) (λ c h. rotated_lt w k c (rotated_left w k c) h refl) (constant a) (Rotl k a) (constant_of a fa)
      (some, less, fa)
  turned_fits kind.RotRight k a some less fa =
      folded_one_fits (rotated_left w (w - k)) (λ c h. rotated_lt w (w - k) c (rotated_left w (w - k) c) h refl) (constant a) (Rotl (w - k) a)
      (constant_of a fa) (omega (arith, less), omega (arith, some, less), fa)

  -- a shift by k, which is its operand where k is 0
  shift_fits : (way : ShiftKind) (k : ℕ) (a : Term) (b : Bool) → (k == 0) ≡ b → k < w → IsFit a → IsFit (if b then a else turned w (turn_of way) k a)
  shift_fits way k a true is less fa = fa
  shift_fits way k a false is less fa = turned_fits way k a (above k is) less fa
    where
      above : (k : ℕ) → (k == 0) ≡ false → 0 < k
      above k is = grind arith

  -- one of two terms
  either_fits : (b : Bool) (t u : Term) → IsFit t → IsFit u → IsFit (if b then t else u)
  either_fits true t u ft fu = ft
  either_fits false t u ft fu = fu

  -- ---- tables

  fold_fits : (join : Term → Term → Term) → ((a b : Term) → IsFit a → IsFit b → IsFit (join a b)) → (t : Term) (ts : List Term) → IsFit t → AreFit ts
      → IsFit (fold join t ts)
  fold_fits join keeps t [] ft are = ft
  fold_fits join keeps t (u ∷ us) ft are = fold_fits join keeps (join t u) us (keeps t u ft are.0) are.1

  left_fold_fits : (join : Term → Term → Term) → ((a b : Term) → IsFit a → IsFit b → IsFit (join a b)) → (ts : List Term) → AreFit ts
      → IsFit (left_fold join ts)
  left_fold_fits join keeps [] are = pow_pos w
  left_fold_fits join keeps (t ∷ ts) are = fold_fits join keeps t ts are.0 are.1

  factors_fit : (args : List Term) (u : ℕ) → AreFit args → AreFit (factors args u)
  factors_fit [] u are = tt
  factors_fit (t ∷ rest) u are = chosen (bit_at u (length rest) == 1) (factors rest u) are.0 (factors_fit rest u are.1)
    where
      chosen : (b : Bool) (others : List Term) → IsFit t → AreFit others → AreFit (if b then t ∷ others else others)
      chosen true others ft fo = (ft, fo)
      chosen false others ft fo = fo

  monomials_fit : (args : List Term) (us : List ℕ) → AreFit args → AreFit (map (monomial args) us)
  monomials_fit args [] are = tt
  monomials_fit args (u ∷ us) are = (left_fold_fits and_term and_fits (factors args u) (factors_fit args u are), monomials_fit args us are)

  table_fits : (m : ℕ) (entries : List ℕ) (args : List Term) (j : ℕ) → AreFit args → IsFit (table_term w m entries args j)
  table_fits m entries args j are =
      let sum : Term = left_fold xor_term (map (monomial args) (monomials_of (length args) m entries j)) in
      let fits : IsFit sum =
      left_fold_fits xor_term xor_fits (map (monomial args) (monomials_of (length args) m entries j))
      (monomials_fit args (monomials_of (length args) m entries j) are) in
      either_fits (is_present (length args) m entries j 0) (not_term w sum) sum (not_fits sum fits) fits

  -- the operators of terms keep that constants and amounts fit
  pub fits_kept : Preserve (width_bounds w) Fits (term_operators w) no_operators
  fits_kept = record {
    numbers = λ c h. h;
    complements = λ t u fit. not_fits t fit;
    operations = λ op a b u v fa fb. operation_fits op a b fa fb;
    shifts = λ way k t u less fit. shift_fits way k t (k == 0) refl less fit;
    refreshes = λ k t u h fit. fit;
    look_ups = λ m entries args us j h related. table_fits m entries args j (related_fit args us related);
  }
