-- The terms of a source read its inputs only: the operators of terms keep this.
use Rattle.std.proofs.Common.{ℕ, suc, Bool, true, false, List, [], ◌∷◌, length, map, Option, Some, None, arith}
use Rattle.std.specs.Prelude.{All, fold, if◌then◌else◌, ◌==◌}
use Rattle.std.specs.Int.{bit_at}
use Rattle.std.proofs.lemmas.List.Elements.{All-cons}
use Rattle.usuba_trees.specs.declared.BitOp.{BitOp}
use Rattle.usuba_trees.specs.declared.BitOp.TheVariants as bits
use Rattle.usuba_trees.specs.declared.ShiftKind.{ShiftKind}
use Rattle.usuba_trees.specs.declared.ShiftKind.TheVariants as kind
use Rattle.usuba0.specs.Term.{Term, Xor, Not, Shl, Shr, Rotl, constant, folded_one, folded_two, and_by, and_term, xor_term, not_term, turned}
use Rattle.usuba_model.specs.Rounds.{Operators}
use Rattle.usuba_model.proofs.Relating.{Preserve, AllRelated}
use Rattle.table_anf.specs.TableTerms.{factors, left_fold, monomial, monomials_of, is_present, table_term}
use Rattle.source_terms.specs.SourceTerms.{term_operation, turn_of, term_operators}
use Rattle.source_terms.specs.SourceLaws.{ReadsBelow}
use Rattle.source_terms.proofs.Fitting.{width_bounds}

-- operators on nothing
abbrev pub no_operators : Operators (Unit {0})
no_operators = record {
  number_of = λ n. tt;
  complement_of = λ a. tt;
  operation_of = λ op a b. tt;
  shift_of = λ way k a. tt;
  refresh_of = λ k a. tt;
  look_up = λ m entries args j. tt;
}

module _ (n : ℕ) where
  -- a term that reads inputs below n, beside nothing
  abbrev pub Reads : Term → Unit {0} → Type 0
  Reads t u = ReadsBelow n t

  -- each of some terms reads inputs below n
  abbrev pub AllRead : List Term → Type 0
  AllRead [] = Unit {0}
  AllRead (t ∷ ts) = ReadsBelow n t × AllRead ts

  pub all_read : (ts : List Term) → AllRead ts → All (ReadsBelow n) ts
  all_read [] read = λ i d l. absurd (omega arith)
  all_read (t ∷ ts) read = All-cons (ReadsBelow n) t ts read.0 (all_read ts read.1)

  pub read_each : (ts : List Term) → All (ReadsBelow n) ts → AllRead ts
  read_each [] all = tt
  read_each (t ∷ ts) all = (all 0 t (omega arith), read_each ts (λ i d l. all (suc i) d (omega arith)))

  pub related_read : (ts : List Term) (us : List (Unit {0})) → AllRelated Reads ts us → AllRead ts
  related_read [] us related = tt
  related_read (t ∷ ts) [] related = absurd related
  related_read (t ∷ ts) (u ∷ us) related = (related.0, related_read ts us related.1)

  -- ---- the rules of terms

  folded_one_reads : (f : ℕ → ℕ) (o : Option ℕ) (t : Term) → ReadsBelow n t → ReadsBelow n (folded_one f o t)
  folded_one_reads f (Some c) t read = tt
  folded_one_reads f None t read = read

  folded_two_reads : (f : ℕ → ℕ → ℕ) (o p : Option ℕ) (t : Term) → ReadsBelow n t → ReadsBelow n (folded_two f o p t)
  folded_two_reads f (Some c) (Some d) t read = tt
  folded_two_reads f (Some c) None t read = read
  folded_two_reads f None p t read = read

  and_by_reads : (o p : Option ℕ) (a b : Term) → ReadsBelow n a → ReadsBelow n b → ReadsBelow n (and_by o p a b)
  and_by_reads (Some c) (Some d) a b ra rb = tt
  and_by_reads (Some c) None a b ra rb = rb
  and_by_reads None (Some d) a b ra rb = ra
  and_by_reads None None a b ra rb = (ra, rb)

  and_reads : (a b : Term) → ReadsBelow n a → ReadsBelow n b → ReadsBelow n (and_term a b)
  and_reads a b ra rb = and_by_reads (constant a) (constant b) a b ra rb

  xor_reads : (a b : Term) → ReadsBelow n a → ReadsBelow n b → ReadsBelow n (xor_term a b)
  xor_reads a b ra rb = folded_two_reads _ (constant a) (constant b) (Xor a b) (ra, rb)

  not_reads : (w : ℕ) (a : Term) → ReadsBelow n a → ReadsBelow n (not_term w a)
  not_reads w a ra = folded_one_reads _ (constant a) (Not a) ra

  operation_reads : (w : ℕ) (op : BitOp) (a b : Term) → ReadsBelow n a → ReadsBelow n b → ReadsBelow n (term_operation w op a b)
  operation_reads w bits.And a b ra rb = and_reads a b ra rb
  operation_reads w bits.Xor a b ra rb = xor_reads a b ra rb
  operation_reads w bits.Or a b ra rb =
      not_reads w (and_term (not_term w a) (not_term w b)) (and_reads (not_term w a) (not_term w b) (not_reads w a ra) (not_reads w b rb))

  turned_reads : (w : ℕ) (way : ShiftKind) (k : ℕ) (a : Term) → ReadsBelow n a → ReadsBelow n (turned w (turn_of way) k a)
  turned_reads w kind.Left k a ra = folded_one_reads _ (constant a) (Shl k a) ra
  turned_reads w kind.Right k a ra = folded_one_reads _ (constant a) (Shr k a) ra
  turned_reads w kind.RotLeft k a ra = folded_one_reads _ (constant a) (Rotl k a) ra
  turned_reads w kind.RotRight k a ra = folded_one_reads _ (constant a) (Rotl _ a) ra

  -- one of two terms
  either_reads : (b : Bool) (t u : Term) → ReadsBelow n t → ReadsBelow n u → ReadsBelow n (if b then t else u)
  either_reads true t u rt ru = rt
  either_reads false t u rt ru = ru

  -- ---- tables

  fold_reads : (join : Term → Term → Term) → ((a b : Term) → ReadsBelow n a → ReadsBelow n b → ReadsBelow n (join a b))
      → (t : Term) (ts : List Term) → ReadsBelow n t → AllRead ts → ReadsBelow n (fold join t ts)
  fold_reads join keeps t [] rt read = rt
  fold_reads join keeps t (u ∷ us) rt read = fold_reads join keeps (join t u) us (keeps t u rt read.0) read.1

  left_fold_reads : (join : Term → Term → Term) → ((a b : Term) → ReadsBelow n a → ReadsBelow n b → ReadsBelow n (join a b))
      → (ts : List Term) → AllRead ts → ReadsBelow n (left_fold join ts)
  left_fold_reads join keeps [] read = tt
  left_fold_reads join keeps (t ∷ ts) read = fold_reads join keeps t ts read.0 read.1

  factors_read : (args : List Term) (u : ℕ) → AllRead args → AllRead (factors args u)
  factors_read [] u read = tt
  factors_read (t ∷ rest) u read = chosen (bit_at u (length rest) == 1) (factors rest u) read.0 (factors_read rest u read.1)
    where
      chosen : (b : Bool) (others : List Term) → ReadsBelow n t → AllRead others → AllRead (if b then t ∷ others else others)
      chosen true others rt ro = (rt, ro)
      chosen false others rt ro = ro

  monomials_read : (args : List Term) (us : List ℕ) → AllRead args → AllRead (map (monomial args) us)
  monomials_read args [] read = tt
  monomials_read args (u ∷ us) read =
      (left_fold_reads and_term and_reads (factors args u) (factors_read args u read), monomials_read args us read)

  table_reads : (w m : ℕ) (entries : List ℕ) (args : List Term) (j : ℕ) → AllRead args → ReadsBelow n (table_term w m entries args j)
  table_reads w m entries args j read =
      let sum : Term = left_fold xor_term (map (monomial args) (monomials_of (length args) m entries j)) in
      let sum_reads : ReadsBelow n sum =
      left_fold_reads xor_term xor_reads (map (monomial args) (monomials_of (length args) m entries j))
      (monomials_read args (monomials_of (length args) m entries j) read) in
      either_reads (is_present (length args) m entries j 0) (not_term w sum) sum (not_reads w sum sum_reads) sum_reads

  -- the operators of terms keep that inputs below n are read
  pub reads_kept : (w : ℕ) → Preserve (width_bounds w) Reads (term_operators w) no_operators
  reads_kept w = record {
    numbers = λ c h. tt;
    complements = λ t u read. not_reads w t read;
    operations = λ op a b u v ra rb. operation_reads w op a b ra rb;
    shifts = λ way k t u less read. either_reads (k == 0) t (turned w (turn_of way) k t) read (turned_reads w way k t read);
    refreshes = λ k t u h read. read;
    look_ups = λ m entries args us j h related. table_reads w m entries args j (related_read args us related);
  }
