-- The statements of the laws about the terms of a source and its core.
use Rattle.std.specs.Prelude.{◌≡◌, ℕ, ◌<◌, ◌^◌, List, length, map, Option, Some, All}
use Rattle.usuba_trees.specs.declared.BitOp.TheVariants as bits
use Rattle.usuba_trees.specs.declared.File.{File}
use Rattle.usuba_trees.specs.declared.ShiftKind.TheVariants.{Right, RotLeft, RotRight}
use Rattle.usuba0.specs.Circuit.{Circuit}
use Rattle.usuba0.specs.CoreOfTerms.{core_of_terms}
use Rattle.usuba0.specs.PlainRun.{plain_run}
use Rattle.usuba0.specs.Term.{Term, Input, Const, Xor, Not, Mask, And, Shl, Shr, Rotl, Refresh, value, bits_of_width}
use Rattle.usuba_model.specs.Judging.{IsJudged}
use Rattle.usuba_model.specs.Meaning.{plain_meaning}
use Rattle.source_terms.specs.SourceTerms.{term_operators, inputs_of, source_terms, core_of_source}

-- a word of B bits
abbrev pub IsWord : ℕ → ℕ → Type 0
IsWord B word = word < 2 ^ B

-- words of B bits, one for each of n inputs
pub record AreInputs (B n : ℕ) (inputs : List ℕ) : Type 0 where
  pub each : length inputs ≡ n
  pub words : All (IsWord B) inputs

-- a term over inputs below n only
abbrev pub ReadsBelow : ℕ → Term → Type 0
ReadsBelow n (Input i) = i < n
ReadsBelow n (Const c) = Unit {0}
ReadsBelow n (Xor a b) = ReadsBelow n a × ReadsBelow n b
ReadsBelow n (Not a) = ReadsBelow n a
ReadsBelow n (Mask c a) = ReadsBelow n a
ReadsBelow n (And a b) = ReadsBelow n a × ReadsBelow n b
ReadsBelow n (Shl k a) = ReadsBelow n a
ReadsBelow n (Shr k a) = ReadsBelow n a
ReadsBelow n (Rotl k a) = ReadsBelow n a
ReadsBelow n (Refresh k a) = ReadsBelow n a

-- the entry of a judged file has source terms, over its inputs only, and their values at words for the inputs are its plain
-- meaning of these
abbrev pub TermsHaveTheMeaning : Type 0
TermsHaveTheMeaning = (asked_width : Option ℕ) (asked_entry : Option (List ℕ)) (file : File) (width entry : ℕ)
    → IsJudged asked_width asked_entry file width entry → 0 < width
    → (inputs : List ℕ) → AreInputs (bits_of_width width) (inputs_of file.defs entry) inputs
    → (terms : List Term) × (source_terms width file entry ≡ Some terms) × All (ReadsBelow (inputs_of file.defs entry)) terms
    × (plain_meaning width (bits_of_width width) file entry inputs ≡ Some (map (value width (bits_of_width width) inputs) terms))

-- the core of terms over n inputs gives their values
abbrev pub CoreKeepsValues : Type 0
CoreKeepsValues = (w B n : ℕ) (terms : List Term) (inputs : List ℕ) → length inputs ≡ n → All (ReadsBelow n) terms
    → plain_run B (core_of_terms w n terms) inputs ≡ map (value w B inputs) terms

-- a judged file has a core, and its run at words for the inputs is the plain meaning of these
abbrev pub MeaningsAgree : Type 0
MeaningsAgree = (asked_width : Option ℕ) (asked_entry : Option (List ℕ)) (file : File) (width entry : ℕ)
    → IsJudged asked_width asked_entry file width entry → 0 < width
    → (inputs : List ℕ) → AreInputs (bits_of_width width) (inputs_of file.defs entry) inputs
    → (core : Circuit) × (core_of_source width file entry ≡ Some core)
    × (plain_meaning width (bits_of_width width) file entry inputs ≡ Some (plain_run (bits_of_width width) core inputs))

-- terms of operators at 8 bits, as worked by hand
pub record KnownTerms : Type 0 where
  -- `a | b` is `~(~a & ~b)`, and with a constant a mask stands in it
  pub either : (term_operators 8).operation_of bits.Or (Input 0) (Input 1) ≡ Not (And (Not (Input 0)) (Not (Input 1)))
  pub either_constant : (term_operators 8).operation_of bits.Or (Input 0) (Const 1) ≡ Not (Mask 254 (Not (Input 0)))
  -- a mask has its constant first, whichever operand that is
  pub masked : (term_operators 8).operation_of bits.And (Input 0) (Const 7) ≡ Mask 7 (Input 0)
  -- a sum with a constant keeps the order of the source, and one of constants is a constant
  pub sum : (term_operators 8).operation_of bits.Xor (Const 5) (Input 0) ≡ Xor (Const 5) (Input 0)
  pub constants : (term_operators 8).operation_of bits.Xor (Const 5) (Const 3) ≡ Const 6
  -- `a >>> 3` is a rotation to the left by 5, and a shift by 0 is its operand
  pub turned_right : (term_operators 8).shift_of RotRight 3 (Input 0) ≡ Rotl 5 (Input 0)
  pub turned_left : (term_operators 8).shift_of RotLeft 3 (Input 0) ≡ Rotl 3 (Input 0)
  pub shifted : (term_operators 8).shift_of Right 1 (Const 129) ≡ Const 64
  pub unshifted : (term_operators 8).shift_of RotRight 0 (Input 0) ≡ Input 0
  -- a refresh stays, also of a constant
  pub refreshed : (term_operators 8).refresh_of 7 (Const 1) ≡ Refresh 7 (Const 1)
