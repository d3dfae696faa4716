-- The terms that registers stand for, the rules by which terms are made, and the value of a term.
use Rattle.std.specs.Prelude.{ℕ, ◌-◌, ◌*◌, ◌/◌, ◌%◌, ◌^◌, ◌==◌, ◌&&◌, List, [], ◌∷◌, Option, Some, None, if◌then◌else◌, slice_index, bit_and, bit_or, bit_xor}
use Rattle.usuba0.specs.declared.builder.Turn.{Turn}
use Rattle.usuba0.specs.declared.builder.Turn.TheVariants as turn

-- input i, a constant, or an operation on terms: `a ^ b`, `~a`, a mask by a constant, `a & b`, shifts and a rotation by k bits, and the refresh with number k
pub data Term : Type 0 where
  Input : ℕ → Term
  Const : ℕ → Term
  Xor : Term → Term → Term
  Not : Term → Term
  Mask : ℕ → Term → Term
  And : Term → Term → Term
  Shl : ℕ → Term → Term
  Shr : ℕ → Term → Term
  Rotl : ℕ → Term → Term
  Refresh : ℕ → Term → Term

-- the number of a constant; none for another term
abbrev pub constant : Term → Option ℕ
constant (Input i) = None
constant (Const c) = Some c
constant (Xor a b) = None
constant (Not a) = None
constant (Mask c a) = None
constant (And a b) = None
constant (Shl k a) = None
constant (Shr k a) = None
constant (Rotl k a) = None
constant (Refresh k a) = None

-- the greatest word of w bits
abbrev pub ones : ℕ → ℕ
ones w = 2 ^ w - 1

-- a word shifted to the left by k bits, within w bits
abbrev pub shifted_left : ℕ → ℕ → ℕ → ℕ
shifted_left w k x = (x * 2 ^ k) % 2 ^ w

-- a word shifted to the right by k bits
abbrev pub shifted_right : ℕ → ℕ → ℕ
shifted_right k x = x / 2 ^ k

-- a word of w bits rotated to the left by k bits
abbrev pub rotated_left : ℕ → ℕ → ℕ → ℕ
rotated_left w k x = bit_or (shifted_left w k x) (shifted_right (w - k) x)

-- an operation on two constants is the constant of its result, else it is the term given
abbrev pub folded_two : (ℕ → ℕ → ℕ) → Option ℕ → Option ℕ → Term → Term
folded_two f (Some c) (Some d) t = Const (f c d)
folded_two f (Some c) None t = t
folded_two f None d t = t

-- the same of an operation on one operand
abbrev pub folded_one : (ℕ → ℕ) → Option ℕ → Term → Term
folded_one f (Some c) t = Const (f c)
folded_one f None t = t

-- `a ^ b`, in the order of the source
abbrev pub xor_term : Term → Term → Term
xor_term a b = folded_two bit_xor (constant a) (constant b) (Xor a b)

-- `a & b`, given which of the two are constants: with one constant it is a mask of the other operand
abbrev pub and_by : Option ℕ → Option ℕ → Term → Term → Term
and_by (Some c) (Some d) a b = Const (bit_and c d)
and_by (Some c) None a b = Mask c b
and_by None (Some d) a b = Mask d a
and_by None None a b = And a b

-- `a & b`
abbrev pub and_term : Term → Term → Term
and_term a b = and_by (constant a) (constant b) a b

-- `~a`, at width w
abbrev pub not_term : ℕ → Term → Term
not_term w a = folded_one (λ c. bit_xor c (ones w)) (constant a) (Not a)

-- `a | b` is `~(~a & ~b)`
abbrev pub or_term : ℕ → Term → Term → Term
or_term w a b = not_term w (and_term (not_term w a) (not_term w b))

-- the terms that make `a | b`, in the order in which they are made
abbrev pub or_makes : ℕ → Term → Term → List Term
or_makes w a b =
    let x = not_term w a in
    let y = not_term w b in
    x ∷ y ∷ and_term x y ∷ not_term w (and_term x y) ∷ []

-- a shift or rotation by k above 0, at width w: a rotation to the right by k is one to the left by w - k
abbrev pub turned : ℕ → Turn → ℕ → Term → Term
turned w turn.Left k a = folded_one (shifted_left w k) (constant a) (Shl k a)
turned w turn.Right k a = folded_one (shifted_right k) (constant a) (Shr k a)
turned w turn.RotLeft k a = folded_one (rotated_left w k) (constant a) (Rotl k a)
turned w turn.RotRight k a = folded_one (rotated_left w (w - k)) (constant a) (Rotl (w - k) a)

-- a shift or rotation by k, at width w: by 0 it is the operand
abbrev pub shift_term : ℕ → Turn → ℕ → Term → Term
shift_term w kind k a = if k == 0 then a else turned w kind k a

-- `refresh(a, k)`, also where a is a constant
abbrev pub refresh_term : ℕ → Term → Term
refresh_term k a = Refresh k a

-- what a constant stands for in words of B bits: at width 1 the constant 1 is the word of B ones
abbrev pub word_of_constant : ℕ → ℕ → ℕ → ℕ
word_of_constant w B c = if w == 1 && c == 1 then ones B else c

-- the word bits of a width
abbrev pub bits_of_width : ℕ → ℕ
bits_of_width w = if w == 1 then 32 else w

-- the value of a term at width w, in words of B bits, for given input words
abbrev pub value : ℕ → ℕ → List ℕ → Term → ℕ
value w B inputs (Input i) = slice_index inputs i
value w B inputs (Const c) = word_of_constant w B c
value w B inputs (Xor a b) = bit_xor (value w B inputs a) (value w B inputs b)
value w B inputs (Not a) = bit_xor (value w B inputs a) (ones B)
value w B inputs (Mask c a) = bit_and (word_of_constant w B c) (value w B inputs a)
value w B inputs (And a b) = bit_and (value w B inputs a) (value w B inputs b)
value w B inputs (Shl k a) = shifted_left B k (value w B inputs a)
value w B inputs (Shr k a) = shifted_right k (value w B inputs a)
value w B inputs (Rotl k a) = rotated_left B k (value w B inputs a)
value w B inputs (Refresh k a) = value w B inputs a
