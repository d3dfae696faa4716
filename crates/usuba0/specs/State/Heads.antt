-- What the fields of a builder stand for: a term is kept as its operation over the numbers of its operands.
use Rattle.std.specs.Prelude.{ℕ, suc, ◌+◌, ◌<◌, ◌≤◌, ◌^◌, List, [], ◌∷◌, ◌++◌, length, slice_index_or}
use Rattle.usuba0.specs.declared.limit.TheConstants.{MAX_TERMS}
use Rattle.usuba0.specs.declared.circuit.Reg.{Reg}
use Rattle.usuba0.specs.declared.builder.Head.{Head}
use Rattle.usuba0.specs.declared.builder.Head.TheVariants as head
use Rattle.usuba0.specs.Term.{Term, Input, Const, Xor, Not, Mask, And, Shl, Shr, Rotl, Refresh}
use Rattle.usuba0.specs.Builder.{input_terms, IsOnceEach}

-- the term of a number
abbrev pub term_at : List Term → Reg → Term
term_at ts r = slice_index_or ts r.0 (Input 0)

-- the term of an operation over the terms so far
abbrev pub term_of_head : List Term → Head → Term
term_of_head ts (head.Const c) = Const c
term_of_head ts (head.Xor a b) = Xor (term_at ts a) (term_at ts b)
term_of_head ts (head.Not a) = Not (term_at ts a)
term_of_head ts (head.Mask c a) = Mask c (term_at ts a)
term_of_head ts (head.And a b) = And (term_at ts a) (term_at ts b)
term_of_head ts (head.Shl k a) = Shl k (term_at ts a)
term_of_head ts (head.Shr k a) = Shr k (term_at ts a)
term_of_head ts (head.Rotl k a) = Rotl k (term_at ts a)
term_of_head ts (head.Refresh k a) = Refresh k (term_at ts a)

-- the terms so far, and then one for each operation
abbrev pub terms_of_heads : List Term → List Head → List Term
terms_of_heads ts [] = ts
terms_of_heads ts (h ∷ hs) = terms_of_heads (ts ++ term_of_head ts h ∷ []) hs

-- an operation at width w over numbers below n, with a constant below 2^w or an amount of 1 to w - 1
abbrev pub IsHead : ℕ → ℕ → Head → Type 0
IsHead w n (head.Const c) = c < 2 ^ w
IsHead w n (head.Xor a b) = (a.0 < n) × (b.0 < n)
IsHead w n (head.Not a) = a.0 < n
IsHead w n (head.Mask c a) = (c < 2 ^ w) × (a.0 < n)
IsHead w n (head.And a b) = (a.0 < n) × (b.0 < n)
IsHead w n (head.Shl k a) = (0 < k) × (k < w) × (a.0 < n)
IsHead w n (head.Shr k a) = (0 < k) × (k < w) × (a.0 < n)
IsHead w n (head.Rotl k a) = (0 < k) × (k < w) × (a.0 < n)
IsHead w n (head.Refresh k a) = a.0 < n

-- each operation is over earlier numbers, where the first has number n
abbrev pub AreHeads : ℕ → ℕ → List Head → Type 0
AreHeads w n [] = Unit {0}
AreHeads w n (h ∷ hs) = IsHead w n h × AreHeads w (suc n) hs

-- a width of a program
abbrev pub IsWidth : ℕ → Type 0
IsWidth w = (0 < w) × (w ≤ 64)

-- what holds of the fields of every builder
pub record IsBuilder (width inputs : ℕ) (heads : List Head) : Type 0 where
  pub some_width : 0 < width
  pub width_fits : width ≤ 64
  pub some_input : 0 < inputs
  pub few : inputs + length heads ≤ MAX_TERMS
  pub earlier : AreHeads width inputs heads
  pub once : IsOnceEach (terms_of_heads (input_terms inputs) heads)
