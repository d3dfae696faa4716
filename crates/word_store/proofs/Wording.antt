-- What the operators of words make is a word, and a store of words keeps itself.
use Rattle.std.proofs.Common.{◌≡◌, ℕ, ◌-◌, ◌^◌, ◌<◌, ◌≤◌, Bool, true, false, eqb, List, map, bit_xor, refl, sym, ap, ◌∙◌, subst, arith, pow_mono, pow_pos, map-id}
use Rattle.std.specs.Prelude.{if◌then◌else◌, ◌&&◌, Some, Result, Ok, Err, IfOk}
use Rattle.std.specs.List.{range_with_len}
use Rattle.std.proofs.lemmas.Nat.{shr_le}
use lib.Bits.{or_lt, xor_lt, and_lt}
use Rattle.usuba_trees.specs.declared.BitOp.{BitOp}
use Rattle.usuba_trees.specs.declared.BitOp.TheVariants as bits
use Rattle.usuba_trees.specs.declared.ShiftKind.{ShiftKind}
use Rattle.usuba_trees.specs.declared.ShiftKind.TheVariants as kind
use Rattle.usuba0.specs.Term.{ones, word_of_constant, bits_of_width, shifted_left, rotated_left}
use Rattle.usuba0.proofs.KeepLemmas.{rotated_lt, shifted_left_lt}
use Rattle.usuba_model.specs.Meaning.{word_operation, word_shift, looked_up_word, word_operators}
use Rattle.usuba_model.specs.Rounds.{looked_up}
use Rattle.usuba_code.specs.CodeLaw.{Each}
use Rattle.usuba_plan.specs.Store.{Made, Gives, Keeps}
use Rattle.word_store.specs.WordStore.{word_store}
use Rattle.word_store.proofs.LookUps.{looked_up_words}

-- a store of words keeps itself
pub kept : (most w : ℕ) → Keeps most (word_store w) (word_store w)
kept most w = record {
  width = refl;
  inputs = refl;
  operators = refl;
  held = λ word held. held;
  means = λ word held. refl;
  room = omega arith;
}

-- what is a word stands for itself
pub made : (w word element : ℕ) → word ≡ element → element < 2 ^ bits_of_width w → Made (word_store w) word element
made w word element is below = record { held = subst (λ (x : ℕ). x < 2 ^ bits_of_width w) (sym is) below; means = is }

ones_lt : (B : ℕ) → ones B < 2 ^ B
ones_lt B = let p = pow_pos B in omega arith

-- a constant below 2^w is a word
pub constant_lt : (w B c : ℕ) → w ≤ B → c < 2 ^ w → word_of_constant w B c < 2 ^ B
constant_lt w B c within below = by_test (eqb w 1 && eqb c 1)
  where
    by_test : (b : Bool) → (if b then ones B else c) < 2 ^ B
    by_test true = ones_lt B
    by_test false = let le : 2 ^ w ≤ 2 ^ B = pow_mono within in omega (arith, le, below)

-- a complement of a word is one
pub complement_lt : (B a : ℕ) → a < 2 ^ B → bit_xor a (ones B) < 2 ^ B
complement_lt B a below = xor_lt B a (ones B) below (ones_lt B)

-- what an operation makes of words is one
pub operation_lt : (B : ℕ) (op : BitOp) (a b : ℕ) → a < 2 ^ B → b < 2 ^ B → word_operation op a b < 2 ^ B
operation_lt B bits.And a b ha hb = and_lt B a b ha hb
operation_lt B bits.Xor a b ha hb = xor_lt B a b ha hb
operation_lt B bits.Or a b ha hb = or_lt B a b ha hb

-- a shift of a word is one
pub shift_lt : (B : ℕ) (way : ShiftKind) (k a : ℕ) → a < 2 ^ B → word_shift B way k a < 2 ^ B
shift_lt B kind.Left k a below = shifted_left_lt B k a (shifted_left B k a) refl
shift_lt B kind.Right k a below = let l = shr_le a k in omega (arith, l, below)
shift_lt B kind.RotLeft k a below = rotated_lt B k a (rotated_left B k a) below refl
shift_lt B kind.RotRight k a below = rotated_lt B (B - k) a (rotated_left B (B - k) a) below refl

-- the words that are looked up stand for themselves
pub gives : (w m : ℕ) (entries inputs made : List ℕ)
    → made ≡ map (looked_up_word (bits_of_width w) m entries inputs) (range_with_len 0 m)
    → Gives (word_store w) made (Some (looked_up (word_operators w (bits_of_width w)) m entries (map (λ word. word) inputs)))
gives w m entries inputs made is =
    let B = bits_of_width w in
    let same : map (λ (word : ℕ). word) inputs ≡ inputs = map-id inputs in
    let whole : map (looked_up_word B m entries (map (λ (word : ℕ). word) inputs)) (range_with_len 0 m) ≡ made =
    ap (λ (ws : List ℕ). map (looked_up_word B m entries ws) (range_with_len 0 m)) same ∙ sym is in
    record {
      held = subst (λ (l : List ℕ). Each (λ word. word < 2 ^ B) l) (sym is) (looked_up_words B m entries inputs (range_with_len 0 m));
      means = ap (λ (l : List ℕ). Some l) (whole ∙ sym (map-id made));
    }

-- the same of what a look-up answers
pub given : {X E : Type 0} (answer : Result X E) (items : X → List ℕ) (w m B : ℕ) (entries inputs : List ℕ) → B ≡ bits_of_width w
    → IfOk answer (λ x. items x ≡ map (looked_up_word B m entries inputs) (range_with_len 0 m))
    → IfOk answer (λ x. Gives (word_store w) (items x) (Some (looked_up (word_operators w (bits_of_width w)) m entries (map (λ word. word) inputs))))
given (Ok x) items w m B entries inputs is same =
    gives w m entries inputs (items x) (same ∙ ap (λ (b : ℕ). map (looked_up_word b m entries inputs) (range_with_len 0 m)) is)
given (Err e) items w m B entries inputs is same = tt
