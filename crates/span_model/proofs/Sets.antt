-- The symmetric difference is a sum.
use Rattle.std.proofs.Common.{◌≡◌, Bool, true, false, not, refl, sym, ap, ◌∙◌}
use Rattle.std.specs.Bool.{beq}
use mathlib.Core.Path.{fun_ext}
use Rattle.span_model.specs.Columns.{Columns, empty, ◌△◌}

differ_comm : (a b : Bool) → not (beq a b) ≡ not (beq b a)
differ_comm true true = refl
differ_comm true false = refl
differ_comm false true = refl
differ_comm false false = refl

differ_assoc : (a b c : Bool) → not (beq (not (beq a b)) c) ≡ not (beq a (not (beq b c)))
differ_assoc true true true = refl
differ_assoc true true false = refl
differ_assoc true false true = refl
differ_assoc true false false = refl
differ_assoc false true true = refl
differ_assoc false true false = refl
differ_assoc false false true = refl
differ_assoc false false false = refl

differ_self : (a : Bool) → not (beq a a) ≡ false
differ_self true = refl
differ_self false = refl

differ_false : (a : Bool) → not (beq a false) ≡ a
differ_false true = refl
differ_false false = refl

module _ {C : Type 0} where
  pub △_comm : (a b : Columns C) → a △ b ≡ b △ a
  △_comm a b = fun_ext λ c. differ_comm (a c) (b c)

  pub △_assoc : (a b c : Columns C) → (a △ b) △ c ≡ a △ (b △ c)
  △_assoc a b c = fun_ext λ k. differ_assoc (a k) (b k) (c k)

  pub △_self : (a : Columns C) → a △ a ≡ empty
  △_self a = fun_ext λ c. differ_self (a c)

  pub △-empty : (a : Columns C) → a △ empty ≡ a
  △-empty a = fun_ext λ c. differ_false (a c)

  pub empty-△ : (a : Columns C) → empty △ a ≡ a
  empty-△ a = △_comm empty a ∙ △-empty a

  -- what is added twice is gone
  pub △_cancel : (a b : Columns C) → a △ (a △ b) ≡ b
  △_cancel a b = sym (△_assoc a a b) ∙ ap (λ x. x △ b) (△_self a) ∙ empty-△ b

  -- likewise on the right
  pub △_cancel_right : (a b : Columns C) → (a △ b) △ b ≡ a
  △_cancel_right a b = △_assoc a b b ∙ ap (λ x. a △ x) (△_self b) ∙ △-empty a

  -- two sets whose difference is empty are one
  pub △_empty_same : (a b : Columns C) → a △ b ≡ empty → b ≡ a
  △_empty_same a b e = sym (△_cancel a b) ∙ ap (λ x. a △ x) e ∙ △-empty a

  -- the middle two of four change places
  pub △_swap : (a b c d : Columns C) → (a △ b) △ (c △ d) ≡ (a △ c) △ (b △ d)
  △_swap a b c d =
      △_assoc a b (c △ d)
      ∙ ap (λ x. a △ x) (sym (△_assoc b c d) ∙ ap (λ x. x △ d) (△_comm b c) ∙ △_assoc c b d)
      ∙ sym (△_assoc a c (b △ d))

  -- the same set added to both is gone from the sum
  pub △_shared : (a b c : Columns C) → (a △ b) △ (a △ c) ≡ b △ c
  △_shared a b c = △_swap a b a c ∙ ap (λ x. x △ (b △ c)) (△_self a) ∙ empty-△ (b △ c)
