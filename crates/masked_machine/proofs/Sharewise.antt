-- The gadgets that act on each share alone.
use Rattle.std.proofs.Common.{◌≡◌, ℕ, ◌+◌, ◌-◌, ◌*◌, ◌/◌, ◌%◌, ◌^◌, ◌<◌, ◌≤◌, List, [], ◌∷◌, map, set, get_or, Some, Ok, refl, sym, ap, ◌∙◌, arith, bit_and, bit_or, mod-lt, ltb}
use Rattle.std.specs.Prelude.{codes}
use Rattle.std.specs.List.{range_with_len}
use Rattle.std.proofs.lemmas.List.{set-get_or, get_or-map, length-map}
use Rattle.std.proofs.lemmas.List.FromFn.{fill_by_all}
use Rattle.std.proofs.lemmas.Bool.{cond-true, lt-ltb}
use Rattle.std.proofs.lemmas.Nat.{and_comm, xor_lt, or_lt, or_mod, and_le_r, and_mask, shr_le, pow_pos}
use Rattle.std.proofs.Math.Nat.{mod-eq_of_lt, add-mul-mod_self_right}
use Rattle.c_tree.specs.declared.CExpr.{CExpr}
use Rattle.c_tree.specs.declared.CExpr.TheVariants as e
use Rattle.c_tree.specs.declared.CIndex.TheVariants as index
use Rattle.c_tree.specs.declared.COp.{COp}
use Rattle.c_tree.specs.declared.COp.TheVariants as op
use Rattle.c_machine.specs.Scope.{Binding, meant_by, row_of, index_value}
use Rattle.c_machine.specs.Machine.{State, evaluated, executed, in_turn, then_do, operated}
use Rattle.c_form.specs.Template.{cell, masked, assign_from, share_with_k, round_share, rotated_share, xor_gadget, mask_gadget, shl_gadget, shr_gadget, rotl_gadget, copy_gadget}
use Rattle.share_gadgets.specs.Gadgets.{xor_share, xor_shares, mask_shares}
use Rattle.share_gadgets.proofs.Shared.{pow_le}
use Rattle.share_gadgets.proofs.EquationLemmas.{cut_again}
use Rattle.usuba0.specs.Term.{ones, shifted_left, shifted_right, rotated_left}
use Rattle.masked_machine.proofs.Reading.{computed-cell, computed-two, evaluated-word, evaluated-number}
use Rattle.masked_machine.proofs.Operands.{unary_scope, binary_scope, constant_scope, IsTarget, IsOperand, operand_word, operand_small}
use Rattle.masked_machine.proofs.ShareLoops.{filled, with_share, AssignsShares, shares_assigned}

-- what a gadget leaves where it wrote this row
abbrev pub wrote : List Binding → List (List ℕ) → ℕ → List ℕ → List ℕ → State
wrote scope memory c row stream = record { scope = scope; memory = set memory c row; stream = stream }

module _ (B bits d : ℕ) (room : B ≤ bits) (memory : List (List ℕ)) (stream : List ℕ) (c : ℕ) (target : IsTarget d memory c) where
  -- a gadget whose only statement assigns each share
  pub sharewise_done : (value : CExpr) (scope : List Binding) (f : ℕ → ℕ)
      → AssignsShares d bits 0 value scope f c (get_or memory c []) memory stream
      → in_turn (map (executed d bits) (assign_from 0 value ∷ [])) (record { scope = scope; memory = memory; stream = stream })
      ≡ Ok (wrote scope memory c (map f (range_with_len 0 d)) stream)
  sharewise_done value scope f it =
      ap (λ m. in_turn (map (executed d bits) (assign_from 0 value ∷ [])) (record { scope = scope; memory = m; stream = stream }))
      (sym (set-get_or memory c []))
      ∙ ap (λ o. then_do o (in_turn [])) (shares_assigned d bits 0 value scope f c (get_or memory c []) memory stream it (omega arith))

  -- a share of an operand, in a scope in which the operand's name stands for its row
  pub share_read : (scope : List Binding) (name : List ℕ) (r : ℕ) (xs : List ℕ) → IsOperand B d memory c r xs
      → ((n : ℕ) → row_of (meant_by (with_share scope n) name) ≡ Some r)
      → ((n : ℕ) → index_value (with_share scope n) (index.Counter (codes "i")) ≡ n)
      → (written : List ℕ) (n : ℕ) → n < d
      → evaluated (cell name (codes "i")) (with_share scope n) (set memory c written) stream ≡ Ok (get_or xs n 0, stream)
  share_read scope name r xs operand named place written n below =
      computed-cell (with_share scope n) (set memory c written) name (index.Counter (codes "i")) r n (get_or xs n 0) stream
      (named n) (place n) (operand_word B d memory c r xs operand written n below)

  module _ (a : ℕ) (xs : List ℕ) (left : IsOperand B d memory c a xs) where
    below_bits : (n : ℕ) → n < d → get_or xs n 0 < 2 ^ bits
    below_bits n below = omega (arith, operand_small B d memory c a xs left n below, pow_le B bits room)

    -- a list that a function gives of each share of the operand
    by_shares : (g : ℕ → ℕ) → map g xs ≡ map (λ n. g (get_or xs n 0)) (range_with_len 0 d)
    by_shares g =
        fill_by_all (λ n. g (get_or xs n 0)) (map g xs) d (g 0) (length-map xs g ∙ left.shared.count)
        (λ k below. get_or-map g xs k 0 (g 0) (omega (arith, left.shared.count)))

    -- the copy
    pub copy_done : in_turn (map (executed d bits) copy_gadget.body) (record { scope = unary_scope c a; memory = memory; stream = stream })
        ≡ Ok (wrote (unary_scope c a) memory c xs stream)
    copy_done =
        sharewise_done (cell (codes "a") (codes "i")) (unary_scope c a) (λ n. get_or xs n 0)
        (record {
          count = target.count;
          within = target.within;
          array = λ n. refl;
          place = λ n. refl;
          small = below_bits;
          computes = λ n from below.
              share_read (unary_scope c a) (codes "a") a xs left (λ n. refl) (λ n. refl) (filled (λ n. get_or xs n 0) n (get_or memory c [])) n below;
        })
        ∙ ap (λ row. Ok (wrote (unary_scope c a) memory c row stream))
        (sym (fill_by_all (λ n. get_or xs n 0) xs d 0 left.shared.count (λ k below. refl)))

    -- an exclusive-or
    pub xor_done : (b : ℕ) (ys : List ℕ) → IsOperand B d memory c b ys
        → in_turn (map (executed d bits) xor_gadget.body) (record { scope = binary_scope c a b; memory = memory; stream = stream })
        ≡ Ok (wrote (binary_scope c a b) memory c (xor_shares d xs ys) stream)
    xor_done b ys right =
        let f = xor_share xs ys in
        let value = e.Two op.Xor (cell (codes "a") (codes "i")) (cell (codes "b") (codes "i")) in
        sharewise_done value (binary_scope c a b) f
        (record {
          count = target.count;
          within = target.within;
          array = λ n. refl;
          place = λ n. refl;
          small = λ n below.
              xor_lt bits (get_or xs n 0) (get_or ys n 0) (below_bits n below)
              (omega (arith, operand_small B d memory c b ys right n below, pow_le B bits room));
          computes = λ n from below.
              computed-two (with_share (binary_scope c a b) n) (set memory c (filled f n (get_or memory c []))) op.Xor
              (cell (codes "a") (codes "i")) (cell (codes "b") (codes "i")) (get_or xs n 0) (get_or ys n 0) (f n) stream stream stream
              (share_read (binary_scope c a b) (codes "a") a xs left (λ n. refl) (λ n. refl) (filled f n (get_or memory c [])) n below)
              (share_read (binary_scope c a b) (codes "b") b ys right (λ n. refl) (λ n. refl) (filled f n (get_or memory c [])) n below)
              refl;
        })

    module _ (k : ℕ) where
      constant_read : (written : List ℕ) (n : ℕ)
          → evaluated (e.Word (codes "k")) (with_share (constant_scope c a k) n) (set memory c written) stream ≡ Ok (k, stream)
      constant_read written n = evaluated-word (with_share (constant_scope c a k) n) (set memory c written) (codes "k") stream

      share_of_a : (written : List ℕ) (n : ℕ) → n < d
          → evaluated (cell (codes "a") (codes "i")) (with_share (constant_scope c a k) n) (set memory c written) stream ≡ Ok (get_or xs n 0, stream)
      share_of_a = share_read (constant_scope c a k) (codes "a") a xs left (λ n. refl) (λ n. refl)

      -- a share with the constant
      with_constant : (operator : COp) (w : ℕ) (written : List ℕ) (n : ℕ) → n < d → operated operator (get_or xs n 0) k ≡ Some w
          → evaluated (share_with_k operator) (with_share (constant_scope c a k) n) (set memory c written) stream ≡ Ok (w, stream)
      with_constant operator w written n below is =
          computed-two (with_share (constant_scope c a k) n) (set memory c written) operator
          (cell (codes "a") (codes "i")) (e.Word (codes "k")) (get_or xs n 0) k w stream stream stream
          (share_of_a written n below) (constant_read written n) is

      -- a gadget with a constant that gives g of each share
      constant_done : (value : CExpr) (g : ℕ → ℕ) → ((n : ℕ) → n < d → g (get_or xs n 0) < 2 ^ bits)
          → ((written : List ℕ) (n : ℕ) → n < d
          → evaluated value (with_share (constant_scope c a k) n) (set memory c written) stream ≡ Ok (g (get_or xs n 0), stream))
          → in_turn (map (executed d bits) (assign_from 0 value ∷ [])) (record { scope = constant_scope c a k; memory = memory; stream = stream })
          ≡ Ok (wrote (constant_scope c a k) memory c (map g xs) stream)
      constant_done value g small computes =
          sharewise_done value (constant_scope c a k) (λ n. g (get_or xs n 0))
          (record {
            count = target.count;
            within = target.within;
            array = λ n. refl;
            place = λ n. refl;
            small = small;
            computes = λ n from below. computes (filled (λ n. g (get_or xs n 0)) n (get_or memory c [])) n below;
          })
          ∙ ap (λ row. Ok (wrote (constant_scope c a k) memory c row stream)) (sym (by_shares g))

      -- a mask
      pub mask_done : in_turn (map (executed d bits) mask_gadget.body) (record { scope = constant_scope c a k; memory = memory; stream = stream })
          ≡ Ok (wrote (constant_scope c a k) memory c (mask_shares k xs) stream)
      mask_done =
          constant_done (share_with_k op.And) (bit_and k)
          (λ n below. omega (arith, and_le_r k (get_or xs n 0), below_bits n below))
          (λ written n below. with_constant op.And (bit_and k (get_or xs n 0)) written n below (ap Some (and_comm (get_or xs n 0) k)))

      -- a shift to the right
      pub shr_done : k < 64
          → in_turn (map (executed d bits) shr_gadget.body) (record { scope = constant_scope c a k; memory = memory; stream = stream })
          ≡ Ok (wrote (constant_scope c a k) memory c (map (shifted_right k) xs) stream)
      shr_done few =
          constant_done (share_with_k op.Shr) (shifted_right k)
          (λ n below. omega (arith, shr_le (get_or xs n 0) k, below_bits n below))
          (λ written n below. with_constant op.Shr (shifted_right k (get_or xs n 0)) written n below (cond-true (ltb k 64) _ _ (lt-ltb k 64 few)))

      module _ (wide : bits ≤ 64) where
        -- a shift to the left
        pub shl_done : k < 64
            → in_turn (map (executed d bits) (shl_gadget (ones B)).body) (record { scope = constant_scope c a k; memory = memory; stream = stream })
            ≡ Ok (wrote (constant_scope c a k) memory c (map (shifted_left B k) xs) stream)
        shl_done few =
            constant_done (masked (ones B) (share_with_k op.Shl)) (shifted_left B k)
            (λ n below. omega (arith, mod-lt (get_or xs n 0 * 2 ^ k) (pow_pos B), pow_le B bits room))
            (λ written n below.
            computed-two (with_share (constant_scope c a k) n) (set memory c written) op.And (share_with_k op.Shl) (e.Number (ones B))
            (get_or xs n 0 * 2 ^ k % 2 ^ 64) (ones B) (shifted_left B k (get_or xs n 0)) stream stream stream
            (with_constant op.Shl (get_or xs n 0 * 2 ^ k % 2 ^ 64) written n below (cond-true (ltb k 64) _ _ (lt-ltb k 64 few)))
            (evaluated-number (with_share (constant_scope c a k) n) (set memory c written) (ones B) stream)
            (ap Some (and_mask (get_or xs n 0 * 2 ^ k % 2 ^ 64) B ∙ cut_again (get_or xs n 0 * 2 ^ k) B 64 (omega (arith, room, wide)))))

        -- the bits of a word without a constant
        difference : 0 < k → k < B → operated op.Sub B k ≡ Some (B - k)
        difference some few =
            let sum : (B - k) + 1 * 2 ^ 64 ≡ B + 2 ^ 64 - k = omega (arith, some, few) in
            let small : B - k < 2 ^ 64 = omega (arith, room, wide) in
            ap (λ n. Some (n % 2 ^ 64)) (sym sum) ∙ ap Some (mod_more (B - k) ∙ mod-eq_of_lt small)
          where
            mod_more : (n : ℕ) → (n + 1 * 2 ^ 64) % 2 ^ 64 ≡ n % 2 ^ 64
            mod_more n = add-mul-mod_self_right n 1 (2 ^ 64)

        -- a rotation to the left
        pub rotl_done : 0 < k → k < B
            → in_turn (map (executed d bits) (rotl_gadget (ones B) B).body) (record { scope = constant_scope c a k; memory = memory; stream = stream })
            ≡ Ok (wrote (constant_scope c a k) memory c (map (rotated_left B k) xs) stream)
        rotl_done some few =
            constant_done (masked (ones B) (rotated_share B)) (rotated_left B k)
            (λ n below. omega (arith, rotated_below n below, pow_le B bits room))
            (λ written n below.
            let scope = with_share (constant_scope c a k) n in
            let held = set memory c written in
            let x = get_or xs n 0 in
            computed-two scope held op.And (rotated_share B) (e.Number (ones B))
            (bit_or (x * 2 ^ k % 2 ^ 64) (x / 2 ^ (B - k))) (ones B) (rotated_left B k x) stream stream stream
            (computed-two scope held op.Or (share_with_k op.Shl) (round_share B) (x * 2 ^ k % 2 ^ 64) (x / 2 ^ (B - k))
            (bit_or (x * 2 ^ k % 2 ^ 64) (x / 2 ^ (B - k))) stream stream stream
            (with_constant op.Shl (x * 2 ^ k % 2 ^ 64) written n below (cond-true (ltb k 64) _ _ (lt-ltb k 64 (omega (arith, few, room, wide)))))
            (computed-two scope held op.Shr (cell (codes "a") (codes "i")) (e.Two op.Sub (e.Number B) (e.Word (codes "k"))) x (B - k)
            (x / 2 ^ (B - k)) stream stream stream (share_of_a written n below)
            (computed-two scope held op.Sub (e.Number B) (e.Word (codes "k")) B k (B - k) stream stream stream
            (evaluated-number scope held B stream) (constant_read written n) (difference some few))
            (cond-true (ltb (B - k) 64) _ _ (lt-ltb (B - k) 64 (omega (arith, some, room, wide)))))
            refl)
            (evaluated-number scope held (ones B) stream)
            (ap Some (turned n below)))
          where
            shifted_below : (n : ℕ) → n < d → get_or xs n 0 / 2 ^ (B - k) < 2 ^ B
            shifted_below n below = omega (arith, shr_le (get_or xs n 0) (B - k), operand_small B d memory c a xs left n below)

            rotated_below : (n : ℕ) → n < d → rotated_left B k (get_or xs n 0) < 2 ^ B
            rotated_below n below = or_lt B (shifted_left B k (get_or xs n 0)) (get_or xs n 0 / 2 ^ (B - k)) (mod-lt (get_or xs n 0 * 2 ^ k) (pow_pos B)) (shifted_below n below)

            turned : (n : ℕ) → n < d
                → bit_and (bit_or (get_or xs n 0 * 2 ^ k % 2 ^ 64) (get_or xs n 0 / 2 ^ (B - k))) (ones B) ≡ rotated_left B k (get_or xs n 0)
            turned n below =
                and_mask (bit_or (get_or xs n 0 * 2 ^ k % 2 ^ 64) (get_or xs n 0 / 2 ^ (B - k))) B
                ∙ or_mod (get_or xs n 0 * 2 ^ k % 2 ^ 64) (get_or xs n 0 / 2 ^ (B - k)) B
                ∙ (λ j. bit_or (cut_again (get_or xs n 0 * 2 ^ k) B 64 (omega (arith, room, wide)) j) (mod-eq_of_lt (shifted_below n below) j))
