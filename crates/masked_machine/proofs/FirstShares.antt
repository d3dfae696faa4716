-- The gadgets that treat share 0 apart.
use Rattle.std.proofs.Common.{◌≡◌, ℕ, zero, suc, ◌-◌, ◌%◌, ◌^◌, ◌<◌, ◌≤◌, List, [], ◌∷◌, map, set, get_or, length, replicate, Some, Ok, refl, sym, ap, ◌∙◌, arith, bit_xor}
use Rattle.std.specs.Prelude.{codes}
use Rattle.std.specs.List.{range_with_len}
use Rattle.std.proofs.lemmas.Bool.{cond-true, lt-ltb}
use Rattle.std.proofs.lemmas.List.{set-get_or, get_or-set_same, set-set}
use Rattle.std.proofs.lemmas.List.FromFn.{fill_by_all}
use Rattle.std.proofs.Math.Nat.{mod-eq_of_lt}
use Rattle.c_tree.specs.declared.CExpr.{CExpr}
use Rattle.c_tree.specs.declared.CExpr.TheVariants as e
use Rattle.c_tree.specs.declared.CIndex.TheVariants as index
use Rattle.c_tree.specs.declared.COp.TheVariants as op
use Rattle.c_machine.specs.Scope.{Binding, meant_by, row_of}
use Rattle.c_machine.specs.Machine.{evaluated, executed, in_turn, then_do, assigned, stored, with_word}
use Rattle.c_form.specs.Template.{cell, assign_first, assign_from, const_gadget, not_gadget}
use Rattle.share_gadgets.specs.Gadgets.{constant_shares, not_shares}
use Rattle.share_gadgets.specs.Sharing.{IsSharing}
use Rattle.share_gadgets.proofs.Shared.{pow_le, ones_below, not_shared, constant_shared}
use Rattle.usuba0.specs.Term.{ones}
use Rattle.masked_machine.proofs.Reading.{computed-cell, computed-two, evaluated-word, evaluated-number, executed-assign}
use Rattle.masked_machine.proofs.Operands.{const_scope, unary_scope, IsTarget, IsOperand, operand_word}
use Rattle.masked_machine.proofs.ShareLoops.{filled, filled-next, length-filled, before_share, with_share, AssignsShares, shares_assigned}
use Rattle.masked_machine.proofs.Sharewise.{wrote, share_read}

module _ (B bits d : ℕ) (room : B ≤ bits) (some : 0 < d) (memory : List (List ℕ)) (stream : List ℕ) (c : ℕ) (target : IsTarget d memory c) where
  -- share 0 is assigned
  first_assigned : (value : CExpr) (scope : List Binding) (f : ℕ → ℕ)
      → row_of (meant_by scope (codes "c")) ≡ Some c
      → evaluated value scope (set memory c (filled f 0 (get_or memory c []))) stream ≡ Ok (f 0, stream) → f 0 < 2 ^ bits
      → executed d bits (assign_first (codes "c") value) (before_share scope f c (get_or memory c []) memory stream 0)
      ≡ Ok (before_share scope f c (get_or memory c []) memory stream 1)
  first_assigned value scope f named computes small =
      let row = get_or memory c [] in
      let held : get_or (set memory c (filled f 0 row)) c [] ≡ filled f 0 row = get_or-set_same memory c (filled f 0 row) [] target.within in
      let many : length (get_or (set memory c (filled f 0 row)) c []) ≡ d =
      ap length held ∙ length-filled f 0 row (omega arith) ∙ target.count in
      let fits : f 0 % 2 ^ bits ≡ f 0 = mod-eq_of_lt small in
      let state = before_share scope f c row memory stream 0 in
      executed-assign d bits state (codes "c") (index.Number 0) value
      ∙ ap (assigned bits state (codes "c") (index.Number 0)) computes
      ∙ ap (stored state stream)
      ((λ k. with_word (set memory c (filled f 0 row)) (named k) 0 (fits k))
      ∙ cond-true _ _ _ (lt-ltb 0 (length (get_or (set memory c (filled f 0 row)) c [])) (omega (arith, many, some)))
      ∙ ap Some (ap (λ r. set (set memory c (filled f 0 row)) c (set r 0 (f 0))) held
      ∙ set-set memory c (filled f 0 row) (set (filled f 0 row) 0 (f 0))
      ∙ ap (set memory c) (filled-next f 0 row (omega (arith, target.count, some)))))

  -- share 0, then the others
  first_and_rest : (first rest : CExpr) (scope : List Binding) (f : ℕ → ℕ)
      → row_of (meant_by scope (codes "c")) ≡ Some c
      → evaluated first scope (set memory c (filled f 0 (get_or memory c []))) stream ≡ Ok (f 0, stream)
      → AssignsShares d bits 1 rest scope f c (get_or memory c []) memory stream
      → in_turn (map (executed d bits) (assign_first (codes "c") first ∷ assign_from 1 rest ∷ []))
      (record { scope = scope; memory = memory; stream = stream })
      ≡ Ok (wrote scope memory c (map f (range_with_len 0 d)) stream)
  first_and_rest first rest scope f named computes it =
      ap (λ m. in_turn (map (executed d bits) (assign_first (codes "c") first ∷ assign_from 1 rest ∷ []))
      (record { scope = scope; memory = m; stream = stream }))
      (sym (set-get_or memory c []))
      ∙ ap (λ o. then_do o (in_turn (map (executed d bits) (assign_from 1 rest ∷ []))))
      (first_assigned first scope f named computes (it.small 0 some))
      ∙ ap (λ o. then_do o (in_turn [])) (shares_assigned d bits 1 rest scope f c (get_or memory c []) memory stream it (omega (arith, some)))

  small_share : (shares : List ℕ) → IsSharing B d shares → (n : ℕ) → n < d → get_or shares n 0 < 2 ^ bits
  small_share shares shared n below = omega (arith, shared.words n 0 (omega (arith, shared.count)), pow_le B bits room)

  -- a constant
  pub const_done : (k : ℕ) → k < 2 ^ B
      → in_turn (map (executed d bits) const_gadget.body) (record { scope = const_scope c k; memory = memory; stream = stream })
      ≡ Ok (wrote (const_scope c k) memory c (constant_shares d k) stream)
  const_done k below_B =
      let shares = constant_shares d k in
      let shared = constant_shared B d k some below_B in
      let f = λ (n : ℕ). get_or shares n 0 in
      first_and_rest (e.Word (codes "k")) (e.Number 0) (const_scope c k) f refl
      (evaluated-word (const_scope c k) (set memory c (filled f 0 (get_or memory c []))) (codes "k") stream)
      (record {
        count = target.count;
        within = target.within;
        array = λ n. refl;
        place = λ n. refl;
        small = small_share shares shared;
        computes = λ n from below.
            evaluated-number (with_share (const_scope c k) n) (set memory c (filled f n (get_or memory c []))) 0 stream
            ∙ ap (λ x. Ok (x, stream)) (sym (others n from));
      })
      ∙ ap (λ row. Ok (wrote (const_scope c k) memory c row stream)) (sym (fill_by_all f shares d 0 shared.count (λ n below. refl)))
    where
      zeros : (many n : ℕ) → ◌≡◌ {A = ℕ} (get_or (replicate many 0) n 0) 0
      zeros zero n = refl
      zeros (suc many) zero = refl
      zeros (suc many) (suc n) = zeros many n

      others : (n : ℕ) → 1 ≤ n → get_or (constant_shares d k) n 0 ≡ 0
      others zero from = absurd (omega (arith, from))
      others (suc n) from = zeros (d - 1) n

  -- a complement
  pub not_done : (a : ℕ) (xs : List ℕ) → IsOperand B d memory c a xs
      → in_turn (map (executed d bits) (not_gadget (ones B)).body) (record { scope = unary_scope c a; memory = memory; stream = stream })
      ≡ Ok (wrote (unary_scope c a) memory c (not_shares (ones B) xs) stream)
  not_done a xs operand =
      let shares = not_shares (ones B) xs in
      let shared = not_shared B d (ones B) xs (ones_below B) operand.shared in
      let f = λ (n : ℕ). get_or shares n 0 in
      first_and_rest (e.Two op.Xor (e.Cell (codes "a") (index.Number 0)) (e.Number (ones B))) (cell (codes "a") (codes "i")) (unary_scope c a) f refl
      (computed-two (unary_scope c a) (set memory c (filled f 0 (get_or memory c []))) op.Xor (e.Cell (codes "a") (index.Number 0)) (e.Number (ones B))
      (get_or xs 0 0) (ones B) (f 0) stream stream stream
      (computed-cell (unary_scope c a) (set memory c (filled f 0 (get_or memory c []))) (codes "a") (index.Number 0) a 0 (get_or xs 0 0) stream refl refl
      (operand_word B d memory c a xs operand (filled f 0 (get_or memory c [])) 0 some))
      (evaluated-number (unary_scope c a) (set memory c (filled f 0 (get_or memory c []))) (ones B) stream)
      (ap Some (sym (first xs (omega (arith, operand.shared.count, some))))))
      (record {
        count = target.count;
        within = target.within;
        array = λ n. refl;
        place = λ n. refl;
        small = small_share shares shared;
        computes = λ n from below.
            share_read B bits d room memory stream c target (unary_scope c a) (codes "a") a xs operand (λ n. refl) (λ n. refl) (filled f n (get_or memory c [])) n below
            ∙ ap (λ x. Ok (x, stream)) (sym (others xs n from));
      })
      ∙ ap (λ row. Ok (wrote (unary_scope c a) memory c row stream)) (sym (fill_by_all f shares d 0 shared.count (λ n below. refl)))
    where
      first : (xs : List ℕ) → 0 < length xs → get_or (not_shares (ones B) xs) 0 0 ≡ bit_xor (get_or xs 0 0) (ones B)
      first [] any = absurd (omega (arith, any))
      first (x ∷ xs) any = refl

      others : (xs : List ℕ) (n : ℕ) → 1 ≤ n → get_or (not_shares (ones B) xs) n 0 ≡ get_or xs n 0
      others [] n from = refl
      others (x ∷ xs) zero from = absurd (omega (arith, from))
      others (x ∷ xs) (suc n) from = refl
