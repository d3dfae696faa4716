-- The product and the refresh.
use Rattle.std.proofs.Common.{◌≡◌, ◌≢◌, ℕ, ◌+◌, ◌%◌, ◌^◌, ◌<◌, ◌≤◌, List, [], ◌∷◌, map, drop, set, get_or, length, Some, Ok, Err, refl, sym, ap, ◌∙◌, arith, subst, bit_xor, mod-lt, length-set, get_or-set_other, ltb}
use Rattle.std.specs.Prelude.{codes, slice_index}
use Rattle.std.specs.List.{range_with_len}
use Rattle.std.proofs.lemmas.Bool.{cond_both}
use Rattle.std.proofs.lemmas.List.FromFn.{length-map-range_with_len, get_or-map-range_with_len}
use Rattle.std.proofs.lemmas.Nat.{xor_lt, and_le_r, pow_pos}
use Rattle.c_tree.specs.declared.CExpr.TheVariants as e
use Rattle.c_tree.specs.declared.CIndex.TheVariants as index
use Rattle.c_tree.specs.declared.COp.TheVariants as op
use Rattle.c_machine.specs.Scope.{Binding, meant_by, row_of, index_value}
use Rattle.c_machine.specs.Machine.{Outcome, evaluated, executed, in_turn, then_do, declared}
use Rattle.c_form.specs.Template.{cell, draw, draw_across, add_to, additions, share_product, first_across, assign_from, and_pairs, refresh_pairs, and_gadget, refresh_gadget}
use Rattle.usuba0.specs.Term.{ones}
use Rattle.share_gadgets.specs.Gadgets.{pair, pairs, product_of, cross, pair_word, product_shares, refreshed_shares}
use Rattle.share_gadgets.specs.Private.PairLoop.{own_product, product_before, refreshed_before, shares_before, share_before, reached}
use Rattle.share_gadgets.proofs.PairNumbers.{pair_below}
use Rattle.share_gadgets.proofs.PairSteps.{product_step, product_row_end, product_start, product_end, refreshed_step, refreshed_row_end, refreshed_start, refreshed_end}
use Rattle.share_gadgets.proofs.Shared.{pow_le, share_below, without_below}
use Rattle.masked_machine.proofs.Reading.{computed-cell, computed-two, evaluated-word, executed-let}
use Rattle.masked_machine.proofs.Operands.{unary_scope, binary_scope, IsTarget, IsOperand, operand_word}
use Rattle.masked_machine.proofs.ShareLoops.{filled, with_share}
use Rattle.masked_machine.proofs.Sharewise.{wrote, sharewise_done, copy_done}
use Rattle.masked_machine.proofs.PairLoops.{with_pair, place, before_pair, pairs_done}
use Rattle.masked_machine.proofs.Pairs.{holding, and_word, draw_done, add_done}

-- the random word of each pair, cut to B bits, where these are the words that are left
abbrev pub cut_words : ℕ → List ℕ → ℕ → ℕ
cut_words B words number = slice_index words number % 2 ^ B

pub cut_below : (B : ℕ) (words : List ℕ) (n : ℕ) → cut_words B words n < 2 ^ B
cut_below B words n = mod-lt (slice_index words n) (pow_pos B)

module _ (d : ℕ) (first : ℕ → ℕ) (terms : ℕ → ℕ → ℕ) where
  -- the shares of a loop under way are words of B bits
  pub before_below : (B : ℕ) → ((k : ℕ) → first k < 2 ^ B) → ((k j : ℕ) → terms k j < 2 ^ B) → (i j k : ℕ) → k < d
      → get_or (shares_before d first terms i j) k 0 < 2 ^ B
  before_below B firsts each i j k below =
      subst (λ x. x < 2 ^ B) (sym (get_or-map-range_with_len (share_before d first terms i j) 0 d k k 0 below (omega arith)))
      (without_below B k (first k) (terms k) (reached d i j k) (firsts k) (each k))

  pub before_count : (i j : ℕ) → length (shares_before d first terms i j) ≡ d
  before_count i j = length-map-range_with_len (share_before d first terms i j) 0 d

then_nothing : (o : Outcome) → then_do o (in_turn []) ≡ o
then_nothing (Ok state) = refl
then_nothing (Err trap) = refl

-- the names in the loop's body, once the word of the pair is drawn
abbrev pub with_drawn : List Binding → ℕ → ℕ → ℕ → List Binding
with_drawn scope i j u = and_word (with_pair scope i j) (codes "r") u

module _ (B bits d : ℕ) (room : B ≤ bits) (memory : List (List ℕ)) (words : List ℕ) (c : ℕ) (target : IsTarget d memory c)
    (enough : pairs d ≤ length words) (a : ℕ) (xs : List ℕ) (left : IsOperand B d memory c a xs) where
  abbrev random : ℕ → ℕ
  random = cut_words B words

  small_sum : (x y : ℕ) → x < 2 ^ B → y < 2 ^ B → bit_xor x y < 2 ^ bits
  small_sum x y p q = omega (arith, xor_lt B x y p q, pow_le B bits room)

  -- the refresh
  abbrev refresh_before : ℕ → ℕ → List ℕ
  refresh_before = refreshed_before d xs random

  words_of_pairs : (i j : ℕ) → pair_word d random i j < 2 ^ B
  words_of_pairs i j = cond_both (ltb i j) (random (pair d i j)) (random (pair d j i)) (λ (x : ℕ). x < 2 ^ B) (λ e. cut_below B words (pair d i j)) (λ e. cut_below B words (pair d j i))

  refresh_pair : (i j : ℕ) → i < j → j < d
      → in_turn (map (executed d bits) (draw (ones B) (codes "r") ∷ additions (codes "r"))) (before_pair d (with_pair (unary_scope c a) i j) refresh_before c memory words i j)
      ≡ Ok (holding (with_drawn (unary_scope c a) i j (random (pair d i j))) memory c (refresh_before i (j + 1)) (drop (place d i j + 1) words))
  refresh_pair i j above below =
      let scope = with_pair (unary_scope c a) i j in
      let u = random (pair d i j) in
      let inner = with_drawn (unary_scope c a) i j u in
      let row = refresh_before i j in
      let next = set row i (bit_xor (get_or row i 0) u) in
      let last = set next j (bit_xor (get_or next j 0) u) in
      let rest = drop (place d i j + 1) words in
      let many : length row ≡ d = before_count d (slice_index xs) (pair_word d random) i j in
      let each : (k : ℕ) → k < d → get_or row k 0 < 2 ^ B =
      before_below d (slice_index xs) (pair_word d random) B (share_below B xs left.shared.words) words_of_pairs i j in
      let other : get_or next j 0 ≡ get_or row j 0 = get_or-set_other row i j _ 0 (apart i j above) in
      let small : u < 2 ^ B = cut_below B words (pair d i j) in
      ap (λ o. then_do o (in_turn (map (executed d bits) (additions (codes "r")))))
      (draw_done B bits d memory c target.within scope row words (place d i j) (omega (arith, enough, pair_below d i j above below)))
      ∙ ap (λ o. then_do o (in_turn (map (executed d bits) (add_to (codes "j") (codes "r") ∷ []))))
      (add_done B bits d memory c target.within inner row rest (codes "i") (codes "r") i u refl refl refl (omega (arith, many, above, below))
      (small_sum (get_or row i 0) u (each i (omega (arith, above, below))) small))
      ∙ ap (λ o. then_do o (in_turn []))
      (add_done B bits d memory c target.within inner next rest (codes "j") (codes "r") j u refl refl refl (omega (arith, length-set row i (bit_xor (get_or row i 0) u), many, below))
      (subst (λ x. bit_xor x u < 2 ^ bits) (sym other) (small_sum (get_or row j 0) u (each j below) small)))
      ∙ ap (λ r. Ok (holding inner memory c r rest)) (refreshed_step d xs random i j row next last u above below refl refl refl refl)
    where
      apart : (i j : ℕ) → i < j → j ≢ i
      apart i j above is = absurd (omega (arith, above, is))

  pub refresh_done : 0 < d
      → in_turn (map (executed d bits) (refresh_gadget (ones B)).body) (record { scope = unary_scope c a; memory = memory; stream = words })
      ≡ Ok (wrote (unary_scope c a) memory c (refreshed_shares d xs random) (drop (pairs d) words))
  refresh_done some =
      ap (λ o. then_do o (in_turn (map (executed d bits) (refresh_pairs (ones B) ∷ [])))) copied
      ∙ ap (λ r. in_turn (map (executed d bits) (refresh_pairs (ones B) ∷ [])) (wrote (unary_scope c a) memory c r words)) (refreshed_start d xs random left.shared.count)
      ∙ ap (λ o. then_do o (in_turn []))
      (pairs_done d bits (draw (ones B) (codes "r") ∷ additions (codes "r")) (unary_scope c a) refresh_before c memory words (record {
        after = λ i j. with_drawn (unary_scope c a) i j (random (pair d i j));
        named = λ i. refl;
        own = λ i j. refl;
        does = refresh_pair;
        row_end = refreshed_row_end d xs random;
      }))
      ∙ ap (λ r. Ok (wrote (unary_scope c a) memory c r (drop (pairs d) words))) (refreshed_end d xs random)
    where
      copied : executed d bits (assign_from 0 (cell (codes "a") (codes "i"))) (record { scope = unary_scope c a; memory = memory; stream = words })
          ≡ Ok (wrote (unary_scope c a) memory c xs words)
      copied =
          sym (then_nothing (executed d bits (assign_from 0 (cell (codes "a") (codes "i"))) (record { scope = unary_scope c a; memory = memory; stream = words })))
          ∙ copy_done B bits d room memory words c target a xs left

  -- the product
  module _ (b : ℕ) (ys : List ℕ) (right : IsOperand B d memory c b ys) where
    abbrev products_before : ℕ → ℕ → List ℕ
    products_before = product_before d xs ys random

    product_small : (i j : ℕ) → product_of xs ys i j < 2 ^ B
    product_small i j = omega (arith, and_le_r (get_or xs i 0) (get_or ys j 0), share_below B ys right.shared.words j)

    cross_small : (i j : ℕ) → cross d xs ys random i j < 2 ^ B
    cross_small i j =
        cond_both (ltb i j) (random (pair d i j)) (bit_xor (bit_xor (random (pair d j i)) (product_of xs ys j i)) (product_of xs ys i j)) (λ (x : ℕ). x < 2 ^ B)
        (λ e. cut_below B words (pair d i j))
        (λ e. xor_lt B (bit_xor (random (pair d j i)) (product_of xs ys j i)) (product_of xs ys i j)
        (xor_lt B (random (pair d j i)) (product_of xs ys j i) (cut_below B words (pair d j i)) (product_small j i)) (product_small i j))

    -- `((uint64_t)a[I] & (uint64_t)b[J])`, where these counters stand for m and n
    across : (scope : List Binding) (first second : List ℕ) (m n : ℕ) (written stream : List ℕ) → m < d → n < d
        → row_of (meant_by scope (codes "a")) ≡ Some a → row_of (meant_by scope (codes "b")) ≡ Some b
        → index_value scope (index.Counter first) ≡ m → index_value scope (index.Counter second) ≡ n
        → evaluated (share_product first second) scope (set memory c written) stream ≡ Ok (product_of xs ys m n, stream)
    across scope first second m n written stream p q a_is b_is m_is n_is =
        computed-two scope (set memory c written) op.And (cell (codes "a") first) (cell (codes "b") second) (get_or xs m 0) (get_or ys n 0) (product_of xs ys m n) stream stream stream
        (computed-cell scope (set memory c written) (codes "a") (index.Counter first) a m (get_or xs m 0) stream a_is m_is (operand_word B d memory c a xs left written m p))
        (computed-cell scope (set memory c written) (codes "b") (index.Counter second) b n (get_or ys n 0) stream b_is n_is (operand_word B d memory c b ys right written n q))
        refl

    -- what is added to share j
    abbrev crossed : ℕ → ℕ → ℕ
    crossed i j = bit_xor (bit_xor (random (pair d i j)) (product_of xs ys i j)) (product_of xs ys j i)

    draw_across_done : (i j : ℕ) → i < j → j < d → (row stream : List ℕ)
        → executed d bits draw_across (holding (with_drawn (binary_scope c a b) i j (random (pair d i j))) memory c row stream)
        ≡ Ok (holding (and_word (with_drawn (binary_scope c a b) i j (random (pair d i j))) (codes "s") (crossed i j)) memory c row stream)
    draw_across_done i j above below row stream =
        let scope = with_drawn (binary_scope c a b) i j (random (pair d i j)) in
        let state = holding scope memory c row stream in
        let u = random (pair d i j) in
        let value : evaluated (e.Two op.Xor first_across (share_product (codes "j") (codes "i"))) scope (set memory c row) stream ≡ Ok (crossed i j, stream) =
        computed-two scope (set memory c row) op.Xor first_across (share_product (codes "j") (codes "i")) (bit_xor u (product_of xs ys i j)) (product_of xs ys j i) (crossed i j) stream stream stream
        (computed-two scope (set memory c row) op.Xor (e.Word (codes "r")) (share_product (codes "i") (codes "j")) u (product_of xs ys i j) (bit_xor u (product_of xs ys i j)) stream stream stream
        (evaluated-word scope (set memory c row) (codes "r") stream)
        (across scope (codes "i") (codes "j") i j row stream (omega (arith, above, below)) below refl refl refl refl) refl)
        (across scope (codes "j") (codes "i") j i row stream below (omega (arith, above, below)) refl refl refl refl) refl in
        executed-let d bits state (codes "s") (e.Two op.Xor first_across (share_product (codes "j") (codes "i"))) ∙ ap (declared state (codes "s")) value

    product_pair : (i j : ℕ) → i < j → j < d
        → in_turn (map (executed d bits) (draw (ones B) (codes "r") ∷ draw_across ∷ additions (codes "s"))) (before_pair d (with_pair (binary_scope c a b) i j) products_before c memory words i j)
        ≡ Ok (holding (and_word (with_drawn (binary_scope c a b) i j (random (pair d i j))) (codes "s") (crossed i j)) memory c (products_before i (j + 1)) (drop (place d i j + 1) words))
    product_pair i j above below =
        let scope = with_pair (binary_scope c a b) i j in
        let u = random (pair d i j) in
        let v = crossed i j in
        let inner = and_word (with_drawn (binary_scope c a b) i j u) (codes "s") v in
        let row = products_before i j in
        let next = set row i (bit_xor (get_or row i 0) u) in
        let last = set next j (bit_xor (get_or next j 0) v) in
        let rest = drop (place d i j + 1) words in
        let many : length row ≡ d = before_count d (own_product xs ys) (cross d xs ys random) i j in
        let each : (k : ℕ) → k < d → get_or row k 0 < 2 ^ B =
        before_below d (own_product xs ys) (cross d xs ys random) B (λ k. product_small k k) cross_small i j in
        let other : get_or next j 0 ≡ get_or row j 0 = get_or-set_other row i j _ 0 (apart i j above) in
        let small : u < 2 ^ B = cut_below B words (pair d i j) in
        let small_v : v < 2 ^ B = xor_lt B (bit_xor u (product_of xs ys i j)) (product_of xs ys j i) (xor_lt B u (product_of xs ys i j) small (product_small i j)) (product_small j i) in
        ap (λ o. then_do o (in_turn (map (executed d bits) (draw_across ∷ additions (codes "s")))))
        (draw_done B bits d memory c target.within scope row words (place d i j) (omega (arith, enough, pair_below d i j above below)))
        ∙ ap (λ o. then_do o (in_turn (map (executed d bits) (additions (codes "s"))))) (draw_across_done i j above below row rest)
        ∙ ap (λ o. then_do o (in_turn (map (executed d bits) (add_to (codes "j") (codes "s") ∷ []))))
        (add_done B bits d memory c target.within inner row rest (codes "i") (codes "r") i u refl refl refl (omega (arith, many, above, below))
        (small_sum (get_or row i 0) u (each i (omega (arith, above, below))) small))
        ∙ ap (λ o. then_do o (in_turn []))
        (add_done B bits d memory c target.within inner next rest (codes "j") (codes "s") j v refl refl refl (omega (arith, length-set row i (bit_xor (get_or row i 0) u), many, below))
        (subst (λ x. bit_xor x v < 2 ^ bits) (sym other) (small_sum (get_or row j 0) v (each j below) small_v)))
        ∙ ap (λ r. Ok (holding inner memory c r rest)) (product_step d xs ys random i j row next last u v above below refl refl refl refl refl)
      where
        apart : (i j : ℕ) → i < j → j ≢ i
        apart i j above is = absurd (omega (arith, above, is))

    pub product_done : 0 < d
        → in_turn (map (executed d bits) (and_gadget (ones B)).body) (record { scope = binary_scope c a b; memory = memory; stream = words })
        ≡ Ok (wrote (binary_scope c a b) memory c (product_shares d xs ys random) (drop (pairs d) words))
    product_done some =
        ap (λ o. then_do o (in_turn (map (executed d bits) (and_pairs (ones B) ∷ [])))) own
        ∙ ap (λ r. in_turn (map (executed d bits) (and_pairs (ones B) ∷ [])) (wrote (binary_scope c a b) memory c r words)) (product_start d xs ys random)
        ∙ ap (λ o. then_do o (in_turn []))
        (pairs_done d bits (draw (ones B) (codes "r") ∷ draw_across ∷ additions (codes "s")) (binary_scope c a b) products_before c memory words (record {
          after = λ i j. and_word (with_drawn (binary_scope c a b) i j (random (pair d i j))) (codes "s") (crossed i j);
          named = λ i. refl;
          own = λ i j. refl;
          does = product_pair;
          row_end = product_row_end d xs ys random;
        }))
        ∙ ap (λ r. Ok (wrote (binary_scope c a b) memory c r (drop (pairs d) words))) (product_end d xs ys random)
      where
        own : executed d bits (assign_from 0 (share_product (codes "i") (codes "i"))) (record { scope = binary_scope c a b; memory = memory; stream = words })
            ≡ Ok (wrote (binary_scope c a b) memory c (map (own_product xs ys) (range_with_len 0 d)) words)
        own =
            sym (then_nothing (executed d bits (assign_from 0 (share_product (codes "i") (codes "i"))) (record { scope = binary_scope c a b; memory = memory; stream = words })))
            ∙ sharewise_done B bits d room memory words c target (share_product (codes "i") (codes "i")) (binary_scope c a b) (own_product xs ys) (record {
              count = target.count;
              within = target.within;
              array = λ n. refl;
              place = λ n. refl;
              small = λ n below. omega (arith, product_small n n, pow_le B bits room);
              computes = λ n from below. across (with_share (binary_scope c a b) n) (codes "i") (codes "i") n n (filled (own_product xs ys) n (get_or memory c [])) words below below refl refl refl refl;
            })
