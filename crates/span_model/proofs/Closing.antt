-- An attack gives a closure: of more shares than probes one is touched at most once, so its probe is a step, and it goes away with its share.
use Rattle.std.proofs.Common.{◌≡◌, ◌≢◌, ◌<◌, ◌≤◌, ◌⊎◌, inl, inr, ℕ, zero, suc, Bool, true, false, cond, List, [], ◌∷◌, ◌++◌, length, All, eqb, eq-eqb, eqb-true, refl, sym, ap, ◌∙◌, arith, suc-le-suc, true≢false}
use Rattle.span_model.specs.Columns.{Columns}
use Rattle.span_model.specs.Span.{InSpan, Spans}
use Rattle.span_model.specs.Attack.{Product, Probe, IsProbe, product_at, shown, seen, IsAttack}
use Rattle.span_model.specs.Closure.{Step, on_left, on_right, operand, co_operand, co_operands, IsChain, IsClosed}
use Rattle.span_model.proofs.Members.{spans_none, spans_both, spans_follow, in_behind, in_front}
use Rattle.span_model.proofs.Touches.{one_true, hits, touches, IsDistinct, Untouched, untouched, rest_distinct, rest_within, rest_other, share_within, all_shares, length-all_shares, all_distinct, all_within}

-- each probe is of one of so many products
abbrev AllOf : ℕ → List Probe → Type 0
AllOf n [] = Unit {0}
AllOf n (probe ∷ probes) = (probe.product < n) × AllOf n probes

all_of : (n t : ℕ) (probes : List Probe) → All (IsProbe n t) probes → AllOf n probes
all_of n t [] h = tt
all_of n t (probe ∷ probes) h = ((h 0 probe (omega arith)).product, all_of n t probes (λ k d lt. h (suc k) d (suc-le-suc lt)))

apart : (a s : ℕ) → eqb a s ≡ false → a ≢ s
apart a s e same = true≢false (sym (eq-eqb a s same) ∙ e)

module _ {C : Type 0} where
  spans_if : (rows less : List (Columns C)) (b : Bool) → (b ≡ true → Spans rows less) → Spans rows (cond b less [])
  spans_if rows less true h = h refl
  spans_if rows less false h = spans_none rows

  spans_self : (rows : List (Columns C)) → Spans rows rows
  spans_self rows v m = m

  -- the probes with the one that touches the share taken away: it is a step
  record Once (products : List (Product C)) (s : ℕ) (probes : List Probe) : Type 0 where
    step : Step
    is_product : step.product < length products
    rest : List Probe
    rest_of : AllOf (length products) rest
    count : length probes ≡ suc (length rest)
    here : Spans (operand products step) (seen products probes s)
    elsewhere : (other : ℕ) → other ≢ s → Spans (co_operand products step ++ seen products rest other) (seen products probes other)

  -- a share that no end is on shows nothing
  unseen : (products : List (Product C)) (s : ℕ) (probes : List Probe) → touches probes s ≡ 0 → Spans [] (seen products probes s)
  unseen products s [] none = spans_none []
  unseen products s (probe ∷ probes) none =
      spans_both [] (shown products probe s) (seen products probes s)
      (spans_both [] _ _
      (spans_if [] (product_at products probe.product).left (eqb probe.left_share s) (λ e. absurd (omega (arith, one_true probe.left_share s e))))
      (spans_if [] (product_at products probe.product).right (eqb probe.right_share s) (λ e. absurd (omega (arith, one_true probe.right_share s e)))))
      (unseen products s probes (omega arith))

  -- more rows between two lists span no less
  spans_between : (a b c : List (Columns C)) → Spans (a ++ (b ++ c)) (a ++ c)
  spans_between a b c = spans_both (a ++ (b ++ c)) a c
      (in_behind a (b ++ c))
      (spans_follow (a ++ (b ++ c)) (b ++ c) c (in_front a (b ++ c)) (in_front b c))

  -- the probe in front is on the share with no end
  skipped : (products : List (Product C)) (s : ℕ) (probe : Probe) (probes : List Probe) → AllOf (length products) (probe ∷ probes)
      → eqb probe.left_share s ≡ false → eqb probe.right_share s ≡ false
      → Spans [] (seen products probes s) ⊎ Once products s probes
      → Spans [] (seen products (probe ∷ probes) s) ⊎ Once products s (probe ∷ probes)
  skipped products s probe probes of e f found =
      let none : (rows : List (Columns C)) → Spans rows (shown products probe s) = λ rows. spans_both rows _ _
      (spans_if rows (product_at products probe.product).left (eqb probe.left_share s) (λ h. absurd (true≢false (sym h ∙ e))))
      (spans_if rows (product_at products probe.product).right (eqb probe.right_share s) (λ h. absurd (true≢false (sym h ∙ f)))) in
      elim found [
        | inl x ↦ inl (spans_both [] (shown products probe s) (seen products probes s) (none []) x)
        | inr o ↦ inr (record {
          step = o.step;
          is_product = o.is_product;
          rest = probe ∷ o.rest;
          rest_of = (of.0, o.rest_of);
          count = ap suc o.count;
          here = spans_both (operand products o.step) (shown products probe s) (seen products probes s) (none (operand products o.step)) o.here;
          elsewhere = λ other ne. spans_both _ (shown products probe other) (seen products probes other)
              (spans_follow _ (shown products probe other ++ seen products o.rest other) _
              (in_front (co_operand products o.step) (shown products probe other ++ seen products o.rest other))
              (in_behind (shown products probe other) (seen products o.rest other)))
              (spans_follow _ (co_operand products o.step ++ seen products o.rest other) _
              (spans_between (co_operand products o.step) (shown products probe other) (seen products o.rest other))
              (o.elsewhere other ne));
        })
      ]

  -- the probe in front has its left end alone on the share, and no other probe has one
  on_left_end : (products : List (Product C)) (s : ℕ) (probe : Probe) (probes : List Probe) → AllOf (length products) (probe ∷ probes)
      → eqb probe.left_share s ≡ true → eqb probe.right_share s ≡ false → touches probes s ≡ 0 → Once products s (probe ∷ probes)
  on_left_end products s probe probes of e f none =
      let p = product_at products probe.product in
      record {
        step = record { product = probe.product; side = on_left };
        is_product = of.0;
        rest = probes;
        rest_of = of.1;
        count = refl;
        here = spans_both p.left (shown products probe s) (seen products probes s)
            (spans_both p.left _ _
            (spans_if p.left p.left (eqb probe.left_share s) (λ _. spans_self p.left))
            (spans_if p.left p.right (eqb probe.right_share s) (λ h. absurd (true≢false (sym h ∙ f)))))
            (spans_follow p.left [] _ (spans_none p.left) (unseen products s probes none));
        elsewhere = λ other ne. spans_both (p.right ++ seen products probes other) (shown products probe other) (seen products probes other)
            (spans_both _ _ _
            (spans_if _ p.left (eqb probe.left_share other) (λ h. absurd (ne (sym (eqb-true _ _ h) ∙ eqb-true _ _ e))))
            (spans_if _ p.right (eqb probe.right_share other) (λ _. in_behind p.right (seen products probes other))))
            (in_front p.right (seen products probes other));
      }

  -- likewise its right end
  on_right_end : (products : List (Product C)) (s : ℕ) (probe : Probe) (probes : List Probe) → AllOf (length products) (probe ∷ probes)
      → eqb probe.left_share s ≡ false → eqb probe.right_share s ≡ true → touches probes s ≡ 0 → Once products s (probe ∷ probes)
  on_right_end products s probe probes of e f none =
      let p = product_at products probe.product in
      record {
        step = record { product = probe.product; side = on_right };
        is_product = of.0;
        rest = probes;
        rest_of = of.1;
        count = refl;
        here = spans_both p.right (shown products probe s) (seen products probes s)
            (spans_both p.right _ _
            (spans_if p.right p.left (eqb probe.left_share s) (λ h. absurd (true≢false (sym h ∙ e))))
            (spans_if p.right p.right (eqb probe.right_share s) (λ _. spans_self p.right)))
            (spans_follow p.right [] _ (spans_none p.right) (unseen products s probes none));
        elsewhere = λ other ne. spans_both (p.left ++ seen products probes other) (shown products probe other) (seen products probes other)
            (spans_both _ _ _
            (spans_if _ p.left (eqb probe.left_share other) (λ _. in_behind p.left (seen products probes other)))
            (spans_if _ p.right (eqb probe.right_share other) (λ h. absurd (ne (sym (eqb-true _ _ h) ∙ eqb-true _ _ f)))))
            (in_front p.left (seen products probes other));
      }

  front : (products : List (Product C)) (s : ℕ) (probe : Probe) (probes : List Probe) → AllOf (length products) (probe ∷ probes)
      → touches (probe ∷ probes) s ≤ 1 → Spans [] (seen products probes s) ⊎ Once products s probes
      → (b : Bool) → eqb probe.left_share s ≡ b → (c : Bool) → eqb probe.right_share s ≡ c
      → Spans [] (seen products (probe ∷ probes) s) ⊎ Once products s (probe ∷ probes)
  front products s probe probes of few found false e false f = skipped products s probe probes of e f found
  front products s probe probes of few found true e false f =
      let l = one_true probe.left_share s e in inr (on_left_end products s probe probes of e f (omega arith))
  front products s probe probes of few found false e true f =
      let r = one_true probe.right_share s f in inr (on_right_end products s probe probes of e f (omega arith))
  front products s probe probes of few found true e true f =
      let l = one_true probe.left_share s e in let r = one_true probe.right_share s f in absurd (omega arith)

  -- a share with at most one end shows nothing, or one operand
  once : (products : List (Product C)) (s : ℕ) (probes : List Probe) → AllOf (length products) probes → touches probes s ≤ 1
      → Spans [] (seen products probes s) ⊎ Once products s probes
  once products s [] of few = inl (spans_none [])
  once products s (probe ∷ probes) of few =
      front products s probe probes of few (once products s probes of.1 (omega arith)) (eqb probe.left_share s) refl (eqb probe.right_share s) refl

  -- the steps found so far, with the probes and the shares that are left: more shares than probes
  record Left (products : List (Product C)) (leak : Columns C) (n : ℕ) (probes : List Probe) (shares : List ℕ) (steps : List Step) : Type 0 where
    of : AllOf (length products) probes
    probe_count : length probes ≡ n
    share_count : length shares ≡ suc n
    distinct : IsDistinct shares
    chain : IsChain products leak steps
    spanned : (s : ℕ) → 1 ≤ hits s shares → InSpan (co_operands products steps ++ seen products probes s) leak

  -- a share that shows nothing leaves the co-operands alone
  ends : (products : List (Product C)) (leak : Columns C) (probes : List Probe) (steps : List Step) (s : ℕ) → IsChain products leak steps
      → InSpan (co_operands products steps ++ seen products probes s) leak → Spans [] (seen products probes s) → IsClosed products leak
  ends products leak probes steps s chain spanned nothing = (
    steps,
    chain,
    spans_both (co_operands products steps) (co_operands products steps) (seen products probes s)
        (spans_self (co_operands products steps))
        (spans_follow _ [] _ (spans_none (co_operands products steps)) nothing)
        leak spanned,
  )

  -- a share that shows one operand gives a step
  goes_on : (products : List (Product C)) (leak : Columns C) (n : ℕ) (probes : List Probe) (shares : List ℕ) (steps : List Step)
      → Left products leak (suc n) probes shares steps → (u : Untouched shares probes) → (o : Once products u.share probes)
      → Left products leak n o.rest u.rest (o.step ∷ steps)
  goes_on products leak n probes shares steps l u o =
      let shares_are : length shares ≡ suc (length u.rest) = u.count in
      let probes_are : length probes ≡ suc (length o.rest) = o.count in
      let share_count = l.share_count in
      let probe_count = l.probe_count in
      let co = co_operands products steps in
      record {
        of = o.rest_of;
        probe_count = omega arith;
        share_count = omega arith;
        distinct = rest_distinct l.distinct u;
        chain = (
          o.is_product,
          spans_both (operand products o.step ++ co) co (seen products probes u.share)
              (in_front (operand products o.step) co)
              (spans_follow _ (operand products o.step) _ (in_behind (operand products o.step) co) o.here)
              leak (l.spanned u.share (share_within u)),
          l.chain,
        );
        spanned = λ s h. spans_both ((co_operand products o.step ++ co) ++ seen products o.rest s) co (seen products probes s)
            (spans_follow _ (co_operand products o.step ++ co) _
            (in_behind (co_operand products o.step ++ co) (seen products o.rest s))
            (in_front (co_operand products o.step) co))
            (spans_follow _ (co_operand products o.step ++ seen products o.rest s) _
            (spans_both ((co_operand products o.step ++ co) ++ seen products o.rest s) (co_operand products o.step) (seen products o.rest s)
            (spans_follow _ (co_operand products o.step ++ co) _
            (in_behind (co_operand products o.step ++ co) (seen products o.rest s))
            (in_behind (co_operand products o.step) co))
            (in_front (co_operand products o.step ++ co) (seen products o.rest s)))
            (o.elsewhere s (rest_other l.distinct u s h)))
            leak (l.spanned s (rest_within u s h));
      }

  closes : (products : List (Product C)) (leak : Columns C) (n : ℕ) (probes : List Probe) (shares : List ℕ) (steps : List Step)
      → Left products leak n probes shares steps → IsClosed products leak
  closes products leak zero probes shares steps l =
      let share_count = l.share_count in
      let probe_count = l.probe_count in
      let u = untouched shares l.distinct probes (omega arith) in
      elim (once products u.share probes l.of u.few) [
        | inl nothing ↦ ends products leak probes steps u.share l.chain (l.spanned u.share (share_within u)) nothing
        | inr o ↦ (let probes_are : length probes ≡ suc (length o.rest) = o.count in absurd (omega arith))
      ]
  closes products leak (suc n) probes shares steps l =
      let share_count = l.share_count in
      let probe_count = l.probe_count in
      let u = untouched shares l.distinct probes (omega arith) in
      elim (once products u.share probes l.of u.few) [
        | inl nothing ↦ ends products leak probes steps u.share l.chain (l.spanned u.share (share_within u)) nothing
        | inr o ↦ closes products leak n o.rest u.rest (o.step ∷ steps) (goes_on products leak n probes shares steps l u o)
      ]

  pub attack_closes : (products : List (Product C)) (t : ℕ) (leak : Columns C) (probes : List Probe) → IsAttack products t leak probes → IsClosed products leak
  attack_closes products t leak probes attack =
      closes products leak t probes (all_shares t) [] (record {
        of = all_of (length products) t probes attack.within;
        probe_count = attack.count;
        share_count = length-all_shares t;
        distinct = all_distinct t;
        chain = tt;
        spanned = λ s h. attack.spanned s (all_within t s h);
      })
