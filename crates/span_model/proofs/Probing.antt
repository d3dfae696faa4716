-- Lists of probes: the shares that they are on, and what they show together.
use Rattle.std.proofs.Common.{◌<◌, ◌≤◌, ℕ, zero, suc, List, [], ◌∷◌, ◌++◌, All, arith}
use native.Mathlib.Nat.{le_of_suc-le-suc}
use Rattle.span_model.specs.Span.{Spans}
use Rattle.span_model.specs.Attack.{Product, Probe, IsProbe, shown, seen}
use Rattle.span_model.proofs.Members.{spans_none, spans_both, in_behind, in_front}

-- each probe is of one of so many products, on shares below a bound
abbrev pub AllBelow : ℕ → ℕ → List Probe → Type 0
AllBelow n bound [] = Unit {0}
AllBelow n bound (probe ∷ probes) =
    ((probe.product < n) × (probe.left_share < bound) × (probe.right_share < bound)) × AllBelow n bound probes

-- a greater bound is one too
pub below_more : (n bound more : ℕ) (probes : List Probe) → bound ≤ more → AllBelow n bound probes
    → AllBelow n more probes
below_more n bound more [] le h = tt
below_more n bound more (probe ∷ probes) le h = (
  (
    h.0.0,
    omega (arith, h.0.1),
    omega
        (arith, h.0.2),
  ),
  below_more n bound more probes le h.1,
)

-- the probes of two lists
pub below-append : (n bound : ℕ) (a b : List Probe) → AllBelow n bound a → AllBelow n bound b
    → AllBelow n bound (a ++ b)
below-append n bound [] b h k = k
below-append n bound (probe ∷ a) b h k = (h.0, below-append n bound a b h.1 k)

-- probes on shares below t + 1 are on the shares 0 to t
pub below_within : (n t : ℕ) (probes : List Probe) → AllBelow n (suc t) probes → All (IsProbe n t) probes
below_within n t [] h k d lt = absurd (omega arith)
below_within n t (probe ∷ probes) h zero d lt = record {
  product = h.0.0;
  left_share = omega
      (arith, h.0.1);
  right_share = omega (arith, h.0.2);
}
below_within n t (probe ∷ probes) h (suc k) d lt = below_within n t probes h.1 k d (le_of_suc-le-suc lt)

module _ {C : Type 0} where
  -- more probes behind show no less
  pub seen_first : (products : List (Product C)) (a b : List Probe) (s : ℕ)
      → Spans (seen products (a ++ b) s) (seen products a s)
  seen_first products [] b s = spans_none (seen products b s)
  seen_first products (probe ∷ a) b s = spans_both (seen products (probe ∷ (a ++ b)) s) (shown products probe s)
      (seen products a s)
      (in_behind (shown products probe s) (seen products (a ++ b) s))
      (λ v m. in_front (shown products probe s) (seen products (a ++ b) s) v (seen_first products a b s v m))

  -- more probes in front show no less
  pub seen_second : (products : List (Product C)) (a b : List Probe) (s : ℕ)
      → Spans (seen products (a ++ b) s) (seen products b s)
  seen_second products [] b s v m = m
  seen_second products (probe ∷ a) b s v m = in_front (shown products probe s) (seen products (a ++ b) s) v
      (seen_second products a b s v m)
