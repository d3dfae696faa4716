-- How many ends of probes are on a share, and that of more shares than probes one has at most one.
use Rattle.std.proofs.Common.{◌≡◌, ◌≢◌, ◌<◌, ◌≤◌, ◌+◌, ◌*◌, ◌⊎◌, inl, inr, ℕ, zero, suc, Bool, true, false, cond, List, [], ◌∷◌, length, eqb, eq-eqb, eqb-true, refl, ap, subst, arith}
use Rattle.span_model.specs.Attack.{Probe}

-- 1 where the two numbers are one, and else 0
pub one : ℕ → ℕ → ℕ
one a s = cond (eqb a s) 1 0

pub one_true : (a s : ℕ) → eqb a s ≡ true → one a s ≡ 1
unfolding one
one_true a s e = ap (λ (b : Bool). cond b 1 0) e

pub one_false : (a s : ℕ) → eqb a s ≡ false → one a s ≡ 0
unfolding one
one_false a s e = ap (λ (b : Bool). cond b 1 0) e

pub one_same : (a : ℕ) → one a a ≡ 1
one_same a = one_true a a (eq-eqb a a refl)

-- how often a share stands in a list of shares
abbrev pub hits : ℕ → List ℕ → ℕ
hits a [] = 0
hits a (s ∷ shares) = one a s + hits a shares

-- how many ends of a probe, and of all probes, are on a share
abbrev pub touch : Probe → ℕ → ℕ
touch probe s = one probe.left_share s + one probe.right_share s

abbrev pub touches : List Probe → ℕ → ℕ
touches [] s = 0
touches (probe ∷ probes) s = touch probe s + touches probes s

-- the ends on all the shares of the list
abbrev total : List ℕ → List Probe → ℕ
total [] probes = 0
total (s ∷ shares) probes = touches probes s + total shares probes

total_none : (shares : List ℕ) → total shares [] ≡ 0
total_none [] = refl
total_none (s ∷ shares) = let e = total_none shares in omega arith

total_more : (shares : List ℕ) (probe : Probe) (probes : List Probe)
    → total shares (probe ∷ probes) ≡ (hits probe.left_share shares + hits probe.right_share shares) + total shares probes
total_more [] probe probes = refl
total_more (s ∷ shares) probe probes = let e = total_more shares probe probes in omega arith

-- no share stands twice
abbrev pub IsDistinct : List ℕ → Type 0
IsDistinct shares = (a : ℕ) → hits a shares ≤ 1

total_small : (shares : List ℕ) → IsDistinct shares → (probes : List Probe) → total shares probes ≤ 2 * length probes
total_small shares distinct [] = omega (arith, total_none shares)
total_small shares distinct (probe ∷ probes) =
    let e = total_more shares probe probes in
    let l = distinct probe.left_share in
    let r = distinct probe.right_share in
    let le = total_small shares distinct probes in
    omega arith

-- a share of the list that has at most one end, and the shares that are left
pub record Untouched (shares : List ℕ) (probes : List Probe) : Type 0 where
  pub share : ℕ
  pub rest : List ℕ
  pub count : length shares ≡ suc (length rest)
  pub hits_are : (a : ℕ) → hits a shares ≡ one a share + hits a rest
  pub few : touches probes share ≤ 1

at_most_one : (n : ℕ) → (n ≤ 1) ⊎ (2 ≤ n)
at_most_one zero = inl (omega arith)
at_most_one (suc zero) = inl (omega arith)
at_most_one (suc (suc n)) = inr (omega arith)

few_on_one : (shares : List ℕ) (probes : List Probe) → total shares probes < 2 * length shares → Untouched shares probes
few_on_one [] probes lt = absurd (omega arith)
few_on_one (s ∷ shares) probes lt = elim (at_most_one (touches probes s)) [
  | inl le ↦ record { share = s; rest = shares; count = refl; hits_are = λ a. refl; few = le }
  | inr ge ↦ (
      let lt' : total shares probes < 2 * length shares = omega arith in
      let u = few_on_one shares probes lt' in
      record {
        share = u.share;
        rest = s ∷ u.rest;
        count = ap suc u.count;
        hits_are = λ a. (let e = u.hits_are a in omega arith);
        few = u.few;
      })
]

-- of more shares than probes one has at most one end
pub untouched : (shares : List ℕ) → IsDistinct shares → (probes : List Probe) → length probes < length shares → Untouched shares probes
untouched shares distinct probes lt = let le = total_small shares distinct probes in few_on_one shares probes (omega arith)

pub rest_distinct : {shares : List ℕ} {probes : List Probe} → IsDistinct shares → (u : Untouched shares probes) → IsDistinct u.rest
rest_distinct distinct u a = let e = u.hits_are a in let le = distinct a in omega arith

pub rest_within : {shares : List ℕ} {probes : List Probe} (u : Untouched shares probes) (a : ℕ) → 1 ≤ hits a u.rest → 1 ≤ hits a shares
rest_within u a h = let e = u.hits_are a in omega arith

pub rest_other : {shares : List ℕ} {probes : List Probe} → IsDistinct shares → (u : Untouched shares probes) (a : ℕ) → 1 ≤ hits a u.rest → a ≢ u.share
rest_other distinct u a h same =
    let e = u.hits_are a in
    let le = distinct a in
    let here : one a u.share ≡ 1 = subst (λ (s : ℕ). one a s ≡ 1) same (one_same a) in
    omega arith

pub share_within : {shares : List ℕ} {probes : List Probe} (u : Untouched shares probes) → 1 ≤ hits u.share shares
share_within u = let e = u.hits_are u.share in let here = one_same u.share in omega arith

-- the shares from 0 to t
abbrev pub all_shares : ℕ → List ℕ
all_shares zero = 0 ∷ []
all_shares (suc t) = suc t ∷ all_shares t

pub length-all_shares : (t : ℕ) → length (all_shares t) ≡ suc t
length-all_shares zero = refl
length-all_shares (suc t) = ap suc (length-all_shares t)

one_apart : (a s : ℕ) (b : Bool) → eqb a s ≡ b → s < a → one a s ≡ 0
one_apart a s true e lt = absurd (let same = eqb-true a s e in omega arith)
one_apart a s false e lt = one_false a s e

hits_above : (t a : ℕ) → t < a → hits a (all_shares t) ≡ 0
hits_above zero a lt = let e = one_apart a 0 (eqb a 0) refl lt in omega arith
hits_above (suc t) a lt =
    let e = one_apart a (suc t) (eqb a (suc t)) refl lt in
    let rest = hits_above t a (omega arith) in
    omega arith

one_small : (a s : ℕ) (b : Bool) → eqb a s ≡ b → ((a ≡ s) × (one a s ≡ 1)) ⊎ (one a s ≡ 0)
one_small a s true e = inl (eqb-true a s e, one_true a s e)
one_small a s false e = inr (one_false a s e)

pub all_distinct : (t : ℕ) → IsDistinct (all_shares t)
all_distinct zero a = elim (one_small a 0 (eqb a 0) refl) [ inl x ↦ omega (arith, x.1) | inr x ↦ omega arith ]
all_distinct (suc t) a = elim (one_small a (suc t) (eqb a (suc t)) refl) [
  | inl x ↦ (let same : a ≡ suc t = x.0 in let none = hits_above t a (omega arith) in omega (arith, x.1))
  | inr x ↦ (let le = all_distinct t a in omega arith)
]

pub all_within : (t a : ℕ) → 1 ≤ hits a (all_shares t) → a ≤ t
all_within zero a h = elim (one_small a 0 (eqb a 0) refl) [ inl x ↦ omega (arith, x.0) | inr x ↦ absurd (omega arith) ]
all_within (suc t) a h = elim (one_small a (suc t) (eqb a (suc t)) refl) [
  | inl x ↦ omega (arith, x.0)
  | inr x ↦ (let le = all_within t a (omega arith) in omega arith)
]
