-- Places of steps, read from lists.
use Rattle.std.proofs.Common.{◌≡◌, ◌<◌, ℕ, List, length, get_or, sym, ap, ◌∙◌, arith, All, Result, Ok, Err}
use Rattle.std.specs.Result.{IfOk}
use Rattle.std.specs.List.{Contains}
use Rattle.std.proofs.lemmas.List.{length-map, get_or-map}
use Rattle.std.proofs.lemmas.List.Elements.{All-contains}
use Rattle.attack_cert.specs.Kept.{kept_places}
use Rattle.attack_cert.specs.declared.reached.Kept.{Kept}

-- the place of the step that is read
pub place_read : (kept : List Kept) (k : ℕ) (x : Kept) → k < length kept → x ≡ get_or kept k x → x.place ≡ get_or (kept_places kept) k 0
place_read kept k x h e = ap (λ (s : Kept). s.place) e ∙ sym (get_or-map (λ (s : Kept). s.place) kept k x 0 h)

pub place_below : (kept : List Kept) (k : ℕ) (x : Kept) (n : ℕ) → k < length kept → x ≡ get_or kept k x → All (λ p. p < n) (kept_places kept) → x.place < n
place_below kept k x n h e below =
    let many = length-map kept (λ (s : Kept). s.place) in
    let b = below k 0 (omega arith) in
    let is = place_read kept k x h e in
    omega arith

-- places among others are below what these are below
pub places_below : (places uses : List ℕ) (n : ℕ) → All (Contains places) uses → All (λ p. p < n) places → All (λ p. p < n) uses
places_below places uses n kept below k d h = All-contains (λ p. p < n) places (get_or uses k d) below (kept k d h)
