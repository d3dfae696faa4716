-- The definition that is found at a place, and those that one is added to.
use Rattle.std.proofs.Common.{◌≡◌, ℕ, ◌-◌, ◌<◌, ◌≤◌, Bool, true, false, List, [], ◌∷◌, ◌++◌, length, map, reverse, get_or, Option, Some, None, refl, sym, ap, ◌∙◌, subst, arith}
use Rattle.std.specs.Prelude.{if◌then◌else◌, bytes_eq}
use Rattle.std.proofs.lemmas.List.{map-append, reverse-append, get_or_append_left, get_or-append_right, length-reverse, length-map, reverse-reverse, get_or-map}
use Rattle.std.proofs.lemmas.Option.{none-some, same_Some}
use Rattle.std.proofs.lemmas.Slice.Eq.{bytes_eq-Decides}
use Rattle.usuba_model.specs.Numbers.{callee_number}
use Rattle.usuba_model.specs.Walk.{Signature, signature_of}
use Rattle.usuba_walk.specs.declared.definitions.Known.{Known}
use Rattle.usuba_walk.specs.Signatures.{signature_of_known, latest_first, place_of, HasOwnName}

-- a definition that is added is the latest
pub latest_first-added : (known : List Known) (next : Known) → latest_first (known ++ next ∷ []) ≡ signature_of_known next ∷ latest_first known
latest_first-added known next =
    ap reverse (map-append signature_of_known known (next ∷ []))
    ∙ reverse-append (map signature_of_known known) (signature_of_known next ∷ [])

-- what is found of a name
pub record Found (signatures : List Signature) (name : List ℕ) (place : ℕ) (s : Signature) : Type 0 where
  pub within : place < length signatures
  pub number : place ≡ callee_number signatures name
  pub is : get_or (reverse signatures) place s ≡ signature_of signatures name

-- a place that is found is that of the definition
pub found-at : (signatures : List Signature) (name : List ℕ) (place : ℕ) (s : Signature) → place_of signatures name ≡ Some place
    → Found signatures name place s
found-at [] name place s is = absurd (none-some place is)
found-at (first ∷ earlier) name place s is = by (bytes_eq first.name name) refl (found-at earlier name place s) is
  where
    reversed : reverse (first ∷ earlier) ≡ reverse earlier ++ first ∷ []
    reversed = reverse-append (first ∷ []) earlier

    by : (b : Bool) → bytes_eq first.name name ≡ b → (place_of earlier name ≡ Some place → Found earlier name place s)
        → (if b then Some (length earlier) else place_of earlier name) ≡ Some place → Found (first ∷ earlier) name place s
    by true is_it before at =
        let here : place ≡ length earlier = sym (same_Some (length earlier) place at) in
        let past : length earlier ≤ place = omega (arith, here) in
        let zero : place - length earlier ≡ 0 = omega (arith, here) in
        record {
          within = omega (arith, here);
          number = here ∙ ap (λ b. if b then length earlier else callee_number earlier name) (sym is_it);
          is = ap (λ l. get_or l place s) reversed
              ∙ get_or-append_right (reverse earlier) (first ∷ []) (length earlier) place s (length-reverse earlier) past
              ∙ ap (λ n. get_or (first ∷ []) n s) zero
              ∙ ap (λ b. if b then first else signature_of earlier name) (sym is_it);
        }
    by false is_it before at =
        let rest : Found earlier name place s = before at in
        let small : place < length (reverse earlier) = omega (arith, rest.within, length-reverse earlier) in
        record {
          within = omega (arith, rest.within);
          number = rest.number ∙ ap (λ b. if b then length earlier else callee_number earlier name) (sym is_it);
          is = ap (λ l. get_or l place s) reversed ∙ get_or_append_left (reverse earlier) (first ∷ []) s place small ∙ rest.is
              ∙ ap (λ b. if b then first else signature_of earlier name) (sym is_it);
        }

-- a name that is not found has the number 0, and takes and gives nothing
pub not_found : (signatures : List Signature) (name : List ℕ) → place_of signatures name ≡ None
    → (callee_number signatures name ≡ 0) × ((signature_of signatures name).inputs ≡ 0) × ((signature_of signatures name).outputs ≡ 0)
not_found [] name none = (refl, refl, refl)
not_found (first ∷ earlier) name none = by (bytes_eq first.name name) refl (not_found earlier name) none
  where
    by : (b : Bool) → bytes_eq first.name name ≡ b
        → (place_of earlier name ≡ None → (callee_number earlier name ≡ 0) × ((signature_of earlier name).inputs ≡ 0) × ((signature_of earlier name).outputs ≡ 0))
        → (if b then Some (length earlier) else place_of earlier name) ≡ None
        → (callee_number (first ∷ earlier) name ≡ 0) × ((signature_of (first ∷ earlier) name).inputs ≡ 0) × ((signature_of (first ∷ earlier) name).outputs ≡ 0)
    by true is_it before at = absurd (none-some (length earlier) (sym at))
    by false is_it before at =
        let rest = before at in
        let number = ap (λ b. if b then length earlier else callee_number earlier name) is_it in
        let same = ap (λ b. if b then first else signature_of earlier name) is_it in
        (number ∙ rest.0, ap (λ (s : Signature). s.inputs) same ∙ rest.1, ap (λ (s : Signature). s.outputs) same ∙ rest.2)

-- the definition at a place of the list in text order
pub known-at : (known : List Known) (name : List ℕ) (place : ℕ) (d : Known) → place_of (latest_first known) name ≡ Some place
    → (place < length known) × (place ≡ callee_number (latest_first known) name)
    × (signature_of_known (get_or known place d) ≡ signature_of (latest_first known) name)
known-at known name place d is =
    let found = found-at (latest_first known) name place (signature_of_known d) is in
    let size : length (latest_first known) ≡ length known = length-reverse (map signature_of_known known) ∙ length-map known signature_of_known in
    let within : place < length known = omega (arith, found.within, size) in (
      within,
      found.number,
      sym (get_or-map signature_of_known known place d (signature_of_known d) within)
          ∙ ap (λ l. get_or l place (signature_of_known d)) (sym (reverse-reverse (map signature_of_known known)))
          ∙ found.is,
    )

-- once a definition is added, its name is found at its place, and the others where they were
pub places-added : (known : List Known) (next : Known) (before after : List ℕ → Option ℕ)
    → ((name : List ℕ) → before name ≡ place_of (latest_first known) name)
    → ((name : List ℕ) → after name ≡ (if bytes_eq next.name.now name then Some (length known) else before name))
    → (name : List ℕ) → after name ≡ place_of (latest_first (known ++ next ∷ [])) name
places-added known next before after held updated name =
    let size : length (latest_first known) ≡ length known = length-reverse (map signature_of_known known) ∙ length-map known signature_of_known in
    updated name
    ∙ ap (λ o. if bytes_eq next.name.now name then Some (length known) else o) (held name)
    ∙ ap (λ n. if bytes_eq next.name.now name then Some n else place_of (latest_first known) name) (sym size)
    ∙ ap (λ l. place_of l name) (sym (latest_first-added known next))

-- once the latest definition is forgotten, whose name is its own, the others are found where they were
pub places-forgotten : (known : List Known) (latest : Known) (before after : List ℕ → Option ℕ)
    → ((name : List ℕ) → before name ≡ place_of (latest_first (known ++ latest ∷ [])) name)
    → ((name : List ℕ) → after name ≡ (if bytes_eq latest.name.now name then None else before name))
    → HasOwnName (latest_first (known ++ latest ∷ []))
    → (name : List ℕ) → after name ≡ place_of (latest_first known) name
places-forgotten known latest before after held updated own name =
    updated name ∙ by (bytes_eq latest.name.now name) refl
  where
    earlier : place_of (latest_first known) latest.name.now ≡ None
    earlier = subst HasOwnName (latest_first-added known latest) own

    there : before name ≡ place_of (signature_of_known latest ∷ latest_first known) name
    there = held name ∙ ap (λ l. place_of l name) (latest_first-added known latest)

    by : (b : Bool) → bytes_eq latest.name.now name ≡ b → (if b then None else before name) ≡ place_of (latest_first known) name
    by true is =
        let same : latest.name.now ≡ name = (bytes_eq-Decides latest.name.now name).0 is in
        sym (ap (place_of (latest_first known)) (sym same) ∙ earlier)
    by false is = there ∙ ap (λ b. if b then Some (length (latest_first known)) else place_of (latest_first known) name) is
