-- Sets of names as lists of names.
use Rattle.std.proofs.Common.{◌≡◌, inl, inr, ℕ, Bool, true, false, cond, ◌||◌, List, [], ◌∷◌, map, refl, sym, ap, ◌∙◌}
use Rattle.std.specs.Prelude.{bytes_eq}
use Rattle.std.specs.List.{list_any}
use Rattle.std.specs.HashSet.{HashSet, contains_by, UpdatesBy}
use denote.Ref.{Bor}
use Rattle.std.proofs.lemmas.Bool.{cases_Bool, true≢false}
use Rattle.std.proofs.lemmas.Slice.Eq.{bytes_eq-Decides}
use Rattle.usuba_model.specs.Names.{is_name_among}
use Rattle.usuba_phases.specs.State.Names.{names_in, AreSame}

-- two texts are equal in either order
pub bytes_eq_comm : (a b : List ℕ) → bytes_eq a b ≡ bytes_eq b a
bytes_eq_comm a b =
    elim (cases_Bool (bytes_eq a b)) [
      | inl equal ↦ equal ∙ sym ((bytes_eq-Decides b a).1 (sym ((bytes_eq-Decides a b).0 equal)))
      | inr unlike ↦
          (elim (cases_Bool (bytes_eq b a)) [
            | inl equal ↦ absurd (true≢false
                (sym ((bytes_eq-Decides a b).1 (sym ((bytes_eq-Decides b a).0 equal))) ∙ unlike))
            | inr too ↦ unlike ∙ sym too
          ])
    ]

among-keys : (name : List ℕ) (keys : List (Bor (List ℕ)))
    → list_any (λ key. bytes_eq name key.now) keys ≡ is_name_among (map (λ key. key.now) keys) name
among-keys name [] = refl
among-keys name (key ∷ keys) = ap (λ among. bytes_eq name key.now || among) (among-keys name keys)

-- a set has a name exactly where the name is among its names
pub contains-among : {S : Type 0} (names : HashSet (Bor (List ℕ)) S) (name : List ℕ)
    → contains_by (λ key. bytes_eq name key.now) names ≡ is_name_among (names_in names) name
contains-among names name = among-keys name names.keys

-- a name was added
pub added-same : {S : Type 0} (name : List ℕ) (before after : HashSet (Bor (List ℕ)) S)
    → UpdatesBy (λ x y. bytes_eq x.now y.now) (λ key. bytes_eq name key.now) before after true
    → AreSame (names_in after) (name ∷ names_in before)
added-same name before after updates = λ other.
    let key : Bor (List ℕ) = record { ref_ptr = (0, 0); now = other } in
    sym (contains-among after other) ∙ updates.0 key
    ∙ either_way (bytes_eq name other) (contains_by (λ key. bytes_eq other key.now) before)
    ∙ ap (λ equal. equal || contains_by (λ key. bytes_eq other key.now) before) (bytes_eq_comm name other)
    ∙ ap (λ among. bytes_eq other name || among) (contains-among before other)
  where
    either_way : (equal among : Bool) → cond equal true among ≡ (equal || among)
    either_way true among = refl
    either_way false among = refl
