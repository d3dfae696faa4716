-- The tokens of a text, worked out.
use Rattle.std.proofs.Common.{◌≡◌, ℕ, zero, suc, List, [], ◌∷◌, take, drop, Option, Some, None, refl, sym, ap, subst}
use Rattle.std.proofs.lemmas.Option.{same_Some}
use Rattle.tor_edge.specs.declared.place.Place.{Place}
use Rattle.usuba_tokens.specs.Heads.{head_of, kind_of}
use Rattle.usuba_tokens.specs.Tokens.{Spells, place_after, ended, broken, gap, token}
use Rattle.usuba_tokens.specs.declared.head.Head.{Head}
use Rattle.usuba_tokens.specs.declared.head.Head.TheVariants as head
use Rattle.usuba_tokens.specs.declared.token.Ending.{Ending}
use Rattle.usuba_tokens.specs.declared.token.Ending.TheVariants as ending
use Rattle.usuba_tokens.specs.declared.token.Token.{Token}

abbrev pub Read : Type 0
Read = Option (List Token × Ending)

abbrev pub answer : List Token → Ending → Read
answer tokens end = Some (tokens, end)

-- a token before those of the rest
abbrev before : Token → Read → Read
before t None = None
before t (Some (tokens, end)) = Some (t ∷ tokens, end)

-- the tokens of a text and how it ends, in so many steps at most
unfoldable pub tokens_in : ℕ → Place → List ℕ → Read
tokens_in zero here text = None
tokens_in (suc steps) here text = elim (head_of text) [
  | head.End ↦ Some ([], ending.End here)
  | head.Broken ↦ Some ([], ending.Broken here)
  | head.Gap n ↦ tokens_in steps (place_after here (take n text)) (drop n text)
  | head.Found f n ↦ before (record { kind = kind_of f (take n text); place = here }) (tokens_in steps (place_after here (take n text)) (drop n text))
]

parts : {some others : List Token} {one other : Ending} → answer some one ≡ answer others other → (some ≡ others) × (one ≡ other)
parts {some = some} {others = others} {one = one} {other = other} e =
    let first : List Token × Ending = (some, one) in let second : List Token × Ending = (others, other) in let same : first ≡ second = same_Some first second e in
    (ap (λ (r : List Token × Ending). r.0) same, ap (λ (r : List Token × Ending). r.1) same)

spells_before : (t : Token) (rest : Read) (tokens : List Token) (end : Ending) → before t rest ≡ answer tokens end → (more : List Token) × (rest ≡ answer more end) × (tokens ≡ t ∷ more)
spells_before t None tokens end is = absurd (cc)
spells_before t (Some (more, last)) tokens end is =
    let same = parts {some = t ∷ more} {others = tokens} {one = last} {other = end} is in
    (more, ap (λ (e : Ending). answer more e) same.1, sym same.0)

-- what is worked out is spelled
pub spells_in : (steps : ℕ) (here : Place) (text : List ℕ) (tokens : List Token) (end : Ending) → tokens_in steps here text ≡ answer tokens end → Spells here text tokens end
unfolding tokens_in
spells_in zero here text tokens end is = absurd (cc)
spells_in (suc steps) here text tokens end is =
    let next : ℕ → Read = λ n. tokens_in steps (place_after here (take n text)) (drop n text) in
    let Goal : Head → Type 0 = λ h. head_of text ≡ h → (elim h [
      | head.End ↦ Some ([], ending.End here)
      | head.Broken ↦ Some ([], ending.Broken here)
      | head.Gap n ↦ next n
      | head.Found f n ↦ before (record { kind = kind_of f (take n text); place = here }) (next n)
    ]) ≡ answer tokens end → Spells here text tokens end in
    (elim (head_of text) as Goal [
      | head.End ↦ λ h e. let same = parts {some = []} {others = tokens} {one = ending.End here} {other = end} e in ended_by h same.0 same.1
      | head.Broken ↦ λ h e. let same = parts {some = []} {others = tokens} {one = ending.Broken here} {other = end} e in broken_by h same.0 same.1
      | head.Gap n ↦ λ h e. gap here text n tokens end h (spells_in steps (place_after here (take n text)) (drop n text) tokens end e)
      | head.Found f n ↦ λ h e.
          let r = spells_before (record { kind = kind_of f (take n text); place = here }) (next n) tokens end e in
          subst (λ ts. Spells here text ts end) (sym r.2)
          (token here text n f r.0 end h (spells_in steps (place_after here (take n text)) (drop n text) r.0 end r.1))
    ]) refl is where
      ended_by : head_of text ≡ head.End → [] ≡ tokens → ending.End here ≡ end → Spells here text tokens end
      ended_by h none last = subst (λ ts. Spells here text ts end) none (subst (λ e. Spells here text [] e) last (ended here text h))

      broken_by : head_of text ≡ head.Broken → [] ≡ tokens → ending.Broken here ≡ end → Spells here text tokens end
      broken_by h none last = subst (λ ts. Spells here text ts end) none (subst (λ e. Spells here text [] e) last (broken here text h))
