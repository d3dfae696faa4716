-- The gaps that are found at the head of a text are those of the definition, and they hold no token.
use Rattle.std.proofs.Common.{◌≡◌, ℕ, zero, suc, ◌+◌, ◌<◌, inl, inr, Bool, true, false, not, ◌&&◌, eqb, cond, List, [], ◌∷◌, ◌++◌, length, get_or, take, drop, Option, Some, None, refl, sym, ap, ◌∙◌, subst, arith, eq-eqb, eqb-true}
use Rattle.std.specs.Char.{is_ascii_digit}
use Rattle.std.specs.List.{list_all, prefix_len}
use Rattle.std.specs.Option.{option_map}
use Rattle.std.specs.Prelude.{◌↔◌}
use Rattle.std.proofs.lemmas.Bool.{false≢true}
use Rattle.std.proofs.lemmas.List.{take_at, drop_at}
use Rattle.tor_edge.specs.declared.place.Place.{Place}
use Rattle.usuba_tokens.specs.Bytes.{is_blank, is_in_line, begins_word}
use Rattle.usuba_tokens.specs.Gaps.{IsClosed, EndsLine, IsGap, blank, line, slash, round}
use Rattle.usuba_tokens.specs.Heads.{closing, commented, line_len, number, one_byte_sign, longest_sign, head_of}
use Rattle.usuba_tokens.specs.Numbers.{number_len}
use Rattle.usuba_tokens.specs.Tokens.{place_after, Spells, gap}
use Rattle.usuba_tokens.specs.declared.head.Head.{Head}
use Rattle.usuba_tokens.specs.declared.head.Head.TheVariants as head
use Rattle.usuba_tokens.specs.declared.token.Ending.{Ending}
use Rattle.usuba_tokens.specs.declared.token.Token.{Token}
use Rattle.usuba_tokens.proofs.Choices.{when, either, both, not_both}
use Rattle.usuba_tokens.proofs.SpellingLemmas.{one, every}

-- ---- closes

-- the first `*` and byte of a text stand at its front
closed_here : (last : ℕ) → IsClosed last (42 ∷ last ∷ [])
closed_here last = record { body = []; closed = refl; once = none_behind } where
  none_behind : (front rest : List ℕ) → 42 ∷ last ∷ [] ≡ front ++ 42 ∷ last ∷ rest → rest ≡ []
  none_behind [] rest e = cc
  none_behind (x ∷ []) rest e = absurd (cc)
  none_behind (x ∷ y ∷ []) rest e = absurd (cc)
  none_behind (x ∷ y ∷ z ∷ front) rest e = absurd (cc)

-- a byte before a close, where the close does not begin with it
closed_later : (last b : ℕ) (inside : List ℕ) → (b ≡ 42 → get_or inside 0 0 ≡ last → ⊥) → IsClosed last inside → IsClosed last (b ∷ inside)
closed_later last b inside apart c = record { body = b ∷ c.body; closed = ap (λ (t : List ℕ). b ∷ t) c.closed; once = later } where
  later : (front rest : List ℕ) → b ∷ inside ≡ front ++ 42 ∷ last ∷ rest → rest ≡ []
  later [] rest e = let star : b ≡ 42 = cc in let tail : inside ≡ last ∷ rest = cc in absurd (apart star (ap (λ t. get_or t 0 0) tail))
  later (x ∷ front) rest e = c.once front rest (cc)

-- the front up to a close is closed
abbrev ClosedAt : ℕ → List ℕ → Option ℕ → Type 0
ClosedAt last text None = Unit {0}
ClosedAt last text (Some n) = IsClosed last (take n text)

first_of : (text : List ℕ) (n last : ℕ) → 0 < last → IsClosed last (take n text) → get_or (take n text) 0 0 ≡ get_or text 0 0
first_of [] zero last some c = refl
first_of [] (suc n) last some c = refl
first_of (b ∷ text) zero last some c = absurd (no_close last c.body c.closed) where
  no_close : (last : ℕ) (body : List ℕ) → [] ≡ body ++ 42 ∷ last ∷ [] → ⊥
  no_close last [] e = cc
  no_close last (x ∷ body) e = cc
first_of (b ∷ text) (suc n) last some c = refl

later_at : (last b : ℕ) (text : List ℕ) (found : Option ℕ) → 0 < last → (b ≡ 42 → get_or text 0 0 ≡ last → ⊥) → ClosedAt last text found → ClosedAt last (b ∷ text) (option_map (λ n. n + 1) found)
later_at last b text None some apart c = tt
later_at last b text (Some n) some apart c =
    let next : n + 1 ≡ suc n = omega arith in
    subst (λ k. IsClosed last (take k (b ∷ text))) (sym next)
    (closed_later last b (take n text) (λ star close. apart star (sym (first_of text n last some c) ∙ close)) c)

front_two : (last : ℕ) (b : ℕ) (text : List ℕ) → 0 < last → b ≡ 42 → get_or text 0 0 ≡ last → take 2 (b ∷ text) ≡ 42 ∷ last ∷ []
front_two last b [] some star close = absurd (omega arith)
front_two last b (c ∷ text) some star close = ap (λ x. x ∷ c ∷ []) star ∙ ap (λ x. 42 ∷ x ∷ []) close

apart_of : (b c last : ℕ) → (eqb b 42 && eqb c last) ≡ false → b ≡ 42 → c ≡ last → ⊥
apart_of b c last h star close =
    let first = eq-eqb b 42 star in
    let second = eq-eqb c last close in
    absurd (false≢true (sym h ∙ (rw (first, second) refl)))

-- what is found to be closed is closed
closing_closed : (last : ℕ) (text : List ℕ) → 0 < last → ClosedAt last text (closing last text)
closing_closed last [] some = tt
closing_closed last (b ∷ text) some =
    when (ClosedAt last (b ∷ text)) (eqb b 42 && eqb (get_or text 0 0) last) (Some 2) (option_map (λ n. n + 1) (closing last text))
    (λ is. let (star, close) = both _ _ is in subst (IsClosed last) (sym (front_two last b text some (eqb-true b 42 star) (eqb-true _ last close))) (closed_here last))
    (λ not. later_at last b text (closing last text) some (apart_of b (get_or text 0 0) last not) (closing_closed last text some))

-- a close that stands at the end of a text is found
closed_closing : (last : ℕ) (body inside after : List ℕ) → inside ≡ body ++ 42 ∷ last ∷ [] → ((front rest : List ℕ) → inside ≡ front ++ 42 ∷ last ∷ rest → rest ≡ []) → closing last (inside ++ after) ≡ Some (length inside)
closed_closing last [] inside after is once =
    let same = eq-eqb last last refl in
    ap (λ t. closing last (t ++ after)) is ∙ (rw same refl) ∙ ap (λ t. Some (length t)) (sym is)
closed_closing last (b ∷ body) inside after is once =
    ap (λ t. closing last (t ++ after)) is ∙ ap (λ t. cond t (Some 2) (option_map (λ n. n + 1) (closing last (rest ++ after)))) other
    ∙ ap (option_map (λ n. n + 1)) (closed_closing last body rest after refl later) ∙ ap Some (next ∙ ap length (sym is)) where
      rest : List ℕ
      rest = body ++ 42 ∷ last ∷ []

      later : (front behind : List ℕ) → rest ≡ front ++ 42 ∷ last ∷ behind → behind ≡ []
      later front behind e = once (b ∷ front) behind (is ∙ ap (λ t. b ∷ t) e)

      next : length rest + 1 ≡ suc (length rest)
      next = omega arith

      not_here : (xs : List ℕ) → b ∷ rest ≡ b ∷ xs → b ≡ 42 → get_or (xs ++ after) 0 0 ≡ last → rest ≡ xs → ⊥
      not_here [] e star close same = no_nil body same where
        no_nil : (ys : List ℕ) → ys ++ 42 ∷ last ∷ [] ≡ [] → ⊥
        no_nil [] h = cc
        no_nil (y ∷ ys) h = cc
      not_here (x ∷ xs) e star close same =
          let none : xs ≡ [] = once [] xs (is ∙ ap (λ t. b ∷ t) same ∙ ap (λ c. c ∷ x ∷ xs) star ∙ ap (λ c. 42 ∷ c ∷ xs) close) in
          two_long body (same ∙ ap (λ t. x ∷ t) none) where
            two_long : (ys : List ℕ) → ys ++ 42 ∷ last ∷ [] ≡ x ∷ [] → ⊥
            two_long [] h = cc
            two_long (y ∷ []) h = cc
            two_long (y ∷ z ∷ ys) h = cc

      other : (eqb b 42 && eqb (get_or (rest ++ after) 0 0) last) ≡ false
      other = not_both _ _ (λ star close. not_here rest refl (eqb-true _ _ star) (eqb-true _ _ close) refl)

-- ---- lines

one_more : (n b : ℕ) (text : List ℕ) → take (1 + n) (b ∷ text) ≡ b ∷ take n text
one_more n b text = let next : 1 + n ≡ suc n = omega arith in ap (λ k. take k (b ∷ text)) next

one_less : (n b : ℕ) (text : List ℕ) → drop (1 + n) (b ∷ text) ≡ drop n text
one_less n b text = let next : 1 + n ≡ suc n = omega arith in ap (λ k. drop k (b ∷ text)) next

line_ends : (p : ℕ → Bool) (text : List ℕ) → list_all p (take (prefix_len p text) text) ≡ true
line_ends p [] = refl
line_ends p (b ∷ text) =
    when (λ n. list_all p (take n (b ∷ text)) ≡ true) (p b) (1 + prefix_len p text) 0
    (λ is. ap (list_all p) (one_more (prefix_len p text) b text) ∙ ap (λ t. t && list_all p (take (prefix_len p text) text)) is ∙ line_ends p text)
    (λ _. refl)

is_lf : (b : ℕ) → is_in_line b ≡ false → b ≡ 10
is_lf b h = eqb-true b 10 (flipped (eqb b 10) h) where
  flipped : (t : Bool) → not t ≡ false → t ≡ true
  flipped true h = refl
  flipped false h = absurd (cc)

line_rest : (text : List ℕ) → EndsLine (drop (line_len text) text)
line_rest [] = inl refl
line_rest (b ∷ text) =
    when (λ n. EndsLine (drop n (b ∷ text))) (is_in_line b) (1 + line_len text) 0
    (λ is. subst EndsLine (sym (one_less (line_len text) b text)) (line_rest text))
    (λ other. inr (text, ap (λ c. c ∷ text) (is_lf b other)))

whole_line : (body after : List ℕ) → list_all is_in_line body ≡ true → EndsLine after → line_len (body ++ after) ≡ length body
whole_line [] after all (inl none) = ap line_len none
whole_line [] after all (inr (rest, is)) = ap line_len is
whole_line (b ∷ body) after all ends =
    let (first, others) = both (is_in_line b) (list_all is_in_line body) all in
    let more : line_len (body ++ after) ≡ length body = whole_line body after others ends in
    let next : 1 + line_len (body ++ after) ≡ suc (length body) = omega arith in
    ap (λ t. cond t (1 + line_len (body ++ after)) 0) first ∙ next

-- ---- heads

-- a gap that is found is one
abbrev Gapped : Head → List ℕ → Type 0
Gapped (head.Gap n) text = IsGap (take n text) (drop n text)
Gapped _ text = Unit {0}

one_byte_gapped : (b : ℕ) (text : List ℕ) → Gapped (one_byte_sign b) text
one_byte_gapped b text =
    let gapped : Head → Type 0 = λ h. Gapped h text in
    either gapped (eqb b 40) _ _ tt (either gapped (eqb b 41) _ _ tt (either gapped (eqb b 91) _ _ tt (either gapped (eqb b 93) _ _ tt (either gapped (eqb b 123) _ _ tt (either gapped (eqb b 125) _ _ tt (either gapped (eqb b 44) _ _ tt (either gapped (eqb b 59) _ _ tt (either gapped (eqb b 58) _ _ tt (either gapped (eqb b 61) _ _ tt (either gapped (eqb b 126) _ _ tt (either gapped (eqb b 38) _ _ tt (either gapped (eqb b 94) _ _ tt (either gapped (eqb b 124) _ _ tt (either gapped (eqb b 43) _ _ tt (either gapped (eqb b 45) _ _ tt (either gapped (eqb b 42) _ _ tt (either gapped (eqb b 47) _ _ tt (either gapped (eqb b 37) _ _ tt tt))))))))))))))))))

longest_gapped : (b c d : ℕ) (text : List ℕ) → Gapped (longest_sign b c d) text
longest_gapped b c d text =
    let gapped : Head → Type 0 = λ h. Gapped h text in
    either gapped ((eqb b 60 && eqb c 60) && eqb d 60) _ _ tt (either gapped ((eqb b 62 && eqb c 62) && eqb d 62) _ _ tt
    (either gapped (eqb b 60 && eqb c 60) _ _ tt (either gapped (eqb b 62 && eqb c 62) _ _ tt
    (either gapped (eqb b 46 && eqb c 46) _ _ tt (one_byte_gapped b text)))))

number_gapped : (text : List ℕ) → Gapped (number text) text
number_gapped text = either (λ h. Gapped h text) (begins_word (get_or text (number_len text) 0)) _ _ tt tt

-- two bytes stand first
record Two (b v w : ℕ) (text : List ℕ) : Type 0 where
  rest : List ℕ
  first : b ≡ v
  behind : text ≡ w ∷ rest

two_first : (b v w : ℕ) (text : List ℕ) → 0 < w → (eqb b v && eqb (get_or text 0 0) w) ≡ true → Two b v w text
two_first b v w [] some is = let none : 0 ≡ w = eqb-true 0 w (both (eqb b v) (eqb 0 w) is).1 in absurd (omega arith)
two_first b v w (c ∷ text) some is =
    let (first, second) = both _ _ is in
    record { rest = text; first = eqb-true b v first; behind = ap (λ x. x ∷ text) (eqb-true c w second) }

line_gapped : (text : List ℕ) → IsGap (take (line_len (47 ∷ 47 ∷ text)) (47 ∷ 47 ∷ text)) (drop (line_len (47 ∷ 47 ∷ text)) (47 ∷ 47 ∷ text))
line_gapped text =
    let n = line_len text in
    let P : List ℕ → Type 0 = λ t. IsGap t (drop (line_len (47 ∷ 47 ∷ text)) (47 ∷ 47 ∷ text)) in
    let front : take (1 + (1 + n)) (47 ∷ 47 ∷ text) ≡ 47 ∷ 47 ∷ take n text = one_more (1 + n) 47 (47 ∷ text) ∙ ap (λ t. 47 ∷ t) (one_more n 47 text) in
    let rest : drop (1 + (1 + n)) (47 ∷ 47 ∷ text) ≡ drop n text = one_less (1 + n) 47 (47 ∷ text) ∙ one_less n 47 text in
    subst P (sym front) (subst (λ t. IsGap (47 ∷ 47 ∷ take n text) t) (sym rest) (line (line_ends is_in_line text) (line_rest text)))

commented_gapped : (found : Option ℕ) (last first : ℕ) (text : List ℕ) → ((inside after : List ℕ) → IsClosed last inside → IsGap (first ∷ 42 ∷ inside) after) → ClosedAt last text found → Gapped (commented found) (first ∷ 42 ∷ text)
commented_gapped None last first text whole c = tt
commented_gapped (Some n) last first text whole c =
    let next : 2 + n ≡ suc (suc n) = omega arith in
    subst (λ k. IsGap (take k (first ∷ 42 ∷ text)) (drop k (first ∷ 42 ∷ text))) (sym next) (whole (take n text) (drop n text) c)

same_text : (b v w : ℕ) (text : List ℕ) (two : Two b v w text) → v ∷ w ∷ two.rest ≡ b ∷ text
same_text b v w text two = ap (λ x. v ∷ x) (sym two.behind) ∙ ap (λ x. x ∷ text) (sym two.first)

abbrev HeadGapped : (List ℕ → Head) → List ℕ → Type 0
HeadGapped h text = Gapped (h text) text

line_found : (b : ℕ) (text : List ℕ) → (eqb b 47 && eqb (get_or text 0 0) 47) ≡ true → Gapped (head.Gap (line_len (b ∷ text))) (b ∷ text)
line_found b text is =
    let two = two_first b 47 47 text (omega arith) is in
    subst (HeadGapped (λ t. head.Gap (line_len t))) (same_text b 47 47 text two) (line_gapped two.rest)

slash_found : (b : ℕ) (text : List ℕ) → (eqb b 47 && eqb (get_or text 0 0) 42) ≡ true → Gapped (commented (closing 47 (drop 1 text))) (b ∷ text)
slash_found b text is =
    let two = two_first b 47 42 text (omega arith) is in
    subst (HeadGapped (λ t. commented (closing 47 (drop 2 t)))) (same_text b 47 42 text two)
    (commented_gapped (closing 47 two.rest) 47 47 two.rest (λ inside after c. slash c) (closing_closed 47 two.rest (omega arith)))

round_found : (b : ℕ) (text : List ℕ) → (eqb b 40 && eqb (get_or text 0 0) 42) ≡ true → Gapped (commented (closing 41 (drop 1 text))) (b ∷ text)
round_found b text is =
    let two = two_first b 40 42 text (omega arith) is in
    subst (HeadGapped (λ t. commented (closing 41 (drop 2 t)))) (same_text b 40 42 text two)
    (commented_gapped (closing 41 two.rest) 41 40 two.rest (λ inside after c. round c) (closing_closed 41 two.rest (omega arith)))

head_gapped : (text : List ℕ) → Gapped (head_of text) text
head_gapped [] = tt
head_gapped (b ∷ text) =
    let next = get_or text 0 0 in
    let gapped : Head → Type 0 = λ h. Gapped h (b ∷ text) in
    when gapped (is_blank b) _ _ (λ is. blank is)
    (λ _. when gapped (eqb b 47 && eqb next 47) _ _ (line_found b text)
    (λ _. when gapped (eqb b 47 && eqb next 42) _ _ (slash_found b text)
    (λ _. when gapped (eqb b 40 && eqb next 42) _ _ (round_found b text)
    (λ _. either gapped (begins_word b) _ _ tt
    (either gapped (is_ascii_digit b) _ _ (number_gapped (b ∷ text)) (longest_gapped b next (get_or text 1 0) (b ∷ text)))))))

-- what is found to be a gap is one
pub found_is_gap : (text : List ℕ) (n : ℕ) → head_of text ≡ head.Gap n → IsGap (take n text) (drop n text)
found_is_gap text n is = subst (λ h. Gapped h text) is (head_gapped text)

two_more : (n : ℕ) → 2 + n ≡ suc (suc n)
two_more n = omega arith

-- a gap is found
gap_is_found : (gap after : List ℕ) → IsGap gap after → head_of (gap ++ after) ≡ head.Gap (length gap)
gap_is_found _ after (blank is) = rw is refl
gap_is_found _ after (line {body = body} all ends) =
    let same = whole_line body after all ends in
    let n : 1 + (1 + line_len (body ++ after)) ≡ suc (suc (length body)) = omega arith in
    ap head.Gap n
gap_is_found _ after (slash {inside = inside} c) =
    ap commented (closed_closing 47 c.body inside after c.closed c.once) ∙ ap head.Gap (two_more (length inside))
gap_is_found _ after (round {inside = inside} c) =
    ap commented (closed_closing 41 c.body inside after c.closed c.once) ∙ ap head.Gap (two_more (length inside))

-- a gap before a text leaves its tokens
pub gap_holds_none : (at : Place) (before after : List ℕ) (tokens : List Token) (end : Ending) → IsGap before after →
    Spells at (before ++ after) tokens end ↔ Spells (place_after at before) after tokens end
gap_holds_none at before after tokens end is = (skipped, passed tokens end) where
  passed : (found : List Token) (ends : Ending) → Spells (place_after at before) after found ends → Spells at (before ++ after) found ends
  passed found ends s =
      let front = take_at before after (length before) refl in
      let rest = drop_at before after (length before) refl in
      gap at (before ++ after) (length before) found ends (gap_is_found before after is)
      (subst (λ t. Spells (place_after at t) (drop (length before) (before ++ after)) found ends) (sym front)
      (subst (λ t. Spells (place_after at before) t found ends) (sym rest) s))

  skipped : Spells at (before ++ after) tokens end → Spells (place_after at before) after tokens end
  skipped s =
      let r = every (place_after at before) after in
      let (same, ends) = one at (before ++ after) r.0 tokens r.1 end (passed r.0 r.1 r.2) s in
      subst (λ e. Spells (place_after at before) after tokens e) ends (subst (λ ts. Spells (place_after at before) after ts r.1) same r.2)
