-- Which tokens are nested too deep, from what the reader answers.
use Rattle.std.proofs.Common.{◌≡◌, ℕ, zero, suc, ◌+◌, ◌<◌, ◌≤◌, List, [], ◌∷◌, ◌++◌, length, map, take, Some, None, refl, sym, ap, ◌∙◌, subst, arith, length-append, length-take, append-nil, get_or-take, take_all, inl, inr}
use Rattle.std.specs.Prelude.{All, ◌↔◌, slice_index}
use Rattle.std.proofs.lemmas.Bool.{cases_lt}
use Rattle.std.proofs.lemmas.List.{length-map, get_or_default, get_or_append_left}
use Rattle.ll_reader.specs.declared.grammar.Step.{Step}
use Rattle.ll_reader.specs.Derivation.{IsText}
use Rattle.ll_reader.specs.Depth.{token_depths, KeepsDepth, PassesDepth}
use Rattle.ll_reader.specs.Answer.{IsSyntaxFault, IsTooDeepFault}
use Rattle.usuba_syntax.specs.Classes.{class_of}
use Rattle.usuba_syntax.proofs.Nests.{Nest, open_counts}
use Rattle.usuba_syntax.specs.declared.class.TheConstants as class
use Rattle.usuba_syntax.specs.declared.table.TheConstants.{PRODUCTIONS, FRAME}
use Rattle.usuba_tokens.specs.declared.token.Token.{Token}
use Rattle.usuba_syntax.proofs.Nested.{Role, role, ends, role_count, role_next, class_counts, nest_behind, counts_of_classes, counts_append, counts_end, length-class_counts}
use Rattle.usuba_syntax.proofs.NestedDepths.{text_counts}

abbrev classes : List Token → List ℕ
classes tokens = map class_of tokens

-- ---- texts

-- at the tokens of a text's front as many are open as they tell
pub front_depths : (tokens : List Token) (rest : List ℕ) (steps : List Step) → IsText PRODUCTIONS FRAME (map class_of tokens ++ rest) steps →
    token_depths PRODUCTIONS FRAME steps ≡ open_counts tokens ++ class_counts (nest_behind None (map class_of tokens)) rest
front_depths tokens rest steps d =
    text_counts (map class_of tokens ++ rest) steps d ∙ counts_append None (map class_of tokens) rest ∙
    ap (λ ns. ns ++ class_counts (nest_behind None (map class_of tokens)) rest) (counts_of_classes None tokens)

-- at the tokens of a file as many are open as they tell, and none at its end
pub file_depths : (tokens : List Token) (steps : List Step) → IsText PRODUCTIONS FRAME (map class_of tokens ++ class.END ∷ []) steps →
    token_depths PRODUCTIONS FRAME steps ≡ open_counts tokens ++ 0 ∷ []
file_depths tokens steps d =
    front_depths tokens (class.END ∷ []) steps d ∙ ap (λ ns. open_counts tokens ++ ns) (counts_end (nest_behind None (map class_of tokens)))

-- ---- the tokens one by one

-- classes behind those of the tokens, at which nothing counts as open
abbrev pub AreEnds : List ℕ → Type 0
AreEnds [] = Unit {0}
AreEnds (e ∷ es) = (role e ≡ ends) × AreEnds es

ends_count : (r : Role) (nest : Nest) → r ≡ ends → role_count r nest ≡ 0
ends_count r None h = refl
ends_count r (Some opened) h = ap (λ (x : Role). role_count x (Some opened)) h

-- what is open at a token depends on those before it
count_at : (nest : Nest) (cs es rest : List ℕ) (n k : ℕ) → AreEnds es → k < n → n ≤ length (cs ++ es) →
    slice_index (class_counts nest (take n (cs ++ es) ++ rest)) k ≡ slice_index (class_counts nest cs) k
count_at nest cs es rest zero k h inside fits = absurd (omega arith)
count_at nest [] [] rest (suc n) k h inside fits = absurd (omega arith)
count_at nest [] (e ∷ es) rest (suc n) zero h inside fits = ends_count (role e) nest h.0
count_at nest [] (e ∷ es) rest (suc n) (suc k) h inside fits = count_at (role_next (role e) nest) [] es rest n k h.1 (omega arith) (omega arith)
count_at nest (c ∷ cs) es rest (suc n) zero h inside fits = refl
count_at nest (c ∷ cs) es rest (suc n) (suc k) h inside fits = count_at (role_next (role c) nest) cs es rest n k h (omega arith) (omega arith)

-- what is open at a token, in any text that goes on from there
depth_at : (tokens : List Token) (es rest : List ℕ) (n k : ℕ) (steps : List Step) → AreEnds es → k < n → n ≤ length (map class_of tokens ++ es) →
    IsText PRODUCTIONS FRAME (take n (map class_of tokens ++ es) ++ rest) steps → slice_index (token_depths PRODUCTIONS FRAME steps) k ≡ slice_index (open_counts tokens) k
depth_at tokens es rest n k steps h inside fits d =
    ap (λ ns. slice_index ns k) (text_counts (take n (map class_of tokens ++ es) ++ rest) steps d) ∙
    count_at None (map class_of tokens) es rest n k h inside fits ∙
    ap (λ ns. slice_index ns k) (counts_of_classes None tokens)

length_depths : (cs : List ℕ) (steps : List Step) → IsText PRODUCTIONS FRAME cs steps → length (token_depths PRODUCTIONS FRAME steps) ≡ length cs
length_depths cs steps d = ap length (text_counts cs steps d) ∙ length-class_counts None cs

-- where a text keeps the depth, none of the first tokens is too deep
kept_at : (ds : List ℕ) (n k : ℕ) → All (λ depth. depth ≤ 128) (take n ds) → k < n → n ≤ length ds → slice_index ds k ≤ 128
kept_at ds n k kept inside fits =
    let short : k < length (take n ds) = omega (arith, length-take n ds) in
    subst (λ d. d ≤ 128) (get_or-take n ds k 0 inside) (kept k 0 short)

length_front : (n : ℕ) (xs rest : List ℕ) → n ≤ length xs → n ≤ length (take n xs ++ rest)
length_front n xs rest fits = omega (arith, length-take n xs, length-append (take n xs) rest)

not_deep : (tokens : List Token) (es rest : List ℕ) (n m k : ℕ) (steps : List Step) → AreEnds es → k < m → m ≤ n → n ≤ length (map class_of tokens ++ es) →
    IsText PRODUCTIONS FRAME (take n (map class_of tokens ++ es) ++ rest) steps → KeepsDepth PRODUCTIONS FRAME m steps → ¬ (128 < slice_index (open_counts tokens) k)
not_deep tokens es rest n m k steps h inside within fits d kept deep =
    let front : n ≤ length (take n (map class_of tokens ++ es) ++ rest) = length_front n (map class_of tokens ++ es) rest fits in
    let long : m ≤ length (token_depths PRODUCTIONS FRAME steps) = omega (arith, length_depths _ steps d) in
    let low : slice_index (token_depths PRODUCTIONS FRAME steps) k ≤ 128 = kept_at (token_depths PRODUCTIONS FRAME steps) m k kept inside long in
    let same : slice_index (token_depths PRODUCTIONS FRAME steps) k ≡ slice_index (open_counts tokens) k = depth_at tokens es rest n k steps h (omega arith) fits d in
    absurd (omega arith)

-- ---- what the reader answers

beyond : (xs : List ℕ) (k : ℕ) → length xs ≤ k → slice_index xs k ≡ 0
beyond [] k h = refl
beyond (x ∷ xs) zero h = absurd (omega arith)
beyond (x ∷ xs) (suc k) h = beyond xs k (omega arith)

pub length-open_counts : (tokens : List Token) → length (open_counts tokens) ≡ length tokens
length-open_counts tokens =
    ap length (sym (counts_of_classes None tokens)) ∙ length-class_counts None (map class_of tokens) ∙ length-map tokens class_of

-- only a token is nested too deep
pub deep_inside : (tokens : List Token) (k : ℕ) → 128 < slice_index (open_counts tokens) k → k < length tokens
deep_inside tokens k deep = elim (cases_lt k (length tokens)) [
  | inl less ↦ less
  | inr more ↦
      let none : slice_index (open_counts tokens) k ≡ 0 = beyond (open_counts tokens) k (omega (arith, length-open_counts tokens)) in
      absurd (omega arith)
]

-- nothing is too deep in a text that the reader takes
pub shallow_text : (tokens : List Token) (es : List ℕ) (steps : List Step) → AreEnds es → IsText PRODUCTIONS FRAME (map class_of tokens ++ es) steps →
    KeepsDepth PRODUCTIONS FRAME (length (map class_of tokens ++ es)) steps → (k : ℕ) → ¬ (128 < slice_index (open_counts tokens) k)
shallow_text tokens es steps h d kept k deep =
    let cs = map class_of tokens ++ es in
    let inside : k < length tokens = deep_inside tokens k deep in
    let within : k < length cs = omega (arith, length-append (map class_of tokens) es, length-map tokens class_of) in
    let fits : length cs ≤ length cs = omega arith in
    let whole : take (length cs) cs ++ [] ≡ cs = append-nil (take (length cs) cs) ∙ take_all (length cs) cs fits in
    not_deep tokens es [] (length cs) (length cs) k steps h within fits fits (subst (λ xs. IsText PRODUCTIONS FRAME xs steps) (sym whole) d) kept deep

-- nothing is too deep before wrong syntax
pub shallow_before_syntax : (tokens : List Token) (es : List ℕ) (at : ℕ) → AreEnds es → IsSyntaxFault PRODUCTIONS FRAME (map class_of tokens ++ es) at →
    (k : ℕ) → k < at → ¬ (128 < slice_index (open_counts tokens) k)
shallow_before_syntax tokens es at h fault k before =
    let (rest, steps, d) = fault.before in
    let inside : at < length (map class_of tokens ++ es) = fault.inside in
    not_deep tokens es rest at at k steps h before (omega arith) (omega arith) d (fault.shallow rest steps d)

-- nothing is too deep before the token that the reader tells
pub shallow_before_deep : (tokens : List Token) (es : List ℕ) (at : ℕ) → AreEnds es → IsTooDeepFault PRODUCTIONS FRAME (map class_of tokens ++ es) at →
    (k : ℕ) → k < at → ¬ (128 < slice_index (open_counts tokens) k)
shallow_before_deep tokens es at h fault k before =
    let (rest, steps, d) = fault.begins in
    let inside : at < length (map class_of tokens ++ es) = fault.inside in
    not_deep tokens es rest (at + 1) at k steps h before (omega arith) (omega arith) d (fault.shallow rest steps d)

-- the token that the reader tells is too deep
pub too_deep : (tokens : List Token) (es : List ℕ) (at : ℕ) → AreEnds es → IsTooDeepFault PRODUCTIONS FRAME (map class_of tokens ++ es) at →
    128 < slice_index (open_counts tokens) at
too_deep tokens es at h fault =
    let (rest, steps, d) = fault.begins in
    let inside : at < length (map class_of tokens ++ es) = fault.inside in
    let passes : 128 < slice_index (token_depths PRODUCTIONS FRAME steps) at = fault.deep rest steps d in
    let same : slice_index (token_depths PRODUCTIONS FRAME steps) at ≡ slice_index (open_counts tokens) at = depth_at tokens es rest (at + 1) at steps h (omega arith) (omega arith) d in
    subst (λ n. 128 < n) same passes

-- ---- fronts of texts

not_less : (n m : ℕ) → ¬ (n < m) → m ≤ n
not_less n m h = elim (cases_lt n m) [ inl less ↦ absurd (h less) | inr more ↦ more ]

all_low : (ds : List ℕ) (n : ℕ) → n ≤ length ds → ((k : ℕ) → k < n → slice_index ds k ≤ 128) → All (λ depth. depth ≤ 128) (take n ds)
all_low ds n long low k d inside =
    let short : k < n = omega (arith, length-take n ds) in
    let fits : k < length ds = omega arith in
    subst (λ m. m ≤ 128) (sym (get_or-take n ds k d short ∙ get_or_default ds k d 0 fits)) (low k short)

-- what is open at a token of a text's front
pub depth_in_front : (tokens : List Token) (rest : List ℕ) (k : ℕ) (steps : List Step) → k < length tokens →
    IsText PRODUCTIONS FRAME (map class_of tokens ++ rest) steps → slice_index (token_depths PRODUCTIONS FRAME steps) k ≡ slice_index (open_counts tokens) k
depth_in_front tokens rest k steps inside d =
    let short : k < length (open_counts tokens) = omega (arith, length-open_counts tokens) in
    ap (λ ns. slice_index ns k) (front_depths tokens rest steps d) ∙
    get_or_append_left (open_counts tokens) (class_counts (nest_behind None (map class_of tokens)) rest) 0 k short

-- a text keeps the depth at its first tokens if none of these is too deep, and only then
pub keeps_depth : (tokens : List Token) (rest : List ℕ) (n : ℕ) (steps : List Step) → n ≤ length tokens → IsText PRODUCTIONS FRAME (map class_of tokens ++ rest) steps →
    KeepsDepth PRODUCTIONS FRAME n steps ↔ ((k : ℕ) → k < n → ¬ (128 < slice_index (open_counts tokens) k))
keeps_depth tokens rest n steps fits d =
    let ds = token_depths PRODUCTIONS FRAME steps in
    let long : n ≤ length ds = omega (arith, length_depths _ steps d, length-append (map class_of tokens) rest, length-map tokens class_of) in (
      (λ kept k inside deep.
          let low : slice_index ds k ≤ 128 = kept_at ds n k kept inside long in
          let same : slice_index ds k ≡ slice_index (open_counts tokens) k = depth_in_front tokens rest k steps (omega arith) d in
          absurd (omega arith)),
      (λ none. all_low ds n long (λ k inside.
          let same : slice_index ds k ≡ slice_index (open_counts tokens) k = depth_in_front tokens rest k steps (omega arith) d in
          subst (λ m. m ≤ 128) (sym same) (not_less _ _ (none k inside)))),
    )

-- a text passes the depth at a token that is too deep, and at no other
pub passes_depth : (tokens : List Token) (rest : List ℕ) (k : ℕ) (steps : List Step) → k < length tokens → IsText PRODUCTIONS FRAME (map class_of tokens ++ rest) steps →
    PassesDepth PRODUCTIONS FRAME k steps ↔ (128 < slice_index (open_counts tokens) k)
passes_depth tokens rest k steps inside d =
    let same = depth_in_front tokens rest k steps inside d in
    ((λ deep. subst (λ n. 128 < n) same deep), (λ deep. subst (λ n. 128 < n) (sym same) deep))
