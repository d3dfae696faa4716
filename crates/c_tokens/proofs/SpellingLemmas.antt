-- A text spells one list of tokens, and one step of the reading keeps what is spelled.
use Rattle.std.proofs.Common.{◌≡◌, ℕ, zero, suc, ◌<◌, ◌≤◌, List, [], ◌∷◌, ◌++◌, length, take, drop, length-drop, arith, refl, sym, ap, ◌∙◌, subst, append_assoc, append-nil}
use Rattle.tor_edge.specs.declared.place.Place.{Place}
use Rattle.usuba_tokens.specs.Tokens.{place_after}
use Rattle.c_tokens.specs.Heads.{head_of, kind_of}
use Rattle.c_tokens.specs.Tokens.{Spells, ended, broken, blank, token}
use Rattle.c_tokens.specs.declared.head.Form.{Form}
use Rattle.c_tokens.specs.declared.head.Head.{Head}
use Rattle.c_tokens.specs.declared.head.Head.TheVariants as head
use Rattle.c_tokens.specs.declared.token.Ending.{Ending}
use Rattle.c_tokens.specs.declared.token.Ending.TheVariants as ending
use Rattle.c_tokens.specs.declared.token.Token.{Token}
use Rattle.c_tokens.specs.declared.token.TokenKind.{TokenKind}
use Rattle.c_tokens.proofs.HeadLemmas.{Takes, head_takes, token_within}

-- a text spells one list of tokens, and ends in one way
pub one : (at : Place) (text : List ℕ) (first second : List Token) (end other : Ending)
    → Spells at text first end → Spells at text second other → (first ≡ second) × (end ≡ other)
one at text first second end other (ended _ _ is) (ended _ _ is') = (refl, refl)
one at text first second end other (ended _ _ is) (broken _ _ is') = absurd (cc)
one at text first second end other (ended _ _ is) (blank _ _ tokens _ is' more) = absurd (cc)
one at text first second end other (ended _ _ is) (token _ _ n form tokens _ is' more) = absurd (cc)
one at text first second end other (broken _ _ is) (ended _ _ is') = absurd (cc)
one at text first second end other (broken _ _ is) (broken _ _ is') = (refl, refl)
one at text first second end other (broken _ _ is) (blank _ _ tokens _ is' more) = absurd (cc)
one at text first second end other (broken _ _ is) (token _ _ n form tokens _ is' more) = absurd (cc)
one at text first second end other (blank _ _ tokens _ is more) (ended _ _ is') = absurd (cc)
one at text first second end other (blank _ _ tokens _ is more) (broken _ _ is') = absurd (cc)
one at text first second end other (blank _ _ tokens _ is more) (blank _ _ tokens' _ is' more') = one _ _ _ _ _ _ more more'
one at text first second end other (blank _ _ tokens _ is more) (token _ _ n' form' tokens' _ is' more') = absurd (cc)
one at text first second end other (token _ _ n form tokens _ is more) (ended _ _ is') = absurd (cc)
one at text first second end other (token _ _ n form tokens _ is more) (broken _ _ is') = absurd (cc)
one at text first second end other (token _ _ n form tokens _ is more) (blank _ _ tokens' _ is' more') = absurd (cc)
one at text first second end other (token _ _ n form tokens _ is more) (token _ _ n' form' tokens' _ is' more') =
    let same : n' ≡ n = cc in
    let same_form : form ≡ form' = cc in
    let rest = one _ _ _ _ _ _ more
    (subst (λ k. Spells (place_after at (take k text)) (drop k text) tokens' other) same more') in
    (λ i. record { kind = kind_of (same_form i) (take (sym same i) text); place = at } ∷ rest.0 i, rest.1)

-- what the rest spells completes the tokens so far
abbrev pub Completes : Place → List ℕ → List Token → Place → List ℕ → Type 0
Completes start bytes tokens at rest =
    (more : List Token) (end : Ending) → Spells at rest more end → Spells start bytes (tokens ++ more) end

-- at the end the tokens are all
pub complete : (start : Place) (bytes : List ℕ) (tokens : List Token) (at : Place) (rest : List ℕ) (end : Ending)
    → Completes start bytes tokens at rest → Spells at rest [] end → Spells start bytes tokens end
complete start bytes tokens at rest end so_far last =
    subst (λ ts. Spells start bytes ts end) (append-nil tokens) (so_far [] end last)

moved_on : (at next : Place) (rest text after : List ℕ) (n : ℕ) (more : List Token) (end : Ending)
    → text ≡ take n rest → after ≡ drop n rest → next ≡ place_after at text → Spells next after more end
    → Spells (place_after at (take n rest)) (drop n rest) more end
moved_on at next rest text after n more end text_is after_is next_is spelled =
    let placed : Spells (place_after at (take n rest)) after more end =
    subst (λ p. Spells p after more end) (next_is ∙ ap (place_after at) text_is) spelled in
    subst (λ r. Spells (place_after at (take n rest)) r more end) after_is placed

-- a blank was passed
pub past_blank : (start : Place) (bytes : List ℕ) (tokens : List Token) (at next : Place) (rest text after : List ℕ)
    → head.Blank ≡ head_of rest → text ≡ take 1 rest → after ≡ drop 1 rest → next ≡ place_after at text
    → Completes start bytes tokens at rest → Completes start bytes tokens next after
past_blank start bytes tokens at next rest text after is text_is after_is next_is so_far more end spelled =
    so_far more end (blank at rest more end (sym is) (moved_on at next rest text after 1 more end text_is after_is next_is spelled))

-- a token was passed
pub past_token : (start : Place) (bytes : List ℕ) (tokens longer : List Token) (at next : Place) (rest text after : List ℕ)
    (f : Form) (n : ℕ) (kind : TokenKind)
    → head.Found f n ≡ head_of rest → text ≡ take n rest → after ≡ drop n rest → next ≡ place_after at text
    → kind ≡ kind_of f text → longer ≡ tokens ++ record { kind = kind; place = at } ∷ []
    → Completes start bytes tokens at rest → Completes start bytes longer next after
past_token start bytes tokens longer at next rest text after f n kind is text_is after_is next_is kind_is longer_is so_far more end spelled =
    let found : Token = record { kind = kind_of f (take n rest); place = at } in
    let pushed : tokens ++ found ∷ [] ≡ longer =
    sym (longer_is ∙ ap (λ k. tokens ++ record { kind = k; place = at } ∷ []) (kind_is ∙ ap (kind_of f) text_is)) in
    let whole : Spells start bytes (tokens ++ found ∷ more) end =
    so_far (found ∷ more) end
    (token at rest n f more end (sym is) (moved_on at next rest text after n more end text_is after_is next_is spelled)) in
    subst (λ ts. Spells start bytes ts end) (sym (append_assoc tokens (found ∷ []) more) ∙ ap (λ ts. ts ++ more) pushed) whole

-- some tokens are spelled
abbrev Spelled : Place → List ℕ → Type 0
Spelled at text = (tokens : List Token) × (end : Ending) × Spells at text tokens end

by_head : (at : Place) (text : List ℕ) (h : Head) → head_of text ≡ h → Takes h text
    → ((next : Place) (rest : List ℕ) → length rest < length text → Spelled next rest) → Spelled at text
by_head at text head.End is takes shorter = ([], ending.End at, ended at text is)
by_head at text head.Broken is takes shorter = ([], ending.Broken at, broken at text is)
by_head at text head.Blank is takes shorter =
    let less : length (drop 1 text) < length text = omega (arith, takes, length-drop 1 text) in
    let rest = shorter (place_after at (take 1 text)) (drop 1 text) less in
    (rest.0, rest.1, blank at text rest.0 rest.1 is rest.2)
by_head at text (head.Found f n) is takes shorter =
    let within = token_within f n text takes in
    let less : length (drop n text) < length text = omega (arith, within.0, within.1, length-drop n text) in
    let rest = shorter (place_after at (take n text)) (drop n text) less in
    (record { kind = kind_of f (take n text); place = at } ∷ rest.0, rest.1, token at text n f rest.0 rest.1 is rest.2)

up_to : (most : ℕ) (at : Place) (text : List ℕ) → length text ≤ most → Spelled at text
up_to zero at [] short = ([], ending.End at, ended at [] refl)
up_to zero at (b ∷ text) short = absurd (omega arith)
up_to (suc most) at text short =
    by_head at text (head_of text) refl (head_takes text) (λ next rest less. up_to most next rest (omega (arith, less, short)))

-- every text spells some
pub every : (at : Place) (text : List ℕ) → Spelled at text
every at text = up_to (length text) at text (omega arith)
