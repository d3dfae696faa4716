-- Sharings that are drawn one after another.
use Rattle.std.proofs.Common.{◌≡◌, ℕ, zero, suc, ◌+◌, ◌-◌, ◌<◌, ◌≤◌, ◌^◌, List, [], ◌∷◌, ◌++◌, length, map, map-id, refl, sym, ap, ap₂, ◌∙◌, subst, inl, arith, append_assoc, append-nil}
use Rattle.std.specs.Prelude.{All}
use Rattle.std.proofs.lemmas.List.Elements.{All-nil, All-cons}
use Rattle.usuba0.specs.Circuit.{Circuit, IsCore}
use Rattle.usuba0.specs.Term.{bits_of_width}
use Rattle.share_gadgets.specs.MaskedRun.{words_drawn}
use Rattle.share_gadgets.specs.RunLaw.{IsMaskedInput}
use Rattle.share_gadgets.specs.Sharing.{IsSharing}
use Rattle.word_draws.specs.Draws.{start, after_word, drawn_words, after_words}
use Rattle.word_draws.proofs.Drawing.{words_below}
use Rattle.share_trial.specs.Trial.{drawn_sharings, after_sharings, trial_inputs, trial_words}

pub length_words : (B state n : ℕ) → length (drawn_words B state n) ≡ n
unfolding drawn_words
length_words B state zero = refl
length_words B state (suc n) = ap suc (length_words B (after_word B state) n)

pub length_sharings : (B d state n : ℕ) → length (drawn_sharings B d state n) ≡ n
unfolding drawn_sharings
length_sharings B d state zero = refl
length_sharings B d state (suc n) = ap suc (length_sharings B d (after_words B state d) n)

-- each is a sharing on d shares of B bits
pub are_sharings : (B d state n : ℕ) → All (IsSharing B d) (drawn_sharings B d state n)
unfolding drawn_sharings
are_sharings B d state zero = All-nil (IsSharing B d)
are_sharings B d state (suc n) =
    let first : IsSharing B d (drawn_words B state d) = record { count = length_words B state d; words = words_below B state d } in
    All-cons (IsSharing B d) (drawn_words B state d) (drawn_sharings B d (after_words B state d) n) first (are_sharings B d (after_words B state d) n)

-- some sharings: one, and then the others
sharings-next : (B d state k n : ℕ) → k < n
    → drawn_sharings B d state (n - k) ≡ drawn_words B state d ∷ drawn_sharings B d (after_words B state d) (n - (k + 1))
unfolding drawn_sharings
sharings-next B d state k n some = at (n - k) (n - (k + 1)) (omega arith)
  where
    at : (m l : ℕ) → m ≡ suc l → drawn_sharings B d state m ≡ drawn_words B state d ∷ drawn_sharings B d (after_words B state d) l
    at m l e = ap (drawn_sharings B d state) e

after-next : (B d state k n : ℕ) → k < n → after_sharings B d state (n - k) ≡ after_sharings B d (after_words B state d) (n - (k + 1))
unfolding after_sharings
after-next B d state k n some = at (n - k) (n - (k + 1)) (omega arith)
  where
    at : (m l : ℕ) → m ≡ suc l → after_sharings B d state m ≡ after_sharings B d (after_words B state d) l
    at m l e = ap (after_sharings B d state) e

-- no sharing is left at the end
sharings-none : (B d state k n : ℕ) → n ≤ k → drawn_sharings B d state (n - k) ≡ []
unfolding drawn_sharings
sharings-none B d state k n none = let e : n - k ≡ 0 = omega arith in ap (drawn_sharings B d state) e

after-none : (B d state k n : ℕ) → n ≤ k → after_sharings B d state (n - k) ≡ state
unfolding after_sharings
after-none B d state k n none = let e : n - k ≡ 0 = omega arith in ap (after_sharings B d state) e

-- in a loop that draws sharings: those so far with those that are left are all
pub record DrawsOn (B d start n k state : ℕ) (sharings : List (List ℕ)) : Type 0 where
  pub all : sharings ++ drawn_sharings B d state (n - k) ≡ drawn_sharings B d start n
  pub last : after_sharings B d state (n - k) ≡ after_sharings B d start n

pub draws_start : (B d start n : ℕ) → DrawsOn B d start n 0 start []
draws_start B d start n =
    let e : n - 0 ≡ n = omega arith in
    record { all = ap (drawn_sharings B d start) e; last = ap (after_sharings B d start) e }

pub draws_next : (B d start n k state after : ℕ) (sharings more : List (List ℕ)) (sharing : List ℕ) → k < n → after ≡ after_words B state d
    → sharing ≡ drawn_words B state d → more ≡ sharings ++ sharing ∷ [] → DrawsOn B d start n k state sharings
    → DrawsOn B d start n (k + 1) after more
draws_next B d start n k state after sharings more sharing some moved drawn pushed on =
    let rest = drawn_sharings B d (after_words B state d) (n - (k + 1)) in
    record {
      all = ap (λ (s : ℕ). more ++ drawn_sharings B d s (n - (k + 1))) moved ∙ ap (λ (l : List (List ℕ)). l ++ rest) pushed
          ∙ ap (λ (x : List ℕ). (sharings ++ x ∷ []) ++ rest) drawn ∙ append_assoc sharings (drawn_words B state d ∷ []) rest
          ∙ ap (λ (l : List (List ℕ)). sharings ++ l) (sym (sharings-next B d state k n some)) ∙ on.all;
      last = ap (λ (s : ℕ). after_sharings B d s (n - (k + 1))) moved ∙ sym (after-next B d state k n some) ∙ on.last;
    }

pub draws_end : (B d start n k state : ℕ) (sharings : List (List ℕ)) → n ≤ k → DrawsOn B d start n k state sharings
    → sharings ≡ drawn_sharings B d start n
draws_end B d start n k state sharings none on =
    sym (append-nil sharings) ∙ ap (λ (l : List (List ℕ)). sharings ++ l) (sym (sharings-none B d state k n none)) ∙ on.all

pub draws_leave : (B d start n k state : ℕ) (sharings : List (List ℕ)) → n ≤ k → DrawsOn B d start n k state sharings
    → state ≡ after_sharings B d start n
draws_leave B d start n k state sharings none on = sym (after-none B d state k n none) ∙ on.last

-- what was drawn of a core's numbers and a seed's state is what a trial draws
pub inputs_are : (d : ℕ) (core : Circuit) (seed B state n : ℕ) (sharings : List (List ℕ)) → B ≡ bits_of_width core.width → state ≡ start seed
    → n ≡ core.inputs → sharings ≡ drawn_sharings B d state n → sharings ≡ trial_inputs d core seed
inputs_are d core seed B state n sharings eB es en drawn =
    drawn ∙ ap (λ (b : ℕ). drawn_sharings b d state n) eB ∙ ap (λ (s : ℕ). drawn_sharings (bits_of_width core.width) d s n) es
    ∙ ap (drawn_sharings (bits_of_width core.width) d (start seed)) en

pub words_are : (d : ℕ) (core : Circuit) (seed B state n after many : ℕ) (words : List ℕ) → B ≡ bits_of_width core.width → state ≡ start seed
    → n ≡ core.inputs → after ≡ after_sharings B d state n → many ≡ words_drawn d core → words ≡ drawn_words B after many
    → words ≡ trial_words d core seed
words_are d core seed B state n after many words eB es en ea em drawn =
    drawn ∙ ap (drawn_words B after) em ∙ ap (λ (t : ℕ). drawn_words B t (words_drawn d core)) ea
    ∙ ap (λ (b : ℕ). drawn_words b (after_sharings b d state n) (words_drawn d core)) eB
    ∙ ap (λ (s : ℕ). drawn_words (bits_of_width core.width) (after_sharings (bits_of_width core.width) d s n) (words_drawn d core)) es
    ∙ ap (λ (m : ℕ). drawn_words (bits_of_width core.width) (after_sharings (bits_of_width core.width) d (start seed) m) (words_drawn d core)) en

-- the sharings of a trial's inputs are those of a masked run
pub masked_input : (d : ℕ) (core : Circuit) (seed : ℕ) → 0 < d → IsCore core → IsMaskedInput (bits_of_width core.width) d core (trial_inputs d core seed)
masked_input d core seed some is = record {
  is_core = is;
  bits = inl refl;
  some = some;
  count = length_sharings (bits_of_width core.width) d (start seed) core.inputs;
  shared = are_sharings (bits_of_width core.width) d (start seed) core.inputs;
}

-- words as words of 64 bits are themselves
pub words_whole : (xss : List (List ℕ)) → map (map (λ x. x)) xss ≡ xss
words_whole [] = refl
words_whole (xs ∷ xss) = ap₂ (λ (y : List ℕ) ys. y ∷ ys) (map-id xs) (words_whole xss)

-- each share of each input is a word
pub words_fit : (B d state n : ℕ) (xss : List (List ℕ)) → xss ≡ drawn_sharings B d state n → All (All (λ x. x < 2 ^ B)) (map (map (λ x. x)) xss)
words_fit B d state n xss is =
    subst (λ (l : List (List ℕ)). All (All (λ x. x < 2 ^ B)) l) (sym (words_whole xss ∙ is))
    (λ k e less. (are_sharings B d state n k e less).words)
