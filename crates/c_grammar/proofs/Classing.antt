-- The classes of tokens, one token after another.
use Rattle.std.proofs.Common.{◌≡◌, ℕ, suc, ◌+◌, ◌<◌, ◌≤◌, Bool, false, List, [], ◌∷◌, ◌++◌, length, drop, get_or, refl, sym, ap, ◌∙◌, add-one, append_assoc, append-nil}
use Rattle.std.proofs.Math.Seq.{drop-cons}
use Rattle.std.proofs.lemmas.List.{drop_all}
use Rattle.c_grammar.specs.Classes.{class_of, is_unsigned, counter_after, classes_from, classes_of}
use Rattle.c_grammar.specs.declared.class.TheConstants as class
use Rattle.c_tokens.specs.declared.token.Ending.{Ending}
use Rattle.c_tokens.specs.declared.token.Ending.TheVariants as ending
use Rattle.c_tokens.specs.declared.token.Token.{Token}

-- the next token has its class, and the others theirs behind it
pub one_more : (tokens : List Token) (k : ℕ) (t : Token) (found longer : List ℕ) (unsigned : Bool) (counter : List ℕ) (c : ℕ)
    (unsigned' : Bool) (counter' : List ℕ)
    → k < length tokens → t ≡ get_or tokens k t → c ≡ class_of counter t.kind → longer ≡ found ++ c ∷ []
    → unsigned' ≡ is_unsigned t.kind → counter' ≡ counter_after unsigned counter t.kind
    → found ++ classes_from unsigned counter (drop k tokens) ≡ classes_from false [] tokens
    → longer ++ classes_from unsigned' counter' (drop (k + 1) tokens) ≡ classes_from false [] tokens
one_more tokens k t found longer unsigned counter c unsigned' counter' within is class_is longer_is unsigned_is counter_is so_far =
    let opened : drop k tokens ≡ t ∷ drop (k + 1) tokens =
    drop-cons tokens k t within ∙ ap (λ x. x ∷ drop (suc k) tokens) (sym is) ∙ ap (λ j. t ∷ drop j tokens) (sym (add-one k)) in
    let rest : List ℕ = classes_from (is_unsigned t.kind) (counter_after unsigned counter t.kind) (drop (k + 1) tokens) in
    ap (λ u. longer ++ classes_from u counter' (drop (k + 1) tokens)) unsigned_is
    ∙ ap (λ n. longer ++ classes_from (is_unsigned t.kind) n (drop (k + 1) tokens)) counter_is
    ∙ ap (λ l. l ++ rest) (longer_is ∙ ap (λ x. found ++ x ∷ []) class_is)
    ∙ append_assoc found (class_of counter t.kind ∷ []) rest
    ∙ ap (λ ts. found ++ classes_from unsigned counter ts) (sym opened) ∙ so_far

-- past the last token all have theirs
pub all_classed : (tokens : List Token) (k : ℕ) (found : List ℕ) (unsigned : Bool) (counter : List ℕ) → length tokens ≤ k
    → found ++ classes_from unsigned counter (drop k tokens) ≡ classes_from false [] tokens → found ≡ classes_from false [] tokens
all_classed tokens k found unsigned counter past so_far =
    sym (append-nil found) ∙ ap (λ ts. found ++ classes_from unsigned counter ts) (sym (drop_all k tokens past)) ∙ so_far

-- the end stands last
pub ends_last : (tokens : List Token) (end : Ending) → (front : List ℕ) × (classes_of tokens end ≡ front ++ class.END ∷ [])
ends_last tokens (ending.End at) = (classes_from false [] tokens, refl)
ends_last tokens (ending.Broken at) =
    (classes_from false [] tokens ++ class.BROKEN ∷ [], sym (append_assoc (classes_from false [] tokens) (class.BROKEN ∷ []) (class.END ∷ [])))
