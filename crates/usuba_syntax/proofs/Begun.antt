-- What begins a text of the grammar begins a file, and what begins a file begins a text.
use Rattle.std.proofs.Common.{◌≡◌, ◌<◌, ℕ, zero, suc, Bool, true, false, ◌&&◌, ◌||◌, List, [], ◌∷◌, ◌++◌, Some, None, refl, sym, ap, ◌∙◌, subst, arith, lit<, ◌⊎◌, inl, inr, append_assoc}
use Rattle.std.specs.Prelude.{◌==◌}
use Rattle.std.specs.List.{list_all}
use Rattle.std.proofs.lemmas.Bool.{and_parts, eqb-true}
use Rattle.std.proofs.lemmas.List.{map-append}
use Rattle.std.proofs.lemmas.List.Folds.{list_all-append}
use Rattle.ll_reader.specs.Derivation.{Derives, items, IsText, BeginsText}
use Rattle.ll_reader.specs.Derivation as derivation
use Rattle.ll_reader.specs.declared.grammar.Item.{Item}
use Rattle.ll_reader.specs.declared.grammar.Item.TheVariants as due
use Rattle.ll_reader.specs.declared.grammar.Production.{Production}
use Rattle.ll_reader.specs.declared.grammar.Step.{Step}
use Rattle.usuba_syntax.specs.Classes.{class_of, class_of_kind}
use Rattle.usuba_syntax.specs.Files.{IsFile, BeginsFile}
use Rattle.usuba_syntax.specs.declared.class.TheConstants as class
use Rattle.usuba_syntax.specs.declared.table.TheConstants.{PRODUCTIONS, FRAME}
use Rattle.usuba_syntax.specs.declared.rule.TheConstants as rules
use Rattle.usuba_syntax.proofs.Meaning.{token_is, Is, is_node, is_table, is_perm, is_returns, is_vars, is_let, is_tel, is_forall, is_refresh, is_inline, is_no_inline, is_open_round, is_close_round, is_open_square, is_close_square, is_open_curly, is_close_curly, is_comma, is_semicolon, is_colon, is_equals, is_tilde, is_ampersand, is_caret, is_bar, is_shift_left, is_shift_right, is_rotate_left, is_rotate_right, is_plus, is_minus, is_star, is_slash, is_percent, is_dots, is_in, is_type_word, is_word, is_zero, is_positive, is_too_big}
use Rattle.usuba_syntax.proofs.NestedDepths.{all_get}
use Rattle.usuba_syntax.proofs.Runs.{classes}
use Rattle.usuba_syntax.proofs.Texts.{nothing, file_of_text, text_of_file}
use Rattle.usuba_tokens.specs.Tokens.{start}
use Rattle.usuba_tokens.specs.declared.token.Base.TheVariants.{Poly}
use Rattle.usuba_tokens.specs.declared.token.Keyword.TheVariants as keyword
use Rattle.usuba_tokens.specs.declared.token.Sign.TheVariants as sign
use Rattle.usuba_tokens.specs.declared.token.Token.{Token}
use Rattle.usuba_tokens.specs.declared.token.TokenKind.{TokenKind}
use Rattle.usuba_tokens.specs.declared.token.TokenKind.TheVariants as kind
use Rattle.usuba_trees.specs.declared.File.{File}

-- ---- the classes of tokens

-- a token of each class
abbrev samples : List TokenKind
samples =
    kind.Keyword keyword.Node ∷ kind.Keyword keyword.Table ∷ kind.Keyword keyword.Perm ∷ kind.Keyword keyword.Returns ∷
    kind.Keyword keyword.Vars ∷ kind.Keyword keyword.Let ∷ kind.Keyword keyword.Tel ∷ kind.Keyword keyword.Forall ∷
    kind.Keyword keyword.Refresh ∷ kind.Keyword keyword.Inline ∷ kind.Keyword keyword.NoInline ∷
    kind.Sign sign.OpenRound ∷ kind.Sign sign.CloseRound ∷ kind.Sign sign.OpenSquare ∷ kind.Sign sign.CloseSquare ∷
    kind.Sign sign.OpenCurly ∷ kind.Sign sign.CloseCurly ∷ kind.Sign sign.Comma ∷ kind.Sign sign.Semicolon ∷
    kind.Sign sign.Colon ∷ kind.Sign sign.Equals ∷ kind.Sign sign.Tilde ∷ kind.Sign sign.Ampersand ∷
    kind.Sign sign.Caret ∷ kind.Sign sign.Bar ∷ kind.Sign sign.ShiftLeft ∷ kind.Sign sign.ShiftRight ∷
    kind.Sign sign.RotateLeft ∷ kind.Sign sign.RotateRight ∷ kind.Sign sign.Plus ∷ kind.Sign sign.Minus ∷
    kind.Sign sign.Star ∷ kind.Sign sign.Slash ∷ kind.Sign sign.Percent ∷ kind.Sign sign.Dots ∷ kind.In [] ∷
    kind.TypeWord (record { text = []; base = Poly; count = None }) ∷ kind.Word [] ∷ kind.Number (Some zero) ∷
    kind.Number (Some (suc zero)) ∷ kind.Number None ∷ []

abbrev stands : List TokenKind → ℕ → Bool
stands [] c = false
stands (k ∷ ks) c = (class_of_kind k == c) || stands ks c

either : (a b : Bool) → (a || b) ≡ true → (a ≡ true) ⊎ (b ≡ true)
either true b h = inl refl
either false b h = inr h

token_for : (ks : List TokenKind) (c : ℕ) → stands ks c ≡ true → (k : TokenKind) × (class_of_kind k ≡ c)
token_for [] c h = absurd (cc)
token_for (k ∷ ks) c h =
    elim (either (class_of_kind k == c) (stands ks c) h) [ inl is ↦ (k, eqb-true (class_of_kind k) c is) | inr later ↦ token_for ks c later ]

-- something is made of the item
abbrev is_standing : Item → Bool
is_standing (due.Token c) = stands samples c
is_standing (due.Rule a) = true

abbrev all_standing : Production → Bool
all_standing p = list_all is_standing (items p)

table_stands : list_all all_standing PRODUCTIONS ≡ true
table_stands = refl

is_token : {c : ℕ} {t : Token} → Is c t → c < class.BROKEN
is_token is_node = lit< tt
is_token is_table = lit< tt
is_token is_perm = lit< tt
is_token is_returns = lit< tt
is_token is_vars = lit< tt
is_token is_let = lit< tt
is_token is_tel = lit< tt
is_token is_forall = lit< tt
is_token is_refresh = lit< tt
is_token is_inline = lit< tt
is_token is_no_inline = lit< tt
is_token is_open_round = lit< tt
is_token is_close_round = lit< tt
is_token is_open_square = lit< tt
is_token is_close_square = lit< tt
is_token is_open_curly = lit< tt
is_token is_close_curly = lit< tt
is_token is_comma = lit< tt
is_token is_semicolon = lit< tt
is_token is_colon = lit< tt
is_token is_equals = lit< tt
is_token is_tilde = lit< tt
is_token is_ampersand = lit< tt
is_token is_caret = lit< tt
is_token is_bar = lit< tt
is_token is_shift_left = lit< tt
is_token is_shift_right = lit< tt
is_token is_rotate_left = lit< tt
is_token is_rotate_right = lit< tt
is_token is_plus = lit< tt
is_token is_minus = lit< tt
is_token is_star = lit< tt
is_token is_slash = lit< tt
is_token is_percent = lit< tt
is_token is_dots = lit< tt
is_token is_in = lit< tt
is_token is_type_word = lit< tt
is_token is_word = lit< tt
is_token is_zero = lit< tt
is_token is_positive = lit< tt
is_token is_too_big = lit< tt

not_broken : (t : Token) → class_of t ≡ class.BROKEN → ⊥
not_broken t e = let h : class_of t < class.BROKEN = is_token (token_is t) in omega arith

not_end : (t : Token) → class_of t ≡ class.END → ⊥
not_end t e = let h : class_of t < class.BROKEN = is_token (token_is t) in omega arith

-- ---- what stands behind tokens in a text

-- the classes behind the first tokens of a text are those of more tokens, and of the end
record Rest (rest : List ℕ) : Type 0 where
  more : List Token
  is : rest ≡ classes more ++ class.END ∷ []

longer : (k : TokenKind) {c : ℕ} {rest cs : List ℕ} → class_of_kind k ≡ c → c ∷ cs ≡ rest → Rest cs → Rest rest
longer k {cs = cs} same e r = record {
  more = record { kind = k; place = start } ∷ r.more;
  is = sym e ∙ ap (λ n. n ∷ cs) (sym same) ∙ ap (λ ns. class_of_kind k ∷ ns) r.is;
}

completed : {xs : List Item} {cs : List ℕ} {steps : List Step} → Derives PRODUCTIONS xs cs steps →
    (later : List Item) (tokens : List Token) (rest : List ℕ) → xs ≡ later ++ due.Token class.END ∷ [] → list_all is_standing later ≡ true →
    cs ≡ classes tokens ++ rest → Rest rest
completed derivation.done [] tokens rest e s f = absurd (cc)
completed derivation.done (i ∷ later) tokens rest e s f = absurd (cc)
completed (derivation.token {c = c} {classes = cs} d) [] [] rest e s f =
    let none = (nothing d (cc)).0 in
    let same : c ≡ class.END = cc in
    record { more = []; is = sym f ∙ ap (λ n. n ∷ cs) same ∙ ap (λ ns. class.END ∷ ns) none }
completed (derivation.token {c = c} d) [] (t ∷ tokens) rest e s f =
    let same : c ≡ class.END = cc in
    let also : c ≡ class_of t = cc in absurd (not_end t (sym also ∙ same))
completed (derivation.token {c = c} {due = xs} {classes = cs} d) (due.Token a ∷ later) [] rest e s f =
    let same : c ≡ a = cc in
    let left : xs ≡ later ++ due.Token class.END ∷ [] = cc in
    let parts = and_parts (stands samples a) (list_all is_standing later) s in
    let sample = token_for samples a parts.0 in
    longer sample.0 (sample.1 ∙ sym same) f (completed d later [] cs left parts.1 refl)
completed (derivation.token d) (due.Rule a ∷ later) tokens rest e s f = absurd (cc)
completed (derivation.token {c = c} {due = xs} {classes = cs} d) (due.Token a ∷ later) (t ∷ tokens) rest e s f =
    let left : xs ≡ later ++ due.Token class.END ∷ [] = cc in
    let parts = and_parts (stands samples a) (list_all is_standing later) s in
    let behind : cs ≡ classes tokens ++ rest = cc in
    completed d later tokens rest left parts.1 behind
completed (derivation.rule at q d) [] tokens rest e s f = absurd (cc)
completed (derivation.rule {k = k} {p = p} {due = xs} at q d) (i ∷ later) tokens rest e s f =
    let left : xs ≡ later ++ due.Token class.END ∷ [] = cc in
    let parts = and_parts (is_standing i) (list_all is_standing later) s in
    let each = all_get all_standing PRODUCTIONS k p table_stands at in
    completed d (items p ++ later) tokens rest
    (ap (λ ys. items p ++ ys) left ∙ sym (append_assoc (items p) later (due.Token class.END ∷ [])))
    (list_all-append is_standing (items p) later ∙ ap (λ b. b && list_all is_standing later) each ∙ parts.1) f

-- tokens that begin a text, and the tokens that complete it
pub record Finished (front : List Token) (rest : List ℕ) (steps : List Step) : Type 0 where
  pub more : List Token
  pub is : rest ≡ classes more ++ class.END ∷ []
  pub text : IsText PRODUCTIONS FRAME (classes (front ++ more) ++ class.END ∷ []) steps

classes_around : (front more : List Token) → classes (front ++ more) ++ class.END ∷ [] ≡ classes front ++ (classes more ++ class.END ∷ [])
classes_around front more = ap (λ ns. ns ++ class.END ∷ []) (map-append class_of front more) ∙ append_assoc (classes front) (classes more) (class.END ∷ [])

-- the same classes are a text by the same steps
pub same_text : {cs ds : List ℕ} {steps : List Step} → cs ≡ ds → IsText PRODUCTIONS FRAME cs steps → IsText PRODUCTIONS FRAME ds steps
same_text {steps = steps} e d = let P : List ℕ → Type 0 = λ ns. IsText PRODUCTIONS FRAME ns steps in subst P e d

pub same_begun : {cs ds : List ℕ} → cs ≡ ds → BeginsText PRODUCTIONS FRAME cs → BeginsText PRODUCTIONS FRAME ds
same_begun e b = let P : List ℕ → Type 0 = λ ns. BeginsText PRODUCTIONS FRAME ns in subst P e b

pub finished : (front : List Token) (rest : List ℕ) (steps : List Step) → IsText PRODUCTIONS FRAME (classes front ++ rest) steps → Finished front rest steps
finished front rest steps d =
    let r = completed d (due.Rule rules.FILE ∷ []) front rest refl refl refl in
    record {
      more = r.more;
      is = r.is;
      text = same_text (ap (λ ns. classes front ++ ns) r.is ∙ sym (classes_around front r.more)) d;
    }

-- tokens that begin a text begin a file
pub begins_file : (tokens : List Token) → BeginsText PRODUCTIONS FRAME (classes tokens) → BeginsFile tokens
begins_file tokens (rest, steps, d) =
    let r = finished tokens rest steps d in
    let f = (file_of_text (tokens ++ r.more) steps r.text).2 in
    (r.more, f.0, f.1.is_file)

-- a file with the end behind it is a text
pub file_text : (tokens : List Token) (f : File) → IsFile tokens f → (steps : List Step) × IsText PRODUCTIONS FRAME (classes tokens ++ class.END ∷ []) steps
file_text tokens f x = let r = text_of_file x in (_, r.1)

-- tokens that begin a file begin a text
pub begins_text : (tokens : List Token) → BeginsFile tokens → BeginsText PRODUCTIONS FRAME (classes tokens)
begins_text tokens (after, f, x) =
    let r = file_text (tokens ++ after) f x in
    (classes after ++ class.END ∷ [], r.0, same_text (classes_around tokens after) r.1)

-- a part of what begins a file
pub begins_shorter : (front more : List Token) → BeginsFile (front ++ more) → BeginsFile front
begins_shorter front more (after, f, x) =
    let P : List Token → Type 0 = λ ts. IsFile ts f in
    (more ++ after, f, subst P (append_assoc front more after) x)

-- what begins no token stands in no text
pub broken_begins_none : (tokens : List Token) (rest : List ℕ) → BeginsText PRODUCTIONS FRAME (classes tokens ++ class.BROKEN ∷ rest) → ⊥
broken_begins_none tokens rest (others, steps, d) =
    let e = append_assoc (classes tokens) (class.BROKEN ∷ rest) others in
    let r = finished tokens (class.BROKEN ∷ (rest ++ others)) steps (same_text e d) in
    none r.more r.is where
      none : {ns : List ℕ} (more : List Token) → class.BROKEN ∷ ns ≡ classes more ++ class.END ∷ [] → ⊥
      none [] e = let h : class.BROKEN ≡ class.END = cc in omega arith
      none (t ∷ more) e = let h : class.BROKEN ≡ class_of t = cc in not_broken t (sym h)

-- behind the end nothing stands
pub none_behind_end : (more : List Token) (ns : List ℕ) → class.END ∷ ns ≡ classes more ++ class.END ∷ [] → more ≡ []
none_behind_end [] ns e = refl
none_behind_end (t ∷ more) ns e = let h : class.END ≡ class_of t = cc in absurd (not_end t (sym h))
