-- What a token does to the nest, told by its class alone.
use Rattle.std.proofs.Common.{◌≡◌, ℕ, zero, suc, ◌+◌, Bool, true, false, not, ◌&&◌, List, [], ◌∷◌, ◌++◌, length, map, Some, None, refl, sym, ap, ◌∙◌, subst, length-append}
use Rattle.std.specs.Prelude.{◌==◌, if◌then◌else◌}
use Rattle.std.specs.List.{list_any}
use Rattle.std.proofs.lemmas.Bool.{and_parts}
use Rattle.usuba_syntax.specs.Classes.{class_of, class_of_kind}
use Rattle.usuba_syntax.proofs.Nests.{Opening, Bracket, Complement, behind_operand, outside, Nest, at_token, behind_token, behind_outer_token, counts}
use Rattle.usuba_syntax.specs.declared.class.TheConstants as class
use Rattle.usuba_tokens.specs.declared.token.Keyword.TheVariants as keyword
use Rattle.usuba_tokens.specs.declared.token.Sign.TheVariants as sign
use Rattle.usuba_tokens.specs.declared.token.Token.{Token}
use Rattle.usuba_tokens.specs.declared.token.TokenKind.{TokenKind}
use Rattle.usuba_tokens.specs.declared.token.TokenKind.TheVariants as kind

-- what a token of a class does to the nest
pub data Role : Type 0 where
  operand : Role
  other : Role
  opens : Opening → Role
  closes : Role
  lets : Role
  tels : Role
  ends : Role

-- the number is in the list
abbrev pub is_among : ℕ → List ℕ → Bool
is_among n ns = list_any (λ m. n == m) ns

abbrev pub role : ℕ → Role
role c =
    if is_among c (class.OPEN_ROUND ∷ class.OPEN_SQUARE ∷ class.OPEN_CURLY ∷ []) then opens Bracket else
    if c == class.TILDE then opens Complement else
    if is_among c (class.CLOSE_ROUND ∷ class.CLOSE_SQUARE ∷ class.CLOSE_CURLY ∷ []) then closes else
    if is_among c (class.REFRESH ∷ class.IN ∷ class.TYPE_WORD ∷ class.WORD ∷ class.ZERO ∷ class.POSITIVE ∷ class.TOO_BIG ∷ []) then operand else
    if c == class.LET then lets else
    if c == class.TEL then tels else
    if is_among c (class.BROKEN ∷ class.END ∷ []) then ends else other

-- how many are open
abbrev pub size : Nest → ℕ
size None = 0
size (Some opened) = length opened

-- how many are open at a token of the role
abbrev pub role_count : Role → Nest → ℕ
role_count r None = 0
role_count ends (Some opened) = 0
role_count operand (Some opened) = length opened
role_count (opens o) (Some opened) = length (o ∷ opened)
role_count _ (Some opened) = length (behind_operand opened)

-- the nest behind a token of the role
abbrev pub role_next : Role → Nest → Nest
role_next lets None = Some []
role_next _ None = None
role_next operand (Some opened) = Some opened
role_next (opens o) (Some opened) = Some (o ∷ opened)
role_next closes (Some opened) = Some (outside (behind_operand opened))
role_next tels (Some opened) = None
role_next _ (Some opened) = Some (behind_operand opened)

-- how many are open at each token of these classes
abbrev pub class_counts : Nest → List ℕ → List ℕ
class_counts nest [] = []
class_counts nest (c ∷ cs) = role_count (role c) nest ∷ class_counts (role_next (role c) nest) cs

same_outer_count : (k : TokenKind) → role_next (role (class_of_kind k)) None ≡ behind_outer_token k
same_outer_count (kind.Keyword keyword.Let) = refl
same_outer_count (kind.Keyword _) = refl
same_outer_count (kind.Sign sign.Tilde) = refl
same_outer_count (kind.Sign _) = refl
same_outer_count (kind.In text) = refl
same_outer_count (kind.TypeWord word) = refl
same_outer_count (kind.Word text) = refl
same_outer_count (kind.Number None) = refl
same_outer_count (kind.Number (Some zero)) = refl
same_outer_count (kind.Number (Some (suc n))) = refl

same_count : (opened : List Opening) (k : TokenKind) → role_count (role (class_of_kind k)) (Some opened) ≡ length (at_token opened k)
same_count opened (kind.Keyword keyword.Refresh) = refl
same_count opened (kind.Keyword _) = refl
same_count opened (kind.Sign sign.Tilde) = refl
same_count opened (kind.Sign _) = refl
same_count opened (kind.In text) = refl
same_count opened (kind.TypeWord word) = refl
same_count opened (kind.Word text) = refl
same_count opened (kind.Number None) = refl
same_count opened (kind.Number (Some zero)) = refl
same_count opened (kind.Number (Some (suc n))) = refl

same_next : (opened : List Opening) (k : TokenKind) → role_next (role (class_of_kind k)) (Some opened) ≡ behind_token (at_token opened k) k
same_next opened (kind.Keyword keyword.Refresh) = refl
same_next opened (kind.Keyword keyword.Tel) = refl
same_next opened (kind.Keyword _) = refl
same_next opened (kind.Sign sign.Tilde) = refl
same_next opened (kind.Sign _) = refl
same_next opened (kind.In text) = refl
same_next opened (kind.TypeWord word) = refl
same_next opened (kind.Word text) = refl
same_next opened (kind.Number None) = refl
same_next opened (kind.Number (Some zero)) = refl
same_next opened (kind.Number (Some (suc n))) = refl

-- the classes of tokens tell how many are open at each
pub counts_of_classes : (nest : Nest) (tokens : List Token) → class_counts nest (map class_of tokens) ≡ counts nest tokens
counts_of_classes nest [] = refl
counts_of_classes None (t ∷ tokens) =
    ap (λ n. 0 ∷ class_counts n (map class_of tokens)) (same_outer_count t.kind) ∙
    ap (λ ns. 0 ∷ ns) (counts_of_classes (behind_outer_token t.kind) tokens)
counts_of_classes (Some opened) (t ∷ tokens) =
    let next = behind_token (at_token opened t.kind) t.kind in
    ap (λ n. n ∷ class_counts (role_next (role (class_of t)) (Some opened)) (map class_of tokens)) (same_count opened t.kind) ∙
    ap (λ n. length (at_token opened t.kind) ∷ class_counts n (map class_of tokens)) (same_next opened t.kind) ∙
    ap (λ ns. length (at_token opened t.kind) ∷ ns) (counts_of_classes next tokens)

-- the nest behind tokens of these classes
abbrev pub nest_behind : Nest → List ℕ → Nest
nest_behind nest [] = nest
nest_behind nest (c ∷ cs) = nest_behind (role_next (role c) nest) cs

pub counts_append : (nest : Nest) (cs ds : List ℕ) → class_counts nest (cs ++ ds) ≡ class_counts nest cs ++ class_counts (nest_behind nest cs) ds
counts_append nest [] ds = refl
counts_append nest (c ∷ cs) ds = ap (λ ns. role_count (role c) nest ∷ ns) (counts_append (role_next (role c) nest) cs ds)

pub counts_end : (nest : Nest) → class_counts nest (class.END ∷ []) ≡ 0 ∷ []
counts_end None = refl
counts_end (Some opened) = refl

pub length-class_counts : (nest : Nest) (cs : List ℕ) → length (class_counts nest cs) ≡ length cs
length-class_counts nest [] = refl
length-class_counts nest (c ∷ cs) = ap suc (length-class_counts (role_next (role c) nest) cs)

-- ---- what is known of a nest in which the innermost part is given, and the part outside is any list

-- what is known of the part outside: it is empty and lies outside of items, or it has no `~` on top, or nothing is known
pub data Ground : Type 0 where
  nowhere : Ground
  solid : Ground
  loose : Ground

abbrev pub Holds : Ground → List Opening → Type 0
Holds nowhere tail = tail ≡ []
Holds solid tail = behind_operand tail ≡ tail
Holds loose tail = Unit {0}

-- the nest with a part outside
abbrev pub over : Nest → List Opening → Nest
over None tail = None
over (Some opened) tail = Some (opened ++ tail)

-- the nest behind an operand
abbrev pub settle : Nest → Nest
settle None = None
settle (Some opened) = Some (behind_operand opened)

-- the nest is the one given, or, at the end of an operand, has some more `~` on top
abbrev pub Within : Bool → Nest → Nest → Type 0
Within false given nest = nest ≡ given
Within true given nest = settle nest ≡ settle given

pub settled_within : (more : Bool) (given nest : Nest) → Within more given nest → settle nest ≡ settle given
settled_within false given nest h = ap settle h
settled_within true given nest h = h

-- no `~` is on top
abbrev pub is_solid : Ground → List Opening → Bool
is_solid loose [] = false
is_solid _ [] = true
is_solid g (Bracket ∷ opened) = true
is_solid g (Complement ∷ opened) = false

abbrev pub is_bracketed : List Opening → Bool
is_bracketed [] = false
is_bracketed (Bracket ∷ opened) = true
is_bracketed (Complement ∷ opened) = false

abbrev pub is_nowhere : Ground → Bool
is_nowhere nowhere = true
is_nowhere _ = false

-- what a token of the role does is known from the part that is given
abbrev pub is_fine : Ground → Bool → Nest → Role → Bool
is_fine g more nest ends = false
is_fine g more None r = is_nowhere g
is_fine g more (Some opened) operand = not more
is_fine g more (Some opened) (opens o) = not more
is_fine g more (Some opened) closes = is_bracketed opened
is_fine g more (Some opened) other = is_solid g opened
is_fine g more (Some opened) lets = false
is_fine g more (Some opened) tels = is_solid g opened && is_nowhere g

pub nowhere_empty : (g : Ground) (tail : List Opening) → is_nowhere g ≡ true → Holds g tail → tail ≡ []
nowhere_empty nowhere tail h is = is
nowhere_empty solid tail h is = absurd (cc)
nowhere_empty loose tail h is = absurd (cc)

pub solid_stays : (g : Ground) (opened tail : List Opening) → is_solid g opened ≡ true → Holds g tail → behind_operand (opened ++ tail) ≡ opened ++ tail
solid_stays nowhere [] tail h is = ap behind_operand is ∙ sym is
solid_stays solid [] tail h is = is
solid_stays loose [] tail h is = absurd (cc)
solid_stays g (Bracket ∷ opened) tail h is = refl
solid_stays g (Complement ∷ opened) tail h is = absurd (cc)

solid_alone : (g : Ground) (opened : List Opening) → is_solid g opened ≡ true → behind_operand opened ≡ opened
solid_alone g [] h = refl
solid_alone g (Bracket ∷ opened) h = refl
solid_alone g (Complement ∷ opened) h = absurd (cc)

-- what is said of a token of a role
pub record Told (r : Role) (given : Nest) (tail : List Opening) (nest : Nest) : Type 0 where
  pub count : role_count r nest ≡ role_count r given + length tail
  pub next : role_next r nest ≡ over (role_next r given) tail

told_outside : (r : Role) (tail : List Opening) (nest : Nest) → tail ≡ [] → settle nest ≡ None → Told r None tail nest
told_outside r tail (Some opened) empty h = absurd (cc)
told_outside operand tail None empty h = record { count = ap (λ (xs : List Opening). 0 + length xs) (sym empty); next = refl }
told_outside other tail None empty h = record { count = ap (λ (xs : List Opening). 0 + length xs) (sym empty); next = refl }
told_outside (opens o) tail None empty h = record { count = ap (λ (xs : List Opening). 0 + length xs) (sym empty); next = refl }
told_outside closes tail None empty h = record { count = ap (λ (xs : List Opening). 0 + length xs) (sym empty); next = refl }
told_outside lets tail None empty h = record { count = ap (λ (xs : List Opening). 0 + length xs) (sym empty); next = ap Some (sym empty) }
told_outside tels tail None empty h = record { count = ap (λ (xs : List Opening). 0 + length xs) (sym empty); next = refl }
told_outside ends tail None empty h = record { count = ap (λ (xs : List Opening). 0 + length xs) (sym empty); next = refl }

-- behind an operand the nest is known
record Behind (opened tail : List Opening) (nest : Nest) : Type 0 where
  inside : List Opening
  is : nest ≡ Some inside
  behind : behind_operand inside ≡ opened ++ tail

behind_of : (opened tail : List Opening) (nest : Nest) → settle nest ≡ Some (behind_operand (opened ++ tail)) → behind_operand (opened ++ tail) ≡ opened ++ tail → Behind opened tail nest
behind_of opened tail None h same = absurd (cc)
behind_of opened tail (Some inside) h same = record { inside = inside; is = refl; behind = (let e : behind_operand inside ≡ behind_operand (opened ++ tail) = cc in e ∙ same) }

told_exactly : (r : Role) (opened tail : List Opening) (nest : Nest) → nest ≡ Some (opened ++ tail) → Told r (Some opened) tail (Some (opened ++ tail)) → Told r (Some opened) tail nest
told_exactly r opened tail nest h told = subst (Told r (Some opened) tail) (sym h) told

told_closes : (opened tail : List Opening) (nest : Nest) → is_bracketed opened ≡ true → settle nest ≡ Some (behind_operand (opened ++ tail)) → Told closes (Some opened) tail nest
told_closes [] tail nest h is = absurd (cc)
told_closes (Complement ∷ opened) tail nest h is = absurd (cc)
told_closes (Bracket ∷ opened) tail nest h is =
    let b = behind_of (Bracket ∷ opened) tail nest is refl in
    subst (Told closes (Some (Bracket ∷ opened)) tail) (sym b.is) (record {
      count = ap length b.behind ∙ length-append (Bracket ∷ opened) tail;
      next = ap (λ xs. Some (outside xs)) b.behind;
    })

told_other : (g : Ground) (opened tail : List Opening) (nest : Nest) → is_solid g opened ≡ true → Holds g tail → settle nest ≡ Some (behind_operand (opened ++ tail)) → Told other (Some opened) tail nest
told_other g opened tail nest h holds is =
    let b = behind_of opened tail nest is (solid_stays g opened tail h holds) in
    let alone = solid_alone g opened h in
    subst (Told other (Some opened) tail) (sym b.is) (record {
      count = ap length b.behind ∙ length-append opened tail ∙ ap (λ xs. length xs + length tail) (sym alone);
      next = ap Some b.behind ∙ ap (λ xs. Some (xs ++ tail)) (sym alone);
    })

told_tels : (g : Ground) (opened tail : List Opening) (nest : Nest) → is_solid g opened ≡ true → Holds g tail → settle nest ≡ Some (behind_operand (opened ++ tail)) → Told tels (Some opened) tail nest
told_tels g opened tail nest h holds is =
    let b = behind_of opened tail nest is (solid_stays g opened tail h holds) in
    let alone = solid_alone g opened h in
    subst (Told tels (Some opened) tail) (sym b.is) (record {
      count = ap length b.behind ∙ length-append opened tail ∙ ap (λ xs. length xs + length tail) (sym alone);
      next = refl;
    })

pub told : (g : Ground) (more : Bool) (given : Nest) (r : Role) (tail : List Opening) (nest : Nest) → is_fine g more given r ≡ true → Holds g tail → Within more (over given tail) nest → Told r given tail nest
told g more None ends tail nest h holds is = absurd (cc)
told g more (Some opened) ends tail nest h holds is = absurd (cc)
told g more None operand tail nest h holds is = told_outside operand tail nest (nowhere_empty g tail h holds) (settled_within more None nest is)
told g more None other tail nest h holds is = told_outside other tail nest (nowhere_empty g tail h holds) (settled_within more None nest is)
told g more None (opens o) tail nest h holds is = told_outside (opens o) tail nest (nowhere_empty g tail h holds) (settled_within more None nest is)
told g more None closes tail nest h holds is = told_outside closes tail nest (nowhere_empty g tail h holds) (settled_within more None nest is)
told g more None lets tail nest h holds is = told_outside lets tail nest (nowhere_empty g tail h holds) (settled_within more None nest is)
told g more None tels tail nest h holds is = told_outside tels tail nest (nowhere_empty g tail h holds) (settled_within more None nest is)
told g true (Some opened) operand tail nest h holds is = absurd (cc)
told g false (Some opened) operand tail nest h holds is =
    told_exactly operand opened tail nest is (record { count = length-append opened tail; next = refl })
told g true (Some opened) (opens o) tail nest h holds is = absurd (cc)
told g false (Some opened) (opens o) tail nest h holds is =
    told_exactly (opens o) opened tail nest is (record { count = length-append (o ∷ opened) tail; next = refl })
told g more (Some opened) closes tail nest h holds is = told_closes opened tail nest h (settled_within more (Some (opened ++ tail)) nest is)
told g more (Some opened) other tail nest h holds is = told_other g opened tail nest h holds (settled_within more (Some (opened ++ tail)) nest is)
told g more (Some opened) lets tail nest h holds is = absurd (cc)
told g more (Some opened) tels tail nest h holds is =
    told_tels g opened tail nest (and_parts (is_solid g opened) (is_nowhere g) h).0 holds (settled_within more (Some (opened ++ tail)) nest is)
