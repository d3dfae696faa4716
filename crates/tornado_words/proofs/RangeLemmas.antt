-- The numbers of an order are in their ranges.
use Rattle.std.proofs.Common.{◌≡◌, ℕ, ◌-◌, ◌<◌, ◌≤◌, ◌^◌, Bool, true, false, cond, eqb, leb, ◌&&◌, ◌||◌, inl, inr, List, [], ◌∷◌, Option, None, Some, refl, subst, arith, codes}
use Rattle.std.specs.Prelude.{IfSome, option_map, option_and_then}
use Rattle.std.proofs.lemmas.Bool.{eqb-true, leb-true}
use Rattle.clap.specs.Walk.{Row, Text, first_of}
use Rattle.tornado_words.specs.Arguments.{command_word, matches_on}
use Rattle.tornado_words.specs.Laws.{OrdersAreInRange}
use Rattle.tornado_words.specs.Numbers.{is_number, number_within, value_of}
use Rattle.tornado_words.specs.Orders.{both, file_and_basis, order_in, order_of, order_on, shares_and_seed}
use Rattle.tornado_words.specs.Ranges.{HasFitWidth, IsInRange, IsWordSize}
use Rattle.tornado_words.specs.Values.{basis_in, core_text_basis, is_set, number_in, optional, width_in, word_size, word_size_in}
use Rattle.tornado_words.specs.declared.command_word.CommandWord.{CommandWord}
use Rattle.tornado_words.specs.declared.command_word.CommandWord.TheVariants as command
use Rattle.tornado_words.specs.declared.order.Basis.{Basis}
use Rattle.tornado_words.specs.declared.order.Basis.TheVariants as basis
use Rattle.tornado_words.specs.declared.order.Order.{Order}
use Rattle.tornado_words.specs.declared.order.Order.TheVariants as order

mapped : {X Y : Type 0} (P : X → Type 0) (Q : Y → Type 0) (f : X → Y) (x : Option X) → ((v : X) → P v → Q (f v)) → IfSome x P → IfSome (option_map f x) Q
mapped P Q f None step h = tt
mapped P Q f (Some v) step h = step v h

chained : {X Y : Type 0} (P : X → Type 0) (Q : Y → Type 0) (f : X → Option Y) (x : Option X) → ((v : X) → P v → IfSome (f v) Q) → IfSome x P → IfSome (option_and_then f x) Q
chained P Q f None step h = tt
chained P Q f (Some v) step h = step v h

paired : {X Y : Type 0} (P : X → Type 0) (Q : Y → Type 0) (x : Option X) (y : Option Y) → IfSome x P → IfSome y Q → IfSome (both x y) (λ p. P p.0 × Q p.1)
paired P Q None None h g = tt
paired P Q None (Some y) h g = tt
paired P Q (Some x) None h g = tt
paired P Q (Some x) (Some y) h g = (h, g)

anything : {X : Type 0} (x : Option X) → IfSome x (λ _. Unit {0})
anything None = tt
anything (Some v) = tt

-- a number that is read is in its range
abbrev Within : ℕ → ℕ → ℕ → Type 0
Within least most n = (least ≤ n) × (n ≤ most)

within : (least most : ℕ) (text : Text) → IfSome (number_within least most text) (Within least most)
within least most text = go (is_number text) (leb least (value_of text)) (leb (value_of text) most) (λ e. leb-true least (value_of text) e) (λ e. leb-true (value_of text) most e)
  where
    go : (digits low high : Bool) → (low ≡ true → least ≤ value_of text) → (high ≡ true → value_of text ≤ most)
        → IfSome (cond ((digits && low) && high) (Some (value_of text)) None) (Within least most)
    go true true true l h = (l refl, h refl)
    go true true false l h = tt
    go true false high l h = tt
    go false low high l h = tt

number_fits : (least most : ℕ) (id : Text) (rows : List Row) → IfSome (number_in least most id rows) (Within least most)
number_fits least most id rows = chained (λ _. Unit {0}) (Within least most) (number_within least most) (first_of id rows) (λ text _. within least most text) (anything (first_of id rows))

optional_fits : (P : ℕ → Type 0) (read : Text → Option ℕ) (given : Option Text) → ((text : Text) → IfSome (read text) P) → IfSome (optional read given) (λ number. IfSome number P)
optional_fits P read None reads = tt
optional_fits P read (Some text) reads = mapped P (λ number. IfSome number P) (λ number. Some number) (read text) (λ n h. h) (reads text)

size_fits : (text : Text) → IfSome (word_size text) IsWordSize
size_fits text =
    chained (λ _. Unit {0}) IsWordSize (λ size. cond (eqb size 8 || eqb size 16 || eqb size 32 || eqb size 64) (Some size) None) (number_within 8 64 text) (λ n _. sized n)
    (anything (number_within 8 64 text))
  where
    go : (n : ℕ) (a b c d : Bool) → (a ≡ true → n ≡ 8) → (b ≡ true → n ≡ 16) → (c ≡ true → n ≡ 32) → (d ≡ true → n ≡ 64)
        → IfSome (cond (a || b || c || d) (Some n) None) IsWordSize
    go n true b c d p q r s = inl (p refl)
    go n false true c d p q r s = inr (inl (q refl))
    go n false false true d p q r s = inr (inr (inl (r refl)))
    go n false false false true p q r s = inr (inr (inr (s refl)))
    go n false false false false p q r s = tt

    sized : (n : ℕ) → IfSome (cond (eqb n 8 || eqb n 16 || eqb n 32 || eqb n 64) (Some n) None) IsWordSize
    sized n = go n (eqb n 8) (eqb n 16) (eqb n 32) (eqb n 64) (eqb-true n 8) (eqb-true n 16) (eqb-true n 32) (eqb-true n 64)

basis_fits : (rows : List Row) → IfSome (basis_in rows) HasFitWidth
basis_fits rows = either (is_set (codes "core") rows) (core_text_basis rows) (option_map (λ width. basis.Source width (first_of (codes "entry") rows)) (width_in rows))
    (either _ None (Some basis.CoreText) tt tt)
    (mapped (λ width. IfSome width (λ w. (0 < w) × (w ≤ 64))) HasFitWidth (λ width. basis.Source width (first_of (codes "entry") rows)) (width_in rows) (λ width h. h)
    (optional_fits (λ w. (0 < w) × (w ≤ 64)) (number_within 1 64) (first_of (codes "width") rows) (λ text. within 1 64 text)))
  where
    either : (test : Bool) (x y : Option Basis) → IfSome x HasFitWidth → IfSome y HasFitWidth → IfSome (cond test x y) HasFitWidth
    either true x y h g = h
    either false x y h g = g

-- an order on a file
file_fits : {X : Type 0} (P : X → Type 0) (f : X × (Text × Basis) → Order) (x : Option X) (rows : List Row) → ((v : X) (file : Text) (b : Basis) → P v → HasFitWidth b → IsInRange (f (v, (file, b))))
    → IfSome x P → IfSome (option_map f (both x (file_and_basis rows))) IsInRange
file_fits P f x rows step h =
    mapped (λ p. P p.0 × (Unit {0} × HasFitWidth p.1.1)) IsInRange f (both x (file_and_basis rows)) (λ p g. step p.0 p.1.0 p.1.1 g.0 g.1.1)
    (paired P (λ p. Unit {0} × HasFitWidth p.1) x (file_and_basis rows) h
    (paired (λ _. Unit {0}) HasFitWidth (first_of (codes "file") rows) (basis_in rows) (anything (first_of (codes "file") rows)) (basis_fits rows)))

alone_fits : (f : Text × Basis → Order) (rows : List Row) → ((file : Text) (b : Basis) → HasFitWidth b → IsInRange (f (file, b))) → IfSome (option_map f (file_and_basis rows)) IsInRange
alone_fits f rows step =
    mapped (λ p. Unit {0} × HasFitWidth p.1) IsInRange f (file_and_basis rows) (λ p g. step p.0 p.1 g.1)
    (paired (λ _. Unit {0}) HasFitWidth (first_of (codes "file") rows) (basis_in rows) (anything (first_of (codes "file") rows)) (basis_fits rows))

order_fits : (named : CommandWord) (rows : List Row) → IfSome (order_in named rows) IsInRange
order_fits command.Core rows = alone_fits (λ p. order.Core p.0 p.1) rows (λ file b h. h)
order_fits command.Rows rows = alone_fits (λ p. order.Rows p.0 p.1) rows (λ file b h. h)
order_fits command.Check rows = alone_fits (λ p. order.Check p.0 p.1) rows (λ file b h. h)
order_fits command.Repair rows = alone_fits (λ p. order.Repair p.0 p.1) rows (λ file b h. h)
order_fits command.Eval rows =
    file_fits (λ _. Unit {0}) (λ p. order.Eval p.1.0 p.0 p.1.1) (first_of (codes "values") rows) rows (λ v file b g h. h) (anything (first_of (codes "values") rows))
order_fits command.Verify rows =
    file_fits (λ _. Unit {0}) (λ p. order.Verify p.1.0 p.0 p.1.1) (first_of (codes "attack") rows) rows (λ v file b g h. h) (anything (first_of (codes "attack") rows))
order_fits command.Compile rows =
    file_fits (λ word. IfSome word IsWordSize) (λ p. order.Compile p.1.0 p.0 p.1.1) (word_size_in rows) rows (λ v file b g h. (g, h))
    (optional_fits IsWordSize word_size (first_of (codes "word") rows) size_fits)
order_fits command.Run rows =
    mapped (λ _. Unit {0}) IsInRange (λ p. order.Run p.0 p.1) (both (first_of (codes "cfile") rows) (first_of (codes "values") rows)) (λ p h. tt)
    (anything (both (first_of (codes "cfile") rows) (first_of (codes "values") rows)))
order_fits command.Trial rows =
    file_fits (λ p. Within 1 8 p.0 × Within 0 (2 ^ 64 - 1) p.1) (λ p. order.Trial p.1.0 p.0.0 p.0.1 p.1.1) (shares_and_seed rows) rows
    (λ v file b g h. (g.0.0, g.0.1, omega (arith, g.1.1), h))
    (paired (Within 1 8) (Within 0 (2 ^ 64 - 1)) (number_in 1 8 (codes "shares") rows) (number_in 0 (2 ^ 64 - 1) (codes "seed") rows) (number_fits 1 8 (codes "shares") rows)
    (number_fits 0 (2 ^ 64 - 1) (codes "seed") rows))
order_fits command.Gen rows =
    mapped (λ p. Within 0 (2 ^ 64 - 1) p.0 × Within 1 4096 p.1) IsInRange (λ p. order.Gen p.0 p.1)
    (both (number_in 0 (2 ^ 64 - 1) (codes "seed") rows) (number_in 1 4096 (codes "size") rows)) (λ p h. (omega (arith, h.0.1), h.1.0, h.1.1))
    (paired (Within 0 (2 ^ 64 - 1)) (Within 1 4096) (number_in 0 (2 ^ 64 - 1) (codes "seed") rows) (number_in 1 4096 (codes "size") rows)
    (number_fits 0 (2 ^ 64 - 1) (codes "seed") rows) (number_fits 1 4096 (codes "size") rows))

words_fit : (words : List Text) → IfSome (order_of words) IsInRange
words_fit [] = tt
words_fit (word ∷ words) =
    chained (λ _. Unit {0}) IsInRange (λ named. order_on named (word ∷ words)) (command_word word)
    (λ named _. chained (λ _. Unit {0}) IsInRange (order_in named) (matches_on named (word ∷ words)) (λ rows _. order_fits named rows) (anything (matches_on named (word ∷ words))))
    (anything (command_word word))

pub orders_are_in_range : OrdersAreInRange
orders_are_in_range words order e = subst (λ o. IfSome o IsInRange) e (words_fit words)
