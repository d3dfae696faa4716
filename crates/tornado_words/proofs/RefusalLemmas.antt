-- Words that `clap` takes are no order only where `--core` stands with `--width` or `--entry`, or a number is wrong.
use Rattle.std.proofs.Common.{◌≡◌, ◌∙◌, ne_eqb, ℕ, ◌^◌, ◌-◌, Bool, true, false, not, ◌&&◌, ◌||◌, cond, List, [], ◌∷◌, length, map, Option, None, Some, refl, sym, ap, subst, arith, codes}
use Rattle.std.specs.Prelude.{is_some, IsSome, option_map, option_and_then}
use Rattle.std.specs.List.{list_all}
use Rattle.clap.specs.Faults.{fault_of, level_fault}
use Rattle.clap.specs.Kinds.{Kinds}
use Rattle.clap.specs.Simple.{Shape, argument_words, built, label_of, matches_of}
use Rattle.clap.specs.Walk.{Row, Text, first_of, is_empty, nothing_held, rows_after}
use Rattle.clap.proofs.FaultLemmas.{leaf_fault}
use Rattle.clap.proofs.OnLiterals.{clap_on_literals}
use Rattle.tornado_words.proofs.ValueLemmas.{fills, GivenWhereRequired, level_given}
use Rattle.tornado_words.specs.Arguments.{app_of_word, positionals}
use Rattle.tornado_words.specs.Laws.{HaveValues, RefusedAlone, WordsAreGiven}
use Rattle.tornado_words.specs.Numbers.{number_within}
use Rattle.tornado_words.specs.Orders.{both, file_and_basis, order_in, shares_and_seed}
use Rattle.tornado_words.specs.Refusals.{basis_is_wrong, is_refused, is_wrong}
use Rattle.tornado_words.specs.Values.{basis_in, is_set, number_in, optional, word_size, word_size_in}
use Rattle.tornado_words.specs.declared.command_word.CommandWord.{CommandWord}
use Rattle.tornado_words.specs.declared.command_word.CommandWord.TheVariants as command
use Rattle.tornado_words.specs.declared.order.Basis.{Basis}
use Rattle.tornado_words.specs.declared.order.Basis.TheVariants as basis

-- each argument of a command gets a value by each use
rules_fill : (named : CommandWord) → list_all fills (built (app_of_word named)).top.rules ≡ true
unfolding clap_on_literals
rules_fill command.Core = refl
rules_fill command.Eval = refl
rules_fill command.Rows = refl
rules_fill command.Check = refl
rules_fill command.Verify = refl
rules_fill command.Repair = refl
rules_fill command.Compile = refl
rules_fill command.Run = refl
rules_fill command.Trial = refl
rules_fill command.Gen = refl

-- no command has subcommands
no_subs : (named : CommandWord) → (built (app_of_word named)).subs ≡ []
unfolding clap_on_literals
no_subs command.Core = refl
no_subs command.Eval = refl
no_subs command.Rows = refl
no_subs command.Check = refl
no_subs command.Verify = refl
no_subs command.Repair = refl
no_subs command.Compile = refl
no_subs command.Run = refl
no_subs command.Trial = refl
no_subs command.Gen = refl

-- what has to be given stands first among the arguments
each_given : (named : CommandWord) (rows : List Row) → GivenWhereRequired rows (built (app_of_word named)).top.rules → HaveValues rows (positionals named)
unfolding clap_on_literals
each_given command.Core rows h = (h.0 refl, tt)
each_given command.Eval rows h = (h.0 refl, (h.1.0 refl, tt))
each_given command.Rows rows h = (h.0 refl, tt)
each_given command.Check rows h = (h.0 refl, tt)
each_given command.Verify rows h = (h.0 refl, (h.1.0 refl, tt))
each_given command.Repair rows h = (h.0 refl, tt)
each_given command.Compile rows h = (h.0 refl, tt)
each_given command.Run rows h = (h.0 refl, (h.1.0 refl, tt))
each_given command.Trial rows h = (h.0 refl, (h.1.0 refl, (h.1.1.0 refl, tt)))
each_given command.Gen rows h = (h.0 refl, (h.1.0 refl, tt))

-- words that are taken have no fault
taken_parts : (kinds : Kinds) (found rows : List Row) → cond (is_empty kinds) (Some found) None ≡ Some rows → (kinds ≡ []) × (found ≡ rows)
taken_parts [] found rows e = (refl, some_same found rows e)
  where
    some_same : (x y : List Row) → Some x ≡ Some y → x ≡ y
    some_same x y same = cc
taken_parts (first ∷ kinds) found rows e =
    let bad : None ≡ Some rows = rw (ne_eqb (length (first ∷ kinds)) 0 (λ none. omega arith)) at e in
    let never : ⊥ = cc in
    absurd never

-- where `clap` takes the words of a command, each word that has to be given is there
pub words_are_given : WordsAreGiven
words_are_given named words rows e =
    let app = app_of_word named in
    let rest : List Text = argument_words (built app) words in
    let p = taken_parts (fault_of app words) (matches_of app words) rows e in
    let none : level_fault (built app).top [] nothing_held (argument_words app words) false [] ≡ [] =
    sym (leaf_fault (built app) nothing_held (argument_words app words) (no_subs named)) ∙ p.0 in
    let found : rows_after (built app).top.rules [] (argument_words app words) ≡ rows =
    sym (ap (λ (subs : List Shape). rows_after (built app).top.rules (map label_of subs) (argument_words app words)) (no_subs named)) ∙ p.1 in
    each_given named rows
    (subst (λ (r : List Row). GivenWhereRequired r (built app).top.rules) found (level_given (built app).top (argument_words app words) (rules_fill named) none))

-- ---- the order of what was found

both_some : {X Y : Type 0} (x : Option X) (y : Option Y) → is_some (both x y) ≡ (is_some x && is_some y)
both_some None None = refl
both_some None (Some y) = refl
both_some (Some x) None = refl
both_some (Some x) (Some y) = refl

map_some : {X Y : Type 0} (f : X → Y) (x : Option X) → is_some (option_map f x) ≡ is_some x
map_some f None = refl
map_some f (Some x) = refl

optional_some : (read : Text → Option ℕ) (given : Option Text) → is_some (optional read given) ≡ not (is_wrong read given)
optional_some read None = refl
optional_some read (Some text) = go (read text)
  where
    go : (number : Option ℕ) → is_some (option_map (λ n. Some n) number) ≡ not (not (is_some number))
    go None = refl
    go (Some n) = refl

number_some : (read : Text → Option ℕ) (given : Option Text) → IsSome given → is_some (option_and_then read given) ≡ not (is_wrong read given)
number_some read None given = let bad : ⊥ = cc in absurd bad
number_some read (Some text) given = go (is_some (read text))
  where
    go : (b : Bool) → b ≡ not (not b)
    go true = refl
    go false = refl

-- a file is read as core text, or as a source
basis_some : (rows : List Row) → is_some (basis_in rows) ≡ not (basis_is_wrong rows)
basis_some rows = go (is_set (codes "core") rows) (first_of (codes "width") rows) (first_of (codes "entry") rows)
  where
    sources : (width : Option Text) (entry : Option Text)
        → is_some (option_map (λ w. basis.Source w entry) (optional (number_within 1 64) width)) ≡ not (is_wrong (number_within 1 64) width)
    sources width entry = map_some (λ w. basis.Source w entry) (optional (number_within 1 64) width) ∙ optional_some (number_within 1 64) width

    go : (core : Bool) (width entry : Option Text)
        → is_some (cond core (cond (is_some width || is_some entry) None (Some basis.CoreText))
        (option_map (λ w. basis.Source w entry) (optional (number_within 1 64) width)))
        ≡ not ((core && (is_some width || is_some entry)) || is_wrong (number_within 1 64) width)
    go false width entry = sources width entry
    go true None None = refl
    go true None (Some entry) = refl
    go true (Some width) entry = refl

and_some : {X Y : Type 0} (x : Option X) (y : Option Y) (a b : Bool) → is_some x ≡ not a → is_some y ≡ not b → is_some (both x y) ≡ not (b || a)
and_some x y a b e f = both_some x y ∙ (λ i. e i && f i) ∙ go a b
  where
    go : (p q : Bool) → (not p && not q) ≡ not (q || p)
    go true true = refl
    go true false = refl
    go false true = refl
    go false false = refl

file_some : (rows : List Row) → IsSome (first_of (codes "file") rows) → is_some (file_and_basis rows) ≡ not (basis_is_wrong rows || false)
file_some rows given = and_some (first_of (codes "file") rows) (basis_in rows) false (basis_is_wrong rows) given (basis_some rows)

or_false : (b : Bool) → (b || false) ≡ b
or_false true = refl
or_false false = refl

-- what a command makes of a file and another argument
file_and : {X Y : Type 0} (f : X × (Text × Basis) → Y) (x : Option X) (rows : List Row) (wrong : Bool) → IsSome (first_of (codes "file") rows) → is_some x ≡ not wrong
    → is_some (option_map f (both x (file_and_basis rows))) ≡ not (basis_is_wrong rows || wrong)
file_and f x rows wrong file e =
    map_some f (both x (file_and_basis rows))
    ∙ and_some x (file_and_basis rows) wrong (basis_is_wrong rows) e (file_some rows file ∙ ap not (or_false (basis_is_wrong rows)))

turned : (a b : Bool) → (a || b) ≡ (b || a)
turned true true = refl
turned true false = refl
turned false true = refl
turned false false = refl

numbers_some : (low high last most : ℕ) (one two : Text) (rows : List Row) → IsSome (first_of one rows) → IsSome (first_of two rows)
    → is_some (both (number_in low high one rows) (number_in last most two rows))
    ≡ not (is_wrong (number_within low high) (first_of one rows) || is_wrong (number_within last most) (first_of two rows))
numbers_some low high last most one two rows first second =
    and_some (number_in low high one rows) (number_in last most two rows) (is_wrong (number_within low high) (first_of one rows))
    (is_wrong (number_within last most) (first_of two rows)) (number_some (number_within low high) (first_of one rows) first)
    (number_some (number_within last most) (first_of two rows) second)
    ∙ ap not (turned (is_wrong (number_within last most) (first_of two rows)) (is_wrong (number_within low high) (first_of one rows)))

found_alone : (named : CommandWord) (rows : List Row) → HaveValues rows (positionals named) → is_some (order_in named rows) ≡ not (is_refused named rows)
found_alone command.Core rows h = map_some _ (file_and_basis rows) ∙ file_some rows h.0
found_alone command.Rows rows h = map_some _ (file_and_basis rows) ∙ file_some rows h.0
found_alone command.Check rows h = map_some _ (file_and_basis rows) ∙ file_some rows h.0
found_alone command.Repair rows h = map_some _ (file_and_basis rows) ∙ file_some rows h.0
found_alone command.Eval rows h = file_and _ (first_of (codes "values") rows) rows false h.0 h.1.0
found_alone command.Verify rows h = file_and _ (first_of (codes "attack") rows) rows false h.0 h.1.0
found_alone command.Compile rows h =
    file_and _ (word_size_in rows) rows (is_wrong word_size (first_of (codes "word") rows)) h.0 (optional_some word_size (first_of (codes "word") rows))
found_alone command.Run rows h =
    map_some _ (both (first_of (codes "cfile") rows) (first_of (codes "values") rows))
    ∙ and_some (first_of (codes "cfile") rows) (first_of (codes "values") rows) false false h.0 h.1.0
found_alone command.Trial rows h =
    file_and _ (shares_and_seed rows) rows
    (is_wrong (number_within 1 8) (first_of (codes "shares") rows) || is_wrong (number_within 0 (2 ^ 64 - 1)) (first_of (codes "seed") rows)) h.0
    (numbers_some 1 8 0 (2 ^ 64 - 1) (codes "shares") (codes "seed") rows h.1.0 h.1.1.0)
found_alone command.Gen rows h =
    map_some _ (both (number_in 0 (2 ^ 64 - 1) (codes "seed") rows) (number_in 1 4096 (codes "size") rows))
    ∙ numbers_some 0 (2 ^ 64 - 1) 1 4096 (codes "seed") (codes "size") rows h.0 h.1.0

pub refused_alone : RefusedAlone
refused_alone named words rows e = found_alone named rows (words_are_given named words rows e)
