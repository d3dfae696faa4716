-- Where `clap` takes words, each argument that has to be given has a value.
use Rattle.std.proofs.Common.{◌≡◌, ◌<◌, ℕ, zero, suc, Bool, true, false, not, ◌&&◌, ◌||◌, cond, nat_lt, List, [], ◌∷◌, ◌++◌, length, drop, Option, None, Some, refl, arith, true≢false, length-append, sym}
use Rattle.std.specs.Prelude.{encode_utf8, fold, slice_get, is_some, IsSome, option_and_then}
use Rattle.std.specs.List.{find, list_all, list_any}
use Rattle.std.specs.Option.{option_map_or}
use Rattle.std.specs.Str.{bytes_eq, chars}
use Rattle.clap.specs.Facts.{explicit_source, unwrap_or_range}
use Rattle.clap.specs.Faults.{bundle_fault, bundle_step_fault, check_fault, defaults_fault, flag_word_fault, flags_fault, level_fault, long_fault, option_fault, other_fault, positional_fault, react_fault, settle_fault, short_fault, step_fault, stray_fault, turn_fault, use_fault, walk_fault, word_fault}
use Rattle.clap.specs.Kinds.{Kinds, check_kinds, or_else, range_kinds}
use Rattle.clap.specs.Lexer.{long_of, short_of}
use Rattle.clap.specs.Simple.{Shape}
use Rattle.clap.specs.Takes.{is_given}
use Rattle.clap.specs.Walk.{Held, Names, Outcome, Row, Rule, Step, Text, Waiting, Walk, done, waits, plain, refused, idle, option, positional, next, trailing, subcommand, value}
use Rattle.clap.specs.Walk.{action_of, after_flag, after_step, arg_by_id, arg_by_index, arg_by_long, arg_by_short, at_row, attached_value, bundle, bundle_met, bundle_step, default_rows, finished, first_of, flag_met, has_row, is_pending, long_met, long_or_other, most_values, more_values, nothing_held, option_met, option_word, plain_word, reacted, reading_by, rows_after, settled, settled_rows, short_met, short_or_plain, subcommand_met, subcommand_or_other, takes_several, takes_values, to_positional, used, used_as, used_by_id, values_or_missing, walk, walk_from, walked, walked_from, with_default, with_values, without, word_met}
use Rattle.clap.specs.declared.builder.action.ArgAction.{ArgAction}
use Rattle.clap.specs.declared.builder.action.ArgAction.TheVariants.{Set, SetTrue}
use Rattle.clap.specs.declared.builder.value_parser.Reading.{Reading}
use Rattle.clap.specs.declared.error.kind.ErrorKind.TheVariants as kind
use Rattle.clap.specs.declared.parser.matches.ValueSource.{ValueSource}
use Rattle.clap.specs.declared.parser.matches.ValueSource.TheVariants.{CommandLine, DefaultValue}
use Rattle.std.proofs.lemmas.Bool.{ltb-true}
use Rattle.clap.proofs.WalkLemmas.{both}

-- each row has a value
abbrev AllHaveValues : List Row → Type 0
AllHaveValues [] = Unit {0}
AllHaveValues (r ∷ rs) = (0 < length r.values) × AllHaveValues rs

choice_kept : (test : Bool) (xs ys : List Row) → AllHaveValues xs → AllHaveValues ys → AllHaveValues (cond test xs ys)
choice_kept true xs ys h g = h
choice_kept false xs ys h g = g

joined_kept : (xs ys : List Row) → AllHaveValues xs → AllHaveValues ys → AllHaveValues (xs ++ ys)
joined_kept [] ys h g = g
joined_kept (x ∷ xs) ys h g = (h.0, joined_kept xs ys h.1 g)

changed_kept : (id : Text) (change : Row → List Row) (missing rows : List Row) → ((r : Row) → 0 < length r.values → AllHaveValues (change r)) → AllHaveValues missing → AllHaveValues rows
    → AllHaveValues (at_row id change missing rows)
changed_kept id change missing [] changes m h = m
changed_kept id change missing (r ∷ rs) changes m h =
    choice_kept (bytes_eq r.id id) (change r ++ rs) (r ∷ at_row id change missing rs) (joined_kept (change r) rs (changes r h.0) h.1)
    (h.0, changed_kept id change missing rs changes m h.1)

without_kept : (id : Text) (rows : List Row) → AllHaveValues rows → AllHaveValues (without id rows)
without_kept id rows h = changed_kept id (λ _. []) [] rows (λ r some. tt) tt h

values_kept : (id : Text) (how : Reading) (s : ValueSource) (values : List Text) (rows : List Row) → 0 < length values → AllHaveValues rows → AllHaveValues (with_values id how s values rows)
values_kept id how s values rows some h =
    changed_kept id (more_values s values) (record { id = id; values = values; count = None; source = Some s; reading = how } ∷ []) rows
    (λ r old. (omega (arith, length-append r.values values), tt)) (some, tt) h

-- ---- a use of an argument

-- each use of the argument gives it a value
abbrev sets : ArgAction → Bool
sets Set = true
sets SetTrue = true
sets _ = false

abbrev pub fills : Rule → Bool
fills a = sets (action_of a) && (nat_lt 0 (unwrap_or_range a.range).start_inclusive || nat_lt 0 (length a.missing))

none_of_both : (a b : Kinds) → or_else a b ≡ [] → (a ≡ []) × (b ≡ [])
none_of_both [] b e = (refl, e)
none_of_both (k ∷ ks) b e = let bad : ⊥ = cc in absurd bad

some_wanted : (least most : ℕ) → nat_lt 0 least ≡ true → range_kinds least most 0 ≡ [] → ⊥
some_wanted least most some e = let bad : kind.InvalidValue ∷ [] ≡ [] = rw some at e in cc

some_missing : (least most : ℕ) (missing : List Text) → (nat_lt 0 least || nat_lt 0 (length missing)) ≡ true → range_kinds least most 0 ≡ [] → 0 < length missing
some_missing least most missing some e = go (nat_lt 0 least) refl
  where
    go : (b : Bool) → nat_lt 0 least ≡ b → 0 < length missing
    go true is = absurd (some_wanted least most is e)
    go false is = let test : nat_lt 0 (length missing) ≡ true = rw is at some in ltb-true 0 (length missing) test

some_values : (a : Rule) (again : Bool) (values : List Text) (rows : List Row) → fills a ≡ true → use_fault again a values rows ≡ [] → 0 < length (values_or_missing a values)
some_values a again [] rows f e =
    some_missing (unwrap_or_range a.range).start_inclusive (most_values a) a.missing (both (sets (action_of a)) _ f).1
    (none_of_both (range_kinds (unwrap_or_range a.range).start_inclusive (most_values a) 0) _ e).0
some_values a again (v ∷ vs) rows f e = omega arith

set_kept : (action : ArgAction) (id : Text) (how : Reading) (values : List Text) (rows : List Row) → sets action ≡ true → 0 < length values → AllHaveValues rows
    → AllHaveValues (used_as action id how values rows)
set_kept Set id how values rows is some h = values_kept id how CommandLine values (without id rows) some (without_kept id rows h)
set_kept SetTrue id how values rows is some h = values_kept id how CommandLine values (without id rows) some (without_kept id rows h)
set_kept _ id how values rows is some h = absurd (true≢false (sym is))

used_kept : (a : Rule) (again : Bool) (values : List Text) (rows : List Row) → fills a ≡ true → use_fault again a values rows ≡ [] → AllHaveValues rows → AllHaveValues (used a values rows)
used_kept a again values rows f e h =
    set_kept (action_of a) a.id (reading_by a) (values_or_missing a values) rows (both (sets (action_of a)) _ f).0 (some_values a again values rows f e) h

-- an argument that is found is one of the command's
abbrev FillsIf : Option Rule → Type 0
FillsIf None = Unit {0}
FillsIf (Some a) = fills a ≡ true

either_fills : (test : Bool) (x y : Option Rule) → FillsIf x → FillsIf y → FillsIf (cond test x y)
either_fills true x y h g = h
either_fills false x y h g = g

found_fills : (test : Rule → Bool) (rules : List Rule) → list_all fills rules ≡ true → FillsIf (find test rules)
found_fills test [] e = tt
found_fills test (a ∷ rules) e =
    let p = both (fills a) (list_all fills rules) e in
    either_fills (test a) (Some a) (find test rules) p.0 (found_fills test rules p.1)

-- ---- the walk over the words

module _ (s : Shape) (good : list_all fills s.rules ≡ true) where
  named_kept : (found : Option Rule) (values : List Text) (rows : List Row) → FillsIf found → option_map_or (λ a. use_fault s.args_override_self a values rows) found [] ≡ [] → AllHaveValues rows
      → AllHaveValues (used_by_id found values rows)
  named_kept None values rows f e h = h
  named_kept (Some a) values rows f e h = used_kept a s.args_override_self values rows f e h

  settled_kept : (pending : Option (Text × List Text)) (rows : List Row)
      → option_map_or (λ p. option_map_or (λ a. use_fault s.args_override_self a p.1 rows) (arg_by_id s.rules p.0) []) pending [] ≡ [] → AllHaveValues rows
      → AllHaveValues (settled_rows s.rules pending rows)
  settled_kept None rows e h = h
  settled_kept (Some p) rows e h = named_kept (arg_by_id s.rules p.0) p.1 rows (found_fills _ s.rules good) e h

  reacted_kept : (a : Rule) (values : List Text) (h : Held) → fills a ≡ true → react_fault s.rules s.args_override_self a values h ≡ [] → AllHaveValues h.rows
      → AllHaveValues (reacted s.rules a values h).rows
  reacted_kept a values h f e r =
      let p = none_of_both (settle_fault s.rules s.args_override_self h) _ e in
      used_kept a s.args_override_self values (settled s.rules h).rows f p.1 (settled_kept h.pending h.rows p.0 r)

  option_kept : (a : Rule) (v : Option Text) (h : Held) → fills a ≡ true → option_fault s.rules s.args_override_self a v h ≡ [] → AllHaveValues h.rows
      → AllHaveValues (option_met s.rules a v h).0.rows
  option_kept a (Some v) h f e r = reacted_kept a (v ∷ []) h f e r
  option_kept a None h f e r = settled_kept h.pending h.rows e r

  flag_kept : (a : Rule) (v : Option Text) (h : Held) → fills a ≡ true → cond (is_some v) (kind.TooManyValues ∷ []) (react_fault s.rules s.args_override_self a [] h) ≡ [] → AllHaveValues h.rows
      → AllHaveValues (flag_met s.rules a v h).0.rows
  flag_kept a (Some v) h f e r = r
  flag_kept a None h f e r = reacted_kept a [] h f e r

  long_kept : (found : Option Rule) (v : Option Text) (h : Held) → FillsIf found → long_fault s.rules s.args_override_self found v h ≡ [] → AllHaveValues h.rows
      → AllHaveValues (long_met s.rules found v h).0.rows
  long_kept None v h f e r = r
  long_kept (Some a) v h f e r = go (takes_values a) e
    where
      go : (b : Bool)
          → cond b (option_fault s.rules s.args_override_self a v h) (cond (is_some v) (kind.TooManyValues ∷ []) (react_fault s.rules s.args_override_self a [] h)) ≡ []
          → AllHaveValues (cond b (option_met s.rules a v h) (flag_met s.rules a v h)).0.rows
      go true t = option_kept a v h f t r
      go false t = flag_kept a v h f t r

  short_kept : (found : Option Rule) (rest : Text) (h : Held) (next_fault : Held → Kinds) (then : Held → Held × Outcome) → FillsIf found
      → ((g : Held) → next_fault g ≡ [] → AllHaveValues g.rows → AllHaveValues (then g).0.rows) → short_fault s.rules s.args_override_self found rest h next_fault ≡ []
      → AllHaveValues h.rows → AllHaveValues (short_met s.rules found rest h then).0.rows
  short_kept None rest h next_fault then f kept e r = r
  short_kept (Some a) rest h next_fault then f kept e r = go (takes_values a) e
    where
      go : (b : Bool)
          → cond b (option_fault s.rules s.args_override_self a (attached_value rest) h)
          (or_else (react_fault s.rules s.args_override_self a [] h) (next_fault (reacted s.rules a [] h))) ≡ []
          → AllHaveValues (cond b (option_met s.rules a (attached_value rest) h) (then (reacted s.rules a [] h))).0.rows
      go true t = option_kept a (attached_value rest) h f t r
      go false t =
          let p = none_of_both (react_fault s.rules s.args_override_self a [] h) _ t in
          kept (reacted s.rules a [] h) p.1 (reacted_kept a [] h f p.0 r)

  letter_kept : (x : Option ℕ) (flags : Text) (skip : ℕ) (so_far : Outcome) (h : Held) (next_fault : Text → ℕ → Held → Kinds) (then : Text → ℕ → Outcome → Held → Held × Outcome)
      → ((t : Text) (n : ℕ) (o : Outcome) (g : Held) → next_fault t n g ≡ [] → AllHaveValues g.rows → AllHaveValues (then t n o g).0.rows)
      → bundle_step_fault s.rules s.args_override_self x flags skip h next_fault ≡ [] → AllHaveValues h.rows → AllHaveValues (bundle_step s.rules x flags skip so_far h then).0.rows
  letter_kept None flags skip so_far h next_fault then kept e r = r
  letter_kept (Some x) flags zero so_far h next_fault then kept e r =
      let rest : Text = drop (length (encode_utf8 x)) flags in
      short_kept (arg_by_short s.rules x) rest h (next_fault rest 0) (then rest 0 done) (found_fills _ s.rules good) (λ g. kept rest 0 done g) e r
  letter_kept (Some x) flags (suc skip) so_far h next_fault then kept e r = kept (drop (length (encode_utf8 x)) flags) skip so_far h e r

  bundle_kept : (k : ℕ) (flags : Text) (skip : ℕ) (so_far : Outcome) (h : Held) → flags_fault s.rules s.args_override_self k flags skip h ≡ [] → AllHaveValues h.rows
      → AllHaveValues (bundle_met s.rules k flags skip so_far h).0.rows
  unfolding flags_fault bundle_met
  bundle_kept zero flags skip so_far h e r = r
  bundle_kept (suc k) flags skip so_far h e r =
      letter_kept (slice_get (chars flags) 0) flags skip so_far h (flags_fault s.rules s.args_override_self k) (bundle_met s.rules k) (λ t n o g. bundle_kept k t n o g) e r

  valued_kept : (found : Option Rule) (id word : Text) (h : Held) → AllHaveValues h.rows → AllHaveValues (option_word found id word h).0.rows
  valued_kept None id word h r = r
  valued_kept (Some a) id word h r = r

  plain_kept : (waiting : Waiting) (word : Text) (h : Held) → AllHaveValues h.rows → AllHaveValues (plain_word s.rules waiting word h).0.rows
  plain_kept (option id) word h r = valued_kept (arg_by_id s.rules id) id word h r
  plain_kept idle word h r = r
  plain_kept positional word h r = r

  after_kept : (waiting : Waiting) (word : Text) (h : Held) (outcome : Outcome) → AllHaveValues h.rows → AllHaveValues (after_flag s.rules waiting word h outcome).0.rows
  after_kept waiting word h done r = r
  after_kept waiting word h (waits id) r = r
  after_kept waiting word h plain r = plain_kept waiting word h r
  after_kept waiting word h refused r = plain_kept waiting word h r

  short_word_kept : (flags : Option Text) (waiting : Waiting) (word : Text) (h : Held) → option_map_or (λ f. bundle_fault s.rules s.args_override_self f h) flags [] ≡ [] → AllHaveValues h.rows
      → AllHaveValues (short_or_plain s.rules waiting word flags h).0.rows
  short_word_kept None waiting word h e r = plain_kept waiting word h r
  short_word_kept (Some flags) waiting word h e r =
      after_kept waiting word (bundle s.rules flags h).0 (bundle s.rules flags h).1 (bundle_kept (length flags) flags h.skip plain (record h { skip = 0 }) e r)

  flag_word_kept : (name : Option (Text × Option Text)) (waiting : Waiting) (word : Text) (h : Held) → flag_word_fault s.rules s.args_override_self name word h ≡ [] → AllHaveValues h.rows
      → AllHaveValues (long_or_other s.rules waiting word name h).0.rows
  flag_word_kept (Some p) waiting word h e r =
      after_kept waiting word (long_met s.rules (arg_by_long s.rules p.0) p.1 h).0 (long_met s.rules (arg_by_long s.rules p.0) p.1 h).1
      (long_kept (arg_by_long s.rules p.0) p.1 h (found_fills _ s.rules good) e r)
  flag_word_kept None waiting word h e r = short_word_kept (short_of word) waiting word h e r

  other_kept : (sub : Option Text) (waiting : Waiting) (position : ℕ) (word : Text) (h : Held) → other_fault s sub word h ≡ [] → AllHaveValues h.rows
      → AllHaveValues (subcommand_or_other s.rules sub waiting position word h).0.rows
  other_kept (Some name) waiting position word h e r = r
  other_kept None waiting position word h e r = go (bytes_eq word (45 ∷ 45 ∷ [])) e
    where
      go : (b : Bool) → cond b [] (flag_word_fault s.rules s.args_override_self (long_of word) word h) ≡ []
          → AllHaveValues (cond b (h, trailing position) (long_or_other s.rules waiting word (long_of word) h)).0.rows
      go true t = r
      go false t = flag_word_kept (long_of word) waiting word h t r

  met_kept : (names : Names) (is_trailing : Bool) (waiting : Waiting) (position : ℕ) (word : Text) (h : Held) → word_fault s names is_trailing waiting word h ≡ [] → AllHaveValues h.rows
      → AllHaveValues (word_met s.rules names is_trailing waiting position word h).0.rows
  met_kept names true waiting position word h e r = r
  met_kept names false waiting position word h e r = other_kept (subcommand_met names waiting word) waiting position word h e r

  placed_kept : (found : Option Rule) (word : Text) (w : Walk) (h : Held) → option_map_or (λ a. positional_fault s.rules s.args_override_self a h) found (stray_fault s) ≡ [] → AllHaveValues h.rows
      → AllHaveValues (to_positional s.rules found word w h).held.rows
  placed_kept None word w h e r = r
  placed_kept (Some a) word w h e r = go (is_pending a h.pending && takes_several a) e
    where
      go : (b : Bool) → cond b [] (settle_fault s.rules s.args_override_self h) ≡ [] → AllHaveValues (cond b h (settled s.rules h)).rows
      go true t = r
      go false t = settled_kept h.pending h.rows t r

  stepped_kept : (w : Walk) (word : Text) (h : Held) (step : Step) → step_fault s w.position h step ≡ [] → AllHaveValues h.rows → AllHaveValues (after_step s.rules word w h step).held.rows
  stepped_kept w word h (next waiting) e r = r
  stepped_kept w word h (trailing position) e r = r
  stepped_kept w word h (subcommand name) e r = r
  stepped_kept w word h value e r = placed_kept (arg_by_index s.rules w.position) word w h e r

  walked_kept : (names : Names) (w : Walk) (word : Text) → turn_fault s names w word ≡ [] → AllHaveValues w.held.rows → AllHaveValues (walked s.rules names w word).held.rows
  unfolding walked
  walked_kept names w word e r = go w.stopped e
    where
      met : Held × Step
      met = word_met s.rules names w.is_trailing w.waiting w.position word w.held

      go : (stop : Option (Text × List Text)) → cond (is_some stop) [] (or_else (word_fault s names w.is_trailing w.waiting word w.held)
          (step_fault s w.position (word_met s.rules names w.is_trailing w.waiting w.position word w.held).0 (word_met s.rules names w.is_trailing w.waiting w.position word w.held).1)) ≡ []
          → AllHaveValues (walked_from s.rules names stop w word).held.rows
      go (Some p) t = r
      go None t =
          let p = none_of_both (word_fault s names w.is_trailing w.waiting word w.held) _ t in
          stepped_kept w word (word_met s.rules names w.is_trailing w.waiting w.position word w.held).0 (word_met s.rules names w.is_trailing w.waiting w.position word w.held).1 p.1
          (met_kept names w.is_trailing w.waiting w.position word w.held p.0 r)

  walk_kept : (names : Names) (w : Walk) (words : List Text) → walk_fault s names w words ≡ [] → AllHaveValues w.held.rows → AllHaveValues (fold (walked s.rules names) w words).held.rows
  unfolding walk_fault
  walk_kept names w [] e r = r
  walk_kept names w (word ∷ words) e r =
      let p = none_of_both (turn_fault s names w word) (walk_fault s names (walked s.rules names w word) words) e in
      walk_kept names (walked s.rules names w word) words p.1 (walked_kept names w word p.0 r)

-- ---- after the walk

default_kept : (id : Text) (how : Reading) (values : List Text) (rows : List Row) → AllHaveValues rows → AllHaveValues (default_rows id how values rows)
default_kept id how [] rows h = h
default_kept id how (v ∷ vs) rows h = values_kept id how DefaultValue (v ∷ vs) rows (omega arith) h

defaults_kept : (rows : List Row) (rules : List Rule) → AllHaveValues rows → AllHaveValues (fold with_default rows rules)
defaults_kept rows [] h = h
defaults_kept rows (a ∷ rules) h =
    defaults_kept (with_default rows a) rules
    (choice_kept (has_row a.id rows) rows (default_rows a.id (reading_by a) a.defaults rows) h (default_kept a.id (reading_by a) a.defaults rows h))

abbrev HasValueIf : Option Row → Type 0
HasValueIf None = Unit {0}
HasValueIf (Some r) = 0 < length r.values

either_has : (test : Bool) (x y : Option Row) → HasValueIf x → HasValueIf y → HasValueIf (cond test x y)
either_has true x y h g = h
either_has false x y h g = g

found_has : (test : Row → Bool) (rows : List Row) → AllHaveValues rows → HasValueIf (find test rows)
found_has test [] h = tt
found_has test (r ∷ rows) h = either_has (test r) (Some r) (find test rows) h.0 (found_has test rows h.1)

first_value : (values : List Text) → 0 < length values → IsSome (slice_get values 0)
first_value [] some = absurd (omega arith)
first_value (v ∷ vs) some = refl

given_value : (id : Text) (rows : List Row) → AllHaveValues rows → is_given id rows ≡ true → IsSome (first_of id rows)
given_value id rows h = go (find (λ r. bytes_eq r.id id) rows) (found_has (λ r. bytes_eq r.id id) rows h)
  where
    go : (found : Option Row) → HasValueIf found → option_map_or (λ (r : Row). explicit_source r.source) found false ≡ true
        → IsSome (option_and_then (λ (r : Row). slice_get r.values 0) found)
    go None has e = absurd (true≢false (sym e))
    go (Some r) has e = first_value r.values has

-- the arguments that have to be given have values
abbrev pub GivenWhereRequired : List Row → List Rule → Type 0
GivenWhereRequired rows [] = Unit {0}
GivenWhereRequired rows (a ∷ rules) = (a.required ≡ true → IsSome (first_of a.id rows)) × GivenWhereRequired rows rules

given_where : (required given : Bool) → (required && not given) ≡ false → required ≡ true → given ≡ true
given_where true true e is = refl
given_where true false e is = absurd (true≢false e)
given_where false given e is = absurd (true≢false (sym is))

none_of : (a b : Bool) → (a || b) ≡ false → (a ≡ false) × (b ≡ false)
none_of true b e = absurd (true≢false e)
none_of false b e = (refl, e)

all_given : (rows : List Row) (rules : List Rule) → AllHaveValues rows → list_any (λ a. a.required && not (is_given a.id rows)) rules ≡ false → GivenWhereRequired rows rules
all_given rows [] h e = tt
all_given rows (a ∷ rules) h e =
    let p = none_of (a.required && not (is_given a.id rows)) (list_any (λ x. x.required && not (is_given x.id rows)) rules) e in
    (λ is. given_value a.id rows h (given_where a.required (is_given a.id rows) p.0 is), all_given rows rules h p.1)

wants_none : (help sub negates missing : Bool) → check_kinds help sub (not (negates && false) && missing) ≡ [] → missing ≡ false
wants_none true sub negates missing e = let bad : ⊥ = cc in absurd bad
wants_none false true negates missing e = let bad : ⊥ = cc in absurd bad
wants_none false false true true e = let bad : ⊥ = cc in absurd bad
wants_none false false false true e = let bad : ⊥ = cc in absurd bad
wants_none false false negates false e = refl

-- a command without subcommands that takes the words has a value for each argument that has to be given
pub level_given : (s : Shape) (words : List Text) → list_all fills s.rules ≡ true → level_fault s [] nothing_held words false [] ≡ [] → GivenWhereRequired (rows_after s.rules [] words) s.rules
level_given s words good e =
    let end : Held = (walk s.rules [] nothing_held words).held in
    let p = none_of_both (walk_fault s [] (walk_from nothing_held) words) _ e in
    let q = none_of_both (settle_fault s.rules s.args_override_self end) _ p.1 in
    let r = none_of_both (defaults_fault (settled s.rules end).rows s.rules) (check_fault s (finished s.rules end) false) q.1 in
    let held : AllHaveValues end.rows = walk_kept s good [] (walk_from nothing_held) words p.0 tt in
    let rows : AllHaveValues (finished s.rules end) = defaults_kept (settled s.rules end).rows s.rules (settled_kept s good end.pending end.rows q.0 held) in
    all_given (finished s.rules end) s.rules rows (wants_none _ _ s.subcommand_negates_reqs _ r.1)
