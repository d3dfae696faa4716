-- Which words `clap` takes for a command, and with which matches.
use Rattle.std.proofs.Common.{◌≡◌, ◌∙◌, ne_eqb, length, arith, Bool, true, false, ◌&&◌, List, [], ◌∷◌, refl, sym, ap, subst, Some, None, if◌then◌else◌}
use Rattle.clap.specs.Walk.{Row, Text, is_empty}
use Rattle.clap.specs.Simple.{App, is_simple, matches_of}
use Rattle.clap.specs.Faults.{fault_of, is_simple_and_free}
use Rattle.clap.specs.Kinds.{IsAmong, Kinds}
use Rattle.clap.specs.declared.error.kind.ErrorKind.{ErrorKind}
use Rattle.clap.proofs.OnLiterals.{clap_on_literals}
use Rattle.tornado_words.specs.Arguments.{app_of_word, matches_on}
use Rattle.tornado_words.specs.declared.command_word.CommandWord.{CommandWord}
use Rattle.tornado_words.specs.declared.command_word.CommandWord.TheVariants as command

-- each command is one of which `clap` states the matches and the faults
simple_word : (word : CommandWord) → is_simple_and_free (app_of_word word) ≡ true
unfolding clap_on_literals
simple_word command.Core = refl
simple_word command.Eval = refl
simple_word command.Rows = refl
simple_word command.Check = refl
simple_word command.Verify = refl
simple_word command.Repair = refl
simple_word command.Compile = refl
simple_word command.Run = refl
simple_word command.Trial = refl
simple_word command.Gen = refl

and_left : (a b : Bool) → (a && b) ≡ true → a ≡ true
and_left true b e = refl
and_left false b e = e

pub is_free_command : (word : CommandWord) (app : App) → app ≡ app_of_word word → is_simple_and_free app ≡ true
is_free_command word app is = ap is_simple_and_free is ∙ simple_word word

pub is_simple_command : (word : CommandWord) (app : App) → app ≡ app_of_word word → is_simple app ≡ true
is_simple_command word app is = and_left _ _ (is_free_command word app is)

-- words without a fault are taken, with their matches
pub taken : (word : CommandWord) (app : App) (words : List Text) (rows : List Row) → app ≡ app_of_word word → fault_of app words ≡ []
    → rows ≡ matches_of app words → matches_on word words ≡ Some rows
taken word app words rows is none gives =
    let no_fault : fault_of (app_of_word word) words ≡ [] = sym (ap (λ a. fault_of a words) is) ∙ none in
    let same : matches_of (app_of_word word) words ≡ rows = sym (gives ∙ ap (λ a. matches_of a words) is) in
    ap (λ (kinds : Kinds). if is_empty kinds then Some (matches_of (app_of_word word) words) else None) no_fault ∙ ap (λ (r : List Row). Some r) same

refused_by : (kind : ErrorKind) (kinds : Kinds) (rows : List Row) → IsAmong kind kinds → (if is_empty kinds then Some rows else None) ≡ None
refused_by kind [] rows among = absurd among
refused_by kind (first ∷ kinds) rows among = rw (ne_eqb (length (first ∷ kinds)) 0 (λ none. omega arith)) refl

-- words with a fault are not taken
pub refused : (word : CommandWord) (app : App) (words : List Text) (kind : ErrorKind) → app ≡ app_of_word word → IsAmong kind (fault_of app words)
    → matches_on word words ≡ None
refused word app words kind is among =
    refused_by kind (fault_of (app_of_word word) words) (matches_of (app_of_word word) words) (subst (λ a. IsAmong kind (fault_of a words)) is among)
