-- Bytes spell a file, or are at fault.
use Rattle.std.proofs.Common.{◌≡◌, ◌⊎◌, inl, inr, ℕ, List, drop, take, refl, subst}
use Rattle.ll_reader.specs.declared.grammar.Step.{Step}
use Rattle.tor_edge.specs.declared.place.Place.{Place}
use Rattle.usuba_tokens.specs.Tokens.{start, place_after}
use Rattle.c_grammar.specs.Grammar.{AreDerived, IsStop, place_at}
use Rattle.c_subset.specs.Files.{IsFile}
use Rattle.c_syntax.specs.Syntax.{behind_lines, AreSpelled, SpellsFile, IsSyntaxFault}
use Rattle.c_tokens.specs.Openings.{opening_of}
use Rattle.c_tokens.specs.Tokens.{Spells}
use Rattle.c_tokens.specs.declared.opening.Opening.{Opening}
use Rattle.c_tokens.specs.declared.opening.Opening.TheVariants.{Lines, Wrong}
use Rattle.c_tokens.specs.declared.token.Ending.{Ending}
use Rattle.c_tokens.specs.declared.token.Ending.TheVariants as ending
use Rattle.c_tokens.specs.declared.token.Token.{Token}
use Rattle.c_tree.specs.declared.CFile.{CFile}
use Rattle.c_syntax.proofs.Broken.{broken_not_derived}

abbrev AllSpell : Type 0
AllSpell = (at : Place) (text : List ℕ) → (found : List Token) × (end : Ending) × Spells at text found end

abbrev AllDerivedOrFault : Type 0
AllDerivedOrFault = (tokens : List Token) (end : Ending)
    → ((steps : List Step) × AreDerived tokens end steps) ⊎ ((at : ℕ) × IsStop tokens end at)

abbrev AllFiles : Type 0
AllFiles = (bits : ℕ) (tokens : List Token) (at : Place) (steps : List Step) → AreDerived tokens (ending.End at) steps
    → (file : CFile) × IsFile bits tokens file

-- tokens that are derived end where the text ends, and are a file
pub ended_file : AllFiles → (bits : ℕ) (tokens : List Token) (end : Ending) (steps : List Step) → AreDerived tokens end steps
    → (at : Place) × (end ≡ ending.End at) × (file : CFile) × IsFile bits tokens file
ended_file files bits tokens (ending.End at) steps derived = (let f = files bits tokens at steps derived in (at, refl, f.0, f.1))
ended_file files bits tokens (ending.Broken at) steps derived = absurd (broken_not_derived tokens at steps derived.text)

by_tokens : AllFiles → (bytes : List ℕ) (bits n : ℕ) → opening_of bytes ≡ Lines bits n
    → (found : List Token) (end : Ending) → Spells behind_lines (drop n bytes) found end
    → ((steps : List Step) × AreDerived found end steps) ⊎ ((at : ℕ) × IsStop found end at)
    → ((file : CFile) × SpellsFile bytes file) ⊎ ((place : Place) × IsSyntaxFault bytes place)
by_tokens files bytes bits n lines found end tokens (inl derived) =
    let (at, is, f, one) = ended_file files bits found end derived.0 derived.1 in
    inl (
      f,
      record {
        bits = bits;
        found = found;
        end = at;
        spelled = record { n = n; lines = lines; behind = subst (λ (e : Ending). Spells behind_lines (drop n bytes) found e) is tokens };
        is = one;
      },
    )
by_tokens files bytes bits n lines found end tokens (inr stop) =
    inr (
      place_at found end stop.0,
      inr (record {
        bits = bits;
        found = found;
        end = end;
        spelled = record { n = n; lines = lines; behind = tokens };
        k = stop.0;
        stop = stop.1;
        at = refl;
      }),
    )

by_opening : AllSpell → AllDerivedOrFault → AllFiles → (bytes : List ℕ) (o : Opening) → opening_of bytes ≡ o
    → ((file : CFile) × SpellsFile bytes file) ⊎ ((place : Place) × IsSyntaxFault bytes place)
by_opening spell derive files bytes (Lines bits n) is =
    let (found, end, tokens) = spell behind_lines (drop n bytes) in
    by_tokens files bytes bits n is found end tokens (derive found end)
by_opening spell derive files bytes (Wrong n) is =
    inr (place_after start (take n bytes), inl (record { n = n; wrong = is; at = refl }))

-- bytes spell a file, or are at fault
pub file_or_fault : AllSpell → AllDerivedOrFault → AllFiles → (bytes : List ℕ)
    → ((file : CFile) × SpellsFile bytes file) ⊎ ((place : Place) × IsSyntaxFault bytes place)
file_or_fault spell derive files bytes = by_opening spell derive files bytes (opening_of bytes) refl

-- what is answered where the steps of the tokens were found
pub answered : AllFiles → (bytes : List ℕ) (bits n : ℕ) → opening_of bytes ≡ Lines bits n
    → (read tokens : List Token) (end other : Ending) (steps : List Step) → read ≡ tokens → other ≡ end → AreDerived read other steps
    → (text : List ℕ) → text ≡ drop n bytes → Spells behind_lines text tokens end
    → (at : Place) × (f : CFile) × AreSpelled bytes bits tokens (ending.End at) × IsFile bits tokens f
answered files bytes bits n lines read tokens end other steps read_is end_is derived text text_is spelled =
    let here : AreDerived tokens end steps =
    subst (λ (e : Ending). AreDerived tokens e steps) end_is (subst (λ (ts : List Token). AreDerived ts other steps) read_is derived) in
    let (at, is, f, one) = ended_file files bits tokens end steps here in
    let behind : Spells behind_lines (drop n bytes) tokens end =
    subst (λ (l : List ℕ). Spells behind_lines l tokens end) text_is spelled in (
      at,
      f,
      record {
        n = n;
        lines = lines;
        behind = subst (λ (e : Ending). Spells behind_lines (drop n bytes) tokens e) is behind;
      },
      one,
    )
