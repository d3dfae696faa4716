-- Files that bytes spell, and their faults.
use Rattle.std.proofs.Common.{◌≡◌, ◌⊎◌, ℕ, true, List, Option, None, Some, inl, inr, refl, sym, subst, ◌∙◌}
use Rattle.std.specs.List.{list_all}
use Rattle.tor_edge.specs.declared.place.Place.{Place}
use Rattle.c_meaning.specs.CSubset.{IsBadName, Spells}
use Rattle.c_name_places.specs.Laws.{BadOrRight}
use Rattle.c_name_places.specs.Places.{names_at}
use Rattle.c_names.specs.Names.{first_bad, names_of}
use Rattle.c_subset.specs.Files.{IsFile}
use Rattle.c_syntax.specs.Syntax.{AreSpelled, IsSyntaxFault, SpellsFile}
use Rattle.c_tokens.specs.declared.token.Ending.TheVariants as ending
use Rattle.c_tokens.specs.declared.token.Token.{Token}
use Rattle.c_tree.specs.declared.CFile.{CFile}

-- a file by the grammar, of which no name is bad
pub spells_right : BadOrRight → (bytes : List ℕ) (bits : ℕ) (tokens : List Token) (end : Place) (file : CFile) → AreSpelled bytes bits tokens (ending.End end) → IsFile bits tokens file
    → first_bad (names_of file) (names_at tokens) ≡ None → Spells bytes file
spells_right law bytes bits tokens end file spelled is none =
    record { syntax = record { bits = bits; found = tokens; end = end; spelled = spelled; is = is }; names = (law bits tokens file is).0 none }

-- and one of which a name is bad
pub spells_bad : (bytes : List ℕ) (bits : ℕ) (tokens : List Token) (end place : Place) (file : CFile) → AreSpelled bytes bits tokens (ending.End end) → IsFile bits tokens file
    → first_bad (names_of file) (names_at tokens) ≡ Some place → IsBadName bytes place
spells_bad bytes bits tokens end place file spelled is bad =
    record { bits = bits; found = tokens; end = end; source = file; spelled = spelled; is = is; bad = bad }

-- bytes spell a file, or something is at fault
pub either : BadOrRight → ((bytes : List ℕ) → ((file : CFile) × SpellsFile bytes file) ⊎ ((place : Place) × IsSyntaxFault bytes place)) → (bytes : List ℕ)
    → ((file : CFile) × Spells bytes file) ⊎ ((place : Place) × (IsSyntaxFault bytes place ⊎ IsBadName bytes place))
either law all bytes = go (all bytes)
  where
    judge : (file : CFile) (s : SpellsFile bytes file) (bad : Option Place) → first_bad (names_of file) (names_at s.found) ≡ bad
        → ((file : CFile) × Spells bytes file) ⊎ ((place : Place) × (IsSyntaxFault bytes place ⊎ IsBadName bytes place))
    judge file s None e = inl (file, spells_right law bytes s.bits s.found s.end file s.spelled s.is e)
    judge file s (Some place) e = inr (place, inr (spells_bad bytes s.bits s.found s.end place file s.spelled s.is e))

    go : ((file : CFile) × SpellsFile bytes file) ⊎ ((place : Place) × IsSyntaxFault bytes place)
        → ((file : CFile) × Spells bytes file) ⊎ ((place : Place) × (IsSyntaxFault bytes place ⊎ IsBadName bytes place))
    go (inl (file, s)) = judge file s (first_bad (names_of file) (names_at s.found)) refl
    go (inr (place, wrong)) = inr (place, inl wrong)

-- where all names are right none is bad
pub none_bad : BadOrRight → ((bytes : List ℕ) (first second : CFile) → SpellsFile bytes first → SpellsFile bytes second → first ≡ second) → (bytes : List ℕ) (file : CFile) (place : Place)
    → Spells bytes file → IsBadName bytes place → ⊥
none_bad law one bytes file place s bad =
    let same : file ≡ bad.source = one bytes file bad.source s.syntax (record { bits = bad.bits; found = bad.found; end = bad.end; spelled = bad.spelled; is = bad.is }) in
    let right : list_all (λ right. right) (names_of bad.source) ≡ true = subst (λ (f : CFile). list_all (λ right. right) (names_of f) ≡ true) same s.names in
    let none : first_bad (names_of bad.source) (names_at bad.found) ≡ None = (law bad.bits bad.found bad.source bad.is).1 right in
    let never : None ≡ Some place = sym none ∙ bad.bad in
    cc
