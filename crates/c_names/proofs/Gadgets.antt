-- The gadgets that are found by their names.
use Rattle.std.proofs.Common.{◌≡◌, ℕ, ◌+◌, ◌<◌, Bool, true, false, List, [], ◌∷◌, ◌++◌, length, map, take, get_or, Option, Some, None, refl, sym, ap, ◌∙◌}
use Rattle.std.specs.Prelude.{if◌then◌else◌, bytes_eq, is_some, option_copied}
use Rattle.std.specs.Option.{option_or}
use Rattle.std.proofs.lemmas.List.{take_more}
use Rattle.std.proofs.lemmas.List.Folds.{find-append}
use Rattle.std.proofs.lemmas.Slice.Eq.{bytes_eq-Decides}
use denote.Ref.{Bor}
use Rattle.c_tree.specs.declared.CCall.{CCall}
use Rattle.c_tree.specs.declared.CFun.{CFun}
use Rattle.c_names.specs.Names.{gadget_called}
use Rattle.c_names.specs.State.Gadgets.{fits_by}

-- what is behind a reference that a choice gives
pub copied-if : (b : Bool) (gadget : Bor CFun) (other : Option (Bor CFun)) → option_copied (if b then Some gadget else other) ≡ (if b then Some gadget.now else option_copied other)
copied-if true gadget other = refl
copied-if false gadget other = refl

pub none-copied : (found : Option (Bor CFun)) → is_some found ≡ false → option_copied found ≡ None
none-copied None e = refl
none-copied (Some gadget) e = absurd (cc e)

-- a gadget of a new name is kept
pub kept-new : (gadget : CFun) (before after : List ℕ → Option CFun) → before gadget.name ≡ None
    → ((name : List ℕ) → after name ≡ (if bytes_eq gadget.name name then Some gadget else before name))
    → (name : List ℕ) → after name ≡ option_or (before name) (gadget_called (gadget ∷ []) name)
kept-new gadget before after new updated name = updated name ∙ by (bytes_eq gadget.name name) refl
  where
    or-none : (found : Option CFun) → found ≡ option_or found None
    or-none None = refl
    or-none (Some other) = refl

    by : (b : Bool) → bytes_eq gadget.name name ≡ b → (if b then Some gadget else before name) ≡ option_or (before name) (if b then Some gadget else None)
    by true is = sym (ap (λ (o : Option CFun). option_or o (Some gadget)) (ap before (sym ((bytes_eq-Decides gadget.name name).0 is)) ∙ new))
    by false is = or-none (before name)

-- the first of these gadgets and a further one are found
pub found-more : (gadgets : List CFun) (k : ℕ) (gadget : CFun) (before after : List ℕ → Option CFun) → k < length gadgets → gadget ≡ get_or gadgets k gadget
    → ((name : List ℕ) → before name ≡ gadget_called (take k gadgets) name)
    → ((name : List ℕ) → after name ≡ option_or (before name) (gadget_called (gadget ∷ []) name))
    → (name : List ℕ) → after name ≡ gadget_called (take (k + 1) gadgets) name
found-more gadgets k gadget before after within is held kept name =
    kept name
    ∙ ap (λ (o : Option CFun). option_or o (gadget_called (gadget ∷ []) name)) (held name)
    ∙ sym (find-append (λ (other : CFun). bytes_eq other.name name) (take k gadgets) (gadget ∷ []))
    ∙ ap (λ (gs : List CFun). gadget_called gs name) (ap (λ (g : CFun). take k gadgets ++ g ∷ []) is ∙ sym (take_more gadgets k gadget within))

-- calls fit by what is found
pub calls-found : (calls : List CCall) (first second : List ℕ → Option CFun) → ((name : List ℕ) → first name ≡ second name) → map (fits_by first) calls ≡ map (fits_by second) calls
calls-found [] first second same = refl
calls-found (call ∷ calls) first second same =
    both (same call.gadget) (calls-found calls first second same)
  where
    both : first call.gadget ≡ second call.gadget → map (fits_by first) calls ≡ map (fits_by second) calls
        → map (fits_by first) (call ∷ calls) ≡ map (fits_by second) (call ∷ calls)
    both found others =
        ap (λ (o : Option CFun). fits_by (λ name. o) call ∷ map (fits_by first) calls) found
        ∙ ap (λ (bs : List Bool). fits_by second call ∷ bs) others
