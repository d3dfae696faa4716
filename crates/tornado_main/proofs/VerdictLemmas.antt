-- From what the search says of a view to what is said of its core.
use Rattle.std.proofs.Common.{◌≡◌, List, ℕ, Bool, Option, None, Some, IfSome, MatchOption, length, sym, ap, ◌∙◌, subst, codes}
use Rattle.std.proofs.lemmas.List.{length-map}
use Rattle.span_model.specs.Columns.{Columns, set_of}
use Rattle.span_model.specs.Attack.{HasAttack, IsAttack, IsLeak}
use Rattle.usuba0.specs.Circuit.{Circuit, IsCore}
use Rattle.linear_view.specs.AttackLaw.{AttacksAreTheViews, set_in}
use Rattle.linear_view.specs.NarrowView.{IsNarrowView}
use Rattle.linear_view.specs.NarrowLaw.{NarrowViewsKeepAttacks}
use Rattle.linear_view.specs.Names.{core_columns}
use Rattle.linear_view.specs.Rows.{core_products, core_view}
use Rattle.linear_view.specs.View.{LinearView, products_of}
use Rattle.attack_model.specs.declared.attack.Attack.{Attack}
use Rattle.attack_model.specs.declared.attack.Derivation.{Derivation}
use Rattle.attack_model.specs.declared.attack.Listing.{Listing}
use Rattle.attack_probes.specs.Unfolding.{unfolding_of}
use Rattle.attack_probes.specs.Listings.{Lists, Holds}
use Rattle.attack_cert.specs.Derivation.{IsDerivation}
use Rattle.attack_cert.specs.DerivationLaws.{RenamingKeepsDerivations}
use Rattle.attack_text.specs.AttackText.{attack_text_among}
use Rattle.attack_text.specs.NarrowTextLaw.{widened_attack, NarrowTextsAreWhole}
use Rattle.tornado_main.specs.Ending.{Stops, Nowhere}
use Rattle.tornado_main.specs.Files.{Contents, FileIs}
use Rattle.tornado_main.specs.Bases as bases
use Rattle.tornado_main.specs.Steps.{AfterFile}
use Rattle.tornado_main.specs.Outcome.{Outcome, answers}
use Rattle.tornado_main.specs.Findings.{IsAttackOver, IsTextOfAttack}
use Rattle.tornado_main.specs.commands.Check.{IsVerdict, IsAttackOfLeak, found}
use Rattle.tornado_main.specs.commands.Verify.{IsConfirmation, SpellsAttack, IsFaultyAttack, VerifyEnds, holds, fails}
use Rattle.tornado_words.specs.declared.order.Basis.{Basis}
use Rattle.tornado_main.specs.declared.refusal.Refusal.{Refusal}
use Rattle.tornado_main.specs.declared.status.Status.TheVariants.{Done, Found, Source, Values}
use Rattle.tornado_main.proofs.StepLemmas.{stops_anyway, stops_later, goes_on_with}

-- what holds of the value that is there
pub some_so : (T : Type 0) (o : Option T) (x : T) (P : T → Type 0) → o ≡ Some x → IfSome o P → P x
some_so T o x P is = subst (λ (k : Option T). IfSome k P → P x) (sym is) (λ h. h)

-- a narrow view without an attack is that of a core without one
pub none_so : NarrowViewsKeepAttacks → (core : Circuit) → IsCore core → (view : LinearView) → IsNarrowView core view
    → ¬ HasAttack (products_of view) → ¬ HasAttack (core_products core)
none_so law core is_core view narrow none = λ attack. none ((law.attack core is_core view narrow).0 attack)

-- an attack over a narrow view is, with its leak over all columns, one on the core
pub widened_is_attack : NarrowViewsKeepAttacks → RenamingKeepsDerivations ℕ ℕ → (core : Circuit) → IsCore core
    → (view : LinearView) → IsNarrowView core view → (attack : Attack) → IsAttackOver view attack
    → IsAttackOfLeak core (widened_attack core view attack)
widened_is_attack law carries core is_core view narrow attack over =
    let leak = attack.derivation.leak in
    let steps = attack.derivation.steps in
    let root = attack.derivation.root in
    let names = law.view_names core is_core view narrow in
    let whole = products_of (core_view core) in
    record {
      columns = length-map (core_columns core) (set_in view.columns leak);
      derivation =
          subst (λ (l : Columns ℕ). IsDerivation whole l steps root) (names.1 leak over.columns)
          (carries names.0.name names.0.back (products_of view) whole names.0.there names.0.again (set_of leak) steps root
          over.derivation);
      listing = over.listing;
      is_attack = (
        over.is_attack.0,
        (law.row_probes core is_core view narrow leak over.columns over.is_attack.0 (unfolding_of steps root)).1
            over.is_attack.1,
      );
    }

-- what is written of an attack over a narrow view is the text of one on the core
pub text_of_attack : NarrowViewsKeepAttacks → RenamingKeepsDerivations ℕ ℕ → NarrowTextsAreWhole → (core : Circuit)
    → IsCore core → (view : LinearView) → IsNarrowView core view → (columns : ℕ) → columns ≡ length (core_columns core)
    → (attack : Attack) → IsAttackOver view attack → IsTextOfAttack core (attack_text_among columns view attack)
text_of_attack law carries texts core is_core view narrow columns count attack over =
    record {
      attack = widened_attack core view attack;
      of_leak = widened_is_attack law carries core is_core view narrow attack over;
      text_is =
          ap (λ (n : ℕ). attack_text_among n view attack) count
          ∙ sym (texts core is_core view narrow attack over.columns);
    }

-- what a leak's derivation on a view is
record IsOnView (view : LinearView) (leak : List Bool) (d : Derivation) : Type 0 where
  columns : length leak ≡ length view.columns
  derivation : IsDerivation (products_of view) (set_of leak) d.steps d.root
  attack : IsAttack (products_of view) (length (unfolding_of d.steps d.root)) (set_of leak) (unfolding_of d.steps d.root)

-- what is kept of a leak's derivation and what it unfolds to
pub attack_over : (view : LinearView) (leak : List Bool) (d : Derivation) (listing : Listing) → d.leak ≡ leak
    → length leak ≡ length view.columns → IsDerivation (products_of view) (set_of leak) d.steps d.root
    → IsAttack (products_of view) (length (unfolding_of d.steps d.root)) (set_of leak) (unfolding_of d.steps d.root)
    → Lists listing (unfolding_of d.steps d.root) → IsAttackOver view (record { derivation = d; listing = listing })
attack_over view leak d listing same columns derived attack lists =
    let own : IsOnView view d.leak d =
    subst (λ (l : List Bool). IsOnView view l d) (sym same)
    (record { columns = columns; derivation = derived; attack = attack }) in
    record {
      columns = own.columns;
      derivation = own.derivation;
      listing = lists;
      is_attack = (length (unfolding_of d.steps d.root), own.attack);
    }

-- a leak's derivation and what this unfolds to are an attack of it on the core
pub attack_of_leak : AttacksAreTheViews → (core : Circuit) → IsCore core → (view : LinearView) → view ≡ core_view core
    → (leak : List Bool) (d : Derivation) (listing : Listing) → d.leak ≡ leak → length leak ≡ length view.columns
    → IsDerivation (products_of view) (set_of leak) d.steps d.root
    → IsAttack (products_of view) (length (unfolding_of d.steps d.root)) (set_of leak) (unfolding_of d.steps d.root)
    → Lists listing (unfolding_of d.steps d.root) → IsAttackOfLeak core (record { derivation = d; listing = listing })
attack_of_leak law core is_core view is leak d listing same columns derived attack lists =
    let on_view : IsOnView view leak d = record { columns = columns; derivation = derived; attack = attack } in
    let on_core : IsOnView (core_view core) leak d = subst (λ (v : LinearView). IsOnView v leak d) is on_view in
    let own : IsOnView (core_view core) d.leak d = subst (λ (l : List Bool). IsOnView (core_view core) l d) (sym same) on_core in
    record {
      columns = own.columns;
      derivation = own.derivation;
      listing = lists;
      is_attack = (
        length (unfolding_of d.steps d.root),
        (law.row_probes core is_core d.leak own.columns (length (unfolding_of d.steps d.root)) (unfolding_of d.steps d.root)).1 own.attack,
      );
    }

-- an attack that holds on a view holds on its core
pub holds_so : AttacksAreTheViews → (core : Circuit) → IsCore core → (view : LinearView) → view ≡ core_view core → (attack : Attack)
    → length attack.derivation.leak ≡ length view.columns → Holds view attack → IsLeak (products_of view) (set_of attack.derivation.leak)
    → IsConfirmation core attack (answers (codes "attack holds\n") Done)
holds_so law core is_core view is attack columns does leaks =
    let here : length attack.derivation.leak ≡ length (core_columns core) = subst (λ (v : LinearView). length attack.derivation.leak ≡ length v.columns) is columns in
    let there : IsLeak (products_of (core_view core)) (set_of attack.derivation.leak) =
    subst (λ (v : LinearView). IsLeak (products_of v) (set_of attack.derivation.leak)) is leaks in
    holds (subst (λ (v : LinearView). Holds v attack) is does) ((law.row_leak core is_core attack.derivation.leak here).1 there)

-- and one that does not, does not
pub fails_so : (core : Circuit) (view : LinearView) → view ≡ core_view core → (attack : Attack) → ¬ Holds view attack
    → IsConfirmation core attack (answers (codes "no attack\n") Found)
fails_so core view is attack not = fails (subst (λ (v : LinearView). ¬ Holds v attack) is not)

-- the verdict on a core with an attack
pub found_verdict : (core : Circuit) (text : List ℕ) → IsTextOfAttack core text → IsVerdict core (answers text Found)
found_verdict core text is =
    subst (λ (t : List ℕ). IsVerdict core (answers t Found)) (sym is.text_is) (found is.attack is.of_leak)

-- what holds where there is none, and where there is one
pub none_case : (T : Type 0) (o : Option T) (P : Type 0) (Q : T → Type 0) → o ≡ None → MatchOption o P Q → P
none_case T o P Q is = subst (λ (k : Option T). MatchOption k P Q → P) (sym is) (λ h. h)

pub some_case : (T : Type 0) (o : Option T) (P : Type 0) (Q : T → Type 0) (x : T) → o ≡ Some x → MatchOption o P Q → Q x
some_case T o P Q x is = subst (λ (k : Option T). MatchOption k P Q → Q x) (sym is) (λ h. h)

-- an order that stops at its attack stops
pub verify_stops : (contents later : Contents) → later ≡ contents → (file attack : List ℕ) (basis : Basis) (core : Circuit) (view : LinearView) → view ≡ core_view core
    → FileIs contents file (bases.Holds basis core) → (e : Refusal) → Stops (AfterFile later attack Values (SpellsAttack view) (IsFaultyAttack view) Nowhere) e
    → Stops (VerifyEnds contents file attack basis) e
verify_stops contents later same file attack basis core view is source e stops =
    let P : Contents → Type 0 = λ k. Stops (AfterFile k attack Values (SpellsAttack view) (IsFaultyAttack view) Nowhere) e in
    let Q : LinearView → Type 0 = λ v. Stops (AfterFile contents attack Values (SpellsAttack v) (IsFaultyAttack v) Nowhere) e in
    stops_later contents file Source (bases.Holds basis) (bases.IsFaulty basis) _ core e source
    (stops_anyway contents attack Values (SpellsAttack (core_view core)) (IsFaultyAttack (core_view core)) (IsConfirmation core) e (subst Q is (subst P same stops)))

-- how an order may end that reads its attack
pub verify_may : (contents later : Contents) → later ≡ contents → (file attack : List ℕ) (basis : Basis) (core : Circuit) (view : LinearView) → view ≡ core_view core
    → FileIs contents file (bases.Holds basis core) → (a : Attack) → FileIs later attack (SpellsAttack view a) → (end : Outcome) → IsConfirmation core a end
    → VerifyEnds contents file attack basis end
verify_may contents later same file attack basis core view is source a spelled end confirms =
    let P : Contents → Type 0 = λ k. FileIs k attack (SpellsAttack view a) in
    let Q : LinearView → Type 0 = λ v. FileIs contents attack (SpellsAttack v a) in
    goes_on_with contents file Source (bases.Holds basis) (bases.IsFaulty basis) _ core end source
    (goes_on_with contents attack Values (SpellsAttack (core_view core)) (IsFaultyAttack (core_view core)) (IsConfirmation core) a end (subst Q is (subst P same spelled)) confirms)
