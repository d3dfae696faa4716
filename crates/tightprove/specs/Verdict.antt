-- What an answer of the search says of products.
use Rattle.std.specs.Prelude.{◌≡◌, ℕ, List, length}
use Rattle.span_model.specs.Columns.{set_of}
use Rattle.span_model.specs.Attack.{Product, IsLeak, HasAttack}
use Rattle.tightprove.specs.declared.searches.Verdict.{Verdict}
use Rattle.tightprove.specs.declared.searches.Verdict.TheVariants.{Secure, Leak}

-- products over so many columns have no attack where the verdict is `Secure`, and the row of a `Leak` is the leak of one
abbrev pub IsVerdictOf : ℕ → List (Product ℕ) → Verdict → Type 0
IsVerdictOf columns products Secure = ¬ HasAttack products
IsVerdictOf columns products (Leak leak) = (length leak ≡ columns) × IsLeak products (set_of leak)
