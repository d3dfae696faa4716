-- What core text holds, from what its reader answers.
use Rattle.std.proofs.Common.{◌≡◌, List, ℕ, Result, Ok, Err, sym, subst}
use Rattle.usuba0.specs.Circuit.{Circuit, IsSmall, HasFewColumns}
use Rattle.core_text.specs.Reading.{core_of as core_of_text, IsOrMemory as IsTextOrMemory}
use Rattle.core_text.specs.declared.fault.CoreFault.{CoreFault}
use Rattle.core_text.specs.declared.fault.CoreFault.TheVariants as core_fault
use Rattle.usuba0.specs.Circuit.{IsCore}
use Rattle.usuba0.specs.CoreText.{core_text}
use Rattle.tornado_main.specs.CoreText.{IsCoreText}

-- the reader of core text answers the fault that it has
pub text_syntax_is : (answer wanted : Result Circuit CoreFault) (line : ℕ) → answer ≡ Err (core_fault.Syntax line) → IsTextOrMemory answer wanted
    → wanted ≡ Err (core_fault.Syntax line)
text_syntax_is answer wanted line is h = sym (subst (λ (a : Result Circuit CoreFault). IsTextOrMemory a wanted) is h)

pub text_range_is : (answer wanted : Result Circuit CoreFault) (line : ℕ) → answer ≡ Err (core_fault.OutOfRange line) → IsTextOrMemory answer wanted
    → wanted ≡ Err (core_fault.OutOfRange line)
text_range_is answer wanted line is h = sym (subst (λ (a : Result Circuit CoreFault). IsTextOrMemory a wanted) is h)

pub text_limit_is : (answer wanted : Result Circuit CoreFault) → answer ≡ Err core_fault.Limit → IsTextOrMemory answer wanted → wanted ≡ Err core_fault.Limit
text_limit_is answer wanted is h = sym (subst (λ (a : Result Circuit CoreFault). IsTextOrMemory a wanted) is h)

-- and the core that it is the text of
abbrev pub ReadIsWritten : Type 0
ReadIsWritten = (bytes : List ℕ) (core : Circuit) → core_of_text bytes ≡ Ok core → IsCore core × IsSmall core × HasFewColumns core × (bytes ≡ core_text core)

pub text_of_read : ReadIsWritten → (bytes : List ℕ) (core : Circuit) → core_of_text bytes ≡ Ok core → IsCoreText core bytes
text_of_read law bytes core read =
    let told = law bytes core read in
    record { is_core = told.0; small = told.1; few_columns = told.2; text = told.3 }

pub text_of_core : ReadIsWritten → (bytes : List ℕ) (answer : Result Circuit CoreFault) (core : Circuit) → answer ≡ Ok core
    → IsTextOrMemory answer (core_of_text bytes) → IsCoreText core bytes
text_of_core law bytes answer core is h =
    text_of_read law bytes core (sym (subst (λ (a : Result Circuit CoreFault). IsTextOrMemory a (core_of_text bytes)) is h))
