-- The laws of orders.
use Rattle.std.proofs.Common.{◌≡◌, ◌∙◌, refl, sym, ap, Option, Some, None}
use Rattle.clap.proofs.OnLiterals.{clap_on_literals}
use Rattle.tornado_words.specs.Laws.{OneOrder, FileAlone, OptionAfter, OptionBefore, CoreText, CoreAlone, EmptyName, WordOfCompile, WordOfRepair, WordLeft, NoHelp}

same_value : {X : Type 0} (first second : X) → Some first ≡ Some second → first ≡ second
same_value first second same = ap (λ o. value_or first o) same
  where
    value_or : {X : Type 0} → X → Option X → X
    value_or other None = other
    value_or other (Some x) = x

pub one_order : OneOrder
one_order words first second is too = same_value first second (sym is ∙ too)

pub file_alone : FileAlone
unfolding clap_on_literals
file_alone = refl

pub option_after : OptionAfter
unfolding clap_on_literals
option_after = refl

pub option_before : OptionBefore
unfolding clap_on_literals
option_before = refl

pub core_text : CoreText
unfolding clap_on_literals
core_text = refl

pub core_alone : CoreAlone
unfolding clap_on_literals
core_alone = refl

pub empty_name : EmptyName
unfolding clap_on_literals
empty_name = refl

pub word_of_compile : WordOfCompile
unfolding clap_on_literals
word_of_compile = refl

pub word_of_repair : WordOfRepair
unfolding clap_on_literals
word_of_repair = refl

pub word_left : WordLeft
unfolding clap_on_literals
word_left = refl

pub no_help : NoHelp
unfolding clap_on_literals
no_help = refl
