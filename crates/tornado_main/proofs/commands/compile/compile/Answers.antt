use Rattle.std.proofs.Common.{[], refl}
use Rattle.c_text.specs.CText.{c_text}
use Rattle.tornado_main.specs.commands.Compile.{masked}
use Rattle.tornado_main.specs.declared.status.Status.TheVariants.{Done}
use Rattle.tornado_main.proofs.EndingLemmas.{stopped, refused_after, answered, unsent}
use Rattle.tornado_main.proofs.StepLemmas.{stops_anyway, stops_later, goes_on_with}
use Rattle.tornado_main.proofs.CompileLemmas.{compile_refusal}
use Rattle.tornado_main.proofs.commands.compile.compile.Goals as goal

pub returns-in_err-core : goal.returns-in_err-core
returns-in_err-core g c =
    stopped [] c.in_err-core.field-0.0 c.from_residual.ensures.1 refl c.in_err-core.ensures.fetched (stops_anyway _ _ _ _ _ _ _ c.in_err-core.ensures.refused)

pub returns-in_err-c_file : goal.returns-in_err-c_file
returns-in_err-c_file g c =
    refused_after c.in_err-c_file.field-0.0 c.from_residual-in_err-c_file.ensures.1
    (compile_refusal c.args.file.now c.args.word c.in_ok-core.core c.in_err-c_file.field-0.0 c.in_err-c_file.ensures.refused)
    c.in_ok-core.ensures.fetched
    (stops_later _ _ _ _ _ _ c.in_ok-core.core c.in_err-c_file.field-0.0 c.in_ok-core.ensures.core c.in_err-c_file.ensures.refused)

pub returns-in_err-send : goal.returns-in_err-send
returns-in_err-send g c =
    unsent (c_text c.in_ok-c_file.c_file) Done c.in_err-send.field-0.0 c.from_residual-in_err-send.ensures.1 c.in_ok-core.ensures.fetched
    (goes_on_with _ _ _ _ _ _ c.in_ok-core.core _ c.in_ok-core.ensures.core (masked c.in_ok-c_file.c_file c.in_ok-c_file.ensures.masked)) c.in_err-send.ensures

pub returns : goal.returns
returns g c =
    answered (c_text c.in_ok-c_file.c_file) Done c.in_ok-core.ensures.fetched
    (goes_on_with _ _ _ _ _ _ c.in_ok-core.core _ c.in_ok-core.ensures.core (masked c.in_ok-c_file.c_file c.in_ok-c_file.ensures.masked)) c.in_ok-send.ensures
