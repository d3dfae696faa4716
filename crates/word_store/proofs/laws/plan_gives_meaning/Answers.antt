use Rattle.usuba_code.proofs.Running.{code_gives_value}
use Rattle.usuba_model.specs.Meaning.{word_operators}
use Rattle.usuba_plan.proofs.FilePlans.{plan_gives_outcome}
use Rattle.word_store.proofs.laws.plan_gives_meaning.Goals as goal

pub returns : goal.returns
returns c = λ asked_width asked_entry file width entry judged some_width plans planned d at B words many.
    plan_gives_outcome code_gives_value (word_operators width B) asked_width asked_entry file width entry judged some_width plans planned
    d at words many
