use Rattle.std.proofs.Common.{inl, inr, map, string_bytes}
use Rattle.clap.specs.Simple.{app_of}
use Rattle.clap.specs.Matches.{found_of}
use Rattle.clap.specs.Walk.{rows_of}
use Rattle.clap.specs.Values.{kind_of}
use Rattle.tornado_words.proofs.MatchLemmas.{is_free_command, is_simple_command, refused, taken}
use Rattle.tornado_words.proofs.parsing.matches_on.Goals as goal

pub returns-in-Ok : goal.returns-in-Ok
returns-in-Ok c =
    let app = app_of c.in_ok-command.command in
    let is = c.in_ok-command.ensures in
    taken c.args.word app (map string_bytes c.args.words.now) (rows_of (found_of c.in-Ok.matches)) is
    (c.in-Ok.ensures.kinds (is_free_command c.args.word app is))
    (c.in-Ok.ensures.matches (is_simple_command c.args.word app is)).0

pub returns-in-Err : goal.returns-in-Err
returns-in-Err c = λ usage.
    let app = app_of c.in_ok-command.command in
    let is = c.in_ok-command.ensures in
    elim (c.in-Err.ensures.kinds (is_free_command c.args.word app is)) [
      | inl memory ↦ absurd (c.fault_of.ensures usage memory)
      | inr among ↦ refused c.args.word app (map string_bytes c.args.words.now) (kind_of c.in-Err.error) is among
    ]
