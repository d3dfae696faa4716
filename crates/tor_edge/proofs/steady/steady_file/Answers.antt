use Rattle.std.proofs.Common.{sym, ap, ◌∙◌}
use Rattle.std.specs.Option.{option_copied}
use Rattle.tor_edge.specs.declared.files.TheConstants.{MAX_FILE_BYTES}
use Rattle.tor_edge.proofs.Steadying.{length-file_of}
use Rattle.tor_edge.proofs.steady.steady_file.Goals as goal

pub returns-in-Some-clause-within : goal.returns-in-Some-clause-within
returns-in-Some-clause-within c = length-file_of MAX_FILE_BYTES c.args.held.now c.args.name.now c.in-Some.bytes.now c.requires (sym c.find_file.ensures ∙ ap option_copied c.in-Some.is)
