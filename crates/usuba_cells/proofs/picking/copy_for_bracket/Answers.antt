use Rattle.std.proofs.Common.{◌^◌, arith, le-mul_of_pos_right}
use Rattle.usuba_cells.specs.State.Brackets.{picked_of}
use Rattle.usuba_cells.proofs.PartLemmas.{picks-inside-more}
use Rattle.usuba_cells.proofs.picking.copy_for_bracket.Goals as goal

pub parts_of-requires : goal.parts_of-requires
parts_of-requires c =
    picks-inside-more c.args.size (2 ^ 32) (picked_of c.args.bracket)
    (omega (arith, c.requires.few, le-mul_of_pos_right c.args.size c.requires.stride)) c.requires.inside
