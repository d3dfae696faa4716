use Rattle.plan_bounds.proofs.FileRooms as rooms
use Rattle.plan_bounds.proofs.laws.plans_have_room.Goals as goal

pub returns : goal.returns
returns c = rooms.plans_have_room
