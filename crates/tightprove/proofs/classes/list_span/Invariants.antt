use Rattle.std.proofs.Common.{◌≡◌, ◌≤◌, ℕ, [], length, true, false, get_or, take}
use Rattle.std.specs.List.{Contains}
use Rattle.tightprove.specs.Classes.{AreListed}
use Rattle.tightprove.proofs.classes.list_span.Given as goal

abbrev pub invariant-loop-lead : goal.invariant-loop-lead
invariant-loop-lead l = record {
  listed : AreListed (length l.initial.listed) l.listed l.near.items;
  kept : (i : ℕ) → get_or l.initial.listed i false ≡ true → get_or l.listed i false ≡ true;
  lanes : (c i : ℕ) → Contains (take l.lead-index l.lead-items) c → l.low ≤ c → Contains (get_or l.by_lead.items c []) i → get_or l.listed i false ≡ true;
}
