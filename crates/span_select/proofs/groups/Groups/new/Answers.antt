use Rattle.std.proofs.Common.{refl, arith}
use Rattle.span_select.proofs.TakingIn.{none_kept}
use Rattle.span_select.proofs.groups.Groups.new.Goals as goal

pub invariant_of-result : goal.invariant_of-result
invariant_of-result c = rw (c.new.ensures.items, c.in_ok-new.ensures, c.new-3.ensures.items) (record {
  small = c.requires;
  basis_wide = refl;
  words_wide = λ g k d h. absurd (omega arith);
  kept = λ whole. none_kept c.args.columns;
})
