-- The tables that judging accepts.
use Rattle.std.proofs.Common.{◌≡◌, ◌^◌, Bool, true, false, not, eqb, length, eqb-true, ltb-false, true≢false, refl}
use Rattle.std.specs.Prelude.{nat_lt, nat_le, ◌||◌, if◌then◌else◌}
use Rattle.std.specs.List.{list_any}
use Rattle.std.proofs.lemmas.Bool.{or_parts, not-false}
use Rattle.table_anf.specs.TableLaws.{AcceptedTablesFit}

neither : (a b : Bool) → (if a then true else b) ≡ false → (a ≡ false) × (b ≡ false)
neither true b e = absurd (true≢false e)
neither false b e = (refl, e)

pub accepted_tables_fit : AcceptedTablesFit
accepted_tables_fit n m entries good =
    let wrong = not (eqb (length entries) (2 ^ n)) || list_any (nat_le (2 ^ m)) entries in
    let parts = neither (nat_lt 8 n || nat_lt 64 m) wrong good in
    let sizes = or_parts (nat_lt 8 n) (nat_lt 64 m) parts.0 in
    let entry = or_parts (not (eqb (length entries) (2 ^ n))) (list_any (nat_le (2 ^ m)) entries) parts.1 in
    (ltb-false 8 n sizes.0, ltb-false 64 m sizes.1, eqb-true (length entries) (2 ^ n) (not-false (eqb (length entries) (2 ^ n)) entry.0))
