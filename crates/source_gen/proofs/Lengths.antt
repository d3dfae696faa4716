-- A generated source is no longer than a file may be.
use Rattle.std.proofs.Common.{◌≡◌, ℕ, zero, suc, ◌+◌, ◌-◌, ◌*◌, ◌%◌, ◌<◌, ◌≤◌, ◌^◌, Bool, true, false, List, [], ◌++◌, length, flat_map, ap, ◌∙◌, arith, codes, decimal, Option, Some}
use Rattle.std.specs.Prelude.{nat_lt, if◌then◌else◌}
use Rattle.std.specs.List.{range_with_len}
use Rattle.std.proofs.lemmas.Fmt.{length-decimal-le}
use Rattle.std.proofs.lemmas.List.{length-append}
use Rattle.std.proofs.lemmas.Option.{same_Some}
use Rattle.source_gen.specs.Source.{operand_text, operands_of, line_text, generated_line, head_text, generated_source}
use Rattle.tor_edge.specs.Written.{appended}
use Rattle.source_gen.specs.declared.operands.Operands.{Operands}

decimal_short : (n : ℕ) → n < 2 ^ 64 → length (decimal n) ≤ 20
decimal_short n fits = length-decimal-le 20 n (omega arith) (omega (arith, fits)) fits

operand_short : (j : ℕ) → j < 2 ^ 64 → length (operand_text j) ≤ 23
operand_short j fits = by_test (nat_lt j 8)
  where
    by_test : (b : Bool) → length (if b then codes "x[" ++ decimal j ++ codes "]" else codes "z[" ++ decimal (j - 8)
        ++ codes "]") ≤ 23
    by_test true =
        let inside = decimal_short j fits in
        let whole = length-append (codes "x[" ++ decimal j) (codes "]") in
        omega (arith, inside, whole)
    by_test false =
        let inside = decimal_short (j - 8) (omega (arith, fits)) in
        let whole = length-append (codes "z[" ++ decimal (j - 8)) (codes "]") in
        omega (arith, inside, whole)

-- nine texts of these lengths
nine_short : (a b c d e f g h i : List ℕ) (most : ℕ)
    → length a + (length b + (length c + (length d + (length e + (length f + (length g + (length h + length i)))))))
    ≤ most
    → length (a ++ b ++ c ++ d ++ e ++ f ++ g ++ h ++ i) ≤ most
nine_short a b c d e f g h i most within = simp length-append (omega (arith, within))

line_short : (k : ℕ) (operands : Operands) → k < 2 ^ 64 → operands.first < 2 ^ 64 → operands.second < 2 ^ 64
    → operands.third < 2 ^ 64
    → length (line_text k operands) ≤ 120
line_short k operands fits first second third =
    let number = decimal_short k fits in
    let a = operand_short operands.first first in
    let b = operand_short operands.second second in
    let c = operand_short operands.third third in
    nine_short (codes "  z[") (decimal k) (codes "] = (") (operand_text operands.first) (codes " ^ ")
    (operand_text operands.second) (codes ") & ")
    (operand_text operands.third) (codes ";\n") 120 (omega (arith, number, a, b, c))

remainder_fits : (n k : ℕ) → k < 4096 → n % (8 + k) < 2 ^ 64
remainder_fits n k few = let less : n % (8 + k) < 8 + k = omega arith in omega (arith, less, few)

lines_short : (seed n a : ℕ) → a + n ≤ 4096 → length (flat_map (generated_line seed) (range_with_len a n)) ≤ 120 * n
lines_short seed zero a within = omega arith
lines_short seed (suc n) a within =
    let few : a < 4096 = omega (arith, within) in
    let here = line_short a (operands_of seed a) (omega (arith, few)) (remainder_fits _ a few)
    (remainder_fits _ a few) (remainder_fits _ a few) in
    let later = lines_short seed n (a + 1) (omega (arith, within)) in
    let whole = length-append (generated_line seed a) (flat_map (generated_line seed) (range_with_len (a + 1) n)) in
    omega (arith, here, later, whole)

pub source_short : (seed size : ℕ) → size ≤ 4096 → length (generated_source seed size) ≤ 1048576
source_short seed size few =
    let number = decimal_short size (omega (arith, few)) in
    let lines = lines_short seed size 0 (omega (arith, few)) in
    let head = length-append (codes "node g (x:b8) returns (z:b" ++ decimal size) (codes ")\nlet\n") in
    let front = length-append (head_text size) (flat_map (generated_line seed) (range_with_len 0 size)) in
    let whole = length-append (head_text size ++ flat_map (generated_line seed) (range_with_len 0 size))
    (codes "tel\n") in
    omega (arith, number, lines, head, front, whole, few)

-- and so are bytes that are one
pub bytes_short : (seed size : ℕ) (bytes : List ℕ) → size ≤ 4096 → bytes ≡ generated_source seed size
    → length bytes ≤ 1048576
bytes_short seed size bytes few same = let short = source_short seed size few in let e
    = ap length same in omega (arith, short, e)

-- what a draft holds that was empty before a text was written
pub drafted : (before : Option (List ℕ)) (bytes text : List ℕ) → before ≡ Some [] → Some bytes ≡ appended before text
    → bytes ≡ text
drafted before bytes text empty held = same_Some bytes text
    (held ∙ ap (λ (told : Option (List ℕ)). appended told text) empty)
