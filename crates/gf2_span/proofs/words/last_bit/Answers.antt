use Rattle.std.proofs.Common.{◌*◌, ◌/◌, ◌%◌, ◌-◌, ◌^◌, ◌<◌, ◌≡◌, ℕ, get_or, bit_and, refl, ap, arith}
use Rattle.std.proofs.lemmas.Nat.{one_shl}
use Rattle.gf2_span.proofs.Kernels.{last_of_part, none_in_part, last_wider}
use Rattle.gf2_span.proofs.words.last_bit.Goals as goal

-- the mask of the bits below the end
mask : (word rest : ℕ) → rest < 64 → bit_and word (1 * 2 ^ rest % 2 ^ 64 - 1) ≡ bit_and word (2 ^ rest - 1)
mask word rest h = ap (λ m. bit_and word (m - 1)) (one_shl rest 64 h)

pub returns-then-rest-eq0 : goal.returns-then-rest-eq0
returns-then-rest-eq0 c =
    last_wider c.args.words.now (64 * (c.args.end / 64)) c.args.end c.last_in_words.result (omega arith) (λ d low high. absurd (omega arith)) c.last_in_words.ensures

pub returns-then-word-ne0 : goal.returns-then-word-ne0
returns-then-word-ne0 c =
    let word : ℕ = get_or c.args.words.now (c.args.end / 64) 0 in
    last_of_part c.args.words.now (c.args.end / 64) c.args.end c.ilog2.result (bit_and (get_or c.args.words.now (c.args.end / 64) 0) (1 * 2 ^ (c.args.end % 64) % 2 ^ 64 - 1)) refl
    (mask (get_or c.args.words.now (c.args.end / 64) 0) (c.args.end % 64) (omega arith)) c.ilog2.ensures.power_le c.ilog2.ensures.next_power_gt

pub returns : goal.returns
returns c =
    let zero : bit_and (get_or c.args.words.now (c.args.end / 64) 0) (1 * 2 ^ (c.args.end % 64) % 2 ^ 64 - 1) ≡ 0 = omega arith in
    let part : bit_and (get_or c.args.words.now (c.args.end / 64) 0) (2 ^ (c.args.end % 64) - 1) ≡ 0 =
    rw (← mask (get_or c.args.words.now (c.args.end / 64) 0) (c.args.end % 64) (omega arith)) zero in
    last_wider c.args.words.now (64 * (c.args.end / 64)) c.args.end c.last_in_words-2.result (omega arith)
    (none_in_part c.args.words.now (c.args.end / 64) c.args.end refl part) c.last_in_words-2.ensures
