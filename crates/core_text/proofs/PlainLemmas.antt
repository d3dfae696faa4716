-- Lines that are read in one pass over their bytes.
use Rattle.std.proofs.Common.{◌≡◌, ℕ, ◌+◌, ◌-◌, ◌^◌, ◌<◌, ◌≤◌, List, [], ◌∷◌, ◌++◌, length, drop, take, length-append, Option, Some, Ok, refl, sym, ap, ◌∙◌, arith, codes}
use Rattle.std.proofs.Math.Pow.{pow_mono}
use Rattle.std.proofs.lemmas.List.{length-drop, take_rest}
use Rattle.core_text.specs.Parts.{kept_gate, answer_kept, TakesEquation}
use Rattle.core_text.specs.Reading.{equation_line}
use Rattle.core_text.proofs.CoreLemmas.{gate_same}
use Rattle.core_text.proofs.FormLemmas.{gate_words, equation_words}
use Rattle.core_text.proofs.RoundLemmas.{equation_plain, equation_back}
use Rattle.core_text.proofs.WordLemmas.{equation_line_is}
use Rattle.text_lines.specs.Lines.{LinesLeft, lines_of}
use Rattle.text_lines.proofs.WrittenLemmas.{lines_of_line}
use Rattle.usuba0.specs.declared.circuit.Gate.{Gate}
use Rattle.usuba0.specs.Circuit.{IsEquation}
use Rattle.usuba0.specs.CoreText.{register_text, equation_text}

-- the lines after an equation
taken : (w n : ℕ) (g : Gate) (bytes rest : List ℕ) (before after : LinesLeft) → w ≤ 64 → n < 2 ^ 32 → IsEquation w n g → lines_of bytes ≡ before.lines
    → bytes ≡ equation_text n g ++ rest → after ≡ record { lines = lines_of rest; number = before.number + 1 } → TakesEquation w n g before after
taken w n g bytes rest before after width small h l e a =
    let words : List (List ℕ) = equation_words n g in
    let line : lines_of (equation_text n g ++ rest) ≡ Some words ∷ lines_of rest =
    ap (λ (t : List ℕ). lines_of (t ++ rest)) (sym (equation_line_is n g))
    ∙ lines_of_line (register_text n) (codes "=" ∷ gate_words g) rest (equation_plain w n g width (pow_mono width) (omega (arith, small)) h) in
    let said : Ok g ≡ answer_kept kept_gate (equation_line w n before.number words) =
    sym
    (ap (answer_kept kept_gate) (equation_back w n before.number g width (omega (arith, small)) h)
    ∙ ap (λ (x : Gate). Ok x) (gate_same w n g (omega (arith, small)) h)) in (
      words,
      sym l ∙ ap lines_of e ∙ line ∙ ap (λ (ls : List (Option (List (List ℕ)))). Some words ∷ ls) (sym (ap (λ (x : LinesLeft). x.lines) a)),
      ap (λ (x : LinesLeft). x.number) a,
      refl,
      said,
    )

some_bytes : (byte : ℕ) (bytes : List ℕ) → 1 ≤ length (byte ∷ bytes)
some_bytes byte bytes = omega arith

-- an equation is not empty, so that the lines after it stand further on
pub further : (n : ℕ) (g : Gate) (bytes : List ℕ) (at end : ℕ) → at < length bytes → end ≤ length bytes → drop at bytes ≡ equation_text n g ++ drop end bytes → at < end
further n g bytes at end within inside text =
    let line : List ℕ = equation_text n g in
    let same : length bytes - at ≡ length line + (length bytes - end) =
    sym (length-drop at bytes) ∙ ap length text ∙ length-append line (drop end bytes) ∙ ap (λ (k : ℕ). length line + k) (length-drop end bytes) in
    let some : 1 ≤ length line = some_bytes 114 _ in
    omega (arith, within, inside, same, some)

-- the equation that stands at a place
pub taken_at : (w n number at end : ℕ) (g : Gate) (bytes : List ℕ) → w ≤ 64 → n < 2 ^ 32 → IsEquation w n g → drop at bytes ≡ equation_text n g ++ drop end bytes
    → TakesEquation w n g (record { lines = lines_of (drop at bytes); number = number }) (record { lines = lines_of (drop end bytes); number = number + 1 })
taken_at w n number at end g bytes width small h text =
    taken w n g (drop at bytes) (drop end bytes) (record { lines = lines_of (drop at bytes); number = number }) (record { lines = lines_of (drop end bytes); number = number + 1 }) width small h
    refl text refl

-- one line fewer is left
pub one_fewer : (w n : ℕ) (g : Gate) (before after : LinesLeft) → TakesEquation w n g before after → length before.lines ≡ length after.lines + 1
one_fewer w n g before after t = ap length t.1 ∙ omega arith

-- the lines at a place, as bytes up to the end
pub lines_at : (number at : ℕ) (bytes : List ℕ) (left : LinesLeft) → left ≡ record { lines = lines_of (take (length bytes - at) (drop at bytes)); number = number }
    → left ≡ record { lines = lines_of (drop at bytes); number = number }
lines_at number at bytes left e = e ∙ ap (λ (rest : List ℕ). record { lines = lines_of rest; number = number }) (take_rest bytes at)
