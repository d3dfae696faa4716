-- The parts of a message.
use Rattle.std.proofs.Common.{◌≡◌, ℕ, List, ◌++◌, codes, sym, ◌∙◌, ap, append_assoc}
use Rattle.tornado_main.specs.Message.{complaint_text, spot_text, file_message}
use Rattle.tornado_main.specs.declared.message.Fault.{Fault}

six_parts : (a b c d e f : List ℕ) → a ++ (b ++ (c ++ (d ++ e ++ f))) ≡ a ++ b ++ c ++ d ++ e ++ f
six_parts a b c d e f =
    sym (append_assoc a b (c ++ (d ++ e ++ f))) ∙ sym (append_assoc (a ++ b) c (d ++ e ++ f))
    ∙ sym (append_assoc (a ++ b ++ c) (d ++ e) f) ∙ ap (λ (l : List ℕ). l ++ f) (sym (append_assoc (a ++ b ++ c) d e))

-- the line for a fault of a file is its beginning, the file's name, the spot, and what is wrong
pub message_parts : (name : List ℕ) (fault : Fault)
    → codes "tornado: " ++ (name ++ (spot_text fault.at ++ (codes ": " ++ complaint_text fault.what ++ codes "\n"))) ≡ file_message name fault
message_parts name fault = six_parts (codes "tornado: ") name (spot_text fault.at) (codes ": ") (complaint_text fault.what) (codes "\n")
