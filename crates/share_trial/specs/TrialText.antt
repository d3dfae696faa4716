-- How a trial is written.
use Rattle.std.specs.Prelude.{ℕ, suc, List, [], ◌∷◌, ◌++◌, codes, decimal, flat_map}
use Rattle.share_trial.specs.declared.trials.Trial.{Trial}
use Rattle.share_trial.specs.declared.trials.TrialOutput.{TrialOutput}

-- a share after a blank
abbrev pub share_text : ℕ → List ℕ
share_text share = codes " " ++ decimal share

-- the line of output k: its word and its shares
abbrev pub output_text : ℕ → TrialOutput → List ℕ
output_text k output =
    codes "o" ++ decimal k ++ codes " " ++ decimal output.value ++ codes " ="
    ++ flat_map share_text output.shares ++ codes "\n"

-- one line for each output, where the first is output k
abbrev pub outputs_text : ℕ → List TrialOutput → List ℕ
outputs_text k [] = []
outputs_text k (output ∷ outputs) = output_text k output ++ outputs_text (suc k) outputs

-- the first two lines: how many shares, and how many random words
abbrev pub head_text : ℕ → ℕ → List ℕ
head_text shares words = codes "shares " ++ decimal shares ++ codes "\nwords " ++ decimal words ++ codes "\n"

-- the text of a trial: lines that end in LF, words parted by one blank, numbers in decimal
abbrev pub trial_text : Trial → List ℕ
trial_text trial = head_text trial.shares trial.words ++ outputs_text 0 trial.outputs
