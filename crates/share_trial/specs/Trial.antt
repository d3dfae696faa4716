-- A trial of a core: its masked run on shares and random words that are drawn from a seed, beside its plain run.
use Rattle.std.specs.Prelude.{ℕ, zero, suc, List, [], ◌∷◌, map}
use Rattle.usuba0.specs.Circuit.{Circuit}
use Rattle.usuba0.specs.PlainRun.{plain_run}
use Rattle.usuba0.specs.Term.{bits_of_width}
use Rattle.share_gadgets.specs.MaskedRun.{masked_run, words_drawn}
use Rattle.share_gadgets.specs.Sharing.{sharing_value}
use Rattle.word_draws.specs.Draws.{start, drawn_words, after_words}
use Rattle.share_trial.specs.declared.trials.Trial.{Trial}
use Rattle.share_trial.specs.declared.trials.TrialOutput.{TrialOutput}

-- so many sharings on d shares, drawn one after another: of each, one word of B bits a share, in order
unfoldable pub drawn_sharings : ℕ → ℕ → ℕ → ℕ → List (List ℕ)
drawn_sharings B d state zero = []
drawn_sharings B d state (suc n) = drawn_words B state d ∷ drawn_sharings B d (after_words B state d) n

-- the state after so many
unfoldable pub after_sharings : ℕ → ℕ → ℕ → ℕ → ℕ
after_sharings B d state zero = state
after_sharings B d state (suc n) = after_sharings B d (after_words B state d) n

-- the sharings of a core's inputs on d shares, drawn from a seed
abbrev pub trial_inputs : ℕ → Circuit → ℕ → List (List ℕ)
trial_inputs d core seed = drawn_sharings (bits_of_width core.width) d (start seed) core.inputs

-- the random words of the run, drawn after them
abbrev pub trial_words : ℕ → Circuit → ℕ → List ℕ
trial_words d core seed =
    drawn_words (bits_of_width core.width)
    (after_sharings (bits_of_width core.width) d (start seed) core.inputs) (words_drawn d core)

-- each output: its word, and its shares
abbrev pub outputs_of : List ℕ → List (List ℕ) → List TrialOutput
outputs_of [] sharings = []
outputs_of (value ∷ values) [] = []
outputs_of (value ∷ values) (shares ∷ sharings) =
    record { value = value; shares = shares } ∷ outputs_of values sharings

-- the trial of a core on d shares: of each output the word of the plain run of the inputs' values, and the shares of
-- the masked run of the inputs' sharings
abbrev pub trial_of : ℕ → Circuit → ℕ → Trial
trial_of d core seed =
    let B = bits_of_width core.width in
    let inputs = trial_inputs d core seed in
    record {
      shares = d;
      words = words_drawn d core;
      outputs = outputs_of (plain_run B core (map sharing_value inputs))
          (masked_run B d core inputs (trial_words d core seed));
    }
