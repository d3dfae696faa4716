-- Words as a store of elements.
use Rattle.std.specs.Prelude.{ℕ, ◌<◌, ◌^◌}
use Rattle.usuba0.specs.Term.{bits_of_width}
use Rattle.usuba_model.specs.Meaning.{word_operators}
use Rattle.usuba_model.specs.Walk.{most_operations}
use Rattle.usuba_plan.specs.Store.{Store}

-- the words of a program of width w: each has the word bits of w, and is its own handle, so nothing is kept. There is
-- room for as many as a program may have operations.
abbrev pub word_store : ℕ → Store ℕ ℕ
word_store w = record {
  width = w;
  inputs = 0;
  operators = word_operators w (bits_of_width w);
  holds = λ word. word < 2 ^ bits_of_width w;
  meaning = λ word. word;
  room = most_operations;
}
