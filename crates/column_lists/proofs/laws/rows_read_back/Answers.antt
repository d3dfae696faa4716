use Rattle.column_lists.proofs.ReadLemmas.{row_back, row_columns, row_plain, spaced_words}
use Rattle.column_lists.proofs.WrittenLemmas.{words_are}
use Rattle.column_lists.proofs.laws.rows_read_back.Goals as goal

pub returns : goal.returns
returns c =
    record {
      text = spaced_words;
      plain = λ view row is_view. row_plain view.columns row is_view.small_names;
      columns = λ view row is_view. row_columns view.columns row is_view.small_names;
      read = λ view row is_view size. row_back view.columns row is_view.names_differ is_view.small_names size;
      written = λ view words row is_view named. words_are view.columns words row is_view.small_names named;
    }
