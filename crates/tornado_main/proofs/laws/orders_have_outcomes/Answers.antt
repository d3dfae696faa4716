use Rattle.tornado_main.proofs.HavingLemmas.{orders_have_outcomes}
use Rattle.tornado_main.proofs.laws.orders_have_outcomes.Goals as goal

pub returns : goal.returns
returns c = orders_have_outcomes (record {
  cores = c.file_has_core_or_fault.ensures;
  attacks = c.file_has_attack_or_fault.ensures;
  inputs = c.file_has_inputs_or_fault.ensures;
  c_files = c.file_is_c_or_fault.ensures;
  runs = c.file_has_run_data_or_fault.ensures;
  takes_and_gives = c.judged_takes_and_gives.ensures;
  meanings_agree = c.meanings_agree.ensures;
  source_cores = c.source_cores_are_cores.ensures;
  views = c.attacks_are_the_views.ensures;
  left_columns = c.left_columns_do_not_leak.ensures;
  derivations = c.derivations_hold.ensures;
  unfoldings = c.unfolding_is_attack.ensures;
  attack_is_read = c.read_is_written.ensures.only_written;
  refreshed = c.attacks_on_refreshed_cores.ensures;
  size = c.refreshed_core_size.ensures;
  forms = c.masked_forms_exist.ensures;
  generated = c.generated_is_clean.ensures;
})
