-- What a closed fact computes with: whoever unfolds `computed` unfolds the pages up to Running. Nothing here is a rule.
use Rattle.rules.specs.Numbers
use Rattle.rules.specs.Words
use Rattle.rules.specs.Syntax
use Rattle.rules.specs.Reading
use Rattle.rules.specs.Form
use Rattle.rules.specs.Ceiling
use Rattle.rules.specs.Lists
use Rattle.rules.specs.Running

unfoldable pub computed : {A : Type 0} → A → A
unfolding Numbers.ends_with Numbers.tenth Numbers.group_of Numbers.with_first Numbers.end_at Numbers.stream_from Numbers.stream_of Numbers.groups_of Numbers.bytes_of_number Numbers.bytes_of Numbers.place_of Words.largest Words.fits_width Words.sum Words.difference Words.product Words.complement_of Words.shifted_left Words.shifted_right Words.cast_to Words.slice_fits Words.slice_width Words.slice_of Words.join_fits Words.joined Words.prefix_matches Words.prefix_fits Words.mask_matches Words.mask_fits Syntax.place_in Reading.and_then Reading.◌>>=◌ Reading.pure Reading.here Reading.number Reading.meaning Reading.looked_up Reading.stands_for Reading.within Reading.between Reading.repeat Reading.list_of Reading.too_deep Reading.version_of Reading.has_parser Reading.parser_tags Reading.bits_of Reading.type_of Reading.or_header Reading.global_type_of Reading.place_tag_of Reading.read_place Reading.to_args Reading.to_stmts Reading.read_expr_as Reading.read_expr Reading.read_target Reading.read_stmt_as Reading.read_stmt Reading.read_header Reading.read_global Reading.read_parameter Reading.read_returns Reading.read_callable Reading.read_numeral Reading.read_key Reading.read_table Reading.read_pair Reading.read_transition_as Reading.read_transition Reading.read_state Reading.read_states Reading.read_after_version Reading.read_program Form.◌>>=◌ Form.named Form.need Form.and_look Form.only_if Form.same_ty Form.fits Form.shape_in Form.global_at Form.callable_below Form.wants_place Form.goes_in Form.callee_may_write Form.comes_back Form.table_gives Form.sees_globals Form.writable_as Form.writable Form.writable_in Form.judge_variable Form.judge_field Form.judge_header Form.bits_in Form.whole_bytes Form.judge_extracted Form.judge_global Form.judge_place Form.judge_header_at Form.width_at Form.need_ty Form.judge_operator Form.types_agree Form.places_agree Form.judge_given Form.function_ty Form.may_call Form.judge_expr Form.judge_returned Form.is_apply Form.is_function Form.is_state Form.may_leave Form.judge_stmt Form.returns_on Form.judge_globals Form.body_of Form.scope_of Form.judge_callable Form.judge_callables Form.apply_scope Form.judge_actions Form.judge_keys Form.keys_are_bits Form.literals_fit Form.is_lpm Form.one_lpm Form.table_gives_all Form.listable Form.judge_listed Form.judge_table Form.judge_tables Form.state_scope Form.later_state Form.judge_later Form.judge_pairs Form.values_fit Form.judge_transition Form.judge_state Form.judge_states Form.judge_program Ceiling.ceiling_expr Ceiling.ceiling_stmt Ceiling.callee_in Ceiling.ceiling_at Ceiling.ceilings_below Ceiling.ceiling_keys Ceiling.largest_of Ceiling.ceiling_table Ceiling.ceiling_transition Ceiling.ceiling_from Ceiling.ceiling_parser Ceiling.ceiling_with Ceiling.ceiling_of Lists.passing Lists.width_of Lists.key_width Lists.action_at Lists.numbered Lists.asked Lists.read_pattern Lists.read_patterns Lists.read_arguments Lists.read_entry Lists.read_entries Lists.read_fields Lists.read_shape Lists.read_cell Lists.read_cells Lists.read_store Lists.is_byte Lists.read_bytes Lists.read_packet Lists.nothing_left Lists.mark_of Lists.slots_of_cell Lists.slots_of Running.more Running.next Running.◌>>=◌ Running.pure Running.nowhere Running.tick Running.or_stuck Running.must Running.gets Running.set_to Running.puts Running.change Running.number_of Running.truth Running.variable_ty Running.field_ty Running.header_only Running.shape_for Running.declared Running.variable_in Running.field_in Running.valid_in Running.held Running.set_variable Running.set_field Running.zeroed Running.make_valid Running.make_invalid Running.with_store Running.with_parameters Running.with_locals Running.with_packet Running.change_store Running.put Running.read_at Running.write_at Running.change_header Running.valid_at Running.bits_below Running.bits_of_bytes Running.number_of_bits Running.fields_from Running.fill_header Running.bytes_in Running.take_header Running.extract_into Running.whole_header Running.extract_at Running.calculate Running.compare Running.shift_by Running.agree Running.arithmetic_on Running.order_on Running.shift_on Running.equality_on Running.not_on Running.complement_on Running.cast_on Running.slice_on Running.concatenation_on Running.choose Running.logic_with Running.a_bool Running.binary_with Running.and_then_run Running.value_of Running.after_call Running.body_ended Running.enter Running.on_store Running.declared_as Running.out_place Running.take_in Running.go_in Running.write_back Running.in_turn Running.come_back Running.after_body Running.run_call Running.run_expr Running.returned_from Running.leave_by Running.run_stmt Running.left Running.leave Running.fresh Running.run_body Running.run_number Running.calls_below Running.pattern_fits Running.patterns_fit Running.arguments_fit Running.arguments_given Running.matches Running.matches_all Running.prefix_of Running.is_ternary Running.any_key Running.longest_wins Running.beats Running.better Running.look_up Running.entries_of Running.worked Running.is_fine Running.entries_fit Running.run_keys Running.run_action Running.run_found Running.run_table Running.selected Running.run_transition Running.run_state Running.run_from Running.run_parser Running.signal_of Running.finish Running.started Running.run_program
computed a = a
