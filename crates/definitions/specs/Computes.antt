-- Every definition of this crate, to compute with.
use Rattle.definitions.specs.Names.{reserved, built_ins, text_of, spells, is_time, is_reserved, is_built_in, is_non_negative, is_real, allows_count, time_name}
use Rattle.definitions.specs.Variables.{error, infinity, minus_infinity, from_zero, unbounded, domain_bounds, last_bounds, time_bounds, bounds_of, domain_errors, unknown_errors, declare, variable_names, number_of, kept_deps, variable, variables_of, last_time, time_index, is_state, no_variable, at, time_dependent}
use Rattle.definitions.specs.Check.{lookup, dep_names, count_fits, has_keyword, keyword_errors, dependent_errors, variable_errors, call_errors, expr_errors, args_errors, flat_errors}
use Rattle.definitions.specs.Flatten.{unknown_name, replaced_name, replacements, order_errors, args_beyond, no_model, model_named, model_at, scope_of, sub_flats, stmt_flats, sub_errors, stmt_errors, stmt_models, submodels, flatten, errors_of, instances, reached, any_reached, cyclic, lists_itself, self_listed, sub_beyond, stmt_beyond, overfull}
use Rattle.definitions.specs.Roles.{same_float, arg_at, number_in, start_of, takes_rate, rate_role, rate_errors, at_lower, start_role, start_errors, role_of, role_errors, short_for, short_call, short_left, too_short}
use Rattle.definitions.specs.Allocate.{is_rate_of, is_free, rate_fate, fates_of, numbers_from, lacking, left_count, paired_states, count_errors, is_held_by, is_initial_of, held_by, conditions, expr_span, right_span, no_flat, right_span_at, held_errors, state_errors, starting_errors}
use Rattle.definitions.specs.Answer.{fate_number, fate_variable, bounds_words, flat_words, flat_records, error_words, variable_words, variable_records, node_count, deps_of, header, area_of, area_bytes, answer_bytes}
use Rattle.definitions.specs.Area.{nodes_from, stmts_from, vars_from, deps_from, errors_from, area_end, sections_in, header_in, read_area}
use Rattle.definitions.specs.Layout.{counts_fit, nodes_at, stmts_at, vars_at, deps_at, errors_at, end_at, records_at, zeros, sections_fit, fate_fits, row_fits, rows_fit, variable_fits, variables_fit, named_apart, names_differ, error_fits, records_fit, headed_fits, keeps_layout}
use Rattle.definitions.specs.Build.{answer_from, too_big, any_short, allocated, answer_of_model, root_of, answer_of_root, answer_in_file, answer, fitted, written, build, result_number, result_used, told, result_area}
use Rattle.definitions.specs.Models.{is_bytes, matches, meets}

unfoldable pub definitions·computes : Unit {0}
unfolding reserved built_ins text_of spells is_time is_reserved is_built_in is_non_negative is_real allows_count time_name error infinity minus_infinity from_zero unbounded domain_bounds last_bounds time_bounds bounds_of domain_errors unknown_errors declare variable_names number_of kept_deps variable variables_of last_time time_index is_state no_variable at time_dependent lookup dep_names count_fits has_keyword keyword_errors dependent_errors variable_errors call_errors expr_errors args_errors flat_errors unknown_name replaced_name replacements order_errors args_beyond no_model model_named model_at scope_of sub_flats stmt_flats sub_errors stmt_errors stmt_models submodels flatten errors_of instances reached any_reached cyclic lists_itself self_listed sub_beyond stmt_beyond overfull same_float arg_at number_in start_of takes_rate rate_role rate_errors at_lower start_role start_errors role_of role_errors short_for short_call short_left too_short is_rate_of is_free rate_fate fates_of numbers_from lacking left_count paired_states count_errors is_held_by is_initial_of held_by conditions expr_span right_span no_flat right_span_at held_errors state_errors starting_errors fate_number fate_variable bounds_words flat_words flat_records error_words variable_words variable_records node_count deps_of header area_of area_bytes answer_bytes nodes_from stmts_from vars_from deps_from errors_from area_end sections_in header_in read_area counts_fit nodes_at stmts_at vars_at deps_at errors_at end_at records_at zeros sections_fit fate_fits row_fits rows_fit variable_fits variables_fit named_apart names_differ error_fits records_fit headed_fits keeps_layout answer_from too_big any_short allocated answer_of_model root_of answer_of_root answer_in_file answer fitted written build result_number result_used told result_area is_bytes matches meets
definitions·computes = tt
