-- What is opened at the goals of each module: the definitions that its functions compute.
use Rattle.ast.specs.Nodes.{is_sign, is_op, is_expr, one_child, two_children, name_node, number_node, binary_node, unary_node, call_node, argument_node, kind_fits, node_fits}
use Rattle.ast.specs.Kinds.{ReadAs}
use Rattle.ast.specs.Words.{blank, in_order, span_from, float_from}
use Rattle.ast.specs.Records.{top_fits, equation_fits, rate_fits, stmt_kind_fits, stmt_fits, submodel_fits, domain_fits, unknown_fits, domain_of}
use Rattle.ast.specs.Opens.{counts_in, starts_of, refusal_number, opened_as, Placed}
use Rattle.ast.specs.File.{counts_of, within_mosts, names_at, nodes_at, deps_at, unknowns_at, stmts_at, models_at, open_contents, open_file, open_trailer}
use Rattle.ast.specs.Numbers.{stated, stated_in, RangeSmall}

unfoldable pub of_nodes : Unit {0}
unfolding ReadAs is_sign is_op is_expr blank one_child two_children name_node number_node binary_node unary_node call_node argument_node kind_fits node_fits in_order span_from
of_nodes = tt

unfoldable pub of_stmts : Unit {0}
unfolding ReadAs top_fits equation_fits rate_fits stmt_kind_fits stmt_fits submodel_fits in_order span_from
of_stmts = tt

unfoldable pub of_open : Unit {0}
unfolding counts_in counts_of within_mosts starts_of names_at nodes_at deps_at unknowns_at stmts_at models_at refusal_number opened_as Placed open_contents open_file open_trailer
of_open = tt

unfoldable pub of_unknowns : Unit {0}
unfolding ReadAs blank domain_fits unknown_fits in_order span_from
of_unknowns = tt

unfoldable pub of_domains : Unit {0}
unfolding ReadAs float_from domain_of stated stated_in RangeSmall
of_domains = tt
