use Rattle.keeping.proofs.Begun.{laid_nodes, laid_rows, laid_variables, laid_deps, laid_errors, records_are}
use Rattle.keeping.proofs.kept.records_fit.Goals as goal

pub invariant_of-nodes : goal.invariant_of-nodes
invariant_of-nodes c = record { lie = laid_nodes c.requires.0 c.requires.1 }

pub invariant_of-stmts : goal.invariant_of-stmts
invariant_of-stmts c = record { lie = (laid_rows c.requires.0 c.requires.1).1.lie }

pub invariant_of-vars : goal.invariant_of-vars
invariant_of-vars c = record { lie = (laid_variables c.requires.0 c.requires.1).0.lie }

pub invariant_of-errors : goal.invariant_of-errors
invariant_of-errors c = record { lie = (laid_errors c.requires.0 c.requires.1).lie }

pub rows_fit-requires : goal.rows_fit-requires
rows_fit-requires c = (laid_rows c.requires.0 c.requires.1).1.wide

pub variables_fit-requires : goal.variables_fit-requires
variables_fit-requires c = let v = laid_variables c.requires.0 c.requires.1 in (v.0.wide, v.1)

pub names_differ-requires : goal.names_differ-requires
names_differ-requires c = (laid_variables c.requires.0 c.requires.1).0.wide

pub deps_fit-requires : goal.deps_fit-requires
deps_fit-requires c = laid_deps c.requires.0 c.requires.1

pub errors_fit-requires : goal.errors_fit-requires
errors_fit-requires c = (laid_errors c.requires.0 c.requires.1).wide

pub returns : goal.returns
returns c = rw (
  c.nodes_fit.ensures,
  c.rows_fit.ensures,
  c.variables_fit.ensures,
  c.names_differ.ensures,
  c.deps_fit.ensures,
  c.errors_fit.ensures,
)
    (records_are _ _ c.args.s _ c.requires.1)
