-- What the code that checks expressions stands on: nodes that pass, expressions and arguments among them, and the
-- tables of a model's scope.
use Rattle.std.specs.Prelude.{◌≡◌, true, not, List, [], ℕ, ◌+◌, ◌-◌, ◌≤◌, ◌<◌, eqb, get_or}
use Rattle.std.proofs.Math.Option.{Option, none, some}
use Rattle.functions.specs.declared.Rule.{Rule}
use Rattle.functions.specs.Lists.{unless}
use Rattle.ast.specs.Tree.{Args, Stmt, Unknown}
use Rattle.ast.specs.Nodes.{kind_at, name_at, op_at, size_at, span_at, is_expr, args_fit, args_before, nodes_fit}
use Rattle.ast.specs.NodesIn.{nodes_in, NodesLie}
use Rattle.ast.specs.Records.{right_top, span_of_stmt, unknown_of, stmt_of}
use Rattle.ast.specs.Opens.{Open, contents_in, file_in}
use Rattle.ast.specs.declared.sections.Nodes.{Nodes}
use Rattle.ast.specs.declared.sections.Sections.{Sections}
use Rattle.definitions.specs.Numbers.{most_names, most_models, call_kind, name_not_found, submodel_missing}
use Rattle.definitions.specs.Variables.{Error, error}
use Rattle.definitions.specs.Check.{Scope, lookup, dep_names, dependent_errors, variable_errors, call_errors}
use Rattle.definitions.specs.Flatten.{model_at, scope_of, stmt_errors, errors_of}
use Rattle.builder.specs.Tables.{Classes, Rules, VarsOf}
use Rattle.builder.specs.declared.names.Class.{Class}
use Rattle.builder.specs.declared.errors.check.Run.{Run}

-- ---- arguments

module _ (ns : List (List ℕ)) where
  -- The arguments of a run.
  abbrev pub args_in : Run → Args
  args_in r = args_before ns r.end r.args r.total

  -- A run without its last argument, whose node is the last before the end.
  abbrev pub before_last : Run → Run
  before_last r =
      record {
        end = r.end - size_at ns (r.end - 1);
        args = r.args - 1;
        total = r.total - size_at ns (r.end - 1);
      }

  -- The run of the arguments of the call at node i.
  abbrev pub run_of : ℕ → Run
  run_of i = record { end = i; args = op_at ns i; total = size_at ns i - 1 }

-- ---- errors

-- The names, plus 1, of the kept dependents of a variable, if there is one.
unfoldable pub kept_names : Scope → Option ℕ → List ℕ
kept_names c none = []
kept_names c (some v) = dep_names c v

-- Errors 9 and 10 of the arguments of a call by the name n.
abbrev pub dependents_at : Scope → ℕ → Args → List Error
dependents_at c n a = dependent_errors (kept_names c (lookup c n)) a

module _ (c : Scope) (ns : List (List ℕ)) (i : ℕ) where
  -- The errors of the call at node i itself, and those of one that is no built-in's.
  abbrev pub call_at : List Error
  call_at = call_errors c (name_at ns i) (args_in ns (run_of ns i)) (span_at ns i)

  abbrev pub variable_at : List Error
  variable_at = variable_errors c (name_at ns i) (args_in ns (run_of ns i)) (span_at ns i) (lookup c (name_at ns i))

-- The error of the name at node i that has no entry in a table of variables.
unfoldable pub name_absent : List (List ℕ) → List ℕ → ℕ → List Error
name_absent ns vs i = unless (not (eqb (get_or vs (name_at ns i) 0) 0)) (error name_not_found (span_at ns i) (name_at ns i + 1))

-- ---- nodes

-- Nodes of the bytes b that lie within them and pass, where there are `names` names.
pub record Formed (names : ℕ) (b : List ℕ) (ns : Nodes) : Type 0 where
  pub lie : NodesLie ns b
  pub named : names ≤ most_names
  pub pass : nodes_fit names (nodes_in ns b) ns.count ≡ true

-- Node i of them is an expression; a call; a run of arguments stands among them.
pub record ExprIn (names : ℕ) (b : List ℕ) (ns : Nodes) (i : ℕ) : Type 0 where
  pub formed : Formed names b ns
  pub within : i < ns.count
  pub expr : is_expr (nodes_in ns b) i ≡ true

pub record CallIn (names : ℕ) (b : List ℕ) (ns : Nodes) (i : ℕ) : Type 0 where
  pub formed : Formed names b ns
  pub within : i < ns.count
  pub call : kind_at (nodes_in ns b) i ≡ call_kind

pub record ArgsIn (names : ℕ) (b : List ℕ) (ns : Nodes) (r : Run) : Type 0 where
  pub formed : Formed names b ns
  pub within : r.end ≤ ns.count
  pub fits : args_fit (nodes_in ns b) r.end r.args r.total ≡ true

-- ---- tables

-- The scope of model m.
abbrev pub scope_in : List ℕ → Sections → ℕ → Scope
scope_in f s m = scope_of (file_in f s) (model_at (file_in f s) m)

-- The variables of model m, by name.
pub record Scoped (f : List ℕ) (s : Sections) (m : ℕ) (vs : List ℕ) : Type 0 where
  pub opened : Open f s
  pub model : m < s.counts.models
  pub vars : VarsOf (scope_in f s m) vs

-- What an expression of model m is checked against: the classes and rules of the names, and the model's variables.
pub record Against (f : List ℕ) (s : Sections) (m : ℕ) (cs : List Class) (rs : List Rule) (vs : List ℕ) : Type 0 where
  pub scoped : Scoped f s m vs
  pub classes : Classes (scope_in f s m).names cs
  pub rules : Rules (scope_in f s m).names rs

-- Statement q, with a depth of k models below it.
pub record StmtAt (s : Sections) (q k : ℕ) : Type 0 where
  pub within : q < s.counts.stmts
  pub deep : k ≤ most_models

-- Unknown u, and the classes of the names.
pub record UnknownIn (f : List ℕ) (s : Sections) (cs : List Class) (u : ℕ) : Type 0 where
  pub opened : Open f s
  pub classes : Classes (file_in f s).names cs
  pub within : u < s.counts.unknowns

module _ (f : List ℕ) (s : Sections) where
  -- Unknown u and statement q of the file.
  abbrev pub unknown_in : ℕ → Unknown
  unknown_in u = unknown_of (contents_in f s).deps (get_or (contents_in f s).unknowns u [])

  abbrev pub stmt_in : ℕ → Stmt
  stmt_in q = stmt_of (contents_in f s).nodes (get_or (contents_in f s).stmts q [])

  -- The errors of statement q: to a depth of k models, in a scope; of one that is no submodel statement, of model m;
  -- and the error of a submodel statement whose model is missing.
  abbrev pub errors_at : ℕ → Scope → ℕ → List Error
  errors_at k c q = stmt_errors (file_in f s) (λ j. errors_of (file_in f s) k j) c (stmt_in q)

  abbrev pub own_errors : ℕ → ℕ → List Error
  own_errors m q = stmt_errors (file_in f s) (λ j. []) (scope_in f s m) (stmt_in q)

  abbrev pub missing_at : ℕ → Error
  missing_at q =
      let r = get_or (contents_in f s).stmts q [] in
      error submodel_missing (span_of_stmt r) (name_at (contents_in f s).nodes (right_top r) + 1)
