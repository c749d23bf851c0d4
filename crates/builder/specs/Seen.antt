-- What is seen through the structs that hold it: the nodes that are checked, and the scope that they are checked against; a model's scope and a statement's errors.
use Rattle.std.specs.Prelude.{ℕ, List}
use Rattle.ast.specs.Views.{nodes_seen}
use Rattle.ast.specs.declared.view.View.{View}
use Rattle.definitions.specs.Variables.{Error}
use Rattle.definitions.specs.Check.{Scope}
use Rattle.builder.specs.Checking.{scope_in, errors_at, ExprIn, CallIn, ArgsIn}
use Rattle.builder.specs.declared.errors.check.Run.{Run}
use Rattle.builder.specs.declared.errors.checked.Checked.{Checked}

-- of model m of a file
abbrev pub scope_seen : View → ℕ → Scope
scope_seen v m = scope_in v.bytes.now v.sections m

-- of statement q, to a depth of k models, in a scope
abbrev pub errors_seen : View → ℕ → Scope → ℕ → List Error
errors_seen v k c q = errors_at v.bytes.now v.sections k c q

module _ (c : Checked) where
  abbrev pub nodes_checked : List (List ℕ)
  nodes_checked = nodes_seen c.nodes

  abbrev pub scope_checked : Scope
  scope_checked = scope_seen c.tables.now.names.file c.model

  -- Node i of them is an expression; a call; a run of arguments stands among them.
  abbrev pub ExprOf : ℕ → Type 0
  ExprOf i = ExprIn c.tables.now.names.file.sections.counts.names c.nodes.bytes.now c.nodes.nodes i

  abbrev pub CallOf : ℕ → Type 0
  CallOf i = CallIn c.tables.now.names.file.sections.counts.names c.nodes.bytes.now c.nodes.nodes i

  abbrev pub ArgsOf : Run → Type 0
  ArgsOf r = ArgsIn c.tables.now.names.file.sections.counts.names c.nodes.bytes.now c.nodes.nodes r
