-- How many errors the models of an open file can have: the count is a word.
use mathlib.Core.Path.{◌≡◌}
use Prim.Native.Nat.{ℕ, ◌*◌, ◌≤◌}
use mathlib.Core.List.{List}
use native.Mathlib.Omega.{arith}
use lib.ListN.{length}
use Rattle.functions.specs.Lists.{sum_of}
use Rattle.ast.specs.File.{contents_of}
use Rattle.ast.specs.Write.{stmt_size}
use Rattle.ast.specs.Opens.{Open, contents_in, file_in}
use Rattle.ast.specs.declared.sections.Sections.{Sections}
use Rattle.ast.proofs.Files.{parts}
use Rattle.definitions.specs.Flatten.{model_at, errors_of, instances}
use Rattle.definitions.proofs.Opened.{few_unknowns}
use Rattle.builder.proofs.laws.Open.{unknown_records_lem}
use Rattle.definitions.proofs.ErrorCount.{length_errors, stmts_total, few_nodes}

module _ (f : List ℕ) (s : Sections) (o : Open f s) where
  open_nodes : (m : ℕ) → sum_of stmt_size (model_at (file_in f s) m).stmts ≤ 1024
  unfolding contents_of
  open_nodes m =
      let x = contents_in f s in
      let p = parts x o.fits in
      omega (arith, few_nodes x m, stmts_total s.counts.names s.counts.nodes x.nodes p.nodes 0 x.stmts p.stmts, o.laid.within.nodes)

  few_open : (k m : ℕ) → length (errors_of (file_in f s) k m) ≤ 2304 * instances (file_in f s) k m
  few_open k m =
      length_errors (file_in f s) 2304 (λ j. omega (arith, few_unknowns (contents_in f s) j, unknown_records_lem f s, o.laid.within.unknowns, open_nodes j)) k m

  pub errors_few : (i m : ℕ) → i ≡ instances (file_in f s) (length (file_in f s).models) m → i ≤ 1024 → length (errors_of (file_in f s) (length (file_in f s).models) m) ≤ 2359296
  errors_few i m e h = omega (arith, few_open (length (file_in f s).models) m, e, h)
