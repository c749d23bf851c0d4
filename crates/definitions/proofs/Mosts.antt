-- Every accepted answer is within the mosts.
use mathlib.Core.Path.{◌≡◌}
use Prim.Native.Nat.{ℕ, ◌^◌, ◌≤◌, ◌<◌}
use native.Mathlib.Omega.{arith}
use mathlib.Core.Bool.{false}
use mathlib.Core.List.{List, map}
use lib.ListN.{length, length-append}
use borrow.Author.Tests.{ltb-false}
use Rattle.functions.specs.Lists.{sum_of}
use Rattle.ast.specs.Tree.{File, flat_size, Flat}
use Rattle.ast.specs.Words.{word_of}
use Rattle.ast.specs.File.{open_file, opened}
use Rattle.definitions.specs.Flatten.{model_at, scope_of, instances}
use Rattle.definitions.specs.Roles.{role_of}
use Rattle.definitions.specs.Allocate.{fates_of, lacking, left_count, paired_states}
use Rattle.definitions.specs.Answer.{Answer, node_count, deps_of, header, answer_bytes}
use Rattle.definitions.specs.Area.{nodes_from, stmts_from, vars_from, deps_from, errors_from, area_end, WithinMosts}
use Rattle.definitions.specs.Build.{accepted, answer_from, too_big, answer}
use Rattle.definitions.proofs.Lengths.{length_answer}
use Rattle.definitions.proofs.Counts.{length_variables, length_kept, or_false}
use Rattle.definitions.proofs.ErrorCount.{few_errors, length_roles, length_counts, length_starting}
use Rattle.definitions.proofs.Opened.{model_unknowns, model_listed}
use Rattle.definitions.proofs.Accepted.{scope, time, flats, answered, answered_of}
use Rattle.definitions.proofs.Area.{each_fated}

-- 40 bytes of header, 32 a node, 32 a statement, 48 a variable, 4 a dependent, 16 a listed error
few_bytes : (a : Answer) → length a.fates ≡ length a.stmts → node_count a ≤ 1024 → length a.stmts ≤ 256 → length a.vars ≤ 129 → length (deps_of a) ≤ 1024 → length (answer_bytes a) ≤ 55384
unfolding area_end errors_from deps_from vars_from stmts_from nodes_from header word_of
few_bytes a e n q v d = omega (arith, length_answer a e)

-- instances, nodes and statements of a model that is not too big
pub few_flats : (f : File) (m : ℕ) (qs : List Flat) → too_big f m qs ≡ false → (instances f (length f.models) m ≤ 1024) × (sum_of flat_size qs ≤ 1024) × (length qs ≤ 256)
unfolding too_big
few_flats f m qs h =
    let (h₁, q) = or_false _ _ h in
    let (i, n) = or_false _ _ h₁ in
    (ltb-false _ _ i, ltb-false _ _ n, ltb-false _ _ q)

module _ (file : List ℕ) (f : File) (m : ℕ) (ho : open_file file ≡ opened f) where
  error_count : instances f (length f.models) m ≤ 1024 → length (flats f m) ≤ 256 → length (answered f m).vars ≤ 129 → length (answered f m).errors < 2 ^ 32
  unfolding answer_from
  error_count i q v =
      let z = (model_at f m).span in
      let vs = (scope f m).vars in
      let rs = map (role_of (scope f m) (time f m)) (flats f m) in
      let fs = fates_of (paired_states vs rs) rs in
      simp length-append
      (omega (
        arith,
        few_errors file f ho (length f.models) m,
        length_roles (scope f m) (time f m) (flats f m),
        length_counts z (left_count rs) (length (lacking vs rs)),
        length_starting z vs (flats f m) fs,
      ))

  within : too_big f m (flats f m) ≡ false → WithinMosts (answered f m)
  unfolding answer_from node_count deps_of scope_of
  within h =
      let (i, n, q) = few_flats f m (flats f m) h in
      let v : length (answered f m).vars ≤ 129 = omega (arith, length_variables f.names (model_at f m).unknowns, model_unknowns file f ho m) in
      let d : length (deps_of (answered f m)) ≤ 1024 = omega (arith, length_kept f.names (model_at f m).unknowns, model_listed file f ho m) in
      record { nodes = n; stmts = q; vars = v; deps = d; instances = i; errors = error_count i q v; bytes = few_bytes (answered f m) (each_fated f m) n q v d }

pub within_mosts_lem : (file root : List ℕ) (a : Answer) → answer file root ≡ accepted a → WithinMosts a
within_mosts_lem file root a h =
    let x = answered_of file root a h in
    rw x.is_clean.is_answer at (within file x.tree x.model x.is_open x.is_clean.within)
