-- A root model's flattened statements laid into an answer: read at level 0 they are as they stand.
use mathlib.Core.Path.{◌≡◌, sym, ap, ◌∙◌}
use mathlib.Core.List.{List, ◌++◌}
use Prim.Native.Nat.{ℕ, ◌+◌, ◌-◌, ◌*◌, ◌≤◌}
use native.Mathlib.Omega.{arith}
use lib.ListN.{length, take, drop, length-drop}
use Rattle.functions.specs.Lists.{each, sum_of}
use Rattle.ast.specs.Tree.{flat_size}
use Rattle.ast.specs.Bytes.{put}
use Rattle.ast.specs.Encode.{flat_nodes, encode}
use Rattle.ast.specs.Rows.{levels_of}
use Rattle.ast.specs.Opens.{file_in}
use Rattle.ast.specs.declared.sections.Sections.{Sections}
use Rattle.definitions.specs.Flatten.{flatten}
use Rattle.builder.specs.Descent.{flat_at, RowsAt, RowsKept}
use Rattle.builder.specs.Unfated.{unfated, FlatsFit, FlatsPut}
use Rattle.builder.specs.Root.{flats_of}
use Rattle.builder.specs.declared.flattening.statements.Written.{Written}
use Rattle.builder.proofs.laws.Flattening.{map_none}
use Rattle.builder.proofs.laws.Open.{models_long}
use Rattle.builder.proofs.laws.Writing.{fits_same, put_same}
use Rattle.area.proofs.Puts.{lent_all, lent_two}

-- nothing is written yet, and the records begin behind n nodes
abbrev none : ℕ → Written
none n = record { nodes = 0; end = 32 * n }

-- ---- the flattened statements of model m

module _ (f : List ℕ) (s : Sections) (rows : List ℕ) (m : ℕ) where
  flats_root : flat_at f s rows 0 s.counts.models m ≡ flats_of (file_in f s) m
  unfolding levels_of
  flats_root = map_none (flatten (file_in f s) s.counts.models m) ∙ ap (λ (k : ℕ). flatten (file_in f s) k m) (sym (models_long f s))

  -- there is a row for each model, from level 0 on
  pub rows_root : RowsAt f s rows s.counts.models → RowsAt f s rows (0 + s.counts.models)
  rows_root r = record { deep = omega (arith, r.deep); long = omega (arith, r.long); fit = r.fit }

  -- there still is, once others are found
  pub rows_still : (rows' : List ℕ) → RowsAt f s rows s.counts.models → RowsKept f s 0 rows rows' → RowsAt f s rows' s.counts.models
  rows_still rows' r k = record { deep = r.deep; long = omega (arith, r.long, k.0); fit = k.2 }

  -- of an area d, of which the bytes behind the header are lent
  module _ (d : List ℕ) (n : ℕ) (long : length d ≡ 55384) where
    -- there is room for the nodes and the records
    pub flats_room : n ≡ sum_of flat_size (flats_of (file_in f s) m) → sum_of flat_size (flats_of (file_in f s) m) ≤ 1024 → length (flats_of (file_in f s) m) ≤ 256
        → FlatsFit (none n) (flat_at f s rows 0 s.counts.models m) (length (take (length d - 40) (drop 40 d)))
    flats_room e few_nodes few_stmts =
        let l : length (take (length d - 40) (drop 40 d)) ≡ length d - 40 = ap length (lent_all d 40) ∙ length-drop 40 d in
        fits_same (none n) _ (flat_at f s rows 0 s.counts.models m) (flats_of (file_in f s) m) flats_root
        (record { few = omega (arith, few_nodes); nodes = omega (arith, e); records = omega (arith, e, few_nodes, few_stmts, l, long) })

    -- they are laid
    pub flats_laid : (ys : List ℕ) (r : Written) → FlatsPut (none n) (take (length d - 40) (drop 40 d)) (flat_at f s rows 0 s.counts.models m) r ys
        → take 40 d ++ (ys ++ drop (length d - 40) (drop 40 d)) ≡ put (put d 40 (encode (each flat_nodes (flats_of (file_in f s) m)))) (40 + 32 * n) (encode (unfated 0 (flats_of (file_in f s) m)))
    flats_laid ys r h =
        lent_two d (encode (each flat_nodes (flats_of (file_in f s) m))) (encode (unfated 0 (flats_of (file_in f s) m))) ys 40 0 (32 * n) (omega (arith, long))
        (put_same (none n) (take (length d - 40) (drop 40 d)) r ys (flat_at f s rows 0 s.counts.models m) (flats_of (file_in f s) m) flats_root h).bytes
