-- A root model's answer as its code lays it out: the sizes are those of its sections, and the nodes, the statements' records and the dependents stand in their places.
use mathlib.Core.Path.{◌≡◌, sym, ap, ◌∙◌}
use mathlib.Core.List.{List}
use Prim.Native.Nat.{ℕ, ◌+◌, ◌*◌, ◌≤◌, ◌<◌}
use native.Mathlib.Omega.{arith}
use lib.ListN.{length}
use Rattle.functions.specs.Lists.{each, sum_of}
use Rattle.ast.specs.Tree.{File, flat_size}
use Rattle.ast.specs.Bytes.{put}
use Rattle.ast.specs.Encode.{flat_nodes, encode}
use Rattle.ast.specs.Opens.{Open, file_in}
use Rattle.ast.specs.declared.sections.Sections.{Sections}
use Rattle.definitions.specs.Flatten.{model_at, scope_of}
use Rattle.builder.specs.VariableTables.{roster_in, Numbers}
use Rattle.builder.specs.Unfated.{unfated}
use Rattle.area.specs.Sections.{stmts_at, vars_at, deps_at, part}
use Rattle.builder.specs.Bounding.{Floating}
use Rattle.builder.specs.Root.{flats_of, scope_at, time_at, ExtentOf, VarsRoom, VarsLaid, SizesOf, Known, Rooted, Unfated}
use Rattle.area.specs.declared.sections.Sizes.{Sizes}
use Rattle.builder.proofs.laws.Putting.{length_flats}
use Rattle.area.proofs.Parts.{part_put, part_before}
use Rattle.builder.proofs.laws.OpenRecords.{model_is}
use Rattle.definitions.proofs.Counts.{length_variables}
use Rattle.ast.specs.declared.numbers.Bounds as floats
use Rattle.definitions.proofs.Mosts.{few_flats}
use Rattle.area.proofs.Puts.{length_put}
use Rattle.builder.proofs.laws.Recording.{length_unfated}
use Rattle.builder.proofs.laws.VarsLaid.{deps_few, laid_long, laid_before, laid_records, laid_deps}

-- ---- a model that is not too big

module _ (F : File) (m : ℕ) where
  module _ (n : ℕ) (b₀ b₁ : List ℕ) (en : n ≡ sum_of flat_size (flats_of F m)) (hn : n ≤ 1024) (hq : length (flats_of F m) ≤ 256) (l : length b₀ ≡ 55384)
      (e : b₁ ≡ put (put b₀ 40 (encode (each flat_nodes (flats_of F m)))) (40 + 32 * n) (encode (unfated 0 (flats_of F m)))) where
    nodes_length : length (put b₀ 40 (encode (each flat_nodes (flats_of F m)))) ≡ 55384
    nodes_length = length_put b₀ (encode (each flat_nodes (flats_of F m))) 40 (omega (arith, length_flats (flats_of F m))) ∙ l

    -- nodes and statements leave the area's length
    flats_length : length b₁ ≡ 55384
    flats_length =
        ap length e
        ∙ length_put (put b₀ 40 (encode (each flat_nodes (flats_of F m)))) (encode (unfated 0 (flats_of F m))) (40 + 32 * n) (omega (arith, nodes_length, length_unfated 0 (flats_of F m)))
        ∙ nodes_length

    -- they stand there
    flats_nodes : part 40 (32 * n) b₁ ≡ encode (each flat_nodes (flats_of F m))
    flats_nodes =
        ap (part 40 (32 * n)) e
        ∙ part_before 40 (32 * n) (40 + 32 * n) (put b₀ 40 (encode (each flat_nodes (flats_of F m)))) (encode (unfated 0 (flats_of F m))) (omega arith) (omega (arith, nodes_length))
        ∙ part_put 40 (32 * n) b₀ (encode (each flat_nodes (flats_of F m))) (omega arith) (omega (arith, length_flats (flats_of F m)))

    flats_stmts : part (40 + 32 * n) (32 * length (flats_of F m)) b₁ ≡ encode (unfated 0 (flats_of F m))
    flats_stmts =
        ap (part (40 + 32 * n) (32 * length (flats_of F m))) e
        ∙ part_put (40 + 32 * n) (32 * length (flats_of F m)) (put b₀ 40 (encode (each flat_nodes (flats_of F m)))) (encode (unfated 0 (flats_of F m))) (omega (arith, nodes_length)) (length_unfated 0 (flats_of F m))

-- ---- nodes, statements, variables and dependents laid into an area

-- the sizes
sizes_known : (F : File) (m i q n : ℕ) (b : List ℕ) (z : Sizes) (b' : List ℕ) → ExtentOf F m i q n → length (scope_at F m).vars ≤ 129 → length (each (λ x. x.deps) (scope_at F m).vars) ≤ 1024
    → VarsLaid F m n q b z b' → SizesOf F m z
sizes_known F m i q n b z b' x hv hd v =
    let (hi, hn, hq) = few_flats F m (flats_of F m) x.small in
    record {
      small = record { nodes = omega (arith, v.nodes, x.nodes); stmts = omega (arith, v.stmts, x.stmts); vars = omega (arith, v.vars); deps = omega (arith, v.deps) };
      nodes = v.nodes ∙ x.nodes;
      stmts = v.stmts ∙ x.stmts;
      vars = v.vars;
      deps = v.deps;
    }

-- everything but what statements and variables come to
laid_out : (F : File) (m n q : ℕ) (z : Sizes) (b₀ b₁ b₂ : List ℕ) → SizesOf F m z → length b₀ ≡ 55384
    → b₁ ≡ put (put b₀ 40 (encode (each flat_nodes (flats_of F m)))) (40 + 32 * z.nodes) (encode (unfated 0 (flats_of F m)))
    → VarsLaid F m n q b₁ z b₂
    → Unfated F m z b₂
unfolding deps_at vars_at stmts_at
laid_out F m n q z b₀ b₁ b₂ o l e₁ v =
    let hn : z.nodes ≤ 1024 = o.small.nodes in
    let hq : length (flats_of F m) ≤ 256 = omega (arith, o.stmts, o.small.stmts) in
    let room : deps_at z + 4 * z.deps ≤ length b₁ = omega (arith, flats_length F m z.nodes b₀ b₁ o.nodes hn hq l e₁, o.small.nodes, o.small.stmts, o.small.vars, o.small.deps) in
    record {
      long = laid_long F m n q b₁ z b₂ v room ∙ flats_length F m z.nodes b₀ b₁ o.nodes hn hq l e₁;
      nodes = laid_before F m n q b₁ z b₂ v room 40 (32 * z.nodes) (omega arith) ∙ flats_nodes F m z.nodes b₀ b₁ o.nodes hn hq l e₁;
      stmts =
          laid_before F m n q b₁ z b₂ v room (stmts_at z) (32 * z.stmts) (omega arith)
          ∙ ap (λ (k : ℕ). part (stmts_at z) (32 * k) b₁) o.stmts
          ∙ flats_stmts F m z.nodes b₀ b₁ o.nodes hn hq l e₁;
      vars = laid_records F m n q b₁ z b₂ v room;
      deps = laid_deps F m n q b₁ z b₂ v room;
    }

-- there is room for nodes and statements
pub flats_needs : {F : File} {m i q n : ℕ} → ExtentOf F m i q n → (sum_of flat_size (flats_of F m) ≤ 1024) × (length (flats_of F m) ≤ 256)
flats_needs {F} {m} x =
    let (hi, hn, hq) = few_flats F m (flats_of F m) x.small in
    (omega arith, hq)

-- ---- what is known of a root model

module _ {f : List ℕ} {s : Sections} {m : ℕ} (o : Open f s) (l : m < s.counts.models) where
  -- few enough variables
  vars_few : length (scope_at (file_in f s) m).vars ≤ 129
  unfolding scope_of
  vars_few =
      let us = (model_at (file_in f s) m).unknowns in
      let k = model_is f s o m l in
      omega (arith, length_variables (file_in f s).names us, k.unknowns_long, k.unknowns_within, o.laid.within.unknowns)

  module _ {i q n : ℕ} (x : ExtentOf (file_in f s) m i q n)
      (b₀ : List ℕ) {b₁ : List ℕ} (l₀ : length b₀ ≡ 55384) (e₁ : b₁ ≡ put (put b₀ 40 (encode (each flat_nodes (flats_of (file_in f s) m)))) (40 + 32 * n) (encode (unfated 0 (flats_of (file_in f s) m))))
    where
      -- the area has its length
      flats_laid : length b₁ ≡ 55384
      flats_laid =
          let (hi, hn, hq) = few_flats (file_in f s) m (flats_of (file_in f s) m) x.small in
          flats_length (file_in f s) m n b₀ b₁ x.nodes (omega (arith, x.nodes)) hq l₀ e₁

      pub vars_needs : VarsRoom n q b₁
      vars_needs =
          let (hi, hn, hq) = few_flats (file_in f s) m (flats_of (file_in f s) m) x.small in
          record { nodes = omega (arith, x.nodes); stmts = omega (arith, x.stmts); long = flats_laid }

      module _ {numbers b₂ : List ℕ} {z : Sizes} (v : VarsLaid (file_in f s) m n q b₁ z b₂) (w : Numbers (roster_in f s m) numbers) (long : length numbers ≡ 256) where
        sizes : SizesOf (file_in f s) m z
        sizes = sizes_known (file_in f s) m i q n b₁ z b₂ x vars_few (deps_few f s o m) v

        pub model_known : Known f s m numbers z
        model_known = record { is_open = o; model = l; numbered = w; numbers_long = long; sizes = sizes }

        pub all_laid : Unfated (file_in f s) m z b₂
        all_laid = laid_out (file_in f s) m n q z b₀ b₁ b₂ sizes l₀ (rw (sym v.nodes) at e₁) v

        pub model_rooted : {time : floats.Bounds} → Floating (time_at (file_in f s) m) time → Rooted f s numbers m i z time
        model_rooted g =
            let (hi, hn, hq) = few_flats (file_in f s) m (flats_of (file_in f s) m) x.small in
            record { known = model_known; instances = x.instances; few = omega (arith, hi, x.instances); timed = g }
