-- The area of a root model's answer as it is written: fates into the statements' records, what the variables hold, the errors, and last the header.
use mathlib.Core.Path.{◌≡◌, refl, sym, ap, ◌∙◌}
use mathlib.Core.List.{List, map, append_assoc}
use Prim.Native.Nat.{ℕ, ◌+◌, ◌*◌, min, ◌≤◌}
use native.Mathlib.Omega.{arith}
use lib.ListN.{length, take}
use Rattle.ast.specs.Tree.{File}
use Rattle.ast.specs.Words.{bytes_of, word_of}
use Rattle.ast.specs.Bytes.{front, put}
use Rattle.ast.specs.Encode.{encode}
use Rattle.ast.proofs.Fronts.{take_front}
use Rattle.definitions.specs.Answer.{flat_records, variable_records, error_words, header, deps_of, area_of, area_bytes, answer_bytes}
use Rattle.definitions.specs.Build.{answer_from}
use Rattle.area.specs.Sections.{stmts_at, vars_at, deps_at, errors_at, part}
use Rattle.area.specs.Listing.{Lists}
use Rattle.area.specs.declared.sections.Sizes.{Sizes}
use Rattle.builder.specs.Root.{flats_of, scope_at, fates_at, answer_at, SizesOf, Unfated, Fated, Held}
use Rattle.definitions.proofs.Lengths.{Bytes, bytes}
use Rattle.area.proofs.Parts.{part_put, part_before, part_behind, six_parts}
use Rattle.area.proofs.Puts.{length_put}
use Rattle.area.proofs.Listings.{listed_section}
use Rattle.builder.proofs.laws.FlatsBack.{fates_count}

module _ (f : File) (m : ℕ) (z : Sizes) (k : SizesOf f m z) where
  -- ---- lengths of the sections

  answer_fates : length (answer_at f m).fates ≡ length (answer_at f m).stmts
  unfolding answer_from
  answer_fates = fates_count f m

  lengths : Bytes (answer_at f m) answer_fates
  lengths = bytes (answer_at f m) answer_fates

  stmts_long : length (encode (flat_records 0 (flats_of f m) (fates_at f m))) ≡ 32 * z.stmts
  unfolding answer_from
  stmts_long = omega (arith, lengths.stmts, k.stmts)

  vars_long : length (encode (variable_records (answer_at f m) 0 0 (scope_at f m).vars)) ≡ 48 * z.vars
  unfolding answer_from
  vars_long = omega (arith, lengths.vars, k.vars)

  pub room : errors_at z + 4096 ≤ 55384
  unfolding errors_at deps_at vars_at stmts_at
  room = omega (arith, k.small.nodes, k.small.stmts, k.small.vars, k.small.deps)

  -- ---- fates

  pub fates_written : (b b' : List ℕ) → Unfated f m z b → b' ≡ put b (stmts_at z) (encode (flat_records 0 (flats_of f m) (fates_at f m))) → Fated f m z b'
  unfolding errors_at deps_at vars_at stmts_at
  fates_written b b' u e =
      let l = stmts_long in
      record {
        long = ap length e ∙ length_put b (encode (flat_records 0 (flats_of f m) (fates_at f m))) (stmts_at z) (omega (arith, room, u.long, l)) ∙ u.long;
        nodes = ap (part 40 (32 * z.nodes)) e ∙ part_before 40 (32 * z.nodes) (stmts_at z) b _ (omega arith) (omega (arith, room, u.long)) ∙ u.nodes;
        stmts = ap (part (stmts_at z) (32 * z.stmts)) e ∙ part_put (stmts_at z) (32 * z.stmts) b _ (omega (arith, room, u.long)) l;
        vars = ap (part (vars_at z) (48 * z.vars)) e ∙ part_behind (vars_at z) (48 * z.vars) (stmts_at z) b _ (omega (arith, l)) (omega (arith, room, u.long)) ∙ u.vars;
        deps = ap (part (deps_at z) (4 * z.deps)) e ∙ part_behind (deps_at z) (4 * z.deps) (stmts_at z) b _ (omega (arith, l)) (omega (arith, room, u.long)) ∙ u.deps;
      }

  -- ---- what the variables hold

  pub held_written : (b b' : List ℕ) → Fated f m z b → b' ≡ put b (vars_at z) (encode (variable_records (answer_at f m) 0 0 (scope_at f m).vars)) → Held f m z b'
  unfolding errors_at deps_at vars_at stmts_at
  held_written b b' u e =
      let l = vars_long in
      record {
        long = ap length e ∙ length_put b (encode (variable_records (answer_at f m) 0 0 (scope_at f m).vars)) (vars_at z) (omega (arith, room, u.long, l)) ∙ u.long;
        nodes = ap (part 40 (32 * z.nodes)) e ∙ part_before 40 (32 * z.nodes) (vars_at z) b _ (omega arith) (omega (arith, room, u.long)) ∙ u.nodes;
        stmts = ap (part (stmts_at z) (32 * z.stmts)) e ∙ part_before (stmts_at z) (32 * z.stmts) (vars_at z) b _ (omega arith) (omega (arith, room, u.long)) ∙ u.stmts;
        vars = ap (part (vars_at z) (48 * z.vars)) e ∙ part_put (vars_at z) (48 * z.vars) b _ (omega (arith, room, u.long)) l;
        deps = ap (part (deps_at z) (4 * z.deps)) e ∙ part_behind (deps_at z) (4 * z.deps) (vars_at z) b _ (omega (arith, l)) (omega (arith, room, u.long)) ∙ u.deps;
      }

  -- ---- errors and header

  -- the errors listed apart, copied to their section
  module _ (d d' b b₁ : List ℕ) (r : ℕ) (u : Held f m z b) (e₀ : Lists d 0 (answer_at f m).errors r d') (e₁ : b₁ ≡ put b (errors_at z) (take (16 * min r 256) d')) where
    abbrev es : List ℕ
    es = encode (map error_words (take 256 (answer_at f m).errors))

    errors_long : length es ≡ 16 * min r 256
    unfolding header word_of
    errors_long = omega (arith, lengths.errors, e₀.0)

    copied : take (16 * min r 256) d' ≡ es
    copied =
        let l = errors_long in
        ap (take (16 * min r 256)) (e₀.1 ∙ listed_section d (answer_at f m).errors)
        ∙ ap (λ (n : ℕ). take n (front d es)) (sym l)
        ∙ take_front d es

    section : b₁ ≡ put b (errors_at z) es
    section = e₁ ∙ ap (put b (errors_at z)) copied

    fits : errors_at z + 16 * min r 256 ≤ length b
    fits = omega (arith, room, u.long)

    -- the length stays
    pub length_copied : length b₁ ≡ 55384
    length_copied = ap length section ∙ length_put b es (errors_at z) (omega (arith, fits, errors_long)) ∙ u.long

    -- the variables' records stay
    pub vars_copied : part (vars_at z) (48 * z.vars) b₁ ≡ part (vars_at z) (48 * z.vars) b
    unfolding errors_at deps_at
    vars_copied = ap (part (vars_at z) (48 * z.vars)) section ∙ part_before (vars_at z) (48 * z.vars) (errors_at z) b es (omega arith) (omega (arith, fits))

    module _ (b₂ : List ℕ) (e₂ : b₂ ≡ put b₁ 0 (bytes_of (header (answer_at f m)))) where
      -- a part between the header and the errors
      inner : (at n : ℕ) → 40 ≤ at → at + n ≤ errors_at z → part at n b₂ ≡ part at n b
      inner at n h g =
          ap (part at n) e₂
          ∙ part_behind at n 0 b₁ (bytes_of (header (answer_at f m))) (omega (arith, lengths.header)) (omega arith)
          ∙ ap (part at n) section
          ∙ part_before at n (errors_at z) b es g (omega (arith, fits))

      last : part (errors_at z) (16 * min r 256) b₂ ≡ es
      unfolding errors_at deps_at vars_at stmts_at
      last =
          ap (part (errors_at z) (16 * min r 256)) e₂
          ∙ part_behind (errors_at z) (16 * min r 256) 0 b₁ (bytes_of (header (answer_at f m))) (omega (arith, lengths.header)) (omega arith)
          ∙ ap (part (errors_at z) (16 * min r 256)) section
          ∙ part_put (errors_at z) (16 * min r 256) b es (omega (arith, fits)) errors_long

      -- The bytes used are the answer's.
      pub answer_written : (n : ℕ) → n ≡ errors_at z + 16 * min r 256 → (take n b₂ ≡ answer_bytes (answer_at f m)) × (n ≤ 55384)
      unfolding answer_bytes area_bytes area_of answer_from deps_of errors_at deps_at vars_at stmts_at
      answer_written n e =
          let h : part 0 40 b₂ ≡ bytes_of (header (answer_at f m)) = ap (part 0 40) e₂ ∙ part_put 0 40 b₁ (bytes_of (header (answer_at f m))) (omega arith) lengths.header in
          let p = inner 40 (32 * z.nodes) (omega arith) (omega arith) ∙ u.nodes in
          let q = inner (stmts_at z) (32 * z.stmts) (omega arith) (omega arith) ∙ u.stmts in
          let v = inner (vars_at z) (48 * z.vars) (omega arith) (omega arith) ∙ u.vars in
          let d = inner (deps_at z) (4 * z.deps) (omega arith) (omega arith) ∙ u.deps in (
            ap (λ (x : ℕ). take x b₂) e
                ∙ six_parts b₂ _ _ _ _ _ _ 40 (32 * z.nodes) (32 * z.stmts) (48 * z.vars) (4 * z.deps) (16 * min r 256) h p q v d last
                ∙ simp append_assoc refl,
            omega (arith, e, room),
          )
