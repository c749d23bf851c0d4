-- What the last steps of an answer need and give: fates, what the variables hold, errors and header, by what is known of the root model.
use mathlib.Core.Path.{◌≡◌, refl, sym, ap, ◌∙◌}
use mathlib.Core.List.{List}
use Prim.Native.Nat.{ℕ, ◌+◌, ◌*◌, ◌^◌, min, ◌≤◌, ◌<◌}
use native.Mathlib.Omega.{arith}
use lib.ListN.{length, take, get_or, length-append}
use Rattle.ast.specs.Numbers.{number_of}
use Rattle.ast.specs.Words.{bytes_of}
use Rattle.ast.specs.Bytes.{put}
use Rattle.ast.specs.Encode.{encode}
use Rattle.ast.specs.Opens.{file_in}
use Rattle.ast.specs.declared.numbers.Bounds as declared
use Rattle.ast.specs.declared.sections.Sections.{Sections}
use Rattle.definitions.specs.Variables.{Bounds, from_zero, last_bounds}
use Rattle.definitions.specs.Flatten.{model_at}
use Rattle.definitions.specs.Allocate.{lacking, left_count}
use Rattle.definitions.specs.Answer.{variable_records, answer_bytes, node_count, deps_of}
use Rattle.definitions.specs.Build.{answer_from}
use Rattle.area.specs.Sections.{Small, stmts_at, vars_at, errors_at, area_stmts, area_vars, column}
use Rattle.area.specs.Listing.{Lists}
use Rattle.area.specs.declared.sections.Sizes.{Sizes}
use Rattle.builder.specs.Bounding.{floats, Floating}
use Rattle.builder.specs.Allocating.{names_in, Flattened, Numbered}
use Rattle.builder.specs.VarRecords.{unheld_records, held_from, NothingHeld, Headed, head_words}
use Rattle.builder.specs.Root.{flats_of, scope_at, time_at, roles_at, fates_at, answer_at, Known, Rooted, Unfated, Fated, Held, Erring, roles_by, lacking_by, fated_by, errors_by}
use Rattle.builder.proofs.laws.VarAnswers.{head_is}
use Rattle.builder.proofs.laws.VarColumns.{unheld_columns, held_columns, unheld_held, unheld_initial, Columns}
use Rattle.builder.proofs.laws.FlatsBack.{section_read, unfated_flattened, fated_flattened}
use Rattle.builder.proofs.laws.ErrorsOpen.{errors_few}
use Rattle.builder.proofs.laws.RootShort.{read, numbered, vars_room, some_var, first_bounds}
use Rattle.builder.proofs.laws.RootTies.{left_tie, states_tie, fated_tie, held_tie, righted, errors_tie}
use Rattle.builder.proofs.laws.RootWritten.{fates_written, held_written, length_copied, vars_copied, answer_written, room}
use Rattle.definitions.proofs.ErrorCount.{length_roles, length_counts, length_starting}

-- time's lower bound in floats
lower_float : (b : Bounds) (x : declared.Bounds) → Floating b x → x.lower ≡ number_of b.lower
unfolding floats
lower_float b x h = ap (λ (y : declared.Bounds). y.lower) h.same

module _ {f : List ℕ} {s : Sections} {numbers : List ℕ} {m i : ℕ} {z : Sizes} {time : declared.Bounds} (t : Rooted f s numbers m i z time) where
  k : Known f s m numbers z
  k = t.known

  lower : time.lower ≡ number_of (time_at (file_in f s) m).lower
  lower = lower_float (time_at (file_in f s) m) time t.timed

  -- the variables' records, before and after it is known what they hold
  unheld : Columns (scope_at (file_in f s) m).vars (unheld_records (scope_at (file_in f s) m).vars)
  unheld = unheld_columns (scope_at (file_in f s) m).vars

  held : Columns (scope_at (file_in f s) m).vars (variable_records (answer_at (file_in f s) m) 0 0 (scope_at (file_in f s) m).vars)
  unfolding answer_from
  held = held_columns (answer_at (file_in f s) m) (scope_at (file_in f s) m).vars refl

  -- ---- fates

  pub allocate_needs : {b : List ℕ} → Unfated (file_in f s) m z b → ((names : ℕ) × Flattened names b z) × Numbered b z numbers
  allocate_needs {b} u = ((s.counts.names, unfated_flattened f s m z _ b k.is_open k.sizes u), numbered k u unheld)

  module _ {b b₁ : List ℕ} (u : Unfated (file_in f s) m z b) {left states : ℕ}
      (e : (left ≡ left_count (roles_by b z numbers time.lower)) × (states ≡ length (lacking_by b z numbers time.lower)) × (b₁ ≡ put b (stmts_at z) (encode (fated_by b z numbers time.lower)))) where
    pub left_is : left ≡ left_count (roles_at (file_in f s) m)
    left_is = e.0 ∙ left_tie k lower u

    pub states_are : states ≡ length (lacking (scope_at (file_in f s) m).vars (roles_at (file_in f s) m))
    states_are = e.1 ∙ states_tie k lower u

    pub fates_are : Fated (file_in f s) m z b₁
    fates_are =
        fates_written (file_in f s) m z k.sizes b b₁ u
        (e.2 ∙ ap (λ (rs : List (List ℕ)). put b (stmts_at z) (encode rs)) (fated_tie k lower u))

  -- ---- what the variables hold

  pub held_needs : {b : List ℕ} → Fated (file_in f s) m z b → NothingHeld z b
  held_needs {b} u =
      let vs = (scope_at (file_in f s) m).vars in
      let e = read k u unheld in
      record {
        small = k.sizes.small;
        long = vars_room k u unheld;
        held = λ v l. ap (λ (rs : List (List ℕ)). get_or (column 5 rs) v 0) e ∙ unheld_held vs v;
        initial = λ v l. ap (λ (rs : List (List ℕ)). get_or (column 6 rs) v 0) e ∙ unheld_initial vs v;
      }

  pub held_is : {b b₁ : List ℕ} → Fated (file_in f s) m z b → b₁ ≡ put b (vars_at z) (encode (held_from (area_stmts b z) 0 (area_vars b z))) → Held (file_in f s) m z b₁
  held_is {b} {b₁} u e =
      held_written (file_in f s) m z k.sizes b b₁ u
      (e ∙ ap (λ (rs : List (List ℕ)). put b (vars_at z) (encode rs)) (held_tie k u))

  -- ---- errors

  pub errors_needs : {b : List ℕ} → Held (file_in f s) m z b → Erring f s b numbers m z
  errors_needs {b} u = record {
    model = k.model;
    righted = righted k u;
    flattened = (s.counts.names, fated_flattened f s m z _ b k.is_open k.sizes u);
    numbered = numbered k u held;
    few = omega (arith, errors_few f s k.is_open i m t.instances t.few);
  }

  module _ {left states : ℕ} (eq : left ≡ left_count (roles_at (file_in f s) m)) (es : states ≡ length (lacking (scope_at (file_in f s) m).vars (roles_at (file_in f s) m)))
      (d d' : List ℕ) {b : List ℕ} {before r : ℕ} (none : before ≡ 0) (u : Held (file_in f s) m z b) (e : Lists d before (errors_by b z numbers time.lower (file_in f s) m left states) r d') where
    listed : Lists d 0 (answer_at (file_in f s) m).errors r d'
    listed = rw (none, errors_tie k u lower eq es) at e

    errors_count : length (answer_at (file_in f s) m).errors ≤ 2360000
    unfolding answer_from
    errors_count =
        let F = file_in f s in
        let q = flats_of F m in
        let span = (model_at F m).span in
        simp length-append
        (omega (
          arith,
          errors_few f s k.is_open i m t.instances t.few,
          length_roles (scope_at F m) (time_at F m) q,
          length_counts span (left_count (roles_at F m)) (length (lacking (scope_at F m).vars (roles_at F m))),
          length_starting span (scope_at F m).vars q (fates_at F m),
          k.sizes.stmts,
          k.sizes.vars,
          k.sizes.small.stmts,
          k.sizes.small.vars,
        ))

    errors_small : r < 2 ^ 32
    errors_small = omega (arith, listed.0, errors_count)

    -- they are copied to their section
    pub copy_needs : Small z × (errors_at z + 4096 ≤ length b)
    copy_needs = (k.sizes.small, omega (arith, u.long, room (file_in f s) m z k.sizes))

    module _ {b₁ : List ℕ} (c : b₁ ≡ put b (errors_at z) (take (16 * min r 256) d')) where
      -- names stay where they are
      names_stay_lem : get_or (names_in b₁ z) 0 0 ≡ get_or (names_in b z) 0 0
      names_stay_lem = ap (λ (rs : List (List ℕ)). get_or (column 0 rs) 0 0) (section_read 12 z.vars (vars_at z) (48 * z.vars) _ b₁ held.wide (omega (arith, held.many, k.sizes.vars)) (vars_copied (file_in f s) m z k.sizes d d' b b₁ r u listed c ∙ u.vars) ∙ sym (read k u held))

      -- ---- header

      bounds : last_bounds (file_in f s).names (get_or (names_in b₁ z) 0 0) from_zero (model_at (file_in f s) m).unknowns ≡ time_at (file_in f s) m
      bounds = ap (λ (n : ℕ). last_bounds (file_in f s).names n from_zero (model_at (file_in f s) m).unknowns) names_stay_lem ∙ first_bounds k u held

      pub header_needs : Headed f s m i r z time b₁
      header_needs =
          let l = length_copied (file_in f s) m z k.sizes d d' b b₁ r u listed c in
          record {
            opened = k.is_open;
            model = k.model;
            small = k.sizes.small;
            some = some_var k u held;
            long = omega (arith, l, u.long, vars_room k u held);
            counted = errors_small;
            instances = omega (arith, t.few);
            timed = rw bounds t.timed;
          }

      pub finished : {b₂ : List ℕ} {n : ℕ} → b₂ ≡ put b₁ 0 (bytes_of (head_words z r i (last_bounds (file_in f s).names (get_or (names_in b₁ z) 0 0) from_zero (model_at (file_in f s) m).unknowns))) → n ≡ errors_at z + 16 * min r 256
          → (take n b₂ ≡ answer_bytes (answer_at (file_in f s) m)) × (n ≤ 55384)
      unfolding answer_from node_count deps_of
      finished {b₂} {n} e₂ en =
          let h = head_is (answer_at (file_in f s) m) z r i (last_bounds (file_in f s).names (get_or (names_in b₁ z) 0 0) from_zero (model_at (file_in f s) m).unknowns) k.sizes.nodes k.sizes.stmts k.sizes.vars k.sizes.deps (omega (arith, listed.0)) t.instances bounds in
          answer_written (file_in f s) m z k.sizes d d' b b₁ r u listed c b₂ (e₂ ∙ ap (λ (ws : List ℕ). put b₁ 0 (bytes_of ws)) h) n en
