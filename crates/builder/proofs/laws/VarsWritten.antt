-- The variables' records and their dependents written one variable after the other.
use mathlib.Core.Path.{◌≡◌, refl, sym, ap, ap₂, ◌∙◌}
use mathlib.Core.List.{List, [], ◌++◌}
use Prim.Native.Nat.{ℕ, ◌+◌, ◌-◌, ◌*◌, ◌≤◌, ◌<◌}
use native.Mathlib.Omega.{arith}
use lib.ListN
use lib.ListN.{length, take, drop, get_or, length-append, length-drop, length-map}
use lib.Seq.{length-take-le, take_all, take_at, drop_at, drop-drop}
use Rattle.functions.specs.Lists.{each}
use Rattle.ast.specs.Words.{words, word_of, section, bytes4, bytes_of}
use Rattle.ast.specs.Bytes.{put}
use Rattle.ast.specs.Encode.{encode}
use Rattle.ast.specs.Opens.{Open, file_in}
use Rattle.ast.specs.declared.sections.Sections.{Sections}
use Rattle.ast.proofs.Encodes.{length_bytes, each_append}
use Rattle.ast.proofs.FromBytes.{words_bytes}
use Rattle.definitions.specs.Variables as variables
use Rattle.definitions.specs.Answer.{bounds_words}
use Rattle.definitions.specs.Variables.{Variable, variable_names, variable, variables_of, kept_deps, no_variable, at}
use Rattle.definitions.specs.Flatten.{scope_of, model_at}
use Rattle.definitions.proofs.ListLaws.{get_d_map}
use Rattle.area.specs.Sections.{Small, vars_at, deps_at, area_vars, column}
use Rattle.area.specs.declared.sections.Sizes.{Sizes}
use Rattle.area.proofs.SectionsKept.{section_kept}
use Rattle.area.proofs.Puts.{put_none, put_again, length_put, drop_behind, put_swap, lent_behind}
use Rattle.builder.specs.VariableTables.{words_from, unknowns_in, roster_in, RoomBehind, PutBehind}
use Rattle.builder.specs.Allocating.{names_in}
use Rattle.builder.specs.VarRecords.{is_time, LeadOf, lead_words, var_bounds, unheld_words, untimed_records}
use Rattle.builder.specs.declared.variables.records.Lead.{Lead}
use Rattle.builder.specs.Root.{scope_at, VarsNamed, VarNext}
use Rattle.builder.proofs.laws.FateRecords.{words_drop, record_placed}
use Rattle.builder.proofs.laws.PutWords.{each_take, each_fits, kept_few}
use Rattle.builder.proofs.laws.RootTables.{model_written}
use Rattle.builder.proofs.laws.VarAnswers.{length_from, records_more, length_first, lead_words_lem, own_bounds_lem}

-- ---- words

-- words put behind the first k from byte p on are read back there
pub words_back : (d d' ws : List ℕ) (p k : ℕ) → p + 4 * k ≤ length d → d' ≡ put d (p + 4 * k) (bytes_of ws) → words_from (drop p d') k (k + length ws) ≡ ws
unfolding words_from put
words_back d d' ws p k h e =
    let n : k + length ws - k ≡ length ws = omega arith in
    let r = drop (p + 4 * k + length (bytes_of ws)) d in
    let b : drop (4 * k) (drop p d') ≡ bytes_of ws ++ r = drop-drop (4 * k) p d' ∙ ap (drop (p + 4 * k)) e ∙ drop_at (take (p + 4 * k) d) (bytes_of ws ++ r) (p + 4 * k) (length-take-le (p + 4 * k) d h) in
    rw n (ap (take (length ws)) (words_drop k (drop p d') ∙ ap words b ∙ words_bytes ws r) ∙ take_at ws (words r) (length ws) refl)

-- ---- a variable's dependents by its name

module _ (f : List ℕ) (s : Sections) (m v : ℕ) (l : v < length (scope_at (file_in f s) m).vars) where
  pub kept_named_lem : kept_deps (roster_in f s m) (unknowns_in f s m) (at (scope_at (file_in f s) m).vars v).name ≡ (at (scope_at (file_in f s) m).vars v).deps
  unfolding roster_in unknowns_in scope_of variables_of at variable
  kept_named_lem =
      let us = (model_at (file_in f s) m).unknowns in
      let ns = variable_names (file_in f s).names us in
      let e = get_d_map (variable (file_in f s).names ns us) ns v 0 no_variable (omega (arith, length-map ns (variable (file_in f s).names ns us))) in
      ap (λ (x : Variable). kept_deps ns us x.name) e ∙ sym (ap (λ (x : Variable). x.deps) e)

-- ---- the next variable

module _ (f : List ℕ) (s : Sections) (m : ℕ) (z : Sizes) (b : List ℕ) (v done : ℕ) (n : VarNext (file_in f s) m z b v done) where
  -- its dependents are those kept of its name
  next_kept : (name : ℕ) → name ≡ (at (scope_at (file_in f s) m).vars v).name → kept_deps (roster_in f s m) (unknowns_in f s m) name ≡ (at (scope_at (file_in f s) m).vars v).deps
  next_kept name e = ap (kept_deps (roster_in f s m) (unknowns_in f s m)) e ∙ kept_named_lem f s m v (omega (arith, n.below, n.vars))

  -- there is room for them
  pub next_room : (name q : ℕ) → name ≡ (at (scope_at (file_in f s) m).vars v).name → q ≡ deps_at z → RoomBehind (kept_deps (roster_in f s m) (unknowns_in f s m) name) done (take (length b - q) (drop q b))
  next_room name q e d =
      let l : length (take (length b - q) (drop q b)) ≡ length b - q = length-take-le (length b - q) (drop q b) (simp length-drop (omega arith)) in
      rw (next_kept name e, l) (omega (arith, n.few, n.long))

  module _ (name q end : ℕ) (ys : List ℕ) (e : name ≡ (at (scope_at (file_in f s) m).vars v).name) (d : q ≡ deps_at z)
      (h : PutBehind (kept_deps (roster_in f s m) (unknowns_in f s m) name) done (take (length b - q) (drop q b)) end ys) where
    -- they are put behind those there are
    pub next_end : end ≡ done + length (at (scope_at (file_in f s) m).vars v).deps
    next_end = h.0 ∙ ap (λ (ws : List ℕ). done + length ws) (next_kept name e)

    -- the area with them
    abbrev b₁ : List ℕ
    b₁ = take q b ++ (ys ++ drop (length b - q) (drop q b))

    pub next_put : b₁ ≡ put b (deps_at z + 4 * done) (bytes_of (at (scope_at (file_in f s) m).vars v).deps)
    next_put =
        lent_behind b (bytes_of (kept_deps (roster_in f s m) (unknowns_in f s m) name)) ys q (4 * done) h.1
        ∙ ap₂ (λ (k : ℕ) (ws : List ℕ). put b (k + 4 * done) (bytes_of ws)) d (next_kept name e)

    -- the length stays
    next_long : length b₁ ≡ length b
    next_long = ap length next_put ∙ length_put b (bytes_of (at (scope_at (file_in f s) m).vars v).deps) (deps_at z + 4 * done) (omega (arith, length_bytes (at (scope_at (file_in f s) m).vars v).deps, n.few, n.long))

    -- what the reader of the lead asks, and the writer of the record
    pub lead_asked : Small z × (done ≤ end) × (end ≤ 1024) × (deps_at z + 4 * end ≤ length b₁)
    lead_asked = (n.small, omega (arith, next_end), omega (arith, next_end, n.few), omega (arith, next_end, n.few, n.long, next_long))

    pub record_room : (at : ℕ) → at ≡ vars_at z → at + 48 * v + 48 ≤ length b₁
    unfolding deps_at
    record_room at e = omega (arith, n.below, n.long, next_long)

    -- its record is written
    pub next_written : (at : ℕ) (l : Lead) (b₂ : List ℕ) → at ≡ vars_at z → LeadOf l v name done end (words_from (drop (deps_at z) b₁) done end)
        → b₂ ≡ put b₁ (at + 48 * v) (bytes_of (lead_words l.name l.first l.end l.index l.time ++ bounds_words (var_bounds (file_in f s).names (model_at (file_in f s) m).unknowns v l.name)))
        → b₂ ≡ put (put b (deps_at z + 4 * done) (bytes_of (variables.at (scope_at (file_in f s) m).vars v).deps)) (vars_at z + 48 * v) (bytes_of (unheld_words is_time v done (variables.at (scope_at (file_in f s) m).vars v)))
    unfolding scope_of
    next_written at l b₂ ea lead r =
        let x = variables.at (scope_at (file_in f s) m).vars v in
        let back : words_from (drop (deps_at z) b₁) done end ≡ x.deps = ap (words_from (drop (deps_at z) b₁) done) next_end ∙ words_back b b₁ x.deps (deps_at z) done (omega (arith, n.few, n.long)) next_put in
        let lead' : LeadOf l v x.name done end x.deps = record {
          name_of = lead.name_of ∙ e;
          first_of = lead.first_of;
          end_of = lead.end_of;
          index_of = rw back at lead.index_of;
          time_of = lead.time_of;
        } in
        let bounds : var_bounds (file_in f s).names (model_at (file_in f s) m).unknowns v l.name ≡ x.bounds =
        ap (var_bounds (file_in f s).names (model_at (file_in f s) m).unknowns v) lead'.name_of ∙ own_bounds_lem (file_in f s).names (model_at (file_in f s) m).unknowns v (omega (arith, n.below, n.vars)) in
        r
        ∙ ap (λ (ws : List ℕ). put b₁ (at + 48 * v) (bytes_of ws)) (lead_words_lem l v done end x _ lead' next_end bounds)
        ∙ ap₂ (λ (y : List ℕ) (k : ℕ). put y (k + 48 * v) (bytes_of (unheld_words is_time v done x))) next_put ea

-- ---- one variable after the other

abbrev ds : Variable → List ℕ
ds x = x.deps

-- The first v variables are written into an area b, with `done` dependents.
pub record Written (vs : List Variable) (z : Sizes) (b : List ℕ) (v done : ℕ) (b' : List ℕ) : Type 0 where
  pub count : done ≡ length (each ds (take v vs))
  pub bytes : b' ≡ put (put b (deps_at z) (bytes_of (each ds (take v vs)))) (vars_at z) (encode (take v (untimed_records vs)))

module _ (vs : List Variable) (z : Sizes) (b : List ℕ) (vars : z.vars ≡ length vs) (few : length (each ds vs) ≤ 1024) (room : deps_at z + 4096 ≤ length b) where
  -- none yet
  pub written_none : Written vs z b 0 0 b
  unfolding each encode bytes_of
  written_none = record { count = refl; bytes = sym (put_none (put b (deps_at z) []) (vars_at z) ∙ put_none b (deps_at z)) }

  module _ (v done : ℕ) (b' : List ℕ) (w : Written vs z b v done b') (l : v ≤ length vs) where
    -- the dependents and records so far
    abbrev so_far : List ℕ
    so_far = put b (deps_at z) (bytes_of (each ds (take v vs)))

    deps_long : length (bytes_of (each ds (take v vs))) ≡ 4 * done
    deps_long = length_bytes (each ds (take v vs)) ∙ ap (λ (n : ℕ). 4 * n) (sym w.count)

    done_few : done ≤ 1024
    done_few = omega (arith, w.count, each_fits ds vs v)

    records_long : length (encode (take v (untimed_records vs))) ≡ 48 * v
    unfolding untimed_records
    records_long = length_first is_time vs v l

    so_far_long : length so_far ≡ length b
    so_far_long = length_put b (bytes_of (each ds (take v vs))) (deps_at z) (omega (arith, deps_long, done_few, room))

    -- the length stays
    pub written_long : length b' ≡ length b
    unfolding deps_at
    written_long =
        ap length w.bytes
        ∙ length_put so_far (encode (take v (untimed_records vs))) (vars_at z) (omega (arith, records_long, so_far_long, room, vars))
        ∙ so_far_long

    -- there is room for the next one's dependents
    pub next_few : v < length vs → done + length (at vs v).deps ≤ 1024
    unfolding at
    next_few h = omega (arith, w.count, each_fits ds vs (v + 1), few, ap length (each_take ds vs no_variable v h), length-append (each ds (take v vs)) (get_or vs v no_variable).deps)

    -- its record is as it was
    pub next_name : v < length vs → get_or (names_in b' z) v 0 ≡ get_or (names_in b z) v 0
    unfolding deps_at column word_of
    next_name h =
        let n : vars_at z + v * 48 ≡ vars_at z + 48 * v = omega arith in
        let behind : drop (vars_at z + v * 48) b' ≡ drop (vars_at z + v * 48) so_far =
        ap (drop (vars_at z + v * 48)) w.bytes ∙ drop_behind so_far (encode (take v (untimed_records vs))) (vars_at z) (vars_at z + v * 48) (omega (arith, records_long)) (omega (arith, so_far_long, room)) in
        let before : take (deps_at z) so_far ≡ take (deps_at z) b = (unfold put in take_at (take (deps_at z) b) _ (deps_at z) (length-take-le (deps_at z) b (omega (arith, room)))) in
        let kept : section 12 z.vars (vars_at z) so_far ≡ section 12 z.vars (vars_at z) b = section_kept 12 z.vars (vars_at z) (deps_at z) so_far b (omega arith) (omega (arith, so_far_long, room)) (omega (arith, room)) before in
        let r : get_or (area_vars b' z) v [] ≡ get_or (area_vars b z) v [] =
        record_placed 12 z.vars (vars_at z) v b' (omega (arith, vars))
        ∙ ap (λ (x : List ℕ). take 12 (words x)) behind
        ∙ sym (record_placed 12 z.vars (vars_at z) v so_far (omega (arith, vars)))
        ∙ ap (λ (rs : List (List ℕ)). get_or rs v []) kept in
        ListN.get_or-map (λ r. get_or r 0 0) (area_vars b' z) v [] ∙ ap (λ (r : List ℕ). get_or r 0 0) r ∙ sym (ListN.get_or-map (λ r. get_or r 0 0) (area_vars b z) v [])

    -- one more
    pub written_more : v < length vs → (b'' : List ℕ)
        → b'' ≡ put (put b' (deps_at z + 4 * done) (bytes_of (at vs v).deps)) (vars_at z + 48 * v) (bytes_of (unheld_words is_time v done (at vs v)))
        → Written vs z b (v + 1) (done + length (at vs v).deps) b''
    unfolding deps_at at bytes_of untimed_records
    written_more h b'' e =
        let x = get_or vs v no_variable in
        let ws = encode (take v (untimed_records vs)) in
        let next : each ds (take (v + 1) vs) ≡ each ds (take v vs) ++ x.deps = each_take ds vs no_variable v h in
        let dependents : put so_far (deps_at z + 4 * done) (bytes_of x.deps) ≡ put b (deps_at z) (bytes_of (each ds (take (v + 1) vs))) =
        put_again b so_far (bytes_of (each ds (take v vs))) (bytes_of x.deps) (deps_at z) (deps_at z + 4 * done) (omega (arith, deps_long)) (omega (arith, room)) refl
        ∙ ap (put b (deps_at z)) (sym (each_append bytes4 (each ds (take v vs)) x.deps) ∙ ap (each bytes4) (sym next)) in
        record {
          count = omega (arith, w.count, ap length next, length-append (each ds (take v vs)) x.deps);
          bytes =
              e
              ∙ ap (λ (y : List ℕ). put (put y (deps_at z + 4 * done) (bytes_of x.deps)) (vars_at z + 48 * v) (bytes_of (unheld_words is_time v done x))) w.bytes
              ∙ ap (λ (y : List ℕ). put y (vars_at z + 48 * v) (bytes_of (unheld_words is_time v done x))) (put_swap so_far ws (bytes_of x.deps) (vars_at z) (deps_at z + 4 * done) (omega (arith, records_long, vars)) (omega (arith, so_far_long, done_few, room)))
              ∙ ap (λ (y : List ℕ). put (put y (vars_at z) ws) (vars_at z + 48 * v) (bytes_of (unheld_words is_time v done x))) dependents
              ∙ put_again (put b (deps_at z) (bytes_of (each ds (take (v + 1) vs)))) _ ws (bytes_of (unheld_words is_time v done x)) (vars_at z) (vars_at z + 48 * v) (omega (arith, records_long)) (omega (arith, more_long, room)) refl
              ∙ ap (put (put b (deps_at z) (bytes_of (each ds (take (v + 1) vs)))) (vars_at z)) (sym (records_more is_time vs v h ∙ ap (λ (n : ℕ). ws ++ bytes_of (unheld_words is_time v n x)) (sym w.count)));
        }
      where
        more_long : length (put b (deps_at z) (bytes_of (each ds (take (v + 1) vs)))) ≡ length b
        more_long = length_put b (bytes_of (each ds (take (v + 1) vs))) (deps_at z) (omega (arith, length_bytes (each ds (take (v + 1) vs)), each_fits ds vs (v + 1), few, room))

    -- all of them
    pub written_all : length vs ≤ v → (done ≡ length (each ds vs)) × (b' ≡ put (put b (deps_at z) (bytes_of (each ds vs))) (vars_at z) (encode (untimed_records vs)))
    unfolding untimed_records
    written_all h =
        let t = take_all v vs h in
        let u : take v (untimed_records vs) ≡ untimed_records vs = take_all v (untimed_records vs) (omega (arith, length_from is_time 0 0 vs)) in
        (w.count ∙ ap (λ (xs : List Variable). length (each ds xs)) t, w.bytes ∙ ap₂ (λ (xs : List Variable) (rs : List (List ℕ)). put (put b (deps_at z) (bytes_of (each ds xs))) (vars_at z) (encode rs)) t u)

-- ---- the variables of a model

module _ (f : List ℕ) (s : Sections) (o : Open f s) (m : ℕ) (z : Sizes) (b : List ℕ) (n : VarsNamed (file_in f s) m z b) where
  few_deps : length (each ds (scope_at (file_in f s) m).vars) ≤ 1024
  few_deps = omega (arith, ap length (model_written f s m), kept_few f s o m)

  pub vars_none : Written (scope_at (file_in f s) m).vars z b 0 0 b
  vars_none = written_none (scope_at (file_in f s) m).vars z b n.vars few_deps n.long

  module _ (v done : ℕ) (b' : List ℕ) (w : Written (scope_at (file_in f s) m).vars z b v done b') where
    pub vars_next : v < z.vars → VarNext (file_in f s) m z b' v done
    vars_next h =
        let vs = (scope_at (file_in f s) m).vars in
        let l : v ≤ length vs = omega (arith, n.vars) in
        let k : v < length vs = omega (arith, n.vars) in
        record {
          small = n.small;
          vars = n.vars;
          long = omega (arith, n.long, written_long vs z b n.vars few_deps n.long v done b' w l);
          below = h;
          named = next_name vs z b n.vars few_deps n.long v done b' w l k ∙ n.named v h;
          few = next_few vs z b n.vars few_deps n.long v done b' w l k;
        }

    pub vars_more : v < z.vars → (r : ℕ) (b'' : List ℕ)
        → (r ≡ done + length (at (scope_at (file_in f s) m).vars v).deps)
        × (b'' ≡ put (put b' (deps_at z + 4 * done) (bytes_of (at (scope_at (file_in f s) m).vars v).deps)) (vars_at z + 48 * v) (bytes_of (unheld_words is_time v done (at (scope_at (file_in f s) m).vars v))))
        → Written (scope_at (file_in f s) m).vars z b (v + 1) r b''
    vars_more h r b'' e =
        rw e.0 (written_more (scope_at (file_in f s) m).vars z b n.vars few_deps n.long v done b' w (omega (arith, n.vars)) (omega (arith, n.vars)) b'' e.1)

    pub vars_all : v ≡ z.vars
        → (done ≡ length (each ds (scope_at (file_in f s) m).vars))
        × (b' ≡ put (put b (deps_at z) (bytes_of (each ds (scope_at (file_in f s) m).vars))) (vars_at z) (encode (untimed_records (scope_at (file_in f s) m).vars)))
    vars_all h = written_all (scope_at (file_in f s) m).vars z b n.vars few_deps n.long v done b' w (omega (arith, n.vars)) (omega (arith, n.vars))
