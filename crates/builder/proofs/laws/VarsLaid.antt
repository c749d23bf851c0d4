-- The root's variables laid into an area: named, written with their dependents, and marked where they reach t.
use mathlib.Core.Path.{◌≡◌, refl, sym, ap, ap₂, ◌∙◌}
use mathlib.Core.Bool.{Bool, true, ◌||◌}
use mathlib.Core.List.{List, [], ◌∷◌, ◌++◌}
use Prim.Native.Nat.{ℕ, suc, ◌+◌, ◌*◌, ◌≤◌, ◌<◌}
use native.Mathlib.Omega.{arith}
use lib.Dec.{eqb, ltb}
use lib.ListN
use lib.ListN.{length, take, drop, get_or, length-append, take-append-drop}
use lib.Seq.{take_at, drop_at, drop-cons}
use Rattle.functions.specs.Lists.{all, each, flag, reaches}
use Rattle.ast.specs.Tree.{File}
use Rattle.ast.specs.Words.{words, word_of, bytes_of}
use Rattle.ast.specs.Bytes.{put}
use Rattle.ast.specs.Encode.{encode}
use Rattle.ast.specs.Opens.{Open, file_in}
use Rattle.ast.specs.declared.sections.Sections.{Sections}
use Rattle.ast.proofs.Encodes.{each_append, length_bytes}
use Rattle.ast.proofs.FromBytes.{words_bytes}
use Rattle.definitions.specs.Variables.{Variable, variable_names, variable, variables_of, no_variable, time_dependent, at}
use Rattle.definitions.specs.Flatten.{model_at, scope_of}
use Rattle.definitions.proofs.ListLaws.{get_d_map}
use Rattle.area.specs.Sections.{Small, stmts_at, vars_at, deps_at, area_vars, column, part, VarsAre}
use Rattle.area.specs.declared.sections.Sizes.{Sizes}
use Rattle.area.proofs.Parts.{part_put, part_before, part_behind}
use Rattle.area.proofs.Puts.{length_put, put_alike, drop_behind, rest_put}
use Rattle.area.proofs.VarsWritten.{vars_own, column_long}
use Rattle.builder.specs.VariableTables.{unknowns_in, roster_in}
use Rattle.builder.specs.Reaching.{deps_in, marks_in, timed_by, timed_from, DepsIn}
use Rattle.builder.specs.VarRecords.{is_time, unheld_words, unheld_from, unheld_records, untimed_records}
use Rattle.builder.specs.Root.{scope_at, VarsRoom, VarsListed, VarsNamed, VarsLaid}
use Rattle.builder.proofs.laws.PutWords.{each_take, each_fits, kept_few}
use Rattle.builder.proofs.laws.KeptDependents.{kept_below, variable_deps, count_variables, reaches_alike}
use Rattle.builder.proofs.laws.RootTables.{model_written, vars_count}
use Rattle.builder.proofs.laws.FateRecords.{AllBytes}
use Rattle.builder.proofs.laws.FlatsBack.{section_read}
use Rattle.builder.proofs.laws.HeldRecords.{vars_put}
use Rattle.builder.proofs.laws.VarAnswers.{from_twelves, length_from, length_twelves, record_at}
use Rattle.builder.proofs.laws.VarColumns.{twelves_wide}

-- ---- words as they are read back

-- words whose bytes stand somewhere
words_read : (p n : ℕ) (ws d : List ℕ) → n ≡ length ws → part p (4 * n) d ≡ bytes_of ws → take n (words (drop p d)) ≡ ws
unfolding part
words_read p n ws d l e =
    let r = drop (4 * n) (drop p d) in
    ap (λ (x : List ℕ). take n (words x)) (sym (take-append-drop (4 * n) (drop p d)) ∙ ap (λ (x : List ℕ). x ++ r) e)
    ∙ ap (take n) (words_bytes ws r)
    ∙ take_at ws (words r) n (sym l)

-- ---- the runs of a list's elements, one behind the other

abbrev ds : Variable → List ℕ
ds x = x.deps

run_of : (vs : List Variable) (v : ℕ) → v < length vs → take (length (at vs v).deps) (drop (length (each ds (take v vs))) (each ds vs)) ≡ (at vs v).deps
unfolding at
run_of vs v l =
    let x = get_or vs v no_variable in
    let r = each ds (drop (suc v) vs) in
    let s : each ds vs ≡ each ds (take v vs) ++ (x.deps ++ r) =
    ap (each ds) (sym (take-append-drop v vs)) ∙ each_append ds (take v vs) (drop v vs) ∙ (unfold each in ap (λ (ys : List Variable). each ds (take v vs) ++ each ds ys) (drop-cons vs v no_variable l)) in
    ap (λ (xs : List ℕ). take (length x.deps) (drop (length (each ds (take v vs))) xs)) s
    ∙ ap (take (length x.deps)) (drop_at (each ds (take v vs)) (x.deps ++ r) (length (each ds (take v vs))) refl)
    ∙ take_at x.deps r (length x.deps) refl

-- ---- how many bytes the variables take

-- their dependents
length_listed : (vs : List Variable) (n : ℕ) → n ≡ length (each ds vs) → length (bytes_of (each ds vs)) ≡ 4 * n
length_listed vs n e = length_bytes (each ds vs) ∙ ap (λ (k : ℕ). 4 * k) (sym e)

-- their records
length_recorded : (timed : ℕ → Bool) (vs : List Variable) (n : ℕ) → n ≡ length vs → length (encode (unheld_from timed 0 0 vs)) ≡ 48 * n
length_recorded timed vs n e = length_twelves (unheld_from timed 0 0 vs) (from_twelves timed 0 0 vs) ∙ ap (λ (k : ℕ). 48 * k) (length_from timed 0 0 vs ∙ sym e)

-- ---- marks of time-dependence

-- word 7 of each record
timed_records : (timed other : ℕ → Bool) (vs : List Variable) (i first : ℕ) → ((j : ℕ) → i ≤ j → j < i + length vs → timed j ≡ other j) → timed_from timed i (unheld_from is_time i first vs) ≡ unheld_from other i first vs
unfolding timed_from unheld_from unheld_words
timed_records timed other [] i first h = refl
timed_records timed other (x ∷ vs) i first h =
    ap₂ ◌∷◌ (ap (λ (b : Bool). unheld_words (λ _. b) i first x) (h i (omega arith) (omega arith))) (timed_records timed other vs (suc i) (first + length x.deps) (λ j a b. h j (omega arith) (omega arith)))

-- ---- in an open file's model

module _ (f : List ℕ) (s : Sections) (o : Open f s) (m : ℕ) where
  abbrev vs : List Variable
  vs = (scope_at (file_in f s) m).vars

  pub deps_few : length (each ds vs) ≤ 1024
  deps_few = omega (arith, ap length (model_written f s m), kept_few f s o m)

  -- a variable by its number
  variable_is : (v : ℕ) → v < length vs → (get_or (roster_in f s m) v 0 ≡ (at vs v).name) × (all (λ d. ltb d (length vs)) (at vs v).deps ≡ true)
  unfolding scope_of roster_in unknowns_in at variables_of variable
  variable_is v l =
      let us = (model_at (file_in f s) m).unknowns in
      let ns = variable_names (file_in f s).names us in
      let c : length vs ≡ length ns = count_variables (file_in f s).names us in
      let e : get_or (variables_of (file_in f s).names us) v no_variable ≡ variable (file_in f s).names ns us (get_or ns v 0) = get_d_map (variable (file_in f s).names ns us) ns v 0 no_variable (omega (arith, c)) in
      (sym (ap (λ (x : Variable). x.name) e), rw c (ap (all (λ d. ltb d (length ns))) (variable_deps (file_in f s).names us v (omega (arith, c))) ∙ kept_below ns us (get_or ns v 0)))

  -- ---- written

  module _ (z : Sizes) (b₁ b₂ : List ℕ) (small : Small z) (vars : z.vars ≡ length vs) (deps : z.deps ≡ length (each ds vs)) (room : deps_at z + 4096 ≤ length b₁)
      (e : b₂ ≡ put (put b₁ (deps_at z) (bytes_of (each ds vs))) (vars_at z) (encode (untimed_records vs))) where
    abbrev with_deps : List ℕ
    with_deps = put b₁ (deps_at z) (bytes_of (each ds vs))

    records_long : length (encode (untimed_records vs)) ≡ 48 * z.vars
    unfolding untimed_records
    records_long = length_recorded is_time vs z.vars vars

    with_deps_long : length with_deps ≡ length b₁
    with_deps_long = length_put b₁ (bytes_of (each ds vs)) (deps_at z) (omega (arith, length_listed vs z.deps deps, small.deps, room))

    written_long : length b₂ ≡ length b₁
    unfolding deps_at
    written_long = ap length e ∙ length_put with_deps (encode (untimed_records vs)) (vars_at z) (omega (arith, records_long, with_deps_long, room)) ∙ with_deps_long

    written_front : take (vars_at z) b₂ ≡ take (vars_at z) b₁
    unfolding part deps_at
    written_front =
        ap (take (vars_at z)) e
        ∙ part_before 0 (vars_at z) (vars_at z) with_deps (encode (untimed_records vs)) (omega arith) (omega (arith, with_deps_long, room))
        ∙ part_before 0 (vars_at z) (deps_at z) b₁ (bytes_of (each ds vs)) (omega arith) (omega (arith, room))

    written_deps : part (deps_at z) (4 * z.deps) b₂ ≡ bytes_of (each ds vs)
    unfolding deps_at
    written_deps =
        ap (part (deps_at z) (4 * z.deps)) e
        ∙ part_behind (deps_at z) (4 * z.deps) (vars_at z) with_deps (encode (untimed_records vs)) (omega (arith, records_long)) (omega (arith, with_deps_long, room))
        ∙ part_put (deps_at z) (4 * z.deps) b₁ (bytes_of (each ds vs)) (omega (arith, room)) (length_listed vs z.deps deps)

    -- from the dependents on
    written_rest : drop (deps_at z) b₂ ≡ bytes_of (each ds vs) ++ drop (length (bytes_of (each ds vs))) (drop (deps_at z) b₁)
    unfolding deps_at
    written_rest =
        ap (drop (deps_at z)) e
        ∙ drop_behind with_deps (encode (untimed_records vs)) (vars_at z) (deps_at z) (omega (arith, records_long)) (omega (arith, with_deps_long, room))
        ∙ rest_put b₁ (bytes_of (each ds vs)) (deps_at z) (omega (arith, room))

    -- the records
    written_vars : area_vars b₂ z ≡ untimed_records vs
    unfolding deps_at untimed_records
    written_vars =
        section_read 12 z.vars (vars_at z) (48 * z.vars) (untimed_records vs) b₂ (twelves_wide (untimed_records vs) (from_twelves is_time 0 0 vs)) (length_from is_time 0 0 vs ∙ sym vars)
        (ap (part (vars_at z) (48 * z.vars)) e ∙ part_put (vars_at z) (48 * z.vars) with_deps (encode (untimed_records vs)) (omega (arith, with_deps_long, room)) records_long)

    -- word k of record v
    word_at : (k v : ℕ) → v < length vs → get_or (column k (area_vars b₂ z)) v 0 ≡ word_of (unheld_words is_time v (length (each ds (take v vs))) (at vs v)) k
    unfolding column untimed_records word_of
    word_at k v l =
        let a : 0 + v ≡ v = omega arith in
        let c : 0 + length (each ds (take v vs)) ≡ length (each ds (take v vs)) = omega arith in
        ListN.get_or-map (λ r. word_of r k) (area_vars b₂ z) v []
        ∙ ap (λ (rs : List (List ℕ)). word_of (get_or rs v []) k) written_vars
        ∙ ap (λ (r : List ℕ). word_of r k) (record_at is_time vs 0 0 v l ∙ ap₂ (λ (i n : ℕ). unheld_words is_time i n (at vs v)) a c)

    -- each variable's dependents
    deps_are : (v : ℕ) → v < length vs → deps_in b₂ z v ≡ (at vs v).deps
    unfolding deps_in
    deps_are v l =
        let all-deps : take z.deps (words (drop (deps_at z) b₂)) ≡ each ds vs = words_read (deps_at z) z.deps (each ds vs) b₂ deps written_deps in
        let first : get_or (column 3 (area_vars b₂ z)) v 0 ≡ length (each ds (take v vs)) = (unfold unheld_words word_of in word_at 3 v l) in
        let count : get_or (column 4 (area_vars b₂ z)) v 0 ≡ length (at vs v).deps = (unfold unheld_words word_of in word_at 4 v l) in
        rw (all-deps, first, count) (run_of vs v l)

    -- what the rounds of marks ask
    written_in : DepsIn z b₂
    unfolding at
    written_in = record {
      small = small;
      long = omega (arith, written_long, small.deps, room);
      within = λ v h.
          let first : get_or (column 3 (area_vars b₂ z)) v 0 ≡ length (each ds (take v vs)) = (unfold unheld_words word_of in word_at 3 v (omega (arith, vars))) in
          let count : get_or (column 4 (area_vars b₂ z)) v 0 ≡ length (at vs v).deps = (unfold unheld_words word_of in word_at 4 v (omega (arith, vars))) in
          omega (arith, first, count, deps, each_fits ds vs (v + 1), ap length (each_take ds vs no_variable v (omega (arith, vars))), length-append (each ds (take v vs)) (get_or vs v no_variable).deps);
      below = λ v h. rw (deps_are v (omega (arith, vars)), vars) (variable_is v (omega (arith, vars))).1;
    }

    t_marked : (v : ℕ) → v < z.vars → get_or (marks_in b₂ z) v 0 ≡ flag (eqb v 0)
    unfolding unheld_words word_of is_time
    t_marked v h = word_at 7 v (omega (arith, vars))

    -- ---- marked

    module _ (b₃ : List ℕ) (bs : AllBytes b₃) (r : VarsAre z b₂ (timed_from (timed_by b₂ z z.vars) 0 (area_vars b₂ z)) b₃) where
      marked_vars : area_vars b₃ z ≡ unheld_records vs
      unfolding unheld_records untimed_records time_dependent timed_by
      marked_vars =
          r.records
          ∙ ap (timed_from (timed_by b₂ z z.vars) 0) written_vars
          ∙ timed_records (timed_by b₂ z z.vars) (time_dependent vs) vs 0 0 (λ j a l.
          ap (λ (b : Bool). eqb j 0 || b) (reaches_alike (deps_in b₂ z) (λ i. (at vs i).deps) z.vars z.vars j 0 (λ v h. deps_are v (omega (arith, vars))) (λ v h. written_in.below v h) (omega (arith, vars))
          ∙ ap (λ (k : ℕ). reaches (λ i. (at vs i).deps) k j 0) vars))

      -- the variables are laid into an area that was as b₁ but for their records
      laid : (n q : ℕ) (b : List ℕ) → z.nodes ≡ n → z.stmts ≡ q → length b₁ ≡ length b → take (vars_at z) b₁ ≡ take (vars_at z) b → drop (deps_at z) b₁ ≡ drop (deps_at z) b
          → VarsLaid (file_in f s) m n q b z b₃
      unfolding deps_at part unheld_records
      laid n q b en eq long front behind =
          let listed = bytes_of (each ds vs) in
          let records = encode (unheld_records vs) in
          let end : vars_at z + length records ≡ deps_at z = omega (arith, length_recorded (time_dependent vs) vs z.vars vars) in
          let before : take (vars_at z) b₂ ≡ take (vars_at z) (put b (deps_at z) listed) =
          written_front ∙ front ∙ sym (part_before 0 (vars_at z) (deps_at z) b listed (omega arith) (omega (arith, long, room))) in
          let rest : drop (deps_at z) b₂ ≡ drop (deps_at z) (put b (deps_at z) listed) =
          written_rest ∙ ap (λ (x : List ℕ). listed ++ drop (length listed) x) behind ∙ sym (rest_put b listed (deps_at z) (omega (arith, long, room))) in
          record {
            nodes = en;
            stmts = eq;
            vars = vars;
            deps = deps;
            bytes =
                vars_put z b₂ b₃ (area_vars b₃ z) (omega (arith, written_long, room)) bs (vars_own z b₂ b₃ _ r)
                ∙ ap (λ (rs : List (List ℕ)). put b₂ (vars_at z) (encode rs)) marked_vars
                ∙ put_alike b₂ (put b (deps_at z) listed) records (vars_at z) before (ap (λ (k : ℕ). drop k b₂) end ∙ rest ∙ ap (λ (k : ℕ). drop k (put b (deps_at z) listed)) (sym end));
          }

  -- ---- from where they are listed on

  module _ (n q : ℕ) (b b₁ numbers : List ℕ) (r : Sizes) (room : VarsRoom n q b) (l : VarsListed f s m n q b r b₁ numbers) where
    vars_listed : r.vars ≡ length (roster_in f s m)
    vars_listed = sym (column_long r b₁ 0) ∙ ap length l.listing.are

    -- their records have their names
    pub vars_named : VarsNamed (file_in f s) m r b₁
    unfolding stmts_at vars_at deps_at
    vars_named = record {
      small = record { nodes = omega (arith, l.nodes, room.nodes); stmts = omega (arith, l.stmts, room.stmts); vars = omega (arith, vars_listed, l.listing.few); deps = omega (arith, l.deps) };
      vars = vars_listed ∙ sym (vars_count f s m);
      long = omega (arith, room.long, room.nodes, room.stmts, vars_listed, l.listing.few, l.nodes, l.stmts, l.kept.long);
      named = λ v h. ap (λ (xs : List ℕ). get_or xs v 0) l.listing.are ∙ (variable_is v (omega (arith, vars_listed, vars_count f s m))).0;
    }

    module _ (d : ℕ) (b₂ : List ℕ) (count : d ≡ length (each ds vs)) (e : b₂ ≡ put (put b₁ (deps_at r) (bytes_of (each ds vs))) (vars_at r) (encode (untimed_records vs))) where
      -- the sizes with the dependents counted
      abbrev z : Sizes
      z = record { nodes = n; stmts = q; vars = r.vars; deps = d }

      small : Small z
      small = record { nodes = room.nodes; stmts = room.stmts; vars = vars_named.small.vars; deps = omega (arith, count, deps_few) }

      -- the sections begin where they did
      vars_there : vars_at r ≡ vars_at z
      unfolding stmts_at vars_at
      vars_there = omega (arith, l.nodes, l.stmts)

      deps_there : deps_at r ≡ deps_at z
      unfolding stmts_at vars_at deps_at
      deps_there = omega (arith, l.nodes, l.stmts)

      room_there : deps_at z + 4096 ≤ length b₁
      room_there = omega (arith, vars_named.long, deps_there)

      bytes_there : b₂ ≡ put (put b₁ (deps_at z) (bytes_of (each ds vs))) (vars_at z) (encode (untimed_records vs))
      bytes_there = e ∙ ap₂ (λ (p k : ℕ). put (put b₁ p (bytes_of (each ds vs))) k (encode (untimed_records vs))) deps_there vars_there

      -- what the rounds of marks ask
      pub marks_needs : DepsIn z b₂ × ((v : ℕ) → v < z.vars → get_or (marks_in b₂ z) v 0 ≡ flag (eqb v 0))
      marks_needs = (written_in z b₁ b₂ small vars_named.vars count room_there bytes_there, t_marked z b₁ b₂ small vars_named.vars count room_there bytes_there)

      -- they are laid once those that reach t are marked
      pub vars_laid : (b₃ : List ℕ) → AllBytes b₃ → VarsAre z b₂ (timed_from (timed_by b₂ z z.vars) 0 (area_vars b₂ z)) b₃ → VarsLaid (file_in f s) m n q b z b₃
      vars_laid b₃ bs marked =
          laid z b₁ b₂ small vars_named.vars count room_there bytes_there b₃ bs marked n q b refl refl l.kept.long (rw vars_there at l.kept.front) (rw deps_there at l.kept.behind)

-- ---- what an area has in which they are laid

module _ (f : File) (m n q : ℕ) (b : List ℕ) (z : Sizes) (b' : List ℕ) (v : VarsLaid f m n q b z b') (room : deps_at z + 4 * z.deps ≤ length b) where
  abbrev listed : List ℕ
  listed = bytes_of (each ds (scope_at f m).vars)

  abbrev recorded : List ℕ
  recorded = encode (unheld_records (scope_at f m).vars)

  listed_long : length listed ≡ 4 * z.deps
  listed_long = length_listed (scope_at f m).vars z.deps v.deps

  recorded_long : length recorded ≡ 48 * z.vars
  unfolding unheld_records
  recorded_long = length_recorded (time_dependent (scope_at f m).vars) (scope_at f m).vars z.vars v.vars

  with_listed : length (put b (deps_at z) listed) ≡ length b
  with_listed = length_put b listed (deps_at z) (omega (arith, listed_long, room))

  -- as many bytes
  pub laid_long : length b' ≡ length b
  unfolding deps_at
  laid_long = ap length v.bytes ∙ length_put (put b (deps_at z) listed) recorded (vars_at z) (omega (arith, recorded_long, with_listed, room)) ∙ with_listed

  -- what stood in front of the variables
  pub laid_before : (at k : ℕ) → at + k ≤ vars_at z → part at k b' ≡ part at k b
  unfolding deps_at
  laid_before at k h =
      ap (part at k) v.bytes
      ∙ part_before at k (vars_at z) (put b (deps_at z) listed) recorded h (omega (arith, with_listed, room))
      ∙ part_before at k (deps_at z) b listed (omega arith) (omega (arith, room))

  -- their records
  pub laid_records : part (vars_at z) (48 * z.vars) b' ≡ encode (unheld_records (scope_at f m).vars)
  unfolding deps_at
  laid_records = ap (part (vars_at z) (48 * z.vars)) v.bytes ∙ part_put (vars_at z) (48 * z.vars) (put b (deps_at z) listed) recorded (omega (arith, with_listed, room)) recorded_long

  -- their dependents
  pub laid_deps : part (deps_at z) (4 * z.deps) b' ≡ bytes_of (each (λ x. x.deps) (scope_at f m).vars)
  unfolding deps_at
  laid_deps =
      ap (part (deps_at z) (4 * z.deps)) v.bytes
      ∙ part_behind (deps_at z) (4 * z.deps) (vars_at z) (put b (deps_at z) listed) recorded (omega (arith, recorded_long)) (omega (arith, with_listed, room))
      ∙ part_put (deps_at z) (4 * z.deps) b listed (omega (arith, room)) listed_long
