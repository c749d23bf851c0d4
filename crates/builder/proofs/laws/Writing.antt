-- Flattened statements written, each statement's nodes behind the nodes and its record behind the records.
use mathlib.Core.Path.{◌≡◌, refl, sym, ap, ap₂, ◌∙◌}
use mathlib.Core.List.{List, [], ◌∷◌, ◌++◌, append-nil}
use Prim.Native.Nat.{ℕ, ◌+◌, ◌-◌, ◌*◌, ◌≤◌, ◌<◌}
use native.Mathlib.Omega.{arith}
use lib.ListN.{length, take, get_or, length-append}
use Rattle.functions.specs.Lists.{each, sum_of}
use Rattle.ast.specs.Tree.{Span, Expr, Flat, equation, rate, size, flat_size}
use Rattle.ast.specs.Words.{word_of, span_from, bytes_of}
use Rattle.ast.specs.Bytes.{put}
use Rattle.ast.specs.Encode.{nodes, flat_nodes, encode}
use Rattle.ast.specs.Records.{kind_of_stmt, left_top, right_top, first_stmt, stmt_count}
use Rattle.ast.specs.Levels.{through_flat}
use Rattle.ast.specs.Rows.{levels_of, read, spanning}
use Rattle.ast.specs.Opens.{Open, contents_in, file_in}
use Rattle.ast.specs.declared.sections.Sections.{Sections}
use Rattle.ast.proofs.Encodes.{encode_one, encode_append, length_tree}
use Rattle.ast.proofs.StmtsBack.{size_pos}
use Rattle.definitions.specs.Flatten.{model_at, stmt_flats, flatten}
use Rattle.definitions.proofs.ListLaws.{sum_append}
use Rattle.definitions.proofs.StmtKinds.{stmt_equation, stmt_rate}
use Rattle.area.proofs.Puts.{length_put, put_none, put_again, put_swap}
use Rattle.builder.specs.Descent.{flat_at, brought_at, RowsIn, RowsKept}
use Rattle.builder.specs.Unfated.{unfated_words, unfated, FlatsFit, FlatsPut}
use Rattle.builder.specs.declared.flattening.statements.Written.{Written}
use Rattle.builder.proofs.laws.OpenRecords.{model_is}
use Rattle.builder.proofs.laws.Descents.{rest, rest_next, rest_end, rest_all}
use Rattle.builder.proofs.laws.Putting.{length_flats, flats_append}
use Rattle.builder.proofs.laws.Recording.{length_unfated, records_append}

-- ---- the same statements, and none

pub fits_same : (done : Written) (long : ℕ) (xs ys : List Flat) → xs ≡ ys → FlatsFit done ys long → FlatsFit done xs long
fits_same done long xs ys e h = rw e h

pub put_same : (done : Written) (d : List ℕ) (r : Written) (d' : List ℕ) (xs ys : List Flat) → xs ≡ ys → FlatsPut done d xs r d' → FlatsPut done d ys r d'
put_same done d r d' xs ys e h = rw (sym e) h

pub nothing_put : (done : Written) (d : List ℕ) (qs : List Flat) → qs ≡ [] → FlatsPut done d qs done d
unfolding sum_of each unfated encode
nothing_put done d qs e =
    record {
      nodes = omega (arith, ap (sum_of flat_size) e);
      end = omega (arith, ap length e);
      bytes = rw e (sym (put_none (put d (32 * done.nodes) []) done.end ∙ put_none d (32 * done.nodes)));
    }

-- ---- statements behind others

module _ (done : Written) (d : List ℕ) (xs ys : List Flat) (fits : FlatsFit done (xs ++ ys) (length d)) where
  both_sum : sum_of flat_size (xs ++ ys) ≡ sum_of flat_size xs + sum_of flat_size ys
  both_sum = sum_append flat_size xs ys

  both_long : length (xs ++ ys) ≡ length xs + length ys
  both_long = length-append xs ys

  -- there is room for the first
  first_fit : FlatsFit done xs (length d)
  first_fit = record { few = omega (arith, both_sum, fits.few); nodes = omega (arith, both_sum, fits.nodes); records = omega (arith, both_long, fits.records) }

  module _ (r : Written) (d₁ : List ℕ) (h : FlatsPut done d xs r d₁) where
    nodes_long : length (put d (32 * done.nodes) (encode (each flat_nodes xs))) ≡ length d
    nodes_long = length_put d (encode (each flat_nodes xs)) (32 * done.nodes) (omega (arith, length_flats xs, first_fit.nodes, first_fit.records))

    -- the length stays
    flats_long : length d₁ ≡ length d
    flats_long =
        ap length h.bytes
        ∙ length_put (put d (32 * done.nodes) (encode (each flat_nodes xs))) (encode (unfated done.nodes xs)) done.end (omega (arith, nodes_long, length_unfated done.nodes xs, first_fit.records))
        ∙ nodes_long

    -- there is room for the others
    later_fit : FlatsFit r ys (length d₁)
    later_fit =
        record {
          few = omega (arith, both_sum, fits.few, h.nodes);
          nodes = omega (arith, both_sum, fits.nodes, h.nodes, h.end);
          records = omega (arith, both_long, fits.records, h.end, flats_long);
        }

    -- the nodes of the others are put behind those of the first, in front of all records
    put_then : (r' : Written) (d₂ : List ℕ) → FlatsPut r d₁ ys r' d₂ → FlatsPut done d (xs ++ ys) r' d₂
    put_then r' d₂ g =
        let x = encode (each flat_nodes xs) in
        let y = encode (each flat_nodes ys) in
        let u = encode (unfated done.nodes xs) in
        let v = encode (unfated (done.nodes + sum_of flat_size xs) ys) in
        let a = 32 * done.nodes in
        let b = 32 * r.nodes in
        let at : b ≡ a + length x = omega (arith, length_flats xs, h.nodes) in
        let apart : b + length y ≤ done.end = omega (arith, length_flats ys, both_sum, fits.nodes, h.nodes) in
        let within : done.end ≤ length d = omega (arith, fits.records) in
        let swapped : put d₁ b y ≡ put (put d a (x ++ y)) done.end u =
        ap (λ (z : List ℕ). put z b y) h.bytes
        ∙ sym (put_swap (put d a x) y u b done.end apart (omega (arith, within, nodes_long)))
        ∙ ap (λ (z : List ℕ). put z done.end u) (put_again d (put d a x) x y a b at (omega (arith, within, apart, at)) refl) in
        let whole : length (put d a (x ++ y)) ≡ length d = length_put d (x ++ y) a (omega (arith, length-append x y, at, apart, within)) in
        let behind : r.end ≡ done.end + length u = omega (arith, length_unfated done.nodes xs, h.end) in
        record {
          nodes = omega (arith, both_sum, h.nodes, g.nodes);
          end = omega (arith, both_long, h.end, g.end);
          bytes =
              g.bytes
              ∙ ap (λ (n : ℕ). put (put d₁ b y) r.end (encode (unfated n ys))) h.nodes
              ∙ put_again (put d a (x ++ y)) (put d₁ b y) u v done.end r.end behind (omega (arith, within, whole)) swapped
              ∙ ap₂ (λ (p q : List ℕ). put (put d a p) done.end q) (sym (flats_append xs ys)) (sym (records_append done.nodes xs ys));
        }

-- ---- one statement, once its trees are written

module _ (done : Written) (d d₁ d₂ : List ℕ) (sp : Span) (b : ℕ) (r : Written) (rn : r.nodes ≡ b) (re : r.end ≡ done.end + 32) where
  rate_one : (n : ℕ) (e : Expr)
      → (b ≡ done.nodes + size e) × (d₁ ≡ put d (32 * done.nodes) (encode (nodes e)))
      → d₂ ≡ put d₁ done.end (bytes_of (2 ∷ n ∷ 0 ∷ (b - 1) ∷ sp.from ∷ sp.to ∷ 0 ∷ 0 ∷ []))
      → FlatsPut done d (rate n e sp ∷ []) r d₂
  unfolding each flat_nodes unfated unfated_words sum_of flat_size
  rate_one n e (eb, ed) h =
      let z : sum_of flat_size (rate n e sp ∷ []) ≡ size e + 0 = refl in
      let x : encode (each flat_nodes (rate n e sp ∷ [])) ≡ encode (nodes e) = ap encode (append-nil (nodes e)) in
      let u : encode (unfated done.nodes (rate n e sp ∷ [])) ≡ bytes_of (2 ∷ n ∷ 0 ∷ (done.nodes + size e - 1) ∷ sp.from ∷ sp.to ∷ 0 ∷ 0 ∷ []) = encode_one _ in
      record {
        nodes = omega (arith, rn, eb, z);
        end = omega (arith, re);
        bytes =
            h
            ∙ ap₂ (λ (y w : List ℕ). put y done.end w) (ed ∙ ap (put d (32 * done.nodes)) (sym x)) (ap (λ (k : ℕ). bytes_of (2 ∷ n ∷ 0 ∷ (k - 1) ∷ sp.from ∷ sp.to ∷ 0 ∷ 0 ∷ [])) eb ∙ sym u);
      }

  equation_one : (a : ℕ) (d₀ : List ℕ) (l t : Expr) → 32 * done.nodes ≤ length d
      → (a ≡ done.nodes + size l) × (d₀ ≡ put d (32 * done.nodes) (encode (nodes l)))
      → (b ≡ a + size t) × (d₁ ≡ put d₀ (32 * a) (encode (nodes t)))
      → d₂ ≡ put d₁ done.end (bytes_of (1 ∷ 0 ∷ (a - 1) ∷ (b - 1) ∷ sp.from ∷ sp.to ∷ 0 ∷ 0 ∷ []))
      → FlatsPut done d (equation l t sp ∷ []) r d₂
  unfolding each flat_nodes unfated unfated_words sum_of flat_size
  equation_one a d₀ l t within (ea, ed) (eb, ed') h =
      let z : sum_of flat_size (equation l t sp ∷ []) ≡ size l + size t + 0 = refl in
      let c : b ≡ done.nodes + size l + size t = omega (arith, ea, eb) in
      let at : 32 * a ≡ 32 * done.nodes + length (encode (nodes l)) = omega (arith, ea, length_tree l) in
      let x : encode (each flat_nodes (equation l t sp ∷ [])) ≡ encode (nodes l) ++ encode (nodes t) = ap encode (append-nil (nodes l ++ nodes t)) ∙ encode_append (nodes l) (nodes t) in
      let u : encode (unfated done.nodes (equation l t sp ∷ [])) ≡ bytes_of (1 ∷ 0 ∷ (done.nodes + size l - 1) ∷ (done.nodes + size l + size t - 1) ∷ sp.from ∷ sp.to ∷ 0 ∷ 0 ∷ []) = encode_one _ in
      let g : d₁ ≡ put d (32 * done.nodes) (encode (nodes l) ++ encode (nodes t)) = ed' ∙ put_again d d₀ (encode (nodes l)) (encode (nodes t)) (32 * done.nodes) (32 * a) at within ed in
      record {
        nodes = omega (arith, rn, c, z);
        end = omega (arith, re);
        bytes =
            h
            ∙ ap₂ (λ (y w : List ℕ). put y done.end w) (g ∙ ap (put d (32 * done.nodes)) (sym x)) (ap₂ (λ (k m : ℕ). bytes_of (1 ∷ 0 ∷ (k - 1) ∷ (m - 1) ∷ sp.from ∷ sp.to ∷ 0 ∷ 0 ∷ [])) ea c ∙ sym u);
      }

-- ---- a statement of its own

-- there is room for a statement: its trees have n nodes, the first of them has y
abbrev pub OneFits : Written → ℕ → ℕ → ℕ → Type 0
OneFits done y n long = (1 ≤ y) × (done.nodes + n ≤ 1024) × (32 * (done.nodes + n) ≤ done.end) × (done.end + 32 ≤ long)

module _ (f : List ℕ) (s : Sections) (rows : List ℕ) (level q : ℕ) (sub : ℕ → List Flat) where
  abbrev rec : List ℕ
  rec = get_or (contents_in f s).stmts q []

  abbrev ns : List (List ℕ)
  ns = (contents_in f s).nodes

  rate_brought : (i n from to : ℕ) → kind_of_stmt rec ≡ 2 → i ≡ right_top rec → n ≡ word_of rec 1 → from ≡ word_of rec 4 → to ≡ word_of rec 5
      → brought_at f s rows level sub q ≡ rate n (read ns rows level i) (spanning from to) ∷ []
  unfolding stmt_flats through_flat read span_from
  rate_brought i n from to k ei en ef et = rw (stmt_rate ns rec k, ei, en, ef, et) refl

  equation_brought : (i j from to : ℕ) → kind_of_stmt rec ≡ 1 → i ≡ left_top rec → j ≡ right_top rec → from ≡ word_of rec 4 → to ≡ word_of rec 5
      → brought_at f s rows level sub q ≡ equation (read ns rows level i) (read ns rows level j) (spanning from to) ∷ []
  unfolding stmt_flats through_flat read span_from
  equation_brought i j from to k ei ej ef et = rw (stmt_equation ns rec k, ei, ej, ef, et) refl

  module _ (done : Written) (long : ℕ) (fits : FlatsFit done (brought_at f s rows level sub q) long) where
    pub rate_room : (i : ℕ) → kind_of_stmt (get_or (contents_in f s).stmts q []) ≡ 2 → i ≡ right_top (get_or (contents_in f s).stmts q [])
        → OneFits done (size (read (contents_in f s).nodes rows level i)) (size (read (contents_in f s).nodes rows level i)) long
    unfolding sum_of flat_size
    rate_room i k ei =
        let e = rate_brought i _ _ _ k ei refl refl refl in
        let a : length (brought_at f s rows level sub q) ≡ 1 = ap length e in
        let b : sum_of flat_size (brought_at f s rows level sub q) ≡ size (read ns rows level i) + 0 = ap (sum_of flat_size) e in
        (size_pos (read ns rows level i), omega (arith, b, fits.few), omega (arith, b, fits.nodes), omega (arith, a, fits.records))

    pub equation_room : (i j : ℕ) → kind_of_stmt (get_or (contents_in f s).stmts q []) ≡ 1 → i ≡ left_top (get_or (contents_in f s).stmts q []) → j ≡ right_top (get_or (contents_in f s).stmts q [])
        → OneFits done (size (read (contents_in f s).nodes rows level i)) (size (read (contents_in f s).nodes rows level i) + size (read (contents_in f s).nodes rows level j)) long
    unfolding sum_of flat_size
    equation_room i j k ei ej =
        let e = equation_brought i j _ _ k ei ej refl refl in
        let a : length (brought_at f s rows level sub q) ≡ 1 = ap length e in
        let b : sum_of flat_size (brought_at f s rows level sub q) ≡ size (read ns rows level i) + size (read ns rows level j) + 0 = ap (sum_of flat_size) e in
        (size_pos (read ns rows level i), omega (arith, b, fits.few), omega (arith, b, fits.nodes), omega (arith, a, fits.records))

  module _ (done : Written) (d d₁ d₂ : List ℕ) (b from to : ℕ) (r : Written) (rn : r.nodes ≡ b) (re : r.end ≡ done.end + 32)
      (ef : from ≡ word_of (get_or (contents_in f s).stmts q []) 4) (et : to ≡ word_of (get_or (contents_in f s).stmts q []) 5) where
    pub rate_written : (i n : ℕ) → kind_of_stmt (get_or (contents_in f s).stmts q []) ≡ 2 → i ≡ right_top (get_or (contents_in f s).stmts q []) → n ≡ word_of (get_or (contents_in f s).stmts q []) 1
        → (b ≡ done.nodes + size (read (contents_in f s).nodes rows level i)) × (d₁ ≡ put d (32 * done.nodes) (encode (nodes (read (contents_in f s).nodes rows level i))))
        → d₂ ≡ put d₁ done.end (bytes_of (2 ∷ n ∷ 0 ∷ (b - 1) ∷ from ∷ to ∷ 0 ∷ 0 ∷ []))
        → FlatsPut done d (brought_at f s rows level sub q) r d₂
    rate_written i n k ei en w h =
        put_same done d r d₂ _ _ (sym (rate_brought i n from to k ei en ef et)) (rate_one done d d₁ d₂ (spanning from to) b r rn re n (read ns rows level i) w h)

    pub equation_written : (i j a : ℕ) (d₀ : List ℕ) → kind_of_stmt (get_or (contents_in f s).stmts q []) ≡ 1 → i ≡ left_top (get_or (contents_in f s).stmts q []) → j ≡ right_top (get_or (contents_in f s).stmts q [])
        → 32 * done.nodes ≤ length d
        → (a ≡ done.nodes + size (read (contents_in f s).nodes rows level i)) × (d₀ ≡ put d (32 * done.nodes) (encode (nodes (read (contents_in f s).nodes rows level i))))
        → (b ≡ a + size (read (contents_in f s).nodes rows level j)) × (d₁ ≡ put d₀ (32 * a) (encode (nodes (read (contents_in f s).nodes rows level j))))
        → d₂ ≡ put d₁ done.end (bytes_of (1 ∷ 0 ∷ (a - 1) ∷ (b - 1) ∷ from ∷ to ∷ 0 ∷ 0 ∷ []))
        → FlatsPut done d (brought_at f s rows level sub q) r d₂
    equation_written i j a d₀ k ei ej within w w' h =
        put_same done d r d₂ _ _ (sym (equation_brought i j from to k ei ej ef et)) (equation_one done d d₁ d₂ (spanning from to) b r rn re a d₀ (read ns rows level i) (read ns rows level j) within w w' h)

-- ---- the statements of a model, in a loop

module _ (f : List ℕ) (s : Sections) (k m : ℕ) (rows₀ : List ℕ) (level : ℕ) (out₀ : List ℕ) (done : Written) where
  abbrev left : ℕ → List Flat
  left i = rest (file_in f s) (levels_of (contents_in f s).nodes rows₀ level) (k - 1) m i

  -- the statements before number i are written: there is room for those left, and once these are written all are
  pub record Writing (rows out : List ℕ) (total : Written) (i : ℕ) : Type 0 where
    pub long : length rows ≡ length rows₀
    pub kept : take (256 * level) rows ≡ take (256 * level) rows₀
    pub fit : RowsIn f s rows
    pub same : length out ≡ length out₀
    pub room : FlatsFit total (left i) (length out)
    pub written : (r : Written) (out' : List ℕ) → FlatsPut total out (left i) r out' → FlatsPut done out₀ (flat_at f s rows₀ level k m) r out'

  pub writing_start : (k ≡ 0 → ⊥) → RowsIn f s rows₀ → FlatsFit done (flat_at f s rows₀ level k m) (length out₀) → Writing rows₀ out₀ done 0
  writing_start ne fit fits =
      let e = rest_all (file_in f s) (levels_of (contents_in f s).nodes rows₀ level) k m ne in
      record {
        long = refl;
        kept = refl;
        fit = fit;
        same = refl;
        room = fits_same done (length out₀) (left 0) (flat_at f s rows₀ level k m) (sym e) fits;
        written = λ r out' g. put_same done out₀ r out' (left 0) (flat_at f s rows₀ level k m) (sym e) g;
      }

  module _ (o : Open f s) (l : m < s.counts.models) (rows out : List ℕ) (total : Written) (i : ℕ) (h : Writing rows out total i) where
    module _ (q : ℕ) (b : i < stmt_count (get_or (contents_in f s).models m [])) (eq : q ≡ first_stmt (get_or (contents_in f s).models m []) + i) where
      abbrev next : List Flat
      next = brought_at f s rows level (λ j. flatten (file_in f s) (k - 1) j) q

      left_next : left i ≡ next ++ left (i + 1)
      left_next = rest_next f s o rows₀ rows level (k - 1) m i q l h.kept b eq

      both_fit : FlatsFit total (next ++ left (i + 1)) (length out)
      both_fit = fits_same total (length out) (next ++ left (i + 1)) (left i) (sym left_next) h.room

      -- there is room for the next statement
      pub writing_room : FlatsFit total (brought_at f s rows level (λ j. flatten (file_in f s) (k - 1) j) q) (length out)
      writing_room = first_fit total out next (left (i + 1)) both_fit

      pub writing_step : (rows' out' : List ℕ) (r : Written)
          → FlatsPut total out (brought_at f s rows level (λ j. flatten (file_in f s) (k - 1) j) q) r out' × RowsKept f s level rows rows'
          → Writing rows' out' r (i + 1)
      writing_step rows' out' r (g, w) =
          record {
            long = w.0 ∙ h.long;
            kept = w.1 ∙ h.kept;
            fit = w.2;
            same = flats_long total out next (left (i + 1)) both_fit r out' g ∙ h.same;
            room = later_fit total out next (left (i + 1)) both_fit r out' g;
            written = λ r' out'' y. h.written r' out'' (put_same total out r' out'' (next ++ left (i + 1)) (left i) (sym left_next) (put_then total out next (left (i + 1)) both_fit r out' g r' out'' y));
          }

    pub writing_end : stmt_count (get_or (contents_in f s).models m []) ≤ i → FlatsPut done out₀ (flat_at f s rows₀ level k m) total out
    writing_end b =
        let c : length (model_at (file_in f s) m).stmts ≤ i = rw (model_is f s o m l).stmts_long b in
        h.written total out (nothing_put total out (left i) (rest_end (file_in f s) (levels_of (contents_in f s).nodes rows₀ level) (k - 1) m i c))
