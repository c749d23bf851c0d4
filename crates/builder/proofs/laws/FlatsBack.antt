-- The nodes and the statements' records that stand in an answer's area read back as the flattened statements.
use mathlib.Core.Path.{◌≡◌, refl, sym, ap, ap₂, ◌∙◌}
use mathlib.Core.Logic.{◌⊎◌, inl, inr}
use mathlib.Core.Bool.{true}
use mathlib.Core.List.{List, [], ◌∷◌, ◌++◌, map}
use Prim.Native.Nat.{ℕ, zero, suc, ◌+◌, ◌-◌, ◌*◌, ◌≤◌, ◌<◌}
use native.Mathlib.Omega.{arith}
use lib.ListN.{length, drop, get_or, length-map, take-append-drop}
use Rattle.functions.specs.Lists.{each, sum_of}
use Rattle.ast.specs.Tree.{Expr, File, Flat, equation, rate, size, flat_size}
use Rattle.ast.specs.Words.{section, word_of, span_from}
use Rattle.ast.specs.Nodes.{tree_at, is_expr, nodes_fit}
use Rattle.ast.specs.Encode.{nodes, flat_nodes, encode}
use Rattle.ast.specs.Opens.{Open, file_in}
use Rattle.ast.specs.declared.sections.Sections.{Sections}
use Rattle.ast.specs.WellFormed.{Each}
use Rattle.ast.proofs.Encodes.{length_nodes}
use Rattle.ast.proofs.Formed.{WellFormed}
use Rattle.ast.proofs.FromBytes.{joined, bytes_joined, section_joined, Wide}
use Rattle.ast.proofs.Roundtrip.{Holds, holds_left, holds_right, stands, tree_back}
use Rattle.ast.proofs.StmtsBack.{size_pos}
use Rattle.definitions.specs.Roles.{role_of}
use Rattle.definitions.specs.Allocate.{Fate}
use Rattle.definitions.specs.Answer.{fate_number, fate_variable, flat_words, flat_records}
use Rattle.builder.specs.Unfated.{unfated_words, unfated}
use Rattle.area.specs.Sections.{Small, stmts_at, vars_at, area_nodes, area_stmts, area_stmt, area_vars, part}
use Rattle.builder.specs.Allocating.{flat_at, flats_in, Flattened}
use Rattle.builder.specs.Root.{flats_of, scope_at, time_at, roles_at, fates_at, SizesOf, PartsLaid}
use Rattle.area.specs.declared.sections.Sizes.{Sizes}
use Rattle.definitions.proofs.Lengths.{length_flat_nodes, nodes_wide, count_nodes, length_fates}
use Rattle.builder.proofs.laws.Allocations.{FlatFormed}
use Rattle.builder.proofs.laws.FlatsFormed.{formed}

-- ---- sections

-- records of w words whose bytes stand somewhere
pub section_read : (w n at k : ℕ) (rs : List (List ℕ)) (b : List ℕ) → Wide w rs → length rs ≡ n → part at k b ≡ encode rs → section w n at b ≡ rs
unfolding part
section_read w n at k rs b h l e =
    section_joined w n at rs b (joined rs) (drop k (drop at b)) h l refl
    (sym (take-append-drop k (drop at b)) ∙ ap (λ (x : List ℕ). x ++ drop k (drop at b)) (e ∙ sym (bytes_joined rs)))

module _ (F : File) (m : ℕ) (z : Sizes) (rs vs : List (List ℕ)) (b : List ℕ) (o : SizesOf F m z) (a : PartsLaid F m z rs vs b) where
  -- the nodes
  pub nodes_read : area_nodes b z ≡ each flat_nodes (flats_of F m)
  nodes_read = section_read 8 z.nodes 40 (32 * z.nodes) (each flat_nodes (flats_of F m)) b (nodes_wide (flats_of F m)) (count_nodes (flats_of F m) ∙ sym o.nodes) a.nodes

  -- the statements' records
  pub stmts_read : length rs ≡ z.stmts → Wide 8 rs → area_stmts b z ≡ rs
  stmts_read l w = section_read 8 z.stmts (stmts_at z) (32 * z.stmts) rs b w l a.stmts

  -- and the variables'
  pub vars_read : length vs ≡ z.vars → Wide 12 vs → area_vars b z ≡ vs
  vars_read l w = section_read 12 z.vars (vars_at z) (48 * z.vars) vs b w l a.vars

-- ---- records of statements: the first six words are a statement's, whatever the fate

unfoldable pub stmt_words : ℕ → Flat → ℕ → ℕ → List ℕ
stmt_words first (equation l r s) x y = 1 ∷ 0 ∷ (first + size l - 1) ∷ (first + size l + size r - 1) ∷ s.from ∷ s.to ∷ x ∷ y ∷ []
stmt_words first (rate n r s) x y = 2 ∷ n ∷ 0 ∷ (first + size r - 1) ∷ s.from ∷ s.to ∷ x ∷ y ∷ []

-- the records are those of the statements, whose trees begin at node `first`
abbrev pub Tells : ℕ → List Flat → List (List ℕ) → Type 0
Tells first [] [] = Unit {0}
Tells first [] (r ∷ rs) = ⊥
Tells first (q ∷ qs) [] = ⊥
Tells first (q ∷ qs) (r ∷ rs) = ((x : ℕ) × (y : ℕ) × (r ≡ stmt_words first q x y)) × Tells (first + flat_size q) qs rs

eight_words : (first : ℕ) (q : Flat) (x y : ℕ) → length (stmt_words first q x y) ≡ 8
unfolding stmt_words
eight_words first (equation l r s) x y = refl
eight_words first (rate n r s) x y = refl

-- there are as many, each of 8 words
pub tells_count : (first : ℕ) (qs : List Flat) (rs : List (List ℕ)) → Tells first qs rs → length rs ≡ length qs
tells_count first [] [] h = refl
tells_count first [] (r ∷ rs) h = absurd h
tells_count first (q ∷ qs) [] h = absurd h
tells_count first (q ∷ qs) (r ∷ rs) h = ap suc (tells_count (first + flat_size q) qs rs h.1)

pub tells_wide : (first : ℕ) (qs : List Flat) (rs : List (List ℕ)) → Tells first qs rs → Wide 8 rs
tells_wide first [] [] h = tt
tells_wide first [] (r ∷ rs) h = absurd h
tells_wide first (q ∷ qs) [] h = absurd h
tells_wide first (q ∷ qs) (r ∷ rs) h =
    let (x, y, e) = h.0 in
    (ap length e ∙ eight_words first q x y, tells_wide (first + flat_size q) qs rs h.1)

-- before the fates are known
unfated_words_lem : (first : ℕ) (q : Flat) → unfated_words first q ≡ stmt_words first q 0 0
unfolding unfated_words stmt_words
unfated_words_lem first (equation l r s) = refl
unfated_words_lem first (rate n r s) = refl

pub unfated_tells : (first : ℕ) (qs : List Flat) → Tells first qs (unfated first qs)
unfolding unfated
unfated_tells first [] = tt
unfated_tells first (q ∷ qs) = ((0, 0, unfated_words_lem first q), unfated_tells (first + flat_size q) qs)

-- and with them
fated_words : (first : ℕ) (q : Flat) (x : Fate) → flat_words first q x ≡ stmt_words first q (fate_number x) (fate_variable x)
unfolding flat_words stmt_words
fated_words first (equation l r s) x = refl
fated_words first (rate n r s) x = refl

pub fated_tells : (first : ℕ) (qs : List Flat) (xs : List Fate) → length xs ≡ length qs → Tells first qs (flat_records first qs xs)
unfolding flat_records
fated_tells first [] xs h = tt
fated_tells first (q ∷ qs) [] h = absurd (omega arith)
fated_tells first (q ∷ qs) (x ∷ xs) h = ((fate_number x, fate_variable x, fated_words first q x), fated_tells (first + flat_size q) qs xs (omega arith))

-- ---- right tops, of n nodes in all

last_below : (first : ℕ) (q : Flat) (x y : ℕ) → word_of (stmt_words first q x y) 3 < first + flat_size q
unfolding stmt_words word_of flat_size
last_below first (equation l r s) x y = omega (arith, size_pos r)
last_below first (rate n r s) x y = omega (arith, size_pos r)

right_below : (n first : ℕ) (qs : List Flat) (rs : List (List ℕ)) → Tells first qs rs → first + sum_of flat_size qs ≡ n → (i : ℕ) → i < length qs → word_of (get_or rs i []) 3 < n
unfolding sum_of
right_below n first [] rs h e i l = absurd (omega arith)
right_below n first (q ∷ qs) [] h e i l = absurd h
right_below n first (q ∷ qs) (r ∷ rs) h e zero l =
    let (x, y, g) = h.0 in
    rw g (omega (arith, last_below first q x y))
right_below n first (q ∷ qs) (r ∷ rs) h e (suc i) l = right_below n (first + flat_size q) qs rs h.1 (omega arith) i (omega arith)

-- ---- trees and statements among nodes

-- what a statement's record says of its kind, its trees and its name
record Fits (names : ℕ) (ns : List (List ℕ)) (n : ℕ) (r : List ℕ) : Type 0 where
  kind : (word_of r 0 ≡ 1) ⊎ (word_of r 0 ≡ 2)
  right : (word_of r 3 < n) × (is_expr ns (word_of r 3) ≡ true)
  left : word_of r 0 ≡ 1 → (word_of r 2 < n) × (is_expr ns (word_of r 2) ≡ true)
  name : word_of r 0 ≡ 2 → word_of r 1 < names

module _ (names : ℕ) (ns : List (List ℕ)) where
  -- a tree whose nodes begin at p
  record TreeFrom (p : ℕ) (e : Expr) : Type 0 where
    tree : tree_at ns (p + size e - 1) ≡ e
    is_expr_lem : is_expr ns (p + size e - 1) ≡ true
    fits : nodes_fit names ns p ≡ true → nodes_fit names ns (p + size e) ≡ true

  tree_at_lem : (e : Expr) → WellFormed names e → (p : ℕ) → Holds ns p (nodes e) → TreeFrom p e
  tree_at_lem e x p h =
      let t : suc (p + size e - 1) ≡ p + size e = omega (arith, size_pos e) in
      let s = stands names ns e x p (p + size e - 1) t h in
      record { tree = tree_back names ns e x p (p + size e - 1) t h; is_expr_lem = s.is_expr_lem; fits = λ g. rw t at (s.fits g) }

  -- a statement whose nodes begin at p
  record StmtFrom (n p : ℕ) (q : Flat) : Type 0 where
    says : (x y : ℕ) → flat_at ns (stmt_words p q x y) ≡ q
    holds : (x y : ℕ) → Fits names ns n (stmt_words p q x y)
    fits : nodes_fit names ns p ≡ true → nodes_fit names ns (p + flat_size q) ≡ true

  stmt_at : (q : Flat) → FlatFormed names q → (n p : ℕ) → p + flat_size q ≤ n → Holds ns p (flat_nodes q) → StmtFrom n p q
  unfolding flat_at stmt_words flat_nodes flat_size word_of span_from
  stmt_at (equation l r s) w n p b h =
      let tl = tree_at_lem l w.0 p (holds_left ns p (nodes l) (nodes r) h) in
      let tr = tree_at_lem r w.1 (p + size l) (holds_right ns p (nodes l) (nodes r) h (p + size l) (ap (λ (k : ℕ). p + k) (sym (length_nodes l)))) in
      let e : p + size l + size r ≡ p + (size l + size r) = omega arith in
      record {
        says = λ x y. rw (tl.tree, tr.tree) refl;
        holds = λ x y. record {
          kind = inl refl;
          right = (omega (arith, size_pos r), tr.is_expr_lem);
          left = λ g. (omega (arith, size_pos l), tl.is_expr_lem);
          name = λ g. absurd (omega (arith, g));
        };
        fits = λ g. rw e at (tr.fits (tl.fits g));
      }
  stmt_at (rate m r s) w n p b h =
      let tr = tree_at_lem r w.1 p h in
      record {
        says = λ x y. rw tr.tree refl;
        holds = λ x y. record {
          kind = inr refl;
          right = (omega (arith, size_pos r), tr.is_expr_lem);
          left = λ g. absurd (omega (arith, g));
          name = λ g. w.0;
        };
        fits = tr.fits;
      }

  -- all of them
  record StmtsFrom (n p : ℕ) (qs : List Flat) (rs : List (List ℕ)) : Type 0 where
    says : map (flat_at ns) rs ≡ qs
    holds : (i : ℕ) → i < length qs → Fits names ns n (get_or rs i [])
    fits : nodes_fit names ns p ≡ true → nodes_fit names ns n ≡ true

  stmts_at_lem : (qs : List Flat) (rs : List (List ℕ)) (n p : ℕ) → Each (FlatFormed names) qs → Tells p qs rs → p + sum_of flat_size qs ≡ n → Holds ns p (each flat_nodes qs) → StmtsFrom n p qs rs
  unfolding sum_of each
  stmts_at_lem [] [] n p w t e h =
      let j : p ≡ n = omega arith in
      record { says = refl; holds = λ i l. absurd (omega arith); fits = λ g. rw j at g }
  stmts_at_lem [] (r ∷ rs) n p w t e h = absurd t
  stmts_at_lem (q ∷ qs) [] n p w t e h = absurd t
  stmts_at_lem (q ∷ qs) (r ∷ rs) n p w t e h =
      let (x, y, g) = t.0 in
      let a = stmt_at q w.0 n p (omega arith) (holds_left ns p (flat_nodes q) (each flat_nodes qs) h) in
      let b = stmts_at_lem qs rs n (p + flat_size q) w.1 t.1 (omega arith)
      (holds_right ns p (flat_nodes q) (each flat_nodes qs) h (p + flat_size q) (ap (λ (k : ℕ). p + k) (sym (length_flat_nodes q)))) in
      record {
        says = ap₂ ◌∷◌ (ap (flat_at ns) g ∙ a.says x y) b.says;
        holds = λ i l. more r rs (rw g (a.holds x y)) b.holds i l;
        fits = λ k. b.fits (a.fits k);
      }
    where
      more : (r : List ℕ) (rs : List (List ℕ)) → Fits names ns n r → ((i : ℕ) → i < length qs → Fits names ns n (get_or rs i [])) → (i : ℕ) → i < suc (length qs) → Fits names ns n (get_or (r ∷ rs) i [])
      more r rs h k zero l = h
      more r rs h k (suc i) l = k i (omega arith)

holds_all : (ns : List (List ℕ)) → Holds ns 0 ns
holds_all ns j l =
    let e : 0 + j ≡ j = omega arith in
    ap (λ (i : ℕ). get_or ns i []) e

-- ---- the statements in an area

module _ (names : ℕ) (qs : List Flat) (rs : List (List ℕ)) (b : List ℕ) (z : Sizes) (w : Each (FlatFormed names) qs) (t : Tells 0 qs rs) (en : area_nodes b z ≡ each flat_nodes qs) (er : area_stmts b z ≡ rs) where
  all_stmts : (n : ℕ) → n ≡ sum_of flat_size qs → StmtsFrom names (each flat_nodes qs) n 0 qs rs
  all_stmts n e = stmts_at_lem names (each flat_nodes qs) qs rs n 0 w t (omega arith) (holds_all (each flat_nodes qs))

  -- are the statements,
  pub flats_read : flats_in b z ≡ qs
  unfolding flats_in
  flats_read = rw (en, er) (all_stmts (sum_of flat_size qs) refl).says

  -- and they fit
  pub flattened : z.nodes ≡ sum_of flat_size qs → z.stmts ≡ length qs → 40 + 32 * z.nodes + 32 * z.stmts ≤ length b → Small z → names ≤ 256 → Flattened names b z
  unfolding nodes_fit
  flattened hn hs long small few =
      let a = all_stmts z.nodes hn in
      record {
        long = long;
        small = small;
        few = few;
        nodes = rw en (a.fits refl);
        kind = λ i h. rw er (a.holds i (omega arith)).kind;
        right = λ i h. rw (er, en) (a.holds i (omega arith)).right;
        left = λ i h. rw (er, en) (a.holds i (omega arith)).left;
        name = λ i h. rw er (a.holds i (omega arith)).name;
      }

-- ---- of an open file's model

pub fates_count : (F : File) (m : ℕ) → length (fates_at F m) ≡ length (flats_of F m)
fates_count F m = length_fates _ (roles_at F m) ∙ length-map (flats_of F m) (role_of (scope_at F m) (time_at F m))

-- the records, whatever the fates
stmts_told : (F : File) (m : ℕ) (z : Sizes) (rs vs : List (List ℕ)) (b : List ℕ) → SizesOf F m z → PartsLaid F m z rs vs b → Tells 0 (flats_of F m) rs → area_stmts b z ≡ rs
stmts_told F m z rs vs b k a t = stmts_read F m z rs vs b k a (tells_count 0 (flats_of F m) rs t ∙ sym k.stmts) (tells_wide 0 (flats_of F m) rs t)

module _ (F : File) (m : ℕ) where
  fates_tell : Tells 0 (flats_of F m) (flat_records 0 (flats_of F m) (fates_at F m))
  fates_tell = fated_tells 0 (flats_of F m) (fates_at F m) (fates_count F m)

  -- the records with their fates
  abbrev pub fated_records : List (List ℕ)
  fated_records = flat_records 0 (flats_of F m) (fates_at F m)

  module _ (z : Sizes) (vs : List (List ℕ)) (b : List ℕ) (k : SizesOf F m z) where
    -- before the fates are known
    pub unfated_stmts : PartsLaid F m z (unfated 0 (flats_of F m)) vs b → area_stmts b z ≡ unfated 0 (flats_of F m)
    unfated_stmts a = stmts_told F m z _ vs b k a (unfated_tells 0 (flats_of F m))

    -- and with them
    pub fated_stmts : PartsLaid F m z fated_records vs b → area_stmts b z ≡ fated_records
    fated_stmts a = stmts_told F m z _ vs b k a fates_tell

    -- right sides are nodes
    pub right_sides : PartsLaid F m z fated_records vs b → (i : ℕ) → i < z.stmts → word_of (area_stmt b z i) 3 < z.nodes
    right_sides a i h = rw (fated_stmts a) (right_below z.nodes 0 (flats_of F m) _ fates_tell (omega (arith, k.nodes)) i (omega (arith, k.stmts)))

module _ (f : List ℕ) (s : Sections) (m : ℕ) (z : Sizes) (vs : List (List ℕ)) (b : List ℕ) (o : Open f s) (k : SizesOf (file_in f s) m z) where
  module _ (rs : List (List ℕ)) (a : PartsLaid (file_in f s) m z rs vs b) (t : Tells 0 (flats_of (file_in f s) m) rs) where
    laid_flats : flats_in b z ≡ flats_of (file_in f s) m
    laid_flats = flats_read s.counts.names (flats_of (file_in f s) m) rs b z (formed f s o (length (file_in f s).models) m) t (nodes_read (file_in f s) m z rs vs b k a) (stmts_told (file_in f s) m z rs vs b k a t)

    laid_flattened : Flattened s.counts.names b z
    laid_flattened =
        let c = k.small in
        flattened s.counts.names (flats_of (file_in f s) m) rs b z (formed f s o (length (file_in f s).models) m) t (nodes_read (file_in f s) m z rs vs b k a) (stmts_told (file_in f s) m z rs vs b k a t)
        k.nodes k.stmts (omega (arith, a.long, c.nodes, c.stmts)) c o.laid.within.names

  -- before the fates are known
  module _ (a : PartsLaid (file_in f s) m z (unfated 0 (flats_of (file_in f s) m)) vs b) where
    pub unfated_flats : flats_in b z ≡ flats_of (file_in f s) m
    unfated_flats = laid_flats _ a (unfated_tells 0 (flats_of (file_in f s) m))

    pub unfated_flattened : Flattened s.counts.names b z
    unfated_flattened = laid_flattened _ a (unfated_tells 0 (flats_of (file_in f s) m))

  -- and with them
  module _ (a : PartsLaid (file_in f s) m z (fated_records (file_in f s) m) vs b) where
    pub fated_flats : flats_in b z ≡ flats_of (file_in f s) m
    fated_flats = laid_flats _ a (fates_tell (file_in f s) m)

    pub fated_flattened : Flattened s.counts.names b z
    fated_flattened = laid_flattened _ a (fates_tell (file_in f s) m)
