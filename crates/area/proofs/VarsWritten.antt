-- The variables' records of an area written word by word: what a word put into one changes, and what stays.
use mathlib.Core.Path.{◌≡◌, refl, sym, ap, ◌∙◌}
use mathlib.Core.List.{List, [], ◌∷◌, ◌++◌, map}
use Prim.Native.Nat.{ℕ, zero, suc, ◌+◌, ◌-◌, ◌*◌, ◌/◌, ◌%◌, ◌≤◌, ◌<◌}
use native.Mathlib.Omega.{arith}
use native.Mathlib.Nat.{suc-mul}
use lib.ListN.{length, take, drop, get_or, set, length-drop, length-map, length-set}
use lib.Seq.{take_all, take-suc-set, take-set-le, take-set-lt, drop-drop, drop-set-lt, drop-set-add, get_or-set_same, get_or-set_other, map-set_same}
use Rattle.std.proofs.lemmas.List.{map-set}
use Rattle.ast.specs.Words.{words, records, section, word_of}
use Rattle.ast.specs.Bytes.{put_word}
use Rattle.ast.proofs.Fields.{length_section}
use Rattle.ast.proofs.Puts.{length_put_word}
use Rattle.ast.proofs.ToBytes.{every_at, section_wide}
use Rattle.area.specs.Sections.{Grown, stmts_at, vars_at, deps_at, area_vars, with_word, VarsAre, column}
use Rattle.area.specs.declared.sections.Sizes.{Sizes}

-- ---- a word among words

-- a word is its four bytes
joined : (x : ℕ) → x % 256 + 256 * (x / 256 % 256) + 65536 * (x / 65536 % 256) + 16777216 * (x / 16777216) ≡ x
joined x = omega arith

words_set : (j : ℕ) (xs : List ℕ) (x : ℕ) → 4 * j + 4 ≤ length xs → words (put_word xs (4 * j) x) ≡ set (words xs) j x
unfolding words put_word
words_set j [] x h = absurd (omega arith)
words_set j (a ∷ []) x h = absurd (omega arith)
words_set j (a ∷ b ∷ []) x h = absurd (omega arith)
words_set j (a ∷ b ∷ c ∷ []) x h = absurd (omega arith)
words_set zero (a ∷ b ∷ c ∷ d ∷ r) x h = ap (λ (w : ℕ). w ∷ words r) (joined x)
words_set (suc j) (a ∷ b ∷ c ∷ d ∷ r) x h =
    let e : 4 * suc j ≡ suc (suc (suc (suc (4 * j)))) = omega arith in
    let e₁ : suc (suc (suc (suc (4 * j)))) + 1 ≡ suc (suc (suc (suc (4 * j + 1)))) = omega arith in
    let e₂ : suc (suc (suc (suc (4 * j)))) + 2 ≡ suc (suc (suc (suc (4 * j + 2)))) = omega arith in
    let e₃ : suc (suc (suc (suc (4 * j)))) + 3 ≡ suc (suc (suc (suc (4 * j + 3)))) = omega arith in
    rw (e, e₁, e₂, e₃) (ap (λ (l : List ℕ). (a + 256 * b + 65536 * c + 16777216 * d) ∷ l) (words_set j r x (omega arith)))

-- word k of record v
records_set : (w n : ℕ) (ws : List ℕ) (v k x : ℕ) → v < n → k < w → records w n (set ws (v * w + k) x) ≡ with_word (records w n ws) v k x
unfolding records with_word
records_set w zero ws v k x h l = absurd (omega arith)
records_set w (suc n) ws zero k x h l =
    let e : 0 * w + k ≡ k = omega arith in
    rw (e, take-set-lt w ws k x l, drop-set-lt w ws k x l) refl
records_set w (suc n) ws (suc v) k x h l =
    let e : suc v * w + k ≡ w + (v * w + k) = omega (arith, suc-mul v w) in
    rw (e, take-set-le w ws (w + (v * w + k)) x (omega arith), drop-set-add w ws (v * w + k) x)
    (ap (λ (rs : List (List ℕ)). take w ws ∷ rs) (records_set w n (drop w ws) v k x (omega arith) l))

-- ---- what a word put at a place leaves

drop_put_word : (at q x : ℕ) (d : List ℕ) → drop at (put_word d (at + q) x) ≡ put_word (drop at d) q x
unfolding put_word
drop_put_word at q x d =
    let e₁ : at + q + 1 ≡ at + (q + 1) = omega arith in
    let e₂ : at + q + 2 ≡ at + (q + 2) = omega arith in
    let e₃ : at + q + 3 ≡ at + (q + 3) = omega arith in
    rw (e₁, e₂, e₃, drop-set-add, drop-set-add, drop-set-add, drop-set-add) refl

take_put_word : (p q x : ℕ) (d : List ℕ) → p ≤ q → take p (put_word d q x) ≡ take p d
unfolding put_word
take_put_word p q x d h =
    take-set-le p _ (q + 3) _ (omega arith) ∙ take-set-le p _ (q + 2) _ (omega arith) ∙ take-set-le p _ (q + 1) _ (omega arith) ∙ take-set-le p d q _ h

behind_put_word : (p q x : ℕ) (d : List ℕ) → q + 4 ≤ p → drop p (put_word d q x) ≡ drop p d
unfolding put_word
behind_put_word p q x d h =
    drop-set-lt p _ (q + 3) _ (omega arith) ∙ drop-set-lt p _ (q + 2) _ (omega arith) ∙ drop-set-lt p _ (q + 1) _ (omega arith) ∙ drop-set-lt p d q _ (omega arith)

-- ---- a word of a variable

pub var_written : (z : Sizes) (d d' : List ℕ) (v k x q : ℕ) → deps_at z ≤ length d → v < z.vars → k < 12 → q ≡ vars_at z + 48 * v + 4 * k → d' ≡ put_word d q x
    → VarsAre z d (with_word (area_vars d z) v k x) d'
unfolding deps_at section
var_written z d d' v k x q room h l at e =
    let p : q ≡ vars_at z + 4 * (v * 12 + k) = omega arith in
    let s : 4 * (v * 12 + k) + 4 ≤ length (drop (vars_at z) d) = simp length-drop (omega arith) in
    record {
      front = ap (take (vars_at z)) e ∙ take_put_word (vars_at z) q x d (omega arith);
      behind = ap (drop (deps_at z)) e ∙ behind_put_word (deps_at z) q x d (omega arith);
      long = ap length e ∙ length_put_word d q x;
      records =
          ap (λ (b : List ℕ). records 12 z.vars (words (drop (vars_at z) b))) (e ∙ ap (λ (j : ℕ). put_word d j x) p)
          ∙ ap (λ (b : List ℕ). records 12 z.vars (words b)) (drop_put_word (vars_at z) (4 * (v * 12 + k)) x d)
          ∙ ap (records 12 z.vars) (words_set (v * 12 + k) (drop (vars_at z) d) x s)
          ∙ records_set 12 z.vars (words (drop (vars_at z) d)) v k x h l;
    }

-- ---- one change after the other

pub vars_stay : (z : Sizes) (b : List ℕ) → VarsAre z b (area_vars b z) b
vars_stay z b = record { front = refl; behind = refl; long = refl; records = refl }

-- the records are those that stand there
pub vars_own : (z : Sizes) (b b' : List ℕ) (rs : List (List ℕ)) → VarsAre z b rs b' → VarsAre z b (area_vars b' z) b'
vars_own z b b' rs p = record { front = p.front; behind = p.behind; long = p.long; records = refl }

pub vars_then : (z : Sizes) (b b₁ b₂ : List ℕ) (rs₁ rs₂ : List (List ℕ)) → VarsAre z b rs₁ b₁ → VarsAre z b₁ rs₂ b₂ → VarsAre z b rs₂ b₂
vars_then z b b₁ b₂ rs₁ rs₂ p q = record {
  front = q.front ∙ p.front;
  behind = q.behind ∙ p.behind;
  long = q.long ∙ p.long;
  records = q.records;
}

-- sizes that grow and grow again
pub grown_then : (z r w : Sizes) → Grown z r → Grown r w → Grown z w
grown_then z r w g h = record { nodes = h.nodes ∙ g.nodes; stmts = h.stmts ∙ g.stmts; vars = omega (arith, g.vars, h.vars); deps = h.deps ∙ g.deps }

-- a change of some variables, and then one of as many or more
pub vars_grow : (z r : Sizes) (b b₁ b₂ : List ℕ) (rs₁ rs₂ : List (List ℕ)) → Grown z r → VarsAre z b rs₁ b₁ → VarsAre r b₁ rs₂ b₂ → VarsAre r b rs₂ b₂
unfolding stmts_at vars_at deps_at
vars_grow z r b b₁ b₂ rs₁ rs₂ g p q =
    let same : vars_at r ≡ vars_at z = omega (arith, g.nodes, g.stmts) in
    let more = 48 * (r.vars - z.vars) in
    let end : deps_at r ≡ deps_at z + more = omega (arith, g.nodes, g.stmts, g.vars) in
    let rest : (d : List ℕ) → drop (deps_at r) d ≡ drop more (drop (deps_at z) d) = λ d. ap (λ (n : ℕ). drop n d) end ∙ sym (drop-drop more (deps_at z) d) in
    record {
      front = q.front ∙ ap (λ (n : ℕ). take n b₁) same ∙ p.front ∙ ap (λ (n : ℕ). take n b) (sym same);
      behind = q.behind ∙ rest b₁ ∙ ap (drop more) p.behind ∙ sym (rest b);
      long = q.long ∙ p.long;
      records = q.records;
    }

-- ---- columns of records with another word

-- the word's own
pub column_set : (rs : List (List ℕ)) (v k x : ℕ) → k < length (get_or rs v []) → column k (with_word rs v k x) ≡ set (column k rs) v x
unfolding column with_word word_of
column_set rs v k x h = map-set (λ r. get_or r k 0) rs v (set (get_or rs v []) k x) ∙ ap (set (map (λ r. get_or r k 0) rs) v) (get_or-set_same (get_or rs v []) k x 0 h)

-- every other
pub column_kept : (rs : List (List ℕ)) (v k j x : ℕ) → (j ≡ k → ⊥) → column j (with_word rs v k x) ≡ column j rs
unfolding column with_word word_of
column_kept rs v k j x h = map-set_same (λ r. get_or r j 0) rs v (set (get_or rs v []) k x) [] (get_or-set_other (get_or rs v []) k j x 0 h)

-- ---- the variables of an area

-- a column has a word of each
pub column_long : (z : Sizes) (b : List ℕ) (k : ℕ) → length (column k (area_vars b z)) ≡ z.vars
unfolding column
column_long z b k = length-map (area_vars b z) (λ r. word_of r k) ∙ length_section 12 z.vars (vars_at z) b

-- each has twelve words
record_twelve : (z : Sizes) (b : List ℕ) (v : ℕ) → deps_at z ≤ length b → v < z.vars → length (get_or (area_vars b z) v []) ≡ 12
unfolding deps_at
record_twelve z b v room h =
    every_at (λ r. length r ≡ 12) (area_vars b z) [] v (section_wide 12 z.vars (vars_at z) (48 * z.vars) (deps_at z) b (omega arith) refl room)
    (omega (arith, length_section 12 z.vars (vars_at z) b))

-- a word put into one stands in its column
column_put : (z : Sizes) (b b' : List ℕ) (v k x : ℕ) → deps_at z ≤ length b → v < z.vars → k < 12 → VarsAre z b (with_word (area_vars b z) v k x) b'
    → column k (area_vars b' z) ≡ set (column k (area_vars b z)) v x
column_put z b b' v k x room h l p = ap (column k) p.records ∙ column_set (area_vars b z) v k x (omega (arith, record_twelve z b v room h))

-- ---- one variable more

-- the first k of n records
first_records : (f : List ℕ → ℕ) (w k n : ℕ) (ws : List ℕ) → k ≤ n → take k (map f (records w n ws)) ≡ map f (records w k ws)
unfolding records
first_records f w zero n ws h = refl
first_records f w (suc k) zero ws h = absurd (omega arith)
first_records f w (suc k) (suc n) ws h = ap (λ (xs : List ℕ). f (take w ws) ∷ xs) (first_records f w k n (drop w ws) (omega arith))

-- a column begins with that of fewer variables
column_first : (z r : Sizes) (b : List ℕ) (k : ℕ) → Grown z r → take z.vars (column k (area_vars b r)) ≡ column k (area_vars b z)
unfolding column section stmts_at vars_at
column_first z r b k g =
    let same : vars_at r ≡ vars_at z = omega (arith, g.nodes, g.stmts) in
    first_records (λ x. word_of x k) 12 z.vars r.vars (words (drop (vars_at r) b)) g.vars
    ∙ ap (λ (n : ℕ). map (λ x. word_of x k) (records 12 z.vars (words (drop n b)))) same

-- a word put into the record behind those of z stands behind their column
pub column_next : (z r : Sizes) (b b' : List ℕ) (k x : ℕ) → Grown z r → r.vars ≡ z.vars + 1 → deps_at r ≤ length b → k < 12 → VarsAre r b (with_word (area_vars b r) z.vars k x) b'
    → column k (area_vars b' r) ≡ column k (area_vars b z) ++ x ∷ []
column_next z r b b' k x g one room l p =
    let long : length (column k (area_vars b r)) ≡ r.vars = column_long r b k in
    column_put r b b' z.vars k x room (omega arith) l p
    ∙ sym (take_all (suc z.vars) (set (column k (area_vars b r)) z.vars x) (simp length-set (omega arith)))
    ∙ take-suc-set (column k (area_vars b r)) z.vars x (omega arith)
    ∙ ap (λ (xs : List ℕ). xs ++ x ∷ []) (column_first z r b k g)
