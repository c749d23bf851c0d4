-- The variables' records of an area with what they hold: record by record, and as the bytes put into it.
use mathlib.Core.Path.{◌≡◌, refl, sym, ap, ap₂, ◌∙◌}
use mathlib.Core.List.{List, [], ◌∷◌, ◌++◌}
use Prim.Native.Nat.{ℕ, zero, suc, ◌+◌, ◌*◌, ◌≤◌, ◌<◌}
use native.Mathlib.Omega.{arith}
use lib.ListN.{length, take, drop, get_or, get_or-map, length-drop, take-append-drop}
use lib.Seq.{take-add, drop-cons, drop-drop, length-take-le, get_or-take, get_or-drop, ext_get_or}
use Rattle.functions.specs.Lists.{each, place}
use Rattle.ast.specs.Words.{records, section, word_of}
use Rattle.ast.specs.Bytes.{put}
use Rattle.ast.specs.Encode.{encode}
use Rattle.ast.proofs.Fields.{length_section}
use Rattle.area.specs.Sections.{vars_at, deps_at, area_stmts, area_vars, column, VarsAre}
use Rattle.area.specs.declared.sections.Sizes.{Sizes}
use Rattle.builder.specs.VarRecords.{with_held, held_in, held_from, HeldBehind, HeldChanged}
use Rattle.builder.proofs.laws.FateRecords.{AllBytes, bytes_back, section_first}
use Rattle.builder.proofs.laws.HeldSteps.{var_twelve, stmts_stay}

-- ---- a section as bytes

-- its records are the bytes that they were read from
section_encoded : (n p : ℕ) (d : List ℕ) → p + 48 * n ≤ length d → AllBytes d → encode (section 12 n p d) ≡ take (48 * n) (drop p d)
unfolding encode each section records
section_encoded zero p d h bs = refl
section_encoded (suc n) p d h bs =
    let f : AllBytes (drop p d) = λ j. rw (get_or-drop p d j 0) (bs (p + j)) in
    let e : 48 + 48 * n ≡ 48 * suc n = omega arith in
    ap encode (section_first 12 n p d)
    ∙ ap₂ ◌++◌ (bytes_back 12 (drop p d) (simp length-drop (omega arith)) f) (section_encoded n (p + 48) d (omega arith) bs ∙ ap (take (48 * n)) (sym (drop-drop 48 p d)))
    ∙ sym (take-add 48 (48 * n) (drop p d))
    ∙ ap (λ (k : ℕ). take k (drop p d)) e

-- an area with these records of variables has their bytes put in
pub vars_put : (z : Sizes) (b b' : List ℕ) (rs : List (List ℕ)) → deps_at z ≤ length b → AllBytes b' → VarsAre z b rs b' → b' ≡ put b (vars_at z) (encode rs)
unfolding put deps_at
vars_put z b b' rs room bs w =
    let m = 48 * z.vars in
    let there : vars_at z + m ≤ length b' = omega (arith, w.long) in
    let e : encode rs ≡ take m (drop (vars_at z) b') = ap encode (sym w.records) ∙ section_encoded z.vars (vars_at z) b' there bs in
    let l : length (encode rs) ≡ m = ap length e ∙ length-take-le m (drop (vars_at z) b') (simp length-drop (omega arith)) in
    sym (take-append-drop (vars_at z) b')
    ∙ ap₂ ◌++◌ w.front (sym (take-append-drop m (drop (vars_at z) b'))
    ∙ ap₂ ◌++◌ (sym e) (drop-drop m (vars_at z) b' ∙ w.behind ∙ ap (λ (k : ℕ). drop (vars_at z + k) b) (sym l)))

-- ---- record by record

-- a record with other words 5 and 6
held_record : (r r' : List ℕ) (x : ℕ × ℕ) → length r ≡ 12 → length r' ≡ 12 → get_or r' 5 0 ≡ x.0 → get_or r' 6 0 ≡ x.1
    → ((k : ℕ) → (k ≡ 5 → ⊥) → (k ≡ 6 → ⊥) → get_or r' k 0 ≡ get_or r k 0) → r' ≡ with_held r x
unfolding with_held
held_record r r' x l l' e₅ e₆ same =
    let front : take 5 r' ≡ take 5 r = ext_get_or 0 (take 5 r') (take 5 r) (length-take-le 5 r' (omega arith) ∙ sym (length-take-le 5 r (omega arith)))
    (λ k h. let n : k < 5 = omega (arith, length-take-le 5 r' (omega arith)) in get_or-take 5 r' k 0 n ∙ same k (λ s. omega arith) (λ s. omega arith) ∙ sym (get_or-take 5 r k 0 n)) in
    let behind : drop 7 r' ≡ drop 7 r = ext_get_or 0 (drop 7 r') (drop 7 r) (simp length-drop (omega arith))
    (λ k h. get_or-drop 7 r' k 0 ∙ same (7 + k) (λ s. omega arith) (λ s. omega arith) ∙ sym (get_or-drop 7 r k 0)) in
    sym (take-append-drop 5 r')
    ∙ ap₂ ◌++◌ front (drop-cons r' 5 0 (omega arith) ∙ ap₂ ◌∷◌ e₅ (drop-cons r' 6 0 (omega arith) ∙ ap₂ ◌∷◌ e₆ behind))

length_held : (rs : List (List ℕ)) (v : ℕ) (ws : List (List ℕ)) → length (held_from rs v ws) ≡ length ws
unfolding held_from
length_held rs v [] = refl
length_held rs v (w ∷ ws) = ap suc (length_held rs (suc v) ws)

get_or_held : (rs : List (List ℕ)) (v : ℕ) (ws : List (List ℕ)) (j : ℕ) → j < length ws → get_or (held_from rs v ws) j [] ≡ with_held (get_or ws j []) (held_in rs (v + j))
unfolding held_from
get_or_held rs v [] j h = absurd (omega arith)
get_or_held rs v (w ∷ ws) zero h = let e : v ≡ v + 0 = omega arith in ap (λ (n : ℕ). with_held w (held_in rs n)) e
get_or_held rs v (w ∷ ws) (suc j) h =
    let e : suc v + j ≡ v + suc j = omega arith in
    get_or_held rs (suc v) ws j (omega arith) ∙ ap (λ (n : ℕ). with_held (get_or ws j []) (held_in rs n)) e

-- once all statements are gone through
module _ (z : Sizes) (b b' : List ℕ) (t : HeldBehind z 0 b') (c : HeldChanged z b b') where
  -- a word of a column is a record's
  column_word : (d : List ℕ) (k v : ℕ) → get_or (column k (area_vars d z)) v 0 ≡ get_or (get_or (area_vars d z) v []) k 0
  unfolding column word_of
  column_word d k v = get_or-map (λ r. word_of r k) (area_vars d z) v []

  room : deps_at z ≤ length b
  room = omega (arith, t.long, c.changed.long)

  held_records : area_vars b' z ≡ held_from (area_stmts b z) 0 (area_vars b z)
  unfolding held_in place
  held_records =
      ext_get_or [] (area_vars b' z) (held_from (area_stmts b z) 0 (area_vars b z))
      (length_section 12 z.vars (vars_at z) b' ∙ sym (length_held (area_stmts b z) 0 (area_vars b z) ∙ length_section 12 z.vars (vars_at z) b))
      (λ v h.
      let l : v < z.vars = omega (arith, length_section 12 z.vars (vars_at z) b') in
      let s = stmts_stay z b b' _ room c.changed in
      let e : 0 + v ≡ v = omega arith in
      held_record (get_or (area_vars b z) v []) (get_or (area_vars b' z) v []) (held_in (area_stmts b z) v) (var_twelve z b v room l) (var_twelve z b' v t.long l)
      (sym (column_word b' 5 v) ∙ rw s at (t.held v l))
      (sym (column_word b' 6 v) ∙ rw s at (t.initial v l))
      (λ k m n. sym (column_word b' k v) ∙ ap (λ (x : List ℕ). get_or x v 0) (c.kept k m n) ∙ column_word b k v)
      ∙ sym (rw e at (get_or_held (area_stmts b z) 0 (area_vars b z) v (omega (arith, length_section 12 z.vars (vars_at z) b)))))

  -- what they hold is put in
  pub held_put : AllBytes b' → b' ≡ put b (vars_at z) (encode (held_from (area_stmts b z) 0 (area_vars b z)))
  held_put bs = vars_put z b b' (area_vars b' z) room bs c.changed ∙ ap (λ (rs : List (List ℕ)). put b (vars_at z) (encode rs)) held_records
