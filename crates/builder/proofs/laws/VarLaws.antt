-- A variable's record: its time index is a word, its bounds, and its two parts one behind the other.
use mathlib.Core.Path.{◌≡◌, refl, ap, ◌∙◌}
use mathlib.Core.Bool.{true, false}
use mathlib.Core.List.{List, [], ◌∷◌, ◌++◌}
use mathlib.Core.Option.{Option, none, some}
use Prim.Native.Nat.{ℕ, zero, suc, ◌+◌, ◌-◌, ◌*◌, ◌≤◌, ◌<◌}
use native.Mathlib.Omega.{arith}
use borrow.Author.Tests.{eq-eqb, ne_eqb}
use lib.ListN.{length, take, drop, length-drop}
use Rattle.std.specs.Prelude.{IfSome}
use Rattle.std.specs.declared.option.Option as answer
use Rattle.functions.specs.Lists.{plus_one}
use Rattle.ast.specs.Tree.{Unknown}
use Rattle.ast.specs.Words.{bytes_of}
use Rattle.ast.specs.Bytes.{put}
use Rattle.definitions.specs.Variables.{Bounds, last_bounds, last_time}
use Rattle.definitions.specs.Answer.{bounds_words}
use Rattle.builder.specs.Bounding.{bounds_from}
use Rattle.builder.specs.VarRecords.{var_bounds}
use Rattle.builder.specs.VariableTables.{words_from}
use Rattle.builder.specs.Starting.{place_as}
use Rattle.builder.proofs.laws.Timing.{length_from}
use Rattle.builder.proofs.laws.Ranges.{place_within}
use Rattle.area.proofs.Puts.{put_more, lent_all}

-- ---- a time index is a word

-- the place of the last t, plus 1, is no more than the words there are
last_most : (ds : List ℕ) (i n : ℕ) (o : Option ℕ) → plus_one o ≤ n → i + length ds ≤ n → plus_one (last_time i o ds) ≤ n
unfolding last_time plus_one
last_most [] i n o h l = h
last_most (zero ∷ ds) i n o h l = last_most ds (suc i) n (some i) (omega arith) (omega arith)
last_most (suc d ∷ ds) i n o h l = last_most ds (suc i) n o h (omega arith)

-- of the dependents' bytes lent from byte p on, in an area d
module _ (d : List ℕ) (p q first end : ℕ) (order : first ≤ end) (few : end ≤ 1024) (room : p + 4 * end ≤ length d) (e : q ≡ p) where
  lent : take (length d - q) (drop q d) ≡ drop p d
  lent = rw e (lent_all d p)

  within : 4 * end ≤ length (drop p d)
  within = simp length-drop (omega arith)

  module _ (r : answer.Option ℕ) (g : place_as r ≡ last_time 0 none (words_from (take (length d - q) (drop q d)) first end)) where
    pub index_is : plus_one (place_as r) ≡ plus_one (last_time 0 none (words_from (drop p d) first end))
    index_is = ap plus_one (rw lent at g)

    pub index_fits : IfSome r (λ i. i < 1024)
    index_fits =
        let k : length (words_from (drop p d) first end) ≡ end - first = length_from (drop p d) first end order within in
        let m : plus_one (last_time 0 none (words_from (drop p d) first end)) ≤ end = last_most (words_from (drop p d) first end) 0 end none (unfold plus_one in omega arith) (omega (arith, k)) in
        place_within r 1024 (omega (arith, index_is, m))

-- ---- bounds of a variable

module _ (texts : List (List ℕ)) (us : List Unknown) (name : ℕ) where
  pub bounds_of_time : (v : ℕ) → v ≡ 0 → var_bounds texts us v name ≡ bounds_from true
  unfolding var_bounds bounds_from
  bounds_of_time v e = rw (eq-eqb v 0 e) refl

  pub bounds_of_other : (v : ℕ) → (v ≡ 0 → ⊥) → var_bounds texts us v name ≡ last_bounds texts name (bounds_from false) us
  unfolding var_bounds bounds_from
  bounds_of_other v e = rw (ne_eqb v 0 e) refl

-- ---- a record's two parts

-- the lead's words, then the bounds
pub lead_and_bounds : (d d₁ d₂ ws : List ℕ) (at : ℕ) (b : Bounds) → length ws ≡ 8 → at ≤ length d
    → d₁ ≡ put d at (bytes_of ws) → d₂ ≡ put d₁ (at + 32) (bytes_of (bounds_words b)) → d₂ ≡ put d at (bytes_of (ws ++ bounds_words b))
lead_and_bounds d d₁ d₂ ws at b l h e₁ e₂ = e₂ ∙ put_more d d₁ ws at (at + 32) (omega arith) e₁ (bounds_words b) h
