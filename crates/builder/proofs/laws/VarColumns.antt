-- What the variables' records in an area say of the variables: names, states, time indexes, which a rate equation may go to, and what they hold.
use mathlib.Core.Path.{◌≡◌, refl, ap, ◌∙◌}
use mathlib.Core.Bool.{Bool, ◌&&◌}
use mathlib.Core.List.{List, [], ◌∷◌, map}
use Prim.Native.Nat.{ℕ, zero, suc, ◌+◌, ◌<◌}
use native.Mathlib.Omega.{arith}
use lib.Dec.{eqb}
use lib.ListN.{length, get_or}
use Rattle.functions.specs.Lists.{plus_one, flag}
use Rattle.ast.specs.Words.{word_of}
use Rattle.ast.proofs.FromBytes.{Wide}
use Rattle.area.specs.Sections.{column}
use Rattle.definitions.specs.Variables.{Variable, at, is_state, time_index, time_dependent}
use Rattle.definitions.specs.Allocate.{held_by, conditions}
use Rattle.definitions.specs.Answer.{Answer, variable_words, variable_records}
use Rattle.builder.specs.VarRecords.{unheld_words, unheld_from, unheld_records}
use Rattle.definitions.proofs.Lengths.{variables_wide, count_variables}
use Rattle.builder.proofs.laws.VarAnswers.{Twelves, unheld_twelves, count_unheld, column_name, column_state, column_index, column_rate, names_stay_lem, states_stay, indexes_stay, rates_stay}

-- The records `ws` of the variables `vs`.
pub record Columns (vs : List Variable) (ws : List (List ℕ)) : Type 0 where
  pub name : (v : ℕ) → v < length vs → get_or (column 0 ws) v 0 ≡ (at vs v).name
  pub state : (v : ℕ) → v < length vs → get_or (column 1 ws) v 0 ≡ flag (is_state (at vs v))
  pub index : (v : ℕ) → v < length vs → get_or (column 2 ws) v 0 ≡ plus_one (time_index (at vs v))
  pub rate : (v : ℕ) → v < length vs → get_or (map (λ r. flag (eqb (word_of r 1) 1 && eqb (word_of r 7) 1)) ws) v 0 ≡ flag (is_state (at vs v) && time_dependent vs v)
  pub wide : Wide 12 ws
  pub many : length ws ≡ length vs

pub twelves_wide : (rs : List (List ℕ)) → Twelves rs → Wide 12 rs
twelves_wide [] h = tt
twelves_wide (r ∷ rs) h = (h.0, twelves_wide rs h.1)

-- before it is known what they hold
pub unheld_columns : (vs : List Variable) → Columns vs (unheld_records vs)
unheld_columns vs = record {
  name = column_name vs;
  state = column_state vs;
  index = column_index vs;
  rate = column_rate vs;
  wide = twelves_wide (unheld_records vs) (unheld_twelves vs);
  many = count_unheld vs;
}

-- and in the answer
pub held_columns : (a : Answer) (vs : List Variable) → vs ≡ a.vars → Columns vs (variable_records a 0 0 vs)
held_columns a vs e = record {
  name = λ v l. ap (λ (c : List ℕ). get_or c v 0) (names_stay_lem a vs e) ∙ column_name vs v l;
  state = λ v l. ap (λ (c : List ℕ). get_or c v 0) (states_stay a vs e) ∙ column_state vs v l;
  index = λ v l. ap (λ (c : List ℕ). get_or c v 0) (indexes_stay a vs e) ∙ column_index vs v l;
  rate = λ v l. ap (λ (c : List ℕ). get_or c v 0) (rates_stay a vs e) ∙ column_rate vs v l;
  wide = variables_wide a 0 0 vs;
  many = count_variables a 0 0 vs;
}

-- ---- what they hold, in words 5 and 6

-- nothing yet
module _ (timed : ℕ → Bool) (k : ℕ) (h : (i first : ℕ) (x : Variable) → word_of (unheld_words timed i first x) k ≡ 0) where
  none_from : (vs : List Variable) (i first v : ℕ) → get_or (column k (unheld_from timed i first vs)) v 0 ≡ 0
  unfolding column unheld_from
  none_from [] i first v = refl
  none_from (x ∷ vs) i first zero = h i first x
  none_from (x ∷ vs) i first (suc v) = none_from vs (suc i) (first + length x.deps) v

pub unheld_held : (vs : List Variable) (v : ℕ) → get_or (column 5 (unheld_records vs)) v 0 ≡ 0
unfolding unheld_records unheld_words word_of
unheld_held vs v = none_from (time_dependent vs) 5 (λ i first x. refl) vs 0 0 v

pub unheld_initial : (vs : List Variable) (v : ℕ) → get_or (column 6 (unheld_records vs)) v 0 ≡ 0
unfolding unheld_records unheld_words word_of
unheld_initial vs v = none_from (time_dependent vs) 6 (λ i first x. refl) vs 0 0 v

-- in the answer, what the fates say
module _ (a : Answer) (k : ℕ) (g : ℕ → ℕ) (h : (i first : ℕ) (x : Variable) → word_of (variable_words a i first x) k ≡ g i) where
  words_from_lem : (vs : List Variable) (i first v : ℕ) → v < length vs → get_or (column k (variable_records a i first vs)) v 0 ≡ g (i + v)
  unfolding column variable_records
  words_from_lem [] i first v l = absurd (omega arith)
  words_from_lem (x ∷ vs) i first zero l = let e : i ≡ i + 0 = omega arith in h i first x ∙ ap g e
  words_from_lem (x ∷ vs) i first (suc v) l =
      let e : suc i + v ≡ i + suc v = omega arith in
      words_from_lem vs (suc i) (first + length x.deps) v (omega arith) ∙ ap g e

module _ (a : Answer) (vs : List Variable) (v : ℕ) (l : v < length vs) where
  pub answer_held : get_or (column 5 (variable_records a 0 0 vs)) v 0 ≡ held_by a.fates v
  unfolding variable_words word_of
  answer_held =
      let e : 0 + v ≡ v = omega arith in
      words_from_lem a 5 (λ i. held_by a.fates i) (λ i first x. refl) vs 0 0 v l ∙ ap (λ (i : ℕ). held_by a.fates i) e

  pub answer_initial : get_or (column 6 (variable_records a 0 0 vs)) v 0 ≡ conditions a.fates v
  unfolding variable_words word_of
  answer_initial =
      let e : 0 + v ≡ v = omega arith in
      words_from_lem a 6 (λ i. conditions a.fates i) (λ i first x. refl) vs 0 0 v l ∙ ap (λ (i : ℕ). conditions a.fates i) e
