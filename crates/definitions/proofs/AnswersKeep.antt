-- Every accepted answer's area keeps its layout, with zeros behind it.
use mathlib.Core.Path.{◌≡◌, refl, sym, ap, ◌∙◌}
use mathlib.Core.Bool.{true}
use mathlib.Core.List.{List, ◌++◌, map}
use Prim.Native.Nat.{ℕ, zero, suc, ◌+◌, ◌-◌, ◌≤◌, ◌<◌}
use native.Mathlib.Omega.{arith}
use borrow.Author.Tests.{ltb-true, lt-ltb, le-leb}
use lib.Dec.{ltb}
use lib.ListN.{length, take, replicate}
use lib.Seq.{drop_at}
use Rattle.functions.specs.Lists.{all, sum_of}
use Rattle.ast.specs.Words.{word_of, span_from, in_order}
use Rattle.ast.proofs.FromBytes.{length_each, every_each}
use Rattle.ast.proofs.ToBytes.{every_take}
use Rattle.definitions.specs.Numbers.{most_names, most_nodes, most_stmts, most_variables, most_deps, most_listed, most_instances}
use Rattle.definitions.specs.Variables.{Variable, Error}
use Rattle.definitions.specs.Answer.{Answer, header, node_count, deps_of, error_words, area_of, answer_bytes}
use Rattle.definitions.specs.Area.{nodes_from, stmts_from, vars_from, deps_from, errors_from, area_end, sections_in, header_in, read_area, InArea, WithinMosts, are_bytes}
use Rattle.definitions.specs.Layout.{plain, most_kind, counts_fit, nodes_at, stmts_at, vars_at, deps_at, errors_at, end_at, records_at, zeros, sections_fit, error_fits, records_fit, headed_fits, keeps_layout}
use Rattle.definitions.specs.Build.{accepted, answer, build, result_area}
use Rattle.definitions.proofs.Accepted.{written_of}
use Rattle.definitions.proofs.Area.{in_area, read_back, fate_each}
use Rattle.definitions.proofs.Lengths.{length_answer}
use Rattle.definitions.proofs.Mosts.{within_mosts_lem}
use Rattle.definitions.proofs.Everywhere.{all_true, all_map}
use Rattle.definitions.proofs.Sound.{Byte}
use Rattle.definitions.proofs.SoundErrors.{SoundError}
use Rattle.definitions.proofs.SoundVariables.{SoundVariable}
use Rattle.definitions.proofs.SoundAnswer.{SoundAnswer, sound_answer, true_all}
use Rattle.definitions.proofs.FlatsFit.{all_flats_fit}
use Rattle.definitions.proofs.VariablesFit.{NamesApart, names_apart, names_differ_lem, variables_fit_lem}

-- any number of zeros are zeros
zeros_replicate : (k : ℕ) → zeros (replicate k 0) ≡ true
unfolding zeros all
zeros_replicate zero = refl
zeros_replicate (suc k) = zeros_replicate k

-- a sound error's record passes
error_fits_lem : (names : ℕ) → names ≤ most_names → (e : Error) → SoundError names e → error_fits most_kind (error_words e) ≡ true
unfolding error_fits error_words word_of span_from in_order
error_fits_lem names few e x =
    simp (le-leb 1 e.kind x.some_kind, le-leb e.kind most_kind x.kind, x.span.0, le-leb e.name most_names (omega (arith, x.name)))

-- ---- an answer's records

module _ (names : ℕ) (a : Answer) (x : SoundAnswer names a) (w : WithinMosts a) (apart : NamesApart a) (same : length a.fates ≡ length a.stmts) where
  -- the counts are within the mosts
  counts_fit_lem : counts_fit (header a) ≡ true
  unfolding counts_fit header word_of
  counts_fit_lem =
      simp (
        le-leb (node_count a) most_nodes w.nodes,
        le-leb (length a.stmts) most_stmts w.stmts,
        le-leb (length a.vars) most_variables w.vars,
        le-leb (length (deps_of a)) most_deps w.deps,
        le-leb a.instances most_instances w.instances,
      )

  -- the runs are as long as the dependents
  deps_sum : 0 + sum_of (λ v. length v.deps) a.vars ≡ length (deps_of a)
  unfolding deps_of
  deps_sum = omega (arith, length_each (λ (v : Variable). v.deps) a.vars)

  -- each dependent is a variable's number
  deps_fit : all (λ d. ltb d (length a.vars)) (deps_of a) ≡ true
  unfolding deps_of
  deps_fit =
      true_all (λ (d : ℕ). d < length a.vars) (λ d. ltb d (length a.vars)) (λ d l. lt-ltb d (length a.vars) l) (deps_of a)
      (every_each (λ (d : ℕ). d < length a.vars) (SoundVariable names (length a.vars)) (λ v. v.deps) (λ v y. y.deps) a.vars x.vars)

  -- the listed errors pass
  errors_fit : all (error_fits most_kind) (map error_words (take most_listed a.errors)) ≡ true
  errors_fit =
      true_all (λ (r : List ℕ). error_fits most_kind r ≡ true) (error_fits most_kind) (λ r e. e) (map error_words (take most_listed a.errors))
      (all_map (SoundError names) (λ (r : List ℕ). error_fits most_kind r ≡ true) error_words (error_fits_lem names x.few_names) (take most_listed a.errors)
      (every_take (SoundError names) most_listed a.errors x.errors))

  -- all records pass
  records_fit_lem : records_fit most_kind (area_of a) ≡ true
  unfolding records_fit area_of header node_count word_of
  records_fit_lem =
      let flats = all_flats_fit names x.few_names (length a.vars) a.stmts a.fates x.stmts x.fates same in
      let vars = variables_fit_lem names x.few_names a (length a.stmts) (length (deps_of a)) same (length a.vars) 0 0 a.vars x.vars deps_sum in
      simp (flats.0, flats.1, vars, names_differ_lem a 0 0 a.vars apart, deps_fit, errors_fit)

  -- ---- its area, with k zeros behind

  module _ (k : ℕ) where
    abbrev b : List ℕ
    b = answer_bytes a ++ replicate k 0

    -- it holds the answer
    there : InArea b a
    there = in_area a (replicate k 0) same

    -- its sections end where the answer's bytes do
    end_is : end_at plain (header a) ≡ area_end (header a)
    unfolding end_at errors_at deps_at vars_at stmts_at nodes_at area_end errors_from deps_from vars_from stmts_from nodes_from
    end_is = refl

    -- they fit, with the zeros behind
    sections_fit_lem : sections_fit (end_at plain (header a)) b ≡ true
    unfolding sections_fit
    sections_fit_lem =
        let fits = le-leb (end_at plain (header a)) (length b) (rw end_is there.fits) in
        let behind = drop_at (answer_bytes a) (replicate k 0) (end_at plain (header a)) (length_answer a same ∙ sym end_is) in
        simp (fits, behind, zeros_replicate k)

    -- its header and its records are the answer's
    header_is : header_in b ≡ header a
    header_is = there.header_is

    records_are : records_at plain (header a) b ≡ area_of a
    unfolding records_at read_area sections_in errors_at deps_at vars_at stmts_at nodes_at errors_from deps_from vars_from stmts_from nodes_from
    records_are = sym (ap (λ (h : List ℕ). sections_in h b) header_is) ∙ read_back b a there

    -- so all of it passes
    headed_fits_lem : headed_fits plain most_kind (header a) b ≡ true
    unfolding headed_fits
    headed_fits_lem = rw (counts_fit_lem, sections_fit_lem, records_are) records_fit_lem

    keeps : keeps_layout plain most_kind b ≡ true
    unfolding keeps_layout header_in
    keeps = ap (λ (h : List ℕ). headed_fits plain most_kind h b) header_is ∙ headed_fits_lem

-- ---- of every accepted build

-- The area of an answer that is accepted keeps its layout, however many zeros stand behind it.
pub answers_keep : (file root : List ℕ) (a : Answer) (k : ℕ) → are_bytes file ≡ true → answer file root ≡ accepted a
    → keeps_layout plain most_kind (answer_bytes a ++ replicate k 0) ≡ true
unfolding are_bytes
answers_keep file root a k hf h =
    let hb = all_true Byte (λ n. ltb n 256) (λ n e. ltb-true n 256 e) file hf in
    let (names, x) = sound_answer file root a hb h in
    keeps names a x (within_mosts_lem file root a h) (names_apart file root a h) (fate_each file root a h) k

-- the bytes that were written, in their room
written_keeps : (file root : List ℕ) (room : ℕ) (b : List ℕ) (a : Answer) → are_bytes file ≡ true → answer file root ≡ accepted a → b ≡ answer_bytes a
    → keeps_layout plain most_kind (result_area room (accepted b)) ≡ true
unfolding result_area
written_keeps file root room b a hf h e = rw e (answers_keep file root a (room - length (answer_bytes a)) hf h)

-- So does the whole area after a build that is accepted.
pub builds_keep : (file root : List ℕ) (room : ℕ) (b : List ℕ) → are_bytes file ≡ true → build file root room ≡ accepted b
    → keeps_layout plain most_kind (result_area room (build file root room)) ≡ true
builds_keep file root room b hf h =
    let w = written_of file root room b h in
    rw h (written_keeps file root room b w.result hf w.is_answer w.is_written)
