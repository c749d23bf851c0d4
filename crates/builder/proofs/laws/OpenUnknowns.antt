-- What an open file says by number: the run of a model's unknowns, an unknown's name and its run of dependents.
use mathlib.Core.Path.{◌≡◌, refl, sym, ap, ◌∙◌}
use mathlib.Core.List.{List, []}
use Prim.Native.Nat.{ℕ, ◌+◌, ◌≤◌, ◌<◌}
use native.Mathlib.Omega.{arith}
use lib.ListN.{length, get_or}
use Rattle.ast.specs.Tree.{unstated, Unknown}
use Rattle.ast.specs.Words.{word_of}
use Rattle.ast.specs.Records.{first_dep, dep_count, unknown_of, first_unknown, unknown_count}
use Rattle.ast.specs.Opens.{Open, contents_in}
use Rattle.ast.specs.declared.sections.Sections.{Sections}
use Rattle.builder.specs.VariableTables.{unknowns_in, unknown_in}
use Rattle.builder.proofs.laws.OpenRecords.{dep_below, model_is, unknown_is, listed_below}

-- an unknown that stands for none
pub no_unknown : Unknown
no_unknown = record { name = 0; deps = []; domain = unstated; span = record { from = 0; to = 0 } }

module _ (f : List ℕ) (s : Sections) (o : Open f s) where
  -- ---- unknown u

  module _ (u : ℕ) (h : u < s.counts.unknowns) where
    -- its name
    pub unknown_name_lem : (unknown_in f s u).name ≡ word_of (get_or (contents_in f s).unknowns u []) 0
    unfolding unknown_in unknown_of
    unknown_name_lem = refl

    -- how many it lists
    pub unknown_deps_count : length (unknown_in f s u).deps ≡ dep_count (get_or (contents_in f s).unknowns u [])
    unfolding unknown_in
    unknown_deps_count = (unknown_is f s o u h).deps_long

    -- and dependent j of them
    pub unknown_dep : (j : ℕ) → j < dep_count (get_or (contents_in f s).unknowns u []) → get_or (unknown_in f s u).deps j 0 ≡ get_or (contents_in f s).deps (first_dep (get_or (contents_in f s).unknowns u []) + j) 0
    unfolding unknown_in
    unknown_dep j l = (unknown_is f s o u h).dep j l

  -- the same, by the words that give the run
  module _ (u : ℕ) (h : u < s.counts.unknowns) (first count : ℕ) (ef : first ≡ word_of (get_or (contents_in f s).unknowns u []) 1) (ec : count ≡ word_of (get_or (contents_in f s).unknowns u []) 2) where
    pub deps_within : first + count ≤ s.counts.deps
    deps_within = rw (ef, ec) (unknown_is f s o u h).deps_within

    pub deps_count : length (unknown_in f s u).deps ≡ count
    deps_count = rw ec (unknown_deps_count u h)

    pub deps_at_lem : (i k d : ℕ) → k ≡ first + i → i < count → d ≡ get_or (contents_in f s).deps k 0 → (d ≡ get_or (unknown_in f s u).deps i 0) × (d < s.counts.names)
    deps_at_lem i k d ek l e =
        let p : d ≡ get_or (contents_in f s).deps (first + i) 0 = rw ek at e in
        (p ∙ sym (rw (← ef) at (unknown_dep u h i (rw ec at l))), omega (arith, p, dep_below f s o (first + i) (omega (arith, deps_within))))

  -- every dependent that an unknown lists is a name
  pub unknown_deps_below : (u : ℕ) → u < s.counts.unknowns → (j : ℕ) → j < length (unknown_in f s u).deps → get_or (unknown_in f s u).deps j 0 < s.counts.names
  unfolding unknown_in
  unknown_deps_below u h j l = listed_below f s o u h j l

  -- ---- model m

  module _ (m : ℕ) (h : m < s.counts.models) where
    -- how many it has
    pub model_unknowns_count : length (unknowns_in f s m) ≡ unknown_count (get_or (contents_in f s).models m [])
    unfolding unknowns_in
    model_unknowns_count = (model_is f s o m h).unknowns_long

    -- and unknown i of them
    pub model_unknown : (i : ℕ) (d : Unknown) → i < unknown_count (get_or (contents_in f s).models m []) → get_or (unknowns_in f s m) i d ≡ unknown_in f s (first_unknown (get_or (contents_in f s).models m []) + i)
    unfolding unknowns_in unknown_in
    model_unknown i d l = (model_is f s o m h).unknown i d l

    -- the same, by the words that give the run
    module _ (first count : ℕ) (ef : first ≡ word_of (get_or (contents_in f s).models m []) 1) (ec : count ≡ word_of (get_or (contents_in f s).models m []) 2) where
      pub run_within : first + count ≤ s.counts.unknowns
      run_within = rw (ef, ec) (model_is f s o m h).unknowns_within

      pub run_count : length (unknowns_in f s m) ≡ count
      run_count = rw ec model_unknowns_count

      pub run_unknown : (i u : ℕ) → u ≡ first + i → i < count → get_or (unknowns_in f s m) i no_unknown ≡ unknown_in f s u
      run_unknown i u eu l = rw (eu, ef) (model_unknown i no_unknown (rw ec at l))

      pub run_name : (i u n : ℕ) → u ≡ first + i → i < count → n ≡ word_of (get_or (contents_in f s).unknowns u []) 0 → ((get_or (unknowns_in f s m) i no_unknown).name ≡ n) × (n < s.counts.names)
      run_name i u n eu l e =
          let h : u < s.counts.unknowns = omega (arith, run_within, eu) in
          let q : (unknown_in f s u).name ≡ n = unknown_name_lem u h ∙ sym e in
          (ap (λ (u : Unknown). u.name) (run_unknown i u eu l) ∙ q, omega (arith, (unknown_is f s o u h).name_below, e))
