-- Flattened statements as code brings them in: each model's own statements once, with the replacements of all levels applied.
use mathlib.Core.Path.{◌≡◌, refl, ap, ◌∙◌}
use Prim.Native.Nat.{ℕ}
use mathlib.Core.List.{List, [], ◌∷◌, ◌++◌, map, map-append}
use mathlib.Core.Option.{some}
use Rattle.functions.specs.Lists.{each}
use Rattle.ast.specs.Tree.{Span, Args, Flat, submodel, File}
use Rattle.ast.specs.Subst.{Replacements, subst_flat}
use Rattle.ast.specs.Levels.{through_flat}
use Rattle.ast.proofs.OneWalk.{flat_subst, flat_none}
use Rattle.definitions.specs.Flatten.{replacements, model_named, model_at, stmt_flats, sub_flats}

-- statement by statement
pub map_each : {A B C : Type 0} (g : B → C) (h : A → List B) (xs : List A) → map g (each h xs) ≡ each (λ x. map g (h x)) xs
unfolding each
map_each g h [] = refl
map_each g h (x ∷ xs) = map-append g (h x) (each h xs) ∙ ap (λ ys. map g (h x) ++ ys) (map_each g h xs)

map_subst : (by : Replacements) (levels : List Replacements) (qs : List Flat) → map (through_flat levels) (map (subst_flat by) qs) ≡ map (through_flat (by ∷ levels)) qs
map_subst by levels [] = refl
map_subst by levels (q ∷ qs) = rw (map_subst by levels qs, flat_subst by levels q) refl

pub map_none : (qs : List Flat) → map (through_flat []) qs ≡ qs
map_none [] = refl
map_none (q ∷ qs) = rw (flat_none q, map_none qs) refl

module _ (f : File) (sub : ℕ → List Flat) (levels : List Replacements) where
  module _ (n : ℕ) (a : Args) (c s : Span) where
    -- a submodel's statements come in one level deeper
    pub flats_found : (m : ℕ) → model_named f n ≡ some m
        → map (through_flat levels) (stmt_flats f sub (submodel n a c s)) ≡ map (through_flat (replacements (model_at f m).unknowns a ∷ levels)) (sub m)
    unfolding stmt_flats sub_flats
    flats_found m e = ap (λ o. map (through_flat levels) (sub_flats f sub a o)) e ∙ map_subst _ levels (sub m)
