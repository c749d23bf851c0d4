use native.Mathlib.Omega.{arith}
use mathlib.Core.Path.{refl, ◌∙◌}
use mathlib.Core.List.{[], ◌∷◌}
use Rattle.area.specs.Sections.{stmts_at, vars_at, deps_at}
use Rattle.builder.specs.VarRecords.{head_words}
use Rattle.area.proofs.Puts.{put_more}
use Rattle.builder.proofs.variables.records.write_header.Goals as goal

pub put_counts-requires : goal.put_counts-requires
unfolding stmts_at vars_at deps_at
put_counts-requires c = let p = c.requires in
    (p.small, omega (arith, p.long), p.counted, p.instances)

pub put_time_bounds-requires : goal.put_time_bounds-requires
unfolding stmts_at vars_at deps_at
put_time_bounds-requires c = let p = c.requires in
    (p.model, rw c.var-name.ensures p.timed, omega (arith, p.long, c.put_counts.auto.area))

pub returns : goal.returns
unfolding head_words stmts_at vars_at deps_at
returns c = let a = c.args in
    let z = a.root.sizes in
    let var-of = c.var-name in
    let e = c.put_time_bounds.ensures ∙ put_more a.area.now _ (z.nodes ∷ z.stmts ∷ z.vars ∷ z.deps ∷ a.errors ∷ a.root.instances ∷ []) 0 24 refl c.put_counts.ensures _ (omega (arith, c.requires.long)) in
    rw var-of.ensures at e
