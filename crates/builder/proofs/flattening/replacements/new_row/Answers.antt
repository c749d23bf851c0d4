use Rattle.builder.proofs.laws.Replacing.{cleared}
use Rattle.builder.proofs.flattening.replacements.new_row.Goals as goal

pub fill_row-requires : goal.fill_row-requires
fill_row-requires c = let p = c.requires in
    let z = cleared _ _ c.args.row.now _ p.0.opened p.1.long p.1.fit (c.fill.ensures.after (λ y e. e)) in
    (p.0, z.0, z.1)
