use native.Mathlib.Omega.{arith}
use Rattle.builder.proofs.laws.VarsLaid.{vars_named, marks_needs, vars_laid}
use Rattle.builder.proofs.variables.laid.lay_vars.Goals as goal

pub write_vars-deps-requires : goal.write_vars-deps-requires
write_vars-deps-requires c = let a = c.args in
    let p = c.requires in
    let l = c.roster_of-named.ensures in
    (p.0, record { opened = a.names.now.file.opened; model = p.0; numbered = l.listing.numbers; long = l.listing.every }, vars_named a.names.now.file.bytes.now a.names.now.file.sections a.names.now.file.opened a.m a.n a.q a.area.now _ _ _ p.1 l)

pub reach_time-requires : goal.reach_time-requires
reach_time-requires c = let a = c.args in
    let p = c.requires in
    let l = c.roster_of-named.ensures in
    let (count, bytes) = c.write_vars-deps.ensures in
    marks_needs a.names.now.file.bytes.now a.names.now.file.sections a.names.now.file.opened a.m a.n a.q a.area.now _ _ _ p.1 l _ _ count bytes

pub returns : goal.returns
returns c = let a = c.args in
    let p = c.requires in
    let l = c.roster_of-named.ensures in
    let (count, bytes) = c.write_vars-deps.ensures in
    (vars_laid a.names.now.file.bytes.now a.names.now.file.sections a.names.now.file.opened a.m a.n a.q a.area.now _ _ _ p.1 l _ _ count bytes _ (λ j. omega (arith, c.slice_known-6-1.given j)) c.reach_time.ensures, (l.listing.numbers, l.listing.every))
