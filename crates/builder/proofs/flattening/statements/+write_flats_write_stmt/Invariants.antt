use Rattle.builder.proofs.laws.Writing.{Writing}
use mathlib.Core.Path.{◌≡◌}
use Prim.Native.Nat.{ℕ, ◌+◌, ◌*◌}
use Rattle.builder.proofs.flattening.statements.+write_flats_write_stmt.Given as goal

abbrev pub decreases-write_flats : goal.decreases-write_flats
decreases-write_flats l = 2 * l.k

abbrev pub decreases-write_stmt : goal.decreases-write_stmt
decreases-write_stmt l = 2 * l.k + 1

abbrev pub invariant-write_flats-loop-q : goal.invariant-write_flats-loop-q
invariant-write_flats-loop-q l = (i : ℕ) × (l.q ≡ l.first + i) × Writing l.calls.file.bytes.now l.calls.file.sections l.k l.m l.initial.rows l.level l.initial.out l.initial.total l.rows l.out l.total i
