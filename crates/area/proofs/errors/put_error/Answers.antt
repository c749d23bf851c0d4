-- `area::errors::put_error` meets its contract: beyond the first 256 an error is only counted.
use mathlib.Core.Path.{refl}
use Prim.Native.Nat.{◌*◌}
use native.Mathlib.Omega.{arith}
use Rattle.ast.proofs.Fronts.{lent_put}
use Rattle.area.proofs.Listings.{error_counted, error_listed}
use Rattle.area.proofs.errors.put_error.Goals as goal

pub returns-then-count-ge-MOST_LISTED : goal.returns-then-count-ge-MOST_LISTED
returns-then-count-ge-MOST_LISTED c = (refl, error_counted _ _ _ c.if-count-ge-MOST_LISTED.true)

pub returns : goal.returns
returns c = let a = c.args in
    (refl, error_listed _ _ _ _ _ _ _ c.if-count-ge-MOST_LISTED.false (lent_put a.out.now _ _ (16 * a.count) (omega arith) c.put_record.ensures))
