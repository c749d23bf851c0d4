use mathlib.Core.Path.{refl}
use Rattle.builder.proofs.laws.RoleErrors.{found_spanned}
use Rattle.builder.proofs.allocation.roles.stmt_error.Goals as goal

pub returns : goal.returns
returns c = found_spanned _ 4 _ _ _ _ _ c.stmt_word-from.ensures c.stmt_word-to.ensures refl
