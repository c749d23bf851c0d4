-- The kinds of nodes and of statements, the domains of unknowns and the signs of operators by their numbers.
use Rattle.std.specs.Prelude.{ℕ, ◌≡◌, Result, Ok, Err}
use Rattle.ast.specs.FileNumbers.{times_sign, plus_sign, minus_sign, divide_sign, name_kind, number_kind, binary_kind, unary_kind, call_kind, argument_kind, equation_kind, rate_kind, submodel_kind, no_domain, range_domain, named_domain}
use Rattle.ast.specs.declared.kinds.NoKind.{NoKind}
use Rattle.ast.specs.declared.kinds.NodeKind.{NodeKind}
use Rattle.ast.specs.declared.kinds.NodeKind.TheVariants.{Name, Number, Binary, Unary, Call, Argument}
use Rattle.ast.specs.declared.kinds.StmtKind.{StmtKind}
use Rattle.ast.specs.declared.kinds.StmtKind.TheVariants.{Equation, Rate, Submodel}
use Rattle.ast.specs.declared.kinds.DomainKind.{DomainKind}
use Rattle.ast.specs.declared.kinds.DomainKind.TheVariants as domain
use Rattle.ast.specs.declared.kinds.Sign.{Sign}
use Rattle.ast.specs.declared.kinds.Sign.TheVariants.{Times, Plus, Minus, Divided}

abbrev pub node_number : NodeKind → ℕ
node_number Name = name_kind
node_number Number = number_kind
node_number Binary = binary_kind
node_number Unary = unary_kind
node_number Call = call_kind
node_number Argument = argument_kind

abbrev pub stmt_number : StmtKind → ℕ
stmt_number Equation = equation_kind
stmt_number Rate = rate_kind
stmt_number Submodel = submodel_kind

abbrev pub domain_number : DomainKind → ℕ
domain_number domain.None = no_domain
domain_number domain.Range = range_domain
domain_number domain.Named = named_domain

abbrev pub sign_number : Sign → ℕ
sign_number Times = times_sign
sign_number Plus = plus_sign
sign_number Minus = minus_sign
sign_number Divided = divide_sign

-- What a word says, where each kind has a number: the kind with its own, or that it is no kind's.
unfoldable pub ReadAs : {K : Type 0} → (K → ℕ) → ℕ → Result K NoKind → Type 0
ReadAs number word (Ok k) = word ≡ number k
ReadAs number word (Err e) = (k : _) → word ≡ number k → ⊥
