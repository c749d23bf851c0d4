-- What a word says as a kind: its number, or, where it is no kind's, that each test of the layout answers false.
use Rattle.std.specs.Prelude.{ℕ, ◌≡◌, Bool, true, false, not, eqb, ◌&&◌, ◌<◌, [], leb, List, Result, Ok, Err, get_or}
use Rattle.std.specs.Result.{is_ok, MatchResult}
use native.Mathlib.Omega.{arith}
use Rattle.std.proofs.lemmas.Bool.{false≢true}
use mathlib.Core.Path.{refl, ap, ◌∙◌}
use borrow.Author.Tests.{ne_eqb}
use Rattle.ast.specs.Kinds.{ReadAs, node_number, stmt_number, domain_number, sign_number}
use Rattle.ast.specs.Words.{in_order}
use Rattle.ast.specs.Records.{kind_of_stmt, stmt_kind_fits, domain_kind, domain_fits, unknown_fits, span_of_unknown}
use Rattle.ast.specs.File.{contents_of, unknowns_at}
use Rattle.ast.specs.Opens.{Open, contents_in}
use Rattle.ast.specs.declared.sections.Sections.{Sections}
use Rattle.functions.proofs.Lists.{and_both}
use Rattle.ast.proofs.Fields.{length_section}
use Rattle.ast.proofs.Files.{unknown_fits_lem, parts}
use Rattle.ast.specs.Nodes.{kind_of, kind_at, kind_fits, is_sign, is_op, is_expr}
use Rattle.ast.specs.declared.kinds.NoKind.{NoKind}
use Rattle.ast.proofs.Fitting.{expr_kind}
use Rattle.ast.specs.declared.kinds.NodeKind.{NodeKind}
use Rattle.ast.specs.declared.kinds.NodeKind.TheVariants.{Name, Number, Binary, Unary, Call, Argument}
use Rattle.ast.specs.declared.kinds.StmtKind.{StmtKind}
use Rattle.ast.specs.declared.kinds.StmtKind.TheVariants.{Equation, Rate, Submodel}
use Rattle.ast.specs.declared.kinds.DomainKind.{DomainKind}
use Rattle.ast.specs.declared.kinds.DomainKind.TheVariants as domain
use Rattle.ast.specs.declared.kinds.Sign.{Sign}
use Rattle.ast.specs.declared.kinds.Sign.TheVariants.{Times, Plus, Minus, Divided}

pub node_read : {w : ℕ} {k j : NodeKind} → ReadAs node_number w (Ok k) → k ≡ j → w ≡ node_number j
unfolding ReadAs
node_read e is = e ∙ ap node_number is

module _ {w : ℕ} (none : (k : NodeKind) → w ≡ node_number k → ⊥) where
  pub no_expr : false ≡ (leb 1 w && leb w 5)
  no_expr = let a = none Name in let b = none Number in let c = none Binary in let d = none Unary in let e = none Call in grind (arith, a, b, c, d, e)

pub no_kind : (names : ℕ) (ns : List (List ℕ)) (i : ℕ) (r : List ℕ) → ((k : NodeKind) → kind_of r ≡ node_number k → ⊥) → false ≡ kind_fits names ns i r
unfolding kind_fits
no_kind names ns i r none = rw (ne_eqb _ _ (none Name), ne_eqb _ _ (none Number), ne_eqb _ _ (none Binary), ne_eqb _ _ (none Unary), ne_eqb _ _ (none Call), ne_eqb _ _ (none Argument)) refl

pub no_sign : {w : ℕ} → ((k : Sign) → w ≡ sign_number k → ⊥) → false ≡ is_sign w
unfolding is_sign
no_sign none = rw (ne_eqb _ _ (none Plus), ne_eqb _ _ (none Minus)) refl

-- an expression's kind is any but an argument's
pub expr_says : (w : ℕ) (r : Result NodeKind NoKind) (b : Bool) → ReadAs node_number w r → {P : NodeKind → Type 0} → MatchResult r P (λ _. b ≡ false) → ((k : NodeKind) → P k → b ≡ not (eqb (node_number k) 6)) → b ≡ (leb 1 w && leb w 5)
unfolding ReadAs
expr_says w (Ok Argument) b e p says = rw (e, says Argument p) refl
expr_says w (Ok Name) b e p says = rw (e, says Name p) refl
expr_says w (Ok Number) b e p says = rw (e, says Number p) refl
expr_says w (Ok Binary) b e p says = rw (e, says Binary p) refl
expr_says w (Ok Unary) b e p says = rw (e, says Unary p) refl
expr_says w (Ok Call) b e p says = rw (e, says Call p) refl
expr_says w (Err x) b none p says = p ∙ no_expr none

pub op_read : (w : ℕ) (r : Result Sign NoKind) → ReadAs sign_number w r → is_ok r ≡ is_op w
unfolding ReadAs is_op is_sign
op_read w (Ok Times) e = rw e refl
op_read w (Ok Plus) e = rw e refl
op_read w (Ok Minus) e = rw e refl
op_read w (Ok Divided) e = rw e refl
op_read w (Err x) none = rw (ne_eqb _ _ (none Plus), ne_eqb _ _ (none Minus), ne_eqb _ _ (none Times), ne_eqb _ _ (none Divided)) refl

pub no_stmt : (names count : ℕ) (ns : List (List ℕ)) (first : ℕ) (r : List ℕ) → ((k : StmtKind) → kind_of_stmt r ≡ stmt_number k → ⊥) → false ≡ stmt_kind_fits names count ns first r
unfolding stmt_kind_fits
no_stmt names count ns first r none = rw (ne_eqb _ _ (none Equation), ne_eqb _ _ (none Rate), ne_eqb _ _ (none Submodel)) refl

pub no_domain : (names : ℕ) (r : List ℕ) → ((k : DomainKind) → domain_kind r ≡ domain_number k → ⊥) → false ≡ domain_fits names r
unfolding domain_fits
no_domain names r none = rw (ne_eqb _ _ (none domain.None), ne_eqb _ _ (none domain.Range), ne_eqb _ _ (none domain.Named)) refl

-- Of an open file each unknown's domain is read.
pub domain_read : (f : List ℕ) (s : Sections) → Open f s → (u : ℕ) → u < s.counts.unknowns → {e : NoKind} → ReadAs domain_number (domain_kind (get_or (contents_in f s).unknowns u [])) (Err e) → ⊥
unfolding contents_of unknown_fits ReadAs
domain_read f s o u h none =
    let r = get_or (contents_in f s).unknowns u [] in
    let (_, fits) = unknown_fits_lem s.counts.names s.counts.deps _ 0 (parts (contents_in f s) o.fits).unknowns u (omega (arith, length_section 10 s.counts.unknowns (unknowns_at s.counts) f)) in
    let (h₁, _) = and_both _ (in_order (span_of_unknown r)) fits in
    false≢true (no_domain s.counts.names r none ∙ (and_both _ (domain_fits s.counts.names r) h₁).1)

-- An expression's kind is read, and is no argument's.
module _ (ns : List (List ℕ)) (i : ℕ) (expr : is_expr ns i ≡ true) where
  pub expr_read : {e : NoKind} → ReadAs node_number (kind_at ns i) (Err e) → ⊥
  unfolding is_expr ReadAs
  expr_read none = false≢true (no_expr none ∙ expr)

  pub expr_no_argument : {k : NodeKind} → ReadAs node_number (kind_at ns i) (Ok k) → k ≡ Argument → ⊥
  unfolding is_expr
  expr_no_argument e is = let w = node_read e is in let k = expr_kind ns i expr in omega (arith, w, k.1)
