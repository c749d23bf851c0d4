-- The flattened statements of a sound answer: their nodes obey the tree file's rules, and so do their records, one behind the other, with their fates.
use mathlib.Core.Path.{◌≡◌, refl, sym, ap}
use mathlib.Core.Bool.{true}
use mathlib.Core.List.{List, [], ◌∷◌}
use Prim.Native.Nat.{ℕ, ◌+◌, ◌≤◌}
use native.Mathlib.Omega.{arith}
use borrow.Author.Tests.{ltb-true, lt-ltb, leb-true, le-leb, eq-eqb}
use lib.Dec.{ltb}
use lib.ListN.{length, get_or}
use Rattle.functions.specs.Lists.{each, sum_of}
use Rattle.ast.specs.Tree.{Expr, name, number, binary, unary, call, Args, empty, snoc, Flat, equation, rate, own, flat_size}
use Rattle.ast.specs.Words.{word_of, span_from}
use Rattle.ast.specs.Nodes.{nodes_fit}
use Rattle.ast.specs.Records.{right_top, equation_fits, rate_fits, submodel_fits, stmt_kind_fits, stmt_fits}
use Rattle.ast.specs.Encode.{flat_nodes}
use Rattle.ast.specs.Write.{stmt_nodes, stmt_size, stmt_words}
use Rattle.ast.specs.WellFormed.{Each, WellFormed, WellFormedArgs, InWords, ArgsInWords, StmtFormed}
use Rattle.ast.proofs.Roundtrip.{Holds, holds_left, holds_right}
use Rattle.ast.proofs.StmtsBack.{StmtBack, stmt_back}
use Rattle.definitions.specs.Numbers.{most_names}
use Rattle.definitions.specs.Allocate.{Fate, initial, held, replaced, left_over}
use Rattle.definitions.specs.Answer.{fate_number, fate_variable, flat_words, flat_records}
use Rattle.definitions.specs.Layout.{fate_of, fated_variable, fate_fits, row_fits, rows_fit}
use Rattle.definitions.proofs.Sound.{Worded, WordedArgs, SoundFlat}
use Rattle.definitions.proofs.SoundVariables.{FateSmall}
use Rattle.definitions.proofs.Lengths.{length_flat_nodes}

-- ---- a tree of a file's names is one of 256 names

-- its words are words
mutual
  worded_in_words : (e : Expr) → Worded e → InWords e
  worded_in_words (name n s) x = x
  worded_in_words (number b s) x = x
  worded_in_words (binary o l r s) x = (worded_in_words l x.0, worded_in_words r x.1, x.2)
  worded_in_words (unary o e s) x = (worded_in_words e x.0, x.1)
  worded_in_words (call f a s) x = (worded_args_in_words a x.0, x.1)

  worded_args_in_words : (a : Args) → WordedArgs a → ArgsInWords a
  worded_args_in_words empty x = tt
  worded_args_in_words (snoc a k e s) x = (worded_args_in_words a x.0, worded_in_words e x.1, x.2)

module _ (names : ℕ) (few : names ≤ most_names) where
  -- a number of a file's names is below the most
  below_most : (n : ℕ) → ltb n names ≡ true → ltb n most_names ≡ true
  below_most n h = lt-ltb n most_names (omega (arith, ltb-true n names h))

  -- a well-formed tree stays so
  mutual
    formed_most : (e : Expr) → WellFormed names e → WellFormed most_names e
    formed_most (name n s) x = (below_most n x.0, x.1)
    formed_most (number b s) x = x
    formed_most (binary o l r s) x = (formed_most l x.0, formed_most r x.1, x.2, x.3)
    formed_most (unary o e s) x = (formed_most e x.0, x.1, x.2)
    formed_most (call f a s) x = (formed_args_most a x.0, below_most f x.1, x.2)

    formed_args_most : (a : Args) → WellFormedArgs names a → WellFormedArgs most_names a
    formed_args_most empty x = tt
    formed_args_most (snoc a k e s) x = (formed_args_most a x.0, formed_most e x.1, le-leb k most_names (omega (arith, leb-true k names x.2)), x.3)

  -- so does a sound statement
  flat_formed : (q : Flat) → SoundFlat names q → StmtFormed most_names (own q)
  flat_formed (equation l r s) x =
      ((formed_most l x.0.0, worded_in_words l x.0.1), (formed_most r x.1.0, worded_in_words r x.1.1), x.2)
  flat_formed (rate n r s) x = (ltb-true n most_names (below_most n x.0), (formed_most r x.1.0, worded_in_words r x.1.1), x.2)

-- ---- a statement's record

module _ (vars : ℕ) where
  -- a fate is 1 to 4, of a variable that exists; 4 with variable 0
  fate_fits_lem : (r : List ℕ) (x : Fate) → fate_of r ≡ fate_number x → fated_variable r ≡ fate_variable x → FateSmall vars x → fate_fits vars r ≡ true
  unfolding fate_fits fate_number fate_variable
  fate_fits_lem r (initial v) e f h = simp (e, f, lt-ltb v vars h)
  fate_fits_lem r (held v) e f h = simp (e, f, lt-ltb v vars h)
  fate_fits_lem r (replaced v) e f h = simp (e, f, lt-ltb v vars h)
  fate_fits_lem r left_over e f h = simp (e, f)

  module _ (limit : ℕ) (ns : List (List ℕ)) (p : ℕ) (x : Fate) (small : FateSmall vars x) where
    -- a record passes where the file's record of the statement does
    row_fits_lem : (q : Flat) → StmtBack most_names ns limit p (own q) → row_fits limit ns vars p (flat_words p q x) ≡ true
    unfolding row_fits flat_words stmt_words stmt_fits stmt_kind_fits equation_fits rate_fits submodel_fits word_of span_from
    row_fits_lem (equation l r s) k = simp (k.passes, fate_fits_lem (flat_words p (equation l r s) x) x refl refl small)
    row_fits_lem (rate n r s) k = simp (k.passes, fate_fits_lem (flat_words p (rate n r s) x) x refl refl small)

    -- its trees end where the next statement's begin
    row_next : (q : Flat) → StmtBack most_names ns limit p (own q) → right_top (flat_words p q x) + 1 ≡ p + flat_size q
    unfolding flat_words stmt_words stmt_size word_of
    row_next (equation l r s) k = k.next
    row_next (rate n r s) k = k.next

-- ---- all of them, where their nodes stand one behind the other from node p on

-- their nodes pass where those before them do, and their records pass
record FlatsFit (limit : ℕ) (ns : List (List ℕ)) (vars p : ℕ) (qs : List Flat) (xs : List Fate) : Type 0 where
  nodes : nodes_fit most_names ns p ≡ true → nodes_fit most_names ns limit ≡ true
  rows : rows_fit limit ns vars p (flat_records p qs xs) ≡ true

module _ (names : ℕ) (few : names ≤ most_names) (vars limit : ℕ) (ns : List (List ℕ)) where
  -- one statement, as it would stand in a file
  flat_back : (q : Flat) (p : ℕ) → SoundFlat names q → p + flat_size q ≤ limit → Holds ns p (flat_nodes q) → StmtBack most_names ns limit p (own q)
  unfolding stmt_size stmt_nodes
  flat_back q p x h g = stmt_back most_names ns limit (own q) p (flat_formed names few q x) h g

  -- its nodes pass where those before them do
  flat_nodes_lem : (q : Flat) (p : ℕ) → StmtBack most_names ns limit p (own q) → nodes_fit most_names ns p ≡ true → nodes_fit most_names ns (p + flat_size q) ≡ true
  unfolding stmt_size
  flat_nodes_lem q p k h = k.nodes h

  -- the statements qs with the fates xs
  flats_fit : (qs : List Flat) (xs : List Fate) (p : ℕ) → Each (SoundFlat names) qs → Each (FateSmall vars) xs → length xs ≡ length qs → p + sum_of flat_size qs ≡ limit
      → Holds ns p (each flat_nodes qs) → FlatsFit limit ns vars p qs xs
  unfolding each sum_of flat_records rows_fit
  flats_fit [] xs p x y e l g =
      let z : p ≡ limit = omega arith in
      record { nodes = λ k. rw z at k; rows = eq-eqb p limit z }
  flats_fit (q ∷ qs) [] p x y e l g = absurd (omega arith)
  flats_fit (q ∷ qs) (f ∷ xs) p x y e l g =
      let one = flat_back q p x.0 (omega arith) (holds_left ns p (flat_nodes q) (each flat_nodes qs) g) in
      let behind = holds_right ns p (flat_nodes q) (each flat_nodes qs) g (p + flat_size q) (ap (λ (z : ℕ). p + z) (sym (length_flat_nodes q))) in
      let more = flats_fit qs xs (p + flat_size q) x.1 y.1 (omega arith) (omega arith) behind in
      record {
        nodes = λ k. more.nodes (flat_nodes_lem q p one k);
        rows = rw (row_fits_lem vars limit ns p f y.0 q one, row_next vars limit ns p f y.0 q one) more.rows;
      }

-- The whole, where the nodes are just theirs.
pub all_flats_fit : (names : ℕ) → names ≤ most_names → (vars : ℕ) (qs : List Flat) (xs : List Fate) → Each (SoundFlat names) qs → Each (FateSmall vars) xs
    → length xs ≡ length qs
    → (nodes_fit most_names (each flat_nodes qs) (sum_of flat_size qs) ≡ true) × (rows_fit (sum_of flat_size qs) (each flat_nodes qs) vars 0 (flat_records 0 qs xs) ≡ true)
unfolding nodes_fit
all_flats_fit names few vars qs xs x y e =
    let ns = each flat_nodes qs in
    let k = flats_fit names few vars (sum_of flat_size qs) ns qs xs 0 x y e (omega arith) (λ j l. ap (λ (i : ℕ). get_or ns i []) (omega arith)) in
    (k.nodes refl, k.rows)
