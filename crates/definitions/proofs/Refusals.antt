-- A refusal's number is one of 1 to 10, so the number 0 says that a build was accepted.
use mathlib.Core.Path.{◌≡◌, refl}
use mathlib.Core.Logic.{◌≢◌}
use Prim.Native.Nat.{ℕ, ◌+◌, ◌-◌, ◌≤◌}
use native.Mathlib.Omega.{arith}
use mathlib.Core.Bool.{Bool, true, false, cond}
use mathlib.Core.List.{List}
use mathlib.Core.Option.{Option, none, some}
use lib.Dec.{eqb, leb, ltb}
use lib.ListN.{length, drop, replicate}
use Rattle.functions.proofs.Lists.{clash}
use Rattle.ast.specs.Tree.{File}
use Rattle.ast.specs.declared.sections.Counts.{Counts}
use Rattle.ast.specs.Words.{words}
use Rattle.ast.specs.File.{counts_of, form_of, within_mosts, trailer_at, Contents, contents_of, all_fit, file_of, Opened, refused, opened, open_contents, open_counted, open_trailer, open_file}
use Rattle.definitions.specs.Flatten.{cyclic, self_listed, overfull}
use Rattle.definitions.specs.Answer.{Answer, answer_bytes}
use Rattle.definitions.specs.Build.{Result, refusal, accepted, too_big, any_short, allocated, answer_of_model, answer_of_root, answer_in_file, answer, fitted, written, build, result_number, result_area}
use Rattle.definitions.proofs.Accepted.{scope, flats, answered}

-- The refusals are numbered 1 to 10.
abbrev OneOfTen : ℕ → Type 0
OneOfTen n = (1 ≤ n) × (n ≤ 10)

-- ---- opening the file: 2, 3 and 4

-- What is opened where a test holds and else refused by m, and the other way round.
opened_or : (b : Bool) (o : Opened) (m n : ℕ) → OneOfTen m → (o ≡ refused n → OneOfTen n) → cond b o (refused m) ≡ refused n → OneOfTen n
opened_or true o m n hm ho e = ho e
opened_or false o m n hm ho e = let d : m ≡ n = cc in rw d at hm

refused_or : (b : Bool) (o : Opened) (m n : ℕ) → OneOfTen m → (o ≡ refused n → OneOfTen n) → cond b (refused m) o ≡ refused n → OneOfTen n
refused_or true o m n hm ho e = let d : m ≡ n = cc in rw d at hm
refused_or false o m n hm ho e = ho e

-- A record that breaks the layout: 4.
contents_number : (s : Contents) (n : ℕ) → open_contents s ≡ refused n → OneOfTen n
unfolding open_contents
contents_number s n = opened_or (all_fit s) (opened (file_of s)) 4 n (omega arith, omega arith) (λ e. clash (cc))

-- A count over its most: 3; the length: 4.
counted_number : (file : List ℕ) (c : Counts) (n : ℕ) → open_counted file c ≡ refused n → OneOfTen n
unfolding open_counted
counted_number file c n =
    opened_or (within_mosts c) _ 3 n (omega arith, omega arith)
    (opened_or (eqb (length file) (trailer_at c + 32)) _ 4 n (omega arith, omega arith) (contents_number (contents_of c file) n))

-- Under 32 bytes, or form not 1: 2.
open_number : (file : List ℕ) (n : ℕ) → open_file file ≡ refused n → OneOfTen n
unfolding open_file open_trailer
open_number file n =
    let trailer = words (drop (length file - 32) file) in
    refused_or (ltb (length file) 32) _ 2 n (omega arith, omega arith)
    (opened_or (eqb (form_of trailer) 1) _ 2 n (omega arith, omega arith) (counted_number file (counts_of trailer) n))

-- ---- the answer: 5 to 10

-- What is refused by m where a test holds.
refusal_or : {A : Type 0} (b : Bool) (r : Result A) (m n : ℕ) → OneOfTen m → (r ≡ refusal n → OneOfTen n) → cond b (refusal m) r ≡ refusal n → OneOfTen n
refusal_or true r m n hm hr e = let d : m ≡ n = cc in rw d at hm
refusal_or false r m n hm hr e = hr e

-- A root model's: 6, 7, 8, 9, 10.
model_number : (f : File) (m n : ℕ) → answer_of_model f m ≡ refusal n → OneOfTen n
unfolding answer_of_model allocated
model_number f m n =
    refusal_or (cyclic f m) _ 6 n (omega arith, omega arith)
    (refusal_or (self_listed f m) _ 7 n (omega arith, omega arith)
    (refusal_or (overfull f m) _ 8 n (omega arith, omega arith)
    (refusal_or (too_big f m (flats f m)) _ 9 n (omega arith, omega arith)
    (refusal_or (any_short (scope f m) (flats f m)) (accepted (answered f m)) 10 n (omega arith, omega arith) (λ e. clash (cc))))))

-- No model has the root name: 5.
root_number : (f : File) (o : Option ℕ) (n : ℕ) → answer_of_root f o ≡ refusal n → OneOfTen n
unfolding answer_of_root
root_number f none n e = let d : 5 ≡ n = cc in (omega arith, omega arith)
root_number f (some m) n e = model_number f m n e

-- In a file, by the number with which it was opened.
file_number : (root : List ℕ) (o : Opened) (n : ℕ) → (o ≡ refused n → OneOfTen n) → answer_in_file root o ≡ refusal n → OneOfTen n
unfolding answer_in_file
file_number root (refused m) n h e = h (cc)
file_number root (opened f) n h e = root_number f _ n e

-- ---- a build

-- The area is shorter than the answer: 1.
written_number : (room : ℕ) (r : Result Answer) (n : ℕ) → (r ≡ refusal n → OneOfTen n) → written room r ≡ refusal n → OneOfTen n
unfolding written fitted
written_number room (refusal m) n h e = h (cc)
written_number room (accepted a) n h e = go (leb (length (answer_bytes a)) room) (answer_bytes a) e
  where
    go : (b : Bool) (x : List ℕ) → cond b (accepted x) (refusal 1) ≡ refusal n → OneOfTen n
    go true x e = clash (cc)
    go false x e = let d : 1 ≡ n = cc in (omega arith, omega arith)

-- A build is refused by one of 1 to 10.
pub refusal_number : (file root : List ℕ) (room n : ℕ) → build file root room ≡ refusal n → (1 ≤ n) × (n ≤ 10)
unfolding build answer
refusal_number file root room n e = written_number _ _ n (file_number root _ n (open_number file n)) e

-- ---- what the number says

module _ (file root : List ℕ) (room : ℕ) where
  -- A build with the number 0 was accepted;
  pub number_zero : result_number (build file root room) ≡ 0 → (b : List ℕ) × (build file root room ≡ accepted b)
  unfolding result_number
  number_zero z = go (build file root room) refl z
    where
      go : (r : Result (List ℕ)) → build file root room ≡ r → result_number r ≡ 0 → (b : List ℕ) × (r ≡ accepted b)
      go (refusal n) e z = absurd (omega (arith, refusal_number file root room n e))
      go (accepted b) e z = (b, refl)

  -- with another it was refused, by one of 1 to 10, and the whole area is zero.
  pub number_refused : result_number (build file root room) ≢ 0
      → (result_area room (build file root room) ≡ replicate room 0) × (1 ≤ result_number (build file root room)) × (result_number (build file root room) ≤ 10)
  unfolding result_number result_area
  number_refused z = go (build file root room) refl z
    where
      go : (r : Result (List ℕ)) → build file root room ≡ r → result_number r ≢ 0 → (result_area room r ≡ replicate room 0) × (1 ≤ result_number r) × (result_number r ≤ 10)
      go (refusal n) e z = let h = refusal_number file root room n e in (refl, h.0, h.1)
      go (accepted b) e z = absurd (z refl)
