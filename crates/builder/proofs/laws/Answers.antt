-- What a build answers, step by step as the code takes them: the file opened, the root found, the model measured, its answer written.
use mathlib.Core.Path.{◌≡◌, refl, sym, ap, subst, ◌∙◌}
use mathlib.Core.List.{List, ◌++◌}
use mathlib.Core.Bool.{Bool, true, false, cond}
use Prim.Native.Nat.{ℕ, ◌-◌, ◌*◌, ◌≤◌, ◌<◌}
use native.Mathlib.Nat.{sub-zero}
use native.Mathlib.Omega.{arith}
use borrow.Author.Tests.{le-leb, lt-leb}
use lib.Dec.{eqb}
use lib.ListN.{length, take, replicate}
use lib.Seq.{length-take-le}
use Rattle.std.specs.Result.{result_unwrap_or}
use Rattle.functions.specs.Lists.{sum_of}
use Rattle.functions.proofs.Lists.{clash}
use Rattle.ast.specs.Tree.{File, flat_size}
use Rattle.ast.specs.File as file
use Rattle.ast.specs.Bytes.{front}
use Rattle.ast.specs.Opens.{Opens, refusal_number, file_in}
use Rattle.ast.specs.declared.open.Refusal as unopened
use Rattle.ast.specs.declared.sections.Counts.{Counts}
use Rattle.ast.specs.declared.sections.Sections.{Sections}
use Rattle.ast.proofs.Fronts.{take_front}
use Rattle.ast.proofs.Passed.{opens_refused, opens_file}
use Rattle.definitions.specs.Flatten.{instances, cyclic, self_listed, overfull}
use Rattle.definitions.specs.Answer.{Answer}
use Rattle.definitions.specs.Build.{Result, refusal, accepted, too_big, any_short, allocated, answer_of_model, root_of, answer_of_root, answer_in_file, answer, fitted, written, build, told, result_number, result_used, result_area}
use Rattle.builder.specs.Root.{Measure, flats_of, scope_at, answer_at, forbidden_of, size_of, measure_of, measured_as, answered_as, used_in, bytes_in, fitted_in, Stands, written_as, said_as, said}
use Rattle.builder.specs.Starting.{place_as}
use Rattle.std.specs.Prelude as std
use Rattle.std.specs.Prelude.{Option, Some, None, Ok, Err, IfOk, ok_or}
use Rattle.builder.specs.Refusals.{number_of, refused_number}
use Rattle.builder.specs.declared.refusal.Refusal.{Refusal}
use Rattle.builder.specs.declared.refusal.Refusal.TheVariants.{NoRoot}
use Rattle.builder.specs.declared.refusal.Refused.{Refused}
use Rattle.builder.specs.declared.extent.measure.Extent.{Extent}
use Rattle.builder.proofs.laws.Finding.{root_below}

-- ---- a model measured: refusals 6 to 9, or its sizes

abbrev number : Bool → Bool → Bool → ℕ
number cycle listed beyond = cond cycle 6 (cond listed 7 (cond beyond 8 0))

abbrev measured_by : Bool → Bool → Bool → Bool → Measure → Result Measure
measured_by cycle listed beyond big z = cond (eqb (number cycle listed beyond) 0) (cond big (refusal 9) (accepted z)) (refusal (number cycle listed beyond))

abbrev answered_by : Bool → Bool → Bool → Bool → Result Answer → Result Answer
answered_by cycle listed beyond big r = cond cycle (refusal 6) (cond listed (refusal 7) (cond beyond (refusal 8) (cond big (refusal 9) r)))

refused_by : (cycle listed beyond big : Bool) (z : Measure) (k : ℕ) (r : Result Answer) → measured_by cycle listed beyond big z ≡ refusal k → answered_by cycle listed beyond big r ≡ refusal k
refused_by true l b g z k r e = cc
refused_by false true b g z k r e = cc
refused_by false false true g z k r e = cc
refused_by false false false true z k r e = cc
refused_by false false false false z k r e = clash (cc)

sized_by : (cycle listed beyond big : Bool) (z y : Measure) (r : Result Answer) → measured_by cycle listed beyond big z ≡ accepted y
    → (y ≡ z) × (big ≡ false) × (answered_by cycle listed beyond big r ≡ r)
sized_by true l b g z y r e = clash (cc)
sized_by false true b g z y r e = clash (cc)
sized_by false false true g z y r e = clash (cc)
sized_by false false false true z y r e = clash (cc)
sized_by false false false false z y r e = (cc, refl, refl)

module _ (f : File) (m : ℕ) where
  -- refused
  pub measured_refused : (r : Refusal) → measured_as (Err r) ≡ measure_of f m → answer_of_model f m ≡ refusal (number_of r)
  unfolding measure_of forbidden_of size_of measured_as answer_of_model allocated
  measured_refused r h = refused_by (cyclic f m) (self_listed f m) (overfull f m) (too_big f m (flats_of f m)) _ (number_of r) _ (sym h)

  -- sized
  pub measured_sized : (e : Extent) → measured_as (Ok e) ≡ measure_of f m
      → (e.instances ≡ instances f (length f.models) m) × (e.stmts ≡ length (flats_of f m)) × (e.nodes ≡ sum_of flat_size (flats_of f m)) × (too_big f m (flats_of f m) ≡ false)
      × (answer_of_model f m ≡ cond (any_short (scope_at f m) (flats_of f m)) (refusal 10) (accepted (answer_at f m)))
  unfolding measure_of forbidden_of size_of measured_as answer_of_model allocated
  measured_sized e h =
      let (z, big, r) = sized_by (cyclic f m) (self_listed f m) (overfull f m) (too_big f m (flats_of f m)) _ _ _ (sym h) in
      (ap (λ (y : Measure). y.instances) z, ap (λ (y : Measure). y.stmts) z, ap (λ (y : Measure). y.nodes) z, big, r)

-- ---- an answer: a refusal, or the bytes used of an area

pub given_refused : (k : Refusal) (b : List ℕ) (r : Result Answer) → r ≡ refusal (number_of k) → answered_as (Err k) b ≡ bytes_in r
unfolding answered_as bytes_in
given_refused k b r e = sym (ap bytes_in e)

pub used_refused : (k : Refusal) → used_in (Err k) ≤ 55384
unfolding used_in
used_refused k = omega arith

-- ---- an answer at the front of an area

-- a refusal, wherever it comes from
pub stands_refused : (due : Result (List ℕ)) (k : Refused) (area : List ℕ) → due ≡ refusal (refused_number k) → Stands due (Err k) area
unfolding written_as
stands_refused due k area e = record { says = sym e; within = tt }

-- of a model
pub model_refused : (room : ℕ) (k : Refusal) (b : List ℕ) (r : Result Answer) → answered_as (Err k) b ≡ bytes_in r → fitted_in room (bytes_in r) ≡ refusal (number_of k)
unfolding answered_as fitted_in
model_refused room k b r h = ap (fitted_in room) (sym h)

-- n bytes of an answer that stands in an area of its own
module _ (room n : ℕ) (own area : List ℕ) (r : Result Answer) (h : answered_as (Ok n) own ≡ bytes_in r) (few : n ≤ 55384) (long : length own ≡ 55384) where
  fits : fitted_in room (bytes_in r) ≡ fitted room (take n own)
  unfolding answered_as fitted_in
  fits = ap (fitted_in room) (sym h)

  cut : length (take n own) ≡ n
  cut = length-take-le n own (omega (arith, few, long))

  -- the area is shorter than they
  pub too_short : room < n → fitted_in room (bytes_in r) ≡ refusal 1
  unfolding fitted
  too_short l = fits ∙ rw (cut, lt-leb n room l) refl

  -- the area begins with them
  pub stands_used : n ≤ room → length area ≡ room → take n area ≡ take n own → Stands (fitted_in room (bytes_in r)) (Ok n) area
  unfolding written_as fitted
  stands_used l w t = record {
    says = ap accepted t ∙ sym (fits ∙ rw (cut, le-leb n room l) refl);
    within = (omega (arith, w, l), few);
  }

-- a copy of the answer
pub copied : (area own : List ℕ) (n : ℕ) → n ≤ length own → take n (front area (take n own)) ≡ take n own
copied area own n h = subst (λ (k : ℕ). take k (front area (take n own)) ≡ take n own) (length-take-le n own h) (take_front area (take n own))

-- ---- a build

-- what is written of an answer
pub writes : (room : ℕ) (r : Result Answer) → written room r ≡ fitted_in room (bytes_in r)
unfolding written fitted_in bytes_in
writes room (refusal n) = refl
writes room (accepted a) = refl

module _ (f root : List ℕ) (room : ℕ) (c : Counts) where
  -- of a file that is not opened
  pub built_refused : (k : unopened.Refusal) → Opens f c (file.open_file f) (Err k) → build f root room ≡ refusal (refusal_number k)
  unfolding build answer answer_in_file written
  built_refused k h = rw (opens_refused _ _ _ _ h k refl) refl

  module _ (s : Sections) (h : Opens f c (file.open_file f) (Ok s)) (o : Option ℕ) (e : place_as o ≡ root_of (file_in f s) root) where
    is_open : file.open_file f ≡ file.opened (file_in f s)
    is_open = (opens_file _ _ _ _ h s refl).1

    -- of a file in which no model has the root name
    pub built_none : o ≡ None → build f root room ≡ refusal 5
    unfolding build answer answer_in_file answer_of_root written place_as
    built_none n = rw (is_open, ← e, n) refl

    -- of a model found
    pub built_at : (m : ℕ) → o ≡ Some m → build f root room ≡ fitted_in room (bytes_in (answer_of_model (file_in f s) m))
    unfolding build answer answer_in_file answer_of_root place_as
    built_at m n = rw (is_open, ← e, n) (writes room (answer_of_model (file_in f s) m))

    pub found_below : (m : ℕ) → o ≡ Some m → m < s.counts.models
    unfolding place_as
    found_below m n = root_below f s root m (sym (ap place_as n) ∙ e)

-- the refusal where a root is not found
pub none_found : (o : Option ℕ) (k : Refusal) → o ≡ None → Err k ≡ ok_or o NoRoot → k ≡ NoRoot
none_found None k n e = cc
none_found (Some m) k n e = cc

-- what the caller is told, and the area with zeros behind the answer
pub cleared : (due : Result (List ℕ)) (r : std.Result ℕ Refused) (area area' last : List ℕ) → Stands due r area' → length area' ≡ length area
    → last ≡ take (result_unwrap_or r 0) area' ++ replicate (length area' - result_unwrap_or r 0) 0
    → (said_as r ≡ said due) × IfOk r (λ n. n ≤ 55384) × (last ≡ result_area (length area) due)
unfolding said_as said written_as result_area
cleared due (Err k) area area' last s l e = rw (← s.says) (refl, tt, rw (sub-zero, l) at e)
cleared due (Ok n) area area' last s l e =
    let cut : length (take n area') ≡ n = length-take-le n area' s.within.0 in
    rw (← s.says) (ap accepted (sym cut), s.within.1, e ∙ rw (l, cut) refl)

-- ---- a build told by one number, as C is told it

pub used_told : (due : Result (List ℕ)) (n : ℕ) → said_as (Ok n) ≡ said due → 4294967296 * n ≡ told due
unfolding said_as said told result_number result_used
used_told (refusal k) n e = cc
used_told (accepted b) n e = let h : n ≡ length b = cc in omega (arith, h)

pub refused_told : (due : Result (List ℕ)) (k : Refused) → said_as (Err k) ≡ said due → refused_number k ≡ told due
unfolding said_as said told result_number result_used
refused_told (refusal j) k e = let h : refused_number k ≡ j = cc in omega (arith, h)
refused_told (accepted b) k e = cc
