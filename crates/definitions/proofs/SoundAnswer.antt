-- Every accepted answer of a file of bytes is sound: its words are words, and the area's bytes are bytes.
use mathlib.Core.Path.{◌≡◌, refl, ap, ◌∙◌}
use Prim.Native.Nat.{ℕ, zero, suc, ◌+◌, ◌≤◌, ◌<◌}
use native.Mathlib.Omega.{arith}
use mathlib.Core.Bool.{Bool, true, false, ◌||◌}
use mathlib.Core.List.{List, [], ◌∷◌, ◌++◌, map}
use mathlib.Core.Option.{Option, none, some}
use lib.Dec.{ltb, eqb}
use lib.ListN.{length, take}
use borrow.Author.Tests.{ltb-true, lt-ltb, leb-true, eqb-true}
use Rattle.functions.specs.Lists.{all, each, sum_of, flag, place, plus_one}
use Rattle.ast.specs.Tree.{Span, Expr, name, number, binary, unary, call, Args, empty, snoc, Flat, equation, rate, File, count, size, sizes, flat_size}
use Rattle.ast.specs.Words.{low, high, bytes4, bytes_of}
use Rattle.ast.specs.Nodes.{is_sign, is_op}
use Rattle.ast.specs.Encode.{node, nodes, arg_nodes, flat_nodes, encode}
use Rattle.ast.specs.WellFormed.{Each}
use Rattle.ast.proofs.FromBytes.{length_each, every_append, every_each}
use Rattle.ast.proofs.ToBytes.{every_take}
use Rattle.definitions.specs.Variables.{Error, Bounds, Variable, no_variable, at, is_state, last_time, time_index, time_dependent}
use Rattle.definitions.specs.Flatten.{model_at, scope_of, errors_of}
use Rattle.definitions.specs.Roles.{role_of, role_errors}
use Rattle.definitions.specs.Allocate.{Fate, initial, held, replaced, left_over, fates_of, paired_states, left_count, lacking, count_errors, is_held_by, is_initial_of, held_by, conditions, starting_errors}
use Rattle.definitions.specs.Answer.{Answer, fate_number, bounds_words, flat_words, flat_records, error_words, variable_words, variable_records, node_count, deps_of, header, area_of, area_bytes, answer_bytes}
use Rattle.definitions.specs.Area.{WithinMosts, are_bytes}
use Rattle.definitions.specs.Build.{accepted, answer_from, answer, build}
use Rattle.definitions.proofs.Everywhere.{all_true, all_map, all_weak}
use Rattle.definitions.proofs.Sound.{Word, Byte, Double, Spanned, Sound, SoundArgs, SoundFlat}
use Rattle.definitions.proofs.SoundFile.{SoundFile, file_sound, flatten_sound}
use Rattle.definitions.proofs.SoundErrors.{SoundError, built_errors, role_errors_lem, count_errors_lem, starting_errors_lem}
use Rattle.definitions.proofs.SoundVariables.{Doubles, SoundVariable, variables_sound, time_doubles, FateSmall, RoleSmall, fates_small, queue_small, role_small, length_keep}
use Rattle.definitions.proofs.Accepted.{scope, time, flats, answered, answered_of, written_of}
use Rattle.definitions.proofs.Counts.{some_variable}
use Rattle.definitions.proofs.Area.{fate_each}
use Rattle.definitions.proofs.Mosts.{within_mosts_lem}
use Rattle.definitions.proofs.ErrorCount.{count_sizes}
use Rattle.definitions.proofs.ListLaws.{place_small, or_either}

-- ---- sound

-- `names` is the file's count of names
pub record SoundAnswer (names : ℕ) (a : Answer) : Type 0 where
  pub few_names : names ≤ 256
  pub stmts : Each (SoundFlat names) a.stmts
  pub fates : Each (FateSmall (length a.vars)) a.fates
  pub vars : Each (SoundVariable names (length a.vars)) a.vars
  pub errors : Each (SoundError names) a.errors
  pub time : Doubles a.time

module _ (names : ℕ) (f : File) (m : ℕ) (h : SoundFile names f) where
  abbrev vs : List Variable
  vs = (scope f m).vars

  vars_sound : Each (SoundVariable names (length vs)) vs
  unfolding scope_of
  vars_sound = variables_sound names f.names (model_at f m).unknowns h.name_count (h.model m).unknowns

  var_named : (v : ℕ) → (at vs v).name ≤ names
  unfolding at no_variable
  var_named v = go vs vars_sound v
    where
      go : (ws : List Variable) → Each (SoundVariable names (length vs)) ws → (v : ℕ) → (at ws v).name ≤ names
      go [] x v = omega arith
      go (w ∷ ws) x zero = x.0.name
      go (w ∷ ws) x (suc v) = go ws x.1 v

  has_t : 1 ≤ length vs
  unfolding scope_of
  has_t = some_variable f.names (model_at f m).unknowns

  sound_of : SoundAnswer names (answered f m)
  unfolding answer_from
  sound_of =
      let c = scope f m in
      let t = time f m in
      let qs = flats f m in
      let rs = map (role_of c t) qs in
      let fs = fates_of (paired_states vs rs) rs in
      let z = (model_at f m).span in
      let hq = flatten_sound names f h (length f.models) m in
      let e₁ = errors_of f (length f.models) m in
      let e₂ = each (role_errors c t) qs in
      let e₃ = count_errors z (left_count rs) (length (lacking vs rs)) in
      let e₄ = starting_errors z vs qs fs in
      record {
        few_names = h.few_names;
        stmts = hq;
        fates = fates_small (length vs) has_t (paired_states vs rs) rs (queue_small vs rs) (all_map (SoundFlat names) (RoleSmall (length vs)) (role_of c t) (λ q _. role_small c t q) qs hq);
        vars = vars_sound;
        errors = every_append (SoundError names) (e₁ ++ e₂ ++ e₃) e₄
            (every_append (SoundError names) (e₁ ++ e₂) e₃ (every_append (SoundError names) e₁ e₂ (built_errors names f h (length f.models) m) (every_each (SoundError names) (SoundFlat names) (role_errors c t) (role_errors_lem names c t) qs hq))
            (count_errors_lem names z (left_count rs) (length (lacking vs rs)) (h.model m).span))
            (starting_errors_lem names z vs qs fs (h.model m).span var_named hq);
        time = time_doubles names f.names (model_at f m).unknowns (h.model m).unknowns;
      }

-- Every accepted answer of a file of bytes is sound.
pub sound_answer : (file root : List ℕ) (a : Answer) → Each Byte file → answer file root ≡ accepted a → (names : ℕ) × SoundAnswer names a
sound_answer file root a hb h =
    let x = answered_of file root a h in
    let (names, s) = file_sound file x.tree hb x.is_open in
    (names, rw x.is_clean.is_answer at (sound_of names x.tree x.model s))

-- ---- words: nodes

sign_word : (o : ℕ) → is_sign o ≡ true → Word o
unfolding is_sign
sign_word o h = or_either (eqb o 43) (eqb o 45) h (λ e. omega (arith, eqb-true o 43 e)) (λ e. omega (arith, eqb-true o 45 e))

op_word : (o : ℕ) → is_op o ≡ true → Word o
unfolding is_op
op_word o h =
    or_either (is_sign o || eqb o 42) (eqb o 47) h
    (λ k. or_either (is_sign o) (eqb o 42) k (sign_word o) (λ e. omega (arith, eqb-true o 42 e)))
    (λ e. omega (arith, eqb-true o 47 e))

node_words : (k n o z : ℕ) (s : Span) (b : ℕ) → Word k → Word n → Word o → Word z → Spanned s → Double b → Each Word (node k n o z s b)
unfolding node low high
node_words k n o z s b hk hn ho hz hs hb = (hk, (hn, (ho, (hz, (hs.0, (hs.1, (omega arith, (omega arith, tt))))))))

module _ (names : ℕ) (few : names ≤ 256) where
  name_word : (n : ℕ) → ltb n names ≡ true → Word n
  name_word n h = omega (arith, ltb-true n names h)

  mutual
    unfolding nodes size

    nodes_words : (e : Expr) → Sound names e → size e ≤ 1024 → Each (Each Word) (nodes e)
    nodes_words (name n s) x h = (node_words 1 n 0 1 s 0 (omega arith) (name_word n x.0.0) (omega arith) (omega arith) x.1 (omega arith), tt)
    nodes_words (number b s) x h = (node_words 2 0 0 1 s b (omega arith) (omega arith) (omega arith) (omega arith) x.1.1 x.1.0, tt)
    nodes_words (binary o l r s) x h =
        every_append (Each Word) (nodes l ++ nodes r) _
        (every_append (Each Word) (nodes l) (nodes r) (nodes_words l (x.0.0, x.1.0) (omega arith)) (nodes_words r (x.0.1, x.1.1) (omega arith)))
        (node_words 3 0 o (1 + size l + size r) s 0 (omega arith) (omega arith) (op_word o x.0.2) (omega arith) x.1.2 (omega arith), tt)
    nodes_words (unary o e s) x h =
        every_append (Each Word) (nodes e) _ (nodes_words e (x.0.0, x.1.0) (omega arith))
        (node_words 4 0 o (1 + size e) s 0 (omega arith) (omega arith) (sign_word o x.0.1) (omega arith) x.1.1 (omega arith), tt)
    nodes_words (call f a s) x h =
        every_append (Each Word) (arg_nodes a) _ (args_words a (x.0.0, x.1.0) (omega arith))
        (node_words 5 f (count a) (1 + sizes a) s 0 (omega arith) (name_word f x.0.1) (omega (arith, count_sizes a)) (omega arith) x.1.1 (omega arith), tt)

    args_words : (a : Args) → SoundArgs names a → sizes a ≤ 1024 → Each (Each Word) (arg_nodes a)
    args_words empty x h = tt
    args_words (snoc a k e s) x h =
        every_append (Each Word) (arg_nodes a ++ nodes e) _
        (every_append (Each Word) (arg_nodes a) (nodes e) (args_words a (x.0.0, x.1.0) (omega arith)) (nodes_words e (x.0.1, x.1.1) (omega arith)))
        (node_words 6 k 0 (1 + size e) s 0 (omega arith) (omega (arith, leb-true k names x.0.2)) (omega arith) (omega arith) x.1.2 (omega arith), tt)

  flat_nodes_words : (q : Flat) → SoundFlat names q → flat_size q ≤ 1024 → Each (Each Word) (flat_nodes q)
  unfolding flat_nodes flat_size
  flat_nodes_words (equation l r s) x h = every_append (Each Word) (nodes l) (nodes r) (nodes_words l x.0 (omega arith)) (nodes_words r x.1 (omega arith))
  flat_nodes_words (rate n r s) x h = nodes_words r x.1 h

  all_nodes_words : (qs : List Flat) → Each (SoundFlat names) qs → sum_of flat_size qs ≤ 1024 → Each (Each Word) (each flat_nodes qs)
  unfolding each sum_of
  all_nodes_words [] x h = tt
  all_nodes_words (q ∷ qs) x h = every_append (Each Word) (flat_nodes q) (each flat_nodes qs) (flat_nodes_words q x.0 (omega arith)) (all_nodes_words qs x.1 (omega arith))

  -- ---- statements, of which the variables are below k

  fate_word : (x : Fate) → Word (fate_number x)
  unfolding fate_number
  fate_word (initial v) = omega arith
  fate_word (held v) = omega arith
  fate_word (replaced v) = omega arith
  fate_word left_over = omega arith

  module _ (k : ℕ) (fk : k ≤ 129) where
    flat_words_lem : (first : ℕ) (q : Flat) (x : Fate) → SoundFlat names q → FateSmall k x → first + flat_size q ≤ 1024 → Each Word (flat_words first q x)
    unfolding flat_words flat_size
    flat_words_lem first (equation l r s) x y z h = (omega arith, (omega arith, (omega arith, (omega arith, (y.2.1.0, (y.2.1.1, (fate_word x, (omega arith, tt))))))))
    flat_words_lem first (rate n r s) x y z h = (omega arith, (name_word n y.0, (omega arith, (omega arith, (y.2.1.0, (y.2.1.1, (fate_word x, (omega arith, tt))))))))

    flats_words : (first : ℕ) (qs : List Flat) (xs : List Fate) → Each (SoundFlat names) qs → Each (FateSmall k) xs → first + sum_of flat_size qs ≤ 1024 → Each (Each Word) (flat_records first qs xs)
    unfolding flat_records sum_of
    flats_words first [] xs y z h = tt
    flats_words first (q ∷ qs) [] y z h = tt
    flats_words first (q ∷ qs) (x ∷ xs) y z h = (flat_words_lem first q x y.0 z.0 (omega arith), flats_words (first + flat_size q) qs xs y.1 z.1 (omega arith))

  -- ---- errors

  error_words_lem : (e : Error) → SoundError names e → Each Word (error_words e)
  unfolding error_words
  error_words_lem e x = (omega (arith, x.kind), (x.span.1.0, (x.span.1.1, (omega (arith, x.name), tt))))

-- ---- variables

bounds_words_lem : (b : Bounds) → Doubles b → Each Word (bounds_words b)
unfolding bounds_words low high
bounds_words_lem b h = (omega (arith, h.0), (omega (arith, h.0), (omega (arith, h.1), (omega (arith, h.1), tt))))

flag_word : (b : Bool) → Word (flag b)
unfolding flag
flag_word true = omega arith
flag_word false = omega arith

last_small : (i : ℕ) (o : Option ℕ) (ds : List ℕ) → plus_one o ≤ i → plus_one (last_time i o ds) ≤ i + length ds
unfolding last_time plus_one
last_small i o [] h = omega arith
last_small i o (zero ∷ ds) h = omega (arith, last_small (suc i) (some i) ds (omega arith))
last_small i o (suc d ∷ ds) h = omega (arith, last_small (suc i) o ds (omega arith))

pub index_small : (v : Variable) → plus_one (time_index v) ≤ length v.deps
unfolding time_index plus_one
index_small v = omega (arith, last_small 0 none v.deps (omega arith))

module _ (names : ℕ) (few : names ≤ 256) (a : Answer) (most : length a.fates ≤ 256) where
  held_small : (i : ℕ) → held_by a.fates i ≤ 256
  unfolding held_by place
  held_small i = omega (arith, place_small (is_held_by i) 0 a.fates)

  conditions_small : (i : ℕ) → conditions a.fates i ≤ 256
  unfolding conditions
  conditions_small i = omega (arith, length_keep (is_initial_of i) a.fates)

  variable_words_lem : (i first : ℕ) (v : Variable) → SoundVariable names (length a.vars) v → first + length v.deps ≤ 1024 → Each Word (variable_words a i first v)
  unfolding variable_words
  variable_words_lem i first v x h =
      (omega (arith, x.name), (flag_word (is_state v), (omega (arith, index_small v), (omega arith, (omega arith, (omega (arith, held_small i), (omega (arith, conditions_small i), (flag_word (time_dependent a.vars i), bounds_words_lem v.bounds x.bounds))))))))

  variables_words : (i first : ℕ) (vs : List Variable) → Each (SoundVariable names (length a.vars)) vs → first + sum_of (λ v. length v.deps) vs ≤ 1024 → Each (Each Word) (variable_records a i first vs)
  unfolding variable_records sum_of
  variables_words i first [] x h = tt
  variables_words i first (v ∷ vs) x h = (variable_words_lem i first v x.0 (omega arith), variables_words (suc i) (first + length v.deps) vs x.1 (omega arith))

-- ---- the whole

module _ (names : ℕ) (a : Answer) (x : SoundAnswer names a) (w : WithinMosts a) (same : length a.fates ≡ length a.stmts) where
  header_words : Each Word (header a)
  unfolding header
  header_words =
      (omega (arith, w.nodes), (omega (arith, w.stmts), (omega (arith, w.vars), (omega (arith, w.deps), (w.errors, (omega (arith, w.instances), bounds_words_lem a.time x.time))))))

  deps_words : Each Word (deps_of a)
  unfolding deps_of
  deps_words =
      every_each Word (SoundVariable names (length a.vars)) (λ v. v.deps)
      (λ v y. all_weak (λ (d : ℕ). d < length a.vars) Word (λ d l. omega (arith, w.vars)) v.deps y.deps) a.vars x.vars

  deps_sum : sum_of (λ v. length v.deps) a.vars ≤ 1024
  unfolding deps_of
  deps_sum = omega (arith, w.deps, length_each (λ (v : Variable). v.deps) a.vars)

  word_bytes : (n : ℕ) → Word n → Each Byte (bytes4 n)
  unfolding bytes4
  word_bytes n h = (omega arith, (omega arith, (omega arith, (omega arith, tt))))

  words_bytes : (ws : List ℕ) → Each Word ws → Each Byte (bytes_of ws)
  unfolding bytes_of
  words_bytes ws h = every_each Byte Word bytes4 word_bytes ws h

  records_bytes : (rs : List (List ℕ)) → Each (Each Word) rs → Each Byte (encode rs)
  unfolding encode
  records_bytes rs h = every_each Byte (Each Word) bytes_of words_bytes rs h

  area_bytes_lem : Each Byte (answer_bytes a)
  unfolding answer_bytes area_bytes area_of node_count
  area_bytes_lem =
      let h = bytes_of (header a) in
      let n = encode (each flat_nodes a.stmts) in
      let s = encode (flat_records 0 a.stmts a.fates) in
      let v = encode (variable_records a 0 0 a.vars) in
      let d = bytes_of (deps_of a) in
      let e = encode (map error_words (take 256 a.errors)) in
      every_append Byte (h ++ n ++ s ++ v ++ d) e
      (every_append Byte (h ++ n ++ s ++ v) d
      (every_append Byte (h ++ n ++ s) v
      (every_append Byte (h ++ n) s
      (every_append Byte h n (words_bytes (header a) header_words) (records_bytes _ (all_nodes_words names x.few_names a.stmts x.stmts w.nodes)))
      (records_bytes _ (flats_words names x.few_names (length a.vars) w.vars 0 a.stmts a.fates x.stmts x.fates (omega (arith, w.nodes)))))
      (records_bytes _ (variables_words names x.few_names a (omega (arith, w.stmts)) 0 0 a.vars x.vars (omega (arith, deps_sum)))))
      (words_bytes (deps_of a) deps_words))
      (records_bytes _ (all_map (SoundError names) (Each Word) error_words (error_words_lem names x.few_names) (take 256 a.errors) (every_take (SoundError names) 256 a.errors x.errors)))

-- ---- of every accepted build

pub true_all : {A : Type 0} (P : A → Type 0) (t : A → Bool) → ((y : A) → P y → t y ≡ true) → (xs : List A) → Each P xs → all t xs ≡ true
unfolding all
true_all P t k [] h = refl
true_all P t k (y ∷ xs) h = rw (k y h.0) (true_all P t k xs h.1)

-- The bytes of an answer are bytes, where those of the file are.
pub bytes_of_lem : (file root : List ℕ) (room : ℕ) (b : List ℕ) → are_bytes file ≡ true → build file root room ≡ accepted b → are_bytes b ≡ true
unfolding are_bytes
bytes_of_lem file root room b hf h =
    let w = written_of file root room b h in
    let a = w.result in
    let hb = all_true Byte (λ n. ltb n 256) (λ n e. ltb-true n 256 e) file hf in
    let (names, x) = sound_answer file root a hb w.is_answer in
    let bytes = area_bytes_lem names a x (within_mosts_lem file root a w.is_answer) (fate_each file root a w.is_answer) in
    ap (all (λ n. ltb n 256)) w.is_written ∙ true_all Byte (λ n. ltb n 256) (λ n l. lt-ltb n 256 l) (answer_bytes a) bytes
