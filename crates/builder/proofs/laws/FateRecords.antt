-- Records of the area with their fates written in: one record, and a whole section record by record.
use mathlib.Core.Path.{◌≡◌, refl, sym, ap, ap₂, ◌∙◌}
use mathlib.Core.List.{List, [], ◌∷◌, ◌++◌, map, append_assoc}
use Prim.Native.Nat.{ℕ, zero, suc, ◌+◌, ◌-◌, ◌*◌, ◌/◌, ◌%◌, ◌≤◌, ◌<◌}
use native.Mathlib.Omega.{arith}
use native.Mathlib.Nat.{suc-mul}
use lib.ListN.{length, take, drop, get_or, length-append, length-drop}
use lib.Seq.{take-take, take-add, drop-drop, drop-nil, length-take-le, get_or-drop}
use Rattle.functions.proofs.Lists.{drop_here, drop_past}
use Rattle.ast.specs.Words.{words, records, section, bytes4, bytes_of}
use Rattle.ast.specs.Bytes.{put_word, front, put}
use Rattle.ast.specs.Encode.{encode}
use Rattle.ast.proofs.Fronts.{drop_front, word_behind, put_behind}
use Rattle.ast.proofs.Encodes.{length_bytes, each_append}
use Rattle.functions.specs.Lists.{each}
use Rattle.definitions.specs.Roles.{Role, starts, rates, free}
use Rattle.definitions.specs.Allocate.{fates_of}
use Rattle.builder.specs.Fating.{left_in, fate_in, queue_in, fate_pair, with_fate, fated}
use Rattle.area.proofs.Puts.{itself}

-- ---- words of bytes

-- words are dropped by four bytes
pub words_drop : (k : ℕ) (xs : List ℕ) → drop k (words xs) ≡ words (drop (4 * k) xs)
unfolding words
words_drop zero xs = refl
words_drop (suc k) [] = ap words (sym (drop-nil (4 * suc k)))
words_drop (suc k) (a ∷ []) = drop-nil (suc k) ∙ ap words (sym (past (suc k) (omega arith)))
  where
    past : (j : ℕ) → 1 ≤ j → drop (4 * j) (a ∷ []) ≡ []
    past j h = drop_past (a ∷ []) (4 * j) (omega arith)
words_drop (suc k) (a ∷ b ∷ []) = drop-nil (suc k) ∙ ap words (sym (past (suc k) (omega arith)))
  where
    past : (j : ℕ) → 1 ≤ j → drop (4 * j) (a ∷ b ∷ []) ≡ []
    past j h = drop_past (a ∷ b ∷ []) (4 * j) (omega arith)
words_drop (suc k) (a ∷ b ∷ c ∷ []) = drop-nil (suc k) ∙ ap words (sym (past (suc k) (omega arith)))
  where
    past : (j : ℕ) → 1 ≤ j → drop (4 * j) (a ∷ b ∷ c ∷ []) ≡ []
    past j h = drop_past (a ∷ b ∷ c ∷ []) (4 * j) (omega arith)
words_drop (suc k) (a ∷ b ∷ c ∷ d ∷ r) =
    let e : suc (suc (suc (suc (4 * k)))) ≡ 4 * suc k = omega arith in
    words_drop k r ∙ ap (λ (j : ℕ). words (drop j (a ∷ b ∷ c ∷ d ∷ r))) e

-- every element is a byte
abbrev pub AllBytes : List ℕ → Type 0
AllBytes d = (j : ℕ) → get_or d j 0 < 256

four_bytes : (a b c d : ℕ) → a < 256 → b < 256 → c < 256 → d < 256 → let w = a + 256 * b + 65536 * c + 16777216 * d in
    (w % 256 ≡ a) × (w / 256 % 256 ≡ b) × (w / 65536 % 256 ≡ c) × (w / 16777216 ≡ d)
four_bytes a b c d ha hb hc hd =
    let u : (a + 256 * b + 65536 * c + 16777216 * d) / 256 ≡ b + 256 * c + 65536 * d = omega arith in
    let v : (a + 256 * b + 65536 * c + 16777216 * d) / 65536 ≡ c + 256 * d = omega arith in
    (omega arith, rw u (omega arith), rw v (omega arith), omega arith)

-- the bytes of words that were read are those bytes
pub bytes_back : (k : ℕ) (xs : List ℕ) → 4 * k ≤ length xs → AllBytes xs → bytes_of (take k (words xs)) ≡ take (4 * k) xs
unfolding words bytes_of each bytes4
bytes_back zero xs l h = refl
bytes_back (suc k) [] l h = absurd (omega arith)
bytes_back (suc k) (a ∷ []) l h = absurd (omega arith)
bytes_back (suc k) (a ∷ b ∷ []) l h = absurd (omega arith)
bytes_back (suc k) (a ∷ b ∷ c ∷ []) l h = absurd (omega arith)
bytes_back (suc k) (a ∷ b ∷ c ∷ d ∷ r) l h =
    let ha : a < 256 = h 0 in
    let hb : b < 256 = h 1 in
    let hc : c < 256 = h 2 in
    let hd : d < 256 = h 3 in
    let (ea, eb, ec, ed) = four_bytes a b c d ha hb hc hd in
    let e : suc (suc (suc (suc (4 * k)))) ≡ 4 * suc k = omega arith in
    ap₂ ◌∷◌ ea (ap₂ ◌∷◌ eb (ap₂ ◌∷◌ ec (ap₂ ◌∷◌ ed (bytes_back k r (omega arith) (λ j. h (suc (suc (suc (suc j)))))))))
    ∙ ap (λ (j : ℕ). take j (a ∷ b ∷ c ∷ d ∷ r)) e

pub length_words : (n : ℕ) (xs : List ℕ) → 4 * n ≤ length xs → n ≤ length (words xs)
unfolding words
length_words zero xs h = omega arith
length_words (suc n) [] h = absurd (omega arith)
length_words (suc n) (a ∷ []) h = absurd (omega arith)
length_words (suc n) (a ∷ b ∷ []) h = absurd (omega arith)
length_words (suc n) (a ∷ b ∷ c ∷ []) h = absurd (omega arith)
length_words (suc n) (a ∷ b ∷ c ∷ d ∷ r) h = omega (arith, length_words n r (omega arith))

-- ---- records of a section by place

-- of w words each
module _ (w : ℕ) where
  pub section_first : (m p : ℕ) (d : List ℕ) → section w (suc m) p d ≡ take w (words (drop p d)) ∷ section w m (p + 4 * w) d
  unfolding section records
  section_first m p d = ap (λ (xs : List ℕ). take w (words (drop p d)) ∷ records w m xs) (words_drop w (drop p d) ∙ ap words (drop-drop (4 * w) p d))

  pub record_placed : (n at i : ℕ) (d : List ℕ) → i < n → get_or (section w n at d) i [] ≡ take w (words (drop (at + i * (4 * w)) d))
  record_placed zero at i d h = absurd (omega arith)
  record_placed (suc n) at zero d h =
      let e : at ≡ at + 0 * (4 * w) = omega arith in
      rw section_first (ap (λ (p : ℕ). take w (words (drop p d))) e)
  record_placed (suc n) at (suc i) d h =
      let e : at + 4 * w + i * (4 * w) ≡ at + suc i * (4 * w) = rw (suc-mul i (4 * w)) (omega arith) in
      rw section_first (record_placed n (at + 4 * w) i d (omega arith) ∙ ap (λ (p : ℕ). take w (words (drop p d))) e)

-- of 8 words each
section_step : (m p : ℕ) (d : List ℕ) → section 8 (suc m) p d ≡ take 8 (words (drop p d)) ∷ section 8 m (p + 32) d
section_step m p d = section_first 8 m p d

record_at : (n at i : ℕ) (d : List ℕ) → i < n → get_or (section 8 n at d) i [] ≡ take 8 (words (drop (at + 32 * i) d))
record_at n at i d h =
    let e : at + i * 32 ≡ at + 32 * i = omega arith in
    record_placed 8 n at i d h ∙ ap (λ (p : ℕ). take 8 (words (drop p d))) e

-- the record at byte p
abbrev record_from : List ℕ → ℕ → List ℕ
record_from d p = take 8 (words (drop p d))

-- ---- one record with its fate

module _ (d : List ℕ) (p : ℕ) (room : p + 32 ≤ length d) where
  ahead : length (take p d) ≡ p
  ahead = length-take-le p d (omega arith)

  -- the record's first six words as they were, then the two
  parts : AllBytes d → (a b : ℕ) → bytes_of (with_fate (record_from d p) (a, b)) ≡ take 24 (drop p d) ++ (bytes4 a ++ bytes4 b)
  unfolding bytes_of with_fate each bytes4
  parts bs a b =
      let l : 4 * 6 ≤ length (drop p d) = simp length-drop (omega arith) in
      let f : AllBytes (drop p d) = λ j. rw (get_or-drop p d j 0) (bs (p + j)) in
      let t : take 6 (take 8 (words (drop p d))) ≡ take 6 (words (drop p d)) = take-take 6 8 (words (drop p d)) (omega arith) in
      each_append bytes4 (take 6 (take 8 (words (drop p d)))) (a ∷ b ∷ [])
      ∙ ap₂ ◌++◌ (ap bytes_of t ∙ bytes_back 6 (drop p d) l f) refl

  -- two words put at the record's end
  two_put : AllBytes d → (a b : ℕ) → put_word (put_word d (p + 24) a) (p + 28) b ≡ put d p (bytes_of (with_fate (record_from d p) (a, b)))
  two_put bs a b =
      let t : length (take (p + 24) d) ≡ p + 24 = length-take-le (p + 24) d (omega arith) in
      let one : put_word d (p + 24) a ≡ front d (take (p + 24) d ++ bytes4 a) = word_behind d (take (p + 24) d) d a (p + 24) (sym t) (omega arith) (itself d (p + 24) (omega arith)) in
      let four : length (bytes4 a) ≡ 4 = (unfold bytes4 in refl) in
      let both : p + 28 ≡ length (take (p + 24) d ++ bytes4 a) = simp length-append (omega (arith, t, four)) in
      let joined : (take (p + 24) d ++ bytes4 a) ++ bytes4 b ≡ take p d ++ (take 24 (drop p d) ++ (bytes4 a ++ bytes4 b)) = rw (take-add p 24 d) (simp append_assoc refl) in
      word_behind d (take (p + 24) d ++ bytes4 a) (put_word d (p + 24) a) b (p + 28) both (omega arith) one
      ∙ ap (front d) (joined ∙ ap (λ (e : List ℕ). take p d ++ e) (sym (parts bs a b)))
      ∙ sym (put_behind d (take p d) (bytes_of (with_fate (record_from d p) (a, b))) d p (sym ahead) (itself d p (omega arith)))

-- words 6 and 7 of record i put
pub fate_put : (n base i : ℕ) (d d₁ d₂ : List ℕ) (q r a b : ℕ) → i < n → base + 32 * i + 32 ≤ length d → AllBytes d → q ≡ base + 32 * i + 24 → r ≡ base + 32 * i + 28
    → d₁ ≡ put_word d q a → d₂ ≡ put_word d₁ r b → d₂ ≡ put d (base + 32 * i) (bytes_of (with_fate (get_or (section 8 n base d) i []) (a, b)))
fate_put n base i d d₁ d₂ q r a b h room bs eq er e₁ e₂ =
    rw (record_at n base i d h) (e₂ ∙ rw (e₁, eq, er) (two_put d (base + 32 * i) room bs a b))

-- ---- the records from byte p on

module _ (d d' : List ℕ) (p : ℕ) (x : ℕ × ℕ) (room : p + 32 ≤ length d) (put_one : d' ≡ put d p (bytes_of (with_fate (record_from d p) x))) where
  one : List ℕ
  one = bytes_of (with_fate (record_from d p) x)

  eight : 8 ≤ length (words (drop p d))
  eight = length_words 8 (drop p d) (simp length-drop (omega arith))

  length_one : length one ≡ 32
  unfolding one with_fate
  length_one =
      let t : length (take 6 (record_from d p)) ≡ 6 = length-take-le 6 (record_from d p) (omega (arith, length-take-le 8 (words (drop p d)) eight)) in
      length_bytes _ ∙ simp length-append (omega (arith, t))

  before : List ℕ
  before = take p d ++ one

  length_before : length before ≡ p + 32
  unfolding before
  length_before = simp length-append (omega (arith, length_one, ahead d p room))

  is_front : d' ≡ front d before
  unfolding before one
  is_front = put_one ∙ put_behind d (take p d) one d p (sym (ahead d p room)) (itself d p (omega arith))

  behind : drop (p + 32) d' ≡ drop (p + 32) d
  behind = ap₂ drop (sym length_before) is_front ∙ drop_front d before ∙ ap (λ (k : ℕ). drop k d) length_before

  pub fated_step : (m : ℕ) (xs : List (ℕ × ℕ)) → put d p (encode (fated (section 8 (suc m) p d) (x ∷ xs))) ≡ put d' (p + 32) (encode (fated (section 8 m (p + 32) d') xs))
  unfolding fated encode each section before one
  fated_step m xs =
      let e : section 8 m (p + 32) d' ≡ section 8 m (p + 32) d = (unfold section in ap (λ (b : List ℕ). records 8 m (words b)) behind) in
      rw (section_step m p d, e)
      (put_behind d (take p d) (one ++ encode (fated (section 8 m (p + 32) d) xs)) d p (sym (ahead d p room)) (itself d p (omega arith))
      ∙ ap (front d) (sym (append_assoc (take p d) one (encode (fated (section 8 m (p + 32) d) xs))))
      ∙ sym (put_behind d before (encode (fated (section 8 m (p + 32) d) xs)) d' (p + 32) (sym length_before) is_front))

-- ---- the statements from number i on, with the states that are still queued

fates_more : (queue : List ℕ) (r : Role) (rs : List Role) → fates_of queue (r ∷ rs) ≡ fate_in queue r rs ∷ fates_of (queue_in queue r) rs
unfolding fates_of fate_in left_in queue_in
fates_more queue (starts v) rs = refl
fates_more queue (rates v) rs = refl
fates_more [] free rs = refl
fates_more (v ∷ queue) free rs = refl

module _ (n base : ℕ) (roles : List Role) where
  -- the area once the rest is written
  unfoldable pub rest : List ℕ → ℕ → List ℕ → List ℕ
  rest d i queue = put d (base + 32 * i) (encode (fated (section 8 (n - i) (base + 32 * i) d) (map fate_pair (fates_of queue (drop i roles)))))

  pub rest_all : (d queue : List ℕ) → rest d 0 queue ≡ put d base (encode (fated (section 8 n base d) (map fate_pair (fates_of queue roles))))
  unfolding rest
  rest_all d queue =
      let e : base + 32 * 0 ≡ base = omega arith in
      let g : n - 0 ≡ n = omega arith in
      rw (e, g) refl

  pub rest_none : (d : List ℕ) (i : ℕ) (queue : List ℕ) → n ≤ i → rest d i queue ≡ d
  unfolding rest section records fated encode each put
  rest_none d i queue h =
      let e : n - i ≡ 0 = omega arith in
      let z : base + 32 * i + 0 ≡ base + 32 * i = omega arith in
      rw (e, z) (lib.ListN.take-append-drop (base + 32 * i) d)

  fates_here : (queue : List ℕ) (i : ℕ) → i < length roles → fates_of queue (drop i roles) ≡ fate_in queue (get_or roles i free) (drop (i + 1) roles) ∷ fates_of (queue_in queue (get_or roles i free)) (drop (i + 1) roles)
  fates_here queue i l = ap (fates_of queue) (drop_here roles free i l) ∙ fates_more queue _ _

  pub rest_more : (d d' : List ℕ) (i : ℕ) (queue queue' : List ℕ) → i < n → length roles ≡ n → base + 32 * n ≤ length d
      → d' ≡ put d (base + 32 * i) (bytes_of (with_fate (get_or (section 8 n base d) i []) (fate_pair (fate_in queue (get_or roles i free) (drop (i + 1) roles)))))
      → queue' ≡ queue_in queue (get_or roles i free)
      → rest d i queue ≡ rest d' (i + 1) queue'
  unfolding rest
  rest_more d d' i queue queue' h long room e g =
      let m : n - i ≡ suc (n - (i + 1)) = omega arith in
      let k : base + 32 * i + 32 ≡ base + 32 * (i + 1) = omega arith in
      let fs = fates_here queue i (omega arith) in
      let room' : base + 32 * i + 32 ≤ length d = omega arith in
      let e' : d' ≡ put d (base + 32 * i) (bytes_of (with_fate (record_from d (base + 32 * i)) (fate_pair (fate_in queue (get_or roles i free) (drop (i + 1) roles))))) = rw (record_at n base i d h) at e in
      rw (m, fs, ← k, g) (fated_step d d' (base + 32 * i) _ room' e' (n - (i + 1)) _)
