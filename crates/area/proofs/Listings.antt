-- Laws of errors listed in an area: one after the other, from the front, and the four words of one.
use mathlib.Core.Path.{◌≡◌, refl, sym, ap, ◌∙◌}
use mathlib.Core.Bool.{Bool, true, false, cond}
use mathlib.Core.List.{List, [], ◌∷◌, ◌++◌, map, append_assoc, append-nil}
use Prim.Native.Nat.{ℕ, zero, suc, ◌+◌, ◌*◌, ◌^◌, ◌≤◌, ◌<◌}
use native.Mathlib.Omega.{arith}
use native.Mathlib.Nat.{add-zero}
use lib.Dec.{ltb}
use lib.ListN.{length, take, length-append}
use borrow.Author.Tests.{lt-ltb, le-ltb}
use denote.Enum.Declared.{tag_of}
use Rattle.std.specs.Prelude.{None, Some}
use Rattle.functions.specs.Lists.{each}
use Rattle.ast.specs.Words.{bytes4, bytes_of}
use Rattle.ast.specs.Bytes.{front, put}
use Rattle.ast.specs.Encode.{encode}
use Rattle.ast.proofs.Fronts.{put_behind, front_none}
use Rattle.ast.proofs.Encodes.{each_append, length_bytes}
use Rattle.definitions.specs.Variables.{Error, error}
use Rattle.definitions.specs.Answer.{error_words}
use Rattle.area.specs.declared.errors.ErrorKind.{ErrorKind}
use Rattle.area.specs.declared.errors.ErrorKind.TheVariants.{UnknownDomain, ReservedName, SubmodelMissing, PositionalAfterKeyword, NameNotFound, CountAgainstTable, KeywordInBuiltIn, CountAgainstVariable, NoSuchDependent, PositionalAfterNamed, CallNotFound, WrongStart, RateInvalid, Underdetermined, Overdetermined, NoInitialCondition, AlgebraicInitialCondition}
use Rattle.area.specs.declared.errors.Found.{Found}
use Rattle.area.specs.declared.errors.Errors.{Errors}
use Rattle.area.specs.contracts.errors.ErrorKind.{the_type}
use Rattle.area.specs.Listing.{spanned, put_error, listed, Lists, kind_number, error_as, found_as}
use Rattle.area.specs.LentList.{Listed, RoomFor}
use Rattle.area.proofs.Puts.{length_put}

-- ---- one behind the other

pub listed_append : (d : List ℕ) (n : ℕ) (a b : List Error) → listed d n (a ++ b) ≡ listed (listed d n a) (n + length a) b
unfolding listed
listed_append d n [] b = rw add-zero
listed_append d n (e ∷ a) b =
    let z : n + 1 + length a ≡ n + suc (length a) = omega arith in
    listed_append (put_error d n e) (n + 1) a b ∙ rw z

-- ---- the length stays

length_error : (e : Error) → length (bytes_of (error_words e)) ≡ 16
unfolding error_words
length_error e = length_bytes (error_words e)

length_put_error : (d : List ℕ) (n : ℕ) (e : Error) → 4096 ≤ length d → length (put_error d n e) ≡ length d
unfolding put_error
length_put_error d n e h = go (ltb n 256) refl
  where
    go : (b : Bool) → ltb n 256 ≡ b → length (cond b (put d (16 * n) (bytes_of (error_words e))) d) ≡ length d
    go true t = let l : n < 256 = borrow.Author.Tests.ltb-true n 256 t in length_put d (bytes_of (error_words e)) (16 * n) (omega (arith, length_error e))
    go false t = refl

pub length_listed : (d : List ℕ) (n : ℕ) (es : List Error) → 4096 ≤ length d → length (listed d n es) ≡ length d
unfolding listed
length_listed d n [] h = refl
length_listed d n (e ∷ es) h =
    let l = length_put_error d n e h in
    length_listed (put_error d n e) (n + 1) es (omega arith) ∙ l

-- ---- from the front

-- beyond the first 256 nothing is listed
listed_full : (d : List ℕ) (n : ℕ) (es : List Error) → 256 ≤ n → listed d n es ≡ d
unfolding listed put_error
listed_full d n [] h = refl
listed_full d n (e ∷ es) h = rw (le-ltb n 256 h) (listed_full d (n + 1) es (omega arith))

listed_behind : (k : ℕ) (d pre d' : List ℕ) (n : ℕ) (es : List Error) → n + k ≡ 256 → 16 * n ≡ length pre → d' ≡ front d pre
    → listed d' n es ≡ front d (pre ++ bytes_of (each error_words (take k es)))
unfolding bytes_of each listed put_error
listed_behind zero d pre d' n es h l e = listed_full d' n es (omega arith) ∙ e ∙ rw append-nil
listed_behind (suc k) d pre d' n [] h l e = e ∙ rw append-nil
listed_behind (suc k) d pre d' n (x ∷ es) h l e =
    let b = bytes_of (error_words x) in
    let t : ltb n 256 ≡ true = lt-ltb n 256 (omega arith) in
    let p : put_error d' n x ≡ front d (pre ++ b) = rw t (put_behind d pre b d' (16 * n) l e) in
    let m : 16 * (n + 1) ≡ length (pre ++ b) = simp length-append (omega (arith, length_error x)) in
    listed_behind k d (pre ++ b) (put_error d' n x) (n + 1) es (omega arith) m p
    ∙ rw (append_assoc, each_append)

-- All errors from the first on: the first 256 stand at the area's front.
pub listed_front : (d : List ℕ) (es : List Error) → listed d 0 es ≡ front d (bytes_of (each error_words (take 256 es)))
listed_front d es = listed_behind 256 d [] d 0 es refl refl (sym (front_none d))

encoded : (es : List Error) → bytes_of (each error_words es) ≡ encode (map error_words es)
unfolding encode each bytes_of
encoded [] = refl
encoded (e ∷ es) = each_append bytes4 (error_words e) (each error_words es) ∙ rw (encoded es)

-- the same, as the section of the errors
pub listed_section : (d : List ℕ) (es : List Error) → listed d 0 es ≡ front d (encode (map error_words (take 256 es)))
listed_section d es = listed_front d es ∙ ap (front d) (encoded (take 256 es))

-- ---- one error's four words

-- an error among the first 256, its kind by any number
pub error_listed : (d d' : List ℕ) (n k a b c : ℕ) → n < 256 → d' ≡ put d (16 * n) (bytes_of (k ∷ a ∷ b ∷ c ∷ [])) → d' ≡ listed d n (error k (spanned a b) c ∷ [])
unfolding listed put_error error_words error
error_listed d d' n k a b c l e = rw (lt-ltb n 256 l) e

-- what stands in a record for a kind is its number
kind_word : (k : ErrorKind) → tag_of the_type k + 1 ≡ kind_number k
kind_word UnknownDomain = refl
kind_word ReservedName = refl
kind_word SubmodelMissing = refl
kind_word PositionalAfterKeyword = refl
kind_word NameNotFound = refl
kind_word CountAgainstTable = refl
kind_word KeywordInBuiltIn = refl
kind_word CountAgainstVariable = refl
kind_word NoSuchDependent = refl
kind_word PositionalAfterNamed = refl
kind_word CallNotFound = refl
kind_word WrongStart = refl
kind_word RateInvalid = refl
kind_word Underdetermined = refl
kind_word Overdetermined = refl
kind_word NoInitialCondition = refl
kind_word AlgebraicInitialCondition = refl

-- one that a test finds
pub found_listed : (d d' : List ℕ) (n : ℕ) (e : Found) → n < 256 → d' ≡ put d (16 * n) (bytes_of ((tag_of the_type e.kind + 1) ∷ e.from ∷ e.to ∷ e.name ∷ []))
    → d' ≡ listed d n (error (kind_number e.kind) (spanned e.from e.to) e.name ∷ [])
found_listed d d' n e l h = rw (← kind_word e.kind) (error_listed d d' n (tag_of the_type e.kind + 1) e.from e.to e.name l h)

-- an error that is only counted
pub error_counted : (d : List ℕ) (n : ℕ) (e : Error) → 256 ≤ n → d ≡ listed d n (e ∷ [])
error_counted d n e h = sym (listed_full d n (e ∷ []) h)

-- ---- what a test finds

pub found_as-None : found_as None ≡ []
unfolding found_as
found_as-None = refl

pub found_as-Some : (e : Found) → found_as (Some e) ≡ error_as e ∷ []
unfolding found_as
found_as-Some e = refl

-- one, and it is this error
pub found_one : (x : Found) (e : Error) → error_as x ≡ e → found_as (Some x) ≡ e ∷ []
unfolding found_as
found_one x e h = rw h refl

-- ---- what a function that lists meets

pub lists_none : (d : List ℕ) (n : ℕ) → Lists d n [] n d
unfolding listed
lists_none d n = (sym (add-zero n), refl)

-- errors that are those of two functions, one behind the other
pub record Joins (es xs ys : List Error) : Type 0 where
  pub is : es ≡ xs ++ ys

module _ {es xs ys : List Error} (e : Joins es xs ys) where
  pub lists_then : (d d' d'' : List ℕ) (n r r' : ℕ) → Lists d n xs r d' → Lists d' r ys r' d'' → Lists d n es r' d''
  lists_then d d' d'' n r r' p q =
      (q.0 ∙ omega (arith, p.0, length-append xs ys, ap length e.is), q.1 ∙ rw (p.1, p.0, e.is) (sym (listed_append d n xs ys)))

  -- where all can be counted, so can the first, and the others behind them
  pub room_first : (n : ℕ) → n + length es < 2 ^ 40 → n + length xs < 2 ^ 40
  room_first n h = omega (arith, h, length-append xs ys, ap length e.is)

  pub room_then : (d d' : List ℕ) (n r : ℕ) → n + length es < 2 ^ 40 → Lists d n xs r d' → r + length ys < 2 ^ 40
  room_then d d' n r h p = omega (arith, h, p.0, length-append xs ys, ap length e.is)

-- ---- the same in lent bytes

pub none_listed : (e : Errors) → Listed e [] e
none_listed e = record { lists = lists_none e.bytes.now e.count; same = refl }

module _ {es xs ys : List Error} (e : Joins es xs ys) {a b : Errors} where
  pub listed_then : {c : Errors} → Listed a xs b → Listed b ys c → Listed a es c
  listed_then p q = record { lists = lists_then e _ _ _ _ _ _ p.lists q.lists; same = q.same ∙ p.same }

  pub listed_room : RoomFor a es → Listed a xs b → RoomFor b ys
  listed_room h p = room_then e _ _ _ _ h p.lists
