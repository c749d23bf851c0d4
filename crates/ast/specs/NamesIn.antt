-- Names by place: n of them from byte `at` on, in a text of the first `size` bytes.
use Rattle.std.specs.Prelude.{◌≡◌, true, List, [], map, ℕ, ◌+◌, ◌*◌, ◌≤◌, length, take, get_or}
use Rattle.functions.specs.Lists.{all}
use Rattle.ast.specs.FileNumbers.{name_length}
use Rattle.ast.specs.Words.{section}
use Rattle.ast.specs.Records.{name_fits, text_of_name}

module _ (f : List ℕ) (at n size : ℕ) where
  -- the text of name i, and those of all
  abbrev pub text_in : ℕ → List ℕ
  text_in i = text_of_name (take size f) (get_or (section name_length n at f) i [])

  abbrev pub texts_in : List (List ℕ)
  texts_in = map (text_of_name (take size f)) (section name_length n at f)

  -- They lie within the bytes, and each in the text.
  pub record NamesLie : Type 0 where
    pub lie : at + 4 * name_length * n ≤ length f
    pub text : size ≤ length f
    pub fit : all (name_fits size) (section name_length n at f) ≡ true
