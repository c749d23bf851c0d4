-- An open file by number: how many records each section has, its models by their records, and the text of a name.
use mathlib.Core.Path.{◌≡◌, sym, ◌∙◌, ap}
use mathlib.Core.List.{List, [], map}
use Prim.Native.Nat.{ℕ, ◌+◌, ◌-◌, ◌≤◌, ◌<◌}
use lib.ListN.{length, take, drop, get_or, length-map, get_or-map}
use native.Mathlib.Omega.{arith}
use Rattle.ast.specs.Words.{word_of}
use Rattle.ast.specs.Records.{text_of_name, unknown_of, stmt_of, model_of}
use Rattle.ast.specs.File.{names_at, unknowns_at, stmts_at, models_at, contents_of, file_of}
use Rattle.ast.specs.declared.sections.Sections.{Sections}
use Rattle.ast.specs.Opens.{Open, contents_in, file_in}
use Rattle.ast.specs.Tree.{Model}
use Rattle.ast.proofs.Fields.{length_section}
use Rattle.ast.proofs.Files.{parts, model_at_lem}
use Rattle.ast.proofs.Opened.{ranges}
use Rattle.ast.proofs.Texts.{name_in, part_name}
use Rattle.definitions.specs.Names.{text_of}
use Rattle.definitions.specs.Flatten.{no_model, model_at}

-- ---- how many records each section has

module _ (f : List ℕ) (s : Sections) where
  -- the records of model m, of statement q and of unknown u
  abbrev pub model_record : ℕ → List ℕ
  model_record m = get_or (contents_in f s).models m []

  abbrev pub stmt_record : ℕ → List ℕ
  stmt_record q = get_or (contents_in f s).stmts q []

  abbrev pub unknown_record : ℕ → List ℕ
  unknown_record u = get_or (contents_in f s).unknowns u []

  pub name_records_lem : length (contents_in f s).names ≡ s.counts.names
  unfolding contents_of
  name_records_lem = length_section 2 s.counts.names (names_at s.counts) f

  pub unknown_records_lem : length (contents_in f s).unknowns ≡ s.counts.unknowns
  unfolding contents_of
  unknown_records_lem = length_section 10 s.counts.unknowns (unknowns_at s.counts) f

  pub stmt_records_lem : length (contents_in f s).stmts ≡ s.counts.stmts
  unfolding contents_of
  stmt_records_lem = length_section 6 s.counts.stmts (stmts_at s.counts) f

  pub model_records_lem : length (contents_in f s).models ≡ s.counts.models
  unfolding contents_of
  model_records_lem = length_section 7 s.counts.models (models_at s.counts) f

  -- the file's names and models
  pub names_long : length (file_in f s).names ≡ s.counts.names
  unfolding file_of
  names_long = simp length-map name_records_lem

  pub models_long : length (file_in f s).models ≡ s.counts.models
  unfolding file_of
  models_long = simp length-map model_records_lem

  -- model m by its record: all of it, and its name
  module _ (m : ℕ) (h : m < s.counts.models) where
    pub model_by_record : model_at (file_in f s) m ≡ model_of (map (unknown_of (contents_in f s).deps) (contents_in f s).unknowns) (map (stmt_of (contents_in f s).nodes) (contents_in f s).stmts) (model_record m)
    unfolding model_at
    model_by_record = model_at_lem (contents_in f s) m no_model (omega (arith, model_records_lem))

    pub model_name_is : (model_at (file_in f s) m).name ≡ word_of (model_record m) 0
    unfolding model_of
    model_name_is = ap (λ (x : Model). x.name) model_by_record

  -- ---- names

  module _ (o : Open f s) where
    -- name n lies in the text
    pub name_within : (n : ℕ) → n < s.counts.names → word_of (get_or (contents_in f s).names n []) 0 + word_of (get_or (contents_in f s).names n []) 1 ≤ s.counts.text
    unfolding contents_of
    name_within n h = name_in s.counts.text s.counts.names (names_at s.counts) f (parts (contents_in f s) o.fits).names n h

    -- its text is a part of the file
    pub name_part : (n a l : ℕ) → n < s.counts.names → a ≡ word_of (get_or (contents_in f s).names n []) 0 → l ≡ word_of (get_or (contents_in f s).names n []) 1
        → take (a + l - a) (drop a f) ≡ text_of (file_in f s).names n
    unfolding contents_of file_of text_of text_of_name word_of
    name_part n a l h p q =
        part_name f s.counts.text (ranges f s o).text (get_or (contents_in f s).names n []) a l p q (name_within n h)
        ∙ sym (get_or-map (text_of_name (contents_in f s).text) (contents_in f s).names n [])
