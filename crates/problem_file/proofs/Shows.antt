-- What the reader shows is the record of the file.
use Rattle.std.proofs.Common.{◌≡◌, ℕ, ◌+◌, ◌<◌, ◌≤◌, ltb, List, length, Some, None, Option, refl, ap, ◌∙◌, ⊎_elim}
use Rattle.std.proofs.lemmas.Bool.{le-ltb, lt-ltb, cond-false, cond-true, cases_lt}
use Rattle.std.specs.Option.{option_map}
use Rattle.problem_file.specs.declared.counts.Counts.{Counts}
use Rattle.problem_file.specs.declared.layout.Section.{Section}
use Rattle.problem_file.specs.Layout.{size, section_of, record_at, record_bytes, bytes_in}
use Rattle.problem_file.specs.Records.{Shown, reading, record_of, record_in}

-- the bytes of a record that the file goes on to
bytes_there : (c : Counts) (file : List ℕ) (s : Section) (i : ℕ) → record_at c s i + size c s ≤ length file → bytes_in c file s i ≡ Some (record_bytes c file s i)
bytes_there c file s i within =
    cond-false (ltb (length file) (record_at c s i + size c s)) None (Some (record_bytes c file s i)) (le-ltb (length file) (record_at c s i + size c s) within)

-- record `i` stands in section `s`, and its bytes are there
pub record_at_lem : (c : Counts) (file : List ℕ) (i : ℕ) (s : Section) → section_of c i ≡ Some s → record_at c s i + size c s ≤ length file → record_in c file i ≡ Some (reading c.dimensions.processors s (record_bytes c file s i))
record_at_lem c file i s here within =
    ap (record_of c file i) here ∙ ap (option_map (reading c.dimensions.processors s)) (bytes_there c file s i within)

-- where a record is shown, it stands in a section and its bytes are there
pub record There (c : Counts) (file : List ℕ) (i : ℕ) (o : Option Section) (x : Shown) : Type 0 where
  pub section : Section
  pub stands : o ≡ Some section
  pub within : record_at c section i + size c section ≤ length file
  pub value : x ≡ reading c.dimensions.processors section (record_bytes c file section i)

pub there : (c : Counts) (file : List ℕ) (i : ℕ) (o : Option Section) (x : Shown) → record_of c file i o ≡ Some x → There c file i o x
there c file i None x e = cc
there c file i (Some s) x e =
    let end : ℕ = record_at c s i + size c s in
    ⊎_elim
    (λ (lt : length file < end).
    let f = ap (option_map (reading c.dimensions.processors s)) (cond-true (ltb (length file) end) None (Some (record_bytes c file s i)) (lt-ltb (length file) end lt)) in
    cc)
    (λ (le : end ≤ length file).
    let f = ap (option_map (reading c.dimensions.processors s)) (bytes_there c file s i le) in
    record { section = s; stands = refl; within = le; value = cc })
    (cases_lt (length file) end)
