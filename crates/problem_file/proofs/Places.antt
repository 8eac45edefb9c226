-- Where records stand: in a section, one after the other, and within the file.
use Rattle.std.proofs.Common.{◌≡◌, ℕ, ◌+◌, ◌-◌, ◌*◌, ◌<◌, ◌≤◌, List, length, Some, None, ap, ⊎_elim, mul-le-mul_left, mul-one, mul-add, arith}
use Rattle.std.proofs.lemmas.Bool.{cases_lt}
use Rattle.std.proofs.lemmas.Bool.Decides.{nat_tests}
use Rattle.problem_file.specs.declared.counts.Counts.{Counts}
use Rattle.problem_file.specs.declared.layout.Section.{Section}
use Rattle.problem_file.specs.declared.layout.Section.TheVariants.{Tasks, Windows, Dependencies, Exclusions}
use Rattle.problem_file.specs.Layout.{count, size, first, start, total, file_end, section_of, record_at, record_bytes}
use Rattle.problem_file.specs.Records.{reading, record_of, record_in}
use Rattle.problem_file.proofs.Shows.{record_at_lem}

-- record `i` is one of section `s`
pub record Inside (c : Counts) (s : Section) (i : ℕ) : Type 0 where
  pub low : first c s ≤ i
  pub high : i < first c s + count c s

pub inside : (c : Counts) (i : ℕ) (s : Section) → section_of c i ≡ Some s → Inside c s i
inside c i Tasks e = record { low = grind (arith, nat_tests); high = grind (arith, nat_tests) }
inside c i Windows e = record { low = grind (arith, nat_tests); high = grind (arith, nat_tests) }
inside c i Dependencies e = record { low = grind (arith, nat_tests); high = grind (arith, nat_tests) }
inside c i Exclusions e = record { low = grind (arith, nat_tests); high = grind (arith, nat_tests) }

pub section_is : (c : Counts) (i : ℕ) (s : Section) → Inside c s i → section_of c i ≡ Some s
section_is c i Tasks h = let a = h.low in let b = h.high in grind (arith, nat_tests)
section_is c i Windows h = let a = h.low in let b = h.high in grind (arith, nat_tests)
section_is c i Dependencies h = let a = h.low in let b = h.high in grind (arith, nat_tests)
section_is c i Exclusions h = let a = h.low in let b = h.high in grind (arith, nat_tests)

-- every record stands in a section
pub some_section : (c : Counts) (i : ℕ) → i < total c → (s : Section) × (section_of c i ≡ Some s)
some_section c i lt =
    ⊎_elim (λ (a : i < first c Windows). (Tasks, grind (arith, nat_tests)))
    (λ (a : first c Windows ≤ i). ⊎_elim (λ (b : i < first c Dependencies). (Windows, grind (arith, nat_tests)))
    (λ (b : first c Dependencies ≤ i). ⊎_elim (λ (d : i < first c Exclusions). (Dependencies, grind (arith, nat_tests)))
    (λ (d : first c Exclusions ≤ i). (Exclusions, grind (arith, nat_tests)))
    (cases_lt i (first c Exclusions)))
    (cases_lt i (first c Dependencies)))
    (cases_lt i (first c Windows))

-- a section's records are among all
pub inside_total : (c : Counts) (i : ℕ) (s : Section) → Inside c s i → i < total c
inside_total c i Tasks h = omega (arith, h.high)
inside_total c i Windows h = omega (arith, h.high)
inside_total c i Dependencies h = omega (arith, h.high)
inside_total c i Exclusions h = omega (arith, h.high)

-- a section ends within the file
pub section_end : (c : Counts) (s : Section) → start c s + size c s * count c s ≤ file_end c
section_end c Tasks = omega arith
section_end c Windows = omega arith
section_end c Dependencies = omega arith
section_end c Exclusions = omega arith

-- a record ends within the file
pub record_end : (c : Counts) (i : ℕ) (s : Section) → Inside c s i → record_at c s i + size c s ≤ file_end c
record_end c i s h =
    let k : ℕ = i - first c s in
    let more : size c s * (k + 1) ≡ size c s * k + size c s = simp (mul-add, mul-one) in
    let below : k + 1 ≤ count c s = omega (arith, h.low, h.high) in
    let within : size c s * (k + 1) ≤ size c s * count c s = mul-le-mul_left (size c s) below in
    omega (arith, section_end c s)

-- in a file that ends where its last section does, each record is there
pub record_there : (c : Counts) (file : List ℕ) (i : ℕ) (s : Section) → length file ≡ file_end c → Inside c s i → record_in c file i ≡ Some (reading c.dimensions.processors s (record_bytes c file s i))
record_there c file i s whole h = record_at_lem c file i s (section_is c i s h) (omega (arith, record_end c i s h))

-- and where no record is shown, none is left
pub none_left : (c : Counts) (file : List ℕ) (i : ℕ) → length file ≡ file_end c → record_in c file i ≡ None → total c ≤ i
none_left c file i whole e =
    ⊎_elim
    (λ (lt : i < total c).
    let s = some_section c i lt in
    let f = record_there c file i s.0 whole (inside c i s.0 s.1) in
    cc)
    (λ (le : total c ≤ i). le)
    (cases_lt i (total c))

-- past the last record, none is shown
pub none_past : (c : Counts) (file : List ℕ) (i : ℕ) → total c ≤ i → record_in c file i ≡ None
none_past c file i le = let e : section_of c i ≡ None = grind (arith, nat_tests) in ap (record_of c file i) e
