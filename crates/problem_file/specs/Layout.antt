use Rattle.std.specs.Prelude.{ℕ, ◌+◌, ◌-◌, ◌*◌, ◌≤◌, if◌then◌else◌, List, length, take, drop, Some, None, Option, nat_lt}
use Rattle.problem.specs.Limits.{DimensionsFit}
use Rattle.problem_file.specs.declared.counts.Counts.{Counts}
use Rattle.problem_file.specs.declared.layout.Section.{Section}
use Rattle.problem_file.specs.declared.layout.Section.TheVariants.{Tasks, Windows, Dependencies, Exclusions}

-- the frame and every count are within their limits
abbrev pub CountsFit : Counts → Type 0
CountsFit c = DimensionsFit c.dimensions × (c.windows ≤ 64) × (c.dependencies ≤ 256) × (c.exclusions ≤ 128)

-- how many records a section has
abbrev pub count : Counts → Section → ℕ
count c Tasks = c.dimensions.tasks
count c Windows = c.windows
count c Dependencies = c.dependencies
count c Exclusions = c.exclusions

-- how many bytes a record of a section has
abbrev pub size : Counts → Section → ℕ
size c Tasks = 16 + 4 * c.dimensions.processors
size c Windows = 16
size c Dependencies = 16
size c Exclusions = 12

-- the number of a section's first record, counted from 0 through all sections
abbrev pub first : Counts → Section → ℕ
first c Tasks = 0
first c Windows = c.dimensions.tasks
first c Dependencies = c.dimensions.tasks + c.windows
first c Exclusions = c.dimensions.tasks + c.windows + c.dependencies

-- how many records there are
abbrev pub total : Counts → ℕ
total c = first c Exclusions + c.exclusions

-- where a section begins: the first after the 48 bytes of the header, each other at the end of the one before
abbrev pub start : Counts → Section → ℕ
start c Tasks = 48
start c Windows = 48 + (16 + 4 * c.dimensions.processors) * c.dimensions.tasks
start c Dependencies = 48 + (16 + 4 * c.dimensions.processors) * c.dimensions.tasks + 16 * c.windows
start c Exclusions = 48 + (16 + 4 * c.dimensions.processors) * c.dimensions.tasks + 16 * c.windows + 16 * c.dependencies

-- where the last section ends
abbrev pub file_end : Counts → ℕ
file_end c = start c Exclusions + 12 * c.exclusions

-- the section that record `i` stands in
abbrev pub section_of : Counts → ℕ → Option Section
section_of c i =
    (if nat_lt i (first c Windows) then Some Tasks
    else (if nat_lt i (first c Dependencies) then Some Windows
    else (if nat_lt i (first c Exclusions) then Some Dependencies
    else (if nat_lt i (total c) then Some Exclusions else None))))

-- where record `i`, which stands in section `s`, begins
abbrev pub record_at : Counts → Section → ℕ → ℕ
record_at c s i = start c s + size c s * (i - first c s)

-- the bytes of record `i`, which stands in section `s`
abbrev pub record_bytes : Counts → List ℕ → Section → ℕ → List ℕ
record_bytes c file s i = take (size c s) (drop (record_at c s i) file)

-- those bytes, where all of them are there
abbrev pub bytes_in : Counts → List ℕ → Section → ℕ → Option (List ℕ)
bytes_in c file s i = (if nat_lt (length file) (record_at c s i + size c s) then None else Some (record_bytes c file s i))
