use Rattle.std.specs.Prelude.{ℕ, Bool, if◌then◌else◌, not, ◌&&◌, ◌||◌, List, length, Ok, Err, Result, ◌==◌, nat_le, nat_lt}
use Rattle.words.specs.Words.{word_at}
use Rattle.problem_file.specs.declared.counts.Counts.{Counts}
use Rattle.problem_file.specs.declared.fault.FileFault.{FileFault}
use Rattle.problem_file.specs.declared.fault.FileFault.TheVariants.{Kind, Count, Layout}
use Rattle.problem_file.specs.declared.layout.Section.TheVariants.{Tasks, Windows, Dependencies, Exclusions}
use Rattle.problem_file.specs.Layout.{start, file_end}

-- the numbers that the header's words state
abbrev pub stated_counts : List ℕ → Counts
stated_counts file = record {
  dimensions = record {
    frame = word_at file 4;
    processors = word_at file 8;
    partitions = word_at file 12;
    tasks = word_at file 16;
  };
  windows = word_at file 20;
  dependencies = word_at file 24;
  exclusions = word_at file 28;
}

-- `n` is from `low` to `high`
abbrev pub between : ℕ → ℕ → ℕ → Bool
between low n high = nat_le low n && nat_le n high

-- the frame and every count are within their limits
abbrev pub counts_in_range : Counts → Bool
counts_in_range c =
    between 1 c.dimensions.frame 1000000
    && between 1 c.dimensions.processors 4
    && between 1 c.dimensions.partitions 8
    && between 1 c.dimensions.tasks 64
    && nat_le c.windows 64
    && nat_le c.dependencies 256
    && nat_le c.exclusions 128

-- every section begins where the one before it ends, and the file ends with the last
abbrev pub laid_out : List ℕ → Counts → Bool
laid_out file c =
    (word_at file 32 == start c Tasks)
    && word_at file 36 == start c Windows
    && word_at file 40 == start c Dependencies
    && word_at file 44 == start c Exclusions
    && length file == file_end c

-- the header's numbers, or the first of the faults in the file's form
abbrev pub header_of : List ℕ → Result Counts FileFault
header_of file =
    (if nat_lt (length file) 48 || not (word_at file 0 == 1) then Err Kind
    else (if not (counts_in_range (stated_counts file)) then Err Count
    else (if not (laid_out file (stated_counts file)) then Err Layout
    else Ok (stated_counts file))))
