use Rattle.std.specs.Prelude.{◌≡◌, ℕ, ◌+◌, Bool, if◌then◌else◌, List, is_some, Option}
use Rattle.std.specs.Borrow.{Bor}
use Rattle.std.specs.Option.{option_map}
use Rattle.problem_file.specs.declared.header.Header.{Header}
use Rattle.problem_file.specs.declared.reader.Reader.{Reader}
use Rattle.problem_file.specs.declared.record.Record.{Record}
use Rattle.problem_file.specs.Records.{record_in, shown}

-- a reader of the file, as the header lays it out, that stands at record `i`
abbrev pub standing : Bor (List ℕ) → Header → ℕ → Reader
standing file header i = record { file = file; header = header; position = i }

-- a reader moves to the next record if it shows one, and stays in its file
pub record Stepped (some : Bool) (before after : Reader) : Type 0 where
  pub file : after.file ≡ before.file
  pub header : after.header ≡ before.header
  pub position : after.position ≡ before.position + (if some then 1 else 0)

-- a reader shows the record at its position, or nothing where there is none, and steps on
pub record Reads (before : Reader) (result : Option Record) (after : Reader) : Type 0 where
  pub shows : option_map shown result ≡ record_in before.header.counts before.file.now before.position
  pub step : Stepped (is_some result) before after
