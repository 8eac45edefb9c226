-- A reader on its way through the records of a file.
use Rattle.std.proofs.Common.{◌≡◌, ℕ, ◌<◌, ◌≤◌, List, length, Some, None, Option, sym, ap, ◌∙◌, arith, Bor}
use Rattle.std.specs.Option.{option_map}
use Rattle.problem_file.specs.declared.counts.Counts.{Counts}
use Rattle.problem_file.specs.declared.header.Header.{Header}
use Rattle.problem_file.specs.declared.reader.Reader.{Reader}
use Rattle.problem_file.specs.declared.record.Record.{Record}
use Rattle.problem_file.specs.Layout.{total, section_of, file_end}
use Rattle.problem_file.specs.Reader.{standing, Reads}
use Rattle.problem_file.specs.Records.{Shown, record_in, shown}
use Rattle.problem_file.proofs.Places.{inside, inside_total, none_left}
use Rattle.problem_file.proofs.Shows.{there}

-- the reader goes through this file, by these counts, and has not passed its last record
pub record Standing (c : Counts) (file : List ℕ) (r : Reader) : Type 0 where
  pub counts : r.header.counts ≡ c
  pub bytes : r.file.now ≡ file
  pub bound : r.position ≤ total c

-- a reader that was put at one of the records, or at their end, does
pub standing_at : (file : Bor (List ℕ)) (header : Header) (i : ℕ) (r : Reader) → r ≡ standing file header i → i ≤ total header.counts → Standing header.counts file.now r
standing_at file header i r is le =
    record { counts = ap (λ x. x.header.counts) is; bytes = ap (λ x. x.file.now) is; bound = omega (arith, ap (λ x. x.position) is) }

-- what it shows is a record of the file
pub standing_shows : (c : Counts) (file : List ℕ) (r t : Reader) (o : Option Record) → Standing c file r → Reads r o t → record_in c file r.position ≡ option_map shown o
standing_shows c file r t o s reads =
    ap (λ f. record_in c f r.position) (sym s.bytes) ∙ ap (λ d. record_in d r.file.now r.position) (sym s.counts) ∙ sym reads.shows

-- a record that is shown is one of the file's
pub shown_inside : (c : Counts) (file : List ℕ) (i : ℕ) (x : Shown) → record_in c file i ≡ Some x → i < total c
shown_inside c file i x e = let t = there c file i (section_of c i) x e in inside_total c i t.section (inside c i t.section t.stands)

-- after a record it still does
pub standing_more : (c : Counts) (file : List ℕ) (r t : Reader) (x : Record) → Standing c file r → Reads r (Some x) t → Standing c file t
standing_more c file r t x s reads =
    let shows = standing_shows c file r t (Some x) s reads in
    record {
      counts = ap (λ h. h.counts) reads.step.header ∙ s.counts;
      bytes = ap (λ b. b.now) reads.step.file ∙ s.bytes;
      bound = omega (arith, shown_inside c file r.position (shown x) shows, reads.step.position);
    }

-- where it shows nothing, all records have been shown
pub standing_end : (c : Counts) (file : List ℕ) (r t : Reader) → length file ≡ file_end c → Standing c file r → Reads r None t → r.position ≡ total c
standing_end c file r t whole s reads =
    omega (arith, s.bound, none_left c file r.position whole (standing_shows c file r t None s reads))
