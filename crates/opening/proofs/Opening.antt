-- From the one outcome of opening a file to what opening promises of its encodings and its records.
use Rattle.std.proofs.Common.{◌≡◌, ℕ, ◌+◌, true, List, length, is_ok, Some, None, Ok, Err, Option, Result, refl, ap, ◌∙◌, subst}
use Rattle.std.specs.List.{slice_get}
use Rattle.std.specs.Option.{option_map}
use Rattle.words.proofs.Encoded.{Octets}
use Rattle.problem.specs.declared.problem.Problem.{Problem}
use Rattle.problem.specs.Limits.{Model}
use Rattle.problem.specs.Model.{model}
use Rattle.problem_file.proofs.Headers.{formed}
use Rattle.problem_file.specs.declared.counts.Counts.{Counts}
use Rattle.problem_file.specs.declared.fault.FileFault.{FileFault}
use Rattle.problem_file.specs.declared.layout.Section.TheVariants.{Windows}
use Rattle.problem_file.specs.Header.{header_of}
use Rattle.problem_file.specs.Layout.{first, total}
use Rattle.problem_file.specs.Records.{record_in}
use Rattle.opening.specs.declared.fault.Fault.{Fault}
use Rattle.opening.specs.declared.fault.ProblemFault.{ProblemFault}
use Rattle.opening.specs.declared.fault.ProblemFault.TheVariants.{Field, Order}
use Rattle.opening.specs.declared.fault.OpenError.{OpenError}
use Rattle.opening.specs.declared.fault.OpenError.TheVariants.{Refused, Memory}
use Rattle.opening.specs.Opened.{lowest, misfit, misplaced, stated, field_fault, order_fault, records_fault, judged, header_opened, opened}
use Rattle.opening.specs.Promise.{Encodes, Outcome, OpensEncodings, HoldsRecords}
use Rattle.opening.specs.Entries.{entries, entry_of}
use Rattle.opening.proofs.Holds.{holds_shown}
use Rattle.opening.proofs.Lowest.{mapped_none, neither}
use Rattle.opening.proofs.Reopened.{reopened}
use Rattle.opening.proofs.Within.{stated_within}
use Rattle.opening.proofs.Written.{written}

-- a file that opens as a problem: its header is right, its records have no fault, and it states the problem
record Granted (file : List ℕ) (m : Model) : Type 0 where
  counts : Counts
  header : header_of file ≡ Ok counts
  faultless : records_fault counts file ≡ None
  states : stated counts file ≡ m

judged_ok : (s m : Model) (o : Option ProblemFault) → judged s o ≡ Ok m → (o ≡ None) × (s ≡ m)
judged_ok s m None e = (refl, cc)
judged_ok s m (Some fault) e = cc

granted_from : (file : List ℕ) (m : Model) (h : Result Counts FileFault) → header_of file ≡ h → header_opened file h ≡ Ok m → Granted file m
granted_from file m (Err fault) is e = cc
granted_from file m (Ok c) is e =
    let j = judged_ok (stated c file) m (records_fault c file) e in
    record { counts = c; header = is; faultless = j.0; states = j.1 }

granted : (file : List ℕ) (m : Model) → opened file ≡ Ok m → Granted file m
granted file m e = granted_from file m (header_of file) refl e

-- the problem is within its limits, and the file is its encoding
pub encodes : (file : List ℕ) (m : Model) → Octets file → opened file ≡ Ok m → Encodes m file
encodes file m small e =
    let g = granted file m e in
    let c = g.counts in
    let ws = (stated c file).windows in
    let both = neither (field_fault c file) (order_fault c ws) g.faultless in
    let fits = mapped_none Field (lowest (misfit c file) (total c)) both.0 in
    let placed = mapped_none (λ k. Order (first c Windows + k)) (lowest (misplaced ws) (length ws)) both.1 in
    let form = formed file c g.header in
    subst (λ (x : Model). Encodes x file) g.states (record { within = stated_within c file form fits placed; bytes = written c file form small fits })

-- the encoding of a problem within the limits opens as that problem
opened_again : (file : List ℕ) (m : Model) → Encodes m file → opened file ≡ Ok m
opened_again file m h = ap opened h.bytes ∙ reopened m h.within

some_model : (o : Result Model Fault) → is_ok o ≡ true → (m : Model) × (o ≡ Ok m)
some_model (Ok m) e = (m, refl)
some_model (Err fault) e = cc

-- what a call's outcome says of the encodings
pub opens : (file : List ℕ) (r : Result Problem OpenError) → Octets file → Outcome (opened file) r → OpensEncodings file r
opens file (Ok p) small o = (encodes file (model p) small o, λ m h. let again = opened_again file m h in cc)
opens file (Err (Refused fault)) small o = λ m h. let again = opened_again file m h in cc
opens file (Err (Memory full)) small o = let found = some_model (opened file) o in (found.0, encodes file found.0 small found.1)

-- and what it says of the records that the reader shows
pub holds : (file : List ℕ) (r : Result Problem OpenError) → Outcome (opened file) r → HoldsRecords file r
holds file (Ok p) o = λ d f i.
    let g = granted file (model p) o in
    let c = g.counts in
    let same : d ≡ c = let h = g.header in cc in
    ap (λ x. option_map entry_of (record_in x file i)) same
    ∙ holds_shown c file (formed file c g.header).ends i
    ∙ ap (λ m. slice_get (entries m) i) g.states
holds file (Err error) o = tt
