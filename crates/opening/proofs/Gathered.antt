-- Gathering the records one by one gives the lists that the file states.
use Rattle.std.proofs.Common.{◌≡◌, ℕ, ◌+◌, ◌-◌, ◌<◌, ◌≤◌, min, List, [], ◌∷◌, ◌++◌, map, length, Some, None, sym, ap, ◌∙◌, arith, Bor}
use Rattle.std.proofs.lemmas.List.FromFn.{map-range_with_len_more}
use Rattle.std.specs.List.{range_with_len}
use Rattle.problem.specs.Limits.{Model}
use Rattle.problem_file.proofs.Places.{Inside, inside}
use Rattle.problem_file.proofs.Shows.{there}
use Rattle.problem_file.proofs.Standing.{Standing, standing_at, standing_shows, standing_more, standing_end}
use Rattle.problem_file.specs.declared.counts.Counts.{Counts}
use Rattle.problem_file.specs.declared.layout.Section.{Section}
use Rattle.problem_file.specs.declared.layout.Section.TheVariants.{Tasks, Windows, Dependencies, Exclusions}
use Rattle.problem_file.specs.declared.header.Header.{Header}
use Rattle.problem_file.specs.declared.reader.Reader.{Reader}
use Rattle.problem_file.specs.declared.record.Record.{Record}
use Rattle.problem_file.specs.Reader.{standing, Reads}
use Rattle.problem_file.specs.Layout.{count, first, total, section_of, file_end, record_bytes}
use Rattle.problem_file.specs.Records.{item_of, shown}
use Rattle.opening.specs.Opened.{task_in, window_in, dependency_in, exclusion_in, stated}
use Rattle.opening.specs.Statement.{added, bare}

-- the numbers of those records of a section that come before record `i`
abbrev before : Counts → ℕ → Section → List ℕ
before c i s = range_with_len (first c s) (min (i - first c s) (count c s))

-- what the records before record `i` state
pub partly : Counts → List ℕ → ℕ → Model
partly c file i = record {
  dimensions = c.dimensions;
  tasks = map (task_in c file) (before c i Tasks);
  windows = map (window_in c file) (before c i Windows);
  dependencies = map (dependency_in c file) (before c i Dependencies);
  exclusions = map (exclusion_in c file) (before c i Exclusions);
}

-- a section gains its next record, and no other section gains one
gains : {X : Type 0} (f : ℕ → X) (c : Counts) (i : ℕ) (s : Section) → Inside c s i → map f (before c (i + 1) s) ≡ map f (before c i s) ++ f i ∷ []
gains f c i s h =
    let k : ℕ = min (i - first c s) (count c s) in
    let more : min (i + 1 - first c s) (count c s) ≡ k + 1 = omega (arith, h.low, h.high) in
    ap (λ n. map f (range_with_len (first c s) n)) more ∙ map-range_with_len_more f (first c s) k i (omega (arith, h.low, h.high))

not_yet : {X : Type 0} (f : ℕ → X) (c : Counts) (i : ℕ) (s : Section) → i < first c s → map f (before c (i + 1) s) ≡ map f (before c i s)
not_yet f c i s lt = ap (λ n. map f (range_with_len (first c s) n)) (omega arith)

past : {X : Type 0} (f : ℕ → X) (c : Counts) (i : ℕ) (s : Section) → first c s + count c s ≤ i → map f (before c (i + 1) s) ≡ map f (before c i s)
past f c i s le = ap (λ n. map f (range_with_len (first c s) n)) (omega arith)

partly_more : (c : Counts) (file : List ℕ) (i : ℕ) (s : Section) → Inside c s i → added (partly c file i) (item_of c.dimensions.processors s (record_bytes c file s i)) ≡ partly c file (i + 1)
unfolding partly
partly_more c file i Tasks h =
    let t = gains (task_in c file) c i Tasks h in
    let w = not_yet (window_in c file) c i Windows (omega (arith, h.high)) in
    let d = not_yet (dependency_in c file) c i Dependencies (omega (arith, h.high)) in
    let e = not_yet (exclusion_in c file) c i Exclusions (omega (arith, h.high)) in
    cc
partly_more c file i Windows h =
    let t = past (task_in c file) c i Tasks (omega (arith, h.low)) in
    let w = gains (window_in c file) c i Windows h in
    let d = not_yet (dependency_in c file) c i Dependencies (omega (arith, h.high)) in
    let e = not_yet (exclusion_in c file) c i Exclusions (omega (arith, h.high)) in
    cc
partly_more c file i Dependencies h =
    let t = past (task_in c file) c i Tasks (omega (arith, h.low)) in
    let w = past (window_in c file) c i Windows (omega (arith, h.low)) in
    let d = gains (dependency_in c file) c i Dependencies h in
    let e = not_yet (exclusion_in c file) c i Exclusions (omega (arith, h.high)) in
    cc
partly_more c file i Exclusions h =
    let t = past (task_in c file) c i Tasks (omega (arith, h.low)) in
    let w = past (window_in c file) c i Windows (omega (arith, h.low)) in
    let d = past (dependency_in c file) c i Dependencies (omega (arith, h.low)) in
    let e = gains (exclusion_in c file) c i Exclusions h in
    cc

-- at first, nothing is stated
partly_none : (c : Counts) (file : List ℕ) → bare c.dimensions ≡ partly c file 0
unfolding partly
partly_none c file =
    let none : (s : Section) → before c 0 s ≡ [] = λ s. let e : min (0 - first c s) (count c s) ≡ 0 = omega arith in ap (range_with_len (first c s)) e in
    let t = none Tasks in
    let w = none Windows in
    let d = none Dependencies in
    let e = none Exclusions in
    cc

-- at the end, all that the file states
partly_all : (c : Counts) (file : List ℕ) → partly c file (total c) ≡ stated c file
unfolding partly stated
partly_all c file =
    let all : (s : Section) → first c s + count c s ≤ total c → before c (total c) s ≡ range_with_len (first c s) (count c s) =
    λ s le. ap (range_with_len (first c s)) (omega arith) in
    let t = all Tasks (omega arith) in
    let w = all Windows (omega arith) in
    let d = all Dependencies (omega arith) in
    let e = all Exclusions (omega arith) in
    cc

-- `m` has all records before the reader's position
pub record Gathered (c : Counts) (file : List ℕ) (r : Reader) (m : Model) : Type 0 where
  pub stands : Standing c file r
  pub has : m ≡ partly c file r.position

pub gathered_none : (file : Bor (List ℕ)) (header : Header) (r : Reader) (m : Model) → r ≡ standing file header 0 → m ≡ bare header.counts.dimensions → Gathered header.counts file.now r m
gathered_none file header r m is none =
    record {
      stands = standing_at file header 0 r is (omega arith);
      has = none ∙ partly_none header.counts file.now ∙ ap (λ x. partly header.counts file.now x.position) (sym is);
    }

pub gathered_more : (c : Counts) (file : List ℕ) (r t : Reader) (m n : Model) (x : Record) → Gathered c file r m → Reads r (Some x) t → n ≡ added m x.item → Gathered c file t n
gathered_more c file r t m n x g reads more =
    let at = there c file r.position (section_of c r.position) (shown x) (standing_shows c file r t (Some x) g.stands reads) in
    record {
      stands = standing_more c file r t x g.stands reads;
      has = more
          ∙ ap (λ k. added k x.item) g.has
          ∙ ap (λ y. added (partly c file r.position) y.item) at.value
          ∙ partly_more c file r.position at.section (inside c r.position at.section at.stands)
          ∙ ap (partly c file) (sym reads.step.position);
    }

pub gathered_all : (c : Counts) (file : List ℕ) (r t : Reader) (m : Model) → length file ≡ file_end c → Gathered c file r m → Reads r None t → m ≡ stated c file
gathered_all c file r t m whole g reads =
    g.has ∙ ap (partly c file) (standing_end c file r t whole g.stands reads) ∙ partly_all c file
