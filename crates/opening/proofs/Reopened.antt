-- The encoding of a problem within its limits opens, and gives that problem.
use Rattle.std.proofs.Common.{◌≡◌, ℕ, ◌+◌, ◌-◌, ◌*◌, ◌^◌, ◌<◌, ◌≤◌, true, not, List, [], ◌++◌, map, length, get_or, take, drop, None, Ok, sym, refl, ap, ◌∙◌, subst, append_assoc, append-nil, arith, length-append}
use Rattle.std.proofs.lemmas.Nat.{mul-le}
use Rattle.std.proofs.lemmas.List.FromFn.{length-map-range_with_len, get_or-map-range_with_len}
use Rattle.std.proofs.lemmas.List.Elements.{All-from_recursion}
use Rattle.std.proofs.lemmas.List.{drop-drop, drop_at, same_lists}
use Rattle.std.proofs.lemmas.Bool.{le-leb}
use Rattle.std.specs.List.{range_with_len, flat_map, All, AllByRecursion}
use Rattle.words.proofs.Chunks.{piece_of, length_pieces}
use Rattle.words.proofs.Encoded.{length_encoded, words_of_bytes}
use Rattle.words.specs.Words.{encoded, word_at}
use Rattle.problem.specs.declared.dependency.Dependency.{Dependency}
use Rattle.problem.specs.declared.exclusion.Exclusion.{Exclusion}
use Rattle.problem.specs.declared.task.Task.{Task}
use Rattle.problem.specs.declared.window.Window.{Window}
use Rattle.problem.specs.Limits.{Model, Within, TaskFits, WindowFits, DependencyFits, ExclusionFits}
use Rattle.problem_file.proofs.Coded.{task_words_lem, task_back, mark_word, window_back, dependency_back, exclusion_back}
use Rattle.problem_file.proofs.Headers.{Formed, header_from}
use Rattle.problem_file.proofs.Places.{Inside, inside, some_section, record_there}
use Rattle.problem_file.specs.declared.counts.Counts.{Counts}
use Rattle.problem_file.specs.declared.layout.Section.{Section}
use Rattle.problem_file.specs.declared.layout.Section.TheVariants.{Tasks, Windows, Dependencies, Exclusions}
use Rattle.problem_file.specs.Encoding.{task_words, window_words, dependency_words, exclusion_words, task_bytes, window_bytes, dependency_bytes, exclusion_bytes, header_words, encode}
use Rattle.problem_file.specs.Layout.{first, start, total, file_end, record_bytes}
use Rattle.problem_file.specs.Records.{Shown, task_of, window_of, dependency_of, exclusion_of, reading}
use Rattle.opening.specs.Opened.{lowest, misfit, outside, stated, opened, task_in, window_in, dependency_in, exclusion_in}
use Rattle.opening.specs.Ranges.{Fits, in_range}
use Rattle.opening.proofs.Lowest.{lowest_none_from}
use Rattle.opening.proofs.Ordered.{none_misplaced}
use Rattle.opening.proofs.Tests.{decides_mark, decides_shown}
use Rattle.opening.proofs.Walks.{sized}

-- the numbers of a problem's header
pub counts_of : Model → Counts
counts_of m = record {
  dimensions = m.dimensions;
  windows = length m.windows;
  dependencies = length m.dependencies;
  exclusions = length m.exclusions;
}

-- each record has the bytes that its section has for one
tasks_long : (m : Model) → Within m → All (λ t. length (encoded (task_words m.dimensions.processors t)) ≡ 16 + 4 * m.dimensions.processors) m.tasks
tasks_long m within k d lt =
    let t : Task = get_or m.tasks k d in
    let fits = All-from_recursion (TaskFits m.dimensions) m.tasks within.tasks k d lt in
    length_encoded (task_words m.dimensions.processors t) ∙ omega (arith, task_words_lem m.dimensions t within.dimensions fits.durations)

windows_long : (ws : List Window) → All (λ w. length (encoded (window_words w)) ≡ 16) ws
windows_long ws k w lt = length_encoded (window_words (get_or ws k w))

dependencies_long : (xs : List Dependency) → All (λ x. length (encoded (dependency_words x)) ≡ 16) xs
dependencies_long xs k x lt = length_encoded (dependency_words (get_or xs k x))

exclusions_long : (xs : List Exclusion) → All (λ x. length (encoded (exclusion_words x)) ≡ 12) xs
exclusions_long xs k x lt = length_encoded (exclusion_words (get_or xs k x))

-- how long the sections are
record Long (m : Model) : Type 0 where
  tasks : length (task_bytes m) ≡ (16 + 4 * m.dimensions.processors) * m.dimensions.tasks
  windows : length (window_bytes m) ≡ 16 * length m.windows
  dependencies : length (dependency_bytes m) ≡ 16 * length m.dependencies
  exclusions : length (exclusion_bytes m) ≡ 12 * length m.exclusions

long_sections : (m : Model) → Within m → Long m
unfolding task_bytes window_bytes dependency_bytes exclusion_bytes
long_sections m within =
    record {
      tasks = length_pieces (16 + 4 * m.dimensions.processors) (λ t. encoded (task_words m.dimensions.processors t)) m.tasks (tasks_long m within)
          ∙ ap (λ n. (16 + 4 * m.dimensions.processors) * n) within.task_count;
      windows = length_pieces 16 (λ w. encoded (window_words w)) m.windows (windows_long m.windows);
      dependencies = length_pieces 16 (λ x. encoded (dependency_words x)) m.dependencies (dependencies_long m.dependencies);
      exclusions = length_pieces 12 (λ x. encoded (exclusion_words x)) m.exclusions (exclusions_long m.exclusions);
    }

-- the header's words fit
record Small (m : Model) : Type 0 where
  offsets : 48 + length (task_bytes m) + length (window_bytes m) + length (dependency_bytes m) < 2 ^ 32

small_offsets : (m : Model) → Within m → Small m
small_offsets m within =
    let l = long_sections m within in
    let a = l.tasks in let b = l.windows in let c = l.dependencies in
    let d = within.window_count in let e = within.dependency_count in
    let p : (16 + 4 * m.dimensions.processors) * m.dimensions.tasks ≤ 32 * 64 = mul-le (16 + 4 * m.dimensions.processors) m.dimensions.tasks 32 64 (omega (arith, within.dimensions.1.1)) within.dimensions.3.1 in
    record { offsets = omega arith }

length_five : (h a b c d : List ℕ) → length (h ++ (a ++ (b ++ (c ++ d)))) ≡ length h + length a + length b + length c + length d
length_five h a b c d = simp length-append (omega arith)

pub encode_formed : (m : Model) → Within m → Formed (encode m) (counts_of m)
unfolding encode counts_of
encode_formed m within =
    let ws : List ℕ = header_words m in
    let rest : List ℕ = task_bytes m ++ (window_bytes m ++ (dependency_bytes m ++ exclusion_bytes m)) in
    let l = long_sections m within in
    let a = l.tasks in let b = l.windows in let d = l.dependencies in let e = l.exclusions in
    let s = (small_offsets m within).offsets in
    let f1 = within.dimensions.0.1 in let f2 = within.dimensions.1.1 in let f3 = within.dimensions.2.1 in let f4 = within.dimensions.3.1 in
    let n0 = within.task_count in let n1 = within.window_count in let n2 = within.dependency_count in let n3 = within.exclusion_count in
    let w0 : word_at (encoded ws ++ rest) 0 ≡ 1 = words_of_bytes ws rest 0 (omega arith) (omega arith) in
    let w1 : word_at (encoded ws ++ rest) 4 ≡ m.dimensions.frame = words_of_bytes ws rest 1 (omega arith) (omega arith) in
    let w2 : word_at (encoded ws ++ rest) 8 ≡ m.dimensions.processors = words_of_bytes ws rest 2 (omega arith) (omega arith) in
    let w3 : word_at (encoded ws ++ rest) 12 ≡ m.dimensions.partitions = words_of_bytes ws rest 3 (omega arith) (omega arith) in
    let w4 : word_at (encoded ws ++ rest) 16 ≡ m.dimensions.tasks = words_of_bytes ws rest 4 (omega arith) (omega arith) ∙ n0 in
    let w5 : word_at (encoded ws ++ rest) 20 ≡ length m.windows = words_of_bytes ws rest 5 (omega arith) (omega arith) in
    let w6 : word_at (encoded ws ++ rest) 24 ≡ length m.dependencies = words_of_bytes ws rest 6 (omega arith) (omega arith) in
    let w7 : word_at (encoded ws ++ rest) 28 ≡ length m.exclusions = words_of_bytes ws rest 7 (omega arith) (omega arith) in
    let w8 : word_at (encoded ws ++ rest) 32 ≡ 48 = words_of_bytes ws rest 8 (omega arith) (omega arith) in
    let w9 = words_of_bytes ws rest 9 (omega arith) (omega arith) in
    let w10 = words_of_bytes ws rest 10 (omega arith) (omega arith) in
    let w11 = words_of_bytes ws rest 11 (omega arith) (omega arith) in
    let header : length (encoded ws) ≡ 48 = length_encoded ws in
    let whole : length (encoded ws ++ rest) ≡ file_end (counts_of m) =
    length_five (encoded ws) (task_bytes m) (window_bytes m) (dependency_bytes m) (exclusion_bytes m)
    ∙ ap (λ n. n + length (task_bytes m) + length (window_bytes m) + length (dependency_bytes m) + length (exclusion_bytes m)) header
    ∙ omega arith in
    record {
      stated = λ i. record { dimensions = record { frame = w1 i; processors = w2 i; partitions = w3 i; tasks = w4 i }; windows = w5 i; dependencies = w6 i; exclusions = w7 i };
      long = omega arith;
      kind = w0;
      counts = (within.dimensions, n1, n2, n3);
      tasks = w8;
      windows = omega arith;
      dependencies = omega arith;
      exclusions = omega arith;
      ends = whole;
    }

-- a record of a section, between what precedes the section and what follows it
in_section : {X : Type 0} (s n : ℕ) (w : X → List ℕ) (xs : List X) (file pre rest : List ℕ) → file ≡ pre ++ (flat_map w xs ++ rest) → length pre ≡ n → All (λ x. length (w x) ≡ s) xs → (j : ℕ) (d : X) → j < length xs → take s (drop (n + s * j) file) ≡ w (get_or xs j d)
in_section s n w xs file pre rest parts long each j d lt =
    ap (λ f. take s (drop (n + s * j) f)) parts
    ∙ ap (take s) (sym (drop-drop (s * j) n (pre ++ (flat_map w xs ++ rest))) ∙ ap (drop (s * j)) (drop_at pre (flat_map w xs ++ rest) n long))
    ∙ piece_of s w xs rest each j d lt

-- what precedes each section ends where the section begins
header_long : (m : Model) → length (encoded (header_words m)) ≡ 48
header_long m = length_encoded (header_words m)

two_long : (a b : List ℕ) (m n : ℕ) → length a ≡ m → m + length b ≡ n → length (a ++ b) ≡ n
two_long a b m n e f = length-append a b ∙ ap (λ k. k + length b) e ∙ f

task_record : (m : Model) → Within m → (j : ℕ) (d : Task) → j < length m.tasks → take (16 + 4 * m.dimensions.processors) (drop (48 + (16 + 4 * m.dimensions.processors) * j) (encode m)) ≡ encoded (task_words m.dimensions.processors (get_or m.tasks j d))
unfolding encode task_bytes
task_record m within j d lt =
    in_section (16 + 4 * m.dimensions.processors) 48 (λ t. encoded (task_words m.dimensions.processors t)) m.tasks (encode m) (encoded (header_words m)) (window_bytes m ++ (dependency_bytes m ++ exclusion_bytes m))
    refl (header_long m) (tasks_long m within) j d lt

before_windows : (m : Model) → Within m → length (encoded (header_words m) ++ task_bytes m) ≡ start (counts_of m) Windows
unfolding counts_of
before_windows m within = two_long (encoded (header_words m)) (task_bytes m) 48 (start (counts_of m) Windows) (header_long m) (omega (arith, (long_sections m within).tasks))

before_dependencies : (m : Model) → Within m → length ((encoded (header_words m) ++ task_bytes m) ++ window_bytes m) ≡ start (counts_of m) Dependencies
unfolding counts_of
before_dependencies m within = two_long (encoded (header_words m) ++ task_bytes m) (window_bytes m) (start (counts_of m) Windows) (start (counts_of m) Dependencies) (before_windows m within) (omega (arith, (long_sections m within).windows))

before_exclusions : (m : Model) → Within m → length (((encoded (header_words m) ++ task_bytes m) ++ window_bytes m) ++ dependency_bytes m) ≡ start (counts_of m) Exclusions
unfolding counts_of
before_exclusions m within = two_long ((encoded (header_words m) ++ task_bytes m) ++ window_bytes m) (dependency_bytes m) (start (counts_of m) Dependencies) (start (counts_of m) Exclusions) (before_dependencies m within) (omega (arith, (long_sections m within).dependencies))

window_record : (m : Model) → Within m → (j : ℕ) (d : Window) → j < length m.windows → take 16 (drop (start (counts_of m) Windows + 16 * j) (encode m)) ≡ encoded (window_words (get_or m.windows j d))
unfolding encode window_bytes
window_record m within j d lt =
    in_section 16 (start (counts_of m) Windows) (λ w. encoded (window_words w)) m.windows (encode m) (encoded (header_words m) ++ task_bytes m) (dependency_bytes m ++ exclusion_bytes m)
    (simp append_assoc)
    (before_windows m within) (windows_long m.windows) j d lt

dependency_record : (m : Model) → Within m → (j : ℕ) (d : Dependency) → j < length m.dependencies → take 16 (drop (start (counts_of m) Dependencies + 16 * j) (encode m)) ≡ encoded (dependency_words (get_or m.dependencies j d))
unfolding encode dependency_bytes
dependency_record m within j d lt =
    in_section 16 (start (counts_of m) Dependencies) (λ x. encoded (dependency_words x)) m.dependencies (encode m) ((encoded (header_words m) ++ task_bytes m) ++ window_bytes m) (exclusion_bytes m)
    (simp append_assoc)
    (before_dependencies m within) (dependencies_long m.dependencies) j d lt

exclusion_record : (m : Model) → Within m → (j : ℕ) (d : Exclusion) → j < length m.exclusions → take 12 (drop (start (counts_of m) Exclusions + 12 * j) (encode m)) ≡ encoded (exclusion_words (get_or m.exclusions j d))
unfolding encode exclusion_bytes
exclusion_record m within j d lt =
    in_section 12 (start (counts_of m) Exclusions) (λ x. encoded (exclusion_words x)) m.exclusions (encode m) (((encoded (header_words m) ++ task_bytes m) ++ window_bytes m) ++ dependency_bytes m) []
    (simp (append_assoc, append-nil))
    (before_exclusions m within) (exclusions_long m.exclusions) j d lt

-- record `i` of the encoding is the one that was written, and is in its range

abbrev Read : (m : Model) → Section → ℕ → Type 0
Read m s i = Fits m.dimensions (reading m.dimensions.processors s (record_bytes (counts_of m) (encode m) s i))

task_at_lem : (m : Model) → Within m → (i : ℕ) (d : Task) → i - 0 < length m.tasks → (task_in (counts_of m) (encode m) i ≡ get_or m.tasks (i - 0) d) × Read m Tasks i
unfolding counts_of
task_at_lem m within i d lt =
    let t : Task = get_or m.tasks (i - 0) d in
    let bytes : List ℕ = record_bytes (counts_of m) (encode m) Tasks i in
    let fits : TaskFits m.dimensions t = All-from_recursion (TaskFits m.dimensions) m.tasks within.tasks (i - 0) d lt in
    let e : bytes ≡ encoded (task_words m.dimensions.processors t) = task_record m within (i - 0) d lt in
    let same : task_of m.dimensions.processors bytes ≡ t = ap (task_of m.dimensions.processors) e ∙ task_back m.dimensions t within.dimensions fits in
    let long : 8 ≤ length bytes = omega (arith, ap length e, length_encoded (task_words m.dimensions.processors t), task_words_lem m.dimensions t within.dimensions fits.durations) in
    let marked : word_at bytes 4 ≤ 1 = subst (λ (b : List ℕ). word_at b 4 ≤ 1) (sym e) (mark_word m.dimensions t within.dimensions fits) in
    (same, ((decides_mark bytes long).0 (le-leb (word_at bytes 4) 1 marked), subst (TaskFits m.dimensions) (sym same) fits))

-- bytes that were written of an element in its range are read as that element
read_back : {X : Type 0} (P : X → Type 0) (of : List ℕ → X) (words : X → List ℕ) (xs : List X) (bytes : List ℕ) → ((x : X) → P x → of (encoded (words x)) ≡ x) → AllByRecursion P xs → (j : ℕ) (d : X) → j < length xs → bytes ≡ encoded (words (get_or xs j d)) → (of bytes ≡ get_or xs j d) × P (of bytes)
read_back P of words xs bytes back all j d lt e =
    let fits = All-from_recursion P xs all j d lt in
    let same : of bytes ≡ get_or xs j d = ap of e ∙ back (get_or xs j d) fits in
    (same, subst P (sym same) fits)

window_at_lem : (m : Model) → Within m → (i : ℕ) (d : Window) → i - first (counts_of m) Windows < length m.windows → (window_in (counts_of m) (encode m) i ≡ get_or m.windows (i - first (counts_of m) Windows) d) × Read m Windows i
window_at_lem m within i d lt =
    read_back (WindowFits m.dimensions) window_of window_words m.windows (record_bytes (counts_of m) (encode m) Windows i) (λ w. window_back m.dimensions w within.dimensions) within.windows (i - first (counts_of m) Windows) d lt (window_record m within (i - first (counts_of m) Windows) d lt)

dependency_at_lem : (m : Model) → Within m → (i : ℕ) (d : Dependency) → i - first (counts_of m) Dependencies < length m.dependencies → (dependency_in (counts_of m) (encode m) i ≡ get_or m.dependencies (i - first (counts_of m) Dependencies) d) × Read m Dependencies i
dependency_at_lem m within i d lt =
    read_back (DependencyFits m.dimensions) dependency_of dependency_words m.dependencies (record_bytes (counts_of m) (encode m) Dependencies i) (λ x. dependency_back m.dimensions x within.dimensions) within.dependencies (i - first (counts_of m) Dependencies) d lt (dependency_record m within (i - first (counts_of m) Dependencies) d lt)

exclusion_at_lem : (m : Model) → Within m → (i : ℕ) (d : Exclusion) → i - first (counts_of m) Exclusions < length m.exclusions → (exclusion_in (counts_of m) (encode m) i ≡ get_or m.exclusions (i - first (counts_of m) Exclusions) d) × Read m Exclusions i
exclusion_at_lem m within i d lt =
    read_back (ExclusionFits m.dimensions) exclusion_of exclusion_words m.exclusions (record_bytes (counts_of m) (encode m) Exclusions i) (λ x. exclusion_back m.dimensions x within.dimensions) within.exclusions (i - first (counts_of m) Exclusions) d lt (exclusion_record m within (i - first (counts_of m) Exclusions) d lt)

read_at_lem : (m : Model) → Within m → (s : Section) (i : ℕ) → Inside (counts_of m) s i → Read m s i
unfolding counts_of
read_at_lem m within Tasks i h = (task_at_lem m within i (task_in (counts_of m) (encode m) i) (omega (arith, h.low, h.high, within.task_count))).1
read_at_lem m within Windows i h = (window_at_lem m within i (window_in (counts_of m) (encode m) i) (omega (arith, h.low, h.high))).1
read_at_lem m within Dependencies i h = (dependency_at_lem m within i (dependency_in (counts_of m) (encode m) i) (omega (arith, h.low, h.high))).1
read_at_lem m within Exclusions i h = (exclusion_at_lem m within i (exclusion_in (counts_of m) (encode m) i) (omega (arith, h.low, h.high))).1

-- no record of the encoding is outside its range
none_misfits : (m : Model) → Within m → lowest (misfit (counts_of m) (encode m)) (total (counts_of m)) ≡ None
unfolding misfit counts_of
none_misfits m within =
    let c = counts_of m in
    lowest_none_from (misfit c (encode m)) (total c)
    (λ i lt.
    let found = some_section c i lt in
    let s = found.0 in
    let h = inside c i s found.1 in
    let x : Shown = reading c.dimensions.processors s (record_bytes c (encode m) s i) in
    let there = record_there c (encode m) i s (encode_formed m within).ends h in
    let passes : in_range c.dimensions x ≡ true = (decides_shown c.dimensions x (sized c (encode m) i x there)).1 (read_at_lem m within s i h) in
    ap (outside c) there ∙ ap not passes)

-- a list from what stands at each number
counted_is : {X : Type 0} (f : ℕ → X) (a : ℕ) (xs : List X) → ((k : ℕ) (d : X) → k < length xs → f (a + k) ≡ get_or xs k d) → map f (range_with_len a (length xs)) ≡ xs
counted_is f a xs each =
    let long = length-map-range_with_len f a (length xs) in
    same_lists (map f (range_with_len a (length xs))) xs long
    (λ k d lt. let below : k < length xs = omega arith in get_or-map-range_with_len f a (length xs) k (a + k) d below refl ∙ each k d below)

-- the problem that the encoding states is the one that was written
stated_is : (m : Model) → Within m → stated (counts_of m) (encode m) ≡ m
unfolding stated counts_of
stated_is m within =
    let c = counts_of m in
    let file = encode m in
    let from : (a k : ℕ) → (a + k) - a ≡ k = λ a k. omega arith in
    let tasks : map (task_in c file) (range_with_len 0 m.dimensions.tasks) ≡ m.tasks =
    ap (λ n. map (task_in c file) (range_with_len 0 n)) (sym within.task_count)
    ∙ counted_is (task_in c file) 0 m.tasks
    (λ k d lt. (task_at_lem m within (0 + k) d (omega arith)).0 ∙ ap (λ j. get_or m.tasks j d) (from 0 k)) in
    let windows = counted_is (window_in c file) (first c Windows) m.windows
    (λ k d lt. (window_at_lem m within (first c Windows + k) d (omega arith)).0 ∙ ap (λ j. get_or m.windows j d) (from (first c Windows) k)) in
    let dependencies = counted_is (dependency_in c file) (first c Dependencies) m.dependencies
    (λ k d lt. (dependency_at_lem m within (first c Dependencies + k) d (omega arith)).0 ∙ ap (λ j. get_or m.dependencies j d) (from (first c Dependencies) k)) in
    let exclusions = counted_is (exclusion_in c file) (first c Exclusions) m.exclusions
    (λ k d lt. (exclusion_at_lem m within (first c Exclusions + k) d (omega arith)).0 ∙ ap (λ j. get_or m.exclusions j d) (from (first c Exclusions) k)) in
    λ i. record { dimensions = m.dimensions; tasks = tasks i; windows = windows i; dependencies = dependencies i; exclusions = exclusions i }

pub reopened : (m : Model) → Within m → opened (encode m) ≡ Ok m
reopened m within =
    let c = counts_of m in
    let file = encode m in
    rw (header_from file c (encode_formed m within), stated_is m within, none_misfits m within, none_misplaced m.windows within.order)
