-- A file that passes every check is the encoding of the problem that it states.
use Rattle.std.proofs.Common.{◌≡◌, ℕ, ◌+◌, ◌-◌, ◌*◌, ◌<◌, ◌≤◌, List, [], ◌∷◌, ◌++◌, map, length, take, drop, None, sym, refl, ap, ◌∙◌, append-nil, arith, length-append, length-drop}
use Rattle.std.proofs.lemmas.List.FromFn.{length-map-range_with_len}
use Rattle.std.proofs.lemmas.List.{take-append-drop, drop-drop, drop_all, length-take-le}
use Rattle.std.proofs.lemmas.Bool.{leb-true}
use Rattle.std.specs.List.{range_with_len, flat_map}
use Rattle.words.proofs.Chunks.{pieces_then}
use Rattle.std.proofs.lemmas.List.Folds.{flat_map-map}
use Rattle.words.proofs.Encoded.{Octets, bytes_of_words, octets_part, word_of_part}
use Rattle.words.specs.Words.{encoded, word_at}
use Rattle.problem_file.proofs.Coded.{task_again, window_again, dependency_again, exclusion_again}
use Rattle.problem_file.proofs.Headers.{Formed}
use Rattle.problem_file.proofs.Places.{Inside, record_end}
use Rattle.problem_file.specs.declared.counts.Counts.{Counts}
use Rattle.problem_file.specs.declared.layout.Section.{Section}
use Rattle.problem_file.specs.declared.layout.Section.TheVariants.{Tasks, Windows, Dependencies, Exclusions}
use Rattle.problem_file.specs.Encoding.{task_words, window_words, dependency_words, exclusion_words, task_bytes, window_bytes, dependency_bytes, exclusion_bytes, header_words, encode}
use Rattle.problem_file.specs.Layout.{count, first, size, start, total, file_end, record_at, record_bytes}
use Rattle.opening.specs.Opened.{lowest, misfit, stated, task_in, window_in, dependency_in, exclusion_in}
use Rattle.opening.proofs.Tests.{decides_mark}
use Rattle.opening.proofs.Within.{fits_each}

-- the bytes of a record, all of them
record_long : (c : Counts) (file : List ℕ) (s : Section) (i : ℕ) → length file ≡ file_end c → Inside c s i → length (record_bytes c file s i) ≡ size c s
record_long c file s i whole h =
    length-take-le (size c s) (drop (record_at c s i) file) (simp length-drop (omega (arith, record_end c i s h)))

-- a section from its records
section_written : {X : Type 0} (c : Counts) (file : List ℕ) (s : Section) (g : ℕ → X) (w : X → List ℕ) → ((i : ℕ) → Inside c s i → record_bytes c file s i ≡ w (g i)) → drop (start c s) file ≡ flat_map w (map g (range_with_len (first c s) (count c s))) ++ drop (start c s + size c s * count c s) file
section_written c file s g w each =
    let piece : (i : ℕ) → i < count c s → take (size c s) (drop (size c s * i) (drop (start c s) file)) ≡ w (g (first c s + i)) =
    λ i lt.
    let index : i ≡ (first c s + i) - first c s = omega arith in
    ap (take (size c s)) (drop-drop (size c s * i) (start c s) file ∙ ap (λ k. drop (start c s + size c s * k) file) index)
    ∙ each (first c s + i) (record { low = omega arith; high = omega arith }) in
    pieces_then (size c s) (count c s) (first c s) (drop (start c s) file) (λ i. w (g i)) piece
    ∙ ap (λ ys. ys ++ drop (size c s * count c s) (drop (start c s) file)) (sym (flat_map-map w g (range_with_len (first c s) (count c s))))
    ∙ ap (λ ys. flat_map w (map g (range_with_len (first c s) (count c s))) ++ ys) (drop-drop (size c s * count c s) (start c s) file)

tasks_written : (c : Counts) (file : List ℕ) → Formed file c → Octets file → lowest (misfit c file) (total c) ≡ None → drop 48 file ≡ task_bytes (stated c file) ++ drop (start c Windows) file
unfolding stated task_bytes
tasks_written c file formed small none =
    section_written c file Tasks (task_in c file) (λ t. encoded (task_words c.dimensions.processors t))
    (λ i h.
    let bytes : List ℕ = record_bytes c file Tasks i in
    let long = record_long c file Tasks i formed.ends h in
    let marked : word_at bytes 4 ≤ 1 = leb-true (word_at bytes 4) 1 ((decides_mark bytes (omega arith)).1 (fits_each c file formed.ends none Tasks i h).0) in
    task_again c.dimensions.processors bytes formed.counts.0.1.0 formed.counts.0.1.1 long (octets_part (size c Tasks) (record_at c Tasks i) file small) marked)

windows_written : (c : Counts) (file : List ℕ) → Formed file c → Octets file → drop (start c Windows) file ≡ window_bytes (stated c file) ++ drop (start c Dependencies) file
unfolding stated window_bytes
windows_written c file formed small =
    section_written c file Windows (window_in c file) (λ w. encoded (window_words w))
    (λ i h. window_again (record_bytes c file Windows i) (record_long c file Windows i formed.ends h) (octets_part 16 (record_at c Windows i) file small))

dependencies_written : (c : Counts) (file : List ℕ) → Formed file c → Octets file → drop (start c Dependencies) file ≡ dependency_bytes (stated c file) ++ drop (start c Exclusions) file
unfolding stated dependency_bytes
dependencies_written c file formed small =
    section_written c file Dependencies (dependency_in c file) (λ x. encoded (dependency_words x))
    (λ i h. dependency_again (record_bytes c file Dependencies i) (record_long c file Dependencies i formed.ends h) (octets_part 16 (record_at c Dependencies i) file small))

exclusions_written : (c : Counts) (file : List ℕ) → Formed file c → Octets file → drop (start c Exclusions) file ≡ exclusion_bytes (stated c file)
unfolding stated exclusion_bytes
exclusions_written c file formed small =
    section_written c file Exclusions (exclusion_in c file) (λ x. encoded (exclusion_words x))
    (λ i h. exclusion_again (record_bytes c file Exclusions i) (record_long c file Exclusions i formed.ends h) (octets_part 12 (record_at c Exclusions i) file small))
    ∙ ap (λ ys. flat_map (λ x. encoded (exclusion_words x)) (map (exclusion_in c file) (range_with_len (first c Exclusions) (count c Exclusions))) ++ ys) (drop_all (file_end c) file (omega (arith, formed.ends)))
    ∙ append-nil (flat_map (λ x. encoded (exclusion_words x)) (map (exclusion_in c file) (range_with_len (first c Exclusions) (count c Exclusions))))

-- how long a list is that is cut in two
cut : (file a : List ℕ) (m n : ℕ) → m ≤ n → n ≤ length file → drop m file ≡ a ++ drop n file → m + length a ≡ n
cut file a m n le within e =
    omega (arith, simp (length-append, length-drop) at (ap length e))

-- where the sections begin is where the bytes before them end
sections_begin : (c : Counts) (file : List ℕ) → Formed file c → Octets file → lowest (misfit c file) (total c) ≡ None → (48 + length (task_bytes (stated c file)) ≡ start c Windows) × (48 + length (task_bytes (stated c file)) + length (window_bytes (stated c file)) ≡ start c Dependencies) × (48 + length (task_bytes (stated c file)) + length (window_bytes (stated c file)) + length (dependency_bytes (stated c file)) ≡ start c Exclusions)
sections_begin c file formed small none =
    let m = stated c file in
    let ends = formed.ends in
    let t = cut file (task_bytes m) 48 (start c Windows) (omega arith) (omega arith) (tasks_written c file formed small none) in
    let w = cut file (window_bytes m) (start c Windows) (start c Dependencies) (omega arith) (omega arith) (windows_written c file formed small) in
    let x = cut file (dependency_bytes m) (start c Dependencies) (start c Exclusions) (omega arith) (omega arith) (dependencies_written c file formed small) in
    (t, omega arith, omega arith)

-- the lists are as long as the header says
lengths : (c : Counts) (file : List ℕ) → (length (stated c file).tasks ≡ c.dimensions.tasks) × (length (stated c file).windows ≡ c.windows) × (length (stated c file).dependencies ≡ c.dependencies) × (length (stated c file).exclusions ≡ c.exclusions)
unfolding stated
lengths c file = (
  length-map-range_with_len (task_in c file) (first c Tasks) (count c Tasks),
  length-map-range_with_len (window_in c file) (first c Windows) (count c Windows),
  length-map-range_with_len (dependency_in c file) (first c Dependencies) (count c Dependencies),
  length-map-range_with_len (exclusion_in c file) (first c Exclusions) (count c Exclusions),
)

same_dimensions : (c : Counts) (file : List ℕ) → (stated c file).dimensions ≡ c.dimensions
unfolding stated
same_dimensions c file = refl

header_written : (c : Counts) (file : List ℕ) → Formed file c → Octets file → lowest (misfit c file) (total c) ≡ None → take 48 file ≡ encoded (header_words (stated c file))
header_written c file formed small none =
    let m = stated c file in
    let at : (k : ℕ) → k + 4 ≤ 48 → word_at (take 48 file) k ≡ word_at file (0 + k) = λ k le. word_of_part 48 0 k file le in
    let begin = sections_begin c file formed small none in
    let long = lengths c file in
    let same = same_dimensions c file in
    let says = formed.stated in
    let w0 = at 0 (omega arith) ∙ formed.kind in
    let w1 = at 4 (omega arith) ∙ ap (λ x. x.dimensions.frame) says ∙ sym (ap (λ d. d.frame) same) in
    let w2 = at 8 (omega arith) ∙ ap (λ x. x.dimensions.processors) says ∙ sym (ap (λ d. d.processors) same) in
    let w3 = at 12 (omega arith) ∙ ap (λ x. x.dimensions.partitions) says ∙ sym (ap (λ d. d.partitions) same) in
    let w4 = at 16 (omega arith) ∙ ap (λ x. x.dimensions.tasks) says ∙ sym long.0 in
    let w5 = at 20 (omega arith) ∙ ap (λ x. x.windows) says ∙ sym long.1 in
    let w6 = at 24 (omega arith) ∙ ap (λ x. x.dependencies) says ∙ sym long.2 in
    let w7 = at 28 (omega arith) ∙ ap (λ x. x.exclusions) says ∙ sym long.3 in
    let w8 = at 32 (omega arith) ∙ formed.tasks in
    let w9 = at 36 (omega arith) ∙ formed.windows ∙ sym begin.0 in
    let w10 = at 40 (omega arith) ∙ formed.dependencies ∙ sym begin.1 in
    let w11 = at 44 (omega arith) ∙ formed.exclusions ∙ sym begin.2 in
    bytes_of_words 12 (take 48 file) (length-take-le 48 file formed.long) (octets_part 48 0 file small)
    ∙ ap encoded (λ i. w0 i ∷ w1 i ∷ w2 i ∷ w3 i ∷ w4 i ∷ w5 i ∷ w6 i ∷ w7 i ∷ w8 i ∷ w9 i ∷ w10 i ∷ w11 i ∷ [])

pub written : (c : Counts) (file : List ℕ) → Formed file c → Octets file → lowest (misfit c file) (total c) ≡ None → file ≡ encode (stated c file)
unfolding encode
written c file formed small none =
    let m = stated c file in
    let t = tasks_written c file formed small none in
    let w = windows_written c file formed small in
    let d = dependencies_written c file formed small in
    let e = exclusions_written c file formed small in
    sym (take-append-drop 48 file)
    ∙ ap (λ ys. ys ++ drop 48 file) (header_written c file formed small none)
    ∙ ap (λ ys. encoded (header_words m) ++ ys)
    (t ∙ ap (λ ys. task_bytes m ++ ys) (w ∙ ap (λ ys. window_bytes m ++ ys) (d ∙ ap (λ ys. dependency_bytes m ++ ys) e)))
