-- The problem that a file states holds exactly the records that the reader shows.
use Rattle.std.proofs.Common.{◌≡◌, ℕ, ◌+◌, ◌-◌, ◌<◌, ◌≤◌, List, ◌++◌, map, length, get_or, Some, sym, refl, ap, ◌∙◌, ⊎_elim, arith, length-append}
use lib.ListN.{length-map}
use Rattle.std.proofs.lemmas.List.FromFn.{length-map-range_with_len, get_or-map-range_with_len}
use Rattle.std.proofs.lemmas.List.{get_or_append_left, get_or-append_right, get_or-map}
use Rattle.std.proofs.lemmas.Option.{slice_get-get_or, slice_get_past}
use Rattle.std.proofs.lemmas.Bool.{cases_lt}
use Rattle.std.specs.List.{slice_get, range_with_len}
use Rattle.std.specs.Option.{option_map}
use Rattle.problem_file.proofs.Places.{Inside, inside, some_section, record_there, none_past}
use Rattle.problem_file.specs.declared.counts.Counts.{Counts}
use Rattle.problem_file.specs.declared.layout.Section.{Section}
use Rattle.problem_file.specs.declared.layout.Section.TheVariants.{Tasks, Windows, Dependencies, Exclusions}
use Rattle.problem_file.specs.declared.record.Item.{Item}
use Rattle.problem_file.specs.declared.record.Item.TheVariants.{Task as OfTask, Window as OfWindow, Dependency as OfDependency, Exclusion as OfExclusion}
use Rattle.problem_file.specs.Layout.{count, first, total, file_end, record_bytes}
use Rattle.problem_file.specs.Records.{reading, record_in}
use Rattle.opening.specs.Entries.{entries, entry_of}
use Rattle.opening.specs.Opened.{stated, task_in, window_in, dependency_in, exclusion_in}

-- a list that is counted from `a`, as entries
abbrev counted : {X : Type 0} → (X → Item) → (ℕ → X) → ℕ → ℕ → List Item
counted kind f a n = map kind (map f (range_with_len a n))

long : {X : Type 0} (kind : X → Item) (f : ℕ → X) (a n : ℕ) → length (counted kind f a n) ≡ n
long kind f a n = length-map (map f (range_with_len a n)) kind ∙ length-map-range_with_len f a n

among : {X : Type 0} (kind : X → Item) (f : ℕ → X) (a n i : ℕ) (d : Item) → a ≤ i → i < a + n → get_or (counted kind f a n) (i - a) d ≡ kind (f i)
among kind f a n i d low high =
    let e = length-map-range_with_len f a n in
    get_or-map kind (map f (range_with_len a n)) (i - a) (f i) d (omega arith) ∙ ap kind (get_or-map-range_with_len f a n (i - a) i (f i) (omega arith) (omega arith))

-- an entry of a list, before others
here : {X : Type 0} (kind : X → Item) (f : ℕ → X) (a n i : ℕ) (rest : List Item) (d : Item) → a ≤ i → i < a + n → get_or (counted kind f a n ++ rest) (i - a) d ≡ kind (f i)
here kind f a n i rest d low high =
    let e = long kind f a n in
    get_or_append_left (counted kind f a n) rest d (i - a) (omega arith) ∙ among kind f a n i d low high

-- an entry past a list
after : {X : Type 0} (kind : X → Item) (f : ℕ → X) (a n i b : ℕ) (rest : List Item) (d : Item) → a + n ≡ b → b ≤ i → get_or (counted kind f a n ++ rest) (i - a) d ≡ get_or rest (i - b) d
after kind f a n i b rest d ends past =
    get_or-append_right (counted kind f a n) rest n (i - a) d (long kind f a n) (omega arith) ∙ ap (λ j. get_or rest j d) (omega arith)

pub entry_at : (c : Counts) (file : List ℕ) (s : Section) (i : ℕ) (d : Item) → Inside c s i → get_or (entries (stated c file)) (i - 0) d ≡ entry_of (reading c.dimensions.processors s (record_bytes c file s i))
unfolding stated
entry_at c file Tasks i d h = here OfTask (task_in c file) 0 (count c Tasks) i _ d h.low h.high
entry_at c file Windows i d h =
    after OfTask (task_in c file) 0 (count c Tasks) i (first c Windows) _ d (omega arith) h.low
    ∙ here OfWindow (window_in c file) (first c Windows) (count c Windows) i _ d h.low h.high
entry_at c file Dependencies i d h =
    after OfTask (task_in c file) 0 (count c Tasks) i (first c Windows) _ d (omega arith) (omega (arith, h.low))
    ∙ after OfWindow (window_in c file) (first c Windows) (count c Windows) i (first c Dependencies) _ d refl h.low
    ∙ here OfDependency (dependency_in c file) (first c Dependencies) (count c Dependencies) i _ d h.low h.high
entry_at c file Exclusions i d h =
    after OfTask (task_in c file) 0 (count c Tasks) i (first c Windows) _ d (omega arith) (omega (arith, h.low))
    ∙ after OfWindow (window_in c file) (first c Windows) (count c Windows) i (first c Dependencies) _ d refl (omega (arith, h.low))
    ∙ after OfDependency (dependency_in c file) (first c Dependencies) (count c Dependencies) i (first c Exclusions) _ d refl h.low
    ∙ among OfExclusion (exclusion_in c file) (first c Exclusions) (count c Exclusions) i d h.low h.high

four_long : (a b d e : List Item) → length (a ++ (b ++ (d ++ e))) ≡ length a + length b + length d + length e
four_long a b d e = simp length-append (omega arith)

entries_long : (c : Counts) (file : List ℕ) → length (entries (stated c file)) ≡ total c
unfolding stated
entries_long c file =
    let t = long OfTask (task_in c file) (first c Tasks) (count c Tasks) in
    let w = long OfWindow (window_in c file) (first c Windows) (count c Windows) in
    let d = long OfDependency (dependency_in c file) (first c Dependencies) (count c Dependencies) in
    let e = long OfExclusion (exclusion_in c file) (first c Exclusions) (count c Exclusions) in
    four_long (counted OfTask (task_in c file) (first c Tasks) (count c Tasks)) (counted OfWindow (window_in c file) (first c Windows) (count c Windows)) (counted OfDependency (dependency_in c file) (first c Dependencies) (count c Dependencies)) (counted OfExclusion (exclusion_in c file) (first c Exclusions) (count c Exclusions))
    ∙ omega arith

pub holds_shown : (c : Counts) (file : List ℕ) → length file ≡ file_end c → (i : ℕ) → option_map entry_of (record_in c file i) ≡ slice_get (entries (stated c file)) i
holds_shown c file whole i =
    let all = entries_long c file in
    ⊎_elim
    (λ (lt : i < total c).
    let found = some_section c i lt in
    let s = found.0 in
    let h = inside c i s found.1 in
    let d = entry_of (reading c.dimensions.processors s (record_bytes c file s i)) in
    ap (option_map entry_of) (record_there c file i s whole h)
    ∙ ap Some (sym (entry_at c file s i d h) ∙ ap (λ j. get_or (entries (stated c file)) j d) (omega arith))
    ∙ sym (slice_get-get_or (entries (stated c file)) i d (omega arith)))
    (λ (le : total c ≤ i). ap (option_map entry_of) (none_past c file i le) ∙ sym (slice_get_past (entries (stated c file)) i (omega arith)))
    (cases_lt i (total c))
