-- A record and its bytes: what is written is read again, and what is read is written again.
use Rattle.std.proofs.Common.{◌≡◌, ℕ, zero, suc, ◌+◌, ◌*◌, ◌^◌, ◌<◌, ◌≤◌, Bool, true, false, cond, eqb, List, ◌∷◌, map, length, get_or, take, Some, None, Option, sym, refl, ap, ◌∙◌, ⊎_elim, arith}
use Rattle.std.proofs.lemmas.List.{get_or-take, length-take-le}
use Rattle.std.proofs.lemmas.Bool.{cases_lt, lt-ltb, le-ltb, ne_eqb, cond-false, eqb-true}
use Rattle.std.specs.List.{range_with_len}
use Rattle.words.proofs.Encoded.{Octets, four, bytes_of_words, word_in}
use Rattle.words.specs.Words.{encoded, word_at}
use Rattle.problem.specs.declared.dependency.Dependency.{Dependency}
use Rattle.problem.specs.declared.dimensions.Dimensions.{Dimensions}
use Rattle.problem.specs.declared.exclusion.Exclusion.{Exclusion}
use Rattle.problem.specs.declared.task.Task.{Task}
use Rattle.problem.specs.declared.window.Window.{Window}
use Rattle.problem.specs.Limits.{DimensionsFit, DeadlineFits, DurationsFit, TaskFits, WindowFits, DependencyFits, ExclusionFits}
use Rattle.problem_file.specs.Encoding.{mark, deadline_word, task_words, window_words, dependency_words, exclusion_words}
use Rattle.problem_file.specs.Records.{deadline_of, duration_or, task_of, window_of, dependency_of, exclusion_of}

-- what is written is read again

pub window_back : (d : Dimensions) (w : Window) → DimensionsFit d → WindowFits d w → window_of (encoded (window_words w)) ≡ w
window_back d w limits fits =
    let ws : List ℕ = window_words w in
    let a = fits.processor in let b = fits.partition in let e = fits.some in let f = fits.end in
    let e0 : word_at (encoded ws) 0 ≡ w.processor = word_in ws 0 (omega arith) (omega arith) in
    let e1 : word_at (encoded ws) 4 ≡ w.partition = word_in ws 1 (omega arith) (omega arith) in
    let e2 : word_at (encoded ws) 8 ≡ w.begin = word_in ws 2 (omega arith) (omega arith) in
    let e3 : word_at (encoded ws) 12 ≡ w.end = word_in ws 3 (omega arith) (omega arith) in
    λ i. record { processor = e0 i; partition = e1 i; begin = e2 i; end = e3 i }

pub dependency_back : (d : Dimensions) (x : Dependency) → DimensionsFit d → DependencyFits d x → dependency_of (encoded (dependency_words x)) ≡ x
dependency_back d x limits fits =
    let ws : List ℕ = dependency_words x in
    let a = fits.source in let b = fits.destination in let e = fits.depth in let f = fits.transfer in
    let e0 : word_at (encoded ws) 0 ≡ x.source = word_in ws 0 (omega arith) (omega arith) in
    let e1 : word_at (encoded ws) 4 ≡ x.destination = word_in ws 1 (omega arith) (omega arith) in
    let e2 : word_at (encoded ws) 8 ≡ x.depth = word_in ws 2 (omega arith) (omega arith) in
    let e3 : word_at (encoded ws) 12 ≡ x.transfer = word_in ws 3 (omega arith) (omega arith) in
    λ i. record { source = e0 i; destination = e1 i; depth = e2 i; transfer = e3 i }

pub exclusion_back : (d : Dimensions) (x : Exclusion) → DimensionsFit d → ExclusionFits d x → exclusion_of (encoded (exclusion_words x)) ≡ x
exclusion_back d x limits fits =
    let ws : List ℕ = exclusion_words x in
    let a = fits.first in let b = fits.second in let e = fits.distance in
    let e0 : word_at (encoded ws) 0 ≡ x.first = word_in ws 0 (omega arith) (omega arith) in
    let e1 : word_at (encoded ws) 4 ≡ x.second = word_in ws 1 (omega arith) (omega arith) in
    let e2 : word_at (encoded ws) 8 ≡ x.distance = word_in ws 2 (omega arith) (omega arith) in
    λ i. record { first = e0 i; second = e1 i; distance = e2 i }

mark_back : (b : Bool) → eqb (mark b) 1 ≡ b
mark_back true = refl
mark_back false = refl

mark_small : (b : Bool) → mark b ≤ 1
mark_small true = omega arith
mark_small false = omega arith

deadline_back : (frame : ℕ) (o : Option ℕ) → frame ≤ 1000000 → DeadlineFits frame o → deadline_of (deadline_word o) ≡ o
deadline_back frame None small fits = refl
deadline_back frame (Some date) small fits =
    cond-false (eqb date 4294967295) None (Some date) (ne_eqb date 4294967295 (λ e. omega (arith, fits.1)))

deadline_small : (frame : ℕ) (o : Option ℕ) → frame ≤ 1000000 → DeadlineFits frame o → deadline_word o < 2 ^ 32
deadline_small frame None small fits = omega arith
deadline_small frame (Some date) small fits = omega (arith, fits.1)

-- the words of a task: four, and a duration for each processor
pub task_words_lem : (d : Dimensions) (t : Task) → DimensionsFit d → DurationsFit d t.durations → length (task_words d.processors t) ≡ 4 + d.processors
task_words_lem d t limits fits =
    let n : length (take d.processors t.durations) ≡ d.processors = length-take-le d.processors t.durations (omega (arith, fits.places, limits.1.1)) in
    omega arith

-- a duration that is written is read again, and an unused place is 0
duration_back : (d : Dimensions) (t : Task) → DimensionsFit d → DurationsFit d t.durations → (k : ℕ) → 4 * (4 + k) ≡ 16 + 4 * k → get_or (task_words d.processors t) (4 + k) 0 ≡ get_or (take d.processors t.durations) k 0 → duration_or (encoded (task_words d.processors t)) d.processors k ≡ get_or t.durations k 0
duration_back d t limits fits k place word =
    let ws : List ℕ = task_words d.processors t in
    let long = task_words_lem d t limits fits in
    ⊎_elim
    (λ (lt : k < d.processors).
    let value : get_or ws (4 + k) 0 ≡ get_or t.durations k 0 = word ∙ get_or-take d.processors t.durations k 0 lt in
    let small : get_or ws (4 + k) 0 < 2 ^ 32 = omega (arith, fits.given k lt, limits.0.1) in
    let here = lt-ltb k d.processors lt in
    rw (here, ← place, word_in ws (4 + k) (omega arith) small) value)
    (λ (le : d.processors ≤ k).
    let past = le-ltb k d.processors le in
    rw past (sym (fits.unused k le)))
    (cases_lt k d.processors)

pub task_back : (d : Dimensions) (t : Task) → DimensionsFit d → TaskFits d t → task_of d.processors (encoded (task_words d.processors t)) ≡ t
task_back d t limits fits =
    let ws : List ℕ = task_words d.processors t in
    let long = task_words_lem d t limits fits.durations in
    let a = fits.partition in let b = fits.release in
    let m = mark_small t.whole in
    let s = deadline_small d.frame t.deadline limits.0.1 fits.deadline in
    let e0 : word_at (encoded ws) 0 ≡ t.partition = word_in ws 0 (omega arith) (omega arith) in
    let e1 : word_at (encoded ws) 4 ≡ mark t.whole = word_in ws 1 (omega arith) (omega arith) in
    let e2 : word_at (encoded ws) 8 ≡ t.release = word_in ws 2 (omega arith) (omega arith) in
    let e3 : word_at (encoded ws) 12 ≡ deadline_word t.deadline = word_in ws 3 (omega arith) s in
    let whole : eqb (word_at (encoded ws) 4) 1 ≡ t.whole = ap (λ n. eqb n 1) e1 ∙ mark_back t.whole in
    let deadline : deadline_of (word_at (encoded ws) 12) ≡ t.deadline = ap deadline_of e3 ∙ deadline_back d.frame t.deadline limits.0.1 fits.deadline in
    let d0 = duration_back d t limits fits.durations 0 refl refl in
    let d1 = duration_back d t limits fits.durations 1 refl refl in
    let d2 = duration_back d t limits fits.durations 2 refl refl in
    let d3 = duration_back d t limits fits.durations 3 refl refl in
    let durations : (task_of d.processors (encoded ws)).durations ≡ t.durations = cc (four t.durations fits.durations.places) in
    λ i. record { partition = e0 i; whole = whole i; release = e2 i; deadline = deadline i; durations = durations i }

-- the mark that is written
pub mark_word : (d : Dimensions) (t : Task) → DimensionsFit d → TaskFits d t → word_at (encoded (task_words d.processors t)) 4 ≤ 1
mark_word d t limits fits =
    let ws : List ℕ = task_words d.processors t in
    let long = task_words_lem d t limits fits.durations in
    let m = mark_small t.whole in
    let e1 : word_at (encoded ws) 4 ≡ mark t.whole = word_in ws 1 (omega arith) (omega arith) in
    omega arith

-- what is read is written again

pub window_again : (bytes : List ℕ) → length bytes ≡ 16 → Octets bytes → bytes ≡ encoded (window_words (window_of bytes))
window_again bytes long small = bytes_of_words 4 bytes long small

pub dependency_again : (bytes : List ℕ) → length bytes ≡ 16 → Octets bytes → bytes ≡ encoded (dependency_words (dependency_of bytes))
dependency_again bytes long small = bytes_of_words 4 bytes long small

pub exclusion_again : (bytes : List ℕ) → length bytes ≡ 12 → Octets bytes → bytes ≡ encoded (exclusion_words (exclusion_of bytes))
exclusion_again bytes long small = bytes_of_words 3 bytes long small

mark_again : (n : ℕ) → n ≤ 1 → n ≡ mark (eqb n 1)
mark_again zero le = refl
mark_again (suc zero) le = refl
mark_again (suc (suc n)) le = absurd (omega arith)

deadline_again : (n : ℕ) → n ≡ deadline_word (deadline_of n)
deadline_again n = at (eqb n 4294967295) (eqb-true n 4294967295)
  where
    at : (b : Bool) → (b ≡ true → n ≡ 4294967295) → n ≡ deadline_word (cond b None (Some n))
    at true h = h refl
    at false h = refl

-- the durations that are read, for 1 to 4 processors
durations_again : (p : ℕ) (bytes : List ℕ) → 1 ≤ p → p ≤ 4 → map (λ k. word_at bytes (4 * k)) (range_with_len 4 p) ≡ take p (task_of p bytes).durations
durations_again zero bytes low high = absurd (omega arith)
durations_again (suc zero) bytes low high = refl
durations_again (suc (suc zero)) bytes low high = refl
durations_again (suc (suc (suc zero))) bytes low high = refl
durations_again (suc (suc (suc (suc zero)))) bytes low high = refl
durations_again (suc (suc (suc (suc (suc p))))) bytes low high = absurd (omega arith)

pub task_again : (p : ℕ) (bytes : List ℕ) → 1 ≤ p → p ≤ 4 → length bytes ≡ 16 + 4 * p → Octets bytes → word_at bytes 4 ≤ 1 → bytes ≡ encoded (task_words p (task_of p bytes))
task_again p bytes low high long small marked =
    let f : ℕ → ℕ = λ k. word_at bytes (4 * k) in
    let n : length bytes ≡ 4 * (4 + p) = omega arith in
    let four : 4 + p ≡ suc (suc (suc (suc p))) = omega arith in
    let m = mark_again (word_at bytes 4) marked in
    let e = deadline_again (word_at bytes 12) in
    let ds = durations_again p bytes low high in
    let words : word_at bytes 0 ∷ word_at bytes 4 ∷ word_at bytes 8 ∷ word_at bytes 12 ∷ map f (range_with_len 4 p) ≡ task_words p (task_of p bytes) = cc in
    bytes_of_words (4 + p) bytes n small ∙ ap (λ k. encoded (map f (range_with_len 0 k))) four ∙ ap encoded words
