-- A file that passes every check states a problem within its limits.
use Rattle.std.proofs.Common.{◌≡◌, ℕ, zero, suc, ◌+◌, ◌<◌, ◌≤◌, false, not, List, map, length, None, sym, ap, ◌∙◌, arith}
use Rattle.std.proofs.lemmas.List.FromFn.{length-map-range_with_len}
use Rattle.std.proofs.lemmas.Bool.{not-false}
use Rattle.std.specs.List.{range_with_len, AllByRecursion}
use Rattle.problem.specs.Limits.{Within, TaskFits, WindowFits, DependencyFits, ExclusionFits}
use Rattle.problem_file.proofs.Headers.{Formed}
use Rattle.problem_file.proofs.Places.{Inside, inside_total, record_there}
use Rattle.problem_file.specs.declared.counts.Counts.{Counts}
use Rattle.problem_file.specs.declared.layout.Section.{Section}
use Rattle.problem_file.specs.declared.layout.Section.TheVariants.{Tasks, Windows, Dependencies, Exclusions}
use Rattle.problem_file.specs.Layout.{count, first, total, file_end, record_bytes}
use Rattle.problem_file.specs.Records.{Shown, reading}
use Rattle.opening.specs.Opened.{lowest, misfit, outside, misplaced, stated, task_in, window_in, dependency_in, exclusion_in}
use Rattle.opening.specs.Ranges.{Fits, in_range}
use Rattle.opening.proofs.Lowest.{each_fails}
use Rattle.opening.proofs.Ordered.{in_order}
use Rattle.opening.proofs.Tests.{decides_shown}
use Rattle.opening.proofs.Walks.{sized}

-- what holds at each number from `a` on holds of the list
all_counted : {X : Type 0} (P : X → Type 0) (f : ℕ → X) (a n : ℕ) → ((i : ℕ) → a ≤ i → i < a + n → P (f i)) → AllByRecursion P (map f (range_with_len a n))
all_counted P f a zero each = tt
all_counted P f a (suc n) each =
    (each a (omega arith) (omega arith), all_counted P f (a + 1) n (λ i low high. each i (omega arith) (omega arith)))

-- no record has a field outside its range
pub fits_each : (c : Counts) (file : List ℕ) → length file ≡ file_end c → lowest (misfit c file) (total c) ≡ None → (s : Section) (i : ℕ) → Inside c s i → Fits c.dimensions (reading c.dimensions.processors s (record_bytes c file s i))
unfolding misfit
fits_each c file whole none s i h =
    let x : Shown = reading c.dimensions.processors s (record_bytes c file s i) in
    let there = record_there c file i s whole h in
    let passes : not (in_range c.dimensions x) ≡ false = ap (outside c) (sym there) ∙ each_fails (misfit c file) (total c) none i (inside_total c i s h) in
    (decides_shown c.dimensions x (sized c file i x there)).0 (not-false (in_range c.dimensions x) passes)

pub stated_within : (c : Counts) (file : List ℕ) → Formed file c → lowest (misfit c file) (total c) ≡ None → lowest (misplaced (stated c file).windows) (length (stated c file).windows) ≡ None → Within (stated c file)
unfolding stated
stated_within c file formed fits order =
    let d = c.dimensions in
    let each = fits_each c file formed.ends fits in
    let tasks = length-map-range_with_len (task_in c file) (first c Tasks) (count c Tasks) in
    let windows = length-map-range_with_len (window_in c file) (first c Windows) (count c Windows) in
    let dependencies = length-map-range_with_len (dependency_in c file) (first c Dependencies) (count c Dependencies) in
    let exclusions = length-map-range_with_len (exclusion_in c file) (first c Exclusions) (count c Exclusions) in
    let fit = all_counted (WindowFits d) (window_in c file) (first c Windows) (count c Windows) (λ i low high. each Windows i (record { low = low; high = high })) in
    record {
      dimensions = formed.counts.0;
      task_count = tasks;
      window_count = omega (arith, windows, formed.counts.1);
      dependency_count = omega (arith, dependencies, formed.counts.2);
      exclusion_count = omega (arith, exclusions, formed.counts.3);
      tasks = all_counted (TaskFits d) (task_in c file) (first c Tasks) (count c Tasks) (λ i low high. (each Tasks i (record { low = low; high = high })).1);
      windows = fit;
      dependencies = all_counted (DependencyFits d) (dependency_in c file) (first c Dependencies) (count c Dependencies) (λ i low high. each Dependencies i (record { low = low; high = high }));
      exclusions = all_counted (ExclusionFits d) (exclusion_in c file) (first c Exclusions) (count c Exclusions) (λ i low high. each Exclusions i (record { low = low; high = high }));
      order = in_order d (map (window_in c file) (range_with_len (first c Windows) (count c Windows))) fit order;
    }
