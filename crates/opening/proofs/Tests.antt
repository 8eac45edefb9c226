-- The tests of the ranges hold exactly where the ranges do.
use Rattle.std.proofs.Common.{◌≡◌, ℕ, zero, suc, ◌<◌, ◌≤◌, Bool, true, leb, List, length, get_or, Some, None, Decides, Option, refl, arith}
use Rattle.std.proofs.lemmas.List.{get_or_past}
use Rattle.std.proofs.lemmas.Bool.{leb-true, le-leb}
use Rattle.std.proofs.lemmas.Bool.Decides.{nat_tests, Decides-and}
use Rattle.words.specs.Words.{word_at, read_at}
use Rattle.problem.specs.declared.dependency.Dependency.{Dependency}
use Rattle.problem.specs.declared.dimensions.Dimensions.{Dimensions}
use Rattle.problem.specs.declared.exclusion.Exclusion.{Exclusion}
use Rattle.problem.specs.declared.task.Task.{Task}
use Rattle.problem.specs.declared.window.Window.{Window}
use Rattle.problem.specs.Limits.{DeadlineFits, DurationsFit, TaskFits, WindowFits, DependencyFits, ExclusionFits, Follows}
use Rattle.problem_file.specs.declared.record.Item.{Item}
use Rattle.problem_file.specs.declared.record.Item.TheVariants.{Task as OfTask, Window as OfWindow, Dependency as OfDependency, Exclusion as OfExclusion}
use Rattle.problem_file.specs.Records.{Shown}
use Rattle.opening.specs.Ranges.{MarkFits, Fits, deadline_in_range, longest, task_in_range, window_in_range, dependency_in_range, exclusion_in_range, ItemFits, item_in_range, in_range, follows}

decides_window : (d : Dimensions) (w : Window) → Decides (window_in_range d w) (WindowFits d w)
decides_window d w = (
  λ e. record { processor = grind (arith, nat_tests); partition = grind (arith, nat_tests); some = grind (arith, nat_tests); end = grind (arith, nat_tests) },
  λ f. let a = f.processor in let b = f.partition in let c = f.some in let e = f.end in grind (arith, nat_tests),
)

decides_dependency : (d : Dimensions) (x : Dependency) → Decides (dependency_in_range d x) (DependencyFits d x)
decides_dependency d x = (
  λ e. record { source = grind (arith, nat_tests); destination = grind (arith, nat_tests); depth = grind (arith, nat_tests); transfer = grind (arith, nat_tests) },
  λ f. let a = f.source in let b = f.destination in let c = f.depth in let e = f.transfer in grind (arith, nat_tests),
)

decides_exclusion : (d : Dimensions) (x : Exclusion) → Decides (exclusion_in_range d x) (ExclusionFits d x)
decides_exclusion d x = (
  λ e. record { first = grind (arith, nat_tests); second = grind (arith, nat_tests); two = λ s. grind (arith, nat_tests); distance = grind (arith, nat_tests) },
  λ f. let a = f.first in let b = f.second in let c = f.two in let e = f.distance in grind (arith, nat_tests),
)

pub decides_follows : (v w : Window) → Decides (follows v w) (Follows v w)
decides_follows v w = (
  λ e. record { processors = grind (arith, nat_tests); apart = λ s. grind (arith, nat_tests) },
  λ f. let a = f.processors in let b = f.apart in grind (arith, nat_tests),
)

decides_deadline : (frame : ℕ) (o : Option ℕ) → Decides (deadline_in_range frame o) (DeadlineFits frame o)
decides_deadline frame None = (λ _. tt, λ _. refl)
decides_deadline frame (Some date) = (λ e. grind (arith, nat_tests), λ f. let a = f.0 in let b = f.1 in grind (arith, nat_tests))

-- one place of the durations is within its bound
abbrev short : Dimensions → List ℕ → ℕ → Bool
short d ds k = leb (get_or ds k 0) (longest d k)

-- the four places are all there are
short_from : (d : Dimensions) (ds : List ℕ) → length ds ≡ 4 → short d ds 0 ≡ true → short d ds 1 ≡ true → short d ds 2 ≡ true → short d ds 3 ≡ true → (k : ℕ) → get_or ds k 0 ≤ longest d k
short_from d ds four e0 e1 e2 e3 zero = leb-true (get_or ds 0 0) (longest d 0) e0
short_from d ds four e0 e1 e2 e3 (suc zero) = leb-true (get_or ds 1 0) (longest d 1) e1
short_from d ds four e0 e1 e2 e3 (suc (suc zero)) = leb-true (get_or ds 2 0) (longest d 2) e2
short_from d ds four e0 e1 e2 e3 (suc (suc (suc zero))) = leb-true (get_or ds 3 0) (longest d 3) e3
short_from d ds four e0 e1 e2 e3 (suc (suc (suc (suc k)))) =
    let past : get_or ds (suc (suc (suc (suc k)))) 0 ≡ 0 = get_or_past ds (suc (suc (suc (suc k)))) 0 (omega arith) in omega arith

durations_from : (d : Dimensions) (ds : List ℕ) → length ds ≡ 4 → ((k : ℕ) → get_or ds k 0 ≤ longest d k) → DurationsFit d ds
durations_from d ds four each =
    record { places = four; given = λ p lt. let h = each p in grind (arith, nat_tests); unused = λ p le. let h = each p in grind (arith, nat_tests) }

short_at : (d : Dimensions) (ds : List ℕ) → DurationsFit d ds → (k : ℕ) → short d ds k ≡ true
short_at d ds f k =
    let a : k < d.processors → get_or ds k 0 ≤ d.frame = f.given k in
    let b : d.processors ≤ k → get_or ds k 0 ≡ 0 = f.unused k in
    grind (arith, nat_tests)

decides_task : (d : Dimensions) (t : Task) → length t.durations ≡ 4 → Decides (task_in_range d t) (TaskFits d t)
decides_task d t four =
    let deadline = decides_deadline d.frame t.deadline in (
      λ e.
          let e0 : short d t.durations 0 ≡ true = grind (arith, nat_tests) in
          let e1 : short d t.durations 1 ≡ true = grind (arith, nat_tests) in
          let e2 : short d t.durations 2 ≡ true = grind (arith, nat_tests) in
          let e3 : short d t.durations 3 ≡ true = grind (arith, nat_tests) in
          record {
            partition = grind (arith, nat_tests);
            release = grind (arith, nat_tests);
            deadline = deadline.0 (grind (arith, nat_tests));
            durations = durations_from d t.durations four (short_from d t.durations four e0 e1 e2 e3);
          },
      λ f.
          let at = short_at d t.durations f.durations in
          let e0 = at 0 in let e1 = at 1 in let e2 = at 2 in let e3 = at 3 in
          let a = f.partition in let b = f.release in let x = deadline.1 f.deadline in
          grind (arith, nat_tests),
    )

-- a record that is long enough for what it says
abbrev pub Sized : List ℕ → Item → Type 0
Sized bytes (OfTask t) = (length t.durations ≡ 4) × (8 ≤ length bytes)
Sized bytes (OfWindow w) = Unit {0}
Sized bytes (OfDependency x) = Unit {0}
Sized bytes (OfExclusion x) = Unit {0}

pub decides_mark : (bytes : List ℕ) → 8 ≤ length bytes → Decides (leb (word_at bytes 4) 1) (MarkFits bytes)
decides_mark bytes long =
    let there : read_at bytes 4 ≡ Some (word_at bytes 4) = grind (arith, nat_tests) in
    (λ t. rw there (leb-true (word_at bytes 4) 1 t), λ f. le-leb (word_at bytes 4) 1 (rw there at f))

decides_item : (d : Dimensions) (bytes : List ℕ) (i : Item) → Sized bytes i → Decides (item_in_range d bytes i) (ItemFits d bytes i)
decides_item d bytes (OfTask t) long =
    Decides-and (leb (word_at bytes 4) 1) (task_in_range d t) (decides_mark bytes long.1) (decides_task d t long.0)
decides_item d bytes (OfWindow w) long = decides_window d w
decides_item d bytes (OfDependency x) long = decides_dependency d x
decides_item d bytes (OfExclusion x) long = decides_exclusion d x

pub decides_shown : (d : Dimensions) (x : Shown) → Sized x.bytes x.item → Decides (in_range d x) (Fits d x)
decides_shown d x long = decides_item d x.bytes x.item long
