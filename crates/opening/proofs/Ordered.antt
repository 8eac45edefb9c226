-- The windows' order: what it says window by window, and a walk that stops at the first window out of place.
use Rattle.std.proofs.Common.{◌≡◌, ℕ, zero, suc, ◌+◌, ◌-◌, ◌<◌, ◌≤◌, true, false, List, length, get_or, Some, None, Option, sym, refl, ap, ◌∙◌, subst, ⊎_elim, add-one, arith, Bor}
use Rattle.std.proofs.lemmas.List.FromFn.{length-map-range_with_len, get_or-map-range_with_len}
use Rattle.std.proofs.lemmas.List.{get_or_default}
use Rattle.std.proofs.lemmas.Bool.{cases_lt, not-false, not_from_true}
use Rattle.std.proofs.lemmas.List.Elements.{All-from_recursion}
use Rattle.std.specs.Option.{option_map}
use Rattle.std.specs.List.{AllByRecursion}
use Rattle.problem.specs.declared.window.Window.{Window}
use Rattle.problem.specs.declared.dimensions.Dimensions.{Dimensions}
use Rattle.problem.specs.Limits.{Follows, InOrder, WindowFits}
use Rattle.problem_file.proofs.Places.{Inside, inside, record_there}
use Rattle.problem_file.proofs.Shows.{there}
use Rattle.problem_file.proofs.Standing.{Standing, standing_at, standing_shows, standing_more}
use Rattle.problem_file.specs.declared.counts.Counts.{Counts}
use Rattle.problem_file.specs.declared.header.Header.{Header}
use Rattle.problem_file.specs.declared.layout.Section.{Section}
use Rattle.problem_file.specs.declared.layout.Section.TheVariants.{Tasks, Windows, Dependencies, Exclusions}
use Rattle.problem_file.specs.declared.reader.Reader.{Reader}
use Rattle.problem_file.specs.declared.record.Record.{Record}
use Rattle.problem_file.specs.declared.record.Item.TheVariants.{Window as OfWindow}
use Rattle.problem_file.specs.Layout.{count, first, file_end, section_of, record_bytes}
use Rattle.problem_file.specs.Reader.{standing, Reads}
use Rattle.problem_file.specs.Records.{Shown, item_of, shown}
use Rattle.opening.specs.declared.fault.ProblemFault.TheVariants.{Order}
use Rattle.problem.specs.Lookup.{no_window}
use Rattle.opening.specs.Opened.{lowest, misplaced, window_before, out_of_place, stated, window_in, order_fault}
use Rattle.opening.specs.Ranges.{follows}
use Rattle.opening.proofs.Lowest.{lowest_none, lowest_more, lowest_found, lowest_none_from, each_fails}
use Rattle.opening.proofs.Tests.{decides_follows}

-- windows in order are not misplaced
pub none_misplaced : (ws : List Window) → InOrder ws → lowest (misplaced ws) (length ws) ≡ None
unfolding misplaced
none_misplaced ws order = lowest_none_from (misplaced ws) (length ws) at
  where
    at : (k : ℕ) → k < length ws → misplaced ws k ≡ false
    at zero lt = refl
    at (suc k) lt =
        not_from_true (follows (get_or ws k no_window) (get_or ws (suc k) no_window)) ((decides_follows (get_or ws k no_window) (get_or ws (suc k) no_window)).1 (order k (suc k) no_window (omega arith) lt))

-- where none is misplaced, each window follows the one before it
neighbours : (ws : List Window) → lowest (misplaced ws) (length ws) ≡ None → (k : ℕ) (v : Window) → suc k < length ws → Follows (get_or ws k v) (get_or ws (suc k) v)
unfolding misplaced
neighbours ws none k v lt =
    let passes = each_fails (misplaced ws) (length ws) none (suc k) lt in
    let holds = (decides_follows (get_or ws k no_window) (get_or ws (suc k) no_window)).0 (not-false (follows (get_or ws k no_window) (get_or ws (suc k) no_window)) passes) in
    rw (get_or_default ws (suc k) no_window v lt, get_or_default ws k no_window v (omega arith)) at holds

-- what follows a window with a tick follows what that window follows
then_follows : (u v w : Window) → v.begin < v.end → Follows u v → Follows v w → Follows u w
then_follows u v w some a b =
    record {
      processors = omega (arith, a.processors, b.processors);
      apart = λ same.
          let p : u.processor ≡ v.processor = omega (arith, a.processors, b.processors) in
          let q : v.processor ≡ w.processor = omega (arith, a.processors, b.processors) in
          omega (arith, a.apart p, b.apart q);
    }

-- so each follows every one before it
pub in_order : (d : Dimensions) (ws : List Window) → AllByRecursion (WindowFits d) ws → lowest (misplaced ws) (length ws) ≡ None → InOrder ws
in_order d ws fit none i j v lt below =
    let far : i + suc (j - i - 1) ≡ j = omega arith in
    subst (λ (k : ℕ). Follows (get_or ws i v) (get_or ws k v)) far (steps (j - i - 1) (omega arith))
  where
    steps : (n : ℕ) → i + suc n < length ws → Follows (get_or ws i v) (get_or ws (i + suc n) v)
    steps zero lt =
        let one : suc i ≡ i + 1 = omega arith in
        subst (λ (k : ℕ). Follows (get_or ws i v) (get_or ws k v)) one (neighbours ws none i v (omega arith))
    steps (suc n) lt =
        let next : suc (i + suc n) ≡ i + suc (suc n) = omega arith in
        let some = (All-from_recursion (WindowFits d) ws fit (i + suc n) v (omega arith)).some in
        let last = subst (λ (k : ℕ). Follows (get_or ws (i + suc n) v) (get_or ws k v)) next (neighbours ws none (i + suc n) v (omega arith)) in
        then_follows (get_or ws i v) (get_or ws (i + suc n) v) (get_or ws (i + suc (suc n)) v) some (steps n (omega arith)) last

-- the windows that the file states, by their number in the list
windows_long : (c : Counts) (file : List ℕ) → length (stated c file).windows ≡ c.windows
unfolding stated
windows_long c file = length-map-range_with_len (window_in c file) (first c Windows) (count c Windows)

window_stated : (c : Counts) (file : List ℕ) (k : ℕ) → k < c.windows → get_or (stated c file).windows k no_window ≡ window_in c file (first c Windows + k)
unfolding stated
window_stated c file k lt =
    get_or-map-range_with_len (window_in c file) (first c Windows) (count c Windows) k (first c Windows + k) no_window lt refl

-- a window that is shown is the file's
window_shown : (c : Counts) (file : List ℕ) (i : ℕ) (s : Section) (w : Window) → OfWindow w ≡ item_of c.dimensions.processors s (record_bytes c file s i) → Inside c s i → Inside c Windows i × (w ≡ window_in c file i)
window_shown c file i Tasks w e h = cc
window_shown c file i Windows w e h = (h, cc)
window_shown c file i Dependencies w e h = cc
window_shown c file i Exclusions w e h = cc

-- the reader stands at window `k` of the list, none before it is out of place, and `before` is the one before it
pub record Ordered (c : Counts) (file : List ℕ) (r : Reader) (k : ℕ) (before : Option Window) : Type 0 where
  pub stands : Standing c file r
  pub here : r.position ≡ first c Windows + k
  pub bound : k ≤ c.windows
  pub last : before ≡ window_before (stated c file).windows k
  pub none : lowest (misplaced (stated c file).windows) k ≡ None

-- a window that the reader shows is window `k`
window_read : (c : Counts) (file : List ℕ) (r t : Reader) (k : ℕ) (before : Option Window) (x : Record) (w : Window) → Ordered c file r k before → Reads r (Some x) t → x.item ≡ OfWindow w → (k < c.windows) × (get_or (stated c file).windows k no_window ≡ w)
window_read c file r t k before x w o reads is =
    let at = there c file r.position (section_of c r.position) (shown x) (standing_shows c file r t (Some x) o.stands reads) in
    let same = window_shown c file r.position at.section w (sym is ∙ ap (λ y. y.item) at.value) (inside c r.position at.section at.stands) in
    let lt : k < c.windows = omega (arith, same.0.high, o.here) in
    (lt, window_stated c file k lt ∙ ap (window_in c file) (sym o.here) ∙ sym same.1)

-- what the test of that window says of the list
placed_is : (c : Counts) (file : List ℕ) (r : Reader) (k : ℕ) (before : Option Window) (w : Window) → Ordered c file r k before → get_or (stated c file).windows k no_window ≡ w → misplaced (stated c file).windows k ≡ out_of_place before w
unfolding misplaced
placed_is c file r k before w o is = rw (← o.last, is)

-- at the first window, none is before it
pub ordered_none : (file : Bor (List ℕ)) (header : Header) (r : Reader) → r ≡ standing file header (first header.counts Windows) → Ordered header.counts file.now r 0 None
ordered_none file header r is =
    record {
      stands = standing_at file header (first header.counts Windows) r is (omega arith);
      here = ap (λ x. x.position) is ∙ omega arith;
      bound = omega arith;
      last = refl;
      none = lowest_none (misplaced (stated header.counts file.now).windows);
    }

-- a window in its place takes the walk on
pub ordered_more : (c : Counts) (file : List ℕ) (r t : Reader) (k : ℕ) (before : Option Window) (x : Record) (w : Window) → Ordered c file r k before → Reads r (Some x) t → x.item ≡ OfWindow w → out_of_place before w ≡ false → Ordered c file t (k + 1) (Some w)
ordered_more c file r t k before x w o reads is passes =
    let at = window_read c file r t k before x w o reads is in
    let ws = (stated c file).windows in
    record {
      stands = standing_more c file r t x o.stands reads;
      here = omega (arith, reads.step.position, o.here);
      bound = omega (arith, at.0);
      last = ap Some (sym at.1) ∙ ap (window_before ws) (sym (add-one k));
      none = lowest_more (misplaced ws) k o.none (placed_is c file r k before w o at.1 ∙ passes);
    }

-- the first window out of its place is the lowest
pub ordered_found : (c : Counts) (file : List ℕ) (r t : Reader) (k : ℕ) (before : Option Window) (x : Record) (w : Window) → Ordered c file r k before → Reads r (Some x) t → x.item ≡ OfWindow w → out_of_place before w ≡ true → Some (Order (first c Windows + k)) ≡ order_fault c (stated c file).windows
ordered_found c file r t k before x w o reads is fails =
    let at = window_read c file r t k before x w o reads is in
    let ws = (stated c file).windows in
    ap (option_map (λ n. Order (first c Windows + n))) (sym (lowest_found (misplaced ws) k (length ws) o.none (placed_is c file r k before w o at.1 ∙ fails) (omega (arith, at.0, windows_long c file))))

-- the reader shows no window
abbrev pub NoWindow : Option Shown → Type 0
NoWindow None = Unit {0}
NoWindow (Some x) = (w : Window) → x.item ≡ OfWindow w → ⊥

-- where it shows none, all windows have been shown, and each is in its place
pub ordered_end : (c : Counts) (file : List ℕ) (r t : Reader) (k : ℕ) (before : Option Window) (o : Option Record) → length file ≡ file_end c → Ordered c file r k before → Reads r o t → NoWindow (option_map shown o) → None ≡ order_fault c (stated c file).windows
ordered_end c file r t k before o whole w reads other =
    let ws = (stated c file).windows in
    ⊎_elim
    (λ (lt : k < c.windows).
    let h : Inside c Windows r.position = record { low = omega (arith, w.here); high = omega (arith, w.here) } in
    let shows = sym (record_there c file r.position Windows whole h) ∙ standing_shows c file r t o w.stands reads in
    absurd (subst NoWindow (sym shows) other _ refl))
    (λ (le : c.windows ≤ k).
    let all : k ≡ length ws = omega (arith, w.bound, windows_long c file) in
    ap (option_map (λ n. Order (first c Windows + n))) (sym (ap (lowest (misplaced ws)) (sym all) ∙ w.none)))
    (cases_lt k c.windows)
