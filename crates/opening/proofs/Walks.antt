-- A walk through the records that stops at the first with a field outside its range.
use Rattle.std.proofs.Common.{◌≡◌, ℕ, ◌+◌, Bool, true, false, not, List, [], ◌∷◌, length, drop, Some, None, Decides, Option, sym, refl, ap, ◌∙◌, subst, arith, Bor, length-drop}
use Rattle.std.proofs.lemmas.List.{length-take-le}
use Rattle.std.proofs.lemmas.Bool.Decides.{same_from_decides}
use Rattle.std.specs.Fn.{Called, Mut}
use Rattle.std.specs.Iterator.{Yields, FindsPosition}
use Rattle.std.specs.List.{FoldsTo}
use Rattle.problem_file.proofs.Shows.{there}
use Rattle.problem_file.proofs.Standing.{Standing, standing_at, standing_shows, standing_more, standing_end, shown_inside}
use Rattle.problem_file.specs.declared.counts.Counts.{Counts}
use Rattle.problem_file.specs.declared.header.Header.{Header}
use Rattle.problem_file.specs.declared.layout.Section.{Section}
use Rattle.problem_file.specs.declared.layout.Section.TheVariants.{Tasks, Windows, Dependencies, Exclusions}
use Rattle.problem_file.specs.declared.reader.Reader.{Reader}
use Rattle.problem_file.specs.declared.record.Record.{Record}
use Rattle.problem_file.specs.Layout.{total, size, section_of, file_end, record_at, record_bytes}
use Rattle.problem_file.specs.Reader.{standing, Reads}
use Rattle.problem_file.specs.Records.{Shown, item_of, record_in, shown}
use Rattle.opening.specs.Opened.{lowest, misfit, outside}
use Rattle.opening.specs.Ranges.{Fits, in_range}
use Rattle.opening.proofs.Lowest.{lowest_none, lowest_more, lowest_found}
use Rattle.opening.proofs.Tests.{Sized, decides_shown}

sized_reading : (c : Counts) (s : Section) (bytes : List ℕ) → length bytes ≡ size c s → Sized bytes (item_of c.dimensions.processors s bytes)
sized_reading c Tasks bytes e = (refl, omega arith)
sized_reading c Windows bytes e = tt
sized_reading c Dependencies bytes e = tt
sized_reading c Exclusions bytes e = tt

-- a record that is shown has all its bytes
pub sized : (c : Counts) (file : List ℕ) (i : ℕ) (x : Shown) → record_in c file i ≡ Some x → Sized x.bytes x.item
sized c file i x e =
    let t = there c file i (section_of c i) x e in
    let long : length (record_bytes c file t.section i) ≡ size c t.section =
    length-take-le (size c t.section) (drop (record_at c t.section i) file) (simp length-drop (omega (arith, t.within))) in
    subst (λ (y : Shown). Sized y.bytes y.item) (sym t.value) (sized_reading c t.section (record_bytes c file t.section i) long)

-- what the test of a record that is shown says of the file
misfit_is : (c : Counts) (file : List ℕ) (i : ℕ) (x : Shown) (fits : Bool) → record_in c file i ≡ Some x → Decides fits (Fits c.dimensions x) → misfit c file i ≡ not fits
unfolding misfit
misfit_is c file i x fits e tested =
    ap (outside c) e ∙ ap not (same_from_decides (in_range c.dimensions x) fits (decides_shown c.dimensions x (sized c file i x e)) tested)

-- no record before the reader's position has a field outside its range
pub record Walked (c : Counts) (file : List ℕ) (r : Reader) : Type 0 where
  pub stands : Standing c file r
  pub none : lowest (misfit c file) r.position ≡ None

-- at first, none is before it
walked_none : (file : Bor (List ℕ)) (header : Header) (r : Reader) → r ≡ standing file header 0 → Walked header.counts file.now r
walked_none file header r is =
    record {
      stands = standing_at file header 0 r is (omega arith);
      none = ap (λ x. lowest (misfit header.counts file.now) x.position) is ∙ lowest_none (misfit header.counts file.now);
    }

-- a closure that says whether a record has a field outside its range, and stays as it is
abbrev pub Tests : {F : Type 0} → Mut F (Record × Unit {0}) Bool → F → Counts → Type 0
Tests {F} g f c = (x : Record) (b : Bool) (h : F) → Called g f (x, tt) b h → (h ≡ f) × Decides (not b) (Fits c.dimensions (shown x))

-- the records that it passes over take the walk on
walked_along : {F : Type 0} (g : Mut F (Record × Unit {0}) Bool) (f h : F) (c : Counts) (file : List ℕ) (r t : Reader) (xs : List Record) → Tests g f c → Walked c file r → Yields Reads r xs t → FoldsTo (λ p x q. Called g p (x, tt) false q) f xs h → Walked c file t × (t.position ≡ r.position + length xs) × (h ≡ f)
walked_along g f h c file r t [] tests w same stays =
    (subst (Walked c file) same w, omega (arith, ap (λ u. u.position) same), sym stays)
walked_along {F} g f h c file r t (x ∷ xs) tests w yields calls =
    let next = yields.0 in
    let reads = yields.1 in
    let here = tests x false calls.0 calls.1 in
    let passes = misfit_is c file r.position (shown x) true (standing_shows c file r next (Some x) w.stands reads) here.1 in
    let on : Walked c file next = record {
      stands = standing_more c file r next x w.stands reads;
      none = ap (lowest (misfit c file)) reads.step.position ∙ lowest_more (misfit c file) r.position w.none passes;
    } in
    let rest = walked_along g calls.0 h c file next t xs (subst (λ (q : F). Tests g q c) (sym here.0) tests) on yields.2 calls.2 in
    (rest.0, omega (arith, rest.1, reads.step.position), rest.2 ∙ here.0)

-- the first record that it finds is the lowest, and where it finds none there is none
pub position_is_lowest : {F : Type 0} (g : Mut F (Record × Unit {0}) Bool) (f : F) (file : Bor (List ℕ)) (header : Header) (r u : Reader) (found : Option ℕ) → length file.now ≡ file_end header.counts → r ≡ standing file header 0 → Tests g f header.counts → FindsPosition Reads g r f found u → found ≡ lowest (misfit header.counts file.now) (total header.counts)
position_is_lowest {F} g f file header r u found whole is tests (xs, None, h, yields, calls, none) =
    let c = header.counts in
    let w = walked_along g f h c file.now r yields.0 xs tests (walked_none file header r is) yields.1 calls in
    none ∙ sym (ap (lowest (misfit c file.now)) (sym (standing_end c file.now yields.0 u whole w.0.stands yields.2)) ∙ w.0.none)
position_is_lowest {F} g f file header r u found whole is tests (xs, Some x, h, yields, calls, hit) =
    let c = header.counts in
    let t = yields.0 in
    let w = walked_along g f h c file.now r t xs tests (walked_none file header r is) yields.1 calls in
    let here = subst (λ (q : F). Tests g q c) (sym w.2) tests x true hit.1.0 hit.1.1 in
    let shows = standing_shows c file.now t u (Some x) w.0.stands yields.2 in
    let fails = misfit_is c file.now t.position (shown x) false shows here.1 in
    let first : length xs ≡ t.position = omega (arith, w.1, ap (λ q. q.position) is) in
    hit.0 ∙ ap Some first ∙ sym (lowest_found (misfit c file.now) t.position (total c) w.0.none fails (shown_inside c file.now t.position (shown x) shows))
