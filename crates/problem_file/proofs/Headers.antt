-- A header is read exactly where the kind, the counts and the layout are right.
use Rattle.std.proofs.Common.{◌≡◌, ℕ, ◌≤◌, Bool, true, false, cond, not, ◌||◌, eqb, ltb, List, length, Ok, Err, Decides, refl, ap, ◌∙◌, subst, arith}
use Rattle.std.proofs.lemmas.Bool.Decides.{nat_tests}
use Rattle.words.specs.Words.{word_at}
use Rattle.problem_file.specs.declared.counts.Counts.{Counts}
use Rattle.problem_file.specs.declared.fault.FileFault.TheVariants.{Kind, Count, Layout}
use Rattle.problem_file.specs.declared.layout.Section.TheVariants.{Tasks, Windows, Dependencies, Exclusions}
use Rattle.problem_file.specs.Header.{counts_in_range, header_of, laid_out, stated_counts}
use Rattle.problem_file.specs.Layout.{CountsFit, start, file_end}

-- a file whose form is right, with the numbers that its header states
pub record Formed (file : List ℕ) (c : Counts) : Type 0 where
  pub stated : stated_counts file ≡ c
  pub long : 48 ≤ length file
  pub kind : word_at file 0 ≡ 1
  pub counts : CountsFit c
  pub tasks : word_at file 32 ≡ start c Tasks
  pub windows : word_at file 36 ≡ start c Windows
  pub dependencies : word_at file 40 ≡ start c Dependencies
  pub exclusions : word_at file 44 ≡ start c Exclusions
  pub ends : length file ≡ file_end c

granted : (a b d : Bool) (g h : Counts) → cond a (Err Kind) (cond (not b) (Err Count) (cond (not d) (Err Layout) (Ok g))) ≡ Ok h → (a ≡ false) × (b ≡ true) × (d ≡ true) × (g ≡ h)
granted true b d g h e = cc
granted false false d g h e = cc
granted false true false g h e = cc
granted false true true g h e = (refl, refl, refl, cc)

counts_fit : (c : Counts) → Decides (counts_in_range c) (CountsFit c)
counts_fit c = (
  λ e. ((grind (arith, nat_tests), grind (arith, nat_tests), grind (arith, nat_tests), grind (arith, nat_tests)), grind (arith, nat_tests), grind (arith, nat_tests), grind (arith, nat_tests)),
  λ f. let a = f.0.0 in let b = f.0.1 in let d = f.0.2 in let e = f.0.3 in let g = f.1 in let h = f.2 in let i = f.3 in grind (arith, nat_tests),
)

formed_at : (file : List ℕ) → (ltb (length file) 48 || not (eqb (word_at file 0) 1)) ≡ false → counts_in_range (stated_counts file) ≡ true → laid_out file (stated_counts file) ≡ true → Formed file (stated_counts file)
formed_at file kind counts laid =
    record {
      stated = refl;
      long = grind (arith, nat_tests);
      kind = grind (arith, nat_tests);
      counts = (counts_fit (stated_counts file)).0 counts;
      tasks = grind (arith, nat_tests);
      windows = grind (arith, nat_tests);
      dependencies = grind (arith, nat_tests);
      exclusions = grind (arith, nat_tests);
      ends = grind (arith, nat_tests);
    }

pub formed : (file : List ℕ) (c : Counts) → header_of file ≡ Ok c → Formed file c
formed file c e =
    let g = granted (ltb (length file) 48 || not (eqb (word_at file 0) 1)) (counts_in_range (stated_counts file)) (laid_out file (stated_counts file)) (stated_counts file) c e in
    subst (Formed file) g.3 (formed_at file g.0 g.1 g.2)

pub header_from : (file : List ℕ) (c : Counts) → Formed file c → header_of file ≡ Ok c
header_from file c f =
    let kind : (ltb (length file) 48 || not (eqb (word_at file 0) 1)) ≡ false = let a = f.long in let b = f.kind in grind (arith, nat_tests) in
    let counts : counts_in_range (stated_counts file) ≡ true = ap counts_in_range f.stated ∙ (counts_fit c).1 f.counts in
    let laid-c : laid_out file c ≡ true =
    let a = f.tasks in let b = f.windows in let d = f.dependencies in let e = f.exclusions in let g = f.ends in grind (arith, nat_tests) in
    let laid : laid_out file (stated_counts file) ≡ true = ap (laid_out file) f.stated ∙ laid-c in
    rw (kind, counts, laid) (ap Ok f.stated)
