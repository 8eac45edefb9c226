use Rattle.std.proofs.Common.{◌≡◌, ℕ, Some, None, Option, IsSomeAnd, MatchOption, rules}
use Rattle.problem.specs.Limits.{Model}
use Rattle.rules.specs.declared.label.Label.{Label}
use Rattle.rules.specs.Meaning.{label_of}
use Rattle.rules.specs.Search.{Found}
use Rattle.table.specs.Rows.{Rows}
use Rattle.table.specs.Shape.{Shaped}
use Rattle.table.specs.Table.{problem_of, rows_of}
use Rattle.table.proofs.Known.{knows}
use Rattle.published.specs.Book.{published_book}
use Rattle.published.specs.Found.{FoundLabel}
use Rattle.published.proofs.Exactly.{exactly, meets, suffices}
use Rattle.published.proofs.judge.first_broken_label.Goals as goal

-- the label of the place that was found, which `Says` says it is
labelled : (p : Model) (rows : Rows) → Shaped p rows → (Says : ℕ → Label → Type 0) → ((k : ℕ) (label : Label) → Says k label → label ≡ label_of published_book p k) →
    (place : Option ℕ) (label : Option Label) → Found published_book p rows place → MatchOption place (label ≡ None) (λ k. IsSomeAnd label (Says k)) → FoundLabel p rows label
labelled p rows s Says tells None None lawful e = meets p rows lawful
labelled p rows s Says tells None (Some label) lawful e = absurd (cc)
labelled p rows s Says tells (Some k) None first said = absurd said
labelled p rows s Says tells (Some k) (Some label) first said = ((k, tells k label said, first), λ met. first.broken.1 ((suffices p rows s met).keeps k first.broken.0))

pub returns : goal.returns
returns c =
    let t = c.args.table.now in
    record {
      found = labelled (problem_of t) (rows_of t) (knows t) _ (λ k label said. search rules) c.first_broken.result c.map.result c.first_broken.ensures.found c.map.ensures.cases;
      exactly = exactly (problem_of t);
    }
