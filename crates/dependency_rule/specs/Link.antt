use Rattle.std.specs.Prelude.{◌≡◌, ℕ, ◌<◌, length, Some, None, Option}
use Rattle.problem.specs.Limits.{Model}
use Rattle.problem.specs.Lookup.{dependency_at}
use Rattle.table.specs.Row.{row_model}
use Rattle.table.specs.Rows.{Rows, row_at}
use Rattle.rules.specs.Judged.{Keeps}
use Rattle.dependency_rule.specs.declared.link.Link.{Link}
use Rattle.dependency_rule.specs.Dependencies.{dependency_rule}

-- dependency `d` of the problem, with the rows of its tasks
pub record LinkOf (p : Model) (rows : Rows) (d : ℕ) (link : Link) : Type 0 where
  pub known : d < length p.dependencies
  pub dependency : link.dependency ≡ dependency_at p d
  pub from : row_at rows (dependency_at p d).source ≡ Some (row_model link.from)
  pub to : row_at rows (dependency_at p d).destination ≡ Some (row_model link.to)

-- the same, or nothing where the place of the dependency is kept for want of it or of a row
abbrev pub LinkAt : Model → Rows → ℕ → Option Link → Type 0
LinkAt p rows d None = Keeps dependency_rule p rows d
LinkAt p rows d (Some link) = LinkOf p rows d link
