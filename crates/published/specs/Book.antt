use Rattle.piles.specs.Pair.{paired}
use Rattle.rules.specs.Meaning.{Meaning}
use Rattle.task_rules.specs.Meanings.{allocation_rule, duration_rule, whole_rule, release_rule, deadline_rule}
use Rattle.window_rule.specs.Windows.{window_rule}
use Rattle.dependency_rule.specs.Dependencies.{dependency_rule}
use Rattle.overlap_rule.specs.Overlaps.{overlap_rule}

infixl 20 ◌then◌
-- a rule, and the next one after it
abbrev pub ◌then◌ : Meaning → Meaning → Meaning
first then second = paired first second

-- the published book: the eight rules, paired in this order
abbrev pub published_book : Meaning
published_book = allocation_rule then duration_rule then whole_rule then window_rule then release_rule then deadline_rule then dependency_rule then overlap_rule
